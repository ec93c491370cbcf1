-- `index::pack_rule` meets its contract: four bytes, of which the rule is read again.
-- Assumes nothing.
use Rattle.records.specs.Record.{as_rec}
use Rattle.index.proofs.Packing.{written_size, packed_next}
use Rattle.index.proofs.pack_rule.Goals as goal

pub returns : goal.returns
returns c =
    let start = c in
    let q = as_rec start.args.q in
    let old = start.args.packed.now in
    let x = c.byte_of.result in
    let y = c.byte_of-2.result in
    let z = c.byte_of-3.result in record {
      packed_len_2 = written_size q old start.requires.packed_len start.args.m start.requires.m_bound x y z;
      m_after = packed_next q old start.requires.packed_len start.args.m start.requires.m_bound x y z start.requires.q_value
          c.byte_of.ensures c.byte_of-2.ensures c.byte_of-3.ensures;
    }
