-- The boxes of the queue are taken one after the other: a rule waits for those that are left at most, and at last for none.
-- Assumes nothing.
use mathlib.Core.Path.{◌≡◌, sym, subst, ◌∙◌}
use mathlib.Core.Logic.{⊎_elim}
use mathlib.Core.List.{List}
use Prim.Native.Nat.{ℕ, ◌+◌, ◌<◌}
use native.Mathlib.Omega.{arith}
use native.Mathlib.Decide.{ℕ_discrete}
use lib.ListN.{length, get_or, replicate}
use Rattle.spec.specs.Records.{Rec}
use Rattle.engine.specs.Moves.{Cells, AllStable}
use Rattle.index.specs.Whole.{Indexed}
use Rattle.index.specs.declared.Index.{Index}
use Rattle.index.proofs.Packing.{packed_own}
use Rattle.engine.specs.Queue.{rules_of, Lent, Poised, HasBox, NamesBox, Waits, rests, named, AllWait, VisitedTo}
use Rattle.theory.proofs.Measure.{open_within, open_fewer}
use Rattle.engine.proofs.Queueing.{has_later}
use Rattle.engine.proofs.Settled.{cells_read}
use Rattle.engine.proofs.Waiting.{stable_waits, waits_from}

module _ {qs : List Rec} {t queue : List ℕ} {head tail : ℕ} (waits : AllWait qs t queue head tail) where
  pub drain_step : {u queue' : List ℕ} {tail' : ℕ} → head < tail → VisitedTo qs (get_or queue head 0) t u queue queue' tail tail' →
      AllWait qs u queue' (head + 1) tail'
  drain_step {u} {queue'} {tail'} below visited q m = at (waits q m)
    where
      -- what was settled since, as a longer part
      longer : Waits q u queue' tail tail' → Waits q u queue' (head + 1) tail'
      longer = waits_from q (head + 1) tail' (omega arith) (omega arith)

      left : (b : ℕ) → NamesBox q b → (has : HasBox queue head tail b) → Dec (has.at ≡ head) → Waits q u queue' (head + 1) tail'
      left b names has (yes e) =
          let taken : b ≡ get_or queue head 0 = sym has.is ∙ rw e in
          longer (visited.waits q m (subst (NamesBox q) taken names))
      left b names has (no ¬e) =
          named b names
          (has_later visited.ran.queued
          (record { at = has.at; after = omega (arith, has.after); before = has.before; is = has.is }))

      at : Waits q t queue head tail → Waits q u queue' (head + 1) tail'
      at (rests stable) = longer (stable_waits visited.ran.queued q stable)
      at (named b names has) = left b names has (ℕ_discrete has.at head)

-- an index of some rules is one of its own
pub indexed_own : {i : Index} {qs : List Rec} → Indexed i qs → Indexed i (rules_of i)
indexed_own indexed = record { packs = packed_own indexed.packs; links = indexed.links }

-- an empty queue
abbrev pub zeros : List ℕ
zeros = replicate 256 0

pub lent_empty : {s queue : List ℕ} → Cells s → length queue ≡ 256 → Lent s queue 0
lent_empty {s} cells size = record { cells = cells; size = size; room = omega (arith, open_within s, cells.size) }

-- only box b is new: it stands alone in the queue, or is open, and then every rule is at rest
module _ {qs : List Rec} {s : List ℕ} {b : ℕ} (cells : Cells s) (below : b < 256) (poised : Poised qs s b) where
  pub poised_rests : get_or s b 0 ≡ 2 → AllStable qs s
  poised_rests opened q m =
      ⊎_elim (λ stable. stable) (λ w. absurd (w.0 (sym (cells_read cells b below) ∙ opened))) (poised q m)

  module _ {queue : List ℕ} (size : length queue ≡ 256) where
    pub poised_lent : (get_or s b 0 ≡ 2 → ⊥) → Lent s queue 1
    poised_lent settled =
        record {
          cells = cells;
          size = size;
          room = omega (arith, cells.size, open_fewer s b (omega (arith, cells.size)) (λ e. settled (cells_read cells b below ∙ e)));
        }

    pub poised_waits : get_or queue 0 0 ≡ b → AllWait qs s queue 0 1
    poised_waits alone q m =
        ⊎_elim rests (λ w. named b w.1 (record { at = 0; after = omega arith; before = omega arith; is = alone })) (poised q m)
