-- `sheet::count_filled` meets its contract.
-- Assumes nothing.
use Rattle.std.proofs.Common.{◌≡◌, ◌≤◌, length, refl, ◌∙◌, arith}
use Rattle.std.proofs.lemmas.List.{length_push}
use Rattle.std.proofs.lemmas.Slice.Zip.{zip_turn, zip_end}
use Rattle.lemmas.proofs.Indexed.{count_upto_below}
use Rattle.spec.specs.Fill.{boxes_filled}
use Rattle.sheet.proofs.count_filled.Invariants.{is_filled}
use Rattle.sheet.proofs.Counting.{count_next, at_most_one}
use Rattle.sheet.proofs.count_filled.Goals as goal

pub overflow_add-n : goal.overflow_add-n
overflow_add-n c =
    let s = c.args.sheet.now in
    let f = c.args.filled.now in
    let seen = c.loop-old.yielded in
    let turn = zip_turn s f seen c.into_iter-old-iterator.result c.loop-old.old-iterator c.next.new.self c.next.result (cc) (cc) c.loop-old.yielded_by _ c.in-Some.is c.next.ensures.steps in
    let small : c.from-n.result ≤ 1 = rw c.from-n.ensures (at_most_one _) in
    record { fits = omega (arith, count_upto_below (is_filled s f) (length seen)) }

pub loop-old-preserved : goal.loop-old-preserved
loop-old-preserved c =
    let s = c.args.sheet.now in
    let f = c.args.filled.now in
    let seen = c.loop-old.yielded in
    let turn = zip_turn s f seen c.into_iter-old-iterator.result c.loop-old.old-iterator c.next.new.self c.next.result (cc) (cc) c.loop-old.yielded_by _ c.in-Some.is c.next.ensures.steps in
    rw length_push (omega (arith, count_next (is_filled s f) (length seen) _ refl, rw (turn.2 0, turn.3 0) at c.from-n.ensures))

pub returns : goal.returns
unfolding boxes_filled
returns c =
    let s = c.args.sheet.now in
    let f = c.args.filled.now in
    let seen = c.loop-old.yielded in
    let e = zip_end s f seen c.into_iter-old-iterator.result c.loop-old.old-iterator c.next.new.self c.next.result (cc) (cc) c.loop-old.yielded_by c.in-None.is c.next.ensures.steps in
    let whole : length seen ≡ length s = omega arith in
    c.from.ensures ∙ rw whole at c.loop-old.invariant
