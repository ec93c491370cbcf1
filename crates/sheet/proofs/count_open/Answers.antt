-- `sheet::count_open` meets its contract.
-- Assumes nothing.
use Rattle.std.proofs.Common.{◌≡◌, ℕ, ◌≤◌, length, eqb, refl, sym, ◌∙◌, arith}
use Rattle.std.proofs.lemmas.Bool.Decides.{nat_tests}
use Rattle.lemmas.proofs.Indexed.{count_indexed, count_upto_below}
use Rattle.spec.specs.Fill.{open_count}
use Rattle.sheet.proofs.Counting.{count_next, at_most_one}
use Rattle.sheet.proofs.count_open.Invariants.{is_open}
use Rattle.sheet.proofs.count_open.Goals as goal

pub overflow_add-n : goal.overflow_add-n
overflow_add-n c =
    let small : c.from-n.result ≤ 1 = rw c.from-n.ensures (at_most_one _) in
    record { fits = omega (arith, c.requires, count_upto_below (is_open c.args.sheet.now) c.loop-state.state-index) }

flip : (x : ℕ) → eqb x 2 ≡ eqb 2 x
flip x = grind (arith, nat_tests)

pub loop-state-preserved : goal.loop-state-preserved
loop-state-preserved c =
    omega (arith, count_next (is_open c.args.sheet.now) c.loop-state.state-index _ refl, rw flip at c.from-n.ensures)

pub returns : goal.returns
unfolding open_count
returns c =
    let whole : c.loop-state.state-index ≡ length c.args.sheet.now = omega arith in
    c.from.ensures ∙ (rw whole at c.loop-state.invariant) ∙ sym (count_indexed (eqb 2) 0 c.args.sheet.now)
