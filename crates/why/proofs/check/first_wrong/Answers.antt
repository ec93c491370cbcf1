-- `why::check::first_wrong` meets its contract: line by line, until one is wrong.
-- Assumes nothing.
use mathlib.Core.Path.{◌≡◌, sym, ap, subst⁻¹, ◌∙◌}
use mathlib.Core.Bool.{true, not}
use mathlib.Core.List.{List}
use Prim.Native.Nat.{ℕ, ◌+◌, ◌<◌}
use native.Mathlib.Omega.{arith}
use lib.ListN.{set}
use Rattle.lemmas.proofs.Lowest.{if_found, if_none}
use Rattle.spec.proofs.Accepted.{AcceptedSheet}
use Rattle.whylists.specs.Lines.{Line, line_at, line_count, right}
use Rattle.why.specs.Read.{right_on}
use Rattle.whylists.proofs.Known.{is_right, right_within}
use Rattle.why.proofs.Checking.{Checked, right_same, checked_next}
use Rattle.why.proofs.check.first_wrong.Goals as goal

-- the check has come to line k, which has been read
module _ (maker depot sheet l : List ℕ) {n : ℕ} (accepted : AcceptedSheet n maker depot sheet) {s : List ℕ} {k : ℕ}
    (so : Checked maker depot sheet l s k) (a : Line) (read : a ≡ line_at l k) where
  told : right_on maker depot n s a ≡ right maker depot sheet l k
  told =
      ap (λ (line : Line). right_on maker depot n s line) read
      ∙ ap (λ (m : ℕ). right_on maker depot m s (line_at l k)) (sym accepted.sheet_length)
      ∙ right_same maker depot sheet l so

  module _ (e : true ≡ right_on maker depot n s a) where
    is : right maker depot sheet l k ≡ true
    is = sym told ∙ sym e

    box_below : a.box < 256
    box_below =
        let within = right_within maker depot sheet l k (is_right maker depot sheet l k is) in
        rw read (omega (arith, within, accepted.sheet_length, accepted.tables.boxes))

    one_more : Checked maker depot sheet l (set s a.box a.state) (k + 1)
    one_more =
        subst⁻¹ (λ (r : Line). Checked maker depot sheet l (set s r.box r.state) (k + 1)) read
        (checked_next maker depot sheet l so is (omega (arith, accepted.sheet_length, accepted.tables.boxes)))

pub returns-then-not-is_right : goal.returns-then-not-is_right
unfolding line_count
returns-then-not-is_right c =
    let same = told _ _ _ _ c.args.order.accepted c.loop-k.invariant _ c.line_at-a.ensures in
    if_found _ _ _ (omega arith) (ap not (sym same ∙ sym c.if-not-is_right.ensures)) c.loop-k.invariant.none

pub bounds-states-a : goal.bounds-states-a
bounds-states-a c = box_below _ _ _ _ c.args.order.accepted c.loop-k.invariant _ c.line_at-a.ensures c.if-not-is_right.ensures

pub loop-k-preserved : goal.loop-k-preserved
loop-k-preserved c = one_more _ _ _ _ c.args.order.accepted c.loop-k.invariant _ c.line_at-a.ensures c.if-not-is_right.ensures

pub returns : goal.returns
unfolding line_count
returns c = if_none _ _ (λ j h. c.loop-k.invariant.none j (omega arith))
