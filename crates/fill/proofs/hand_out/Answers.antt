-- `fill::hand_out` meets its contract: 8 is given where it applies, and else the filled sheet is written.
-- Assumes nothing.
use mathlib.Core.Path.{sym, ◌∙◌}
use native.Mathlib.Omega.{arith}
use Rattle.lemmas.proofs.Lowest.{none_below}
use Rattle.fill.proofs.Says.{handed_broken, handed_boxes}
use Rattle.fill.proofs.hand_out.Goals.{then-count_open-eq0+in_default, else-count_open-eq0}
use Rattle.fill.proofs.hand_out.Goals as goal

pub returns-in-Some : goal.returns-in-Some
returns-in-Some c =
    handed_broken _ _ _ c.args.out.now _ c.requires.fills_to c.in-Some.ensures (sym c.count_open.ensures ∙ c.if-count_open-eq0.true)

pub returns : goal.returns
returns c =
    handed_boxes _ _ _ c.args.out.now _ c.requires.fills_to _ c.store.new.out
    (λ full below.
    elim c.if-count_open-eq0.branch [
      | then-count_open-eq0+in_default w ↦ let past = none_below _ _ w.in_default.ensures in omega arith
      | else-count_open-eq0 w ↦ absurd (w.if-count_open-eq0.false (c.count_open.ensures ∙ full))
    ])
    c.count_filled.ensures c.store.ensures
