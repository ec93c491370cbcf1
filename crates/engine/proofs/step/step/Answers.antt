-- `engine::step::step` meets its contract: the record's boxes get the states that `fire` gives, unless there is a clash.
-- Assumes nothing.
use mathlib.Core.Path.{◌≡◌, refl, sym, subst, ◌∙◌}
use mathlib.Core.Bool.{false}
use mathlib.Core.List.{List}
use Prim.Native.Nat.{ℕ, ◌<◌}
use borrow.Author.Tests.{not-true, not-false}
use lib.ListN.{get_or}
use Rattle.theory.specs.Steps.{IsSheet, z_missing}
use Rattle.theory.proofs.Stepping.{new_sheet, step_clash}
use Rattle.fire.specs.declared.States.{States}
use Rattle.fire.specs.States.{Fired, three, counted}
use Rattle.fire.proofs.Closures.{counted_sheet, z_dropped_lem, clash_at_x}
use Rattle.index.specs.Index.{rule_of}
use Rattle.engine.specs.Queue.{StepInput}
use Rattle.engine.proofs.OneRecord.{Fires, rule_z, rule_state_z, look_x, look_y, look_states}
use Rattle.engine.proofs.OneRecord.{fires_read, settling_x, settling_y, settling_z, pair_fired, triple_fired}
use Rattle.engine.proofs.step.step.Goals as goal

-- what `fire` gave for the rule's three states
module _ (kind x y z : ℕ) {s queue : List ℕ} {tail : ℕ} (input : StepInput (rule_of kind x y z) s queue tail) (small : z < 256)
    {new : States} (gave : Fired kind (get_or s x 0) (get_or s y 0) (get_or s z 0) new) where
  firing : Fires (rule_of kind x y z) s new.x new.y (counted kind new.z)
  unfolding rule_of
  firing =
      fires_read input (counted kind (get_or s z 0)) new.x new.y (counted kind new.z)
      (rule_state_z kind x y z input.lent.cells small)
      (z_dropped_lem kind (look_states _ _ _ _ input small) gave.closure)

  -- x is not both facts, so none is
  module _ (apart : new.x ≡ 3 → ⊥) where
    no_clash : IsSheet (three new.x new.y (counted kind new.z))
    no_clash =
        let sheet = look_states _ _ _ _ input small in
        let others = clash_at_x kind (counted_sheet kind sheet) (z_dropped_lem kind sheet gave.closure) in
        new_sheet firing apart (λ e. apart (others.0 e)) (λ e. apart (others.1 e))

    -- the kind has z: its new state is the one that is stored
    module _ (there : z_missing (rule_of kind x y z) ≡ false) where
      z_counts : counted kind new.z ≡ new.z
      unfolding rule_of
      z_counts = rw there

      firing_z : Fires (rule_of kind x y z) s new.x new.y new.z
      firing_z = subst (λ (e : ℕ). Fires (rule_of kind x y z) s new.x new.y e) z_counts firing

      sheet_z : IsSheet (three new.x new.y new.z)
      sheet_z = subst (λ (e : ℕ). IsSheet (three new.x new.y e)) z_counts no_clash

pub bounds-states-x : goal.bounds-states-x
bounds-states-x c = look_x _ _ _ _ c.requires.step_input c.requires.z_bound

pub bounds-states-y : goal.bounds-states-y
bounds-states-y c = look_y _ _ _ _ c.requires.step_input c.requires.z_bound

pub fire-new-requires : goal.fire-new-requires
fire-new-requires c = look_states _ _ _ _ c.requires.step_input c.requires.z_bound

pub settle-after_x-requires : goal.settle-after_x-requires
unfolding rule_of
settle-after_x-requires c =
    let input = c.requires.step_input in
    settling_x input (firing _ _ _ _ input c.requires.z_bound c.fire-new.ensures)
    (no_clash _ _ _ _ input c.requires.z_bound c.fire-new.ensures c.if-told-eq-BOTH.false)

pub returns-then-told-eq-BOTH : goal.returns-then-told-eq-BOTH
returns-then-told-eq-BOTH c =
    record {
      clash = step_clash (firing _ _ _ _ c.requires.step_input c.requires.z_bound c.fire-new.ensures) 0 c.if-told-eq-BOTH.true;
      size = refl;
    }

pub settle-after_y-requires : goal.settle-after_y-requires
unfolding rule_of
settle-after_y-requires c =
    let input = c.requires.step_input in
    settling_y input (firing _ _ _ _ input c.requires.z_bound c.fire-new.ensures)
    (no_clash _ _ _ _ input c.requires.z_bound c.fire-new.ensures c.if-told-eq-BOTH.false) c.settle-after_x.ensures

pub settle-requires : goal.settle-requires
unfolding rule_of
settle-requires c =
    let input = c.requires.step_input in
    let apart = c.if-told-eq-BOTH.false in
    let there : z_missing (rule_of c.args.kind c.args.x c.args.y c.args.z) ≡ false =
    not-true _ (sym c.has_z.ensures ∙ c.if-has_z.true) in
    settling_z input (firing_z _ _ _ _ input c.requires.z_bound c.fire-new.ensures apart there)
    (sheet_z _ _ _ _ input c.requires.z_bound c.fire-new.ensures apart there) c.settle-after_x.ensures c.settle-after_y.ensures
    (rule_z c.args.kind c.args.x c.args.y c.args.z there) there

pub returns-then-has_z : goal.returns-then-has_z
unfolding rule_of
returns-then-has_z c =
    let input = c.requires.step_input in
    let apart = c.if-told-eq-BOTH.false in
    let there : z_missing (rule_of c.args.kind c.args.x c.args.y c.args.z) ≡ false =
    not-true _ (sym c.has_z.ensures ∙ c.if-has_z.true) in
    triple_fired input (firing_z _ _ _ _ input c.requires.z_bound c.fire-new.ensures apart there)
    (sheet_z _ _ _ _ input c.requires.z_bound c.fire-new.ensures apart there) c.settle-after_x.ensures c.settle-after_y.ensures
    (rule_z c.args.kind c.args.x c.args.y c.args.z there) there c.settle.ensures

pub returns : goal.returns
unfolding rule_of
returns c =
    let input = c.requires.step_input in
    pair_fired input (firing _ _ _ _ input c.requires.z_bound c.fire-new.ensures)
    (no_clash _ _ _ _ input c.requires.z_bound c.fire-new.ensures c.if-told-eq-BOTH.false) c.settle-after_x.ensures c.settle-after_y.ensures
    (not-false _ (sym c.has_z.ensures ∙ c.if-has_z.false))
