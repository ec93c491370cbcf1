-- `engine::sweep::step_record` meets its contract: nothing, where a look tells that the rule is at rest, and else its step.
-- Assumes nothing.
use mathlib.Core.Path.{◌≡◌, refl, sym, subst, subst⁻¹, ◌∙◌}
use mathlib.Core.Bool.{Bool, true, false}
use mathlib.Core.List.{List}
use Prim.Native.Nat.{ℕ, ◌<◌, ◌%◌}
use native.Mathlib.Omega.{arith}
use Rattle.std.specs.Prelude.{Result, Ok}
use Rattle.spec.specs.Records.{Rec, bad, is_rule}
use Rattle.index.specs.Index.{rule_of}
use Rattle.engine.specs.Queue.{StepInput, Stepped, RecordStepped}
use Rattle.engine.specs.declared.step.Clash.{Clash}
use Rattle.index.proofs.Rules.{rule_again}
use Rattle.engine.proofs.OneRecord.{look_x, look_y, look_states, look_fired}
use Rattle.engine.proofs.sweep.step_record.Goals as goal

-- the rule that is read from a record
abbrev as_rule : Rec → Rec
as_rule q = rule_of q.kind q.x q.y (q.z % 256)

-- it is the record: a z that is there is below 256
same : (q : Rec) → bad 256 q ≡ false → as_rule q ≡ q
same q good = rule_again q good q.x q.y (q.z % 256) (λ l. refl) (λ l. refl) (λ l. omega arith)

small : (z : ℕ) → z % 256 < 256
small z = omega arith

module _ (q : Rec) {s queue : List ℕ} {tail : ℕ} (input : StepInput q s queue tail) where
  read_input : StepInput (as_rule q) s queue tail
  read_input = subst⁻¹ (λ (p : Rec). StepInput p s queue tail) (same q input.good) input

  counted : is_rule q ≡ true → (t queue' : List ℕ) (answer : Result ℕ Clash) → Stepped (as_rule q) s t queue queue' tail answer →
      RecordStepped (is_rule q) q s t queue queue' tail answer
  counted counts t queue' answer step =
      subst⁻¹ (λ (is : Bool). RecordStepped is q s t queue queue' tail answer) counts
      (subst (λ (p : Rec). Stepped p s t queue queue' tail answer) (same q input.good) step)

pub bounds-states-x : goal.bounds-states-x
bounds-states-x c = look_x _ _ _ _ (read_input _ c.requires) (small _)

pub bounds-states-y : goal.bounds-states-y
bounds-states-y c = look_y _ _ _ _ (read_input _ c.requires) (small _)

pub at_rest-requires : goal.at_rest-requires
at_rest-requires c = look_states _ _ _ _ (read_input _ c.requires) (small _)

pub returns-then-at_rest : goal.returns-then-at_rest
returns-then-at_rest c =
    counted _ c.requires (sym c.is_rule.ensures ∙ c.if-not-is_rule.false) _ _ (Ok c.args.tail)
    (look_fired _ _ _ _ (read_input _ c.requires) (small _) (c.at_rest.ensures c.if-at_rest.true))

pub step-requires-clause-step_input : goal.step-requires-clause-step_input
step-requires-clause-step_input c = read_input _ c.requires

pub returns : goal.returns
returns c = counted _ c.requires (sym c.is_rule.ensures ∙ c.if-not-is_rule.false) _ _ c.step.result c.step.ensures
