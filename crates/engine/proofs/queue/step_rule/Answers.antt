-- `engine::queue::step_rule` meets its contract: the rule's bytes are read, a look tells whether it is at rest, and else it has its step.
-- Assumes nothing.
use mathlib.Core.Path.{◌≡◌, subst, subst⁻¹}
use mathlib.Core.List.{List}
use Prim.Native.Nat.{ℕ, ◌+◌, ◌*◌}
use lib.ListN.{get_or}
use Rattle.std.specs.Prelude.{Result, Ok}
use Rattle.spec.specs.Records.{Rec}
use Rattle.index.specs.Index.{rule_of, rule_at}
use Rattle.engine.specs.Queue.{StepInput, Stepped}
use Rattle.engine.specs.declared.step.Clash.{Clash}
use Rattle.engine.proofs.OneRecord.{look_fired}
use Rattle.engine.proofs.queue.step_rule.Goals as goal

-- numbers that are the same make the same rule
rule_same : (kind : ℕ) {x x' y y' z z' : ℕ} → x ≡ x' → y ≡ y' → z ≡ z' → rule_of kind x y z ≡ rule_of kind x' y' z'
rule_same kind e e' e'' = cc (e, e', e'')

-- the boxes as they are read from the rule's bytes
module _ (packed : List ℕ) (j : ℕ) {x y z : ℕ} (is_x : x ≡ get_or packed (4 * j + 1) 0) (is_y : y ≡ get_or packed (4 * j + 2) 0)
    (is_z : z ≡ get_or packed (4 * j + 3) 0) where
  abbrev read : Rec
  read = rule_of (get_or packed (4 * j) 0) x y z

  read_rule : read ≡ rule_at packed j
  read_rule = rule_same _ is_x is_y is_z

  read_input : {s queue : List ℕ} {tail : ℕ} → StepInput (rule_at packed j) s queue tail → StepInput read s queue tail
  read_input {s} {queue} {tail} input = subst⁻¹ (λ (q : Rec). StepInput q s queue tail) read_rule input

  read_step : (s t queue queue' : List ℕ) (tail : ℕ) (answer : Result ℕ Clash) → Stepped read s t queue queue' tail answer →
      Stepped (rule_at packed j) s t queue queue' tail answer
  read_step s t queue queue' tail answer step = subst (λ (q : Rec). Stepped q s t queue queue' tail answer) read_rule step

pub returns-then-at_rest : goal.returns-then-at_rest
returns-then-at_rest c =
    let input =
    read_input c.args.index.now.packed c.args.j c.box_of-x.ensures.0 c.box_of-y.ensures.0 c.box_of-z.ensures.0 c.requires.step_input in
    read_step c.args.index.now.packed c.args.j c.box_of-x.ensures.0 c.box_of-y.ensures.0 c.box_of-z.ensures.0 _ _ _ _ _ (Ok c.args.tail)
    (look_fired _ _ _ _ input c.box_of-z.ensures.1 (c.at_rest.ensures c.if-at_rest.true))
