-- Tests for two places, two literals or two rules being the same.
-- Assumes nothing.
use Rattle.std.specs.Prelude.{Bool, true, false, ◌&&◌}
use Rattle.std.specs.Bool.{beq}
use Rattle.lemmas.specs.Same.{same_list}
use Rattle.spec.specs.Kinds.{Place, X, Y, Z}
use Rattle.spec.specs.Rules.{Literal, Rule}

unfoldable pub same_place : Place → Place → Bool
same_place X q = elim q [ X ↦ true | Y ↦ false | Z ↦ false ]
same_place Y q = elim q [ X ↦ false | Y ↦ true | Z ↦ false ]
same_place Z q = elim q [ X ↦ false | Y ↦ false | Z ↦ true ]

unfoldable pub same_literal : Literal → Literal → Bool
same_literal l m = same_place l.place m.place && beq l.state m.state

unfoldable pub same_rule : Rule → Rule → Bool
same_rule r g =
    same_list same_literal r.premises g.premises && same_list same_literal r.conclusions g.conclusions
