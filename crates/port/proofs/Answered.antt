-- An operation's promise, with its answer as numbers.
-- Assumes nothing.
use mathlib.Core.Path.{◌≡◌, ap, ◌∙◌}
use mathlib.Core.List.{List}
use Prim.Native.Nat.{ℕ}
use Rattle.spec.specs.Refusals.{Said, Does}
use Rattle.refusals.specs.Telling.{numbers_of}

pub does_told : {A : Type 0} (own : A → List ℕ) {due said : Said A} {bytes left numbers : List ℕ} → numbers ≡ numbers_of own said →
    Does due bytes said left → Does (numbers_of own due) bytes numbers left
does_told own e does = record { says = e ∙ ap (numbers_of own) does.says; writes = does.writes }
