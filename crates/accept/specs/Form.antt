-- What the checks of form say.
-- Assumes nothing.
use Rattle.std.specs.Prelude.{Result}
use Rattle.spec.specs.Refusals.{Said}
use Rattle.refusals.specs.declared.Refusal.{Refusal}
use Rattle.refusals.specs.Telling.{said}

abbrev pub form_says : Result (Unit {0}) Refusal → Said (Unit {0})
form_says answer = said (λ passes. passes) answer
