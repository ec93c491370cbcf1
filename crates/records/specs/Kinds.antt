-- A kind as the code holds it, as a kind of the paper, and what its number says.
-- Assumes nothing.
use Rattle.std.specs.Prelude.{◌≡◌, ℕ, Result, MatchResult}
use Rattle.spec.specs.Kinds as paper
use Rattle.records.specs.declared.kinds.Kind.{Kind}
use Rattle.records.specs.declared.kinds.Kind.TheVariants.{Equ, Not, And, Or}
use Rattle.records.specs.declared.kinds.NoKind.{NoKind}

abbrev pub as_kind : Kind → paper.Kind
as_kind Equ = paper.EQU
as_kind Not = paper.NOT
as_kind And = paper.AND
as_kind Or = paper.OR

-- the result is the kind of this number, or an error with a number that is no kind
abbrev pub Numbered : ℕ → Result Kind NoKind → Type 0
Numbered number r =
    MatchResult r (λ kind. paper.kind_of number ≡ as_kind kind) (λ e. (e.0 ≡ number) × (paper.kind_of number ≡ paper.other))
