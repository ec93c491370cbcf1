-- A line as the code holds it; and when it is right after the lines that led to the states s.
-- Assumes nothing.
use Rattle.std.specs.Prelude.{Bool, ◌&&◌, List, ℕ, ltb, eqb, get_or}
use Rattle.spec.specs.Records.{record_at, record_count}
use Rattle.why.specs.declared.lines.Reason.{Reason}
use Rattle.whylists.specs.Lines.{Line, given_by}

abbrev pub as_line : Reason → Line
as_line a = record { box = a.b; state = a.state; byte3 = a.byte3; number = a.number; bytes67 = a.bytes67 }

-- as `right`, where s has the sheet's states and those of the lines above: the box is open on the sheet and has no earlier line just
-- when it is open there
unfoldable pub right_on : (maker depot : List ℕ) (n : ℕ) → List ℕ → Line → Bool
right_on maker depot n s a =
    ltb a.state 2
    && eqb a.byte3 0
    && eqb a.bytes67 0
    && ltb a.number (record_count maker depot)
    && ltb a.box n
    && eqb (get_or s a.box 2) 2
    && given_by s a.box (eqb a.state 1) (record_at maker depot a.number)
