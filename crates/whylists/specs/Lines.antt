-- Why-lists: eight bytes a line, how they are read, and when a line is right after those above it.
-- Assumes nothing.
use Rattle.std.specs.Prelude.{Bool, not, ◌&&◌, List, ℕ, zero, suc, ◌+◌, ◌*◌, ◌/◌, ltb, eqb, length, get_or, set}
use Rattle.lemmas.specs.Lists.{any, upto}
use Rattle.spec.specs.Kinds.{kind_of}
use Rattle.spec.specs.Rules.{rules_of}
use Rattle.spec.specs.Records.{Rec, word, record_at, record_count, is_rule}
use Rattle.spec.specs.Rounds.{gives}

-- a line: bytes 0-1 its box; byte 2 its state; byte 3; bytes 4-5 its record's number; bytes 6-7
pub record Line : Type 0 where
  pub box : ℕ
  pub state : ℕ
  pub byte3 : ℕ
  pub number : ℕ
  pub bytes67 : ℕ

-- what a line says of its box: in, or out
abbrev pub says_in : Line → Bool
says_in a = eqb a.state 1

-- the line in the eight bytes from `at` on
unfoldable pub line_from : List ℕ → ℕ → Line
line_from l at =
    record {
      box = word (get_or l at 0) (get_or l (at + 1) 0);
      state = get_or l (at + 2) 0;
      byte3 = get_or l (at + 3) 0;
      number = word (get_or l (at + 4) 0) (get_or l (at + 5) 0);
      bytes67 = word (get_or l (at + 6) 0) (get_or l (at + 7) 0);
    }

-- line k, from 0
unfoldable pub line_at : List ℕ → ℕ → Line
line_at l k = line_from l (8 * k)

unfoldable pub line_count : List ℕ → ℕ
line_count l = length l / 8

-- the sheet's settled boxes and the boxes of the first k lines, as states
abbrev pub known : List ℕ → List ℕ → ℕ → List ℕ
known sheet l zero = sheet
known sheet l (suc k) = set (known sheet l k) (line_at l k).box (line_at l k).state

-- one of the record's rules gives box b this state from what s settles
unfoldable pub given_by : List ℕ → ℕ → Bool → Rec → Bool
given_by s b state q = is_rule q && any (gives s b state q) (rules_of (kind_of q.kind))

-- a line is right after the first k of a list: state 0 or 1, its zero bytes zero, a record that exists; its box is open on the sheet
-- and has no earlier line; and its state follows, by one of that record's rules, from the sheet's settled boxes and the lines above
unfoldable pub right_after : (maker depot sheet l : List ℕ) (k : ℕ) → Line → Bool
right_after maker depot sheet l k a =
    ltb a.state 2
    && eqb a.byte3 0
    && eqb a.bytes67 0
    && ltb a.number (record_count maker depot)
    && eqb (get_or sheet a.box 0) 2
    && not (any (λ j. eqb (line_at l j).box a.box) (upto k))
    && given_by (known sheet l k) a.box (says_in a) (record_at maker depot a.number)

-- line k is right after those above it
unfoldable pub right : (maker depot sheet l : List ℕ) → ℕ → Bool
right maker depot sheet l k = right_after maker depot sheet l k (line_at l k)
