-- Facts, and the closure: the least set of facts that holds the sheet's and is closed under the twenty rules for all records.
-- A rule fires when its premises are in the set, even if the opposite fact is there too.
-- Assumes nothing.
use Rattle.std.specs.Prelude.{Bool, true, false, ◌||◌, ℕ, T, eqb, get_or}
use mathlib.Core.List.{List, Memᴰ}
use Rattle.spec.specs.Kinds.{kind_of}
use Rattle.spec.specs.Rules.{Literal, Rule, rules_of}
use Rattle.spec.specs.Records.{Rec, box_at}

-- a set of facts: `F b true` says that "box b is in" is in the set, `F b false` that "box b is out" is
abbrev pub Facts : Type 1
Facts = ℕ → Bool → Type 0

-- the set has what the literal says of the record's box
abbrev pub Has : Facts → Rec → Literal → Type 0
Has F q l = F (box_at q l.place) l.state

abbrev pub HasAll : Facts → Rec → List Literal → Type 0
HasAll F q ls = (l : Literal) → Memᴰ l ls → Has F q l

-- box states are coded 0 out, 1 in, 2 open, 3 both; a box past the end is open
unfoldable pub holds : List ℕ → ℕ → Bool → Bool
holds s b false = eqb (get_or s b 2) 0 || eqb (get_or s b 2) 3
holds s b true = eqb (get_or s b 2) 1 || eqb (get_or s b 2) 3

-- the facts of a sheet are its settled boxes
abbrev pub FactsOf : List ℕ → Facts
FactsOf s b state = T (holds s b state)

-- every rule of every record: where its premises are in the set, so are its conclusions
abbrev pub Closed : List Rec → Facts → Type 0
Closed qs F =
    (q : Rec) → Memᴰ q qs → (r : Rule) → Memᴰ r (rules_of (kind_of q.kind)) →
    HasAll F q r.premises → HasAll F q r.conclusions

-- the least set: a fact is in it only as a fact of the sheet, or because a rule fires
pub data Closure (qs : List Rec) (s : List ℕ) : ℕ → Bool → Type 0 where
  settled : {b : ℕ} {state : Bool} → T (holds s b state) → Closure qs s b state
  fires : (q : Rec) → Memᴰ q qs → (r : Rule) → Memᴰ r (rules_of (kind_of q.kind)) →
      ((l : Literal) → Memᴰ l r.premises → Closure qs s (box_at q l.place) l.state) →
      (l : Literal) → Memᴰ l r.conclusions → Closure qs s (box_at q l.place) l.state

-- a clash is a box with both facts in the closure
abbrev pub Clash : List Rec → List ℕ → ℕ → Type 0
Clash qs s b = Closure qs s b false × Closure qs s b true
