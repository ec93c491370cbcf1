-- The closure computed: rounds in which every rule fires that can. That this is the least set is `closed_closure` of the
-- crate's proofs.
-- Assumes nothing.
use Rattle.std.specs.Prelude.{Bool, true, false, ◌&&◌, ◌||◌, List, map, ℕ, zero, suc, ◌*◌, eqb, length}
use Rattle.std.specs.Bool.{beq}
use Rattle.lemmas.specs.Lists.{all, any, upto}
use Rattle.spec.specs.Kinds.{kind_of}
use Rattle.spec.specs.Rules.{Literal, Rule, rules_of}
use Rattle.spec.specs.Records.{Rec, box_at}
use Rattle.spec.specs.Facts.{holds}

-- the literal is a fact of s
unfoldable pub has : List ℕ → Rec → Literal → Bool
has s q l = holds s (box_at q l.place) l.state

-- the literal says that box b has this state
unfoldable pub names : Rec → ℕ → Bool → Literal → Bool
names q b state l = eqb (box_at q l.place) b && beq l.state state

-- the rule, read for the record q, fires and gives box b this state
unfoldable pub gives : List ℕ → ℕ → Bool → Rec → Rule → Bool
gives s b state q r = all (has s q) r.premises && any (names q b state) r.conclusions

-- a fact of s, or given by a rule that fires
unfoldable pub follows : List Rec → List ℕ → ℕ → Bool → Bool
follows qs s b state = holds s b state || any (λ q. any (gives s b state q) (rules_of (kind_of q.kind))) qs

-- the code of a box by its two facts, out and in
unfoldable pub code : Bool → Bool → ℕ
code true false = 0
code false true = 1
code false false = 2
code true true = 3

unfoldable pub round : List Rec → List ℕ → List ℕ
round qs s = map (λ b. code (follows qs s b false) (follows qs s b true)) (upto (length s))

abbrev pub rounds : List Rec → ℕ → List ℕ → List ℕ
rounds qs zero s = s
rounds qs (suc k) s = rounds qs k (round qs s)

-- there are two facts a box, and a round that is not the last adds one
unfoldable pub closed : List Rec → List ℕ → List ℕ
closed qs s = rounds qs (2 * length s) s
