-- Firing: the rules fired one conclusion at a time, in any order. That the order is of no matter, and that firing comes to rest, are
-- `run_rest` and `run_ends` of the crate's proofs.
-- Assumes nothing.
use Rattle.std.specs.Prelude.{◌↔◌, Bool, ℕ}
use mathlib.Core.List.{List, ◌∷◌, Memᴰ}
use Rattle.spec.specs.Kinds.{kind_of}
use Rattle.spec.specs.Rules.{Literal, Rule, rules_of}
use Rattle.spec.specs.Records.{Rec, box_at}
use Rattle.spec.specs.Facts.{Facts, FactsOf, HasAll}

-- "box b is in" (state true), or "box b is out"
pub record Fact : Type 0 where
  pub box : ℕ
  pub state : Bool

-- what a literal says of the record's box
abbrev pub says : Rec → Literal → Fact
says q l = record { box = box_at q l.place; state = l.state }

-- the facts that a list holds, in whichever order it came to them
abbrev pub Listed : List Fact → Facts
Listed fs b state = Memᴰ (record { box = b; state = state }) fs

-- the lists that firing comes to: exactly the sheet's facts at the start; then a rule of a record whose premises are listed
-- adds a conclusion, new or not
pub data Run (qs : List Rec) (s : List ℕ) : List Fact → Type 0 where
  start : {fs : List Fact} → ((b : ℕ) (state : Bool) → Listed fs b state ↔ FactsOf s b state) → Run qs s fs
  fire : {fs : List Fact} → Run qs s fs → (q : Rec) → Memᴰ q qs → (r : Rule) →
      Memᴰ r (rules_of (kind_of q.kind)) → HasAll (Listed fs) q r.premises →
      (l : Literal) → Memᴰ l r.conclusions → Run qs s (says q l ∷ fs)
