-- The three demands, each as one record, of the functions that the promises of Test, Show, Fill, First and Next cite. This page is
-- the first to read: a field's comment is the sentence, and its type says it in the words of `spec` and of `kits`' Kit and Runs.
-- They hold of all tables, sheets and lists: `demand_one`, `demand_two`, `demand_three` of the crate's proofs.
-- That an operation reads inside what it is lent, and ends, is proved of its code, and none of them has a `requires`.
-- Assumes nothing.
use Rattle.std.specs.Prelude.{◌≡◌, ◌↔◌, Bool, true, false, ℕ, ◌<◌, length, get_or}
use mathlib.Core.List.{List, ◌∷◌, Memᴰ, Nodup}
use Rattle.lemmas.specs.Ascends.{Ascends}
use Rattle.spec.specs.Records.{Rec, is_rule, record_at, record_count, rules_in}
use Rattle.spec.specs.Facts.{Facts, Closed, Closure, Clash}
use Rattle.spec.specs.Firing.{Fact, Listed, Run}
use Rattle.spec.specs.Refusals.{Refusal, number_of, reason, Said, refused, answered, Check, sheet_checks, order_checks, next_checks}
use Rattle.spec.specs.Fits.{breaks, fits, broken, Part, test_checks, test_says, shows_part}
use Rattle.spec.specs.Fill.{boxes_filled, fill_says, fill_writes}
use Rattle.spec.specs.Kits.{before, kits, first_says, first_writes, next_says, next_writes}
use Rattle.kits.specs.Kit.{IsFull, Kit}
use Rattle.kits.specs.Runs.{Asked}

-- of checks in their order, the first that applies
pub data FirstApplies : List Check → Check → Type 0 where
  here : {c : Check} {cs : List Check} → c.when ≡ true → FirstApplies (c ∷ cs) c
  past : {c d : Check} {cs : List Check} →
      d.when ≡ false → FirstApplies cs c → FirstApplies (d ∷ cs) c

-- none of the checks applies: the call is in form
abbrev pub InForm : List Check → Type 0
InForm checks = (c : Check) → Memᴰ c checks → c.when ≡ false

-- what an operation with these checks of form says
pub record RefusesBy {A : Type 0} (checks : List Check) (says : Said A) : Type 0 where
  -- the first check that applies is given
  pub given : (c : Check) → FirstApplies checks c → says ≡ refused c.why
  -- by a number from 1 to 6
  pub numbered : (c : Check) → FirstApplies checks c → (0 < number_of c.why) × (number_of c.why < 7)
  -- a refusal by such a number is given only as that of the first check that applies
  pub only : (why : Refusal) → number_of why < 7 → says ≡ refused why →
      (c : Check) × FirstApplies checks c × (c.why ≡ why)
  -- and where none applies there is none
  pub none : InForm checks → (why : Refusal) → number_of why < 7 → says ≡ refused why → ⊥

-- where this is said as a refusal, what is left in a buffer is what was lent
abbrev pub Unchanged : {A : Type 0} → Said A → (left lent : List ℕ) → Type 0
Unchanged says left lent = (why : Refusal) → says ≡ refused why → left ≡ lent

-- the empty part at the start of the maker's table
abbrev pub empty_part : Part
empty_part = record { depots = false; start = 0; size = 0 }

-- DEMAND 1. Every public operation takes any tables, sheet and lists, and refuses bad ones by a number and a place (Show: by an
-- empty part). A refusal leaves every buffer lent for writing unchanged. The list `l` is Test's, and the one given to Next.
pub record DemandOne (maker depot sheet l out : List ℕ) : Type 0 where
  -- Test refuses bad tables and a bad list, by 1, 2, 3 and 6
  pub test : RefusesBy (test_checks maker depot l) (test_says maker depot l)
  -- Fill and First refuse bad tables, a bad sheet and a bad out buffer, by 1 to 5
  pub fill : RefusesBy (order_checks maker depot sheet out) (fill_says maker depot sheet out)
  pub first : RefusesBy (order_checks maker depot sheet out) (first_says maker depot sheet out)
  -- Next besides a bad given list, by 1 to 6
  pub next : RefusesBy (next_checks maker depot sheet l out) (next_says maker depot sheet l out)
  -- where Test refuses, Show gives the empty part at the start of the maker's table
  pub show : (why : Refusal) → test_says maker depot l ≡ refused why → shows_part maker depot l ≡ empty_part
  -- a refusal of Fill, First or Next, by whatever number, leaves every byte of the out buffer as it was
  pub fill_leaves : Unchanged (fill_says maker depot sheet out) (fill_writes maker depot sheet out) out
  pub first_leaves : Unchanged (first_says maker depot sheet out) (first_writes maker depot sheet out) out
  pub next_leaves : Unchanged (next_says maker depot sheet l out) (next_writes maker depot sheet l out) out

-- the facts that the twenty rules derive from the sheet, in however many steps
abbrev pub Derived : (maker depot sheet : List ℕ) → Facts
Derived maker depot sheet = Closure (rules_in maker depot) sheet

-- some box derives both in and out
abbrev pub SomeClash : (maker depot sheet : List ℕ) → Type 0
SomeClash maker depot sheet = (b : ℕ) × Clash (rules_in maker depot) sheet b

-- a list that is the filled sheet: 0 or 1 for a box with a fact and 2 for the others
pub record IsFilled (maker depot sheet w : List ℕ) : Type 0 where
  -- as many boxes as the sheet has
  pub size : length w ≡ length sheet
  -- a box is out exactly when "out" can be derived, and in exactly when "in" can
  pub is_out : (b : ℕ) → (get_or w b 2 ≡ 0) ↔ Derived maker depot sheet b false
  pub is_in : (b : ℕ) → (get_or w b 2 ≡ 1) ↔ Derived maker depot sheet b true
  -- all other boxes stay: open where neither can, and as it was where it was settled
  pub is_open : (b : ℕ) → (get_or w b 2 ≡ 2) ↔ ((Derived maker depot sheet b false → ⊥) × (Derived maker depot sheet b true → ⊥))
  pub kept : (b : ℕ) → (get_or sheet b 2 ≡ 2 → ⊥) → get_or w b 2 ≡ get_or sheet b 2

-- Fill, on a call in form
pub record FillAgrees (maker depot sheet out : List ℕ) : Type 0 where
  -- a clash is reported exactly when some box derives both in and out
  pub clash : (fill_says maker depot sheet out ≡ refused (reason 7 0)) ↔ SomeClash maker depot sheet
  -- without one, the number of boxes that were 2 and are not now is said: no other refusal is left
  pub number : (SomeClash maker depot sheet → ⊥) →
      fill_says maker depot sheet out ≡ answered (boxes_filled sheet (fill_writes maker depot sheet out))
  -- and an open box is settled exactly when its state can be derived; all other boxes stay
  pub filled : (SomeClash maker depot sheet → ⊥) → IsFilled maker depot sheet (fill_writes maker depot sheet out)
  -- in whatever order: wherever firing comes to rest, the facts listed are the derived ones
  pub order : (fs : List Fact) → Run (rules_in maker depot) sheet fs → Closed (rules_in maker depot) (Listed fs) →
      (b : ℕ) (state : Bool) → Listed fs b state ↔ Derived maker depot sheet b state
  -- and it does come to rest
  pub rests : (fs : List Fact) × Run (rules_in maker depot) sheet fs × Closed (rules_in maker depot) (Listed fs)

-- every rule is true of the list, by its truth table
abbrev pub EveryRuleTrue : (maker depot l : List ℕ) → Type 0
EveryRuleTrue maker depot l = (q : Rec) → Memᴰ q (rules_in maker depot) → breaks l q ≡ false

-- record r is a rule and false of the list, and no lower one is
pub record LowestFalse (maker depot l : List ℕ) (r : ℕ) : Type 0 where
  -- it is one of the records
  pub below : r < record_count maker depot
  -- a rule, and its truth table is false of the list
  pub is_rule_lem : is_rule (record_at maker depot r) ≡ true
  pub is_false : breaks l (record_at maker depot r) ≡ true
  -- of each lower record that is a rule the truth table is true
  pub lowest : (j : ℕ) → j < r → is_rule (record_at maker depot j) ≡ true → breaks l (record_at maker depot j) ≡ false

-- Test, on a call in form
pub record TestAgrees (maker depot l : List ℕ) : Type 0 where
  -- the list fits exactly when every rule is true of it
  pub fits_true : (test_says maker depot l ≡ answered fits) ↔ EveryRuleTrue maker depot l
  -- and a record is named exactly when it is the lowest that is a rule and false
  pub names_false : (r : ℕ) → (test_says maker depot l ≡ answered (broken r)) ↔ LowestFalse maker depot l r

-- the list keeps the sheet's settled boxes
abbrev pub KeepsSettled : (sheet l : List ℕ) → Type 0
KeepsSettled sheet l = (b : ℕ) → b < length sheet → (get_or sheet b 2 ≡ 2 → ⊥) → get_or l b 2 ≡ get_or sheet b 2

-- DEMAND 2. Fill agrees with the twenty propagation rules. Testing a full list agrees with the truth tables.
pub record DemandTwo (maker depot sheet l out : List ℕ) : Type 0 where
  -- on a call in form, a clash is reported exactly when some box derives both in and out; without one, an open box is settled exactly
  -- when its state can be derived, in however many steps and whatever order; all other boxes stay
  pub fill : InForm (order_checks maker depot sheet out) → FillAgrees maker depot sheet out
  -- on a list in form, it fits exactly when every rule is true of it, and else the lowest false one is named
  pub test : InForm (test_checks maker depot l) → TestAgrees maker depot l
  -- the lists that First and Next hand out are the full lists that keep the settled boxes and test as fitting
  pub handed : InForm (sheet_checks maker depot sheet) →
      Memᴰ l (kits maker depot sheet) ↔ (IsFull (length sheet) l × KeepsSettled sheet l × (test_says maker depot l ≡ answered fits))

-- tables and sheet are in form, and the out buffer of call i, which is `lent i`, has the sheet's length
abbrev pub AskedInForm : (maker depot sheet : List ℕ) → (ℕ → List ℕ) → Type 0
AskedInForm maker depot sheet lent = InForm (sheet_checks maker depot sheet) × ((i : ℕ) → length (lent i) ≡ length sheet)

-- DEMAND 3. First, then Next after each list handed out, until none: every list that keeps the settled boxes and makes every rule
-- true, each once, ascending. "None" only when none remains.
pub record DemandThree (maker depot sheet : List ℕ) (lent : ℕ → List ℕ) : Type 0 where
  -- the asking ends, and has handed out these lists
  pub ends : AskedInForm maker depot sheet lent → Asked maker depot sheet lent (kits maker depot sheet)
  -- it can hand out no others
  pub only : AskedInForm maker depot sheet lent → (ls : List (List ℕ)) → Asked maker depot sheet lent ls → ls ≡ kits maker depot sheet
  -- they are every full list that keeps the settled boxes and makes every rule true, and no other
  pub exactly : (l : List ℕ) → Memᴰ l (kits maker depot sheet) ↔ Kit (rules_in maker depot) (length sheet) sheet l
  -- each once
  pub once : Nodup (kits maker depot sheet)
  -- ascending: box 0 counts most, out before in
  pub ascending : Ascends before (kits maker depot sheet)
  -- First says "none" only when there is no such list, and Next only when none stands after the given one
  pub first_none : (out : List ℕ) → first_says maker depot sheet out ≡ refused (reason 9 0) →
      (l : List ℕ) → Kit (rules_in maker depot) (length sheet) sheet l → ⊥
  pub next_none : (given out : List ℕ) → next_says maker depot sheet given out ≡ refused (reason 9 0) →
      (l : List ℕ) → Kit (rules_in maker depot) (length sheet) sheet l → before given l ≡ false
  -- First and Next answer 9 where Fill would answer 7
  pub first_clash : (out : List ℕ) → InForm (order_checks maker depot sheet out) →
      fill_says maker depot sheet out ≡ refused (reason 7 0) → first_says maker depot sheet out ≡ refused (reason 9 0)
  pub next_clash : (given out : List ℕ) → InForm (next_checks maker depot sheet given out) →
      fill_says maker depot sheet out ≡ refused (reason 7 0) → next_says maker depot sheet given out ≡ refused (reason 9 0)
