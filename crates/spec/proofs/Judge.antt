-- Checks in a row: what `judge` says of two lists of checks, and of what comes after them.
-- Assumes nothing.
use mathlib.Core.Path.{◌≡◌, refl, sym, ap, ◌∙◌}
use mathlib.Core.Bool.{Bool, true, false, cond}
use mathlib.Core.List.{List, [], ◌∷◌, ◌++◌}
use Prim.Native.Nat.{ℕ}
use native.Mathlib.Omega.{arith}
use Rattle.spec.specs.Refusals.{Refusal, Said, refused, answered, passed, Check, judge, written, Does}

pub judge_append : {A : Type 0} (cs ds : List Check) (a : Said A) → judge (cs ++ ds) a ≡ judge cs (judge ds a)
judge_append [] ds a = refl
judge_append (c ∷ cs) ds a = rw (judge_append cs ds a)

pub refused_answered : {A : Type 0} {why : Refusal} {a : A} → refused why ≡ answered a → ⊥
refused_answered e = let z : ◌≡◌ {A = ℕ} 0 1 = cc in omega arith

-- none of the checks applies
abbrev pub Passes : List Check → Type 0
Passes [] = Unit {0}
Passes (c ∷ cs) = (c.when ≡ false) × Passes cs

pub judge_passes : (cs : List Check) → judge cs passed ≡ passed → Passes cs
judge_passes [] e = tt
judge_passes (c ∷ cs) e = go c.when e (judge_passes cs)
  where
    go : (t : Bool) → cond t (refused c.why) (judge cs passed) ≡ passed →
        (judge cs passed ≡ passed → Passes cs) → (t ≡ false) × Passes cs
    go true e h = absurd (refused_answered e)
    go false e h = (refl, h e)

-- then what comes after them is said
passes_judge : {A : Type 0} (cs : List Check) (a : Said A) → Passes cs → judge cs a ≡ a
passes_judge [] a p = refl
passes_judge (c ∷ cs) a p = rw p.0 (passes_judge cs a p.1)

pub judge_passed : {A : Type 0} (cs : List Check) (a : Said A) → judge cs passed ≡ passed → judge cs a ≡ a
judge_passed cs a e = passes_judge cs a (judge_passes cs e)

-- one of the checks applies: it is said, whatever comes after
pub judge_refused : {A : Type 0} (cs : List Check) (a : Said A) {why : Refusal} → judge cs passed ≡ refused why → judge cs a ≡ refused why
judge_refused [] a e = absurd (refused_answered (sym e))
judge_refused (c ∷ cs) a {why} e = go c.when e (judge_refused cs a)
  where
    go : (t : Bool) → cond t (refused c.why) (judge cs passed) ≡ refused why →
        (judge cs passed ≡ refused why → judge cs a ≡ refused why) →
        cond t (refused c.why) (judge cs a) ≡ refused why
    go true e h = let same : c.why ≡ why = cc in ap refused same
    go false e h = h e

-- an answer comes after checks that have passed
pub judge_reached : {A : Type 0} (cs : List Check) (a : Said A) {b : A} → judge cs a ≡ answered b → (judge cs passed ≡ passed) × (a ≡ answered b)
judge_reached [] a e = (refl, e)
judge_reached (c ∷ cs) a {b} e = go c.when e (judge_reached cs a)
  where
    go : (t : Bool) → cond t (refused c.why) (judge cs a) ≡ answered b →
        (judge cs a ≡ answered b → (judge cs passed ≡ passed) × (a ≡ answered b)) →
        (cond t (refused c.why) (judge cs passed) ≡ passed) × (a ≡ answered b)
    go true e h = absurd (refused_answered e)
    go false e h = h e

module _ (cs ds : List Check) where
  -- the first checks pass: the others decide
  pub judge_then : {A : Type 0} (a : Said A) → judge cs passed ≡ passed → judge (cs ++ ds) a ≡ judge ds a
  judge_then a e = judge_append cs ds a ∙ judge_passed cs (judge ds a) e

  -- where all pass, the first do, and the others
  pub judge_left : judge (cs ++ ds) passed ≡ passed → judge cs passed ≡ passed
  judge_left e = (judge_reached cs (judge ds passed) (sym (judge_append cs ds passed) ∙ e)).0

  pub judge_right : judge (cs ++ ds) passed ≡ passed → judge ds passed ≡ passed
  judge_right e = (judge_reached cs (judge ds passed) (sym (judge_append cs ds passed) ∙ e)).1

-- two lists of checks, one after the other: the first refuse; or they pass, and the others decide
module _ (cs ds : List Check) where
  pub chain_refused : {A : Type 0} (a : Said A) {why : Refusal} → refused why ≡ judge cs passed → refused why ≡ judge (cs ++ ds) a
  chain_refused a e = sym (judge_append cs ds a ∙ judge_refused cs (judge ds a) (sym e))

  pub chain_passed : {said : Said (Unit {0})} → passed ≡ judge cs passed → said ≡ judge ds passed → said ≡ judge (cs ++ ds) passed
  chain_passed first second = second ∙ sym (judge_then cs ds passed (sym first))

-- an operation that is lent a buffer: its checks come first, and a refusal leaves the buffer as it was
module _ {A : Type 0} (cs : List Check) (after : Said A) (new old : List ℕ) where
  pub does_refused : {why : Refusal} → judge cs passed ≡ refused why → Does (judge cs after) (written (judge cs after) new old) (refused why) old
  does_refused e =
      let said = judge_refused cs after e in
      record { says = sym said; writes = sym (ap (λ (s : Said A). written s new old) said) }

  pub does_passed : {answer : Said A} {left : List ℕ} → judge cs passed ≡ passed → Does after (written after new old) answer left →
      Does (judge cs after) (written (judge cs after) new old) answer left
  does_passed e does =
      let said = judge_passed cs after e in
      record { says = does.says ∙ sym said; writes = does.writes ∙ sym (ap (λ (s : Said A). written s new old) said) }

-- two results that such a promise allows are equal
pub does_unique : {A : Type 0} {due : A} {bytes : List ℕ} {a b : A} {left last : List ℕ} → Does due bytes a left → Does due bytes b last →
    (a ≡ b) × (left ≡ last)
does_unique p q = (p.says ∙ sym q.says, p.writes ∙ sym q.writes)
