-- Checks in their order: which refusal they give, and what comes after them.
-- Assumes nothing.
use mathlib.Core.Path.{◌≡◌, refl, sym, ap, ◌∙◌}
use mathlib.Core.Logic.{◌⊎◌, inl, inr}
use mathlib.Core.Bool.{Bool, true, false, cond, true≢false, ◌&&◌}
use mathlib.Core.List.Memᴰ
use mathlib.Core.List.{List, [], ◌∷◌, ◌++◌}
use Prim.Native.Nat.{◌<◌}
use native.Mathlib.Omega.{arith}
use lib.Dec.{T, ltb, ltb→lt}
use Rattle.lemmas.proofs.Tests.{both_left, both_right}
use Rattle.spec.specs.Refusals.{Refusal, number_of, Said, refused, passed, Check, judge}
use Rattle.claims.specs.Demands.{FirstApplies, here, past, InForm, RefusesBy}

-- a call in form passes its checks
pub form_passes : (cs : List Check) → InForm cs → judge cs passed ≡ passed
form_passes [] form = refl
form_passes (c ∷ cs) form = rw (form c (Memᴰ.head refl)) (form_passes cs (λ d m. form d (Memᴰ.tail m)))

-- then none is the first that applies
form_none : {cs : List Check} {c : Check} → InForm cs → FirstApplies cs c → ⊥
form_none form (here {c} e) = true≢false (sym e ∙ form c (Memᴰ.head refl))
form_none form (past e f) = form_none (λ d m. form d (Memᴰ.tail m)) f

-- the first that applies is given, whatever comes after
first_judged : {A : Type 0} (after : Said A) {cs : List Check} {c : Check} → FirstApplies cs c → judge cs after ≡ refused c.why
first_judged after (here e) = rw e
first_judged after (past e f) = rw e (first_judged after f)

abbrev FirstWith : List Check → Refusal → Type 0
FirstWith cs why = (c : Check) × FirstApplies cs c × (c.why ≡ why)

-- and a refusal is that of the first that applies, or comes after
judged_first : {A : Type 0} (cs : List Check) (after : Said A) {why : Refusal} → judge cs after ≡ refused why →
    FirstWith cs why ⊎ (after ≡ refused why)
judged_first [] after e = inr e
judged_first (c ∷ cs) after {why} e = go c.when refl e (judged_first cs after)
  where
    on : c.when ≡ false → FirstWith cs why ⊎ (after ≡ refused why) → FirstWith (c ∷ cs) why ⊎ (after ≡ refused why)
    on f (inl found) = inl (found.0, past f found.1, found.2)
    on f (inr e) = inr e

    go : (t : Bool) → c.when ≡ t → cond t (refused c.why) (judge cs after) ≡ refused why →
        (judge cs after ≡ refused why → FirstWith cs why ⊎ (after ≡ refused why)) →
        FirstWith (c ∷ cs) why ⊎ (after ≡ refused why)
    go true w e h = inl (c, here w, cc)
    go false w e h = on w (h e)

-- a refusal of form: its number is one of 1 to 6
abbrev pub OfForm : Refusal → Type 0
OfForm why = (0 < number_of why) × (number_of why < 7)

pub of_form : (c : Check) → T (ltb 0 (number_of c.why) && ltb (number_of c.why) 7) → OfForm c.why
of_form c t =
    let number = number_of c.why in
    (ltb→lt 0 number (both_left (ltb 0 number) (ltb number 7) t), ltb→lt number 7 (both_right (ltb 0 number) (ltb number 7) t))

-- each of the checks makes one
abbrev pub EachOfForm : List Check → Type 0
EachOfForm [] = Unit {0}
EachOfForm (c ∷ cs) = OfForm c.why × EachOfForm cs

pub each_append : (cs ds : List Check) → EachOfForm cs → EachOfForm ds → EachOfForm (cs ++ ds)
each_append [] ds one other = other
each_append (c ∷ cs) ds one other = (one.0, each_append cs ds one.1 other)

first_of_form : {cs : List Check} {c : Check} → EachOfForm cs → FirstApplies cs c → OfForm c.why
first_of_form each (here e) = each.0
first_of_form each (past e f) = first_of_form each.1 f

-- what comes after them is no refusal of form
abbrev pub AfterForm : {A : Type 0} → Said A → Type 0
AfterForm after = (why : Refusal) → number_of why < 7 → after ≡ refused why → ⊥

module _ {A : Type 0} (cs : List Check) (after : Said A) (each : EachOfForm cs) (own : AfterForm after) where
  only_first : (why : Refusal) → number_of why < 7 → judge cs after ≡ refused why → FirstWith cs why
  only_first why small e = go (judged_first cs after e)
    where
      go : FirstWith cs why ⊎ (after ≡ refused why) → FirstWith cs why
      go (inl found) = found
      go (inr e) = absurd (own why small e)

  pub refuses_by : RefusesBy cs (judge cs after)
  refuses_by =
      record {
        given = λ c f. first_judged after f;
        numbered = λ c f. first_of_form each f;
        only = only_first;
        none = λ form why small e. form_none form (only_first why small e).1;
      }

-- a refusal by another number is not the checks'
pub said_after : {A : Type 0} (cs : List Check) (after : Said A) → EachOfForm cs → (why : Refusal) → 6 < number_of why →
    judge cs after ≡ refused why → after ≡ refused why
said_after cs after each why large e = go (judged_first cs after e)
  where
    go : FirstWith cs why ⊎ (after ≡ refused why) → after ≡ refused why
    go (inl found) =
        let form = first_of_form each found.1 in
        absurd (omega (arith, form.1, ap number_of found.2))
    go (inr e) = e
