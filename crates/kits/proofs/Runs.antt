-- A run of calls: there is one that hands out the kits in their order, and its lists are decided.
-- Assumes nothing.
use mathlib.Core.Path.{◌≡◌, refl, sym, ap, ap₂, subst, ◌∙◌}
use mathlib.Core.List.{List, [], ◌∷◌, ◌++◌, append_assoc, Memᴰ}
use Prim.Native.Nat.{ℕ, suc}
use lib.ListN.{length}
use Rattle.lemmas.specs.Lists.{those}
use Rattle.lemmas.specs.Ascends.{Ascends}
use Rattle.lemmas.proofs.Ascending.{ascends_after}
use Rattle.spec.specs.Refusals.{reason, refused, passed, judge, sheet_checks}
use Rattle.spec.specs.Kits.{before, handed_out, kits, kits_after}
use Rattle.spec.proofs.Judge.{refused_answered}
use Rattle.kits.specs.Kit.{IsFull}
use Rattle.kits.specs.Runs.{Nexts, done, handed, Asked, none, first}
use Rattle.kits.proofs.Order.{before_irrefl, before_asym}
use Rattle.kits.proofs.Kits.{kits_in_order}
use Rattle.kits.proofs.Says.{first_head, first_empty, next_head, next_empty}
use Rattle.kits.proofs.Form.{first_passes, next_passes}

-- a list of the kits, with those before it and those behind it
module _ (maker depot sheet : List ℕ) (front : List (List ℕ)) (l : List ℕ) (rest : List (List ℕ))
    (e : kits maker depot sheet ≡ front ++ l ∷ rest) where
  -- after it come those behind it
  pub kits_behind : kits_after maker depot sheet l ≡ rest
  unfolding kits_after
  kits_behind =
      ap (those (before l)) e
      ∙ ascends_after before before_irrefl before_asym front l rest (subst (Ascends before) e (kits_in_order maker depot sheet).ascends)

  pub kits_full : IsFull (length sheet) l
  kits_full =
      let here : Memᴰ l (front ++ l ∷ rest) = mathlib.Core.List.Memᴰ.append_right front (mathlib.Core.List.Memᴰ.head refl) in
      (((kits_in_order maker depot sheet).exactly l).0 (subst (Memᴰ l) (sym e) here)).full

-- tables and sheet pass the checks, and every buffer lent has the sheet's length
module _ (maker depot sheet : List ℕ) (lent : ℕ → List ℕ)
    (passes : judge (sheet_checks maker depot sheet) passed ≡ passed) (long : (i : ℕ) → length (lent i) ≡ length sheet) where
  -- Next hands them out one after the other
  nexts_kits : (i : ℕ) (front : List (List ℕ)) (l : List ℕ) (rest : List (List ℕ)) →
      kits maker depot sheet ≡ front ++ l ∷ rest → Nexts maker depot sheet lent i l rest
  nexts_kits i front l [] e =
      let form = next_passes maker depot sheet passes (lent i) (long i) l (kits_full maker depot sheet front l [] e) in
      done (next_empty maker depot sheet l (lent i) form (kits_behind maker depot sheet front l [] e)).0
  nexts_kits i front l (k ∷ rest) e =
      let form = next_passes maker depot sheet passes (lent i) (long i) l (kits_full maker depot sheet front l (k ∷ rest) e) in
      let next = next_head maker depot sheet l (lent i) form k rest (kits_behind maker depot sheet front l (k ∷ rest) e) in
      handed next.0 next.1 (nexts_kits (suc i) (front ++ l ∷ []) k rest (e ∙ sym (append_assoc front (l ∷ []) (k ∷ rest))))

  asked_as : (ls : List (List ℕ)) → kits maker depot sheet ≡ ls → Asked maker depot sheet lent ls
  asked_as [] e =
      let form = first_passes maker depot sheet passes (lent 0) (long 0) in
      none (first_empty maker depot sheet (lent 0) form e).0
  asked_as (l ∷ rest) e =
      let form = first_passes maker depot sheet passes (lent 0) (long 0) in
      let answer = first_head maker depot sheet (lent 0) form l rest e in
      first answer.0 answer.1 (nexts_kits 1 [] l rest e)

  pub asked_kits : Asked maker depot sheet lent (kits maker depot sheet)
  asked_kits = asked_as (kits maker depot sheet) refl

nine_list : refused (reason 9 0) ≡ handed_out → ⊥
nine_list = refused_answered

-- the lists handed out are decided
module _ {maker depot sheet : List ℕ} {lent : ℕ → List ℕ} where
  nexts_same : {i : ℕ} {given : List ℕ} {ls ks : List (List ℕ)} →
      Nexts maker depot sheet lent i given ls → Nexts maker depot sheet lent i given ks → ls ≡ ks
  nexts_same (done e) (done f) = refl
  nexts_same (done e) (handed f w r) = absurd (nine_list (sym e ∙ f))
  nexts_same (handed e w r) (done f) = absurd (nine_list (sym f ∙ e))
  nexts_same (handed {i} e w r) (handed {ls = ks} f v s) =
      ap₂ ◌∷◌ (sym w ∙ v)
      (nexts_same r (subst (λ (x : List ℕ). Nexts maker depot sheet lent (suc i) x ks) (sym v ∙ w) s))

  pub asked_same : {ls ks : List (List ℕ)} → Asked maker depot sheet lent ls → Asked maker depot sheet lent ks → ls ≡ ks
  asked_same (none e) (none f) = refl
  asked_same (none e) (first f w r) = absurd (nine_list (sym e ∙ f))
  asked_same (first e w r) (none f) = absurd (nine_list (sym f ∙ e))
  asked_same (first e w r) (first {ls = ks} f v s) =
      ap₂ ◌∷◌ (sym w ∙ v)
      (nexts_same r (subst (λ (x : List ℕ). Nexts maker depot sheet lent 1 x ks) (sym v ∙ w) s))
