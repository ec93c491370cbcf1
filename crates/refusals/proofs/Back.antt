-- A refusal, and an operation's answer, had back from what is said of it; so two answers that a promise allows are equal.
-- Assumes nothing.
use mathlib.Core.Path.{◌≡◌, refl, sym, ap, ◌∙◌}
use mathlib.Core.List.{List, [], ◌∷◌}
use Prim.Native.Nat.{ℕ}
use lib.ListN.{get_or}
use Rattle.std.specs.Prelude.{Result, Ok, Err}
use Rattle.spec.specs.Refusals.{Refusal as Numbered, numbered, Said, refused, answered, Does}
use Rattle.spec.proofs.Judge.{does_unique}
use Rattle.refusals.specs.declared.Refusal.{Refusal}
use Rattle.refusals.specs.declared.Refusal.TheVariants.{BoxCount, MakerLength, DepotLength, RecordCount, BadRecord, SheetByte, GivenLength}
use Rattle.refusals.specs.declared.Refusal.TheVariants.{OutLength, ListByte, Clash, Broken, NoList, LinesLength, WrongLine}
use Rattle.refusals.specs.Telling.{refusal_of, refused_numbers, numbers_from, refusal_in, said}

-- any refusal is had back from its numbers
pub numbers_back : (why : Numbered) → refusal_in (numbers_from (refused_numbers why)) ≡ why
numbers_back (numbered number place) = refl

-- the refusal that a number and a place stand for
unfoldable pub refusal_for : Numbered → Refusal
refusal_for (numbered number place) =
    get_or
    (BoxCount
    ∷ BoxCount
    ∷ get_or (MakerLength ∷ DepotLength ∷ RecordCount ∷ []) place BoxCount
    ∷ BadRecord place
    ∷ SheetByte place
    ∷ get_or (GivenLength ∷ OutLength ∷ []) place BoxCount
    ∷ ListByte place
    ∷ Clash
    ∷ Broken place
    ∷ NoList
    ∷ LinesLength
    ∷ WrongLine place
    ∷ [])
    number
    BoxCount

pub refusal_back : (why : Refusal) → refusal_for (refusal_of why) ≡ why
unfolding refusal_for
refusal_back BoxCount = refl
refusal_back MakerLength = refl
refusal_back DepotLength = refl
refusal_back RecordCount = refl
refusal_back (BadRecord number) = refl
refusal_back (SheetByte box) = refl
refusal_back GivenLength = refl
refusal_back OutLength = refl
refusal_back (ListByte box) = refl
refusal_back Clash = refl
refusal_back (Broken number) = refl
refusal_back NoList = refl
refusal_back LinesLength = refl
refusal_back (WrongLine line) = refl

-- two results that a promise allows are equal, where each answer can be had back from what it says
pub answer_unique : {X A : Type 0} (says : X → Said A) (back : Said A → X) → ((x : X) → back (says x) ≡ x) →
    {due : Said A} {bytes : List ℕ} (r s : X) {left last : List ℕ} → Does due bytes (says r) left → Does due bytes (says s) last →
    (r ≡ s) × (left ≡ last)
answer_unique says back had r s p q =
    let same = does_unique p q in
    (sym (had r) ∙ ap back same.0 ∙ had s, same.1)

-- the answer that says it, where the operation's own kind of answer can be had back
abbrev pub answer_for : {A B : Type 0} → (back : B → A) → Said B → Result A Refusal
answer_for back (refused why) = Err (refusal_for why)
answer_for back (answered answer) = Ok (back answer)

-- two answers that say the same are equal, and two results that a promise allows
module _ {A B : Type 0} (own : A → B) (back : B → A) (had : (a : A) → back (own a) ≡ a) where
  answer_back : (r : Result A Refusal) → answer_for back (said own r) ≡ r
  answer_back (Ok a) = ap Ok (had a)
  answer_back (Err why) = ap Err (refusal_back why)

  pub said_unique : (r s : Result A Refusal) → said own r ≡ said own s → r ≡ s
  said_unique r s e = sym (answer_back r) ∙ ap (answer_for back) e ∙ answer_back s

  pub result_unique : {due : Said B} {bytes : List ℕ} (r s : Result A Refusal) {left last : List ℕ} →
      Does due bytes (said own r) left → Does due bytes (said own s) last → (r ≡ s) × (left ≡ last)
  result_unique = answer_unique (said own) (answer_for back) answer_back
