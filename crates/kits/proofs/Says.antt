-- What First and Next say and write, by the answer to their question: the list found, or 9; where the form refuses, that refusal.
-- A refusal leaves the out buffer as it was.
-- Assumes nothing.
use mathlib.Core.Path.{◌≡◌, ap, ◌∙◌}
use mathlib.Core.Bool.{true, false}
use mathlib.Core.List.{List, [], ◌∷◌}
use Prim.Native.Nat.{ℕ}
use Rattle.spec.specs.Refusals.{Refusal, reason, Said, refused, passed, Check, judge, written, order_checks, next_checks}
use Rattle.spec.specs.Kits.{is_none, head_of, none_check, handed_out, hands_out, kits, kits_after, first_says, first_writes, next_says, next_writes}
use Rattle.spec.proofs.Judge.{judge_passed, judge_refused}
use Rattle.kits.specs.Order.{AnswerTo}
use Rattle.kits.specs.Kit.{FirstAsks, NextAsks}
use Rattle.kits.proofs.Answers.{answer_none, answer_found}
use Rattle.kits.proofs.Kits.{kits_in_order, after_in_order}

-- what is said of the lists that a question has, after these checks of form; and what is written
abbrev says_of : List Check → List (List ℕ) → Said (Unit {0})
says_of form ls = judge form (hands_out ls)

abbrev writes_of : List Check → List (List ℕ) → List ℕ → List ℕ
writes_of form ls out = written (says_of form ls) (head_of ls) out

module _ (form : List Check) (ls : List (List ℕ)) (out : List ℕ) where
  -- the head is handed out
  says_list : judge form passed ≡ passed → (l : List ℕ) (rest : List (List ℕ)) → ls ≡ l ∷ rest →
      (says_of form ls ≡ handed_out) × (writes_of form ls out ≡ l)
  unfolding is_none head_of none_check
  says_list e l rest same =
      let says : says_of form ls ≡ handed_out = judge_passed form _ e ∙ rw same in
      (says, ap (λ (s : Said (Unit {0})). written s (head_of ls) out) says ∙ ap head_of same)

  says_none : judge form passed ≡ passed → ls ≡ [] → (says_of form ls ≡ refused (reason 9 0)) × (writes_of form ls out ≡ out)
  unfolding is_none none_check
  says_none e none =
      let says : says_of form ls ≡ refused (reason 9 0) = judge_passed form _ e ∙ rw none in
      (says, ap (λ (s : Said (Unit {0})). written s (head_of ls) out) says)

  says_refused : {why : Refusal} → judge form passed ≡ refused why →
      (says_of form ls ≡ refused why) × (writes_of form ls out ≡ out)
  says_refused e = let says = judge_refused form _ e in (says, ap (λ (s : Said (Unit {0})). written s (head_of ls) out) says)

-- First
module _ (maker depot sheet out : List ℕ) where
  abbrev pub FirstIs : Said (Unit {0}) → List ℕ → Type 0
  FirstIs said wrote = (first_says maker depot sheet out ≡ said) × (first_writes maker depot sheet out ≡ wrote)

  module _ (passes : judge (order_checks maker depot sheet out) passed ≡ passed) where
    -- by the kits
    pub first_head : (l : List ℕ) (rest : List (List ℕ)) → kits maker depot sheet ≡ l ∷ rest → FirstIs handed_out l
    unfolding first_says first_writes
    first_head = says_list (order_checks maker depot sheet out) (kits maker depot sheet) out passes

    pub first_empty : kits maker depot sheet ≡ [] → FirstIs (refused (reason 9 0)) out
    unfolding first_says first_writes
    first_empty = says_none (order_checks maker depot sheet out) (kits maker depot sheet) out passes

    -- by the answer to its question
    pub first_found : (l : List ℕ) → AnswerTo (FirstAsks maker depot sheet) true l → FirstIs handed_out l
    first_found l h =
        let r = answer_found (kits maker depot sheet) l (kits_in_order maker depot sheet) h in
        first_head l r.0 r.1

    pub first_none : (x : List ℕ) → AnswerTo (FirstAsks maker depot sheet) false x → FirstIs (refused (reason 9 0)) out
    first_none x h = first_empty (answer_none (kits maker depot sheet) x (kits_in_order maker depot sheet) h)

  pub first_refused : {why : Refusal} → judge (order_checks maker depot sheet out) passed ≡ refused why →
      FirstIs (refused why) out
  unfolding first_says first_writes
  first_refused = says_refused (order_checks maker depot sheet out) (kits maker depot sheet) out

-- Next
module _ (maker depot sheet given out : List ℕ) where
  abbrev pub NextIs : Said (Unit {0}) → List ℕ → Type 0
  NextIs said wrote = (next_says maker depot sheet given out ≡ said) × (next_writes maker depot sheet given out ≡ wrote)

  module _ (passes : judge (next_checks maker depot sheet given out) passed ≡ passed) where
    pub next_head : (l : List ℕ) (rest : List (List ℕ)) → kits_after maker depot sheet given ≡ l ∷ rest → NextIs handed_out l
    unfolding next_says next_writes
    next_head = says_list (next_checks maker depot sheet given out) (kits_after maker depot sheet given) out passes

    pub next_empty : kits_after maker depot sheet given ≡ [] → NextIs (refused (reason 9 0)) out
    unfolding next_says next_writes
    next_empty = says_none (next_checks maker depot sheet given out) (kits_after maker depot sheet given) out passes

    pub next_found : (l : List ℕ) → AnswerTo (NextAsks maker depot sheet given) true l → NextIs handed_out l
    next_found l h =
        let r = answer_found (kits_after maker depot sheet given) l (after_in_order maker depot sheet given) h in
        next_head l r.0 r.1

    pub next_none : (x : List ℕ) → AnswerTo (NextAsks maker depot sheet given) false x → NextIs (refused (reason 9 0)) out
    next_none x h = next_empty (answer_none (kits_after maker depot sheet given) x (after_in_order maker depot sheet given) h)

  pub next_refused : {why : Refusal} → judge (next_checks maker depot sheet given out) passed ≡ refused why →
      NextIs (refused why) out
  unfolding next_says next_writes
  next_refused = says_refused (next_checks maker depot sheet given out) (kits_after maker depot sheet given) out
