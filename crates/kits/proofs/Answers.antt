-- Answers to questions about lists: there is one answer; questions with the same lists have the same one; and of lists that are
-- written down in order it is the head.
-- Assumes nothing.
use mathlib.Core.Path.{◌≡◌, refl, sym, ap, ◌∙◌}
use mathlib.Core.Logic.{◌↔◌}
use mathlib.Core.Bool.{Bool, true, false, true≢false, not}
use mathlib.Core.List.Memᴰ
use mathlib.Core.List.{List, [], ◌∷◌, Memᴰ}
use Prim.Native.Nat.{ℕ}
use lib.Dec.{T}
use Rattle.lemmas.specs.Lists.{those}
use Rattle.lemmas.specs.Ascends.{Ascends}
use Rattle.lemmas.proofs.Those.{those_member, member_those}
use Rattle.lemmas.proofs.Ascending.{ascends_those}
use Rattle.spec.specs.Kits.{before, is_none, head_of}
use Rattle.kits.specs.Order.{Question, AnswerTo}
use Rattle.kits.proofs.Order.{before_irrefl, before_asym}

pub answer_same : {P Q : Question} → ((k : List ℕ) → P k ↔ Q k) → (found : Bool) (l : List ℕ) → AnswerTo P found l → AnswerTo Q found l
answer_same e true l h = record { has = (e l).0 h.has; first = λ k q. h.first k ((e k).1 q) }
answer_same e false l h = λ k q. h k ((e k).1 q)

-- the lists of a question, written down in order
pub record InOrder (P : Question) (ls : List (List ℕ)) : Type 0 where
  pub ascends : Ascends before ls
  pub exactly : (k : List ℕ) → Memᴰ k ls ↔ P k

-- of them those that pass a test
pub in_order_those : {P Q : Question} (t : List ℕ → Bool) → ((k : List ℕ) → (P k × T (t k)) ↔ Q k) → {ls : List (List ℕ)} → InOrder P ls →
    InOrder Q (those t ls)
in_order_those t e {ls} h =
    record {
      ascends = ascends_those before t ls h.ascends;
      exactly = λ k. (
        λ m. let r = member_those t ls m in (e k).0 ((h.exactly k).0 r.0, r.1),
        λ q. let r = (e k).1 q in those_member t ((h.exactly k).1 r.0) r.1,
      );
    }

module _ {P : Question} where
  -- the head is the first list with the property, and where nothing is written no list has it
  pub in_order_answers : (ls : List (List ℕ)) → InOrder P ls → AnswerTo P (not (is_none ls)) (head_of ls)
  unfolding is_none head_of
  in_order_answers [] h = λ k p. Memᴰ.not-nil ((h.exactly k).1 p)
  in_order_answers (l ∷ ls) h =
      record { has = (h.exactly l).0 (Memᴰ.head refl); first = λ k p. at k ((h.exactly k).1 p) }
    where
      at : (k : List ℕ) → Memᴰ k (l ∷ ls) → before k l ≡ false
      at k (Memᴰ.head e) = rw e (before_irrefl l)
      at k (Memᴰ.tail m) = before_asym l k (h.ascends.0 k m)

  -- and the other way: what an answer says of the lists written down
  pub answer_none : (ls : List (List ℕ)) (l : List ℕ) → InOrder P ls → AnswerTo P false l → ls ≡ []
  answer_none [] l h none = refl
  answer_none (k ∷ ls) l h none = absurd (none k ((h.exactly k).0 (Memᴰ.head refl)))

  pub answer_found : (ls : List (List ℕ)) (l : List ℕ) → InOrder P ls → AnswerTo P true l → (rest : List (List ℕ)) × (ls ≡ l ∷ rest)
  answer_found [] l h least = absurd (Memᴰ.not-nil ((h.exactly l).1 least.has))
  answer_found (k ∷ ls) l h least = at ((h.exactly l).1 least.has)
    where
      at : Memᴰ l (k ∷ ls) → (rest : List (List ℕ)) × (k ∷ ls ≡ l ∷ rest)
      at (Memᴰ.head e) = (ls, ap (λ (x : List ℕ). x ∷ ls) (sym e))
      at (Memᴰ.tail m) =
          absurd (true≢false (sym (h.ascends.0 l m) ∙ least.first k ((h.exactly k).0 (Memᴰ.head refl))))
