-- Runs of calls: First is asked, and then Next after each list handed out, until the answer is 9. The calls are numbered from 0, and
-- call i is lent the out buffer `lent i`.
-- Assumes nothing.
use Rattle.std.specs.Prelude.{◌≡◌, List, [], ◌∷◌, ℕ, suc}
use Rattle.spec.specs.Refusals.{reason, refused}
use Rattle.spec.specs.Kits.{handed_out, first_says, first_writes, next_says, next_writes}

-- from call i on, which asks Next after the given list: the lists handed out
pub data Nexts (maker depot sheet : List ℕ) (lent : ℕ → List ℕ) : ℕ → List ℕ → List (List ℕ) → Type 0 where
  done : {i : ℕ} {given : List ℕ} → next_says maker depot sheet given (lent i) ≡ refused (reason 9 0) →
      Nexts maker depot sheet lent i given []
  handed : {i : ℕ} {given l : List ℕ} {ls : List (List ℕ)} →
      next_says maker depot sheet given (lent i) ≡ handed_out → next_writes maker depot sheet given (lent i) ≡ l →
      Nexts maker depot sheet lent (suc i) l ls → Nexts maker depot sheet lent i given (l ∷ ls)

-- the whole run: the lists handed out
pub data Asked (maker depot sheet : List ℕ) (lent : ℕ → List ℕ) : List (List ℕ) → Type 0 where
  none : first_says maker depot sheet (lent 0) ≡ refused (reason 9 0) → Asked maker depot sheet lent []
  first : {l : List ℕ} {ls : List (List ℕ)} →
      first_says maker depot sheet (lent 0) ≡ handed_out → first_writes maker depot sheet (lent 0) ≡ l →
      Nexts maker depot sheet lent 1 l ls → Asked maker depot sheet lent (l ∷ ls)
