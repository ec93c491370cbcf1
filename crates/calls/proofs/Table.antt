-- The rows of the calls, as the code has them.
-- Assumes nothing.
use mathlib.Core.Path.{◌≡◌, refl}
use mathlib.Core.Bool.{Bool, true, false, cond}
use mathlib.Core.List.{List, [], ◌∷◌, map}
use Prim.Native.Nat.{ℕ, suc, ◌≤◌, ◌<◌}
use native.Mathlib.Omega.{arith}
use Rattle.std.proofs.Common.{Some, None}
use lib.Dec.{eqb, eqb-zero-suc, eqb-suc-suc}
use lib.ListN.{length, get_or, get_or-eq_default}
use Rattle.lemmas.proofs.Table.{table_agree}
use Rattle.lemmas.specs.Same.{same_list}
use Rattle.text.specs.Spelling.{ascii}
use Rattle.fields.specs.Fields.{is}
use Rattle.lemmas.proofs.Lowest.{some_below, none_below}
use Rattle.fields.specs.Words.{place_among, found_among}
use Rattle.calls.specs.Words.{error_for}
use Rattle.calls.specs.Rows.{Row, call_rows, no_row, row_at, row_of}
use Rattle.calls.specs.Lines.{answer_in, answer_by}
use Rattle.calls.specs.Room.{row_number}
use Rattle.calls.specs.declared.rows.Call.{Call}
use Rattle.calls.specs.declared.rows.Call.TheVariants.{Fill, Test, Show, First, Next}

-- the answer by a row's number
answer_place : (rs : List Row) (none : Row) (w : List ℕ) (fs : List (List ℕ)) (k : ℕ) → k ≡ place_among w (map (λ r. ascii r.word) rs) →
    answer_by rs w fs ≡ cond (eqb k (length rs)) (error_for (ascii "word")) (answer_in (get_or rs k none) fs)
unfolding is
answer_place [] none w fs k e = rw e
answer_place (r ∷ rs) none w fs k e = at (same_list eqb w (ascii r.word)) k e (answer_place rs none w fs)
  where
    at : (b : Bool) (k : ℕ) → k ≡ cond b 0 (suc (place_among w (map (λ r. ascii r.word) rs))) →
        ((k : ℕ) → k ≡ place_among w (map (λ r. ascii r.word) rs) →
        answer_by rs w fs ≡ cond (eqb k (length rs)) (error_for (ascii "word")) (answer_in (get_or rs k none) fs)) →
        cond b (answer_in r fs) (answer_by rs w fs)
        ≡ cond (eqb k (suc (length rs))) (error_for (ascii "word")) (answer_in (get_or (r ∷ rs) k none) fs)
    at true k e rest = rw (e, eqb-zero-suc)
    at false k e rest = rw (e, eqb-suc-suc) (rest _ refl)

-- the number of a row is at most that of all
place_most : (w : List ℕ) (ws : List (List ℕ)) → place_among w ws ≤ length ws
place_most w [] = omega arith
place_most w (p ∷ ws) = at (same_list eqb w p) (place_most w ws)
  where
    at : (b : Bool) → place_among w ws ≤ length ws → cond b 0 (suc (place_among w ws)) ≤ suc (length ws)
    at true h = omega arith
    at false h = omega arith

-- the answer by the number of the row
pub answer_row : (w : List ℕ) (fs : List (List ℕ)) →
    answer_by call_rows w fs ≡ cond (eqb (row_of w) (length call_rows)) (error_for (ascii "word")) (answer_in (row_at (row_of w)) fs)
unfolding row_of row_at
answer_row w fs = answer_place call_rows no_row w fs (row_of w) refl

-- behind the last row nothing is answered
pub row_past : (k : ℕ) → length call_rows ≤ k → (part : ℕ → List ℕ) → (row_at k).answer part ≡ []
unfolding row_at
row_past k h part = rw (get_or-eq_default call_rows no_row h)

-- a word that is found has its row, and one that is not has none
pub word_found : (w : List ℕ) {k : ℕ} → Some k ≡ found_among w (map (λ r. ascii r.word) call_rows) → (k < length call_rows) × (k ≡ row_of w)
unfolding row_of
word_found w e =
    let (same, below) = some_below (place_among w (map (λ r. ascii r.word) call_rows)) 5 e in (omega arith, same)

pub word_missing : (w : List ℕ) → None ≡ found_among w (map (λ r. ascii r.word) call_rows) → length call_rows ≡ row_of w
unfolding row_of
word_missing w e =
    let rows = map (λ r. ascii r.word) call_rows in
    omega (arith, place_most w rows, none_below (place_among w rows) 5 e)

-- the calls in the order of their rows
pub call_numbered : (k : ℕ) → k < 5 → row_number (get_or (Fill ∷ Test ∷ Show ∷ First ∷ Next ∷ []) k Fill) ≡ k
call_numbered k h = table_agree (λ j. row_number (get_or (Fill ∷ Test ∷ Show ∷ First ∷ Next ∷ []) j Fill)) (λ j. j) 5 refl k h

pub row_below : (call : Call) → row_number call < length call_rows
row_below Fill = omega arith
row_below Test = omega arith
row_below Show = omega arith
row_below First = omega arith
row_below Next = omega arith

-- every call has some fields, and eight at most
pub row_many : (call : Call) → (1 ≤ (row_at (row_number call)).many) × ((row_at (row_number call)).many ≤ 8)
unfolding row_at
row_many Fill = (omega arith, omega arith)
row_many Test = (omega arith, omega arith)
row_many Show = (omega arith, omega arith)
row_many First = (omega arith, omega arith)
row_many Next = (omega arith, omega arith)
