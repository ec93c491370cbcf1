-- Our list has as many lines as Fill fills boxes.
-- Assumes nothing.
use mathlib.Core.Path.{◌≡◌, refl, sym, ap, ◌∙◌}
use mathlib.Core.Bool.{Bool, true, false, cond, not, ◌&&◌}
use mathlib.Core.List.{List, [], ◌∷◌, Memᴰ}
use Prim.Native.Nat.{ℕ, zero, suc, ◌+◌, ◌≤◌, ◌<◌}
use native.Mathlib.Omega.{arith}
use borrow.Author.Tests.{ne_eqb}
use lib.Dec.{T, ltb, eqb, ltb→lt, eqb→eq, eqb_refl}
use lib.ListN.{length, get_or, set}
use Rattle.lemmas.specs.Lists.{count, upto}
use Rattle.lemmas.proofs.Indexed.{count_indexed}
use Rattle.lemmas.proofs.Members.{member_upto}
use Rattle.lemmas.proofs.Tests.{T_true, T_same}
use Rattle.lemmas.proofs.Reading.{get_d_default}
use Rattle.spec.specs.Records.{rules_in}
use Rattle.spec.specs.Facts.{Clash, settled}
use Rattle.spec.specs.Fill.{closure_of, open_count, boxes_filled}
use Rattle.spec.proofs.Accepted.{AcceptedSheet}
use Rattle.theory.proofs.States.{sheet_codes, open_back}
use Rattle.theory.proofs.Measure.{open_within}
use Rattle.whylists.specs.Ours.{next_box, state_by, next_line, lines_from, ours}
use Rattle.whylists.specs.After.{states_after}
use Rattle.whylists.proofs.Ends.{OnWay, way_next, opened, state_given, ends}
use Rattle.whylists.proofs.Ours.{ours_fills}

-- an open box settled is one open box less
open_one : (t : List ℕ) (b v : ℕ) → b < length t → get_or t b 2 ≡ 2 → v ≤ 1 → suc (open_count (set t b v)) ≡ open_count t
unfolding open_count
open_one [] b v h e small = absurd (omega arith)
open_one (a ∷ t) zero v h e small = rw (e, ne_eqb 2 v (λ is. omega arith))
open_one (a ∷ t) (suc b) v h e small = at (eqb 2 a) (open_one t b v (omega arith) e small)
  where
    at : (is : Bool) → suc (count (eqb 2) (set t b v)) ≡ count (eqb 2) t →
        suc (cond is (suc (count (eqb 2) (set t b v))) (count (eqb 2) (set t b v))) ≡ cond is (suc (count (eqb 2) t)) (count (eqb 2) t)
    at true rest = omega (arith, rest)
    at false rest = rest

module _ (maker depot sheet : List ℕ) where
  lines_open : (k : ℕ) (s : List ℕ) → OnWay maker depot sheet s →
      length (lines_from maker depot k s) + open_count (states_after s (lines_from maker depot k s)) ≡ open_count s
  unfolding next_line
  lines_open zero s way = omega arith
  lines_open (suc k) s way =
      at (ltb (next_box maker depot s) (length s)) refl (λ w. lines_open k (set s (next_box maker depot s) (state_by maker depot s)) w)
    where
      at : (goes : Bool) → ltb (next_box maker depot s) (length s) ≡ goes →
          (OnWay maker depot sheet (set s (next_box maker depot s) (state_by maker depot s)) →
          length (lines_from maker depot k (set s (next_box maker depot s) (state_by maker depot s)))
          + open_count (states_after (set s (next_box maker depot s) (state_by maker depot s)) (lines_from maker depot k (set s (next_box maker depot s) (state_by maker depot s))))
          ≡ open_count (set s (next_box maker depot s) (state_by maker depot s))) →
          length (cond goes (next_line maker depot s ∷ lines_from maker depot k (set s (next_box maker depot s) (state_by maker depot s))) [])
          + open_count (states_after s (cond goes (next_line maker depot s ∷ lines_from maker depot k (set s (next_box maker depot s) (state_by maker depot s))) []))
          ≡ open_count s
      at true e more =
          let goes = ltb→lt (next_box maker depot s) (length s) (T_true e) in
          let one = open_one s (next_box maker depot s) (state_by maker depot s) goes (opened maker depot sheet way goes) (state_given maker depot sheet way goes).0 in
          let rest = more (way_next maker depot sheet way goes) in
          omega (arith, one, rest)
      at false e more = omega arith

-- of those that pass p, those that pass q too and those that do not
count_split : (p q r : ℕ → Bool) (l : List ℕ) → ((b : ℕ) → Memᴰ b l → r b ≡ (p b && not (q b))) →
    ((b : ℕ) → Memᴰ b l → T (q b) → T (p b)) → count r l + count q l ≡ count p l
count_split p q r [] is within = refl
count_split p q r (b ∷ l) is within =
    at (p b) (q b) (r b) (is b (Memᴰ.head refl)) (within b (Memᴰ.head refl))
    (count_split p q r l (λ c m. is c (Memᴰ.tail m)) (λ c m. within c (Memᴰ.tail m)))
  where
    at : (p' q' r' : Bool) → r' ≡ (p' && not q') → (T q' → T p') → count r l + count q l ≡ count p l →
        cond r' (suc (count r l)) (count r l) + cond q' (suc (count q l)) (count q l) ≡ cond p' (suc (count p l)) (count p l)
    at true true r' e w rest = rw e (omega (arith, rest))
    at true false r' e w rest = rw e (omega (arith, rest))
    at false true r' e w rest = absurd (w tt)
    at false false r' e w rest = rw e (omega (arith, rest))

-- the boxes filled are the open ones less those that are open still
pub filled_open : (sheet c : List ℕ) → length c ≡ length sheet → ((b : ℕ) → b < length sheet → get_or c b 0 ≡ 2 → get_or sheet b 0 ≡ 2) →
    boxes_filled sheet c + open_count c ≡ open_count sheet
unfolding boxes_filled open_count
filled_open sheet c size still =
    rw (count_indexed (eqb 2) 0 c, count_indexed (eqb 2) 0 sheet, size)
    (count_split (λ b. eqb 2 (get_or sheet b 0)) (λ b. eqb 2 (get_or c b 0)) (λ b. eqb (get_or sheet b 0) 2 && not (eqb (get_or c b 0) 2)) (upto (length sheet))
    (λ b m. rw (turned (get_or sheet b 0), turned (get_or c b 0)))
    (λ b m t. rw (still b (member_upto (length sheet) m) (sym (eqb→eq 2 (get_or c b 0) t))) (eqb_refl 2)))
  where
    turned : (n : ℕ) → eqb n 2 ≡ eqb 2 n
    turned n = T_same (eqb n 2) (eqb 2 n) (λ t. rw (eqb→eq n 2 t) (eqb_refl 2)) (λ t. rw (sym (eqb→eq 2 n t)) (eqb_refl 2))

-- as many lines as Fill fills boxes
pub ours_count : (maker depot sheet : List ℕ) → AcceptedSheet (length sheet) maker depot sheet → ((b : ℕ) → Clash (rules_in maker depot) sheet b → ⊥) →
    length (ours maker depot sheet) ≡ boxes_filled sheet (closure_of maker depot sheet)
unfolding ours
ours_count maker depot sheet known none =
    let start : OnWay maker depot sheet sheet = record { size = refl; states = known.sheet_bytes; keeps = λ b state t. t; derived = λ b state t. settled t } in
    let end = (ends maker depot sheet (length sheet) sheet start (open_within sheet)).0 in
    let t = states_after sheet (lines_from maker depot (length sheet) sheet) in
    let lines = lines_open maker depot sheet (length sheet) sheet start in
    let still : (b : ℕ) → b < length sheet → get_or t b 0 ≡ 2 → get_or sheet b 0 ≡ 2 =
    λ b h e.
    get_d_default sheet b 0 2 h
    ∙ open_back sheet t (sheet_codes sheet known.sheet_bytes) end.keeps b (sym (get_d_default t b 0 2 (omega (arith, end.size))) ∙ e) in
    let filled = filled_open sheet t end.size still in
    let same : length (lines_from maker depot (length sheet) sheet) ≡ boxes_filled sheet t = omega (arith, lines, filled) in
    same ∙ ap (boxes_filled sheet) (ours_fills maker depot sheet known none)
