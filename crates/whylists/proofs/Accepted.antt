-- Our list is accepted: each of its lines is right after those above it.
-- Assumes nothing.
use mathlib.Core.Path.{◌≡◌, refl, sym, ap, subst⁻¹, ◌∙◌}
use mathlib.Core.Bool.{Bool, true, not, ◌&&◌}
use mathlib.Core.List.{List}
use Prim.Native.Nat.{ℕ, zero, suc, ◌/◌, ◌%◌, ◌≤◌, ◌<◌}
use native.Mathlib.Omega.{arith}
use native.Mathlib.Decide.{ℕ_discrete}
use borrow.Author.Tests.{eq-eqb, lt-ltb, le-ltb}
use lib.Dec.{ltb, eqb}
use lib.ListN.{length, get_or, take}
use Rattle.lemmas.specs.Lists.{any, upto}
use Rattle.lemmas.proofs.Lowest.{lowest_none}
use Rattle.lemmas.proofs.Tests.{true_T}
use Rattle.spec.specs.Records.{record_at, record_count}
use Rattle.spec.specs.Facts.{settled}
use Rattle.spec.specs.Refusals as Refusals'
use Rattle.theory.specs.Steps.{IsSheet}
use Rattle.whylists.specs.Lines.{Line, line_at, line_count, known, given_by, right_after, right}
use Rattle.whylists.specs.Ours.{next_box, by_record, state_by, next_line, lines_from, ours, lines_bytes}
use Rattle.whylists.specs.Says.{length_check, lines_check, why_check_judges}
use Rattle.whylists.specs.After.{states_after}
use Rattle.whylists.proofs.Bytes.{bytes_length}
use Rattle.whylists.proofs.ReadBack.{read_back, known_after}
use Rattle.whylists.proofs.Known.{IsRight, is_right, open_same}
use Rattle.whylists.proofs.Ends.{OnWay, opened, record_below, state_given, ours_nth, way_nth}

-- the seven tests, two of them told as one
passed : (a b c d e f g : Bool) → a ≡ true → b ≡ true → c ≡ true → d ≡ true → (e && f) ≡ true → g ≡ true → (a && b && c && d && e && f && g) ≡ true
passed a b c d e f g ea eb ec ed ef eg = rw (ea, eb, ec, ed, ef, eg)

module _ (maker depot sheet : List ℕ) (start : OnWay maker depot sheet sheet) where
  abbrev lines : List Line
  lines = lines_from maker depot (length sheet) sheet

  -- what the next line meets, on the states that the lines above leave
  meets : (k : ℕ) (t : List ℕ) (way : OnWay maker depot sheet t) (goes : next_box maker depot t < length t) →
      ((i : ℕ) → i < k → IsRight maker depot sheet (lines_bytes lines) i) → known sheet (lines_bytes lines) k ≡ t →
      right_after maker depot sheet (lines_bytes lines) k (next_line maker depot t) ≡ true
  unfolding right_after next_line
  meets k t way goes rights above =
      let b = next_box maker depot t in
      let given = state_given maker depot sheet way goes in
      let inside : b < length sheet = omega (arith, goes, way.size) in
      let open_box : (ltb b (length sheet) && eqb (get_or (known sheet (lines_bytes lines) k) b 2) 2) ≡ true =
      rw (lt-ltb b (length sheet) inside, above, eq-eqb (get_or t b 2) 2 (opened maker depot sheet way goes)) in
      rw above
      (passed (ltb (state_by maker depot t) 2) (eqb 0 0) (eqb 0 0) (ltb (by_record maker depot t) (record_count maker depot))
      (eqb (get_or sheet b 0) 2) (not (any (λ j. eqb (line_at (lines_bytes lines) j).box b) (upto k)))
      (given_by t b (eqb (state_by maker depot t) 1) (record_at maker depot (by_record maker depot t)))
      (lt-ltb (state_by maker depot t) 2 (omega (arith, given.0)))
      (eq-eqb 0 0 refl)
      (eq-eqb 0 0 refl)
      (lt-ltb (by_record maker depot t) (record_count maker depot) (record_below maker depot sheet way goes))
      (sym (open_same maker depot sheet (lines_bytes lines) k b rights) ∙ open_box)
      (true_T _ given.1))

  line_right : (k : ℕ) → k < length lines → ((i : ℕ) → i < k → IsRight maker depot sheet (lines_bytes lines) i) →
      right maker depot sheet (lines_bytes lines) k ≡ true
  unfolding right
  line_right k h rights =
      let t = states_after sheet (take k lines) in
      let found = ours_nth maker depot sheet (length sheet) sheet k h in
      let way = way_nth maker depot sheet (length sheet) sheet k start in
      let is : line_at (lines_bytes lines) k ≡ next_line maker depot t = read_back lines k h ∙ found.0 in
      let above : known sheet (lines_bytes lines) k ≡ t = known_after sheet lines k (omega arith) in
      ap (right_after maker depot sheet (lines_bytes lines) k) is ∙ meets k t way found.1 rights above

  -- so by the lines above each
  all_below : (n : ℕ) → n ≤ length lines → (i : ℕ) → i < n → IsRight maker depot sheet (lines_bytes lines) i
  all_below zero h i l = absurd (omega arith)
  all_below (suc n) h i l = at (ℕ_discrete i n) (all_below n (omega arith))
    where
      at : Dec (i ≡ n) → ((j : ℕ) → j < n → IsRight maker depot sheet (lines_bytes lines) j) → IsRight maker depot sheet (lines_bytes lines) i
      at (yes e) below = subst⁻¹ (IsRight maker depot sheet (lines_bytes lines)) e (is_right maker depot sheet (lines_bytes lines) n (line_right n (omega arith) below))
      at (no e) below = below i (omega arith)

  pub ours_right : (k : ℕ) → k < length lines → right maker depot sheet (lines_bytes lines) k ≡ true
  ours_right k h = line_right k h (all_below k (omega arith))

-- the checker accepts our list
pub ours_accepted : (maker depot sheet : List ℕ) → IsSheet sheet → why_check_judges maker depot sheet (lines_bytes (ours maker depot sheet)) ≡ Refusals'.passed
unfolding why_check_judges length_check lines_check line_count ours
ours_accepted maker depot sheet states =
    let l = lines_from maker depot (length sheet) sheet in
    let size = bytes_length l in
    let whole : length (lines_bytes l) % 8 ≡ 0 = omega (arith, size) in
    let count : length (lines_bytes l) / 8 ≡ length l = omega (arith, size) in
    let start : OnWay maker depot sheet sheet = record { size = refl; states = states; keeps = λ b state t. t; derived = λ b state t. settled t } in
    let none = lowest_none (λ k. not (right maker depot sheet (lines_bytes l) k)) (length l) (λ k h. ap not (ours_right maker depot sheet start k h)) in
    rw (eq-eqb (length (lines_bytes l) % 8) 0 whole, count, none, le-ltb (length l) (length l) (omega arith))
