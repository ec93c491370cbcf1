-- The number of open boxes: filling never raises it, and settling a box lowers it.
-- Assumes nothing.
use mathlib.Core.Path.{◌≡◌, sym, ◌∙◌}
use mathlib.Core.Bool.{Bool, true}
use mathlib.Core.List.{List}
use Prim.Native.Nat.{ℕ, ◌≤◌, ◌<◌}
use native.Mathlib.Omega.{arith}
use native.Mathlib.Decide.{ℕ_discrete}
use lib.Dec.{T, eqb, eqb→eq}
use lib.ListN.{length, get_or, set, length-set}
use lib.Seq.{get_or-set_same, get_or-set_other}
use Rattle.lemmas.specs.Lists.{count, upto}
use Rattle.lemmas.proofs.Members.{upto_member}
use Rattle.lemmas.proofs.Counts.{count_length, count_mono, count_less}
use Rattle.lemmas.proofs.Indexed.{count_indexed, count_upto_below}
use Rattle.spec.specs.Records.{Rec}
use Rattle.spec.specs.Fill.{open_count}
use Rattle.theory.specs.Steps.{IsSheet, Grown}
use Rattle.theory.proofs.States.{sheet_codes, holds_state, settled_holds, open_back}

-- the test that counts open boxes, at box b
abbrev is_open : List ℕ → ℕ → Bool
is_open s b = eqb 2 (get_or s b 2)

eq_open : (c : ℕ) → c ≡ 2 → T (eqb 2 c)
eq_open c e = rw e tt

open_indexed : (s : List ℕ) → open_count s ≡ count (is_open s) (upto (length s))
unfolding open_count
open_indexed s = count_indexed (eqb 2) 2 s

-- at most every box is open, and where one is settled fewer are
pub open_within : (s : List ℕ) → open_count s ≤ length s
unfolding open_count
open_within s = count_length (eqb 2) s

pub open_fewer : (s : List ℕ) (b : ℕ) → b < length s → (get_or s b 2 ≡ 2 → ⊥) → open_count s < length s
open_fewer s b below settled =
    let fewer =
    count_less (is_open s) (λ i. true) (λ c m h. tt) (upto_member below) (λ h. settled (sym (eqb→eq 2 (get_or s b 2) h))) tt in
    rw (open_indexed s) (omega (arith, fewer, count_upto_below (λ i. true) (length s)))

module _ {qs : List Rec} {s t : List ℕ} (grown : Grown qs s t) (sheet : IsSheet s) where
  -- a settled box stays as it is
  pub grown_kept : (b : ℕ) → (get_or s b 2 ≡ 2 → ⊥) → get_or t b 2 ≡ get_or s b 2
  grown_kept b e =
      let fact = settled_holds s b (sheet_codes s sheet) e in
      holds_state t b grown.sheet fact.0 (grown.keeps b fact.0 fact.1)
      ∙ sym (holds_state s b sheet fact.0 fact.1)

  open_test : (b : ℕ) → T (is_open t b) → T (is_open s b)
  open_test b h =
      eq_open (get_or s b 2) (open_back s t (sheet_codes s sheet) grown.keeps b (sym (eqb→eq 2 (get_or t b 2) h)))

  pub open_mono : open_count t ≤ open_count s
  open_mono = rw (open_indexed t, open_indexed s, grown.size) (count_mono (is_open t) (is_open s) (upto (length s)) (λ b m. open_test b))

-- one more box settled
pub open_set : (t : List ℕ) (b v : ℕ) → b < length t → get_or t b 2 ≡ 2 → v ≤ 1 → open_count (set t b v) < open_count t
open_set t b v below was small =
    rw (open_indexed (set t b v), open_indexed t, length-set t b v)
    (count_less (is_open (set t b v)) (is_open t) (λ c m. still c (ℕ_discrete c b)) (upto_member below)
    (λ h. omega (arith, eqb→eq 2 (get_or (set t b v) b 2) h, get_or-set_same t b v 2 below))
    (eq_open (get_or t b 2) was))
  where
    still : (c : ℕ) → Dec (c ≡ b) → T (is_open (set t b v) c) → T (is_open t c)
    still c (yes e) h = eq_open (get_or t c 2) (rw e was)
    still c (no e) h = rw (get_or-set_other t b c v 2 e) at h
