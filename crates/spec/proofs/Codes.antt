-- Codes and facts: a code tells two facts, and the two facts are the code. So a list of codes is known by the facts it holds.
-- Assumes nothing.
use mathlib.Core.Path.{◌≡◌, refl, sym, ap, ap₂, ◌∙◌}
use mathlib.Core.Logic.{◌↔◌}
use mathlib.Core.Bool.{Bool, true, false, ◌||◌}
use mathlib.Core.List.{List}
use Prim.Native.Nat.{ℕ, zero, suc, ◌≤◌, ◌<◌}
use native.Mathlib.Omega.{arith}
use native.Mathlib.Decide.{dec_lt}
use lib.Dec.{T, eqb}
use lib.ListN.{length, get_or, get_or-eq_default}
use lib.Seq.{ext_get_or}
use Rattle.lemmas.proofs.Tests.{T_same}
use Rattle.lemmas.proofs.Reading.{get_or_each}
use Rattle.spec.specs.Facts.{holds}
use Rattle.spec.specs.Rounds.{code}

-- no code is above 3; past the end a box is open, which is 2
abbrev pub Codes : List ℕ → Type 0
Codes s = (b : ℕ) → get_or s b 2 ≤ 3

-- it is enough to look below the length, whatever is read past it
pub codes_below : (s : List ℕ) (d : ℕ) → ((b : ℕ) → b < length s → get_or s b d ≤ 3) → Codes s
codes_below s d h = get_or_each (λ c. c ≤ 3) s d 2 h (omega arith)

-- the fact that a code tells
tells : ℕ → Bool → Bool
tells c false = eqb c 0 || eqb c 3
tells c true = eqb c 1 || eqb c 3

holds_tells : (s : List ℕ) (b : ℕ) (state : Bool) → holds s b state ≡ tells (get_or s b 2) state
unfolding holds tells
holds_tells s b false = refl
holds_tells s b true = refl

-- the fact of this state, of the two that make a code
abbrev pub pick : Bool → Bool → Bool → Bool
pick out in' false = out
pick out in' true = in'

tells_code : (out in' state : Bool) → tells (code out in') state ≡ pick out in' state
unfolding tells code
tells_code true true true = refl
tells_code true true false = refl
tells_code true false true = refl
tells_code true false false = refl
tells_code false true true = refl
tells_code false true false = refl
tells_code false false true = refl
tells_code false false false = refl

code_tells : (c : ℕ) → c ≤ 3 → code (tells c false) (tells c true) ≡ c
unfolding tells code
code_tells zero h = refl
code_tells (suc zero) h = refl
code_tells (suc (suc zero)) h = refl
code_tells (suc (suc (suc zero))) h = refl
code_tells (suc (suc (suc (suc c)))) h = absurd (omega arith)

pub code_small : (out in' : Bool) → code out in' ≤ 3
unfolding code
code_small true true = omega arith
code_small true false = omega arith
code_small false true = omega arith
code_small false false = omega arith

pub code_holds : (s : List ℕ) → Codes s → (b : ℕ) → code (holds s b false) (holds s b true) ≡ get_or s b 2
code_holds s small b =
    ap₂ code (holds_tells s b false) (holds_tells s b true) ∙ code_tells (get_or s b 2) (small b)

-- a box that is coded by two facts holds them
pub holds_code : (s : List ℕ) (b : ℕ) (out in' : Bool) → get_or s b 2 ≡ code out in' → (state : Bool) →
    holds s b state ≡ pick out in' state
holds_code s b out in' e state =
    holds_tells s b state ∙ ap (λ (c : ℕ). tells c state) e ∙ tells_code out in' state

-- a box past the end holds nothing
pub holds_past : (s : List ℕ) (b : ℕ) (state : Bool) → length s ≤ b → holds s b state ≡ false
unfolding code
holds_past s b state h =
    holds_code s b false false (get_or-eq_default s 2 {n = b} h) state ∙ neither state
  where
    neither : (state : Bool) → pick false false state ≡ false
    neither true = refl
    neither false = refl

pub holds_below : (s : List ℕ) (b : ℕ) (state : Bool) → T (holds s b state) → b < length s
holds_below s b state t = at (dec_lt b (length s))
  where
    at : Dec (b < length s) → b < length s
    at (yes l) = l
    at (no l) = absurd (rw (holds_past s b state (omega arith)) at t)

-- two lists of the same length that hold the same facts are one
pub codes_unique : (s t : List ℕ) → Codes s → Codes t → length s ≡ length t →
    ((b : ℕ) (state : Bool) → T (holds s b state) ↔ T (holds t b state)) → s ≡ t
codes_unique s t small-s small-t same_length same-facts =
    ext_get_or 2 s t same_length
    (λ b l. sym (code_holds s small-s b) ∙ ap₂ code (same b false) (same b true) ∙ code_holds t small-t b)
  where
    same : (b : ℕ) (state : Bool) → holds s b state ≡ holds t b state
    same b state = T_same (holds s b state) (holds t b state) (same-facts b state).0 (same-facts b state).1
