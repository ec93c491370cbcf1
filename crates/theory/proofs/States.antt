-- States and facts: what a state says of its box, and what the facts of a box say of its state.
-- Assumes nothing.
use mathlib.Core.Path.{◌≡◌, refl}
use mathlib.Core.Bool.{Bool, true, false}
use mathlib.Core.List.{List, [], ◌∷◌}
use Prim.Native.Nat.{ℕ, zero, suc, ◌≤◌}
use native.Mathlib.Omega.{arith}
use native.Mathlib.Decide.{ℕ_discrete}
use lib.Dec.{T}
use lib.ListN.{get_or}
use Rattle.spec.specs.Facts.{FactsOf, holds}
use Rattle.spec.proofs.Least.{Inside}
use Rattle.spec.proofs.Codes.{Codes, holds_past}
use Rattle.theory.specs.Steps.{IsSheet}

-- the state of a box that has just this fact
abbrev pub state_of : Bool → ℕ
state_of false = 0
state_of true = 1

pub sheet_codes : (s : List ℕ) → IsSheet s → Codes s
sheet_codes s sheet b = omega (arith, sheet b)

-- boxes in the same state have the same facts
pub holds_same : (s t : List ℕ) (b c : ℕ) → get_or s b 2 ≡ get_or t c 2 → (state : Bool) → holds s b state ≡ holds t c state
unfolding holds
holds_same s t b c e false = rw e
holds_same s t b c e true = rw e

-- what a single state says
abbrev Says : ℕ → Bool → Type 0
Says c state = T (holds (c ∷ []) 0 state)

says_state : (c : ℕ) → c ≤ 2 → (state : Bool) → Says c state → c ≡ state_of state
unfolding holds
says_state zero h false t = refl
says_state zero h true t = absurd t
says_state (suc zero) h false t = absurd t
says_state (suc zero) h true t = refl
says_state (suc (suc zero)) h false t = absurd t
says_state (suc (suc zero)) h true t = absurd t
says_state (suc (suc (suc c))) h state t = absurd (omega arith)

state_says : (state : Bool) → Says (state_of state) state
unfolding holds
state_says false = tt
state_says true = tt

says_some : (c : ℕ) → c ≤ 3 → (c ≡ 2 → ⊥) → (state : Bool) × Says c state
unfolding holds
says_some zero h e = (false, tt)
says_some (suc zero) h e = (true, tt)
says_some (suc (suc zero)) h e = absurd (e refl)
says_some (suc (suc (suc zero))) h e = (true, tt)
says_some (suc (suc (suc (suc c)))) h e = absurd (omega arith)

both_say : (state : Bool) → Says 3 state
unfolding holds
both_say false = tt
both_say true = tt

module _ (s : List ℕ) (b : ℕ) where
  single : (state : Bool) → holds s b state ≡ holds (get_or s b 2 ∷ []) 0 state
  single = holds_same s (get_or s b 2 ∷ []) b 0 refl

  -- a box on a sheet with a fact is in that state
  pub holds_state : IsSheet s → (state : Bool) → T (holds s b state) → get_or s b 2 ≡ state_of state
  holds_state sheet state t = says_state (get_or s b 2) (sheet b) state (rw (single state) at t)

  pub state_holds : (state : Bool) → get_or s b 2 ≡ state_of state → T (holds s b state)
  state_holds state e = rw (single state, e) (state_says state)

  -- a box that is not open has a fact
  pub settled_holds : Codes s → (get_or s b 2 ≡ 2 → ⊥) → (state : Bool) × T (holds s b state)
  settled_holds small e =
      let found = says_some (get_or s b 2) (small b) e in
      (found.0, rw (single found.0) found.1)

  -- and a box with none is open
  pub open_none : Codes s → ((state : Bool) → T (holds s b state) → ⊥) → get_or s b 2 ≡ 2
  open_none small none = at (ℕ_discrete (get_or s b 2) 2)
    where
      at : Dec (get_or s b 2 ≡ 2) → get_or s b 2 ≡ 2
      at (yes e) = e
      at (no e) = let found = settled_holds small e in absurd (none found.0 found.1)

  pub none_open : get_or s b 2 ≡ 2 → (state : Bool) → T (holds s b state) → ⊥
  none_open e state t = rw (holds_same s [] b 0 e state, holds_past [] 0 state (omega arith)) at t

  pub both_holds : get_or s b 2 ≡ 3 → (state : Bool) → T (holds s b state)
  both_holds e state = rw (single state, e) (both_say state)

  -- no box on a sheet has both facts
  pub sheet_single : IsSheet s → T (holds s b false) → T (holds s b true) → ⊥
  sheet_single sheet out in' = omega (arith, holds_state sheet false out, holds_state sheet true in')

-- what is open was open before facts were added
pub open_back : (s t : List ℕ) → Codes s → Inside (FactsOf s) (FactsOf t) → (b : ℕ) → get_or t b 2 ≡ 2 → get_or s b 2 ≡ 2
open_back s t small keeps b e = open_none s b small (λ state h. none_open t b e state (keeps b state h))
