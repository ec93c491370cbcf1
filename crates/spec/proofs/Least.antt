-- The closure is the least set of facts that holds the sheet's and is closed under the rules; and what follows from that alone.
-- Assumes nothing.
use mathlib.Core.Logic.{◌↔◌}
use mathlib.Core.List.{List, Memᴰ}
use mathlib.Core.Bool.{Bool}
use Prim.Native.Nat.{ℕ}
use Rattle.spec.specs.Records.{Rec}
use Rattle.spec.specs.Facts.{Facts, FactsOf, Closed, Closure, settled, fires}

-- one set of facts inside another
abbrev pub Inside : Facts → Facts → Type 0
Inside F G = (b : ℕ) (state : Bool) → F b state → G b state

pub closure_holds : (qs : List Rec) (s : List ℕ) → Inside (FactsOf s) (Closure qs s)
closure_holds qs s b state h = settled h

pub closure_closed : (qs : List Rec) (s : List ℕ) → Closed qs (Closure qs s)
closure_closed qs s q m r n premises l c = fires q m r n premises l c

-- no smaller set holds the sheet's facts and is closed
pub closure_least : (qs : List Rec) (s : List ℕ) (F : Facts) → Inside (FactsOf s) F → Closed qs F → Inside (Closure qs s) F
closure_least qs s F start stays b state (settled h) = start b state h
closure_least qs s F start stays b state (fires q m r n premises l c) =
    stays q m r n (λ p k. closure_least qs s F start stays _ _ (premises p k)) l c

-- facts that are derived already derive nothing new
pub closure_cut : (qs : List Rec) (s t : List ℕ) → Inside (FactsOf t) (Closure qs s) → Inside (Closure qs t) (Closure qs s)
closure_cut qs s t derived = closure_least qs t (Closure qs s) derived (closure_closed qs s)

-- more facts and more records give no less
pub closure_mono : (qs qs' : List Rec) (s s' : List ℕ) → ((q : Rec) → Memᴰ q qs → Memᴰ q qs') →
    Inside (FactsOf s) (FactsOf s') → Inside (Closure qs s) (Closure qs' s')
closure_mono qs qs' s s' records facts =
    closure_least qs s (Closure qs' s')
    (λ b state h. settled (facts b state h))
    (λ q m r n premises l c. fires q (records q m) r n premises l c)

-- a set that is closed and has no more than the derived facts has exactly them
pub closure_unique : (qs : List Rec) (s : List ℕ) (F : Facts) → Inside (FactsOf s) F → Closed qs F →
    Inside F (Closure qs s) → (b : ℕ) (state : Bool) → F b state ↔ Closure qs s b state
closure_unique qs s F start stays derived b state = (derived b state, closure_least qs s F start stays b state)
