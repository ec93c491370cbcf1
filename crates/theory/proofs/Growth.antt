-- Growth: steps are joined, and where every record is stable the list holds the closure.
-- Assumes nothing.
use mathlib.Core.Path.{◌≡◌, refl, ◌∙◌}
use mathlib.Core.Logic.{◌↔◌}
use mathlib.Core.Bool.{Bool, true, false}
use mathlib.Core.List.{List, Memᴰ}
use Prim.Native.Nat.{ℕ, ◌≤◌}
use native.Mathlib.Omega.{arith}
use native.Mathlib.Decide.{ℕ_discrete}
use lib.Dec.{T}
use lib.ListN.{get_or}
use Rattle.spec.specs.Records.{Rec}
use Rattle.spec.specs.Facts.{FactsOf, Closure, Clash, settled, holds}
use Rattle.spec.specs.Rounds.{closed}
use Rattle.spec.proofs.Least.{Inside, closure_cut, closure_unique}
use Rattle.spec.proofs.Closed.{closed_length, closed_keeps, closed_sound, closed_codes}
use Rattle.theory.specs.Steps.{IsSheet, Stable, Grown}
use Rattle.theory.proofs.States.{sheet_codes, both_holds}
use Rattle.theory.proofs.Stability.{all_stable}

-- nothing happens
pub grown_refl : (qs : List Rec) (s : List ℕ) → IsSheet s → Grown qs s s
grown_refl qs s sheet =
    record { size = refl; keeps = λ b state h. h; derived = λ b state h. settled h; sheet = sheet }

module _ {qs : List Rec} {s t : List ℕ} (st : Grown qs s t) where
  -- what follows from the grown list followed before
  pub grown_closure : Inside (Closure qs t) (Closure qs s)
  grown_closure = closure_cut qs s t st.derived

  pub grown_trans : {u : List ℕ} → Grown qs t u → Grown qs s u
  grown_trans tu =
      record {
        size = tu.size ∙ st.size;
        keeps = λ b state h. tu.keeps b state (st.keeps b state h);
        derived = λ b state h. grown_closure b state (tu.derived b state h);
        sheet = tu.sheet;
      }

  pub grown_clash : {b : ℕ} → Clash qs t b → Clash qs s b
  grown_clash {b} (out, in') = (grown_closure b false out, grown_closure b true in')

  module _ (stable : (q : Rec) → Memᴰ q qs → Stable q t) where
    -- at rest the list holds the closure
    pub grown_rest : (b : ℕ) (state : Bool) → T (holds t b state) ↔ Closure qs s b state
    grown_rest = closure_unique qs s (FactsOf t) st.keeps (all_stable qs t stable) st.derived

-- without a clash the closure is a sheet, grown from the first
pub closed_grown : (qs : List Rec) (s : List ℕ) → IsSheet s → ((b : ℕ) → Clash qs s b → ⊥) → Grown qs s (closed qs s)
closed_grown qs s sheet none =
    record {
      size = closed_length qs s;
      keeps = closed_keeps qs s;
      derived = closed_sound qs s;
      sheet = λ b. below b (ℕ_discrete (get_or (closed qs s) b 2) 3);
    }
  where
    below : (b : ℕ) → Dec (get_or (closed qs s) b 2 ≡ 3) → get_or (closed qs s) b 2 ≤ 2
    below b (yes e) =
        let both = both_holds (closed qs s) b e in
        absurd (none b (closed_sound qs s b false (both false), closed_sound qs s b true (both true)))
    below b (no e) = omega (arith, closed_codes qs s (sheet_codes s sheet) b)
