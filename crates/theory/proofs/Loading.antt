-- The sheet in 256 states: growth there is growth of the sheet, and what is at rest is the sheet's closure with open boxes past it.
-- Assumes nothing.
use mathlib.Core.Path.{◌≡◌, sym, ◌∙◌}
use mathlib.Core.Logic.{◌↔◌}
use mathlib.Core.Bool.{Bool, true, false}
use mathlib.Core.List.{List, Memᴰ}
use Prim.Native.Nat.{ℕ, ◌≤◌, ◌<◌}
use native.Mathlib.Omega.{arith}
use native.Mathlib.Decide.{dec_lt}
use lib.Dec.{T}
use lib.ListN.{length, get_or, take, get_or-eq_default}
use lib.Seq.{length-take-le, get_or-take}
use Rattle.spec.specs.Records.{Rec}
use Rattle.spec.specs.Facts.{Closure, Clash, holds}
use Rattle.spec.specs.Rounds.{closed}
use Rattle.spec.proofs.Least.{closure_mono}
use Rattle.spec.proofs.Named.{Good, within_good, closure_below}
use Rattle.spec.proofs.Codes.{holds_below}
use Rattle.spec.proofs.Closed.{closed_unique}
use Rattle.theory.specs.Steps.{IsSheet, Stable, Grown, Loaded}
use Rattle.theory.proofs.States.{sheet_codes, holds_same, open_none, sheet_single}
use Rattle.theory.proofs.Growth.{grown_rest}

module _ {sheet cells : List ℕ} (loaded : Loaded sheet cells) where
  pub loaded_sheet : IsSheet sheet → IsSheet cells
  loaded_sheet good b = rw (loaded.same b) (good b)

  -- the same facts, so the same closure
  pub loaded_closure : (qs : List Rec) (b : ℕ) (state : Bool) → Closure qs cells b state ↔ Closure qs sheet b state
  loaded_closure qs b state = (
    closure_mono qs qs cells sheet (λ q m. m) (λ c st h. rw (← facts c st) h) b state,
    closure_mono qs qs sheet cells (λ q m. m) (λ c st h. rw (facts c st) h) b state,
  )
    where
      facts : (c : ℕ) (st : Bool) → holds cells c st ≡ holds sheet c st
      facts c = holds_same cells sheet c c (loaded.same c)

  pub loaded_clash : (qs : List Rec) (b : ℕ) → Clash qs cells b → Clash qs sheet b
  loaded_clash qs b (out, in') = ((loaded_closure qs b false).0 out, (loaded_closure qs b true).0 in')

  -- every record at rest
  module _ {qs : List Rec} {t : List ℕ} (grown : Grown qs cells t)
      (stable : (q : Rec) → Memᴰ q qs → Stable q t) where
    pub loaded_rest : (b : ℕ) (state : Bool) → T (holds t b state) ↔ Closure qs sheet b state
    loaded_rest b state =
        let cells↔ = grown_rest grown stable b state in
        let sheet↔ = loaded_closure qs b state in
        (λ h. sheet↔.0 (cells↔.0 h), λ h. cells↔.1 (sheet↔.1 h))

    -- there is no clash
    pub loaded_none : (b : ℕ) → Clash qs sheet b → ⊥
    loaded_none b (out, in') = sheet_single t b grown.sheet ((loaded_rest b false).1 out) ((loaded_rest b true).1 in')

    module _ (small : length sheet ≤ 256) (good : Good (length sheet) qs) where
      -- past the sheet's end the boxes are open
      pub loaded_past : (b : ℕ) → length sheet ≤ b → get_or t b 2 ≡ 2
      loaded_past b past =
          open_none t b (sheet_codes t grown.sheet)
          (λ state h.
          omega (arith, closure_below qs (length sheet) sheet (within_good (length sheet) qs good) (holds_below sheet) b state ((loaded_rest b state).0 h)))

      size : length (take (length sheet) t) ≡ length sheet
      size = length-take-le (length sheet) t (omega (arith, grown.size, loaded.size))

      front : (b : ℕ) → get_or (take (length sheet) t) b 2 ≡ get_or t b 2
      front b = at (dec_lt b (length sheet))
        where
          at : Dec (b < length sheet) → get_or (take (length sheet) t) b 2 ≡ get_or t b 2
          at (yes l) = get_or-take (length sheet) t b 2 l
          at (no l) =
              get_or-eq_default (take (length sheet) t) 2 {n = b} (omega (arith, size)) ∙ sym (loaded_past b (omega arith))

      -- and before it they are the closure
      pub loaded_closed : IsSheet sheet → take (length sheet) t ≡ closed qs sheet
      loaded_closed is-sheet =
          closed_unique qs sheet (sheet_codes sheet is-sheet) (within_good (length sheet) qs good) (take (length sheet) t)
          (sheet_codes (take (length sheet) t) (λ b. rw (front b) (grown.sheet b)))
          size
          (λ b state. rw (holds_same (take (length sheet) t) t b b (front b) state) (loaded_rest b state))
