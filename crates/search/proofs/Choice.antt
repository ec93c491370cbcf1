-- A choice: an open box of a sheet at rest is settled. Only the rules that name the box may stir.
-- Assumes nothing.
use mathlib.Core.Path.{◌≡◌, refl, sym, subst}
use mathlib.Core.Logic.{◌⊎◌, inl, inr}
use mathlib.Core.Bool.{Bool, true, false}
use mathlib.Core.List.{List}
use Prim.Native.Nat.{ℕ, ◌+◌, ◌≤◌, ◌<◌}
use native.Mathlib.Omega.{arith}
use native.Mathlib.Decide.{ℕ_discrete}
use lib.Dec.{T, eqb, eqb→eq, eqb_refl}
use lib.ListN.{length, get_or, set}
use lib.Seq.{get_or-set_same, get_or-set_other}
use Rattle.lemmas.specs.Lists.{any}
use Rattle.lemmas.proofs.Members.{any_member, any_of}
use Rattle.lemmas.proofs.Tests.{T_true}
use Rattle.spec.specs.Kinds.{Place, kind_of, places_of}
use Rattle.spec.specs.Records.{Rec, box_at}
use Rattle.theory.specs.Steps.{Stable}
use Rattle.theory.proofs.Stability.{stable_moved}
use Rattle.kits.specs.Kit.{SettledBelow}
use Rattle.engine.specs.Moves.{AllStable}
use Rattle.engine.specs.Queue.{NamesBox, Poised}

-- a record names a box, or it does not
abbrev at_box : Rec → ℕ → Place → Bool
at_box q b p = eqb (box_at q p) b

names_box : (q : Rec) (b : ℕ) → Dec (NamesBox q b)
names_box q b = at (any (at_box q b) (places_of (kind_of q.kind))) refl
  where
    at : (named : Bool) → any (at_box q b) (places_of (kind_of q.kind)) ≡ named → Dec (NamesBox q b)
    at true e =
        let found = any_member (at_box q b) (places_of (kind_of q.kind)) (T_true e) in
        yes (found.0, found.1, eqb→eq (box_at q found.0) b found.2)
    at false e = no (λ (p, m, is). subst T e (any_of (at_box q b) m (rw is (eqb_refl b))))

module _ (t : List ℕ) (b v : ℕ) (below : b < length t) (small : v ≤ 1) where
  -- a rule that does not name the box has the states that it had
  pub choice_poised : (qs : List Rec) → AllStable qs t → Poised qs (set t b v) b
  choice_poised qs stable q m = at (names_box q b)
    where
      at : Dec (NamesBox q b) → Stable q (set t b v) ⊎ ((get_or (set t b v) b 2 ≡ 2 → ⊥) × NamesBox q b)
      at (yes named) = inr (λ e. omega (arith, get_or-set_same t b v 2 below), named)
      at (no other) =
          inl
          (stable_moved q q t (set t b v) refl
          (λ p names. sym (get_or-set_other t b (box_at q p) v 2 (λ e. other (p, names, e)))) (stable q m))

  -- the boxes below it stay settled, and it is settled now
  pub choice_front : SettledBelow b t → SettledBelow (b + 1) (set t b v)
  choice_front front c h = at (ℕ_discrete c b)
    where
      at : Dec (c ≡ b) → get_or (set t b v) c 2 ≤ 1
      at (yes e) = rw (e, get_or-set_same t b v 2 below) small
      at (no e) = rw (get_or-set_other t b c v 2 e) (front c (omega arith))
