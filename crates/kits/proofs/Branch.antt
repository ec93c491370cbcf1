-- Branching at the lowest open box, out before in: an answer with the box out is the answer; where there is none, the answer with
-- the box in is.
-- Assumes nothing.
use mathlib.Core.Path.{◌≡◌, refl, sym, ◌∙◌, subst}
use mathlib.Core.Bool.{Bool, true, false}
use mathlib.Core.List.{List}
use Prim.Native.Nat.{ℕ, zero, suc, ◌≤◌, ◌<◌}
use native.Mathlib.Omega.{arith}
use native.Mathlib.Decide.{ℕ_discrete}
use lib.ListN.{length, get_or, set}
use lib.Seq.{get_or-set_same, get_or-set_other}
use Rattle.spec.specs.Records.{Rec}
use Rattle.spec.specs.Kits.{before}
use Rattle.kits.specs.Order.{AnswerTo}
use Rattle.kits.specs.Kit.{SettledBelow, OpenFrom, Kit, Wanted}
use Rattle.kits.proofs.Order.{at_before, before_asym}
use Rattle.kits.proofs.Answers.{answer_same}
use Rattle.kits.proofs.Sheets.{kit_settled}

pub set_past : (n : ℕ) (t : List ℕ) (b v : ℕ) → b < n → OpenFrom n t → OpenFrom n (set t b v)
set_past n t b v below past c i = get_or-set_other t b c v 2 (λ e. omega arith) ∙ past c i

-- box b below n is open on t
module _ (qs : List Rec) (n : ℕ) (t : List ℕ) (b : ℕ) (below : b < n) (long : n ≤ length t) (opened : get_or t b 2 ≡ 2) where
  -- the kits with the box settled are those of t with that state
  set_kit : (v : ℕ) → v ≤ 1 → (l : List ℕ) → Kit qs n (set t b v) l → Kit qs n t l × (get_or l b 2 ≡ v)
  set_kit v small l kit = (record { full = kit.full; keeps = keeps; fits = kit.fits }, here)
    where
      here : get_or l b 2 ≡ v
      here =
          let e = get_or-set_same t b v 2 (omega arith) in
          kit.keeps b below (λ z. omega arith) ∙ e

      keeps : (c : ℕ) → c < n → (get_or t c 2 ≡ 2 → ⊥) → get_or l c 2 ≡ get_or t c 2
      keeps c i settled =
          let e = get_or-set_other t b c v 2 (λ same. settled (subst (λ (x : ℕ). get_or t x 2 ≡ 2) (sym same) opened)) in
          kit.keeps c i (λ z. settled (sym e ∙ z)) ∙ e

  kit_set : (v : ℕ) (l : List ℕ) → Kit qs n t l → get_or l b 2 ≡ v → Kit qs n (set t b v) l
  kit_set v l kit here = record { full = kit.full; keeps = λ c i settled. keeps c i settled (ℕ_discrete c b); fits = kit.fits }
    where
      keeps : (c : ℕ) → c < n → (get_or (set t b v) c 2 ≡ 2 → ⊥) → Dec (c ≡ b) → get_or l c 2 ≡ get_or (set t b v) c 2
      keeps c i settled (yes same) = rw same (here ∙ sym (get_or-set_same t b v 2 (omega arith)))
      keeps c i settled (no other) =
          let e = get_or-set_other t b c v 2 other in
          kit.keeps c i (λ z. settled (e ∙ z)) ∙ sym e

  module _ (front : SettledBelow b t) (after : Bool) (given : List ℕ) where
    -- a kit with the box out stands before every kit with the box in
    out_before : (l k : List ℕ) → Kit qs n t l → Kit qs n t k → get_or l b 2 ≡ 0 → get_or k b 2 ≡ 1 → before l k ≡ true
    out_before l k kit-l kit-k out in' =
        at_before l k b (kit-l.full.boxes ∙ sym kit-k.full.boxes) (omega (arith, kit-l.full.boxes))
        (record { same = same; less = omega arith })
      where
        same : (c : ℕ) → c < b → get_or l c 2 ≡ get_or k c 2
        same c i =
            kit_settled kit-l c (omega arith) (front c i) ∙ sym (kit_settled kit-k c (omega arith) (front c i))

    set_wanted : (v : ℕ) → v ≤ 1 → (l : List ℕ) → Wanted qs n (set t b v) after given l → Wanted qs n t after given l
    set_wanted v small l w = record { kit = (set_kit v small l w.kit).0; later = w.later }

    wanted_set : (v : ℕ) (l : List ℕ) → Wanted qs n t after given l → get_or l b 2 ≡ v → Wanted qs n (set t b v) after given l
    wanted_set v l w here = record { kit = kit_set v l w.kit here; later = w.later }

    pub branch_out : (l : List ℕ) → AnswerTo (Wanted qs n (set t b 0) after given) true l → AnswerTo (Wanted qs n t after given) true l
    branch_out l h =
        record {
          has = set_wanted 0 (omega arith) l h.has;
          first = λ k w. at k w (get_or k b 2) refl (w.kit.full.bits b below);
        }
      where
        at : (k : List ℕ) → Wanted qs n t after given k → (a : ℕ) → get_or k b 2 ≡ a → a ≤ 1 → before k l ≡ false
        at k w zero e i = h.first k (wanted_set 0 k w e)
        at k w (suc zero) e i =
            let kit = set_kit 0 (omega arith) l h.has.kit in
            before_asym l k (out_before l k kit.0 w.kit kit.1 e)
        at k w (suc (suc a)) e i = absurd (omega arith)

    pub branch_in : (x : List ℕ) → AnswerTo (Wanted qs n (set t b 0) after given) false x →
        (found : Bool) (l : List ℕ) → AnswerTo (Wanted qs n (set t b 1) after given) found l → AnswerTo (Wanted qs n t after given) found l
    branch_in x none = answer_same (λ k. (set_wanted 1 (omega arith) k, λ w. at k w (get_or k b 2) refl (w.kit.full.bits b below)))
      where
        at : (k : List ℕ) → Wanted qs n t after given k → (a : ℕ) → get_or k b 2 ≡ a → a ≤ 1 → Wanted qs n (set t b 1) after given k
        at k w zero e i = absurd (none k (wanted_set 0 k w e))
        at k w (suc zero) e i = wanted_set 1 k w e
        at k w (suc (suc a)) e i = absurd (omega arith)
