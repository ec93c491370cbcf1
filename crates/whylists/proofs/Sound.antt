-- A list whose lines are right holds only facts of the closure: also on a sheet that clashes, and however short or ordered the list is.
-- Assumes nothing.
use mathlib.Core.Path.{◌≡◌, refl, subst, subst⁻¹}
use mathlib.Core.Bool.{Bool, true, false, beq}
use mathlib.Core.List.{List, Memᴰ}
use Prim.Native.Nat.{ℕ, zero, suc, ◌≤◌, ◌<◌}
use native.Mathlib.Omega.{arith}
use native.Mathlib.Decide.{ℕ_discrete}
use lib.Dec.{T, eqb, ltb→lt, eqb→eq}
use lib.ListN.{length, get_or}
use lib.Seq.{get_or-set_same, get_or-set_other}
use Rattle.lemmas.specs.Lists.{all, any}
use Rattle.lemmas.proofs.Members.{any_member, all_member}
use Rattle.lemmas.proofs.Tests.{true_T, both_left, both_right, beq_same}
use Rattle.spec.specs.Kinds.{kind_of}
use Rattle.spec.specs.Rules.{rules_of}
use Rattle.spec.specs.Records.{Rec, box_at, is_rule, record_at, record_count, rules_in}
use Rattle.spec.specs.Facts.{holds, Closure, settled, fires}
use Rattle.spec.specs.Rounds.{has, names, gives}
use Rattle.theory.proofs.Numbered.{number_rule}
use Rattle.theory.proofs.States.{holds_same}
use Rattle.whylists.specs.Lines.{line_at, known, given_by}
use Rattle.whylists.proofs.Known.{IsRight, right_within, known_size}

-- what one rule gives from facts of the closure is one
pub given_sound : (qs : List Rec) (sheet s : List ℕ) → ((b : ℕ) (state : Bool) → T (holds s b state) → Closure qs sheet b state) →
    (q : Rec) → (is_rule q ≡ true → Memᴰ q qs) → (b : ℕ) (state : Bool) → T (given_by s b state q) → Closure qs sheet b state
unfolding given_by gives has names
given_sound qs sheet s inside q member b state t =
    let counts : is_rule q ≡ true = true_T (is_rule q) (both_left (is_rule q) (any (gives s b state q) (rules_of (kind_of q.kind))) t) in
    let rule = any_member (gives s b state q) (rules_of (kind_of q.kind)) (both_right (is_rule q) (any (gives s b state q) (rules_of (kind_of q.kind))) t) in
    let r = rule.0 in
    let premises = both_left (all (has s q) r.premises) (any (names q b state) r.conclusions) rule.2 in
    let said = any_member (names q b state) r.conclusions (both_right (all (has s q) r.premises) (any (names q b state) r.conclusions) rule.2) in
    let l = said.0 in
    let is_box = both_left (eqb (box_at q l.place) b) (beq l.state state) said.2 in
    let is_state = both_right (eqb (box_at q l.place) b) (beq l.state state) said.2 in
    subst (λ (c : ℕ). Closure qs sheet c state) (eqb→eq (box_at q l.place) b is_box)
    (subst (λ (v : Bool). Closure qs sheet (box_at q l.place) v) (beq_same l.state state is_state)
    (fires q (member counts) r rule.1 (λ p m. inside (box_at q p.place) p.state (all_member (has s q) premises m)) l said.1))

module _ (maker depot sheet l : List ℕ) where
  abbrev rules : List Rec
  rules = rules_in maker depot

  -- the line's own fact, where what is known above it is of the closure
  line_sound : (k : ℕ) → ((b : ℕ) (state : Bool) → T (holds (known sheet l k) b state) → Closure rules sheet b state) →
      IsRight maker depot sheet l k → Closure rules sheet (line_at l k).box (eqb (line_at l k).state 1)
  line_sound k inside r =
      given_sound rules sheet (known sheet l k) inside (record_at maker depot (line_at l k).number)
      (number_rule maker depot (ltb→lt (line_at l k).number (record_count maker depot) r.exists))
      (line_at l k).box (eqb (line_at l k).state 1) r.given

  -- a settled state says one fact
  pub fact_of : (s : List ℕ) (b v : ℕ) (state : Bool) → v ≤ 1 → get_or s b 2 ≡ v → T (holds s b state) → eqb v 1 ≡ state
  unfolding holds
  fact_of s b zero true small e t = absurd (rw e at t)
  fact_of s b zero false small e t = refl
  fact_of s b (suc zero) true small e t = refl
  fact_of s b (suc zero) false small e t = absurd (rw e at t)
  fact_of s b (suc (suc v)) state small e t = absurd (omega arith)

  -- so is all that is known after right lines
  pub known_sound : (k : ℕ) → ((i : ℕ) → i < k → IsRight maker depot sheet l i) →
      (b : ℕ) (state : Bool) → T (holds (known sheet l k) b state) → Closure rules sheet b state
  known_sound zero rights b state t = settled t
  known_sound (suc k) rights b state t =
      at (ℕ_discrete b (line_at l k).box) (known_sound k (λ i h. rights i (omega arith)))
    where
      at : Dec (b ≡ (line_at l k).box) → ((c : ℕ) (v : Bool) → T (holds (known sheet l k) c v) → Closure rules sheet c v) → Closure rules sheet b state
      at (yes e) inside =
          let r = rights k (omega arith) in
          let small : (line_at l k).state < 2 = ltb→lt (line_at l k).state 2 r.state in
          let size = known_size maker depot sheet l k in
          let room : (line_at l k).box < length (known sheet l k) = omega (arith, size, right_within maker depot sheet l k r) in
          let stored = get_or-set_same (known sheet l k) (line_at l k).box (line_at l k).state 2 room in
          let here : T (holds (known sheet l (suc k)) (line_at l k).box state) = rw e at t in
          let is = fact_of (known sheet l (suc k)) (line_at l k).box (line_at l k).state state (omega arith) stored here in
          subst⁻¹ (λ (c : ℕ). Closure rules sheet c state) e
          (subst (λ (v : Bool). Closure rules sheet (line_at l k).box v) is (line_sound k inside r))
      at (no e) inside =
          inside b state
          (rw (holds_same (known sheet l (suc k)) (known sheet l k) b b (get_or-set_other (known sheet l k) (line_at l k).box b (line_at l k).state 2 e) state) at t)

  -- each line that is right, with those above it, is a fact of the closure
  pub right_sound : (k : ℕ) → ((i : ℕ) → i ≤ k → IsRight maker depot sheet l i) →
      Closure rules sheet (line_at l k).box (eqb (line_at l k).state 1)
  right_sound k rights = line_sound k (known_sound k (λ i h. rights i (omega arith))) (rights k (omega arith))
