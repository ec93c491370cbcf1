-- A line after right ones is right exactly when the request's words say so: part by part, and what is known above it are the facts that
-- stand before it.
-- Assumes nothing.
use mathlib.Core.Path.{◌≡◌, refl, sym, subst, ◌∙◌}
use mathlib.Core.Logic.{◌↔◌}
use mathlib.Core.Bool.{Bool, true, false, beq}
use mathlib.Core.List.{List}
use Prim.Native.Nat.{ℕ, zero, suc, ◌<◌}
use native.Mathlib.Omega.{arith}
use borrow.Author.Tests.{eq-eqb, lt-ltb}
use lib.Dec.{T, T_not, eqb, ltb→lt, eqb→eq, eqb_refl}
use lib.ListN.{get_or}
use Rattle.lemmas.specs.Lists.{all, any, upto}
use Rattle.lemmas.proofs.Members.{any_member, any_of, all_member, upto_member, member_upto}
use Rattle.lemmas.proofs.Reading.{get_d_default}
use Rattle.lemmas.proofs.Tests.{T_true, true_T, false_T, both_left, both_right, beq_same}
use Rattle.spec.specs.Kinds.{kind_of}
use Rattle.spec.specs.Rules.{rules_of}
use Rattle.spec.specs.Records.{is_rule, box_at, record_at, record_count}
use Rattle.spec.specs.Facts.{holds}
use Rattle.spec.specs.Rounds.{has, names, gives}
use Rattle.theory.proofs.States.{state_of, holds_same, none_open, state_holds}
use Rattle.whylists.specs.Lines.{Line, says_in, line_at, known, given_by, right_after, right}
use Rattle.whylists.proofs.Known.{IsRight, IsRightAfter, is_right, is_right_after, right_within, known_none, known_line}
use Rattle.whylists.proofs.Sound.{fact_of}
use Rattle.whylists.proofs.Ours.{rule_gives}
use Rattle.claims.specs.Why.{Before, settled, said, Follows, RightLine}

-- the state that says this
state_said : (v : ℕ) → v < 2 → v ≡ state_of (eqb v 1)
state_said zero small = refl
state_said (suc zero) small = refl
state_said (suc (suc v)) small = absurd (omega arith)

module _ (maker depot sheet l : List ℕ) (k : ℕ) (rights : (j : ℕ) → j < k → IsRight maker depot sheet l j) where
  -- box b has a line above, or none
  abbrev has_line : ℕ → Bool
  has_line b = any (λ j. eqb (line_at l j).box b) (upto k)

  no_line : (b : ℕ) → has_line b ≡ false → (j : ℕ) → j < k → (line_at l j).box ≡ b → ⊥
  no_line b e j h is = subst T e (any_of (λ i. eqb (line_at l i).box b) (upto_member h) (rw is (eqb_refl b)))

  -- what is known is the sheet's or a line's
  known_before : (b : ℕ) (state : Bool) → T (holds (known sheet l k) b state) → Before sheet l k b state
  known_before b state t = at (has_line b) refl
    where
      at : (e : Bool) → has_line b ≡ e → Before sheet l k b state
      at true e =
          let found = any_member (λ j. eqb (line_at l j).box b) (upto k) (T_true e) in
          let j = found.0 in
          let h = member_upto k found.1 in
          let is : (line_at l j).box ≡ b = eqb→eq (line_at l j).box b found.2 in
          let small : (line_at l j).state < 2 = ltb→lt (line_at l j).state 2 (rights j h).state in
          let here = fact_of maker depot sheet l (known sheet l k) (line_at l j).box (line_at l j).state state (omega arith)
          (known_line maker depot sheet l k j h rights) (rw (sym is) at t) in
          subst (λ (c : ℕ). Before sheet l k c state) is (subst (Before sheet l k (line_at l j).box) here (said j h))
      at false e =
          settled {b = b} {state = state} (rw (holds_same sheet (known sheet l k) b b (sym (known_none maker depot sheet l k b (no_line b e))) state) t)

  -- and all of these are known: a settled box has no line
  before_known : {b : ℕ} {state : Bool} → Before sheet l k b state → T (holds (known sheet l k) b state)
  before_known {b} {state} (settled t) = at (has_line b) refl
    where
      at : (e : Bool) → has_line b ≡ e → T (holds (known sheet l k) b state)
      at true e =
          let found = any_member (λ j. eqb (line_at l j).box b) (upto k) (T_true e) in
          let j = found.0 in
          let r = rights j (member_upto k found.1) in
          let is : (line_at l j).box ≡ b = eqb→eq (line_at l j).box b found.2 in
          let opened : get_or sheet (line_at l j).box 2 ≡ 2 =
          sym (get_d_default sheet (line_at l j).box 0 2 (right_within maker depot sheet l j r)) ∙ eqb→eq (get_or sheet (line_at l j).box 0) 2 r.opened in
          absurd (none_open sheet b (rw is at opened) state t)
      at false e = rw (holds_same (known sheet l k) sheet b b (known_none maker depot sheet l k b (no_line b e)) state) t
  before_known (said j h) =
      let small : (line_at l j).state < 2 = ltb→lt (line_at l j).state 2 (rights j h).state in
      state_holds (known sheet l k) (line_at l j).box (says_in (line_at l j)) (known_line maker depot sheet l k j h rights ∙ state_said (line_at l j).state small)

  -- the rule that gives the line's state is the one by which it follows
  given_follows : (a : Line) → T (given_by (known sheet l k) a.box (says_in a) (record_at maker depot a.number)) → Follows maker depot sheet l k a
  unfolding given_by gives has names
  given_follows a t =
      let q = record_at maker depot a.number in
      let s = known sheet l k in
      let rules = rules_of (kind_of q.kind) in
      let found = any_member (gives s a.box (says_in a) q) rules (both_right (is_rule q) (any (gives s a.box (says_in a) q) rules) t) in
      let r = found.0 in
      let premises = both_left (all (has s q) r.premises) (any (names q a.box (says_in a)) r.conclusions) found.2 in
      let ends = any_member (names q a.box (says_in a)) r.conclusions
      (both_right (all (has s q) r.premises) (any (names q a.box (says_in a)) r.conclusions) found.2) in
      let c = ends.0 in
      record {
        is_rule_lem = true_T (is_rule q) (both_left (is_rule q) (any (gives s a.box (says_in a) q) rules) t);
        rule = r;
        of_kind = found.1;
        premises = λ p m. known_before (box_at q p.place) p.state (all_member (has s q) premises m);
        literal = c;
        concluded = ends.1;
        its_box = eqb→eq (box_at q c.place) a.box (both_left (eqb (box_at q c.place) a.box) (beq c.state (says_in a)) ends.2);
        its_state = beq_same c.state (says_in a) (both_right (eqb (box_at q c.place) a.box) (beq c.state (says_in a)) ends.2);
      }

  follows_given : (a : Line) → Follows maker depot sheet l k a → T (given_by (known sheet l k) a.box (says_in a) (record_at maker depot a.number))
  follows_given a f =
      let q = record_at maker depot a.number in
      let given = rule_gives (known sheet l k) q f.is_rule_lem f.rule f.of_kind
      (λ p m. before_known (f.premises p m)) f.literal f.concluded in
      rw (f.its_box, f.its_state) at given

  -- part by part
  right_words : (a : Line) → IsRightAfter maker depot sheet l k a → RightLine maker depot sheet l k a
  right_words a r =
      record {
        settles = ltb→lt a.state 2 r.state;
        zeros = (eqb→eq a.byte3 0 r.zero3, eqb→eq a.bytes67 0 r.zero67);
        exists = ltb→lt a.number (record_count maker depot) r.exists;
        follows = given_follows a r.given;
        opened = eqb→eq (get_or sheet a.box 0) 2 r.opened;
        new = no_line a.box (false_T (has_line a.box) (T_not (has_line a.box) r.new));
      }

  words_right : (a : Line) → RightLine maker depot sheet l k a → right_after maker depot sheet l k a ≡ true
  unfolding right_after
  words_right a w =
      let none : has_line a.box ≡ false = false_T (has_line a.box)
      (λ t. let found = any_member (λ j. eqb (line_at l j).box a.box) (upto k) t in
      w.new found.0 (member_upto k found.1) (eqb→eq (line_at l found.0).box a.box found.2)) in
      rw (
        lt-ltb a.state 2 w.settles,
        eq-eqb a.byte3 0 w.zeros.0,
        eq-eqb a.bytes67 0 w.zeros.1,
        lt-ltb a.number (record_count maker depot) w.exists,
        eq-eqb (get_or sheet a.box 0) 2 w.opened,
        none,
        true_T (given_by (known sheet l k) a.box (says_in a) (record_at maker depot a.number)) (follows_given a w.follows),
      )

pub words_agree : (maker depot sheet l : List ℕ) (k : ℕ) → ((j : ℕ) → j < k → right maker depot sheet l j ≡ true) → (a : Line) →
    (right_after maker depot sheet l k a ≡ true) ↔ RightLine maker depot sheet l k a
words_agree maker depot sheet l k rights a =
    let each : (j : ℕ) → j < k → IsRight maker depot sheet l j = λ j h. is_right maker depot sheet l j (rights j h) in
    (λ e. right_words maker depot sheet l k each a (is_right_after maker depot sheet l k a e), words_right maker depot sheet l k each a)
