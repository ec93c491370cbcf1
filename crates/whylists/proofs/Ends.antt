-- Our list ends where no box follows: what it leaves is sound, keeps the sheet, and is closed unless there is a clash.
-- Assumes nothing.
use mathlib.Core.Path.{◌≡◌, refl, sym, subst, subst⁻¹, ◌∙◌}
use mathlib.Core.Logic.{⊎_elim}
use mathlib.Core.Bool.{Bool, true, false, cond, ◌||◌}
use mathlib.Core.List.{List, [], ◌∷◌, Memᴰ}
use Prim.Native.Nat.{ℕ, zero, suc, ◌≤◌, ◌<◌}
use native.Mathlib.Omega.{arith}
use native.Mathlib.Decide.{ℕ_discrete, dec_lt}
use borrow.Author.Tests.{ne_eqb, ltb-false}
use lib.Dec.{T, ltb, eqb, ltb→lt, eqb→eq}
use lib.ListN.{length, get_or, set, take, length-set}
use lib.Seq.{get_or-set_same, get_or-set_other}
use Rattle.lemmas.specs.Lists.{any, upto}
use Rattle.lemmas.specs.Lowest.{lowest}
use Rattle.lemmas.proofs.Lowest.{lowest_found, lowest_below}
use Rattle.lemmas.proofs.Members.{any_member, member_upto}
use Rattle.lemmas.proofs.Reading.{get_d_default, get_d_set}
use Rattle.lemmas.proofs.Tests.{T_true, both_left, both_right, or_cases}
use Rattle.spec.specs.Records.{record_at, record_count, rules_in}
use Rattle.spec.specs.Facts.{FactsOf, Closure, holds}
use Rattle.spec.specs.Fill.{open_count}
use Rattle.spec.proofs.Least.{Inside}
use Rattle.theory.specs.Steps.{IsSheet}
use Rattle.theory.proofs.Numbered.{number_rule}
use Rattle.theory.proofs.States.{holds_same, none_open}
use Rattle.theory.proofs.Measure.{open_set}
use Rattle.whylists.specs.Lines.{given_by}
use Rattle.whylists.specs.Ours.{gives_box, follows_now, next_box, by_record, state_by, next_line, lines_from}
use Rattle.whylists.specs.After.{states_after}
use Rattle.whylists.proofs.ReadBack.{nth}
use Rattle.whylists.proofs.Sound.{given_sound, fact_of}

module _ (maker depot sheet : List ℕ) where
  -- on the way: the sheet's facts are kept, and what is there is of the closure
  pub record OnWay (s : List ℕ) : Type 0 where
    pub size : length s ≡ length sheet
    pub states : IsSheet s
    pub keeps : Inside (FactsOf sheet) (FactsOf s)
    pub derived : Inside (FactsOf s) (Closure (rules_in maker depot) sheet)

  module _ {s : List ℕ} (way : OnWay s) (goes : next_box maker depot s < length s) where
    follows : follows_now maker depot s (next_box maker depot s) ≡ true
    unfolding next_box
    follows = (lowest_found (follows_now maker depot s) (length s) goes).0

    -- the box is open
    pub opened : get_or s (next_box maker depot s) 2 ≡ 2
    unfolding follows_now
    opened =
        sym (get_d_default s (next_box maker depot s) 0 2 goes)
        ∙ eqb→eq (get_or s (next_box maker depot s) 0) 2
        (both_left (eqb (get_or s (next_box maker depot s) 0) 2) (any (gives_box maker depot s (next_box maker depot s)) (upto (record_count maker depot))) (T_true follows))

    -- its record exists, and gives it the state
    pub record_below : by_record maker depot s < record_count maker depot
    unfolding by_record follows_now
    record_below = at (dec_lt (lowest (gives_box maker depot s (next_box maker depot s)) (record_count maker depot)) (record_count maker depot))
      where
        some : (r : ℕ) × Memᴰ r (upto (record_count maker depot)) × T (gives_box maker depot s (next_box maker depot s) r)
        some =
            any_member (gives_box maker depot s (next_box maker depot s)) (upto (record_count maker depot))
            (both_right (eqb (get_or s (next_box maker depot s) 0) 2) (any (gives_box maker depot s (next_box maker depot s)) (upto (record_count maker depot))) (T_true follows))

        at : Dec (lowest (gives_box maker depot s (next_box maker depot s)) (record_count maker depot) < record_count maker depot) →
            lowest (gives_box maker depot s (next_box maker depot s)) (record_count maker depot) < record_count maker depot
        at (yes h) = h
        at (no h) =
            let none = lowest_below (gives_box maker depot s (next_box maker depot s)) (record_count maker depot) some.0 (omega arith) (member_upto (record_count maker depot) some.1) in
            absurd (subst T none some.2)

    gives_some : T (given_by s (next_box maker depot s) false (record_at maker depot (by_record maker depot s))
        || given_by s (next_box maker depot s) true (record_at maker depot (by_record maker depot s)))
    unfolding by_record gives_box
    gives_some = T_true (lowest_found (gives_box maker depot s (next_box maker depot s)) (record_count maker depot) record_below).0

    pub state_given : (state_by maker depot s ≤ 1) × T (given_by s (next_box maker depot s) (eqb (state_by maker depot s) 1) (record_at maker depot (by_record maker depot s)))
    unfolding state_by
    state_given = at (given_by s (next_box maker depot s) true (record_at maker depot (by_record maker depot s))) refl
      where
        at : (is : Bool) → given_by s (next_box maker depot s) true (record_at maker depot (by_record maker depot s)) ≡ is →
            (cond is 1 0 ≤ 1) × T (given_by s (next_box maker depot s) (eqb (cond is 1 0) 1) (record_at maker depot (by_record maker depot s)))
        at true e = (omega arith, T_true e)
        at false e = (
          omega arith,
          ⊎_elim (λ t. t) (λ t. absurd (subst T e t))
              (or_cases (given_by s (next_box maker depot s) false (record_at maker depot (by_record maker depot s))) (given_by s (next_box maker depot s) true (record_at maker depot (by_record maker depot s))) gives_some),
        )

    -- one line more
    pub way_next : OnWay (set s (next_box maker depot s) (state_by maker depot s))
    way_next =
        record {
          size = length-set s (next_box maker depot s) (state_by maker depot s) ∙ way.size;
          states = get_d_set (λ c. c ≤ 2) s (next_box maker depot s) (state_by maker depot s) 2 (omega (arith, state_given.0)) way.states;
          keeps = λ c state t. kept c state (way.keeps c state t) (ℕ_discrete c (next_box maker depot s));
          derived = λ c state t. at c state t (ℕ_discrete c (next_box maker depot s));
        }
      where
        kept : (c : ℕ) (state : Bool) → T (holds s c state) → Dec (c ≡ next_box maker depot s) →
            T (holds (set s (next_box maker depot s) (state_by maker depot s)) c state)
        kept c state t (yes e) = absurd (none_open s c (rw e opened) state t)
        kept c state t (no e) =
            rw (holds_same (set s (next_box maker depot s) (state_by maker depot s)) s c c (get_or-set_other s (next_box maker depot s) c (state_by maker depot s) 2 e) state) t

        at : (c : ℕ) (state : Bool) → T (holds (set s (next_box maker depot s) (state_by maker depot s)) c state) → Dec (c ≡ next_box maker depot s) →
            Closure (rules_in maker depot) sheet c state
        at c state t (yes e) =
            let here : T (holds (set s (next_box maker depot s) (state_by maker depot s)) (next_box maker depot s) state) = rw e at t in
            let stored = get_or-set_same s (next_box maker depot s) (state_by maker depot s) 2 goes in
            let is = fact_of maker depot sheet sheet (set s (next_box maker depot s) (state_by maker depot s)) (next_box maker depot s) (state_by maker depot s) state state_given.0 stored here in
            subst⁻¹ (λ (d : ℕ). Closure (rules_in maker depot) sheet d state) e
            (subst (λ (v : Bool). Closure (rules_in maker depot) sheet (next_box maker depot s) v) is
            (given_sound (rules_in maker depot) sheet s way.derived (record_at maker depot (by_record maker depot s)) (number_rule maker depot record_below)
            (next_box maker depot s) (eqb (state_by maker depot s) 1) state_given.1))
        at c state t (no e) =
            way.derived c state
            (rw (holds_same (set s (next_box maker depot s) (state_by maker depot s)) s c c (get_or-set_other s (next_box maker depot s) c (state_by maker depot s) 2 e) state) at t)

    -- fewer boxes are open
    pub way_falls : open_count (set s (next_box maker depot s) (state_by maker depot s)) < open_count s
    way_falls = open_set s (next_box maker depot s) (state_by maker depot s) goes opened state_given.0

  -- no box follows
  abbrev pub NoneFollows : List ℕ → Type 0
  NoneFollows s = (b : ℕ) → b < length s → follows_now maker depot s b ≡ false

  -- where no box is open none follows
  none_left : (s : List ℕ) → open_count s ≤ 0 → NoneFollows s
  unfolding follows_now
  none_left s none b below = rw (ne_eqb (get_or s b 0) 2 (λ e. omega (arith, open_set s b 0 below (sym (get_d_default s b 0 2 below) ∙ e) (omega arith))))

  -- where the search for the next finds none
  stopped : (s : List ℕ) → ltb (next_box maker depot s) (length s) ≡ false → NoneFollows s
  unfolding next_box
  stopped s e b below =
      lowest_below (follows_now maker depot s) (length s) b (ltb-false (lowest (follows_now maker depot s) (length s)) (length s) e) below

  pub ends : (k : ℕ) (s : List ℕ) → OnWay s → open_count s ≤ k →
      OnWay (states_after s (lines_from maker depot k s)) × NoneFollows (states_after s (lines_from maker depot k s))
  unfolding next_line
  ends zero s way few = (way, none_left s few)
  ends (suc k) s way few = at (ltb (next_box maker depot s) (length s)) refl (λ w f. ends k (set s (next_box maker depot s) (state_by maker depot s)) w f)
    where
      at : (goes : Bool) → ltb (next_box maker depot s) (length s) ≡ goes →
          (OnWay (set s (next_box maker depot s) (state_by maker depot s)) → open_count (set s (next_box maker depot s) (state_by maker depot s)) ≤ k →
          OnWay (states_after (set s (next_box maker depot s) (state_by maker depot s)) (lines_from maker depot k (set s (next_box maker depot s) (state_by maker depot s))))
          × NoneFollows (states_after (set s (next_box maker depot s) (state_by maker depot s)) (lines_from maker depot k (set s (next_box maker depot s) (state_by maker depot s))))) →
          OnWay (states_after s (cond goes (next_line maker depot s ∷ lines_from maker depot k (set s (next_box maker depot s) (state_by maker depot s))) []))
          × NoneFollows (states_after s (cond goes (next_line maker depot s ∷ lines_from maker depot k (set s (next_box maker depot s) (state_by maker depot s))) []))
      at true e rest =
          let goes = ltb→lt (next_box maker depot s) (length s) (T_true e) in
          rest (way_next way goes) (omega (arith, way_falls way goes))
      at false e rest = (way, stopped s e)

  -- each of our lines is the next on the states that those above it leave
  pub ours_nth : (k : ℕ) (s : List ℕ) (j : ℕ) → j < length (lines_from maker depot k s) →
      let t = states_after s (take j (lines_from maker depot k s)) in
      (nth (lines_from maker depot k s) j ≡ next_line maker depot t) × (next_box maker depot t < length t)
  unfolding next_line
  ours_nth zero s j h = absurd (omega arith)
  ours_nth (suc k) s j h =
      at (ltb (next_box maker depot s) (length s)) refl j h (λ i l. ours_nth k (set s (next_box maker depot s) (state_by maker depot s)) i l)
    where
      at : (goes : Bool) → ltb (next_box maker depot s) (length s) ≡ goes → (i : ℕ) → i < length (cond goes (next_line maker depot s ∷ (lines_from maker depot k (set s (next_box maker depot s) (state_by maker depot s)))) []) →
          ((n : ℕ) → n < length (lines_from maker depot k (set s (next_box maker depot s) (state_by maker depot s))) →
          let t = states_after (set s (next_box maker depot s) (state_by maker depot s)) (take n (lines_from maker depot k (set s (next_box maker depot s) (state_by maker depot s)))) in
          (nth (lines_from maker depot k (set s (next_box maker depot s) (state_by maker depot s))) n ≡ next_line maker depot t) × (next_box maker depot t < length t)) →
          let t = states_after s (take i (cond goes (next_line maker depot s ∷ (lines_from maker depot k (set s (next_box maker depot s) (state_by maker depot s)))) [])) in
          (nth (cond goes (next_line maker depot s ∷ (lines_from maker depot k (set s (next_box maker depot s) (state_by maker depot s)))) []) i ≡ next_line maker depot t) × (next_box maker depot t < length t)
      at true e zero l more = (refl, ltb→lt (next_box maker depot s) (length s) (T_true e))
      at true e (suc i) l more = more i (omega arith)
      at false e i l more = absurd (omega arith)

  -- and they are on the way
  pub way_nth : (k : ℕ) (s : List ℕ) (j : ℕ) → OnWay s → OnWay (states_after s (take j (lines_from maker depot k s)))
  unfolding next_line
  way_nth k s zero way = way
  way_nth zero s (suc j) way = way
  way_nth (suc k) s (suc j) way =
      at (ltb (next_box maker depot s) (length s)) refl (λ w. way_nth k (set s (next_box maker depot s) (state_by maker depot s)) j w)
    where
      at : (goes : Bool) → ltb (next_box maker depot s) (length s) ≡ goes →
          (OnWay (set s (next_box maker depot s) (state_by maker depot s)) →
          OnWay (states_after (set s (next_box maker depot s) (state_by maker depot s)) (take j (lines_from maker depot k (set s (next_box maker depot s) (state_by maker depot s)))))) →
          OnWay (states_after s (take (suc j) (cond goes (next_line maker depot s ∷ lines_from maker depot k (set s (next_box maker depot s) (state_by maker depot s))) [])))
      at true e more = more (way_next way (ltb→lt (next_box maker depot s) (length s) (T_true e)))
      at false e more = way
