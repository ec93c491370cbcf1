-- Without a clash, what our list leaves is the filled sheet.
-- Assumes nothing.
use mathlib.Core.Path.{◌≡◌, refl, sym, subst, ◌∙◌}
use mathlib.Core.Bool.{Bool, true, false, true≢false, ◌&&◌, ◌||◌, beq}
use mathlib.Core.List.{List, Memᴰ}
use Prim.Native.Nat.{ℕ, ◌<◌}
use native.Mathlib.Decide.{ℕ_discrete}
use borrow.Author.Tests.{eq-eqb}
use lib.Dec.{T, eqb, eqb_refl}
use lib.ListN.{length, get_or}
use Rattle.lemmas.specs.Lists.{all, any, upto}
use Rattle.lemmas.proofs.Members.{any_of, all_of, upto_member}
use Rattle.lemmas.proofs.Reading.{get_d_default}
use Rattle.lemmas.proofs.Tests.{T_true, true_T, both_of, or_left, or_right, beq_refl}
use Rattle.spec.specs.Kinds.{kind_of}
use Rattle.spec.specs.Rules.{Literal, Rule, rules_of}
use Rattle.spec.specs.Records.{Rec, box_at, is_rule, record_at, record_count, rules_in}
use Rattle.spec.specs.Facts.{FactsOf, Closure, settled, Closed, Clash, HasAll, holds}
use Rattle.spec.specs.Rounds.{has, names, gives}
use Rattle.spec.specs.Fill.{closure_of}
use Rattle.spec.proofs.Accepted.{AcceptedSheet}
use Rattle.spec.proofs.Named.{within_good}
use Rattle.spec.proofs.Least.{closure_least}
use Rattle.spec.proofs.Closed.{closed_unique}
use Rattle.theory.proofs.Numbered.{NumberOf, rule_number, rules_good}
use Rattle.theory.proofs.States.{sheet_codes, settled_holds}
use Rattle.theory.proofs.Measure.{open_within}
use Rattle.whylists.specs.Lines.{given_by}
use Rattle.whylists.specs.Ours.{gives_box, follows_now, ours}
use Rattle.whylists.specs.After.{states_after}
use Rattle.whylists.proofs.Sound.{given_sound}
use Rattle.whylists.proofs.Ends.{OnWay, NoneFollows, ends}

-- a rule whose premises are there gives its conclusions
pub rule_gives : (s : List ℕ) (q : Rec) → is_rule q ≡ true → (r : Rule) → Memᴰ r (rules_of (kind_of q.kind)) → HasAll (FactsOf s) q r.premises →
    (l : Literal) → Memᴰ l r.conclusions → T (given_by s (box_at q l.place) l.state q)
unfolding given_by gives has names
rule_gives s q counts r m premises l c =
    let b = box_at q l.place in
    let said =
    any_of (names q b l.state) c (both_of (eqb (box_at q l.place) b) (beq l.state l.state) (eqb_refl b) (beq_refl l.state)) in
    let fired = both_of (all (has s q) r.premises) (any (names q b l.state) r.conclusions) (all_of (has s q) r.premises premises) said in
    both_of (is_rule q) (any (gives s b l.state q) (rules_of (kind_of q.kind))) (T_true counts) (any_of (gives s b l.state q) m fired)

module _ (maker depot sheet : List ℕ) (known : AcceptedSheet (length sheet) maker depot sheet)
    (none : (b : ℕ) → Clash (rules_in maker depot) sheet b → ⊥) where
  abbrev rules : List Rec
  rules = rules_in maker depot

  module _ {t : List ℕ} (way : OnWay maker depot sheet t) (still : NoneFollows maker depot sheet t) where
    -- a box that a record gives a state follows, if it is open
    follows_given : (q : Rec) → NumberOf maker depot q → (b : ℕ) → b < length t → get_or t b 2 ≡ 2 → (state : Bool) → T (given_by t b state q) → ⊥
    unfolding follows_now gives_box
    follows_given q n b below opened state t' = true≢false (sym is ∙ still b below)
      where
        either : (v : Bool) → T (given_by t b v q) → T (given_by t b false q || given_by t b true q)
        either false g = or_left (given_by t b false q) (given_by t b true q) g
        either true g = or_right (given_by t b false q) (given_by t b true q) g

        gives_box_lem : T (given_by t b false (record_at maker depot n.number) || given_by t b true (record_at maker depot n.number))
        gives_box_lem = subst (λ (p : Rec). T (given_by t b false p || given_by t b true p)) n.is (either state t')

        is : (eqb (get_or t b 0) 2 && any (λ r. given_by t b false (record_at maker depot r) || given_by t b true (record_at maker depot r)) (upto (record_count maker depot))) ≡ true
        is =
            rw (
              eq-eqb (get_or t b 0) 2 (get_d_default t b 0 2 below ∙ opened),
              true_T (any (λ r. given_by t b false (record_at maker depot r) || given_by t b true (record_at maker depot r)) (upto (record_count maker depot)))
                  (any_of (λ r. given_by t b false (record_at maker depot r) || given_by t b true (record_at maker depot r)) (upto_member n.below) gives_box_lem),
            )

    closed_end : Closed rules (FactsOf t)
    closed_end q m r n premises l c = at (ℕ_discrete (get_or t (box_at q l.place) 2) 2)
      where
        number : NumberOf maker depot q
        number = rule_number maker depot m

        given : T (given_by t (box_at q l.place) l.state q)
        given = rule_gives t q number.counts r n premises l c

        fact : Closure rules sheet (box_at q l.place) l.state
        fact = given_sound rules sheet t way.derived q (λ e. m) (box_at q l.place) l.state given

        inside : box_at q l.place < length t
        inside = rw way.size (within_good (length sheet) rules (rules_good maker depot known.tables) q m r n l c)

        one : (state v : Bool) → Closure rules sheet (box_at q l.place) v → T (holds t (box_at q l.place) state) → T (holds t (box_at q l.place) v)
        one true true f h = h
        one false false f h = h
        one true false f h = absurd (none (box_at q l.place) (f, way.derived (box_at q l.place) true h))
        one false true f h = absurd (none (box_at q l.place) (way.derived (box_at q l.place) false h, f))

        at : Dec (get_or t (box_at q l.place) 2 ≡ 2) → T (holds t (box_at q l.place) l.state)
        at (yes e) = absurd (follows_given q number (box_at q l.place) inside e l.state given)
        at (no e) = let found = settled_holds t (box_at q l.place) (sheet_codes t way.states) e in one found.0 l.state fact found.1

    way_closure : t ≡ closure_of maker depot sheet
    unfolding closure_of
    way_closure =
        closed_unique rules sheet (sheet_codes sheet known.sheet_bytes) (within_good (length sheet) rules (rules_good maker depot known.tables)) t
        (sheet_codes t way.states) way.size
        (λ b state. (way.derived b state, closure_least rules sheet (FactsOf t) way.keeps closed_end b state))

  -- our lines' states, written on the sheet, make the filled sheet: nothing is unexplained, and nothing else is explained
  pub ours_fills : states_after sheet (ours maker depot sheet) ≡ closure_of maker depot sheet
  unfolding ours
  ours_fills =
      let start : OnWay maker depot sheet sheet = record { size = refl; states = known.sheet_bytes; keeps = λ b state t. t; derived = λ b state t. settled t } in
      let end = ends maker depot sheet (length sheet) sheet start (open_within sheet) in
      way_closure end.0 end.1
