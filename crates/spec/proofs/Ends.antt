-- Firing comes to rest: a run starts from every sheet, and every run can be carried on to one at rest.
-- Assumes nothing.
use mathlib.Core.Path.{refl, ap}
use mathlib.Core.Logic.{◌↔◌, ⊎_elim}
use mathlib.Core.Bool.{Bool, true, false}
use mathlib.Core.List.Memᴰ
use mathlib.Core.List.{List, [], ◌∷◌, ◌++◌, map, Memᴰ}
use Prim.Native.Nat.{ℕ, ◌<◌}
use lib.ListN.{length}
use Rattle.lemmas.specs.Lists.{those, upto}
use Rattle.lemmas.proofs.Members.{map_member, upto_member}
use Rattle.lemmas.proofs.Those.{those_member, member_those}
use Rattle.spec.specs.Records.{Rec}
use Rattle.spec.specs.Facts.{FactsOf, Closed, Closure, settled, fires, holds}
use Rattle.spec.specs.Firing.{Fact, says, Listed, Run, start, fire}
use Rattle.spec.specs.Rounds.{closed}
use Rattle.spec.proofs.Least.{Inside}
use Rattle.spec.proofs.Firing.{run_holds, run_derived}
use Rattle.spec.proofs.Named.{Within}
use Rattle.spec.proofs.Codes.{Codes, holds_below}
use Rattle.spec.proofs.Closed.{closed_sound, closed_complete}

abbrev fact : Bool → ℕ → Fact
fact state b = record { box = b; state = state }

-- both facts of each of the first n boxes
abbrev every_fact : ℕ → List Fact
every_fact n = map (fact false) (upto n) ++ map (fact true) (upto n)

every_fact_member : (n b : ℕ) (state : Bool) → b < n → Listed (every_fact n) b state
every_fact_member n b false l = Memᴰ.append_left (map (fact true) (upto n)) (map_member (fact false) (upto_member l))
every_fact_member n b true l = Memᴰ.append_right (map (fact false) (upto n)) (map_member (fact true) (upto_member l))

abbrev is_fact : List ℕ → Fact → Bool
is_fact s f = holds s f.box f.state

-- the facts of a sheet, one by one
pub fact_list : List ℕ → List Fact
fact_list s = those (is_fact s) (every_fact (length s))

pub fact_list_facts : (s : List ℕ) (b : ℕ) (state : Bool) → Listed (fact_list s) b state ↔ FactsOf s b state
unfolding fact_list
fact_list_facts s b state = (
  λ m. (member_those (is_fact s) (every_fact (length s)) m).1,
  λ t. those_member (is_fact s) (every_fact_member (length s) b state (holds_below s b state t)) t,
)

pub run_starts : (qs : List Rec) (s : List ℕ) → Run qs s (fact_list s)
run_starts qs s = start (fact_list_facts s)

-- a run that goes on from the listed facts, loses none of them, and comes to what is asked
pub record Onward (qs : List Rec) (s : List ℕ) (fs : List Fact) (Asked : List Fact → Type 0) : Type 0 where
  pub facts : List Fact
  pub run : Run qs s facts
  pub keeps : Inside (Listed fs) (Listed facts)
  pub has : Asked facts

-- from wherever a run has come to
abbrev pub Reached : List Rec → List ℕ → (List Fact → Type 0) → Type 0
Reached qs s Asked = (fs : List Fact) → Run qs s fs → Onward qs s fs Asked

module _ {qs : List Rec} {s : List ℕ} where
  -- what can be reached one by one can be reached together
  reached_all : {A : Type 0} (g : A → Fact) (l : List A) →
      ((a : A) → Memᴰ a l → Reached qs s (Memᴰ (g a))) →
      Reached qs s (λ gs. (a : A) → Memᴰ a l → Memᴰ (g a) gs)
  reached_all g [] each fs run = record { facts = fs; run = run; keeps = λ b state m. m; has = λ a m. elim m [ ] }
  reached_all g (x ∷ l) each fs run =
      let one = each x (Memᴰ.head refl) fs run in
      let rest = reached_all g l (λ a m. each a (Memᴰ.tail m)) one.facts one.run in
      record {
        facts = rest.facts;
        run = rest.run;
        keeps = λ b state m. rest.keeps b state (one.keeps b state m);
        has = λ a m. ⊎_elim
            (λ e. Memᴰ.cast (ap g e) (rest.keeps (g x).box (g x).state one.has))
            (rest.has a)
            (Memᴰ.cases_cons m);
      }

  -- a derived fact can be reached
  reached_fact : {b : ℕ} {state : Bool} → Closure qs s b state → Reached qs s (λ gs. Listed gs b state)
  reached_fact {b} {state} (settled h) fs run =
      record { facts = fs; run = run; keeps = λ c t m. m; has = run_holds run b state h }
  reached_fact (fires q m r n premises l c) fs run =
      let before = reached_all (says q) r.premises (λ p k gs on. reached_fact (premises p k) gs on) fs run in
      record {
        facts = says q l ∷ before.facts;
        run = fire before.run q m r n before.has l c;
        keeps = λ b state k. Memᴰ.tail (before.keeps b state k);
        has = Memᴰ.head refl;
      }

  -- and so can all that is derived
  reached_derived : Reached qs s (λ gs. (f : Fact) → Memᴰ f (fact_list (closed qs s)) → Memᴰ f gs)
  reached_derived =
      reached_all (λ f. f) (fact_list (closed qs s))
      (λ f m. reached_fact (closed_sound qs s f.box f.state ((fact_list_facts (closed qs s) f.box f.state).0 m)))

-- every run can be carried on to rest
pub run_ends : (qs : List Rec) (s : List ℕ) → Codes s → Within (length s) qs → Reached qs s (λ gs. Closed qs (Listed gs))
run_ends qs s small within fs run =
    let full = reached_derived fs run in
    record {
      facts = full.facts;
      run = full.run;
      keeps = full.keeps;
      has = λ q m r n premises l c.
          full.has (says q l)
          ((fact_list_facts (closed qs s) _ _).1
          (closed_complete qs s small within _ _
          (fires q m r n (λ p k. run_derived full.run _ _ (premises p k)) l c)));
    }
