-- One trial of the search: from a filled sheet, its lowest open box and how it stands to the given list, to the answer.
-- Assumes nothing.
use mathlib.Core.Path.{◌≡◌, refl, sym, subst, ◌∙◌}
use mathlib.Core.Bool.{Bool, true, false, not, true≢false}
use mathlib.Core.List.{List, []}
use Prim.Native.Nat.{ℕ, ◌+◌, ◌≤◌, ◌<◌}
use native.Mathlib.Omega.{arith}
use native.Mathlib.Decide.{dec_lt}
use lib.ListN.{length, get_or, set, take, length-set}
use lib.Seq.{get_or-set_same, get_or-set_other}
use Rattle.std.specs.Prelude.{Option, Some, None, is_some, IfSome, IsSomeAnd}
use Rattle.std.specs.Bool.{then_some}
use Rattle.std.specs.declared.cmp.Ordering.{Ordering}
use Rattle.std.specs.declared.cmp.Ordering.TheVariants.{Less, Equal, Greater}
use Rattle.std.proofs.lemmas.Option.{IfSome_then}
use Rattle.lemmas.proofs.Reading.{get_d_set}
use Rattle.spec.specs.Records.{Rec}
use Rattle.spec.specs.Fill.{open_count}
use Rattle.theory.specs.Steps.{Grown}
use Rattle.theory.proofs.Measure.{grown_kept, open_mono, open_set}
use Rattle.kits.specs.Order.{Question, AnswerTo}
use Rattle.kits.specs.Kit.{SettledBelow, OpenFrom, Wanted}
use Rattle.kits.proofs.Answers.{answer_same}
use Rattle.kits.proofs.Forced.{clash_answer}
use Rattle.kits.proofs.AtRest.{rest_answer}
use Rattle.kits.proofs.Branch.{set_past, branch_out, branch_in}
use Rattle.kits.proofs.Bound.{bound_less, bound_more, bound_same}
use Rattle.engine.specs.Moves.{SomeClash, AllStable}
use Rattle.sheet.specs.declared.Sheet.{Sheet}
use Rattle.search.proofs.Choice.{choice_poised, choice_front}
use Rattle.search.proofs.Filled.{grown_past, grown_answer}
use Rattle.search.specs.Look.{Given, given_of, Asks, Finds, LowestOpen, SameBelow, Stands, bound_of}
use Rattle.search.specs.Ready.{OnTrial}

-- what is found for one question is found for another, if an answer to the one is an answer to the other
pub finds_as : {P Q : Question} → ((found : Bool) (l : List ℕ) → AnswerTo P found l → AnswerTo Q found l) →
    (n : ℕ) (r : Option Sheet) → Finds P n r → Finds Q n r
finds_as f n (Some s) a = f true (take n s.states) a
finds_as f n None a = f false [] a

-- a given list has n boxes
abbrev Sized : ℕ → Given → Type 0
Sized n given = IfSome given (λ list. length list.now ≡ n)

-- what a trial knows: the sheet filled to rest, its lowest open box, and how the boxes before that stand to the given list
pub record Looked (qs : List Rec) (n : ℕ) (s : List ℕ) (given : Given) (t : List ℕ) (b : ℕ) (w : Ordering) : Type 0 where
  pub rest : Grown qs s t × AllStable qs t
  pub low : LowestOpen t n b
  pub stands : Stands t given b w

-- the boxes below `from` are settled, and filling leaves them as they are
module _ {qs : List Rec} {n : ℕ} {s : List ℕ} {from : ℕ} {given : Given} (ready : OnTrial qs n s from given)
    {t : List ℕ} (grown : Grown qs s t) where
  kept : (c : ℕ) → c < from → get_or t c 2 ≡ get_or s c 2
  kept c h = grown_kept grown ready.cells.sheet c (λ e. omega (arith, ready.front c h))

  pub filled_front : SettledBelow from t
  filled_front c h = omega (arith, kept c h, ready.front c h)

  pub filled_same : IfSome given (λ list. SameBelow from t list.now)
  filled_same = IfSome_then given ready.same (λ list same c h. kept c h ∙ same c h)

-- the lowest open box is not one of the settled ones
pub low_after : {t : List ℕ} {n b from : ℕ} → LowestOpen t n b → SettledBelow from t → from ≤ n → from ≤ b
low_after {t} {n} {b} {from} low front within = at (dec_lt b from)
  where
    at : Dec (b < from) → from ≤ b
    at (yes h) = absurd (omega (arith, low.opened (omega arith), front b h))
    at (no h) = omega arith

module _ {qs : List Rec} {n : ℕ} {s : List ℕ} {from : ℕ} {given : Given} (ready : OnTrial qs n s from given) where
  -- a clash: no kit
  pub trial_clash : SomeClash qs s → Finds (Asks qs n s given) n None
  trial_clash c = clash_answer qs n s ready.past c.0 c.1 (is_some given) (given_of given) []

  module _ {t : List ℕ} {b : ℕ} {w : Ordering} (looked : Looked qs n s given t b w) where
    -- the first b boxes are settled
    front : SettledBelow b t
    front c h = omega (arith, looked.rest.0.sheet c, looked.low.settled c h)

    room : n ≤ length t
    room = omega (arith, looked.rest.0.size, ready.cells.size, ready.boxes)

    past : OpenFrom n t
    past = grown_past n ready.past ready.cells looked.rest.0 ready.good

    -- an answer for the filled sheet is one for the sheet
    filled_trial : (found : Bool) (l : List ℕ) → AnswerTo (Asks qs n t given) found l → AnswerTo (Asks qs n s given) found l
    filled_trial = grown_answer n ready.past ready.cells looked.rest.0 (is_some given) (given_of given)

    -- where no list is to be passed, it is of no matter which
    unbound : (list : List ℕ) (found : Bool) (l : List ℕ) → AnswerTo (Wanted qs n t false []) found l →
        AnswerTo (Wanted qs n t false list) found l
    unbound list = answer_same (λ k. (λ w. record { kit = w.kit; later = tt }, λ w. record { kit = w.kit; later = tt }))

    -- an answer with the bound that is left is one with the bound that was asked
    bound_trial : (v : Ordering) (g : Given) → Stands t g b v → Sized n g → (v ≡ Less → ⊥) →
        (found : Bool) (l : List ℕ) → AnswerTo (Asks qs n t (bound_of v g)) found l → AnswerTo (Asks qs n t g) found l
    bound_trial Less g st size ahead found l a = absurd (ahead refl)
    bound_trial Equal g st size ahead found l a = a
    bound_trial Greater None st size ahead found l a = a
    bound_trial Greater (Some list) (c, h, more) size ahead found l a =
        bound_more qs n t list.now b looked.low.within front size c h more found l (unbound list.now found l a)

    -- every kit stands before the given list
    pub trial_before : w ≡ Less → Finds (Asks qs n s given) n None
    trial_before e = filled_trial false [] (none w given looked.stands ready.size e)
      where
        none : (v : Ordering) (g : Given) → Stands t g b v → Sized n g → v ≡ Less → AnswerTo (Asks qs n t g) false []
        none Less (Some list) (c, h, less) size e = bound_less qs n t list.now b looked.low.within front size c h less []
        none Less None st size e = absurd cc
        none Equal g st size e = absurd cc
        none Greater g st size e = absurd cc

    -- the list that is left to pass
    module _ {bound : Given} (left : bound ≡ bound_of w given) where
      -- it has n boxes, and the first b are the sheet's
      pub bound_size : Sized n bound
      bound_size = rw left (of w)
        where
          of : (v : Ordering) → Sized n (bound_of v given)
          of Less = tt
          of Equal = ready.size
          of Greater = tt

      still_same : IfSome bound (λ list. SameBelow b t list.now)
      still_same = rw left (of w given looked.stands)
        where
          of : (v : Ordering) (g : Given) → Stands t g b v → IfSome (bound_of v g) (λ list. SameBelow b t list.now)
          of Less g st = tt
          of Greater g st = tt
          of Equal None st = tt
          of Equal (Some list) st = st

      module _ (ahead : w ≡ Less → ⊥) where
        trial_answer : (r : Option Sheet) → Finds (Asks qs n t bound) n r → Finds (Asks qs n s given) n r
        trial_answer r a =
            finds_as (λ found l a. filled_trial found l (bound_trial w given looked.stands ready.size ahead found l a)) n r
            (subst (λ (g : Given). Finds (Asks qs n t g) n r) left a)

        -- no box is open: the sheet is the only kit, unless it is the given list
        pub trial_full : b ≡ n → (free : Bool) → is_some bound ≡ not free →
            Finds (Asks qs n s given) n (then_some free (record { states = t }))
        trial_full e free is = trial_answer (then_some free (record { states = t })) (only bound bound_size still_same free is)
          where
            only : (g : Given) → Sized n g → IfSome g (λ list. SameBelow b t list.now) → (free : Bool) → is_some g ≡ not free →
                Finds (Asks qs n t g) n (then_some free (record { states = t }))
            only None size same true is =
                rest_answer qs n t (λ c h. front c (omega arith)) looked.rest.0.sheet ready.good looked.rest.1 false [] tt
            only None size same false is = absurd (true≢false (sym is))
            only (Some list) size same true is = absurd (true≢false is)
            only (Some list) size same false is = bound_same qs n t list.now b looked.low.within front size e same []

        module _ (below : b < n) where
          opened : get_or t b 2 ≡ 2
          opened = looked.low.opened below

          -- what a branch is handed
          pub branch_ready : (v : ℕ) → v ≤ 1 → OnTrial qs n (set t b v) b bound
          branch_ready v small =
              record {
                boxes = ready.boxes;
                good = ready.good;
                cells =
                    record {
                      size = length-set t b v ∙ looked.rest.0.size ∙ ready.cells.size;
                      sheet = get_d_set (λ c. c ≤ 2) t b v 2 (omega arith) looked.rest.0.sheet;
                    };
                past = set_past n t b v below past;
                size = bound_size;
                poised = choice_poised t b v (omega (arith, room)) small qs looked.rest.1;
                within = omega arith;
                below = omega (arith, ready.boxes);
                front = λ c h. choice_front t b v (omega (arith, room)) small front c (omega arith);
                same = IfSome_then bound still_same (λ list same c h. get_or-set_other t b c v 2 (λ z. omega arith) ∙ same c h);
              }

          -- fewer boxes are open
          pub branch_falls : (v : ℕ) → v ≤ 1 → open_count (set t b v) < open_count s
          branch_falls v small =
              omega (arith, open_set t b v (omega (arith, room)) opened small, open_mono looked.rest.0 ready.cells.sheet)

          -- where the given list has more than out at the box, each list with the box out stands before it
          pub out_before : IsSomeAnd bound (λ list. 0 < get_or list.now b 2) → Finds (Asks qs n (set t b 0) bound) n None
          out_before = none bound bound_size still_same
            where
              out : get_or (set t b 0) b 2 ≡ 0
              out = get_or-set_same t b 0 2 (omega (arith, room))

              none : (g : Given) → Sized n g → IfSome g (λ list. SameBelow b t list.now) →
                  IsSomeAnd g (λ list. 0 < get_or list.now b 2) → AnswerTo (Asks qs n (set t b 0) g) false []
              none None size same more = absurd more
              none (Some list) size same more =
                  bound_less qs n (set t b 0) list.now (b + 1) (omega arith)
                  (choice_front t b 0 (omega (arith, room)) (omega arith) front) size b (omega arith)
                  (record {
                    same = λ c h. get_or-set_other t b c 0 2 (λ z. omega arith) ∙ same c h;
                    less = omega (arith, out, more);
                  })
                  []

          -- a kit found with the box out is the answer; else the answer with the box in is
          pub trial_out : (kit : Sheet) → Finds (Asks qs n (set t b 0) bound) n (Some kit) → Finds (Asks qs n s given) n (Some kit)
          trial_out kit a =
              trial_answer (Some kit)
              (branch_out qs n t b below room opened front (is_some bound) (given_of bound) (take n kit.states) a)

          pub trial_in : Finds (Asks qs n (set t b 0) bound) n None →
              (r : Option Sheet) → Finds (Asks qs n (set t b 1) bound) n r → Finds (Asks qs n s given) n r
          trial_in none r a =
              trial_answer r
              (finds_as (branch_in qs n t b below room opened front (is_some bound) (given_of bound) [] none) n r a)
