-- A sweep: records have their step one after the other, and what each settles is queued for those that have had theirs.
-- Assumes nothing.
use mathlib.Core.Path.{◌≡◌, refl, sym, subst, subst⁻¹}
use mathlib.Core.Bool.{Bool, true, false, true≢false}
use mathlib.Core.List.{List, Memᴰ}
use Prim.Native.Nat.{ℕ, ◌+◌, ◌≤◌, ◌<◌}
use native.Mathlib.Omega.{arith}
use native.Mathlib.Decide.{ℕ_discrete}
use Rattle.std.specs.Prelude.{Ok, Err}
use Rattle.spec.specs.Records.{Rec, record_at, record_count, is_rule, rules_in}
use Rattle.theory.specs.Steps.{IsSheet, Stable}
use Rattle.theory.proofs.Numbered.{number_rule, every_rule}
use Rattle.engine.specs.Moves.{SomeClash}
use Rattle.engine.specs.Queue.{RecordStepped, Seen, IsNext, Waits, rests, Ran, SweptTo}
use Rattle.engine.specs.declared.step.Clash.{Clash}
use Rattle.engine.proofs.Waiting.{waits_queued}
use Rattle.engine.proofs.Running.{ran_refl, ran_trans, ran_clash, fired_ran, clash_more}

-- a record's step, whether or not it counts as a rule
module _ (q : Rec) (t u queue queue' : List ℕ) (tail : ℕ) where
  stepped_ran : (qs : List Rec) (tail' : ℕ) (counts : Bool) → (counts ≡ true → Memᴰ q qs) → IsSheet t →
      RecordStepped counts q t u queue queue' tail (Ok tail') → Ran qs t u queue queue' tail tail'
  stepped_ran qs tail' true member sheet fired = fired_ran (member refl) fired
  stepped_ran qs tail' false member sheet (e, e', e'') =
      let at : tail ≡ tail' = cc in
      subst (λ (k : ℕ). Ran qs t u queue queue' tail k) at
      (subst⁻¹ (λ (v : List ℕ). Ran qs t v queue queue' tail tail) e
      (subst⁻¹ (λ (k : List ℕ). Ran qs t t queue k tail tail) e' (ran_refl qs sheet)))

  stepped_rests : (tail' : ℕ) (counts : Bool) → counts ≡ true → RecordStepped counts q t u queue queue' tail (Ok tail') →
      Stable q u
  stepped_rests tail' true is fired = fired.stable
  stepped_rests tail' false is fired = absurd (true≢false (sym is))

  stepped_clash : (qs : List Rec) (counts : Bool) → (counts ≡ true → Memᴰ q qs) → (lost : Clash) →
      RecordStepped counts q t u queue queue' tail (Err lost) → SomeClash qs t
  stepped_clash qs true member lost clashed = clash_more (member refl) t clashed.clash
  stepped_clash qs false member lost (e, e', e'') = absurd cc

pub seen_all : (back : Bool) {all i j : ℕ} → all ≤ i → j < all → Seen back all i j
seen_all false up below = omega arith
seen_all true up below = omega arith

seen_none : (back : Bool) {all j : ℕ} → j < all → Seen back all 0 j → ⊥
seen_none false below seen = omega arith
seen_none true below seen = omega arith

module _ (maker depot : List ℕ) where
  abbrev rules : List Rec
  rules = rules_in maker depot

  -- before the i-th record: the rules that have had their step are at rest but for what was settled since
  pub record SoFar (back : Bool) (s t queue queue' : List ℕ) (tail tail' i : ℕ) : Type 0 where
    pub ran : Ran rules s t queue queue' tail tail'
    pub waits : (j : ℕ) → j < record_count maker depot → Seen back (record_count maker depot) i j →
        is_rule (record_at maker depot j) ≡ true → Waits (record_at maker depot j) t queue' tail tail'

  pub sweep_start : (back : Bool) {s queue : List ℕ} {tail : ℕ} → IsSheet s → SoFar back s s queue queue tail tail 0
  sweep_start back sheet = record { ran = ran_refl rules sheet; waits = λ j below seen counts. absurd (seen_none back below seen) }

  module _ {back : Bool} {s t queue queue' : List ℕ} {tail tail' i : ℕ} (so : SoFar back s t queue queue' tail tail' i) where
    pub sweep_end : record_count maker depot ≤ i → SweptTo rules s t queue queue' tail tail'
    sweep_end all =
        record {
          ran = so.ran;
          waits = every_rule maker depot (λ q. Waits q t queue' tail tail') (λ r l counts. so.waits r l (seen_all back all l) counts);
        }

    module _ (r : ℕ) (below : r < record_count maker depot) where
      abbrev its : Rec
      its = record_at maker depot r

      member : is_rule its ≡ true → Memᴰ its rules
      member counts = number_rule maker depot below counts

      pub sweep_clash : (u queue'' : List ℕ) (lost : Clash) → RecordStepped (is_rule its) its t u queue' queue'' tail' (Err lost) →
          SomeClash rules s
      sweep_clash u queue'' lost step =
          ran_clash so.ran (stepped_clash its t u queue' queue'' tail' rules (is_rule its) member lost step)

      pub sweep_step : {all : ℕ} → all ≡ record_count maker depot → IsNext back all i r → (u queue'' : List ℕ) (tail'' : ℕ) →
          RecordStepped (is_rule its) its t u queue' queue'' tail' (Ok tail'') → SoFar back s u queue queue'' tail tail'' (i + 1)
      sweep_step is is-next u queue'' tail'' step =
          record { ran = ran_trans so.ran moved; waits = λ j l seen counts. at j l seen counts (ℕ_discrete j r) }
        where
          moved : Ran rules t u queue' queue'' tail' tail''
          moved = stepped_ran its t u queue' queue'' tail' rules tail'' (is_rule its) member so.ran.grown.sheet step

          at : (j : ℕ) → j < record_count maker depot → Seen back (record_count maker depot) (i + 1) j →
              is_rule (record_at maker depot j) ≡ true → Dec (j ≡ r) → Waits (record_at maker depot j) u queue'' tail tail''
          at j l seen counts (yes e) =
              subst⁻¹ (λ (k : ℕ). Waits (record_at maker depot k) u queue'' tail tail'') e
              (rests
              (stepped_rests its t u queue' queue'' tail' tail'' (is_rule its)
              (subst (λ (k : ℕ). is_rule (record_at maker depot k) ≡ true) e counts) step))
          at j l seen counts (no ¬e) =
              waits_queued moved.queued (record_at maker depot j) so.ran.queued.later (so.waits j l (rw is at is-next j seen ¬e) counts)
