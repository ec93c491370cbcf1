-- `search::trial` meets its contract: a trial's answer comes from its branches', and each has fewer open boxes.
-- Assumes nothing.
use Rattle.std.proofs.Common.{◌≡◌, ◌∙◌, true, false, Some, None, ℕ, zero, suc, ◌≤◌, ◌<◌, unwrap_or, refl, sym, set, arith, rules}
use Rattle.spec.specs.Fill.{open_count}
use Rattle.engine.specs.Queue.{rules_of}
use borrow.Author.Count.{below_more}
use Rattle.std.specs.declared.cmp.Ordering.TheVariants.{Less}
use Rattle.sheet.specs.declared.Sheet.{Sheet}
use Rattle.search.specs.Look.{Asks, Finds}
use Rattle.search.specs.Ready.{TrialReady}
use Rattle.search.proofs.Trials.{filled_front, filled_same, low_after, Looked, trial_clash, trial_before, trial_full}
use Rattle.search.proofs.Trials.{branch_ready, branch_falls, out_before, trial_out, trial_in}
use Rattle.search.proofs.+trial.Goals.{After-standing_to-standing, In-Some}
use Rattle.search.proofs.+trial.Goals.{then-is_past_out, else-is_past_out}
use Rattle.search.proofs.+trial.Goals as goal

-- what is known once the given list has been looked at, if b is the lowest open box
looked : (t : ℕ) (c : After-standing_to-standing t) (b : ℕ) → unwrap_or c.lowest_open-lowest.result c.args.n ≡ b →
    Looked (rules_of c.args.index.now) c.args.n (set c.args.sheet.states c.args.from c.args.state) c.args.given
    c.go_on.new.states b c.standing_to-standing.result
looked t c b e =
    record {
      rest = rw c.settled.ensures at c.in-Ok.ensures.rested;
      low = rw e at c.lowest_open-lowest.ensures.lowest;
      stands = rw (c.unwrap_or.ensures, e) at c.standing_to-standing.ensures;
    }

-- the same where a box is open, and what a branch is handed then
looked_open : (t : ℕ) (c : In-Some t) →
    Looked (rules_of c.args.index.now) c.args.n (set c.args.sheet.states c.args.from c.args.state) c.args.given
    c.go_on.new.states c.in-Some.b c.standing_to-standing.result
looked_open t c =
    record {
      rest = rw c.settled.ensures at c.in-Ok.ensures.rested;
      low = c.in-Some.ensures.lowest;
      stands = rw (c.unwrap_or.ensures, c.in-Some.is) at c.standing_to-standing.ensures;
    }

handed : (t : ℕ) (c : In-Some t) (v : ℕ) → v ≤ 1 →
    (open_count (set c.go_on.new.states c.in-Some.b v) < open_count (set c.args.sheet.states c.args.from c.args.state))
    × TrialReady c.args.index.now c.args.n (set c.go_on.new.states c.in-Some.b v) c.in-Some.b
    c.still_given-bound.result
handed t c v small =
    let began = c.requires.trial_ready in
    let seen = looked_open t c in
    let below = c.in-Some.ensures.below in (
      branch_falls began.trial seen c.still_given-bound.ensures (search rules) below v small,
      record {
        indexed = began.indexed;
        trial = branch_ready began.trial seen c.still_given-bound.ensures (search rules) below v small;
      },
    )

-- the kit of a choice is the answer, where those before have none
found : (t : ℕ) (c : In-Some t) (ahead : c.standing_to-standing.result ≡ Less → ⊥) (v : ℕ) → v ≤ 1 →
    ((u : ℕ) → u < v →
    Finds (Asks (rules_of c.args.index.now) c.args.n (set c.go_on.new.states c.in-Some.b u) c.still_given-bound.result) c.args.n None) →
    (kit : Sheet) →
    Finds (Asks (rules_of c.args.index.now) c.args.n (set c.go_on.new.states c.in-Some.b v) c.still_given-bound.result) c.args.n (Some kit) →
    Finds (Asks (rules_of c.args.index.now) c.args.n (set c.args.sheet.states c.args.from c.args.state) c.args.given) c.args.n (Some kit)
found t c ahead zero small none kit a =
    trial_out c.requires.trial_ready.trial (looked_open t c) c.still_given-bound.ensures ahead c.in-Some.ensures.below kit a
found t c ahead (suc zero) small none kit a =
    trial_in c.requires.trial_ready.trial (looked_open t c) c.still_given-bound.ensures ahead c.in-Some.ensures.below
    (none 0 (omega arith)) (Some kit) a
found t c ahead (suc (suc v)) small none kit a = absurd (omega arith)

pub returns-in_default-clause-answer_to : goal.returns-in_default-clause-answer_to
returns-in_default-clause-answer_to t c =
    trial_clash c.requires.trial_ready.trial (rw c.settled.ensures at c.in_default.ensures.rested)

pub lowest_open-lowest-requires-clause-settled_below : goal.lowest_open-lowest-requires-clause-settled_below
lowest_open-lowest-requires-clause-settled_below t c =
    let rested = rw c.settled.ensures at c.in-Ok.ensures.rested in
    filled_front c.requires.trial_ready.trial rested.0

pub standing_to-standing-requires-clause-from_le_b : goal.standing_to-standing-requires-clause-from_le_b
standing_to-standing-requires-clause-from_le_b t c =
    let rested = rw c.settled.ensures at c.in-Ok.ensures.rested in
    let ready = c.requires.trial_ready.trial in
    rw c.unwrap_or.ensures (low_after c.lowest_open-lowest.ensures.lowest (filled_front ready rested.0) ready.within)

pub standing_to-standing-requires-clause-same_below : goal.standing_to-standing-requires-clause-same_below
standing_to-standing-requires-clause-same_below t c =
    let rested = rw c.settled.ensures at c.in-Ok.ensures.rested in
    filled_same c.requires.trial_ready.trial rested.0

pub returns-then-eq-clause-answer_to : goal.returns-then-eq-clause-answer_to
returns-then-eq-clause-answer_to t c =
    let here = (goal.at.returns-then-eq-clause-answer_to t c).After-standing_to-standing in
    trial_before c.requires.trial_ready.trial (looked t here _ refl) (search rules)

pub returns-then-is_some-clause-answer_to : goal.returns-then-is_some-clause-answer_to
returns-then-is_some-clause-answer_to t c =
    let here = (goal.at.returns-then-is_some-clause-answer_to t c).After-standing_to-standing in
    trial_full c.requires.trial_ready.trial (looked t here c.args.n (rw c.in_default-lowest.is)) c.still_given-bound.ensures (search rules)
    refl false (sym c.is_some.ensures ∙ c.if-is_some.true)

pub returns-in_default-lowest-clause-answer_to : goal.returns-in_default-lowest-clause-answer_to
returns-in_default-lowest-clause-answer_to t c =
    let here = (goal.at.returns-in_default-lowest-clause-answer_to t c).After-standing_to-standing in
    trial_full c.requires.trial_ready.trial (looked t here c.args.n (rw c.in_default-lowest.is)) c.still_given-bound.ensures (search rules)
    refl true (sym c.is_some.ensures ∙ c.if-is_some.false)

pub trial-requires : goal.trial-requires
trial-requires t c =
    let (falls, ready) = handed t (goal.at.trial-requires t c).In-Some c.loop-choice.choice (omega arith) in
    (omega (arith, falls), (ready, c.loop-choice.invariant.0))

-- a branch is skipped where the given list has more than out
pub loop-choice-init : goal.loop-choice-init
loop-choice-init t c = (
  c.in-Ok.ensures.queue_len_2,
  λ v h.
      let seen = looked_open t (goal.at.loop-choice-init t c).In-Some in
      elim c.if-is_past_out.branch [
        | then-is_past_out w ↦
            let none : v ≡ 0 = omega (arith, w.least-is, h) in
            rw none
            (out_before c.requires.trial_ready.trial seen c.still_given-bound.ensures (search rules) c.in-Some.ensures.below
            (c.is_past_out.ensures w.if-is_past_out.true))
        | else-is_past_out w ↦ absurd (omega (arith, w.least-is, h))
      ],
)

pub loop-choice-preserved : goal.loop-choice-preserved
loop-choice-preserved t c =
    (c.trial.ensures.queue_len_2, below_more _ _ c.loop-choice.invariant.1 (rw c.in_default-trial.is at c.trial.ensures.answer_to))

pub returns-in-Some-trial-clause-answer_to : goal.returns-in-Some-trial-clause-answer_to
returns-in-Some-trial-clause-answer_to t c =
    found t (goal.at.returns-in-Some-trial-clause-answer_to t c).In-Some (search rules) c.loop-choice.choice (omega arith)
    c.loop-choice.invariant.1 c.in-Some-trial.kit c.in-Some-trial.ensures.answer_to

pub returns-clause-answer_to : goal.returns-clause-answer_to
returns-clause-answer_to t c =
    trial_in c.requires.trial_ready.trial (looked_open t (goal.at.returns-clause-answer_to t c).In-Some)
    c.still_given-bound.ensures (search rules) c.in-Some.ensures.below (c.loop-choice.invariant.1 0 (omega arith)) None
    (c.loop-choice.invariant.1 1 (omega arith))
