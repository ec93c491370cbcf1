-- Steps of rules one after the other: the states grow, the queue grows with them, and a clash of one is a clash of all.
-- Assumes nothing.
use mathlib.Core.Path.{sym, subst, ◌∙◌}
use mathlib.Core.Bool.{true, false}
use mathlib.Core.List.Memᴰ
use mathlib.Core.List.{List, [], ◌∷◌, Memᴰ}
use Prim.Native.Nat.{ℕ}
use Rattle.std.specs.Prelude.{Result, Ok, Err}
use Rattle.spec.specs.Records.{Rec}
use Rattle.spec.proofs.Least.{closure_mono}
use Rattle.theory.specs.Steps.{IsSheet, Grown}
use Rattle.theory.proofs.Growth.{grown_refl, grown_trans, grown_clash}
use Rattle.engine.specs.Moves.{SomeClash, Rested}
use Rattle.engine.specs.Queue.{Lent, Fired, Clashed, Ran}
use Rattle.engine.specs.declared.step.Clash.{Clash}
use Rattle.engine.proofs.Queueing.{queued_refl, queued_trans, lent_later}

-- what one rule derives, all rules derive
module _ {q : Rec} {qs : List Rec} (member : Memᴰ q qs) where
  one_of : (p : Rec) → Memᴰ p (q ∷ []) → Memᴰ p qs
  one_of p m = subst (λ (r : Rec). Memᴰ r qs) (sym (Memᴰ.eq_of_singleton m)) member

  grown_more : {s t : List ℕ} → Grown (q ∷ []) s t → Grown qs s t
  grown_more {s} grown =
      record {
        size = grown.size;
        keeps = grown.keeps;
        derived = λ b state h. closure_mono (q ∷ []) qs s s one_of (λ c state' k. k) b state (grown.derived b state h);
        sheet = grown.sheet;
      }

  pub clash_more : (s : List ℕ) → SomeClash (q ∷ []) s → SomeClash qs s
  clash_more s c =
      let more = closure_mono (q ∷ []) qs s s one_of (λ d state k. k) in
      (c.0, (more c.0 false c.1.0, more c.0 true c.1.1))

-- a clash that is met later is one
pub clashed_since : {qs : List Rec} {s t queue queue' : List ℕ} → Grown qs s t → Clashed qs t queue queue' → Clashed qs s queue queue'
clashed_since grown lost = record { clash = (lost.clash.0, grown_clash grown lost.clash.1); size = lost.size }

-- what comes to rest later has come to rest since
pub grown_rested : {qs : List Rec} {s t : List ℕ} → Grown qs s t → (u : List ℕ) (answer : Result Unit Clash) → Rested qs t u answer →
    Rested qs s u answer
grown_rested grown u (Ok _) rested = (grown_trans grown rested.0, rested.1)
grown_rested grown u (Err _) clash = (clash.0, grown_clash grown clash.1)

pub ran_refl : (qs : List Rec) {s queue : List ℕ} {tail : ℕ} → IsSheet s → Ran qs s s queue queue tail tail
ran_refl qs {s} {queue} {tail} sheet = record { grown = grown_refl qs s sheet; queued = queued_refl s queue tail }

pub lent_ran : {qs : List Rec} {s t queue queue' : List ℕ} {tail tail' : ℕ} → Lent s queue tail → Ran qs s t queue queue' tail tail' →
    Lent t queue' tail'
lent_ran lent ran =
    lent_later lent (record { size = ran.grown.size ∙ lent.cells.size; sheet = ran.grown.sheet }) ran.queued

module _ {qs : List Rec} {s t queue queue' : List ℕ} {tail tail' : ℕ} (ran : Ran qs s t queue queue' tail tail') where
  pub ran_trans : {u queue'' : List ℕ} {tail'' : ℕ} → Ran qs t u queue' queue'' tail' tail'' → Ran qs s u queue queue'' tail tail''
  ran_trans more =
      record { grown = grown_trans ran.grown more.grown; queued = queued_trans ran.queued more.queued }

  pub ran_clash : SomeClash qs t → SomeClash qs s
  ran_clash c = (c.0, grown_clash ran.grown c.1)

-- one rule's step
module _ {q : Rec} {qs : List Rec} (member : Memᴰ q qs) where
  pub fired_ran : {s t queue queue' : List ℕ} {tail tail' : ℕ} → Fired q s t queue queue' tail tail' → Ran qs s t queue queue' tail tail'
  fired_ran fired = record { grown = grown_more member fired.grown; queued = fired.queued }
