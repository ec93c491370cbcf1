-- Steps that note the boxes they settle in a queue, and rules that are at rest or wait for a box in it.
-- Assumes nothing.
use Rattle.std.specs.Prelude.{◌≡◌, ◌⊎◌, Bool, true, false, Result, Ok, Err, ℕ, ◌+◌, ◌≤◌, ◌<◌, length, get_or}
use mathlib.Core.List.{List, [], ◌∷◌, Memᴰ}
use Rattle.spec.specs.Kinds.{Place}
use Rattle.spec.specs.Records.{Rec, box_at, bad}
use Rattle.spec.specs.Fill.{open_count}
use Rattle.theory.specs.Steps.{Stable, Grown}
use Rattle.theory.proofs.Places.{Names}
use Rattle.index.specs.Index.{packed_rules}
use Rattle.index.specs.declared.Index.{Index}
use Rattle.engine.specs.Moves.{Cells, SomeClash}
use Rattle.engine.specs.declared.step.Clash.{Clash}

-- the rules of an index
abbrev pub rules_of : Index → List Rec
rules_of index = packed_rules index.packed index.rules

-- states, and a queue of boxes with its end, which has room for every box that is open
pub record Lent (s queue : List ℕ) (tail : ℕ) : Type 0 where
  pub cells : Cells s
  pub size : length queue ≡ 256
  pub room : tail + open_count s ≤ 256

-- the queue holds box b at a place of this part
pub record HasBox (queue : List ℕ) (from to b : ℕ) : Type 0 where
  pub at : ℕ
  pub after : from ≤ at
  pub before : at < to
  pub is : get_or queue at 0 ≡ b

-- from s to t the queue grew: what it held stays, each box that changed is in the new part, and the open boxes give it room
pub record Queued (s t queue queue' : List ℕ) (tail tail' : ℕ) : Type 0 where
  pub later : tail ≤ tail'
  pub room : tail' + open_count t ≤ tail + open_count s
  pub size : length queue' ≡ length queue
  pub kept : (i : ℕ) → i < tail → get_or queue' i 0 ≡ get_or queue i 0
  pub changed : (b : ℕ) → (get_or t b 2 ≡ get_or s b 2 → ⊥) → HasBox queue' tail tail' b

-- a box that is about to get a state: it has it, or is open
pub record Settling (s queue : List ℕ) (tail b state : ℕ) : Type 0 where
  pub lent : Lent s queue tail
  pub below : b < 256
  pub settled : state ≤ 2
  pub opens : (get_or s b 2 ≡ state → ⊥) → get_or s b 2 ≡ 2

-- what a step is handed: a rule that is not bad, states and queue
pub record StepInput (q : Rec) (s queue : List ℕ) (tail : ℕ) : Type 0 where
  pub good : bad 256 q ≡ false
  pub lent : Lent s queue tail

-- every rule of one record has fired: it is at rest, and what it settled is queued
pub record Fired (q : Rec) (s t queue queue' : List ℕ) (tail tail' : ℕ) : Type 0 where
  pub grown : Grown (q ∷ []) s t
  pub stable : Stable q t
  pub queued : Queued s t queue queue' tail tail'

-- a clash of these rules; whatever was queued before it, the queue has its size still
pub record Clashed (qs : List Rec) (s queue queue' : List ℕ) : Type 0 where
  pub clash : SomeClash qs s
  pub size : length queue' ≡ length queue

abbrev pub Stepped : Rec → (s t queue queue' : List ℕ) → ℕ → Result ℕ Clash → Type 0
Stepped q s t queue queue' tail (Ok tail') = Fired q s t queue queue' tail tail'
Stepped q s t queue queue' tail (Err _) = Clashed (q ∷ []) s queue queue'

-- a record of the tables has had its step: its rules have fired if it counts as one, and else nothing changed
abbrev pub RecordStepped : (counts : Bool) → Rec → (s t queue queue' : List ℕ) → ℕ → Result ℕ Clash → Type 0
RecordStepped true q s t queue queue' tail answer = Stepped q s t queue queue' tail answer
RecordStepped false q s t queue queue' tail answer = (t ≡ s) × (queue' ≡ queue) × (answer ≡ Ok tail)

-- the records that have had their step before the i-th of a sweep, forward or back
abbrev pub Seen : (back : Bool) (all i j : ℕ) → Type 0
Seen false all i j = j < i
Seen true all i j = all ≤ j + i

-- record r is the i-th of a sweep: with it, one more is seen
abbrev pub IsNext : (back : Bool) (all i r : ℕ) → Type 0
IsNext back all i r = (j : ℕ) → Seen back all (i + 1) j → (j ≡ r → ⊥) → Seen back all i j

-- the record names box b
abbrev pub NamesBox : Rec → ℕ → Type 0
NamesBox q b = (p : Place) × Names q p × (box_at q p ≡ b)

-- a rule is at rest, or names a box in this part of the queue
pub data Waits (q : Rec) (s queue : List ℕ) (from to : ℕ) : Type 0 where
  rests : Stable q s → Waits q s queue from to
  named : (b : ℕ) → NamesBox q b → HasBox queue from to b → Waits q s queue from to

abbrev pub AllWait : List Rec → (s queue : List ℕ) → (from to : ℕ) → Type 0
AllWait qs s queue from to = (q : Rec) → Memᴰ q qs → Waits q s queue from to

-- steps of some rules: the states grew, and what they settled is queued
pub record Ran (qs : List Rec) (s t queue queue' : List ℕ) (tail tail' : ℕ) : Type 0 where
  pub grown : Grown qs s t
  pub queued : Queued s t queue queue' tail tail'

-- every rule has had its step once, and is at rest but for what was settled since
pub record SweptTo (qs : List Rec) (s t queue queue' : List ℕ) (tail tail' : ℕ) : Type 0 where
  pub ran : Ran qs s t queue queue' tail tail'
  pub waits : AllWait qs t queue' tail tail'

abbrev pub Swept : List Rec → (s t queue queue' : List ℕ) → ℕ → Result ℕ Clash → Type 0
Swept qs s t queue queue' tail (Ok tail') = SweptTo qs s t queue queue' tail tail'
Swept qs s t queue queue' tail (Err _) = SomeClash qs s

-- every rule that names box b has had its step
pub record VisitedTo (qs : List Rec) (b : ℕ) (s t queue queue' : List ℕ) (tail tail' : ℕ) : Type 0 where
  pub ran : Ran qs s t queue queue' tail tail'
  pub waits : (q : Rec) → Memᴰ q qs → NamesBox q b → Waits q t queue' tail tail'

abbrev pub Visited : List Rec → ℕ → (s t queue queue' : List ℕ) → ℕ → Result ℕ Clash → Type 0
Visited qs b s t queue queue' tail (Ok tail') = VisitedTo qs b s t queue queue' tail tail'
Visited qs b s t queue queue' tail (Err _) = Clashed qs s queue queue'

-- only box b is settled since every rule was at rest
abbrev pub Poised : List Rec → List ℕ → ℕ → Type 0
Poised qs s b = (q : Rec) → Memᴰ q qs → Stable q s ⊎ ((get_or s b 2 ≡ 2 → ⊥) × NamesBox q b)
