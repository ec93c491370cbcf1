-- What holds of every entry of the one-rule table: read back as states it is the closure as `closed` computes it, kinds 1 and 2
-- leave z as it was, and the number is below 64. Each is one test that antt computes over the whole table.
-- Assumes nothing.
use mathlib.Core.Path.{◌≡◌, refl}
use mathlib.Core.Bool.{true}
use mathlib.Core.List.{[], ◌∷◌}
use Prim.Native.Nat.{ℕ, ◌<◌}
use lib.Dec.{ltb}
use lib.ListN.{get_or}
use borrow.Author.Tests.{ltb-true}
use Rattle.lemmas.proofs.Table.{table_agree}
use Rattle.spec.specs.Kinds.{kind_of}
use Rattle.spec.specs.Rules.{rules_of}
use Rattle.spec.specs.Records.{box_at}
use Rattle.spec.specs.Facts.{holds}
use Rattle.spec.specs.Rounds.{has, names, gives, follows, code, round, closed}
use Rattle.spec.specs.OneRule.{record_of, states_of, packed, outcome}

-- 16 × a' + 4 × b' + c' has lost nothing of the closure
pub entry_closed : (k : ℕ) → k < 256 → states_of (outcome k) ≡ closed (record_of k ∷ []) (states_of k)
unfolding kind_of rules_of box_at holds has names gives follows code round closed record_of states_of packed outcome
entry_closed = table_agree (λ k. states_of (outcome k)) (λ k. closed (record_of k ∷ []) (states_of k)) 256 refl

-- for kinds 1 and 2, c' = c
pub entry_keeps_z : (k : ℕ) → k < 128 → get_or (states_of (outcome k)) 2 0 ≡ get_or (states_of k) 2 0
unfolding kind_of rules_of box_at holds has names gives follows code round closed record_of states_of packed outcome
entry_keeps_z = table_agree (λ k. get_or (states_of (outcome k)) 2 0) (λ k. get_or (states_of k) 2 0) 128 refl

-- an entry is three codes
pub entry_below : (k : ℕ) → k < 256 → outcome k < 64
unfolding kind_of rules_of box_at holds has names gives follows code round closed record_of states_of packed outcome
entry_below k h = ltb-true (outcome k) 64 (table_agree (λ i. ltb (outcome i) 64) (λ i. true) 256 refl k h)
