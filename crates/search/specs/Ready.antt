-- What a search is handed: 256 states of which those from n on are open, and a list of n boxes to pass. And what each
-- of its trials is: the tables' index, and a sheet that is at rest but for one box.
-- Assumes nothing.
use Rattle.std.specs.Prelude.{◌≡◌, List, ℕ, ◌≤◌, ◌<◌, length, IfSome}
use Rattle.spec.specs.Records.{Rec}
use Rattle.spec.proofs.Named.{Good}
use Rattle.kits.specs.Kit.{SettledBelow, OpenFrom}
use Rattle.engine.specs.Moves.{Cells}
use Rattle.index.specs.declared.Index.{Index}
use Rattle.index.specs.Whole.{Indexed}
use Rattle.engine.specs.Queue.{rules_of, Poised}
use Rattle.search.specs.Look.{Given, SameBelow}

pub record Ready (n : ℕ) (s : List ℕ) (given : Given) : Type 0 where
  pub cells : Cells s
  pub past : OpenFrom n s
  pub size : IfSome given (λ list. length list.now ≡ n)

-- a sheet on which only box `from` is settled since every rule was at rest, and every box below it is settled; a list that is to be
-- passed has the same states there
pub record OnTrial (qs : List Rec) (n : ℕ) (s : List ℕ) (from : ℕ) (given : Given) : Type 0 where
  pub boxes : n ≤ 256
  pub good : Good n qs
  pub cells : Cells s
  pub past : OpenFrom n s
  pub size : IfSome given (λ list. length list.now ≡ n)
  pub poised : Poised qs s from
  pub within : from ≤ n
  pub below : from < 256
  pub front : SettledBelow from s
  pub same : IfSome given (λ list. SameBelow from s list.now)

-- the index, and a sheet on trial under its rules
pub record TrialReady (index : Index) (n : ℕ) (s : List ℕ) (from : ℕ) (given : Given) : Type 0 where
  pub indexed : Indexed index (rules_of index)
  pub trial : OnTrial (rules_of index) n s from given
