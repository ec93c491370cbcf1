-- `search::search` meets its contract: the first trial starts from the sheet filled to rest.
-- Assumes nothing.
use mathlib.Core.Path.{refl}
use Rattle.engine.proofs.Draining.{indexed_own}
use Rattle.search.proofs.Start.{start_clash, start_trial, start_answer}
use Rattle.search.proofs.search.Goals as goal

pub returns-in_default : goal.returns-in_default
returns-in_default c = start_clash c.args.t.accepted c.requires c.fill.ensures.packs.rules c.in_default.ensures

pub trial-requires : goal.trial-requires
trial-requires c =
    record {
      trial_ready = record { indexed = indexed_own c.fill.ensures; trial = start_trial c.args.t.accepted c.requires c.fill.ensures.packs.rules c.in-Ok.ensures };
      queue_len = refl;
    }

pub returns : goal.returns
returns c =
    start_answer c.args.t.accepted c.requires c.fill.ensures.packs.rules c.in-Ok.ensures c.trial.result c.trial.ensures.answer_to
