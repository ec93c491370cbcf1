-- `why::why_check` meets its contract: the checks of tables and sheet come first.
-- Assumes nothing.
use mathlib.Core.Path.{◌∙◌}
use Rattle.std.proofs.lemmas.Result.{err_from_is_err_and}
use Rattle.why.proofs.Judging.{vet_refused, vet_passed}
use Rattle.why.proofs.why_check.Goals as goal

pub returns-in_err-check_sheet_call : goal.returns-in_err-check_sheet_call
returns-in_err-check_sheet_call c =
    let p = err_from_is_err_and c.from_residual.result c.from_residual.ensures.1 in
    rw (p.1, p.2) (vet_refused _ _ _ c.args.lines.now _ c.in_err-check_sheet_call.ensures)

pub returns : goal.returns
returns c = c.vet_accepted.ensures ∙ vet_passed _ _ _ c.args.lines.now c.in_ok-check_sheet_call.ensures
