-- `why::why` meets its contract: the checks come first, and what comes after them is the maker's.
-- Assumes nothing.
use Rattle.std.proofs.lemmas.Result.{err_from_is_err_and}
use Rattle.why.proofs.Judging.{why_refused, why_passed}
use Rattle.why.proofs.why.Goals as goal

pub returns-in_err-check_why : goal.returns-in_err-check_why
returns-in_err-check_why c =
    let p = err_from_is_err_and c.from_residual.result c.from_residual.ensures.1 in
    rw (p.1, p.2) (why_refused _ _ _ c.args.out.now _ c.in_err-check_why.ensures)

pub returns : goal.returns
returns c = why_passed _ _ _ c.args.out.now c.in_ok-check_why.ensures _ _ c.why_accepted.ensures
