-- The texts follow the formula, and their end is the bytes', or what follows is refused.
use Rattle.std.proofs.lemmas.Result.{err_from_is_err_and}
use Rattle.formula.proofs.Fronts.{no-formula, no-texts, job-left, job-whole}
use Rattle.formula.proofs.read.read_job.Goals as goal

pub returns-in_err-formula : goal.returns-in_err-formula
returns-in_err-formula c = let p = err_from_is_err_and c.from_residual.result c.from_residual.ensures.1 in
    rw (p.1, p.2) (no-formula c.args.bytes.now c.front.ensures c.in_err-formula.was)

pub returns-in_err-end : goal.returns-in_err-end
returns-in_err-end c = let p = err_from_is_err_and c.from_residual-in_err-end.result c.from_residual-in_err-end.ensures.1 in
    rw (p.1, p.2) (no-texts c.args.bytes.now c.front.ensures c.in_ok-formula.was c.texts_from.ensures c.in_err-end.was)

pub returns-in_err-ended : goal.returns-in_err-ended
returns-in_err-ended c = let p = err_from_is_err_and c.from_residual-in_err-ended.result c.from_residual-in_err-ended.ensures.1 in
    rw (p.1, p.2) (job-left c.args.bytes.now c.front.ensures c.in_ok-formula.was c.texts_from.ensures c.in_ok-end.was c.ended.ensures c.in_err-ended.was)

pub returns : goal.returns
returns c = job-whole c.args.bytes.now c.front.ensures c.in_ok-formula.was c.texts_from.ensures c.in_ok-end.was c.ended.ensures c.in_ok-ended.was
