-- The formula's end is the bytes', or what follows is refused.
use Rattle.std.proofs.lemmas.Result.{err_from_is_err_and}
use Rattle.formula.proofs.Fronts.{unread, formula-left, formula-whole}
use Rattle.formula.proofs.read.read_formula.Goals as goal

pub returns-in_err-found : goal.returns-in_err-found
returns-in_err-found c = let p = err_from_is_err_and c.from_residual.result c.from_residual.ensures.1 in
    rw (p.1, p.2) (unread c.args.bytes.now c.front.ensures c.in_err-found.was)

pub returns-in_err-ended : goal.returns-in_err-ended
returns-in_err-ended c = let p = err_from_is_err_and c.from_residual-in_err-ended.result c.from_residual-in_err-ended.ensures.1 in
    rw (p.1, p.2) (formula-left c.args.bytes.now c.front.ensures c.in_ok-found.was c.ended.ensures c.in_err-ended.was)

pub returns : goal.returns
returns c = formula-whole c.args.bytes.now c.front.ensures c.in_ok-found.was c.ended.ensures c.in_ok-ended.was
