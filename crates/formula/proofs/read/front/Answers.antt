-- The parts that were found, put together as the definition does.
use Rattle.std.proofs.lemmas.Result.{err_from_is_err_and}
use Rattle.formula.proofs.Fronts.{too_long, undeclared, unscanned, all-scanned}
use Rattle.formula.proofs.read.front.Goals as goal

pub returns-then-bytes-gt-BYTES : goal.returns-then-bytes-gt-BYTES
returns-then-bytes-gt-BYTES c = too_long c.args.bytes.now c.if-bytes-gt-BYTES.true

pub returns-in_err-declared : goal.returns-in_err-declared
returns-in_err-declared c = let p = err_from_is_err_and c.from_residual.result c.from_residual.ensures.1 in
    rw (p.1, p.2) (undeclared c.args.bytes.now c.if-bytes-gt-BYTES.false c.declare.ensures c.in_err-declared.was)

pub returns-in_err-scanned : goal.returns-in_err-scanned
returns-in_err-scanned c = let p = err_from_is_err_and c.from_residual-in_err-scanned.result c.from_residual-in_err-scanned.ensures.1 in
    rw (p.1, p.2) (unscanned c.args.bytes.now c.if-bytes-gt-BYTES.false c.declare.ensures c.in_ok-declared.was c.scan.ensures c.in_err-scanned.was)

pub returns : goal.returns
returns c = all-scanned c.args.bytes.now c.if-bytes-gt-BYTES.false c.declare.ensures c.in_ok-declared.was c.scan.ensures c.in_ok-scanned.was
