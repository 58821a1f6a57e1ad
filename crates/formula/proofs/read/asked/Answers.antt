-- The fields tell the head, and the head tells what is asked.
use Rattle.std.proofs.Common.{ap, sym, arith}
use Rattle.std.proofs.lemmas.Result.{err_from_is_err_and}
use Rattle.formula.specs.Reading.{asked_of}
use Rattle.formula.proofs.Asking.{asks, refuses}
use Rattle.formula.proofs.read.asked.Goals as goal

pub returns-in_err-head_at : goal.returns-in_err-head_at
returns-in_err-head_at c = let p = err_from_is_err_and c.from_residual.result c.from_residual.ensures.1 in
    rw (p.1, p.2) (refuses c.args.bytes.now c.args.k c.head_at.ensures c.in_err-head_at.was)

pub overflow_add-result : goal.overflow_add-result
overflow_add-result c = omega (arith, (asks c.args.bytes.now c.args.k c.head_at.ensures c.in_ok-head_at.was c.in-Let.is).1)

pub overflow_add-result-in-Each : goal.overflow_add-result-in-Each
overflow_add-result-in-Each c = omega (arith, (asks c.args.bytes.now c.args.k c.head_at.ensures c.in_ok-head_at.was c.in-Each.is).1)

pub overflow_add-result-in-Each-2 : goal.overflow_add-result-in-Each-2
overflow_add-result-in-Each-2 c = omega (arith, (asks c.args.bytes.now c.args.k c.head_at.ensures c.in_ok-head_at.was c.in-Each.is).1)

pub overflow_add-result-in-Guard : goal.overflow_add-result-in-Guard
overflow_add-result-in-Guard c = omega (arith, (asks c.args.bytes.now c.args.k c.head_at.ensures c.in_ok-head_at.was c.in-Guard.is).1)

pub overflow_add-result-in-Guard-2 : goal.overflow_add-result-in-Guard-2
overflow_add-result-in-Guard-2 c = omega (arith, (asks c.args.bytes.now c.args.k c.head_at.ensures c.in_ok-head_at.was c.in-Guard.is).1)

pub overflow_add-result-in-Const : goal.overflow_add-result-in-Const
overflow_add-result-in-Const c = omega (arith, (asks c.args.bytes.now c.args.k c.head_at.ensures c.in_ok-head_at.was c.in-Const.is).1)

pub overflow_add-result-in-Operation : goal.overflow_add-result-in-Operation
overflow_add-result-in-Operation c = omega (arith, (asks c.args.bytes.now c.args.k c.head_at.ensures c.in_ok-head_at.was c.in-Operation.is).1)

pub overflow_add-result-in-Var : goal.overflow_add-result-in-Var
overflow_add-result-in-Var c = omega (arith, (asks c.args.bytes.now c.args.k c.head_at.ensures c.in_ok-head_at.was c.in-Var.is).1)

pub overflow_add-result-in-Truth : goal.overflow_add-result-in-Truth
overflow_add-result-in-Truth c = omega (arith, (asks c.args.bytes.now c.args.k c.head_at.ensures c.in_ok-head_at.was c.in-Truth.is).1)

pub overflow_add-result-in-Iota : goal.overflow_add-result-in-Iota
overflow_add-result-in-Iota c = omega (arith, (asks c.args.bytes.now c.args.k c.head_at.ensures c.in_ok-head_at.was c.in-Iota.is).1)

pub overflow_add-result-in-Negation : goal.overflow_add-result-in-Negation
overflow_add-result-in-Negation c = omega (arith, (asks c.args.bytes.now c.args.k c.head_at.ensures c.in_ok-head_at.was c.in-Negation.is).1)

pub overflow_add-result-in-Sum : goal.overflow_add-result-in-Sum
overflow_add-result-in-Sum c = omega (arith, (asks c.args.bytes.now c.args.k c.head_at.ensures c.in_ok-head_at.was c.in-Sum.is).1)

pub returns-in-Let : goal.returns-in-Let
returns-in-Let c = ap (asked_of c.args.k) (sym (asks c.args.bytes.now c.args.k c.head_at.ensures c.in_ok-head_at.was c.in-Let.is).0)

pub returns-in-Each : goal.returns-in-Each
returns-in-Each c = ap (asked_of c.args.k) (sym (asks c.args.bytes.now c.args.k c.head_at.ensures c.in_ok-head_at.was c.in-Each.is).0)

pub returns-in-Guard : goal.returns-in-Guard
returns-in-Guard c = ap (asked_of c.args.k) (sym (asks c.args.bytes.now c.args.k c.head_at.ensures c.in_ok-head_at.was c.in-Guard.is).0)

pub returns-in-Const : goal.returns-in-Const
returns-in-Const c = ap (asked_of c.args.k) (sym (asks c.args.bytes.now c.args.k c.head_at.ensures c.in_ok-head_at.was c.in-Const.is).0)

pub returns-in-Operation : goal.returns-in-Operation
returns-in-Operation c = ap (asked_of c.args.k) (sym (asks c.args.bytes.now c.args.k c.head_at.ensures c.in_ok-head_at.was c.in-Operation.is).0)

pub returns-in-Var : goal.returns-in-Var
returns-in-Var c = ap (asked_of c.args.k) (sym (asks c.args.bytes.now c.args.k c.head_at.ensures c.in_ok-head_at.was c.in-Var.is).0)

pub returns-in-Truth : goal.returns-in-Truth
returns-in-Truth c = ap (asked_of c.args.k) (sym (asks c.args.bytes.now c.args.k c.head_at.ensures c.in_ok-head_at.was c.in-Truth.is).0)

pub returns-in-Iota : goal.returns-in-Iota
returns-in-Iota c = ap (asked_of c.args.k) (sym (asks c.args.bytes.now c.args.k c.head_at.ensures c.in_ok-head_at.was c.in-Iota.is).0)

pub returns-in-Negation : goal.returns-in-Negation
returns-in-Negation c = ap (asked_of c.args.k) (sym (asks c.args.bytes.now c.args.k c.head_at.ensures c.in_ok-head_at.was c.in-Negation.is).0)

pub returns-in-Sum : goal.returns-in-Sum
returns-in-Sum c = ap (asked_of c.args.k) (sym (asks c.args.bytes.now c.args.k c.head_at.ensures c.in_ok-head_at.was c.in-Sum.is).0)
