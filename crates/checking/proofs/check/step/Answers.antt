-- The fields of a record lie in the bytes.
use Rattle.std.proofs.Common.{Ok, ap, sym, ◌∙◌, arith}
use Rattle.records.proofs.Heads.{told}
use Rattle.checking.proofs.check.step.Goals as goal

pub overflow_add-result : goal.overflow_add-result
overflow_add-result c = omega (arith, (told c.args.bytes.now c.args.k _ (ap Ok (sym c.in-Var.is) ∙ c.in_ok-x.ensures)).1)

pub overflow_add-result-in-Const : goal.overflow_add-result-in-Const
overflow_add-result-in-Const c = omega (arith, (told c.args.bytes.now c.args.k _ (ap Ok (sym c.in-Const.is) ∙ c.in_ok-x.ensures)).1)

pub overflow_add-result-in-Truth : goal.overflow_add-result-in-Truth
overflow_add-result-in-Truth c = omega (arith, (told c.args.bytes.now c.args.k _ (ap Ok (sym c.in-Truth.is) ∙ c.in_ok-x.ensures)).1)

pub overflow_add-result-in-Iota : goal.overflow_add-result-in-Iota
overflow_add-result-in-Iota c = omega (arith, (told c.args.bytes.now c.args.k _ (ap Ok (sym c.in-Iota.is) ∙ c.in_ok-x.ensures)).1)

pub overflow_add-result-in-Operation : goal.overflow_add-result-in-Operation
overflow_add-result-in-Operation c = omega (arith, (told c.args.bytes.now c.args.k _ (ap Ok (sym c.in-Operation.is) ∙ c.in_ok-x.ensures)).1)

pub overflow_add-result-in-Negation : goal.overflow_add-result-in-Negation
overflow_add-result-in-Negation c = omega (arith, (told c.args.bytes.now c.args.k _ (ap Ok (sym c.in-Negation.is) ∙ c.in_ok-x.ensures)).1)

pub overflow_add-result-in-Sum : goal.overflow_add-result-in-Sum
overflow_add-result-in-Sum c = omega (arith, (told c.args.bytes.now c.args.k _ (ap Ok (sym c.in-Sum.is) ∙ c.in_ok-x.ensures)).1)
