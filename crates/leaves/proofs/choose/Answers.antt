-- The ids are the first words of the operands' places (proofs/Singles.antt).
use borrow.Author.Rules.{rules}
use native.Mathlib.Omega.{arith}
use Rattle.std.proofs.Common.{rules}
use Rattle.leaves.proofs.Singles.{const-chosen, truth-chosen, operation-chosen, negation-chosen, sum-chosen, operation-within, negation-within, sum-within}
use Rattle.leaves.proofs.choose.Goals as goal

pub offset_bounds-env-p : goal.offset_bounds-env-p
offset_bounds-env-p c = omega (arith, (operation-within c.requires.4 c.requires.5 c.in-Operation.is).0)

pub bounds-env-p : goal.bounds-env-p
bounds-env-p c = omega (arith, (operation-within c.requires.4 c.requires.5 c.in-Operation.is).0)

pub overflow_cast-result : goal.overflow_cast-result
overflow_cast-result c = omega (arith, c.type_inv.env c.args.at.first)

pub offset_bounds-env-q : goal.offset_bounds-env-q
offset_bounds-env-q c = omega (arith, (operation-within c.requires.4 c.requires.5 c.in-Operation.is).1)

pub bounds-env-q : goal.bounds-env-q
bounds-env-q c = omega (arith, (operation-within c.requires.4 c.requires.5 c.in-Operation.is).1)

pub overflow_cast-result-in-Operation : goal.overflow_cast-result-in-Operation
overflow_cast-result-in-Operation c = omega (arith, c.type_inv.env c.args.at.second)

pub offset_bounds-env-p-in-Negation : goal.offset_bounds-env-p-in-Negation
offset_bounds-env-p-in-Negation c = omega (arith, (negation-within c.requires.4 c.requires.5 c.in-Negation.is))

pub bounds-env-p-in-Negation : goal.bounds-env-p-in-Negation
bounds-env-p-in-Negation c = omega (arith, (negation-within c.requires.4 c.requires.5 c.in-Negation.is))

pub overflow_cast-result-in-Negation : goal.overflow_cast-result-in-Negation
overflow_cast-result-in-Negation c = omega (arith, c.type_inv.env c.args.at.first)

pub offset_bounds-env-p-in-Sum : goal.offset_bounds-env-p-in-Sum
offset_bounds-env-p-in-Sum c = omega (arith, (sum-within c.requires.4 c.requires.5 c.in-Sum.is).0)

pub bounds-env-p-in-Sum : goal.bounds-env-p-in-Sum
bounds-env-p-in-Sum c = omega (arith, (sum-within c.requires.4 c.requires.5 c.in-Sum.is).0)

pub overflow_cast-result-in-Sum : goal.overflow_cast-result-in-Sum
overflow_cast-result-in-Sum c = omega (arith, c.type_inv.env c.args.at.first)

pub offset_bounds-env-q-in-Sum : goal.offset_bounds-env-q-in-Sum
offset_bounds-env-q-in-Sum c = omega (arith, (sum-within c.requires.4 c.requires.5 c.in-Sum.is).1)

pub bounds-env-q-in-Sum : goal.bounds-env-q-in-Sum
bounds-env-q-in-Sum c = omega (arith, (sum-within c.requires.4 c.requires.5 c.in-Sum.is).1)

pub overflow_cast-result-in-Sum-2 : goal.overflow_cast-result-in-Sum-2
overflow_cast-result-in-Sum-2 c = omega (arith, c.type_inv.env c.args.at.second)

pub returns-in-Const : goal.returns-in-Const
returns-in-Const c = λ p b s t g l. const-chosen g l c.in-Const.is (search rules)

pub returns-in-Truth : goal.returns-in-Truth
returns-in-Truth c = λ p b s t g l. truth-chosen g l c.in-Truth.is

pub returns-in-Operation : goal.returns-in-Operation
returns-in-Operation c = λ p b s t g l. operation-chosen g l c.in-Operation.is

pub returns-in-Negation : goal.returns-in-Negation
returns-in-Negation c = λ p b s t g l. negation-chosen g l c.in-Negation.is

pub returns-in-Sum : goal.returns-in-Sum
returns-in-Sum c = λ p b s t g l. sum-chosen g l c.in-Sum.is
