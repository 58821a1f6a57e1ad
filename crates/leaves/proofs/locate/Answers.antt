-- An entry for each variable that the form names (proofs/Singles.antt).
use native.Mathlib.Omega.{arith}
use Rattle.leaves.proofs.Singles.{constant-located, operation-located, negation-located, sum-located, left-sought, right-sought, negation-sought, sum-sought}
use Rattle.leaves.proofs.locate.Goals as goal

pub find-requires : goal.find-requires
find-requires c = left-sought c.requires.3 c.in-Operation.is

pub overflow_add-result : goal.overflow_add-result
overflow_add-result c = omega (arith, (c.find.ensures (left-sought c.requires.3 c.in-Operation.is)).within)

pub find-requires-in-Operation : goal.find-requires-in-Operation
find-requires-in-Operation c = right-sought c.requires.3 c.in-Operation.is

pub overflow_add-result-in-Operation : goal.overflow_add-result-in-Operation
overflow_add-result-in-Operation c = omega (arith, (c.find-in-Operation.ensures (right-sought c.requires.3 c.in-Operation.is)).within)

pub find-requires-in-Negation : goal.find-requires-in-Negation
find-requires-in-Negation c = negation-sought c.requires.3 c.in-Negation.is

pub overflow_add-result-in-Negation : goal.overflow_add-result-in-Negation
overflow_add-result-in-Negation c = omega (arith, (c.find-in-Negation.ensures (negation-sought c.requires.3 c.in-Negation.is)).within)

pub find-p-requires : goal.find-p-requires
find-p-requires c = sum-sought c.requires.3 c.in-Sum.is

pub overflow_add-p : goal.overflow_add-p
overflow_add-p c = omega (arith, (c.find-p.ensures (sum-sought c.requires.3 c.in-Sum.is)).within)

pub overflow_add-result-in-Sum : goal.overflow_add-result-in-Sum
overflow_add-result-in-Sum c = omega (arith, (c.find-p.ensures (sum-sought c.requires.3 c.in-Sum.is)).within)

pub returns-in-Const : goal.returns-in-Const
returns-in-Const c = λ b s t g. constant-located g _ c.in-Const.is

pub returns-in-Operation : goal.returns-in-Operation
returns-in-Operation c = λ b s t g. operation-located g c.in-Operation.is c.find.ensures c.find-in-Operation.ensures

pub returns-in-Negation : goal.returns-in-Negation
returns-in-Negation c = λ b s t g. negation-located g c.in-Negation.is c.find-in-Negation.ensures

pub returns-in-Sum : goal.returns-in-Sum
returns-in-Sum c = λ b s t g. sum-located g c.in-Sum.is c.find-p.ensures
