-- As many whole segments as there are to be; the flags that end none of them are the items.
use Rattle.std.proofs.Common.{arith, ◌∙◌}
use Rattle.rendering.proofs.FittingSteps.{fit-ragged, fit-other, fit-fewer, fit-items}
use Rattle.rendering.proofs.fitting.fit_flags.Goals as goal

pub returns-in_err-ends : goal.returns-in_err-ends
returns-in_err-ends c = c.from_residual.ensures ∙ fit-ragged c.args.flags.now c.segments.ensures c.in_err-ends.was c.args.n

pub overflow_sub-result : goal.overflow_sub-result
overflow_sub-result c = fit-fewer c.args.flags.now c.segments.ensures c.in_ok-ends.was

pub returns-then-ends-n : goal.returns-then-ends-n
returns-then-ends-n c = fit-items c.args.flags.now c.segments.ensures c.in_ok-ends.was c.args.n (omega arith)

pub returns-else-ends-n : goal.returns-else-ends-n
returns-else-ends-n c = fit-other c.args.flags.now c.segments.ensures c.in_ok-ends.was c.args.n (λ e. omega arith)
