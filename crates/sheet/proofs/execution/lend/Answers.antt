-- Each of the three does the same, where it has the words.
use native.Mathlib.Omega.{arith}
use Rattle.sheet.proofs.execution.lend.Goals as goal

pub overflow_mul-need : goal.overflow_mul-need
overflow_mul-need c = omega (arith, c.requires.task_bound.0)

pub overflow_add-need : goal.overflow_add-need
overflow_add-need c = omega (arith, c.requires.task_bound.0)
