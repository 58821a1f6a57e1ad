-- Level by level, from the outermost flags to the data: the levels from `level` on fit.
use Rattle.std.proofs.Common.{◌-◌}
use Rattle.rendering.proofs.FittingSteps.{Trial}
use Rattle.rendering.proofs.fitting.first_misfit.Given as goal

abbrev pub invariant-loop-level : goal.invariant-loop-level
invariant-loop-level l = Trial l.base l.depth l.lengths l.elements l.n (l.level - 1)
