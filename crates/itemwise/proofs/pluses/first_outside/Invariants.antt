-- `pluses::first_outside`: the first that is out of range is one of the sums that are left.
use Rattle.std.proofs.Common.{◌≡◌, drop}
use Rattle.snesl.specs.Transducers.{first_outside, pluses}
use Rattle.itemwise.proofs.pluses.first_outside.Given as goal

abbrev pub invariant-loop-i : goal.invariant-loop-i
invariant-loop-i l = first_outside (pluses 0 l.xs l.ys) ≡ first_outside (pluses l.i (drop l.i l.xs) (drop l.i l.ys))
