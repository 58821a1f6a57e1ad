-- `pluses::add`: the sums that are stored, and those that are still to come.
use Rattle.std.proofs.Common.{drop}
use Rattle.snesl.specs.Transducers.{pluses}
use Rattle.streams.proofs.Filling.{Filling}
use Rattle.itemwise.proofs.pluses.add.Given as goal

abbrev pub invariant-loop-i : goal.invariant-loop-i
invariant-loop-i l = Filling (pluses 0 l.xs l.ys) l.initial.out l.out (pluses l.i (drop l.i l.xs) (drop l.i l.ys)) l.inside l.i
