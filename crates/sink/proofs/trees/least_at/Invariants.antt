-- The ids before i are looked at.
use Rattle.sink.specs.Trees.{IdsAt}
use Rattle.sink.proofs.IdSearch.{Sought}
use Rattle.sink.proofs.trees.least_at.Given as goal

abbrev pub invariant-loop-i : goal.invariant-loop-i
invariant-loop-i l = (g : IdsAt l.env l.q l.count) → Sought g l.lo l.hi l.i l.best
