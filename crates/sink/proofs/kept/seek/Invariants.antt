-- The ids before i are less than u.
use Rattle.sink.proofs.Keeping.{Searching}
use Rattle.sink.proofs.kept.seek.Given as goal

abbrev pub invariant-loop-i : goal.invariant-loop-i
invariant-loop-i l = Searching l.u l.ids l.i
