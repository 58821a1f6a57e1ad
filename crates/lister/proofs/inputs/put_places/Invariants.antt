-- i places are put.
use Rattle.lister.proofs.Runs.{Putting}
use Rattle.lister.proofs.inputs.put_places.Given as goal

abbrev pub invariant-loop-i : goal.invariant-loop-i
invariant-loop-i l = Putting l.initial.env l.at l.id l.i l.env
