-- Each turn passes one text by.
use Rattle.finder.proofs.Parts.{Parting}
use Rattle.finder.proofs.find.part_from.Given as goal

abbrev pub invariant-loop : goal.invariant-loop
invariant-loop l = Parting l.bytes l.i l.from l.counter l.k
