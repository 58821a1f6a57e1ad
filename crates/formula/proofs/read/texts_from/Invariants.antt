-- What is left of the texts is what the definition makes of them all.
use Rattle.formula.proofs.Texts.{Left}
use Rattle.formula.proofs.read.texts_from.Given as goal

abbrev pub invariant-loop : goal.invariant-loop
invariant-loop l = Left l.bytes l.inputs l.from l.counter l.k
