-- `negations::negate`: the stores that are still to come, done on the output as it is, give the whole run of stores.
use Rattle.std.proofs.Common.{◌≡◌, map, not, drop}
use Rattle.std.proofs.lemmas.List.Edits.{sets}
use Rattle.snesl.specs.Streams.{bit}
use Rattle.snesl.specs.Transducers.{bool_of}
use Rattle.itemwise.proofs.negations.negate.Given as goal

abbrev pub invariant-loop-i : goal.invariant-loop-i
invariant-loop-i l = sets l.out l.i (map bit (map not (map bool_of (drop l.i l.bools)))) ≡ sets l.initial.out 0 (map bit (map not (map bool_of l.bools)))
