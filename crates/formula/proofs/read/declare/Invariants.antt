-- What is left of the input records, behind those that are read, is what the definition makes of them.
use Prim.Native.Nat.{◌*◌}
use Rattle.formula.proofs.Declaring.{Declaring}
use Rattle.formula.proofs.read.declare.Given as goal

abbrev pub invariant-loop-inputs : goal.invariant-loop-inputs
invariant-loop-inputs l = Declaring l.bytes l.inputs (4 * l.inputs)
