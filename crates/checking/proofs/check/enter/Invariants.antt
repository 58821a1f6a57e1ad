-- Each turn enters one input, unless its name is there already.
use Rattle.std.proofs.Common.{length}
use Rattle.formula.specs.Declarations.{input_place}
use Rattle.checking.proofs.Entering.{Entering}
use Rattle.checking.proofs.check.enter.Given as goal

abbrev pub invariant-loop-i : goal.invariant-loop-i
invariant-loop-i l = Entering l.bytes l.inputs (length l.initial.env) l.env l.sp l.i (input_place l.i)
