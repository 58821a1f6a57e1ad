-- i inputs are entered.
use Rattle.lister.specs.Inputs.{Declares}
use Rattle.lister.proofs.Declaring.{Entering}
use Rattle.lister.proofs.inputs.enter_inputs.Given as goal

abbrev pub invariant-loop-i : goal.invariant-loop-i
invariant-loop-i l = (g : Declares l.bytes l.inputs l.initial.env) → Entering g l.i l.env l.sp l.id
