-- Turn by turn one input more is loaded, or the room is passed.
use Prim.Native.Nat.{◌-◌}
use mathlib.Core.Path.{◌≡◌}
use lib.ListN.{length}
use Rattle.inputs.proofs.AllLoaded.{Given, Loading}
use Rattle.inputs.proofs.loading.load.Given as goal

abbrev pub invariant-loop-i : goal.invariant-loop-i
invariant-loop-i l = (length l.env ≡ length l.initial.env) × (length l.buf ≡ length l.initial.buf) × ((g : Given l.job l.inputs l.initial.k l.counts) → Loading g l.initial.env l.initial.buf l.i l.k l.sp l.env l.buf l.machine)

abbrev pub decreases-loop-i : goal.decreases-loop-i
decreases-loop-i l = l.inputs - l.i
