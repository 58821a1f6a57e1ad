-- Turn by turn, what is left to tell of all inputs is told of those that follow.
use Prim.Native.Nat.{◌-◌}
use mathlib.Core.List.{List}
use mathlib.Core.Path.{◌≡◌}
use lib.ListN.{length}
use Rattle.snesl.specs.Records.{Input, Span}
use Rattle.inputs.proofs.Supplying.{Supplied}
use Rattle.inputs.proofs.Checking.{Telling}
use Rattle.inputs.proofs.texts.measure_texts.Given as goal

abbrev pub invariant-loop-i : goal.invariant-loop-i
invariant-loop-i l = (length l.counts ≡ length l.initial.counts) × ((is : List Input) (ss : List Span) → Supplied l.job l.inputs 0 l.initial.k is ss → Telling l.job is ss l.initial.counts (l.inputs - l.i) l.i l.k l.counts)

abbrev pub decreases-loop-i : goal.decreases-loop-i
decreases-loop-i l = l.inputs - l.i
