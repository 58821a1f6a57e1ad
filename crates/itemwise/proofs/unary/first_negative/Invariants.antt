-- `unary::first_negative`: no negative was met so far.
use Rattle.std.proofs.Common.{◌≡◌, drop}
use Rattle.snesl.specs.Transducers.{first_negative}
use Rattle.itemwise.proofs.unary.first_negative.Given as goal

abbrev pub invariant-loop-i : goal.invariant-loop-i
invariant-loop-i l = first_negative l.start (drop l.start l.items) ≡ first_negative l.i (drop l.i l.items)
