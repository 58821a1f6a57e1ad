-- `unary::measure`: what is counted so far, and that no negative was met.
use Rattle.std.proofs.Common.{◌≡◌, ◌+◌, ◌≤◌, length, drop}
use Rattle.snesl.specs.Transducers.{first_negative, unary}
use Rattle.itemwise.proofs.unary.measure.Given as goal

abbrev pub invariant-loop-i : goal.invariant-loop-i
invariant-loop-i l =
    (l.free ≤ l.room)
    × (first_negative 0 l.items ≡ first_negative l.i (drop l.i l.items))
    × (length (unary l.items) + l.free ≡ l.room + length (unary (drop l.i l.items)))
