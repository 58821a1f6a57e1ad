-- The count stays within the room.
use Rattle.std.specs.Prelude.{◌≡◌, ◌≤◌, length}
use Rattle.vectors.proofs.showing.read_items.Given as goal

abbrev pub invariant-loop-i : goal.invariant-loop-i
invariant-loop-i g l = (l.n ≤ length l.items) × (length l.items ≡ length l.initial.items)
