-- The writers of an item and of a list call each other, as the readers do, with the same measure. The loop over a list's items keeps `Enlisting`.
use Prim.Native.Nat.{◌+◌, ◌-◌}
use lib.ListN.{length, get_or}
use Rattle.rendering.proofs.WritingSteps.{Enlisting}
use Rattle.rendering.proofs.writing.+write_item_write_list.Given as goal

abbrev pub decreases-write_item : goal.decreases-write_item
decreases-write_item l = l.depth + l.depth + 1

abbrev pub decreases-write_list : goal.decreases-write_list
decreases-write_list l = l.depth + l.depth

abbrev pub invariant-write_list-loop-base : goal.invariant-write_list-loop-base
invariant-write_list-loop-base l = Enlisting l.base (l.depth - 1) l.elements l.initial.cursors l.cursors l.initial.answer l.answer l.at l.next l.mark

abbrev pub decreases-write_list-loop-base : goal.decreases-write_list-loop-base
decreases-write_list-loop-base l = length l.elements - get_or l.cursors l.depth 0
