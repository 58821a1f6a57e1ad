-- The item reader and the list reader call each other. The measure is twice the depth, and one more for an item, which hands a list of its own depth on;
-- a list hands its items on at one depth less. The loop over a list's items keeps `Listing`.
use Prim.Native.Nat.{◌+◌, ◌-◌}
use lib.ListN.{length}
use Rattle.valuetext.proofs.ReadingSteps.{Listing}
use Rattle.valuetext.proofs.reading.+read_item_read_list.Given as goal

abbrev pub decreases-read_item : goal.decreases-read_item
decreases-read_item l = l.depth + l.depth + 1

abbrev pub decreases-read_list : goal.decreases-read_list
decreases-read_list l = l.depth + l.depth

abbrev pub invariant-read_list-loop-n : goal.invariant-read_list-loop-n
invariant-read_list-loop-n l = Listing l.base (l.depth - 1) l.text l.initial.elements l.elements l.initial.cursors l.cursors l.k

abbrev pub decreases-read_list-loop-n : goal.decreases-read_list-loop-n
decreases-read_list-loop-n l = length l.text - l.k
