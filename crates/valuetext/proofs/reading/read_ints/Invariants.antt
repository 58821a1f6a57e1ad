-- ^ own imports
-- The cursors stay in locals until the closing brace: until then the lent ones stand as they did.
use Prim.Native.Nat.{◌-◌}
use lib.ListN.{length}
use Rattle.valuetext.proofs.ReadingInts.{Ints}
use Rattle.valuetext.proofs.reading.read_ints.Given as goal

abbrev pub invariant-loop-z : goal.invariant-loop-z
invariant-loop-z l = Ints l.text l.initial.elements l.elements l.initial.cursors l.cursors l.data l.flags l.k

abbrev pub decreases-loop-z : goal.decreases-loop-z
decreases-loop-z l = length l.text - l.k
