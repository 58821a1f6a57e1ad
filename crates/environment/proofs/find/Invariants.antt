-- The search stands at an entry, which ends on the stack and from which on the binding sought is still to be found (proofs/Finding.antt); the measure is what is
-- left of the stack.
use Rattle.std.proofs.Common.{◌+◌, ◌*◌, ◌-◌, ◌≤◌, length, slice_index_or}
use Rattle.environment.proofs.Finding.{Searching}
use Rattle.environment.proofs.find.Given as goal

abbrev pub invariant-loop-p : goal.invariant-loop-p
invariant-loop-p l = record {
  searching : Searching l.env l.sp l.p l.fn.x;
  within : l.p + (5 + 3 * slice_index_or l.env (l.p + 1) 0) ≤ length l.env;
}

abbrev pub decreases-loop-p : goal.decreases-loop-p
decreases-loop-p l = length l.env - l.p
