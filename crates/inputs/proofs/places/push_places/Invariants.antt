-- The words are put from the last stream down: those of the streams from i on stand from `top` on.
use Rattle.inputs.proofs.Rows.{Pushing}
use Rattle.inputs.proofs.places.push_places.Given as goal

abbrev pub invariant-loop-i : goal.invariant-loop-i
invariant-loop-i l = Pushing l.lengths l.id l.end l.sp l.initial.env l.env l.i l.start l.top

abbrev pub decreases-loop-i : goal.decreases-loop-i
decreases-loop-i l = l.i
