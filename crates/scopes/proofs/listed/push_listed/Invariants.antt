-- Each turn puts one listed variable before those that stand there.
use Rattle.scopes.proofs.Listing.{Pushing}
use Rattle.scopes.proofs.listed.push_listed.Given as goal

abbrev pub invariant-loop-i : goal.invariant-loop-i
invariant-loop-i l = Pushing l.listed l.sp l.floor l.initial.env l.env l.i l.top
