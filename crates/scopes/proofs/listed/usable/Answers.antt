-- Each variable that was passed by is usable.
use Rattle.scopes.proofs.Listing.{usable-on, usable-off, usable-all}
use Rattle.scopes.proofs.listed.usable.Goals as goal

pub returns-then-not-first_usable : goal.returns-then-not-first_usable
returns-then-not-first_usable c = usable-off _ _ _ c.loop-i.invariant c.loop-i-test.true c.first_usable.ensures c.if-not-first_usable.true

pub loop-i-preserved : goal.loop-i-preserved
loop-i-preserved c = usable-on _ _ _ c.loop-i.invariant c.loop-i-test.true c.first_usable.ensures c.if-not-first_usable.false

pub returns : goal.returns
returns c = usable-all _ _ _ c.loop-i.invariant c.loop-i-test.false
