-- Each turn puts one listed variable before those that stand there.
use Rattle.scopes.proofs.Listing.{push-start, push-turn}
use Rattle.scopes.proofs.listed.push_listed.Goals as goal

pub loop-i-init : goal.loop-i-init
loop-i-init c = push-start _ _ _ _

pub loop-i-preserved : goal.loop-i-preserved
loop-i-preserved c = push-turn _ _ _ _ c.loop-i.invariant c.loop-i-test.true c.look.ensures c.unwrap_or-value_type.ensures c.push-top.ensures c.push-top.auto.env
