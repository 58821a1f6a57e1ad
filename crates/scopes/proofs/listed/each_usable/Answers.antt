-- x is sought in the list.
use Rattle.scopes.proofs.Listing.{each-once}
use Rattle.scopes.proofs.listed.each_usable.Goals as goal

pub returns-then-usable : goal.returns-then-usable
returns-then-usable c = each-once c.args.scope.now c.args.x c.args.listed.now c.if-usable.ensures c.contains.ensures.value
