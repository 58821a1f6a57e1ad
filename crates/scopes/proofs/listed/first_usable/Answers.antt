-- A name is sought among the others.
use Rattle.std.proofs.Common.{sym, ◌∙◌}
use Rattle.scopes.proofs.Listing.{first-once}
use Rattle.scopes.proofs.listed.first_usable.Goals as goal

pub returns-then-is_some : goal.returns-then-is_some
returns-then-is_some c = first-once c.args.scope.now c.args.name c.args.others.now c.look.ensures (sym c.is_some.ensures ∙ c.if-is_some.true) c.contains.ensures.value
