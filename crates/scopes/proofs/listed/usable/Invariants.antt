-- Each variable that was passed by is usable.
use Rattle.std.proofs.Common.{◌≡◌, drop}
use Rattle.scopes.specs.UsingLists.{variables, usable_in}
use Rattle.scopes.proofs.listed.usable.Given as goal

abbrev pub invariant-loop-i : goal.invariant-loop-i
invariant-loop-i l = usable_in l.scope (variables l.listed) ≡ usable_in l.scope (variables (drop l.i l.listed))
