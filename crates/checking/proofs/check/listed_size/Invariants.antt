-- The bindings so far are counted, each by no more than one of the largest byte.
use Rattle.std.proofs.Common.{◌≡◌, ◌*◌, ◌≤◌, take}
use Rattle.environment.specs.Needs.{binding_size}
use Rattle.checking.specs.Checks.{bindings_size}
use Rattle.checking.proofs.check.listed_size.Given as goal

abbrev pub invariant-loop-binding : goal.invariant-loop-binding
invariant-loop-binding l = record {
  counted : l.size ≡ bindings_size (take l.binding-index l.scope);
  few : l.size ≤ l.binding-index * binding_size 255;
}
