-- Each head by its route.
use Prim.Native.Nat.{◌+◌}
use mathlib.Core.Path.{sym, ◌∙◌, ap}
use mir.Facts.{to_z-of_z}
use Rattle.leaves.specs.declared.Form.TheVariants as form
use Rattle.runner.specs.declared.Route.TheVariants as route
use Rattle.runner.specs.Walks.{route_to}
use Rattle.std.proofs.Common.{rules, w32}
use Rattle.runner.proofs.route_of.Goals as goal

pub returns-in-Var : goal.returns-in-Var
returns-in-Var c = sym (ap (route_to c.args.k) c.in-Var.is)

pub returns-in-Let : goal.returns-in-Let
returns-in-Let c = sym (ap (route_to c.args.k) c.in-Let.is)

pub returns-in-Const : goal.returns-in-Const
returns-in-Const c = ap (λ u. route.Single (form.Const u) (c.args.k + 6)) (to_z-of_z {w = w32} (search rules)) ∙ sym (ap (route_to c.args.k) c.in-Const.is)

pub returns-in-Truth : goal.returns-in-Truth
returns-in-Truth c = sym (ap (route_to c.args.k) c.in-Truth.is)

pub returns-in-Iota : goal.returns-in-Iota
returns-in-Iota c = sym (ap (route_to c.args.k) c.in-Iota.is)

pub returns-in-Operation : goal.returns-in-Operation
returns-in-Operation c = sym (ap (route_to c.args.k) c.in-Operation.is)

pub returns-in-Negation : goal.returns-in-Negation
returns-in-Negation c = sym (ap (route_to c.args.k) c.in-Negation.is)

pub returns-in-Sum : goal.returns-in-Sum
returns-in-Sum c = sym (ap (route_to c.args.k) c.in-Sum.is)

pub returns-in-Each : goal.returns-in-Each
returns-in-Each c = sym (ap (route_to c.args.k) c.in-Each.is)

pub returns-in-Guard : goal.returns-in-Guard
returns-in-Guard c = sym (ap (route_to c.args.k) c.in-Guard.is)
