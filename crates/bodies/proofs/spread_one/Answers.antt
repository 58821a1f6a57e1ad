-- The Distr is made over the places of the flags and of the variable, and the entry of its copy is put (proofs/Distributing.antt).
use Prim.Native.Nat.{◌-◌}
use native.Mathlib.Omega.{arith}
use Rattle.leaves.proofs.Operands.{sought}
use Rattle.bodies.proofs.Distributing.{spread-ready, spread-push, spread-made, spread-stopped}
use Rattle.std.proofs.lemmas.Result.{err_from_is_err_and}
use Rattle.bodies.proofs.spread_one.Goals as goal

pub find-p-requires : goal.find-p-requires
find-p-requires c = sought c.requires.scene c.requires.pointer c.requires.finds

pub overflow_add-p : goal.overflow_add-p
overflow_add-p c = omega (arith, (c.find-p.ensures (sought c.requires.scene c.requires.pointer c.requires.finds)).within)

pub overflow_sub-b : goal.overflow_sub-b
overflow_sub-b c = omega (arith, c.requires.space)

pub offset_bounds-env-b : goal.offset_bounds-env-b
offset_bounds-env-b c = omega (arith, c.requires.space, c.requires.scene.within)

pub bounds-env-b : goal.bounds-env-b
bounds-env-b c = omega (arith, c.requires.space, c.requires.scene.within)

pub overflow_cast-t : goal.overflow_cast-t
overflow_cast-t c = omega (arith, c.type_inv.env (c.args.sp - 3))

pub offset_bounds-env-p : goal.offset_bounds-env-p
offset_bounds-env-p c = omega (arith, (c.find-p.ensures (sought c.requires.scene c.requires.pointer c.requires.finds)).within)

pub bounds-env-p : goal.bounds-env-p
bounds-env-p c = omega (
  arith,
  (c.find-p.ensures (sought c.requires.scene c.requires.pointer c.requires.finds)).within,
)

pub make-requires : goal.make-requires
make-requires c = (
  _,
  _,
  spread-ready c.requires (c.find-p.ensures (sought c.requires.scene c.requires.pointer c.requires.finds)),
)

pub put_name-requires : goal.put_name-requires
put_name-requires c = (
  omega (
    arith,
    c.requires.space,
    c.requires.scene.within,
  ),
  omega arith,
)

pub overflow_add-to : goal.overflow_add-to
overflow_add-to c = omega (
  arith,
  c.requires.space,
  c.requires.scene.within,
  c.well_formed.1.1.1.1.0.0,
)

pub push-requires : goal.push-requires
push-requires c = let q = spread-push c.requires (c.find-p.ensures (sought c.requires.scene c.requires.pointer c.requires.finds)) _ (c.make.ensures _ _ (spread-ready c.requires (c.find-p.ensures (sought c.requires.scene c.requires.pointer c.requires.finds)))) c.in_ok-made.was in (
  omega arith,
  omega (
    arith,
    c.requires.space,
    c.requires.scene.within,
    c.put_name.auto.env,
  ),
  q.0,
  q.1,
  q.2,
  q.3,
)

pub returns : goal.returns
returns c = λ g. spread-made g (c.find-p.ensures (sought g.scene g.pointer g.finds)) _ (c.make.ensures _ _ (spread-ready g (c.find-p.ensures (sought g.scene g.pointer g.finds)))) c.in_ok-made.was c.put_name.ensures c.push.ensures

pub returns-in_err-made : goal.returns-in_err-made
returns-in_err-made c = λ g.
    let p = err_from_is_err_and c.from_residual.result c.from_residual.ensures.1 in rw (p.1, p.2)
    (spread-stopped g (c.find-p.ensures (sought g.scene g.pointer g.finds)) _ (c.make.ensures _ _ (spread-ready g (c.find-p.ensures (sought g.scene g.pointer g.finds)))) c.in_err-made.was)
