-- One listed variable (proofs/Ones.antt).
use Prim.Native.Nat.{◌+◌}
use mathlib.Core.Path.{◌∙◌}
use native.Mathlib.Omega.{arith}
use Rattle.guards.proofs.Ones.{one-sought, name-fits, depth-few, next_fits, one-ready, one-stopped, one-whole}
use Rattle.std.proofs.lemmas.Result.{err_from_is_err_and}
use Rattle.guards.proofs.pack_one.Goals as goal

pub find-p-requires : goal.find-p-requires
find-p-requires c = one-sought c.requires

pub overflow_add-depth : goal.overflow_add-depth
overflow_add-depth c = omega (arith, (c.find-p.ensures (one-sought c.requires)).within)

pub offset_bounds-env-p : goal.offset_bounds-env-p
offset_bounds-env-p c = omega (arith, (c.find-p.ensures (one-sought c.requires)).within, c.well_formed.1.1.1.1.0.0)

pub bounds-env-p : goal.bounds-env-p
bounds-env-p c = omega (arith, (c.find-p.ensures (one-sought c.requires)).within)

pub overflow_cast-depth : goal.overflow_cast-depth
overflow_cast-depth c = omega (arith, c.type_inv.env (c.find-p.result + 1))

pub put_name-requires : goal.put_name-requires
put_name-requires c = (
  name-fits c.requires,
  omega (
    arith,
    depth-few c.requires (c.find-p.ensures (one-sought c.requires)),
  ),
)

pub overflow_add-tree : goal.overflow_add-tree
overflow_add-tree c = omega (arith, (c.find-p.ensures (one-sought c.requires)).within)

pub overflow_add-tree-2 : goal.overflow_add-tree-2
overflow_add-tree-2 c = omega (arith, name-fits c.requires)

pub pack-requires : goal.pack-requires
pack-requires c = (
  _,
  _,
  _,
  _,
  _,
  _,
  one-ready c.requires (c.find-p.ensures (one-sought c.requires)) c.put_name.ensures,
)

pub overflow_add-result : goal.overflow_add-result
overflow_add-result c = omega (
  arith,
  next_fits c.requires (c.find-p.ensures (one-sought c.requires)),
  c.well_formed.1.1.1.1.0.0,
)

pub overflow_mul-result : goal.overflow_mul-result
overflow_mul-result c = omega (
  arith,
  depth-few c.requires (c.find-p.ensures (one-sought c.requires)),
)

pub overflow_add-result-2 : goal.overflow_add-result-2
overflow_add-result-2 c = omega (
  arith,
  next_fits c.requires (c.find-p.ensures (one-sought c.requires)),
  c.well_formed.1.1.1.1.0.0,
)

pub returns : goal.returns
returns c = λ g. one-whole g (c.find-p.ensures
    (one-sought g)) c.put_name.ensures _ (c.pack.ensures _ _ _ _ _ _ (one-ready g (c.find-p.ensures (one-sought g)) c.put_name.ensures)) c.in_ok-pack.was

pub returns-in_err-pack : goal.returns-in_err-pack
returns-in_err-pack c = λ g.
    let p = err_from_is_err_and c.from_residual.result c.from_residual.ensures.1 in rw (p.1, p.2)
    (one-stopped g (c.find-p.ensures (one-sought g)) c.put_name.ensures _ (c.pack.ensures _ _ _ _ _ _ (one-ready g (c.find-p.ensures (one-sought g)) c.put_name.ensures)) c.in_err-pack.was)
