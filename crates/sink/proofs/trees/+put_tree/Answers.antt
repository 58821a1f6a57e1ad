-- A leaf's id; or a brace, the tree below, a comma, the flags' id, a brace. The measure is the depth.
use native.Mathlib.Omega.{arith}
use Rattle.lines.proofs.Writing.{writes-length}
use Rattle.sink.proofs.TreeTexts as texts
use Prim.Native.Nat.{◌+◌, ◌*◌}
use Rattle.sink.proofs.trees.+put_tree.Goals as goal

pub offset_bounds-env-q : goal.offset_bounds-env-q
offset_bounds-env-q t c = omega (arith, c.requires.within, c.well_formed.0.1)

pub bounds-env-q : goal.bounds-env-q
bounds-env-q t c = omega (arith, c.requires.within)

pub overflow_cast-env : goal.overflow_cast-env
overflow_cast-env t c = omega (arith, c.type_inv.env c.args.q)

pub put_id-requires : goal.put_id-requires
put_id-requires t c = texts.leaf-countable c.requires c.if-depth-eq0.true

pub shape_of-text-then-depth-eq0 : goal.shape_of-text-then-depth-eq0
shape_of-text-then-depth-eq0 t c = writes-length c.put_id.ensures

pub returns-then-depth-eq0 : goal.returns-then-depth-eq0
returns-then-depth-eq0 t c = λ g. texts.leaf-writes g c.if-depth-eq0.true c.put_id.ensures

pub put-a-requires : goal.put-a-requires
put-a-requires t c = texts.open-countable c.requires c.if-depth-eq0.false

pub put_tree-b-requires : goal.put_tree-b-requires
put_tree-b-requires t c = (omega (arith, c.decreases), texts.inner-at c.requires c.if-depth-eq0.false c.put-a.ensures)

pub put-c-requires : goal.put-c-requires
put-c-requires t c = texts.comma-countable c.requires c.if-depth-eq0.false c.put-a.ensures c.put_tree-b.ensures

pub overflow_mul-depth : goal.overflow_mul-depth
overflow_mul-depth t c = omega (arith, c.requires.within, c.well_formed.0.0)

pub overflow_add-q : goal.overflow_add-q
overflow_add-q t c = omega (arith, c.requires.within, c.well_formed.0.0)

pub offset_bounds-env-q-2 : goal.offset_bounds-env-q-2
offset_bounds-env-q-2 t c = omega (arith, c.requires.within, c.well_formed.0.1)

pub bounds-env-q-2 : goal.bounds-env-q-2
bounds-env-q-2 t c = omega (arith, c.requires.within)

pub overflow_cast-env-2 : goal.overflow_cast-env-2
overflow_cast-env-2 t c = omega (arith, c.type_inv.env (c.args.q + 3 * c.args.depth))

pub put_id-d-requires : goal.put_id-d-requires
put_id-d-requires t c = texts.id-countable c.requires c.if-depth-eq0.false c.put-a.ensures c.put_tree-b.ensures c.put-c.ensures

pub put-requires : goal.put-requires
put-requires t c = texts.close-countable c.requires c.if-depth-eq0.false c.put-a.ensures c.put_tree-b.ensures c.put-c.ensures c.put_id-d.ensures

pub shape_of-text : goal.shape_of-text
shape_of-text t c = writes-length (texts.node-writes c.requires c.if-depth-eq0.false c.put-a.ensures c.put_tree-b.ensures c.put-c.ensures c.put_id-d.ensures c.put.ensures)

pub returns : goal.returns
returns t c = λ g. texts.node-writes g c.if-depth-eq0.false c.put-a.ensures c.put_tree-b.ensures c.put-c.ensures c.put_id-d.ensures c.put.ensures
