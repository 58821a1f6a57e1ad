-- The flags' place, their units, the entries of the listed variables, and x's (proofs/Entering.antt).
use Prim.Native.Nat.{◌+◌}
use mathlib.Core.Logic.{inr}
use mathlib.Core.Path.{◌∙◌}
use native.Mathlib.Omega.{arith}
use Rattle.leaves.proofs.Operands.{sought}
use Rattle.bodies.proofs.Entering.{depth-some, flags-fit, items-room, usum-ready, usum-stopped, distributing, distr-stopped, enters-inside}
use Rattle.std.proofs.lemmas.Result.{err_from_is_err_and}
use Rattle.bodies.proofs.enter.Goals as goal

pub overflow_add-x : goal.overflow_add-x
overflow_add-x c = omega (arith, c.requires.bytes, c.well_formed.0.0)

pub bounds-bytes-k : goal.bounds-bytes-k
bounds-bytes-k c = omega (arith, c.requires.bytes)

pub overflow_add-k : goal.overflow_add-k
overflow_add-k c = omega (arith, c.requires.bytes, c.well_formed.0.0)

pub bounds-bytes-k-2 : goal.bounds-bytes-k-2
bounds-bytes-k-2 c = omega (arith, c.requires.bytes)

pub find-p-requires : goal.find-p-requires
find-p-requires c = sought c.requires.scene c.requires.pointer c.requires.finds

pub overflow_add-depth : goal.overflow_add-depth
overflow_add-depth c = omega (
  arith,
  flags-fit c.requires (c.find-p.ensures (sought c.requires.scene c.requires.pointer c.requires.finds)),
)

pub offset_bounds-env-p : goal.offset_bounds-env-p
offset_bounds-env-p c = omega (
  arith,
  flags-fit c.requires (c.find-p.ensures (sought c.requires.scene c.requires.pointer c.requires.finds)),
)

pub bounds-env-p : goal.bounds-env-p
bounds-env-p c = omega (
  arith,
  flags-fit c.requires (c.find-p.ensures (sought c.requires.scene c.requires.pointer c.requires.finds)),
)

pub overflow_cast-depth : goal.overflow_cast-depth
overflow_cast-depth c = omega (arith, c.type_inv.env (c.find-p.result + 1))

pub overflow_sub-depth : goal.overflow_sub-depth
overflow_sub-depth c = depth-some c.requires (c.find-p.ensures (sought c.requires.scene c.requires.pointer c.requires.finds))

pub overflow_sub-b : goal.overflow_sub-b
overflow_sub-b c = omega (arith, c.requires.space)

pub overflow_add-p : goal.overflow_add-p
overflow_add-p c = omega (
  arith,
  flags-fit c.requires (c.find-p.ensures (sought c.requires.scene c.requires.pointer c.requires.finds)),
)

pub overflow_mul-depth : goal.overflow_mul-depth
overflow_mul-depth c = omega (
  arith,
  flags-fit c.requires (c.find-p.ensures (sought c.requires.scene c.requires.pointer c.requires.finds)),
)

pub overflow_add-depth-2 : goal.overflow_add-depth-2
overflow_add-depth-2 c = omega (
  arith,
  flags-fit c.requires (c.find-p.ensures (sought c.requires.scene c.requires.pointer c.requires.finds)),
)

pub overflow_add-p-2 : goal.overflow_add-p-2
overflow_add-p-2 c = omega (
  arith,
  flags-fit c.requires (c.find-p.ensures (sought c.requires.scene c.requires.pointer c.requires.finds)),
)

pub move_words-requires : goal.move_words-requires
move_words-requires c = (
  flags-fit c.requires (c.find-p.ensures (sought c.requires.scene c.requires.pointer c.requires.finds)),
  omega (
    arith,
    c.requires.space,
    c.requires.scene.within,
  ),
  inr (omega (
    arith,
    c.requires.space,
    (c.find-p.ensures (sought c.requires.scene c.requires.pointer c.requires.finds)).above,
  )),
)

pub overflow_add-base : goal.overflow_add-base
overflow_add-base c = omega (arith, c.requires.bytes, c.well_formed.0.0)

pub bounds-bytes-k-3 : goal.bounds-bytes-k-3
bounds-bytes-k-3 c = omega (arith, c.requires.bytes)

pub overflow_cast-base : goal.overflow_cast-base
overflow_cast-base c = omega (arith, c.type_inv.bytes (c.args.k + 4))

pub overflow_mul-base : goal.overflow_mul-base
overflow_mul-base c = omega (arith, c.requires.most)

pub overflow_sub-base : goal.overflow_sub-base
overflow_sub-base c = omega (arith, c.requires.space)

pub offset_bounds-env-b : goal.offset_bounds-env-b
offset_bounds-env-b c = omega (
  arith,
  c.requires.space,
  c.requires.scene.within,
  c.move_words.auto.env,
  c.well_formed.1.1.1.1.0.0,
)

pub bounds-env-b : goal.bounds-env-b
bounds-env-b c = omega (
  arith,
  c.requires.space,
  c.requires.scene.within,
  c.move_words.auto.env,
)

pub make-requires : goal.make-requires
make-requires c = (
  _,
  _,
  usum-ready c.requires
      (c.find-p.ensures (sought c.requires.scene c.requires.pointer c.requires.finds)) c.move_words.ensures _,
)

pub distribute-requires : goal.distribute-requires
distribute-requires c = distributing c.requires (c.find-p.ensures (sought c.requires.scene c.requires.pointer c.requires.finds)) c.move_words.ensures _ (c.make.ensures _ _ (usum-ready c.requires (c.find-p.ensures (sought c.requires.scene c.requires.pointer c.requires.finds)) c.move_words.ensures _)) c.in_ok-units.was c.make.auto.buf

pub overflow_add-p-3 : goal.overflow_add-p-3
overflow_add-p-3 c = omega (
  arith,
  c.well_formed.1.1.1.1.0.0,
  flags-fit c.requires (c.find-p.ensures (sought c.requires.scene c.requires.pointer c.requires.finds)),
)

pub bind_items-inner-requires : goal.bind_items-inner-requires
bind_items-inner-requires c = items-room c.requires (c.find-p.ensures (sought c.requires.scene c.requires.pointer c.requires.finds)) (c.distribute.auto.env ∙ c.move_words.auto.env)

pub shape_of-env : goal.shape_of-env
shape_of-env c = c.bind_items-inner.auto.env ∙ (c.distribute.auto.env ∙ c.move_words.auto.env)

pub returns : goal.returns
returns c = λ g. enters-inside g
    (c.find-p.ensures (sought g.scene g.pointer g.finds)) c.move_words.ensures _
    (c.make.ensures _ _ (usum-ready g
    (c.find-p.ensures (sought g.scene g.pointer g.finds)) c.move_words.ensures _)) c.in_ok-units.was c.make.auto.buf
    (c.distribute.ensures (distributing g
    (c.find-p.ensures (sought g.scene g.pointer g.finds)) c.move_words.ensures _
    (c.make.ensures _ _ (usum-ready g
    (c.find-p.ensures (sought g.scene g.pointer g.finds)) c.move_words.ensures _)) c.in_ok-units.was c.make.auto.buf)) c.in_ok-distribute.was c.distribute.auto.env c.bind_items-inner.ensures.0 c.bind_items-inner.ensures.1

pub returns-in_err-distribute : goal.returns-in_err-distribute
returns-in_err-distribute c = λ g.
    let p = err_from_is_err_and c.from_residual-in_err-distribute.result c.from_residual-in_err-distribute.ensures.1 in rw (p.1, p.2)
    (distr-stopped g
    (c.find-p.ensures (sought g.scene g.pointer g.finds)) c.move_words.ensures _
    (c.make.ensures _ _ (usum-ready g
    (c.find-p.ensures (sought g.scene g.pointer g.finds)) c.move_words.ensures _)) c.in_ok-units.was c.make.auto.buf
    (c.distribute.ensures (distributing g
    (c.find-p.ensures (sought g.scene g.pointer g.finds)) c.move_words.ensures _
    (c.make.ensures _ _ (usum-ready g
    (c.find-p.ensures (sought g.scene g.pointer g.finds)) c.move_words.ensures _)) c.in_ok-units.was c.make.auto.buf)) c.in_err-distribute.was)

pub returns-in_err-units : goal.returns-in_err-units
returns-in_err-units c = λ g.
    let p = err_from_is_err_and c.from_residual.result c.from_residual.ensures.1 in rw (p.1, p.2)
    (usum-stopped g (c.find-p.ensures (sought g.scene g.pointer g.finds)) c.move_words.ensures _ (c.make.ensures _ _ (usum-ready g (c.find-p.ensures (sought g.scene g.pointer g.finds)) c.move_words.ensures _)) c.in_err-units.was)
