-- The entry's tree moves below sp (proofs/Singles.antt).
use Prim.Native.Nat.{◌+◌}
use mathlib.Core.Logic.{inr}
use native.Mathlib.Omega.{arith}
use Rattle.leaves.proofs.Singles.{variable-fits, variable-words}
use Rattle.leaves.proofs.variable.Goals as goal

pub find-p-requires : goal.find-p-requires
find-p-requires c = c.requires.0.0

pub overflow_add-depth : goal.overflow_add-depth
overflow_add-depth c = omega (arith, variable-fits c.requires.0.0 (c.find-p.ensures c.requires.0.0))

pub offset_bounds-env-p : goal.offset_bounds-env-p
offset_bounds-env-p c = omega (arith, variable-fits c.requires.0.0 (c.find-p.ensures c.requires.0.0))

pub bounds-env-p : goal.bounds-env-p
bounds-env-p c = omega (arith, variable-fits c.requires.0.0 (c.find-p.ensures c.requires.0.0))

pub overflow_cast-depth : goal.overflow_cast-depth
overflow_cast-depth c = omega (arith, c.type_inv.env (c.find-p.result + 1))

pub overflow_mul-words : goal.overflow_mul-words
overflow_mul-words c = omega (arith, variable-fits c.requires.0.0 (c.find-p.ensures c.requires.0.0))

pub overflow_add-words : goal.overflow_add-words
overflow_add-words c = omega (arith, variable-fits c.requires.0.0 (c.find-p.ensures c.requires.0.0))

pub overflow_add-p : goal.overflow_add-p
overflow_add-p c = omega (arith, variable-fits c.requires.0.0 (c.find-p.ensures c.requires.0.0))

pub overflow_sub-sp : goal.overflow_sub-sp
overflow_sub-sp c = omega (arith, (c.find-p.ensures c.requires.0.0).depth, c.requires.0.1, c.requires.0.2)

pub move_words-requires : goal.move_words-requires
move_words-requires c = (
  variable-fits c.requires.0.0 (c.find-p.ensures c.requires.0.0),
  omega (
    arith,
    (c.find-p.ensures c.requires.0.0).depth,
    c.requires.0.1,
    c.requires.0.2,
    c.requires.1,
  ),
  inr (omega (
    arith,
    (c.find-p.ensures c.requires.0.0).depth,
    c.requires.0.1,
    c.requires.0.2,
    (c.find-p.ensures c.requires.0.0).above,
  )),
)

pub returns : goal.returns
returns c = λ g. variable-words g (c.find-p.ensures g) _ _ (omega (
  arith,
  (c.find-p.ensures c.requires.0.0).depth,
  c.requires.0.1,
  c.requires.0.2,
)) c.requires.1 c.move_words.ensures
