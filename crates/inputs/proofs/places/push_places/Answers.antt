-- The words are put from the last stream down: those of the streams from i on stand from `top` on.
use Prim.Native.Nat.{ℕ, ◌-◌}
use mathlib.Core.List.{List}
use mathlib.Core.Path.{sym, subst}
use native.Mathlib.Omega.{arith}
use lib.ListN.{get_or}
use Rattle.inputs.proofs.Rows.{Pushing, pushing-start, pushing-on, pushing-end, pushing-fits, pushing-room, pushing-high}
use Rattle.inputs.proofs.places.push_places.Goals as goal

pub loop-i-init : goal.loop-i-init
loop-i-init c = pushing-start c.args.lengths.now c.args.id c.args.end c.args.sp c.args.env.now c.requires.0 c.requires.1 c.requires.3

pub offset_bounds-lengths-i : goal.offset_bounds-lengths-i
offset_bounds-lengths-i c = omega (arith, c.loop-i.invariant.within, c.loop-i-test.true, c.well_formed)

pub bounds-lengths-i : goal.bounds-lengths-i
bounds-lengths-i c = omega (arith, c.loop-i.invariant.within, c.loop-i-test.true)

pub overflow_sub-start : goal.overflow_sub-start
overflow_sub-start c = pushing-fits c.loop-i.invariant c.loop-i-test.true

pub overflow_sub-top : goal.overflow_sub-top
overflow_sub-top c = pushing-room c.loop-i.invariant c.loop-i-test.true

pub overflow_add-id : goal.overflow_add-id
overflow_add-id c = omega (arith, c.loop-i.invariant.within, c.loop-i-test.true, c.requires.2)

pub put_place-requires : goal.put_place-requires
put_place-requires c = (omega (arith, pushing-room c.loop-i.invariant c.loop-i-test.true, pushing-high c.loop-i.invariant c.loop-i-test.true), omega (arith, c.loop-i.invariant.within, c.loop-i-test.true, c.requires.2), omega (arith, c.loop-i.invariant.sum, c.requires.4), omega (arith, pushing-fits c.loop-i.invariant c.loop-i-test.true, c.loop-i.invariant.sum, c.requires.4))

pub loop-i-preserved : goal.loop-i-preserved
loop-i-preserved c = subst (λ (l : List ℕ). Pushing c.args.lengths.now c.args.id c.args.end c.args.sp c.args.env.now l (c.loop-i.i - 1) (c.loop-i.start - get_or c.args.lengths.now (c.loop-i.i - 1) 0) (c.loop-i.top - 3)) (sym c.put_place.ensures) (pushing-on c.loop-i.invariant c.loop-i-test.true)

pub shape_of-env : goal.shape_of-env
shape_of-env c = c.loop-i.invariant.long

pub returns : goal.returns
returns c = pushing-end c.loop-i.invariant c.loop-i-test.false
