-- i inputs are entered.
use native.Mathlib.Omega.{arith}
use mathlib.Core.Path.{refl}
use Rattle.lister.proofs.Declaring as declaring
use Rattle.lister.proofs.inputs.enter_inputs.Goals as goal

pub loop-i-init : goal.loop-i-init
loop-i-init c = λ g. declaring.start g

pub bounds-bytes-i : goal.bounds-bytes-i
bounds-bytes-i c = omega (arith, declaring.sizes c.requires (c.loop-i.invariant c.requires) c.loop-i-test.true)

pub bounds-bytes-i-in-loop-i : goal.bounds-bytes-i-in-loop-i
bounds-bytes-i-in-loop-i c = omega (arith, declaring.sizes c.requires (c.loop-i.invariant c.requires) c.loop-i-test.true)

pub overflow_sub-at : goal.overflow_sub-at
overflow_sub-at c = omega (arith, declaring.sizes c.requires (c.loop-i.invariant c.requires) c.loop-i-test.true)

pub put_places-requires : goal.put_places-requires
put_places-requires c = omega (arith, declaring.sizes c.requires (c.loop-i.invariant c.requires) c.loop-i-test.true)

pub overflow_sub-at-in-loop-i : goal.overflow_sub-at-in-loop-i
overflow_sub-at-in-loop-i c = omega (arith, declaring.sizes c.requires (c.loop-i.invariant c.requires) c.loop-i-test.true)

pub put_name-requires : goal.put_name-requires
put_name-requires c = omega (arith, declaring.sizes c.requires (c.loop-i.invariant c.requires) c.loop-i-test.true, c.put_places.auto.env)

pub overflow_sub-sp : goal.overflow_sub-sp
overflow_sub-sp c = omega (arith, declaring.sizes c.requires (c.loop-i.invariant c.requires) c.loop-i-test.true)

pub overflow_add-id-in-loop-i : goal.overflow_add-id-in-loop-i
overflow_add-id-in-loop-i c = omega (arith, declaring.sizes c.requires (c.loop-i.invariant c.requires) c.loop-i-test.true)

pub loop-i-preserved : goal.loop-i-preserved
loop-i-preserved c = λ g. declaring.turn g (c.loop-i.invariant g) c.loop-i-test.true refl c.put_places.ensures c.put_name.ensures

pub returns : goal.returns
returns c = λ g. declaring.done g (c.loop-i.invariant g) c.loop-i-test.false
