-- At each turn what is left to pack is known, and that with it all is done (proofs/All.antt).
use Prim.Native.Nat.{◌+◌, ◌-◌, ◌<◌}
use native.Mathlib.Omega.{arith}
use Rattle.std.proofs.lemmas.Result.{err_from_is_err_and}
use Rattle.guards.proofs.All.{chosen, rest-start, rest-turn, rest-stopped, rest-done}
use Rattle.guards.proofs.pack_listed.Goals as goal

pub bounds-bytes-at : goal.bounds-bytes-at
bounds-bytes-at c = omega (arith, c.requires.bytes)

pub loop-i-init : goal.loop-i-init
loop-i-init c = λ g. rest-start g _ (omega arith) (omega arith)

pub pack_one-requires : goal.pack_one-requires
pack_one-requires c = chosen (c.loop-i.invariant c.requires).left_over (omega (arith, c.loop-i-test.true))

pub loop-i-preserved : goal.loop-i-preserved
loop-i-preserved c = λ g.
    rest-turn g _ (c.loop-i.invariant g) (omega (arith, c.loop-i-test.true)) (c.pack_one.ensures (chosen (c.loop-i.invariant g).left_over (omega (arith, c.loop-i-test.true))))
    c.in_ok-to.was c.pack_one.auto.env c.pack_one.auto.buf (omega arith) (omega arith)

pub returns-in_err-to : goal.returns-in_err-to
returns-in_err-to c = λ g.
    let p = err_from_is_err_and c.from_residual.result c.from_residual.ensures.1 in rw (p.1, p.2)
    (rest-stopped g _ (c.loop-i.invariant g) (omega (arith, c.loop-i-test.true)) (c.pack_one.ensures (chosen (c.loop-i.invariant g).left_over (omega (arith, c.loop-i-test.true)))) c.in_err-to.was)

pub returns : goal.returns
returns c = λ g. rest-done g _ (c.loop-i.invariant g) (omega arith)
