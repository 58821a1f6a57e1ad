-- At each turn what is left to distribute is known, and that with it all is done (proofs/Distributing.antt).
use native.Mathlib.Omega.{arith}
use Rattle.std.proofs.lemmas.Result.{err_from_is_err_and}
use Rattle.bodies.proofs.Distributing.{spreading, rest-start, rest-turn, rest-stopped, rest-done}
use Rattle.bodies.proofs.distribute.Goals as goal

pub loop-i-init : goal.loop-i-init
loop-i-init c = λ g. rest-start g _ (omega arith) (omega arith) (omega arith)

pub spread_one-requires : goal.spread_one-requires
spread_one-requires c = spreading (c.loop-i.invariant c.requires).left_over (omega (arith, c.loop-i-test.true))

pub loop-i-preserved : goal.loop-i-preserved
loop-i-preserved c = λ g.
    rest-turn g _ (c.loop-i.invariant g) (omega (arith, c.loop-i-test.true)) (c.spread_one.ensures (spreading (c.loop-i.invariant g).left_over (omega (arith, c.loop-i-test.true)))) c.in_ok-spread_one.was c.spread_one.auto.buf
    (omega arith) (omega arith) (omega arith)

pub returns-in_err-spread_one : goal.returns-in_err-spread_one
returns-in_err-spread_one c = λ g.
    let p = err_from_is_err_and c.from_residual.result c.from_residual.ensures.1 in rw (p.1, p.2)
    (rest-stopped g _ (c.loop-i.invariant g) (omega (arith, c.loop-i-test.true)) (c.spread_one.ensures (spreading (c.loop-i.invariant g).left_over (omega (arith, c.loop-i-test.true)))) c.in_err-spread_one.was)

pub returns : goal.returns
returns c = λ g. rest-done g _ (c.loop-i.invariant g) (omega arith)
