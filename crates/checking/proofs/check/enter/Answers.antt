-- Each turn enters one input, unless its name is there already.
use Rattle.std.proofs.Common.{refl, sym, ◌∙◌, arith}
use Rattle.checking.proofs.Entering.{start, fits, turn_at, repeated-at, done}
use Rattle.checking.proofs.check.enter.Goals as goal

pub loop-i-init : goal.loop-i-init
loop-i-init c = start _ _ _ c.requires.here

pub declared-input-requires : goal.declared-input-requires
declared-input-requires c = fits _ _ c.loop-i.invariant c.loop-i-test.true

pub loop-i-preserved : goal.loop-i-preserved
loop-i-preserved c = turn_at _ _ c.loop-i.invariant c.loop-i-test.true c.declared-input.ensures c.look.ensures (sym c.is_some.ensures ∙ c.if-is_some.false) c.push-sp.ensures c.push-sp.auto.env

pub returns-then-is_some : goal.returns-then-is_some
returns-then-is_some c = (_, repeated-at _ _ c.loop-i.invariant c.loop-i-test.true c.declared-input.ensures c.look.ensures (sym c.is_some.ensures ∙ c.if-is_some.true), refl)

pub returns : goal.returns
returns c = done _ _ c.loop-i.invariant c.loop-i-test.false

pub shape_of-env-then-is_some : goal.shape_of-env-then-is_some
shape_of-env-then-is_some c = c.loop-i.invariant.long

pub shape_of-env : goal.shape_of-env
shape_of-env c = c.loop-i.invariant.long

pub push-sp-requires : goal.push-sp-requires
push-sp-requires c = omega (arith, c.loop-i.invariant.at, c.loop-i.invariant.long, c.requires.room, c.loop-i-test.true)

pub offset_bounds-env-sp : goal.offset_bounds-env-sp
offset_bounds-env-sp c = omega (arith, c.loop-i.invariant.at, c.loop-i.invariant.long)
