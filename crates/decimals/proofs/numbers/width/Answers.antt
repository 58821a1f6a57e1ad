-- A digit for each division by 10, and one.
use Rattle.std.proofs.Common.{arith}
use Rattle.decimals.proofs.NumberWriting.{counting-start, counting-on, counting-end}
use Rattle.decimals.proofs.numbers.width.Goals as goal

pub loop-m-init : goal.loop-m-init
loop-m-init c = counting-start c.args.n c.ranges.n.fits

pub overflow_add-k : goal.overflow_add-k
overflow_add-k c = omega (arith, c.loop-m.invariant.left, c.loop-m.invariant.most, c.loop-m.invariant.some)

pub loop-m-preserved : goal.loop-m-preserved
loop-m-preserved c = counting-on c.loop-m.invariant c.loop-m-test.true

pub returns : goal.returns
returns c = (counting-end c.loop-m.invariant c.loop-m-test.false, omega (arith, counting-end c.loop-m.invariant c.loop-m-test.false, c.loop-m.invariant.most))
