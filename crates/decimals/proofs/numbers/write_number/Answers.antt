-- The last digit first, each at its place.
use Rattle.std.proofs.Common.{◌+◌, arith}
use Rattle.decimals.proofs.NumberWriting.{digiting-start, digiting-on, digiting-end}
use Rattle.decimals.proofs.numbers.write_number.Goals as goal

pub loop-p-init : goal.loop-p-init
loop-p-init c = digiting-start c.args.buf.now c.args.at c.args.n (c.args.at + c.width.result) (omega (arith, c.width.ensures.0))

pub loop-p-preserved : goal.loop-p-preserved
loop-p-preserved c = digiting-on c.loop-p.invariant c.loop-p-test.true c.put.ensures

pub returns : goal.returns
returns c = digiting-end c.loop-p.invariant (c.args.at + c.width.result) c.loop-p-test.false (omega (arith, c.width.ensures.0))
