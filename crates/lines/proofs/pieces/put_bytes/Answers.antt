-- The bytes so far stand written.
use Rattle.std.proofs.Common.{arith}
use Rattle.lines.proofs.Writing.{writes_byte, writes-so-far, writes-all}
use Rattle.lines.proofs.pieces.put_bytes.Goals as goal

pub put-p-requires : goal.put-p-requires
put-p-requires c = omega (arith, writes-so-far c.args.bytes.now c.loop-b.b-index c.loop-b.invariant (omega arith) c.requires)

pub loop-b-preserved : goal.loop-b-preserved
loop-b-preserved c = writes_byte c.args.bytes.now c.loop-b.b-index c.loop-b.invariant c.put-p.ensures c.loop-b-test.true

pub returns : goal.returns
returns c = writes-all c.args.bytes.now c.loop-b.b-index c.loop-b.invariant c.loop-b-test.false
