-- Sum after sum, never past the limit.
use Rattle.std.proofs.Common.{sym}
use Rattle.levels.proofs.Counting.{adding-on, adding-over, adding-end}
use Rattle.levels.proofs.counts.add_up.Goals as goal

pub returns-then-n-most : goal.returns-then-n-most
returns-then-n-most c = sym (adding-over c.loop-n.invariant c.loop-n-test.true c.if-n-most.true)

pub loop-n-preserved : goal.loop-n-preserved
loop-n-preserved c = adding-on c.loop-n.invariant c.loop-n-test.true c.if-n-most.false

pub returns : goal.returns
returns c = sym (adding-end c.loop-n.invariant c.loop-n-test.false)
