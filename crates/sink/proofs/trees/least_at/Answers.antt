-- The ids before i are looked at.
use Rattle.sink.proofs.IdSearch as ids
use Rattle.sink.proofs.trees.least_at.Goals as goal

pub loop-i-preserved : goal.loop-i-preserved
loop-i-preserved c = λ g. ids.search-turn g (c.loop-i.invariant g) c.loop-i-test.true c.lesser-best.ensures

pub returns : goal.returns
returns c = λ g. ids.search-end g (c.loop-i.invariant g) c.loop-i-test.false
