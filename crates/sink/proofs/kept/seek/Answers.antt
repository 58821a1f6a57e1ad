-- The ids before i are less than u.
use Rattle.sink.proofs.Keeping as keeping
use Rattle.sink.proofs.kept.seek.Goals as goal

pub loop-i-init : goal.loop-i-init
loop-i-init c = keeping.search-start

pub returns-then-v-u : goal.returns-then-v-u
returns-then-v-u c = keeping.search-held c.loop-i.invariant c.loop-i-test.true c.if-v-u.true

pub returns-then-v-u-2 : goal.returns-then-v-u-2
returns-then-v-u-2 c = keeping.search-new c.loop-i.invariant c.loop-i-test.true c.if-v-u-2.true

pub loop-i-preserved : goal.loop-i-preserved
loop-i-preserved c = keeping.search-turn c.loop-i.invariant c.loop-i-test.true c.if-v-u-2.false c.if-v-u.false

pub returns : goal.returns
returns c = keeping.search-end c.loop-i.invariant c.loop-i-test.false
