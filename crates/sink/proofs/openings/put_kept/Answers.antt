-- The ids before the next are written.
use lib.ListN.{drop_of_length-le}
use Rattle.sink.proofs.Ascent.{left_end, left-on, left-countable, next-id}
use Rattle.sink.proofs.openings.put_kept.Goals as goal

pub put_next-p-requires : goal.put_next-p-requires
put_next-p-requires c = left-countable c.loop-u.invariant (next-id _ c.loop-u-test.true) c.requires

pub loop-u-preserved : goal.loop-u-preserved
loop-u-preserved c = left-on c.loop-u.invariant (next-id _ c.loop-u-test.true) c.put_next-p.ensures

pub returns : goal.returns
returns c = left_end c.loop-u.invariant (drop_of_length-le c.args.ids.now c.loop-u-test.false)
