-- Each start is the one before and that stream's length.
use Rattle.std.proofs.Common.{length, refl, ◌∙◌, arith}
use lib.Seq.{drop-set-lt}
use Rattle.levels.proofs.Counting.{placing-start, placing-fits-all, placing-on}
use Rattle.levels.proofs.counts.starts.Goals as goal

pub loop-i-init : goal.loop-i-init
loop-i-init c = (placing-start c.args.counts.now c.args.places.now c.args.start, refl)

pub overflow_add-at : goal.overflow_add-at
overflow_add-at c = record { fits = placing-fits-all c.loop-i.invariant.0 c.loop-i-test.true c.requires.counts_bound }

pub loop-i-preserved : goal.loop-i-preserved
loop-i-preserved c = (placing-on c.loop-i.invariant.0 c.loop-i-test.true (omega arith), drop-set-lt (length c.args.counts.now) c.loop-i.places c.loop-i.i c.loop-i.at c.loop-i-test.true ∙ c.loop-i.invariant.1)
