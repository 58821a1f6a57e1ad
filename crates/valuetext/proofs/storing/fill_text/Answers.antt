-- The cursors start where the streams do.
use Rattle.std.proofs.Common.{arith}
use Rattle.valuetext.proofs.StoringSteps.{front-length, fill-starts, fill-ready, filled}
use Rattle.valuetext.proofs.storing.fill_text.Goals as goal

pub slice_bounds-starts-end : goal.slice_bounds-starts-end
slice_bounds-starts-end c = front-length c.requires

pub starts-requires-clause-counts_bound : goal.starts-requires-clause-counts_bound
starts-requires-clause-counts_bound c = omega (arith, (fill-starts c.requires (omega (arith, c.well_formed.1.1.1.1.0.1))).1)

pub read_item-requires : goal.read_item-requires
read_item-requires c = fill-ready c.requires c.starts.new.places c.starts.ensures.by_index c.starts.auto.places (omega (arith, c.well_formed.0.1)) (omega (arith, c.well_formed.1.1.1.1.0.1))

pub returns : goal.returns
returns c = filled c.requires c.starts.new.places c.starts.ensures.by_index c.read_item.ensures
