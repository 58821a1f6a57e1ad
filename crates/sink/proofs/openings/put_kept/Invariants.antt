-- The ids before the next are written.
use lib.ListN.{drop}
use Rattle.sink.proofs.Ascent.{Left}
use Rattle.sink.proofs.openings.put_kept.Given as goal

abbrev pub invariant-loop-u : goal.invariant-loop-u
invariant-loop-u l = Left l.ids (drop l.u-index l.ids) l.initial.text l.at l.first l.text l.p
