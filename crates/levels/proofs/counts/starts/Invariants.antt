-- Each start is the one before and that stream's length.
use Rattle.std.proofs.Common.{◌≡◌, length, drop}
use Rattle.levels.proofs.Counting.{Placing}
use Rattle.levels.proofs.counts.starts.Given as goal

abbrev pub invariant-loop-i : goal.invariant-loop-i
invariant-loop-i l = Placing l.counts l.places l.start l.i l.at × (drop (length l.counts) l.places ≡ drop (length l.counts) l.initial.places)
