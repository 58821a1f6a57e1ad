-- Sum after sum, never past the limit.
use Rattle.levels.proofs.Counting.{Adding}
use Rattle.levels.proofs.counts.add_up.Given as goal

abbrev pub invariant-loop-n : goal.invariant-loop-n
invariant-loop-n l = Adding l.counts l.most l.sum l.n-index
