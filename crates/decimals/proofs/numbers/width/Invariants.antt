-- A digit for each division by 10, and one.
use Rattle.decimals.proofs.NumberWriting.{Counting}
use Rattle.decimals.proofs.numbers.width.Given as goal

abbrev pub invariant-loop-m : goal.invariant-loop-m
invariant-loop-m l = Counting l.n l.m l.k

abbrev pub decreases-loop-m : goal.decreases-loop-m
decreases-loop-m l = l.m
