-- Each way out by its own law; what the callees are asked follows from the expression that was read here.
use Rattle.checking.proofs.check.+walk.Given as goal

abbrev pub decreases-walk : goal.decreases-walk
decreases-walk l = l.levels
