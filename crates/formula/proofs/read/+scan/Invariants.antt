-- A scan goes on as its first record asks, with one nesting less.
use Rattle.formula.proofs.read.+scan.Given as goal

abbrev pub decreases-scan : goal.decreases-scan
decreases-scan l = l.levels
