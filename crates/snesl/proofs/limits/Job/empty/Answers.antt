-- The empty job holds the empty formula, whatever that is.
use Rattle.snesl.proofs.limits.Job.empty.Goals as goal

pub returns : goal.returns
returns c = λ i. record { formula = c.empty.ensures i; end = 0 }
