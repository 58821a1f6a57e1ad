-- What was copied stands in front of the rest.
use mathlib.Core.List.{◌++◌}
use mathlib.Core.Path.{ap, ◌∙◌}
use lib.ListN.{drop}
use Rattle.hailspindle.proofs.Noting.{noted_front}
use Rattle.hailspindle.proofs.figures.note.Goals as goal

pub returns : goal.returns
returns c = ap (λ l. l ++ drop c.min-n.result c.args.figures.now) c.copy_from_slice.ensures.after ∙ noted_front c.args.values.now c.args.figures.now c.min-n.result c.min-n.ensures
