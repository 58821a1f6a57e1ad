-- Any number is an int.
use Rattle.rendering.proofs.FittingSteps.{fit-ints}
use Rattle.rendering.proofs.fitting.fit_data.Goals as goal

pub returns-in-Int : goal.returns-in-Int
returns-in-Int c = fit-ints c.args.elements.now c.args.n c.if-elements-n.false c.in-Int.is
