-- What was measured is filled in.
use Rattle.std.proofs.Common.{arith, sym, ◌∙◌}
use Rattle.valuetext.proofs.StoringSteps.{elements-stored}
use Rattle.valuetext.proofs.storing.text_to_streams.Goals as goal

pub returns-clause-elements_after : goal.returns-clause-elements_after
returns-clause-elements_after c = c.fill_text.ensures ∙ elements-stored c.args.text.now c.args.base c.args.depth c.args.elements.now c.args.lengths.now (omega arith) (sym c.in_ok-sum.was ∙ c.measure_text.ensures.value) (omega arith) (omega arith)
