-- A scalar is one element of the data.
use Rattle.std.proofs.Common.{sym, ◌∙◌}
use Rattle.valuetext.proofs.ReadingSteps.{leaf-scalar, leaf-no, leaf-ready}
use Rattle.valuetext.proofs.reading.read_leaf.Goals as goal

pub returns-in_err-z : goal.returns-in_err-z
returns-in_err-z c = leaf-no (sym c.read_scalar.ensures ∙ c.in_err-z.was) c.from_residual.ensures

pub append-requires : goal.append-requires
append-requires c = leaf-ready c.requires (sym c.read_scalar.ensures ∙ c.in_ok-z.was)

pub returns : goal.returns
returns c = leaf-scalar (sym c.read_scalar.ensures ∙ c.in_ok-z.was) c.append.ensures.elements_after c.append.ensures.cursors_after
