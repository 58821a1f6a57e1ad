-- A minus and its digits lie within the text.
use Rattle.std.proofs.Common.{arith}
use Rattle.std.proofs.lemmas.Grind.{common_steps}
use Rattle.decimals.proofs.IntText.{digits-inside}
use Rattle.decimals.proofs.numbers.read_int.Goals as goal

pub overflow_add-result : goal.overflow_add-result
overflow_add-result c = grind (arith, common_steps, digits-inside)
