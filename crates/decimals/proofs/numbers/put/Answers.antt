-- A store past the end is none.
use Rattle.std.proofs.Common.{arith}
use Rattle.std.proofs.lemmas.Grind.{common_steps}
use lib.Seq.{set_out}
use Rattle.decimals.proofs.numbers.put.Goals as goal

pub returns : goal.returns
returns c = record { content = grind (arith, common_steps, set_out); count = grind (arith, common_steps) }
