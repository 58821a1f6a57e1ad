-- A KN has no variables.
use Rattle.std.proofs.Common.{rules}
use Rattle.snesl.specs.Records.{variables_ok}
use Rattle.records.proofs.head.shape_of.Goals as goal

pub returns-in-Const : goal.returns-in-Const
unfolding variables_ok
returns-in-Const c = search rules
