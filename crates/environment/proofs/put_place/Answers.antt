-- The three words are copied to their part.
use Rattle.std.proofs.Common.{arith}
use Rattle.environment.proofs.Stack.{copied}
use Rattle.environment.proofs.put_place.Goals as goal

pub returns : goal.returns
returns c = copied _ _ _ _ _ c.copy_from_slice.ensures.after (omega arith)
