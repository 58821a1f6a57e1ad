-- A copy of the part is what the library leaves there.
use Rattle.std.proofs.Common.{◌∙◌, arith}
use Rattle.environment.proofs.Stack.{moved}
use Rattle.environment.proofs.move_words.Goals as goal

pub returns : goal.returns
returns c = c.copy_within.ensures.after ∙ moved c.args.env.now c.args.from c.args.to c.args.count _ c.requires.0 (omega arith)
