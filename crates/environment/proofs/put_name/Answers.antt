-- The two words are copied to their part.
use Rattle.std.proofs.Common.{◌∙◌, ap, ◌∷◌, [], arith}
use Rattle.environment.proofs.Stack.{copied}
use Rattle.environment.proofs.put_name.Goals as goal

pub returns : goal.returns
returns c = copied _ _ _ _ _ (c.copy_from_slice.ensures.after ∙ ap (λ v. v ∷ c.args.depth ∷ []) c.from.ensures) (omega arith)
