-- The page goes on.
use Rattle.vectors.specs.Page.{Page}
use Rattle.vectors.proofs.writing.put_items.Given as goal

abbrev pub invariant-loop-item : goal.invariant-loop-item
invariant-loop-item g l = Page l.end l.text
