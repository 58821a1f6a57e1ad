-- The first id, a comma, the second id.
use Rattle.snesl.specs.Text.{joined}
use Rattle.decimals.proofs.Stores.{writes_then}
use Rattle.instructions.proofs.put_pair.Goals as goal

pub returns : goal.returns
unfolding joined
returns c = writes_then c.put_id-p.ensures (writes_then c.put-q.ensures c.put_id.ensures)
