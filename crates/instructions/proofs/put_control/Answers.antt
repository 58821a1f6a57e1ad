-- Piece after piece.
use Rattle.decimals.proofs.Stores.{writes_then}
use Rattle.instructions.proofs.put_control.Goals as goal

pub returns : goal.returns
returns c = writes_then c.put_bytes-a.ensures (writes_then c.put_id-b.ensures c.put_bytes.ensures)
