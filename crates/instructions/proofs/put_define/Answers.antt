-- Piece after piece.
use Rattle.decimals.proofs.Stores.{writes_then}
use Rattle.instructions.proofs.put_define.Goals as goal

pub returns : goal.returns
returns c = writes_then c.put_id-a.ensures (writes_then c.put_bytes-b.ensures (writes_then c.put_name-c.ensures (writes_then c.put_bytes-d.ensures (writes_then c.put_operands-e.ensures c.put_bytes.ensures))))
