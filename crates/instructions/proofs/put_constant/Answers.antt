-- The name, and the constant, which code reads off its bits.
use Rattle.std.proofs.Common.{to_z-of_z}
use Rattle.decimals.proofs.Stores.{writes_then}
use Rattle.instructions.proofs.put_constant.Goals as goal

pub returns : goal.returns
returns c = writes_then c.put_bytes-p.ensures (simp (to_z-of_z c.ranges.z) at c.write_int.ensures)
