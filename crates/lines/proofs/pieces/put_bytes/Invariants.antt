-- The bytes so far stand written.
use Rattle.std.proofs.Common.{take}
use Rattle.decimals.specs.Writing.{Writes}
use Rattle.lines.proofs.pieces.put_bytes.Given as goal

abbrev pub invariant-loop-b : goal.invariant-loop-b
invariant-loop-b l = Writes l.initial.text l.text l.at (take l.b-index l.bytes) l.p
