-- At each turn what is left to count is known, and that with it all is counted (proofs/Naming.antt).
use Prim.Native.Nat.{◌+◌, ◌-◌}
use Rattle.snesl.specs.Records.{byte_at}
use Rattle.guards.specs.Entering.{Naming}
use Rattle.guards.proofs.Naming.{Counting}
use Rattle.guards.proofs.listed_words.Given as goal

abbrev pub invariant-loop-i : goal.invariant-loop-i
invariant-loop-i l = (g : Naming l.bytes (l.at + 1) (byte_at l.bytes l.at) l.sp l.env) → Counting g (l.at + 1 + l.i) (byte_at l.bytes l.at - l.i) l.words
