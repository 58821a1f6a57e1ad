-- At each turn what is left to pack is known, and that with it all is done (proofs/All.antt).
use Prim.Native.Nat.{◌+◌, ◌-◌}
use Rattle.snesl.specs.Records.{byte_at}
use Rattle.guards.specs.Lists.{Lists}
use Rattle.guards.proofs.All.{Rest}
use Rattle.guards.proofs.pack_listed.Given as goal

abbrev pub invariant-loop-i : goal.invariant-loop-i
invariant-loop-i l = (g : Lists l.bytes (l.at + 1) (byte_at l.bytes l.at) l.q.base l.q l.initial.env l.initial.buf l.initial.state l.initial.text) → Rest g l.n (l.at + 1 + l.i) (byte_at l.bytes l.at - l.i) l.to l.env l.buf l.state l.text
