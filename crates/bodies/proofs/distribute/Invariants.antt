-- At each turn what is left to distribute is known, and that with it all is done (proofs/Distributing.antt).
use Prim.Native.Nat.{◌+◌, ◌*◌, ◌-◌}
use Rattle.bodies.specs.Bodies.{Distributing, count_at, entries_at}
use Rattle.bodies.proofs.Distributing.{Rest}
use Rattle.bodies.proofs.distribute.Given as goal

abbrev pub invariant-loop-i : goal.invariant-loop-i
invariant-loop-i l = (g : Distributing l.bytes (l.k + 5) (count_at l.bytes l.k) (entries_at l.bytes l.k l.sp) l.sp l.initial.env l.initial.buf l.initial.state l.initial.text) → Rest g l.n (l.k + 5 + l.i) (l.count - l.i) (l.base + 5 * l.i) l.env l.buf l.state l.text
