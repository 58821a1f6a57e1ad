-- The last digit first, each at its place.
use Rattle.decimals.proofs.NumberWriting.{Digiting}
use Rattle.decimals.proofs.numbers.write_number.Given as goal

abbrev pub invariant-loop-p : goal.invariant-loop-p
invariant-loop-p l = Digiting l.initial.buf l.buf l.at l.n l.p l.m
