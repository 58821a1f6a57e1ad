-- `sums::first_outside`: the first total that is out of range is among those of what is left of the streams.
use Prim.Native.Nat.{ℕ}
use mathlib.Core.List.{List}
use mathlib.Core.Path.{◌≡◌}
use lib.IntN.{ℤ, pos}
use Rattle.snesl.specs.Transducers.{flag_of, sums, first_outside}
use Rattle.segmentwise.proofs.Summing.{Reached}
use Rattle.segmentwise.proofs.sums.first_outside.Given as goal

pub record Head (n : ℕ) (flags items bs xs : List ℤ) (k : ℕ) : Type 0 where
  pub reached : Reached n k bs xs
  pub first : first_outside (sums flag_of 0 (pos 0) flags items) ≡ first_outside (sums flag_of k (pos 0) bs xs)

abbrev pub invariant-loop-k : goal.invariant-loop-k
invariant-loop-k l = Head l.n l.fn.flags l.fn.items l.flags l.items l.k
