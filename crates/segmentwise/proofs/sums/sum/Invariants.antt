-- `sums::sum`: the totals so far, and those of what is left of the streams.
use Prim.Native.Nat.{ℕ, ◌≤◌}
use mathlib.Core.Bool.{Bool}
use mathlib.Core.List.{List}
use lib.IntN.{ℤ, pos}
use lib.ListN.{length}
use Rattle.snesl.specs.Transducers.{flag_of, sums}
use Rattle.streams.proofs.Filling.{Filling}
use Rattle.segmentwise.proofs.Summing.{Reached}
use Rattle.segmentwise.proofs.sums.sum.Given as goal

pub record Head (n : ℕ) (flags items old buf bs xs : List ℤ) (inside : Bool) (k : ℕ) : Type 0 where
  pub reached : Reached n k bs xs
  pub room : n ≤ length old
  pub filling : Filling (sums flag_of 0 (pos 0) flags items) old buf (sums flag_of k (pos 0) bs xs) inside k

abbrev pub invariant-loop-k : goal.invariant-loop-k
invariant-loop-k l = Head l.n l.fn.flags l.fn.items l.fn.out l.out l.flags l.items l.inside l.k
