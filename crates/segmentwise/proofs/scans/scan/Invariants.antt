-- `scans::scan`: the totals so far, and those of what is left of the streams; the first one out of range is among these.
use Prim.Native.Nat.{ℕ, ◌+◌, ◌-◌}
use mathlib.Core.List.{List}
use mathlib.Core.Option.{none}
use mathlib.Core.Path.{◌≡◌}
use lib.IntN.{ℤ}
use lib.ListN.{length}
use Rattle.laws.proofs.Emits.{Emits}
use Rattle.snesl.specs.Transducers.{each_f, flag_of, misfit, scans, first_outside}
use Rattle.streams.proofs.Filling.{values}
use Rattle.segmentwise.proofs.scans.scan.Given as goal

pub record Head (n : ℕ) (s : ℤ) (flags items old buf bs xs : List ℤ) (to k : ℕ) : Type 0 where
  pub fits : misfit flag_of each_f k (n - k) bs xs ≡ none
  pub items_left : to + length xs ≡ length items
  pub emits : Emits old buf 0 (values (scans flag_of s 0 s flags items)) (values (scans flag_of s k s bs xs)) to
  pub first : first_outside (scans flag_of s 0 s flags items) ≡ first_outside (scans flag_of s k s bs xs)

abbrev pub invariant-loop-k : goal.invariant-loop-k
invariant-loop-k l = Head l.n l.start l.fn.flags l.fn.items l.fn.out l.out l.flags l.items l.to l.k
