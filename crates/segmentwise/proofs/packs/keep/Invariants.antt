-- `packs::keep`: the flags so far, and those of what is left of the streams.
use Prim.Native.Nat.{ℕ, ◌-◌, ◌≤◌}
use mathlib.Core.List.{List, map}
use mathlib.Core.Option.{none}
use mathlib.Core.Path.{◌≡◌}
use lib.IntN.{ℤ}
use lib.ListN.{length, drop}
use Rattle.laws.proofs.Emits.{Emits}
use Rattle.snesl.specs.Streams.{bit}
use Rattle.snesl.specs.Transducers.{each_t, flag_of, misfit}
use Rattle.segmentwise.proofs.Keeping.{keeps}
use Rattle.segmentwise.proofs.packs.keep.Given as goal

pub record Head (bools flags old buf bs : List ℤ) (i to : ℕ) : Type 0 where
  pub fits : misfit flag_of each_t i (length bools - i) bs (drop i bools) ≡ none
  pub room : length (keeps bools flags) ≤ length old
  pub emits : Emits old buf 0 (map bit (keeps bools flags)) (map bit (keeps (drop i bools) bs)) to

abbrev pub invariant-loop-c : goal.invariant-loop-c
invariant-loop-c l = Head l.bools l.fn.flags l.fn.out l.out l.flags l.c-index l.to
