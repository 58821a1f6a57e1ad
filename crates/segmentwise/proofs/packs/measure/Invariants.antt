-- `packs::measure`: how many were kept so far, and those of what is left of the streams.
use Prim.Native.Nat.{ℕ, ◌+◌, ◌-◌, ◌≤◌}
use mathlib.Core.List.{List}
use mathlib.Core.Option.{none}
use mathlib.Core.Path.{◌≡◌}
use lib.IntN.{ℤ}
use lib.ListN.{length, drop}
use Rattle.snesl.specs.Transducers.{each_t, flag_of, misfit}
use Rattle.segmentwise.proofs.Keeping.{keeps}
use Rattle.segmentwise.proofs.packs.measure.Given as goal

pub record Head (bools flags bs : List ℤ) (i found : ℕ) : Type 0 where
  pub fits : misfit flag_of each_t i (length bools - i) bs (drop i bools) ≡ none
  pub few : found + length bs ≤ length flags
  pub same : length (keeps bools flags) ≡ found + length (keeps (drop i bools) bs)

abbrev pub invariant-loop-c : goal.invariant-loop-c
invariant-loop-c l = Head l.bools l.fn.flags l.flags l.c-index l.found
