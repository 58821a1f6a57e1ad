-- `spread::distribute`: the elements so far, and those of what is left of the streams.
use Prim.Native.Nat.{ℕ, ◌-◌, ◌≤◌}
use mathlib.Core.List.{List}
use mathlib.Core.Option.{none}
use mathlib.Core.Path.{◌≡◌}
use lib.IntN.{ℤ}
use lib.ListN.{length, drop}
use Rattle.laws.proofs.Emits.{Emits}
use Rattle.snesl.specs.Transducers.{each_t, flag_of, misfit, spread}
use Rattle.segmentwise.proofs.spread.distribute.Given as goal

pub record Head (flags items old buf bs : List ℤ) (i to : ℕ) : Type 0 where
  pub fits : misfit flag_of each_t i (length items - i) bs (drop i items) ≡ none
  pub room : length (spread flag_of flags items) ≤ length old
  pub emits : Emits old buf 0 (spread flag_of flags items) (spread flag_of bs (drop i items)) to

abbrev pub invariant-loop-x : goal.invariant-loop-x
invariant-loop-x l = Head l.fn.flags l.items l.fn.out l.out l.flags l.x-index l.to
