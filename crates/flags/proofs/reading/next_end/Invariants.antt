-- `reading::next_end`: the F's that still stand in front, counted from the flag that was reached.
use Prim.Native.Nat.{ℕ, ◌+◌, ◌-◌, ◌<◌}
use mathlib.Core.List.{List}
use mathlib.Core.Path.{◌≡◌}
use lib.IntN.{ℤ}
use lib.ListN.{length, drop}
use Rattle.snesl.specs.Transducers.{flag_of}
use Rattle.flags.specs.Segments.{leading}
use Rattle.flags.proofs.reading.next_end.Given as goal

pub record Head (flags : List ℤ) (i : ℕ) : Type 0 where
  pub within : leading flag_of (drop i flags) < length (drop i flags)
  pub same : leading flag_of flags ≡ i + leading flag_of (drop i flags)

abbrev pub invariant-loop-end : goal.invariant-loop-end
invariant-loop-end l = Head l.flags l.end

abbrev pub decreases-loop-end : goal.decreases-loop-end
decreases-loop-end l = length l.flags - l.end
