-- `reading::segments`: what the flags that are left add to what was read; an element that is no flag settles it.
use Prim.Native.Nat.{ℕ, ◌≤◌}
use mathlib.Core.Bool.{Bool, true, false}
use mathlib.Core.List.{List}
use mathlib.Core.Option.{Option, none}
use mathlib.Core.Path.{◌≡◌}
use lib.IntN.{ℤ}
use lib.ListN.{drop}
use Rattle.snesl.specs.Transducers.{flag_of}
use Rattle.flags.specs.Segments.{wholes}
use Rattle.flags.proofs.reading.segments.Given as goal

-- what is told of flags, so far clean or not
abbrev pub told : (clean : Bool) → Option ℕ → Option ℕ
told true o = o
told false o = none

pub record Head (flags : List ℤ) (i ends : ℕ) (w clean : Bool) : Type 0 where
  pub few : ends ≤ i
  pub same : wholes flag_of 0 false flags ≡ told clean (wholes flag_of ends w (drop i flags))

abbrev pub invariant-loop-z : goal.invariant-loop-z
invariant-loop-z l = Head l.flags l.z-index l.ends l.within l.clean
