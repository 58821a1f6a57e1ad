-- `scans::run`: the totals before the items that are left.
use Prim.Native.Nat.{ℕ, ◌<◌}
use mathlib.Core.List.{List}
use mathlib.Core.Path.{◌≡◌}
use lib.IntN.{ℤ}
use lib.ListN.{drop}
use lib.Signed.{mag}
use Rattle.laws.proofs.Emits.{Emits}
use Rattle.flags.specs.Segments.{running}
use Rattle.streams.specs.Walks.{all_inside}
use Rattle.segmentwise.proofs.Scanning.{tagged}
use Rattle.segmentwise.proofs.scans.run.Given as goal

pub record Head (items : List ℤ) (start : ℤ) (to : ℕ) (old buf : List ℤ) (i : ℕ) (t : ℤ) : Type 0 where
  pub size : mag t < 4294967296
  pub emits : Emits old buf to (running start items) (running t (drop i items)) i
  pub all : all_inside (tagged 0 (running start items)) ≡ all_inside (tagged 0 (running t (drop i items)))

abbrev pub invariant-loop-i : goal.invariant-loop-i
invariant-loop-i l = Head l.items l.start l.to l.fn.out l.out l.i l.total
