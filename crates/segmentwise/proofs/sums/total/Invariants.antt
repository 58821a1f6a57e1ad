-- `sums::total`: the items that are left, added to what was added. No more than i items are in a total, so it fits 64 bits.
use Prim.Native.Nat.{ℕ, ◌*◌, ◌≤◌}
use mathlib.Core.List.{List}
use mathlib.Core.Path.{◌≡◌}
use lib.IntN.{ℤ, pos}
use lib.ListN.{drop}
use lib.Signed.{mag}
use Rattle.flags.specs.Segments.{total_from}
use Rattle.segmentwise.proofs.sums.total.Given as goal

pub record Head (items : List ℤ) (i : ℕ) (t : ℤ) : Type 0 where
  pub size : mag t ≤ i * 2147483648
  pub same : total_from (pos 0) items ≡ total_from t (drop i items)

abbrev pub invariant-loop-x : goal.invariant-loop-x
invariant-loop-x l = Head l.items l.x-index l.sum
