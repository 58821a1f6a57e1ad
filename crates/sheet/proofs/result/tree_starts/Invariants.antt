-- The first i starts are there.
use Prim.Native.Nat.{ℕ, ◌+◌, ◌*◌, ◌-◌, ◌<◌, ◌≤◌}
use mathlib.Core.Path.{◌≡◌}
use lib.ListN.{length, get_or}
use Rattle.sheet.proofs.result.tree_starts.Given as goal

abbrev pub invariant-loop-i : goal.invariant-loop-i
invariant-loop-i l = (l.i ≤ l.levels) × (length l.places ≡ length l.initial.places) × ((j : ℕ) → j < l.i → get_or l.places j 0 ≡ get_or l.env (l.from + (3 * j + 1)) 0)

abbrev pub decreases-loop-i : goal.decreases-loop-i
decreases-loop-i l = l.levels - l.i
