-- The first i starts are there.
use Prim.Native.Nat.{ℕ, ◌+◌, ◌*◌}
use mathlib.Core.Path.{refl}
use native.Mathlib.Omega.{arith}
use lib.ListN.{get_or, length-set}
use Rattle.sheet.proofs.Starts.{filled_on}
use Rattle.sheet.proofs.result.tree_starts.Goals as goal

pub loop-i-init : goal.loop-i-init
loop-i-init c = (omega arith, refl, λ j h. absurd (omega arith))

pub overflow_cast-places : goal.overflow_cast-places
overflow_cast-places c = omega (arith, c.type_inv.env (c.args.from + (3 * c.loop-i.i + 1)))

pub loop-i-preserved : goal.loop-i-preserved
loop-i-preserved c = (omega arith, simp length-set c.loop-i.invariant.1, filled_on (λ (j : ℕ). get_or c.args.env.now (c.args.from + (3 * j + 1)) 0) c.loop-i.places c.loop-i.i c.loop-i.invariant.2 (omega arith))

pub shape_of-places : goal.shape_of-places
shape_of-places c = c.loop-i.invariant.1

pub returns : goal.returns
returns c = λ i h. c.loop-i.invariant.2 i (omega arith)
