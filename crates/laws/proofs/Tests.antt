-- Facts on tests that are made of two, where the kit says them of `So` and not as equations.
use Prim.Native.Nat.{ℕ}
use native.Mathlib.Omega.{arith}
use mathlib.Core.Bool.{Bool, true, false, ◌&&◌, ◌||◌}
use mathlib.Core.Path.{◌≡◌, refl}

-- a test that both pass
pub both_true : (a b : Bool) → (a && b) ≡ true → (a ≡ true) × (b ≡ true)
both_true true b h = (refl, h)
both_true false b h = let z : ◌≡◌ {A = ℕ} 0 1 = cc in absurd (omega arith)

-- a test that one passes, and not the first
pub second-true : (a b : Bool) → (a || b) ≡ true → a ≡ false → b ≡ true
second-true true b h e = let z : ◌≡◌ {A = ℕ} 0 1 = cc in absurd (omega arith)
second-true false b h e = h
