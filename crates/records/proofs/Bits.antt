-- A whole number of 32 bits from the number that its bits are: the upper half of the bits are the negative ones.
use Prim.Native.Nat.{ℕ, zero, suc, ◌-◌, ◌≤◌, ◌<◌}
use mathlib.Core.Path.{◌≡◌, refl, ◌∙◌}
use native.Mathlib.Nat.{zero-add}
use native.Mathlib.Omega.{arith}
use lib.IntN.{pos, negsuc, ◌-ℤ◌}
use mir.Syntax.{w32}
use mir.Val.{to_z, of_z, SFits}
use mir.Facts.{to_z_pos, to_z-of_z}
use borrow.Author.Tests.{lt-ltb, le-ltb}
use Rattle.snesl.specs.Records.{signed}

below_none : (n : ℕ) → negsuc 0 -ℤ pos n ≡ negsuc n
below_none zero = refl
below_none (suc n) = rw zero-add

module _ (u : ℕ) where
  pub low : u < 2147483648 → to_z w32 u ≡ signed u
  low h = to_z_pos w32 h ∙ rw (lt-ltb u 2147483648 h, signed)

  module _ (h : 2147483648 ≤ u) where
    high_is : negsuc 0 -ℤ to_z w32 (4294967295 - u) ≡ negsuc (4294967295 - u)
    high_is = rw (to_z_pos w32 {n = 4294967295 - u} (omega arith)) (below_none (4294967295 - u))

    pub high_fits : SFits w32 (negsuc 0 -ℤ to_z w32 (4294967295 - u))
    high_fits = rw high_is (record { sfits = omega arith })

    pub high : to_z w32 (of_z w32 (negsuc 0 -ℤ to_z w32 (4294967295 - u))) ≡ signed u
    high = to_z-of_z high_fits ∙ (high_is ∙ rw (le-ltb u 2147483648 h, signed))
