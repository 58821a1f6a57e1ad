-- The test of range is 01's range of whole numbers.
use Prim.Native.Nat.{◌<◌, ◌≤◌}
use native.Mathlib.Omega.{arith}
use mathlib.Core.Bool.{true}
use mathlib.Core.Logic.{◌↔◌}
use mathlib.Core.Path.{◌≡◌, refl}
use borrow.Author.Tests.{lt-ltb, ltb-true, le-leb, leb-true}
use lib.IntN.{ℤ, pos, negsuc}
use lib.Signed.{le_z}
use Rattle.snesl.specs.Values.{in_range}

-- -2,147,483,648 and 2,147,483,647
abbrev pub least_int : ℤ
least_int = negsuc 2147483647

abbrev pub greatest_int : ℤ
greatest_int = pos 2147483647

pub range-exactly : (z : ℤ) → (in_range z ≡ true) ↔ ((le_z least_int z ≡ true) × (le_z z greatest_int ≡ true))
range-exactly (pos n) = (
  λ h. let l : n < 2147483648 = ltb-true n 2147483648 h in (refl, le-leb n 2147483647 (omega arith)),
  λ h. let l : n ≤ 2147483647 = leb-true n 2147483647 h.1 in lt-ltb n 2147483648 (omega arith),
)
range-exactly (negsuc n) = (
  λ h. let l : n < 2147483648 = ltb-true n 2147483648 h in (le-leb n 2147483647 (omega arith), refl),
  λ h. let l : n ≤ 2147483647 = leb-true n 2147483647 h.0 in lt-ltb n 2147483648 (omega arith),
)
