-- The sum of two items, as code has it: in 64 bits it is exact.
use Rattle.std.proofs.Common.{◌≡◌, ◌<◌, ◌^◌, ℤ, ◌+ℤ◌, arith}
use Rattle.std.specs.Int.{w32, w64}
use lib.Signed.{mag}
use mir.Facts.{to_z-of_z}
use mir.Val.{SFits, to_z, of_z}
use Rattle.laws.proofs.Whole.{mag_sum, wide}

module _ (x y : ℤ) (hx : mag x < 2 ^ 31) (hy : mag y < 2 ^ 31) where
  fits : SFits w64 (x +ℤ y)
  fits = record { sfits = omega (arith, mag_sum x y) }

  pub sum_fits : SFits w64 (to_z w64 (of_z w64 (to_z w32 (of_z w32 x))) +ℤ to_z w64 (of_z w64 (to_z w32 (of_z w32 y))))
  sum_fits = rw (wide x hx, wide y hy) fits

pub exact : (x y : ℤ) {a b : ℤ} → SFits w32 x → SFits w32 y → a ≡ to_z w32 (of_z w32 x) → b ≡ to_z w32 (of_z w32 y) →
    to_z w64 (of_z w64 (to_z w64 (of_z w64 a) +ℤ to_z w64 (of_z w64 b))) ≡ x +ℤ y
exact x y fx fy p q =
    let wx : SFits w64 x = record { sfits = omega (arith, fx.sfits) } in
    let wy : SFits w64 y = record { sfits = omega (arith, fy.sfits) } in
    let wide : SFits w64 (x +ℤ y) = record { sfits = omega (arith, mag_sum x y, fx.sfits, fy.sfits) } in
    rw (p, q, to_z-of_z fx, to_z-of_z fy, to_z-of_z wx, to_z-of_z wy) (to_z-of_z wide)
