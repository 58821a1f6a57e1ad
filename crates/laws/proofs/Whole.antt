-- Signed numbers in range, by `mag`, which omega reads. A signed local is its bits; `to_z-of_z` reads them back.
use Prim.Native.Nat.{ℕ, suc, ◌+◌, ◌-◌, ◌≤◌, ◌<◌, ◌^◌}
use mathlib.Core.Path.{◌≡◌, refl, ◌∙◌, ap}
use mathlib.Core.Bool.{Bool, true, false, cond}
use native.Mathlib.Omega.{arith}
use borrow.Author.Tests.{ltb-true}
use lib.Dec.{ltb}
use lib.IntN.{ℤ, pos, negsuc, sub_ℕ, ◌+ℤ◌}
use lib.Signed.{mag}
use mir.Facts.{to_z-of_z}
use mir.Syntax.{w32, w64}
use mir.Val.{SFits, to_z, of_z}
use Rattle.laws.specs.Range.{fitting, held_of}

mag-sub : (a b : ℕ) → mag (sub_ℕ a b) ≤ a + b
mag-sub a b = go (ltb a b)
  where
    go : (t : Bool) → mag (cond t (negsuc (b - suc a)) (pos (a - b))) ≤ a + b
    go true = omega arith
    go false = omega arith

pub mag_sum : (x y : ℤ) → mag (x +ℤ y) ≤ mag x + mag y + 1
mag_sum (pos a) (pos b) = omega arith
mag_sum (pos a) (negsuc b) = omega (arith, mag-sub a (suc b))
mag_sum (negsuc a) (pos b) = omega (arith, mag-sub b (suc a))
mag_sum (negsuc a) (negsuc b) = omega arith

-- ---- a 32-bit number read from a buffer, in the forms in which code has it

pub read : (x : ℤ) → mag x < 2 ^ 31 → to_z w32 (of_z w32 x) ≡ x
read x h = let s : SFits w32 x = record { sfits = h } in to_z-of_z s

-- made wider
pub wide : (x : ℤ) → mag x < 2 ^ 31 → to_z w64 (of_z w64 (to_z w32 (of_z w32 x))) ≡ x
wide x h = let s : SFits w64 x = record { sfits = omega arith } in ap (λ y. to_z w64 (of_z w64 y)) (read x h) ∙ to_z-of_z s

pub fits-wide : (x : ℤ) → mag x < 2 ^ 31 → SFits w64 (to_z w32 (of_z w32 x))
fits-wide x h = rw (read x h) (record { sfits = omega arith })

-- ---- a number held to 32 bits

pub held-inside : (z : ℤ) → fitting z ≡ true → held_of z ≡ z
held-inside z e = λ i. elim (e i) [ true ↦ z | false ↦ pos 0 ]

pub held-outside : (z : ℤ) → fitting z ≡ false → held_of z ≡ pos 0
held-outside z e = λ i. elim (e i) [ true ↦ z | false ↦ pos 0 ]

-- what is stored of it is in range
pub held_fits : (z : ℤ) → mag (held_of z) < 2 ^ 31
held_fits z = go (fitting z) refl
  where
    go : (b : Bool) → fitting z ≡ b → mag (held_of z) < 2 ^ 31
    go true e = rw (held-inside z e) (omega (arith, ltb-true (mag z) 2147483648 e))
    go false e = rw (held-outside z e) (omega arith)
