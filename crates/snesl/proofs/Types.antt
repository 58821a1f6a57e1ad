-- The type of so many braces round a base has that depth and that base, and every type is such a type.
use Prim.Native.Nat.{ℕ, zero, suc}
use mathlib.Core.Path.{◌≡◌, refl, ap}
use Rattle.snesl.specs.declared.code.Base.{Base}
use Rattle.snesl.specs.Values.{ValueType, scalar, braces, depth_of, base_of, type_of}

pub depth-of-type : (b : Base) (d : ℕ) → depth_of (type_of b d) ≡ d
depth-of-type b zero = refl
depth-of-type b (suc d) = ap suc (depth-of-type b d)

pub base-of-type : (b : Base) (d : ℕ) → base_of (type_of b d) ≡ b
base-of-type b zero = refl
base-of-type b (suc d) = base-of-type b d

pub type-of-both : (τ : ValueType) → type_of (base_of τ) (depth_of τ) ≡ τ
type-of-both (scalar b) = refl
type-of-both (braces τ) = ap braces (type-of-both τ)
