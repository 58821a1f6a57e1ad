-- Values and their types (002, 1.1.1 (1) and (2); 001 adds bool), and 01's range of whole numbers.
use Rattle.std.specs.Prelude.{ℕ, zero, suc, List, [], ◌∷◌, ◌≡◌, ltb, ℤ, pos, ◌+ℤ◌}
use mathlib.Core.Bool
use mathlib.Core.Bool.{true, ◌&&◌}
use Rattle.std.specs.Int.Signed.{mag, le_z}
use Rattle.snesl.specs.declared.code.Base.{Base}
use Rattle.snesl.specs.declared.code.Base.TheVariants.{Int, Bool}
use Rattle.snesl.specs.declared.code.Operation.{Operation}
use Rattle.snesl.specs.declared.code.Operation.TheVariants.{Plus, LessEqual, Equal}

-- τ ::= int | bool | {τ}
pub data ValueType : Type 0 where
  scalar : Base → ValueType
  braces : ValueType → ValueType

abbrev pub int : ValueType
int = scalar Int

abbrev pub bool : ValueType
bool = scalar Bool

-- how many braces stand round a type's base, and that base; and the type of which they are said
abbrev pub depth_of : ValueType → ℕ
depth_of (scalar b) = 0
depth_of (braces τ) = suc (depth_of τ)

abbrev pub base_of : ValueType → Base
base_of (scalar b) = b
base_of (braces τ) = base_of τ

abbrev pub type_of : Base → (depth : ℕ) → ValueType
type_of b zero = scalar b
type_of b (suc d) = braces (type_of b d)

-- n | T | F
abbrev pub Element : Base → Type 0
Element Int = ℤ
Element Bool = mathlib.Core.Bool.Bool

-- v ::= n | T | F | {v1, .., vk}
abbrev pub Val : ValueType → Type 0
Val (scalar b) = Element b
Val (braces τ) = List (Val τ)

-- the base of a scalar operation's result (001)
abbrev pub result_of : Operation → Base
result_of Plus = Int
result_of LessEqual = Bool
result_of Equal = Bool

-- x == y; x <= y is the kit's `le_z`
abbrev pub equal_z : ℤ → ℤ → mathlib.Core.Bool.Bool
equal_z x y = le_z x y && le_z y x

-- 01, "Language and papers": -2,147,483,648 to 2,147,483,647. `mag` is n both for n and for -(n + 1).
abbrev pub in_range : ℤ → mathlib.Core.Bool.Bool
in_range z = ltb (mag z) 2147483648

-- each item of a list is so
pub data Each {A : Type 0} (P : A → Type 0) : List A → Type 0 where
  each_none : Each P []
  each_more : {x : A} {xs : List A} → P x → Each P xs → Each P (x ∷ xs)

-- each int of a value is so
abbrev pub EachIntOf : (ℤ → Type 0) → (b : Base) → Element b → Type 0
EachIntOf P Int z = P z
EachIntOf P Bool c = Unit

abbrev pub EachInt : (ℤ → Type 0) → (τ : ValueType) → Val τ → Type 0
EachInt P (scalar b) e = EachIntOf P b e
EachInt P (braces τ) vs = Each (EachInt P τ) vs

-- a value whose ints are all in range
abbrev pub InRange : (τ : ValueType) → Val τ → Type 0
InRange τ v = EachInt (λ z. in_range z ≡ true) τ v

-- the exact total of a sequence, 0 for an empty one
unfoldable pub total : List ℤ → ℤ
total [] = pos 0
total (z ∷ zs) = z +ℤ total zs
