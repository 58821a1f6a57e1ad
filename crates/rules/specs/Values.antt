-- The paper's values (002, 1.1.1 (2)), of no type yet, and the rules that give them one (1.1.2, value typing).
use Rattle.std.specs.Prelude.{Bool, List, [], ◌∷◌, ℤ}
use Rattle.snesl.specs.declared.code.Base.{Base}
use Rattle.snesl.specs.declared.code.Base.TheVariants as base
use Rattle.snesl.specs.Values as types
use Rattle.snesl.specs.Values.{ValueType, scalar, Element, Val}

-- v ::= n | T | F | {v1, .., vk}; 002 has no bool, 001 does
mutual
  pub data Value : Type 0 where
    int : ℤ → Value
    bool : Bool → Value
    braces : Values → Value

  pub data Values : Type 0 where
    empty : Values
    item : Value → Values → Values

-- v : τ
mutual
  pub data HasType : Value → ValueType → Type 0 where
    type-int : {n : ℤ} → HasType (int n) types.int
    type-bool : {c : Bool} → HasType (bool c) types.bool
    type-braces : {vs : Values} {τ : ValueType} → HaveType vs τ → HasType (braces vs) (types.braces τ)

  pub data HaveType : Values → ValueType → Type 0 where
    type-none : {τ : ValueType} → HaveType empty τ
    type-more : {v : Value} {vs : Values} {τ : ValueType} → HasType v τ → HaveType vs τ → HaveType (item v vs) τ

-- a value of a type (snesl, specs/Values.antt) without its type
unfoldable pub plains : {A : Type 0} → (A → Value) → List A → Values
plains f [] = empty
plains f (a ∷ l) = item (f a) (plains f l)

abbrev pub plain_scalar : (b : Base) → Element b → Value
plain_scalar base.Int n = int n
plain_scalar base.Bool c = bool c

unfoldable pub plain : (τ : ValueType) → Val τ → Value
plain (scalar b) e = plain_scalar b e
plain (types.braces τ) vs = braces (plains (plain τ) vs)
