-- Typed expressions: 002's expressions (Figure 1.1) with 01's sum and 001's bools and restricted comprehension, one constructor for each typing rule (1.1.2).
-- A context Γ is the list of the types of the variables in scope, newest first; a variable is where it stands in it, so names
-- are gone: Checking.antt finds the place of a name.
use Rattle.std.specs.Prelude.{List, [], ◌∷◌}
use Rattle.snesl.specs.declared.code.Base.{Base}
use Rattle.snesl.specs.declared.code.Operation.{Operation}
use Rattle.snesl.specs.Values.{ValueType, scalar, braces, int, bool, Element, result_of}

-- Γ(x) = τ
infix 40 ◌∋◌
pub data ◌∋◌ : List ValueType → ValueType → Type 0 where
  here : {τ : ValueType} {Γ : List ValueType} → (τ ∷ Γ) ∋ τ
  there : {τ υ : ValueType} {Γ : List ValueType} → Γ ∋ τ → (υ ∷ Γ) ∋ τ

-- a using list: variables, each with its type; an EA's holds ints and bools only, a GU's any
abbrev pub Listing : List ValueType → Type 0
Listing Γ = List ((τ : ValueType) × (Γ ∋ τ))

abbrev pub Scalars : List ValueType → Type 0
Scalars Γ = List ((b : Base) × (Γ ∋ scalar b))

abbrev pub any_type : {Γ : List ValueType} → Scalars Γ → Listing Γ
any_type [] = []
any_type (u ∷ us) = (scalar u.0, u.1) ∷ any_type us

-- the types of a using list
abbrev pub listed_types : {Γ : List ValueType} → Listing Γ → List ValueType
listed_types [] = []
listed_types (u ∷ us) = u.0 ∷ listed_types us

-- Γ ⊢ e : τ. Inside a comprehension's body only its x and the listed variables are in scope, inside a guard's only the listed ones.
pub data Term : List ValueType → ValueType → Type 0 where
  var : {Γ : List ValueType} {τ : ValueType} → Γ ∋ τ → Term Γ τ
  bind : {Γ : List ValueType} {υ τ : ValueType} → Term Γ υ → Term (υ ∷ Γ) τ → Term Γ τ
  const : {Γ : List ValueType} → (b : Base) → Element b → Term Γ (scalar b)
  iota : {Γ : List ValueType} → Γ ∋ int → Term Γ (braces int)
  operation : {Γ : List ValueType} → (o : Operation) → Γ ∋ int → Γ ∋ int → Term Γ (scalar (result_of o))
  negation : {Γ : List ValueType} → Γ ∋ bool → Term Γ bool
  sum : {Γ : List ValueType} → Γ ∋ braces int → Term Γ int
  each : {Γ : List ValueType} {υ τ : ValueType} → Γ ∋ braces υ → (us : Scalars Γ) → Term (υ ∷ listed_types (any_type us)) τ → Term Γ (braces τ)
  guard : {Γ : List ValueType} {τ : ValueType} → Γ ∋ bool → (us : Listing Γ) → Term (listed_types us) τ → Term Γ (braces τ)

-- something of type P τ for each variable of a context: the environments of evaluation (ρ) and of translation (δ)
infixr 45 ◌▹◌
pub data All (P : ValueType → Type 0) : List ValueType → Type 0 where
  ∅ : All P []
  ◌▹◌ : {τ : ValueType} {Γ : List ValueType} → P τ → All P Γ → All P (τ ∷ Γ)

-- ρ(x)
unfoldable pub lookup : {P : ValueType → Type 0} {Γ : List ValueType} {τ : ValueType} → Γ ∋ τ → All P Γ → P τ
lookup here (p ▹ ρ) = p
lookup (there x) (p ▹ ρ) = lookup x ρ

-- the listed variables' part of an environment
unfoldable pub listed : {P : ValueType → Type 0} {Γ : List ValueType} → (us : Listing Γ) → All P Γ → All P (listed_types us)
listed [] ρ = ∅
listed (u ∷ us) ρ = lookup u.1 ρ ▹ listed us ρ
