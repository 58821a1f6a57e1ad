-- The typing rules (002, 1.1.2) over names. A formula's raw tree (snesl, specs/Records.antt) is the paper's expression with the offset of each record.
use Rattle.std.specs.Prelude.{ℕ, suc, ◌≤◌, Bool, List, [], ◌∷◌, ◌≡◌, ℤ}
use Rattle.snesl.specs.declared.code.Base.{Base}
use Rattle.snesl.specs.declared.code.Operation.{Operation}
use Rattle.snesl.specs.declared.code.Variable.{Variable}
use Rattle.snesl.specs.Limits.{most_depth}
use Rattle.snesl.specs.Values.{ValueType, scalar, braces, int, bool, depth_of, result_of, Each}
use Rattle.snesl.specs.Terms.{All, ∅, ◌▹◌}
use Rattle.snesl.specs.Records as raw
use Rattle.snesl.specs.Records.{Raw, Input}
use Rattle.snesl.specs.Checking.{Name, input_type}
use Rattle.rules.specs.Names.{Env, nothing, named, Maps, MapsAll, Listed}

-- φ ::= constn | iota | plus, and 01's sum; of 001 the constants T and F, <=, == and not. A scalar operation on two ints is +, <= or ==.
pub data BuiltIn : Type 0 where
  const : ℤ → BuiltIn
  truth : Bool → BuiltIn
  iota : BuiltIn
  operation : Operation → BuiltIn
  negation : BuiltIn
  sum : BuiltIn

-- which expressions are φ(x1, .., xk)
pub data Calls : Raw → BuiltIn → List Variable → Type 0 where
  calls-const : {p : ℕ} {z : ℤ} → Calls (raw.const p z) (const z) []
  calls-truth : {p : ℕ} {c : Bool} → Calls (raw.truth p c) (truth c) []
  calls-iota : {p : ℕ} {x : Variable} → Calls (raw.iota p x) iota (x ∷ [])
  calls-operation : {p : ℕ} {o : Operation} {x y : Variable} → Calls (raw.operation p o x y) (operation o) (x ∷ y ∷ [])
  calls-negation : {p : ℕ} {x : Variable} → Calls (raw.negation p x) negation (x ∷ [])
  calls-sum : {p : ℕ} {x : Variable} → Calls (raw.sum p x) sum (x ∷ [])

-- φ : (τ1, .., τk) → τ
pub data Takes : BuiltIn → List ValueType → ValueType → Type 0 where
  takes-const : {z : ℤ} → Takes (const z) [] int
  takes-truth : {c : Bool} → Takes (truth c) [] bool
  takes-iota : Takes iota (int ∷ []) (braces int)
  takes-operation : {o : Operation} {τ : ValueType} → τ ≡ scalar (result_of o) → Takes (operation o) (int ∷ int ∷ []) τ
  takes-negation : Takes negation (bool ∷ []) bool
  takes-sum : Takes sum (braces int ∷ []) int

-- x is not in the list
abbrev pub Unlisted : Variable → List Variable → Type 0
Unlisted x us = Each (λ u. x ≡ u → ⊥) us

-- no variable is listed twice
pub data Once : List Variable → Type 0 where
  once-none : Once []
  once_more : {u : Variable} {us : List Variable} → Unlisted u us → Once us → Once (u ∷ us)

-- int or bool
pub data IsScalar : ValueType → Type 0 where
  is-scalar : {b : Base} → IsScalar (scalar b)

-- a guard lists variables of whatever type
abbrev pub AnyType : ValueType → Type 0
AnyType τ = Unit

-- Γ ⊢ e : τ. A comprehension's body sees x and the listed variables and nothing else, a guard's (001's restricted comprehension) the listed ones. 01 adds that x is not listed, that no variable is listed twice, and
-- that no depth is above its limit.
pub data Types : Env ValueType → Raw → ValueType → Type 0 where
  types-var : {Γ : Env ValueType} {p : ℕ} {τ : ValueType} {x : Variable} → Maps Γ x τ → Types Γ (raw.var p x) τ
  types-let : {Γ : Env ValueType} {p : ℕ} {υ τ : ValueType} {x : Variable} {e₁ e₂ : Raw}
      → Types Γ e₁ υ
      → Types (named x υ Γ) e₂ τ
      → Types Γ (raw.bind p x e₁ e₂) τ
  types-call : {Γ : Env ValueType} {e : Raw} {φ : BuiltIn} {xs : List Variable} {τs : List ValueType} {τ : ValueType}
      → Calls e φ xs
      → Takes φ τs τ
      → MapsAll Γ xs τs
      → Types Γ e τ
  types-each : {Γ Δ : Env ValueType} {p : ℕ} {υ τ : ValueType} {x y : Variable} {us : List Variable} {e : Raw}
      → Maps Γ y (braces υ)
      → Listed IsScalar Γ us Δ
      → Unlisted x us
      → Once us
      → Types (named x υ Δ) e τ
      → suc (depth_of τ) ≤ most_depth
      → Types Γ (raw.each p x y us e) (braces τ)
  types-guard : {Γ Δ : Env ValueType} {p : ℕ} {τ : ValueType} {g : Variable} {us : List Variable} {e : Raw}
      → Maps Γ g bool
      → Listed AnyType Γ us Δ
      → Once us
      → Types Δ e τ
      → suc (depth_of τ) ≤ most_depth
      → Types Γ (raw.guard p g us e) (braces τ)

-- a formula's inputs, first one first, added to Γ: 01 asks that each has a name of its own
pub data Declares : Env ValueType → List Input → Env ValueType → Type 0 where
  declares-none : {Γ : Env ValueType} → Declares Γ [] Γ
  declares-more : {Γ Δ : Env ValueType} {i : Input} {is : List Input}
      → ((τ : ValueType) → Maps Γ i.name τ → ⊥)
      → Declares (named i.name (input_type i) Γ) is Δ
      → Declares Γ (i ∷ is) Δ

-- a formula, inputs and expression, has type τ
pub data FormulaTypes (is : List Input) (e : Raw) (τ : ValueType) : Type 0 where
  formula-types : {Γ : Env ValueType} → Declares nothing is Γ → Types Γ e τ → FormulaTypes is e τ

-- the Γ of names that Checking.antt keeps beside a context
unfoldable pub types_of : {Γ : List ValueType} → All Name Γ → Env ValueType
types_of ∅ = nothing
types_of (◌▹◌ {τ = τ} x scope) = named x τ (types_of scope)
