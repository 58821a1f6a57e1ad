-- Checking (002, 1.1.2; 01, refusals 5 and 6): from a raw formula to a typed expression. Names live beside the context, and only here.
use Rattle.std.specs.Prelude.{ℕ, Bool, true, false, ◌&&◌, ◌||◌, not, List, [], ◌∷◌, eqb, ltb}
use Rattle.std.proofs.Math.Option.{Option, some, none}
use Rattle.snesl.specs.declared.code.Base.{Base}
use Rattle.snesl.specs.declared.code.Base.TheVariants as base
use Rattle.snesl.specs.declared.code.Variable.{Variable}
use Rattle.snesl.specs.declared.refusal.Refusal.{Refusal}
use Rattle.snesl.specs.declared.refusal.Refusal.TheVariants.{Unbound, WrongType}
use Rattle.snesl.specs.Limits.{most_depth}
use Rattle.snesl.specs.Terms as terms
use Rattle.snesl.specs.Values.{ValueType, scalar, braces, int, bool, depth_of, type_of, result_of}
use Rattle.snesl.specs.Terms.{◌∋◌, here, there, Term, Listing, Scalars, any_type, listed_types, All, ∅, ◌▹◌}
use Rattle.snesl.specs.Records.{Raw, var, bind, const, truth, iota, operation, negation, sum, each, guard, Input}

-- the name of a variable of whatever type
abbrev pub Name : ValueType → Type 0
Name τ = Variable

abbrev pub same : Variable → Variable → Bool
same x y = eqb x.0 y.0

-- the newest variable of a name, if there is one
pub data Found (Γ : List ValueType) : Type 0 where
  missing : Found Γ
  found : (τ : ValueType) → Γ ∋ τ → Found Γ

abbrev pub later : {Γ : List ValueType} {υ : ValueType} → Found Γ → Found (υ ∷ Γ)
later missing = missing
later (found τ x) = found τ (there x)

unfoldable pub find : {Γ : List ValueType} → Variable → All Name Γ → Found Γ
find x ∅ = missing
find x (◌▹◌ {τ = τ} y names) = elim (same x y) [ true ↦ found τ here | false ↦ later (find x names) ]

abbrev pub is_bound : {Γ : List ValueType} → Found Γ → Bool
is_bound missing = false
is_bound (found τ x) = true

-- a variable of the type that is wanted: a scalar, a bool, an int, a sequence, a sequence of ints
pub data AnyScalar (Γ : List ValueType) : Type 0 where
  no_scalar : AnyScalar Γ
  a_scalar : (b : Base) → Γ ∋ scalar b → AnyScalar Γ

abbrev pub as_scalar : {Γ : List ValueType} → Found Γ → AnyScalar Γ
as_scalar missing = no_scalar
as_scalar (found (scalar b) x) = a_scalar b x
as_scalar (found (braces τ) x) = no_scalar

abbrev pub as_bool : {Γ : List ValueType} → AnyScalar Γ → Option (Γ ∋ bool)
as_bool no_scalar = none
as_bool (a_scalar base.Int x) = none
as_bool (a_scalar base.Bool x) = some x

abbrev pub as_int : {Γ : List ValueType} → AnyScalar Γ → Option (Γ ∋ int)
as_int no_scalar = none
as_int (a_scalar base.Int x) = some x
as_int (a_scalar base.Bool x) = none

pub data Sequence (Γ : List ValueType) : Type 0 where
  no_sequence : Sequence Γ
  sequence : (υ : ValueType) → Γ ∋ braces υ → Sequence Γ

abbrev pub as_sequence : {Γ : List ValueType} → Found Γ → Sequence Γ
as_sequence missing = no_sequence
as_sequence (found (scalar b) x) = no_sequence
as_sequence (found (braces υ) x) = sequence υ x

abbrev pub as_ints : {Γ : List ValueType} → Sequence Γ → Option (Γ ∋ braces int)
as_ints no_sequence = none
as_ints (sequence (scalar base.Int) x) = some x
as_ints (sequence (scalar base.Bool) x) = none
as_ints (sequence (braces υ) x) = none

-- is the name in the list?
unfoldable pub names : Variable → List Variable → Bool
names x [] = false
names x (y ∷ ys) = same x y || names x ys

-- each name of a using list is bound, and listed once
unfoldable pub usable : {Γ : List ValueType} → All Name Γ → List Variable → Bool
usable scope [] = true
usable scope (u ∷ us) = is_bound (find u scope) && (not (names u us) && usable scope us)

-- a listed variable with its name, and all of them, if each is a scalar
abbrev pub NamedScalars : List ValueType → Type 0
NamedScalars Γ = List (Variable × ((b : Base) × (Γ ∋ scalar b)))

abbrev pub listed_first : {Γ : List ValueType} → Variable → AnyScalar Γ → Option (NamedScalars Γ) → Option (NamedScalars Γ)
listed_first u no_scalar l = none
listed_first u (a_scalar b x) none = none
listed_first u (a_scalar b x) (some l) = some ((u, (b, x)) ∷ l)

unfoldable pub listed_scalars : {Γ : List ValueType} → All Name Γ → List Variable → Option (NamedScalars Γ)
listed_scalars scope [] = some []
listed_scalars scope (u ∷ us) = listed_first u (as_scalar (find u scope)) (listed_scalars scope us)

abbrev pub pointers : {Γ : List ValueType} → NamedScalars Γ → Scalars Γ
pointers [] = []
pointers (p ∷ l) = p.1 ∷ pointers l

-- their names inside a body
unfoldable pub listed_names : {Γ : List ValueType} → (l : NamedScalars Γ) → All Name (listed_types (any_type (pointers l)))
listed_names [] = ∅
listed_names (p ∷ l) = p.0 ▹ listed_names l

-- the same of variables of any type, for a guard
abbrev pub NamedListing : List ValueType → Type 0
NamedListing Γ = List (Variable × ((τ : ValueType) × (Γ ∋ τ)))

abbrev pub any_first : {Γ : List ValueType} → Variable → Found Γ → Option (NamedListing Γ) → Option (NamedListing Γ)
any_first u missing l = none
any_first u (found τ x) none = none
any_first u (found τ x) (some l) = some ((u, (τ, x)) ∷ l)

unfoldable pub listed_any : {Γ : List ValueType} → All Name Γ → List Variable → Option (NamedListing Γ)
listed_any scope [] = some []
listed_any scope (u ∷ us) = any_first u (find u scope) (listed_any scope us)

abbrev pub any_pointers : {Γ : List ValueType} → NamedListing Γ → Listing Γ
any_pointers [] = []
any_pointers (p ∷ l) = p.1 ∷ any_pointers l

unfoldable pub any_names : {Γ : List ValueType} → (l : NamedListing Γ) → All Name (listed_types (any_pointers l))
any_names [] = ∅
any_names (p ∷ l) = p.0 ▹ any_names l

-- a typed expression, or why there is none
pub data Typed (Γ : List ValueType) : Type 0 where
  refused : Refusal → Typed Γ
  typed : (τ : ValueType) → Term Γ τ → Typed Γ

-- what a record wants of its names (5), then of their types (6)
abbrev pub demand : {Γ : List ValueType} → Bool → Refusal → Typed Γ → Typed Γ
demand true r t = t
demand false r t = refused r

abbrev pub typed_if : {Γ : List ValueType} {A : Type 0} → (place : ℕ) → Option A → (A → Typed Γ) → Typed Γ
typed_if p none f = refused (WrongType p)
typed_if p (some a) f = f a

abbrev pub typed_sequence : {Γ : List ValueType} → (place : ℕ) → Sequence Γ → ((υ : ValueType) → Γ ∋ braces υ → Typed Γ) → Typed Γ
typed_sequence p no_sequence f = refused (WrongType p)
typed_sequence p (sequence υ x) f = f υ x

abbrev pub typed_then : {Γ Δ : List ValueType} → Typed Γ → ((τ : ValueType) → Term Γ τ → Typed Δ) → Typed Δ
typed_then (refused r) f = refused r
typed_then (typed τ e) f = f τ e

-- Γ ⊢ e : τ, in one walk; the depth of an EA or a GU is told when its body is done
unfoldable pub check : {Γ : List ValueType} → All Name Γ → Raw → Typed Γ
check scope (var p x) = elim (find x scope) [ missing ↦ refused (Unbound p) | found τ v ↦ typed τ (terms.var v) ]
check scope (bind p x e₁ e₂) =
    typed_then (check scope e₁) (λ υ t₁. typed_then (check (x ▹ scope) e₂) (λ τ t₂. typed τ (terms.bind t₁ t₂)))
check scope (const p z) = typed int (terms.const base.Int z)
check scope (truth p c) = typed bool (terms.const base.Bool c)
check scope (iota p x) =
    demand (is_bound (find x scope)) (Unbound p) (typed_if p (as_int (as_scalar (find x scope))) (λ v. typed (braces int) (terms.iota v)))
check scope (operation p o x y) =
    demand (is_bound (find x scope) && is_bound (find y scope)) (Unbound p)
    (typed_if p (as_int (as_scalar (find x scope))) (λ v. typed_if p (as_int (as_scalar (find y scope))) (λ w. typed (scalar (result_of o)) (terms.operation o v w))))
check scope (negation p x) =
    demand (is_bound (find x scope)) (Unbound p) (typed_if p (as_bool (as_scalar (find x scope))) (λ v. typed bool (terms.negation v)))
check scope (sum p x) =
    demand (is_bound (find x scope)) (Unbound p)
    (typed_if p (as_ints (as_sequence (find x scope))) (λ v. typed int (terms.sum v)))
check scope (each p x y us e) =
    demand (is_bound (find y scope) && (usable scope us && not (names x us))) (Unbound p)
    (typed_sequence p (as_sequence (find y scope))
    (λ υ v.
    typed_if p (listed_scalars scope us)
    (λ l.
    typed_then (check (x ▹ listed_names l) e)
    (λ τ t. demand (ltb (depth_of τ) most_depth) (WrongType p) (typed (braces τ) (terms.each v (pointers l) t))))))
check scope (guard p g us e) =
    demand (is_bound (find g scope) && usable scope us) (Unbound p)
    (typed_if p (as_bool (as_scalar (find g scope)))
    (λ v.
    typed_if p (listed_any scope us)
    (λ l.
    typed_then (check (any_names l) e)
    (λ τ t. demand (ltb (depth_of τ) most_depth) (WrongType p) (typed (braces τ) (terms.guard v (any_pointers l) t))))))

-- inputs, first one first, turned into a context, newest first
abbrev pub turned_onto : List ValueType → List ValueType → List ValueType
turned_onto Γ [] = Γ
turned_onto Γ (τ ∷ τs) = turned_onto (τ ∷ Γ) τs

unfoldable pub turned : {P : ValueType → Type 0} {Γ τs : List ValueType} → All P Γ → All P τs → All P (turned_onto Γ τs)
turned ρ ∅ = ρ
turned ρ (p ▹ ps) = turned (p ▹ ρ) ps

-- the type of an input, and of all
abbrev pub input_type : Input → ValueType
input_type i = type_of i.base i.depth

abbrev pub input_types : List Input → List ValueType
input_types [] = []
input_types (i ∷ is) = input_type i ∷ input_types is

-- the context of a formula's expression
abbrev pub context : List Input → List ValueType
context is = turned_onto [] (input_types is)

unfoldable pub input_names : (is : List Input) → All Name (input_types is)
input_names [] = ∅
input_names (i ∷ is) = i.name ▹ input_names is

-- the place of the first input whose name was declared before
unfoldable pub repeated : List Variable → List Input → Option ℕ
repeated seen [] = none
repeated seen (i ∷ is) = elim (names i.name seen) [ true ↦ some i.place | false ↦ repeated (i.name ∷ seen) is ]

-- a formula's expression: a repeated input is told before the expression is walked
abbrev pub check_inputs : {Γ : List ValueType} → Option ℕ → Typed Γ → Typed Γ
check_inputs none t = t
check_inputs (some p) t = refused (Unbound p)

abbrev pub check_formula : (is : List Input) → Raw → Typed (context is)
check_formula is e = check_inputs (repeated [] is) (check (turned ∅ (input_names is)) e)
