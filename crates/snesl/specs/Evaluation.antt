-- The evaluation rules (002, 1.1.3), with 01's range and sum, and 001's bools and restricted comprehension. `none`: the rules give no value.
use Rattle.std.specs.Prelude.{ℕ, zero, suc, Bool, true, false, not, List, [], ◌∷◌, ℤ, pos, negsuc, ◌+ℤ◌}
use Rattle.std.proofs.Math.Option.{Option, some, none}
use Rattle.std.specs.Int.Signed.{le_z}
use Rattle.snesl.specs.declared.code.Operation.{Operation}
use Rattle.snesl.specs.declared.code.Operation.TheVariants.{Plus, LessEqual, Equal}
use Rattle.snesl.specs.Values.{ValueType, Element, Val, in_range, total, result_of, equal_z}
use Rattle.snesl.specs.Terms.{Term, var, bind, const, iota, operation, negation, sum, each, guard, All, ◌▹◌, lookup, any_type, listed}

-- what holds of a value if there is one
abbrev pub and_then : {A B : Type 0} → Option A → (A → Option B) → Option B
and_then none f = none
and_then (some a) f = f a

-- a result that is in range, else no value
abbrev pub within : ℤ → Option ℤ
within z = elim (in_range z) [ true ↦ some z | false ↦ none ]

-- k, k + 1, .., n of them
unfoldable pub counting : ℕ → ℕ → List ℤ
counting k zero = []
counting k (suc n) = pos k ∷ counting (suc k) n

-- the values of all items, if each has one
unfoldable pub all_of : {A B : Type 0} → (A → Option B) → List A → Option (List B)
all_of f [] = some []
all_of f (x ∷ xs) = and_then (f x) (λ b. and_then (all_of f xs) (λ bs. some (b ∷ bs)))

-- iota(n) ↓ {0, 1, .., n-1} for n ≥ 0, each in range: for an n in range they all are
abbrev pub up_to : ℤ → Option (List ℤ)
up_to (pos n) = all_of within (counting 0 n)
up_to (negsuc n) = none

-- ⊕(n1, n2) for a scalar operation on ints
abbrev pub operated : (o : Operation) → ℤ → ℤ → Option (Element (result_of o))
operated Plus x y = within (x +ℤ y)
operated LessEqual x y = some (le_z x y)
operated Equal x y = some (equal_z x y)

-- a sequence of one where a guard is true, else an empty one
abbrev pub one_if : {A : Type 0} → Bool → A → List A
one_if false a = []
one_if true a = a ∷ []

-- ρ ⊢ e ↓ v
unfoldable pub eval : {Γ : List ValueType} {τ : ValueType} → Term Γ τ → All Val Γ → Option (Val τ)
eval (var x) ρ = some (lookup x ρ)
eval (bind e₁ e₂) ρ = and_then (eval e₁ ρ) (λ v. eval e₂ (v ▹ ρ))
eval (const b e) ρ = some e
eval (iota x) ρ = up_to (lookup x ρ)
eval (operation o x y) ρ = operated o (lookup x ρ) (lookup y ρ)
eval (negation x) ρ = some (not (lookup x ρ))
eval (sum x) ρ = within (total (lookup x ρ))
eval (each y us e) ρ = all_of (λ v. eval e (v ▹ listed (any_type us) ρ)) (lookup y ρ)
eval (guard g us e) ρ = all_of (λ ρ'. eval e ρ') (one_if (lookup g ρ) (listed us ρ))
