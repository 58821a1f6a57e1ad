-- 002's environments, mappings from variables (Γ, ρ and δ), as they are made up: nothing, or one variable more, which hides an older one of its name.
use Rattle.std.specs.Prelude.{List, [], ◌∷◌, ◌≡◌}
use Rattle.snesl.specs.declared.code.Variable.{Variable}
use Rattle.snesl.specs.Values.{ValueType}
use Rattle.snesl.specs.Terms.{All, ∅, ◌▹◌}
use Rattle.snesl.specs.Checking.{Name}

pub data Env (A : Type 0) : Type 0 where
  nothing : Env A
  named : Variable → A → Env A → Env A

-- Γ(x) = a: the newest variable of that name counts
pub data Maps {A : Type 0} : Env A → Variable → A → Type 0 where
  newest : {x y : Variable} {a : A} {Γ : Env A} → x ≡ y → Maps (named y a Γ) x a
  older : {x y : Variable} {a b : A} {Γ : Env A} → (x ≡ y → ⊥) → Maps Γ x a → Maps (named y b Γ) x a

-- Γ(x1) = a1, .., Γ(xk) = ak
pub data MapsAll {A : Type 0} (Γ : Env A) : List Variable → List A → Type 0 where
  maps_none : MapsAll Γ [] []
  maps-more : {x : Variable} {xs : List Variable} {a : A} {as' : List A} → Maps Γ x a → MapsAll Γ xs as' → MapsAll Γ (x ∷ xs) (a ∷ as')

-- [(xi ↦ ai)] for a using list x1, .., xj: what Γ maps each to, if that is as it must be
pub data Listed {A : Type 0} (Must : A → Type 0) (Γ : Env A) : List Variable → Env A → Type 0 where
  listed-none : Listed Must Γ [] nothing
  listed_more : {u : Variable} {us : List Variable} {a : A} {Δ : Env A}
      → Maps Γ u a
      → Must a
      → Listed Must Γ us Δ
      → Listed Must Γ (u ∷ us) (named u a Δ)

-- the mapping of names to what stands beside them in a context, with f applied to each
unfoldable pub env_of : {P : ValueType → Type 0} {A : Type 0} {Γ : List ValueType} → ((τ : ValueType) → P τ → A) → All Name Γ → All P Γ → Env A
env_of f ∅ ∅ = nothing
env_of f (◌▹◌ {τ = τ} x scope) (p ▹ ps) = named x (f τ p) (env_of f scope ps)
