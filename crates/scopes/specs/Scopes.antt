-- The scope of a check as the code holds it: the variables with their types, newest first.
use Rattle.std.specs.Prelude.{ℕ, ◌+◌, ◌-◌, List, ◌∷◌, Option, option_map, find, ◌≡◌, take, drop}
use Rattle.snesl.specs.declared.code.Variable.{Variable}
use Rattle.snesl.specs.Checking.{same}
use Rattle.scopes.specs.declared.types.ValueType.{ValueType}
use Rattle.scopes.specs.declared.scope.Binding.{Binding}

-- the variables from sp to the floor
abbrev pub scope : (sp floor : ℕ) → List Binding → List Binding
scope sp floor env = take (floor - sp) (drop sp env)

-- the type of the newest variable of a name
unfoldable pub type_in : Variable → List Binding → Option ValueType
type_in x w = option_map (λ b. b.value_type) (find (λ b. same x b.name) w)

-- one variable more below sp, and all else as it was
pub record Pushed (old : List Binding) (sp : ℕ) (b : Binding) (new : List Binding) (r : ℕ) : Type 0 where
  pub at : r + 1 ≡ sp
  pub below : take r new ≡ take r old
  pub bindings : drop r new ≡ b ∷ drop sp old
