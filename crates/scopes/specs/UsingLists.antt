-- A using list, and the scope of its body, over scopes as the code holds them (Scopes.antt): only types are kept. Crate checking's proofs/Judging.antt
-- shows that this is what snesl's `check` does at an EA and at a GU.
use Rattle.std.specs.Prelude.{ℕ, ◌+◌, ◌-◌, Bool, true, false, ◌&&◌, not, List, [], ◌∷◌, ◌++◌, Option, None, Some, Result, Ok, Err, ◌≡◌, eqb, ltb, length, map, is_some, unwrap_or, take, drop}
use Rattle.std.specs.List.{list_all}
use Rattle.snesl.specs.declared.code.Variable.{Variable}
use Rattle.snesl.specs.declared.refusal.Refusal.{Refusal}
use Rattle.snesl.specs.declared.refusal.Refusal.TheVariants.{Unbound, WrongType}
use Rattle.snesl.specs.Checking.{names}
use Rattle.snesl.specs.Values.{int, bool}
use Rattle.scopes.specs.declared.types.ValueType.{ValueType}
use Rattle.scopes.specs.declared.scope.Binding.{Binding}
use Rattle.scopes.specs.Types.{told, same_type}
use Rattle.scopes.specs.Scopes.{type_in}

-- a using list's variables, as its bytes say them
abbrev pub variables : List ℕ → List Variable
variables bs = map (λ b. record { 0 = b }) bs

abbrev pub is_scalar_in : Option ValueType → Bool
is_scalar_in None = false
is_scalar_in (Some d) = eqb d.depth 0

-- the first of some listed variables is bound, and is not listed again
abbrev pub first_usable : List Binding → Variable → List Variable → Bool
first_usable w u us = is_some (type_in u w) && not (names u us)

unfoldable pub usable_in : List Binding → List Variable → Bool
usable_in w [] = true
usable_in w (u ∷ us) = first_usable w u us && usable_in w us

-- an EA's list: none of it is x either
abbrev pub each_usable : List Binding → Variable → List Variable → Bool
each_usable w x us = usable_in w us && not (names x us)

unfoldable pub scalars_in : List Binding → List Variable → Bool
scalars_in w us = list_all (λ u. is_scalar_in (type_in u w)) us

-- the listed variables inside a body, each with the type that it has outside
unfoldable pub listed_in : List Binding → List Variable → List Binding
listed_in w [] = []
listed_in w (u ∷ us) = record { name = u; value_type = unwrap_or (type_in u w) (told int) } ∷ listed_in w us

-- they stand below sp, and all else is as it was
pub record Listed (bindings : List Binding) (sp : ℕ) (old new : List Binding) (r : ℕ) : Type 0 where
  pub at : r + length bindings ≡ sp
  pub below : take r new ≡ take r old
  pub bindings_are : drop r new ≡ bindings ++ drop sp old

-- an EA or GU record up to its body: a refusal, or the body's scope
pub data Body : Type 0 where
  stop : Refusal → Body
  inside : List Binding → Body

-- x is an element of y
abbrev pub element_of : ValueType → ValueType
element_of d = record { base = d.base; depth = d.depth - 1 }

abbrev pub sequence_in : List Binding → (place : ℕ) → Variable → List Variable → Option ValueType → Body
sequence_in w p x us None = stop (Unbound p)
sequence_in w p x us (Some d) =
    elim (ltb 0 d.depth && scalars_in w us)
    [ true ↦ inside (record { name = x; value_type = element_of d } ∷ listed_in w us) | false ↦ stop (WrongType p) ]

unfoldable pub each_in : List Binding → (place : ℕ) → (x y : Variable) → List Variable → Body
each_in w p x y us =
    elim (is_some (type_in y w) && each_usable w x us)
    [ true ↦ sequence_in w p x us (type_in y w) | false ↦ stop (Unbound p) ]

-- a guard's body has the listed variables alone, of whatever type
abbrev pub bool_in : List Binding → (place : ℕ) → List Variable → Option ValueType → Body
bool_in w p us None = stop (Unbound p)
bool_in w p us (Some d) = elim (same_type d (told bool)) [ true ↦ inside (listed_in w us) | false ↦ stop (WrongType p) ]

unfoldable pub guard_in : List Binding → (place : ℕ) → (g : Variable) → List Variable → Body
guard_in w p g us =
    elim (is_some (type_in g w) && usable_in w us) [ true ↦ bool_in w p us (type_in g w) | false ↦ stop (Unbound p) ]

-- the body's scope stands below sp, and all else is as it was
pub record Inside (b : Body) (sp : ℕ) (old new : List Binding) (r : ℕ) : Type 0 where
  pub bindings : List Binding
  pub is : b ≡ inside bindings
  pub at : r + length bindings ≡ sp
  pub below : take r new ≡ take r old
  pub bindings_are : drop r new ≡ bindings ++ drop sp old

pub record Stopped (b : Body) (old new : List Binding) (f : Refusal) : Type 0 where
  pub is : b ≡ stop f
  pub kept : new ≡ old

abbrev pub Prepares : Body → (sp : ℕ) → (old new : List Binding) → Result ℕ Refusal → Type 0
Prepares b sp old new (Err f) = Stopped b old new f
Prepares b sp old new (Ok r) = Inside b sp old new r
