-- The first scene of a listing: the inputs as empty streams of their kinds, which take no room, so that each stands at 0 and is 0 long.
use Prim.Native.Nat.{ℕ, zero, suc, ◌+◌}
use native.Mathlib.Omega.{arith}
use mathlib.Core.List.{List, [], ◌∷◌, ◌++◌, append_assoc, append-nil}
use mathlib.Core.Option.{some}
use mathlib.Core.Path.{◌≡◌, refl, sym, ap, ap₂, ◌∙◌, subst}
use lib.ListN.{length, take, length-append}
use Rattle.snesl.specs.declared.code.Kind.{Kind}
use Rattle.snesl.specs.declared.code.Kind.TheVariants.{Ints, Bools, Flags, Units}
use Rattle.snesl.specs.declared.code.Base.{Base}
use Rattle.snesl.specs.declared.code.Base.TheVariants as base
use Rattle.snesl.specs.Values.{ValueType, scalar, braces, depth_of}
use Rattle.snesl.specs.Terms.{All, ∅, ◌▹◌}
use Rattle.snesl.specs.Trees.{Tree, IdTree, leaf, node, map_tree}
use Rattle.snesl.specs.Streams.{flags, data_of, len, bare, Store, ◌!◌, contents}
use Rattle.snesl.specs.Checking.{turned_onto, turned}
use Rattle.snesl.specs.Inputs.{input_tree, input_trees, input_start}
use Rattle.steps.specs.Holding.{place, start_of, length_of}
use Rattle.steps.proofs.Stores.{newest}
use Rattle.leaves.specs.Places.{places, Shapely, shapely-leaf, shapely-node, Shaped, shaped-more}
use Rattle.leaves.proofs.Places.{shapely-kept, shaped-kept}
use Rattle.lister.specs.Inputs.{placed, places_of, places_in}
use Rattle.lister.specs.Lists.{Bare, bare-none, bare-more}

-- no element is held
nothing : (k : Kind) (σ : Store) → contents (bare k ∷ σ) ≡ contents σ
unfolding contents
nothing Ints σ = refl
nothing Bools σ = refl
nothing Flags σ = refl
nothing Units σ = refl

empty : (k : Kind) → len (bare k) ≡ 0
empty Ints = refl
empty Bools = refl
empty Flags = refl
empty Units = refl

pub bare-contents : {σ : Store} → Bare σ → contents σ ≡ []
unfolding contents
bare-contents bare-none = refl
bare-contents (bare-more {σ = σ} k b) = nothing k σ ∙ bare-contents b

bare-start : {σ : Store} (s : ℕ) → Bare σ → start_of σ s ≡ 0
unfolding contents
bare-start zero b = refl
bare-start (suc s) bare-none = refl
bare-start (suc s) (bare-more {σ = σ} k b) = ap length (nothing k (take s σ)) ∙ bare-start s b

bare-length : {σ : Store} (s : ℕ) → Bare σ → length_of σ s ≡ 0
bare-length s bare-none = refl
bare-length zero (bare-more k b) = empty k
bare-length (suc s) (bare-more k b) = bare-length s b

pub bare-place : {σ : Store} → Bare σ → (s : ℕ) → place σ s ≡ placed s
bare-place b s =
    let p = bare-start s b in
    let q = bare-length s b in
    λ i. record { id = s; first = p i; second = q i }

bare-tree : {σ : Store} → Bare σ → {d : ℕ} (t : Tree ℕ d) → map_tree (place σ) t ≡ places_of t
unfolding map_tree
bare-tree b (leaf s) = ap leaf (bare-place b s)
bare-tree b (node t s) = ap₂ node (bare-tree b t) (bare-place b s)

pub bare-places : {σ : Store} → Bare σ → {Γ : List ValueType} (δ : All IdTree Γ) → places σ δ ≡ places_in δ
unfolding places places_in
bare-places b ∅ = refl
bare-places b (t ▹ δ) = ap₂ ◌▹◌ (bare-tree b t) (bare-places b δ)

-- ---- the streams of inputs of these types: data of an input's base, and flags
bare_tree : ValueType → Store
bare_tree (scalar b) = data_of b [] ∷ []
bare_tree (braces τ) = bare_tree τ ++ flags [] ∷ []

pub bare_inputs : List ValueType → Store
bare_inputs [] = []
bare_inputs (τ ∷ τs) = bare_tree τ ++ bare_inputs τs

bare-append : {σ τ : Store} → Bare σ → Bare τ → Bare (σ ++ τ)
bare-append bare-none c = c
bare-append (bare-more k b) c = bare-more k (bare-append b c)

data-bare : (b : Base) → Bare (data_of b [] ∷ [])
data-bare base.Int = bare-more Ints bare-none
data-bare base.Bool = bare-more Bools bare-none

tree-bare : (τ : ValueType) → Bare (bare_tree τ)
unfolding bare_tree
tree-bare (scalar b) = data-bare b
tree-bare (braces τ) = bare-append (tree-bare τ) (bare-more Flags bare-none)

pub inputs-bare : (τs : List ValueType) → Bare (bare_inputs τs)
unfolding bare_inputs
inputs-bare [] = bare-none
inputs-bare (τ ∷ τs) = bare-append (tree-bare τ) (inputs-bare τs)

tree-long : (τ : ValueType) → length (bare_tree τ) ≡ suc (depth_of τ)
unfolding bare_tree
tree-long (scalar b) = refl
tree-long (braces τ) = length-append (bare_tree τ) (flags [] ∷ []) ∙ omega (arith, tree-long τ)

pub inputs_long : (τs : List ValueType) → length (bare_inputs τs) ≡ input_start τs
unfolding bare_inputs input_start
inputs_long [] = refl
inputs_long (τ ∷ τs) = length-append (bare_tree τ) (bare_inputs τs) ∙ ap₂ (λ (a b : ℕ). a + b) (tree-long τ) (inputs_long τs)

-- one input's tree behind some streams
tree-shapely : (σ : Store) (υ : ValueType) → Shapely (σ ++ bare_tree υ) υ (input_tree (length σ) (depth_of υ))
unfolding bare_tree input_tree
tree-shapely σ (scalar b) = shapely-leaf {b = b} [] (newest σ (data_of b []))
tree-shapely σ (braces υ) =
    let d = depth_of υ in
    let ρ : Store = σ ++ bare_tree υ in
    let long : length ρ ≡ length σ + suc d = length-append σ (bare_tree υ) ∙ ap (λ n. length σ + n) (tree-long υ) in
    let there : (ρ ++ flags [] ∷ []) ! (length σ + suc d) ≡ some (flags []) = ap (λ s. (ρ ++ flags [] ∷ []) ! s) (sym long) ∙ newest ρ (flags []) in
    subst (λ τ. Shapely τ (braces υ) (node (input_tree (length σ) d) (length σ + suc d))) (append_assoc σ (bare_tree υ) (flags [] ∷ []))
    (shapely-node {τ = υ} [] (shapely-kept ρ (flags [] ∷ []) (tree-shapely σ υ)) there)

-- all of them, the first one's binding on top
pub inputs-shaped : (σ : Store) {Γ : List ValueType} (δ : All IdTree Γ) → Shaped σ Γ δ → (s : ℕ) → length σ ≡ s → (υs : List ValueType)
    → Shaped (σ ++ bare_inputs υs) (turned_onto Γ υs) (turned δ (input_trees s υs))
unfolding bare_inputs input_trees turned
inputs-shaped σ {Γ} δ h s e [] = subst (λ τ. Shaped τ Γ δ) (sym (append-nil σ)) h
inputs-shaped σ {Γ} δ h s e (υ ∷ υs) =
    let d = depth_of υ in
    let ρ : Store = σ ++ bare_tree υ in
    let δ₂ : All IdTree (υ ∷ Γ) = ◌▹◌ {τ = υ} (input_tree s d) δ in
    let long : length ρ ≡ s + suc d = length-append σ (bare_tree υ) ∙ omega (arith, tree-long υ) in
    let first : Shapely ρ υ (input_tree s d) = subst (λ n. Shapely ρ υ (input_tree n d)) e (tree-shapely σ υ) in
    subst (λ τ. Shaped τ (turned_onto (υ ∷ Γ) υs) (turned δ₂ (input_trees (s + suc d) υs))) (append_assoc σ (bare_tree υ) (bare_inputs υs))
    (inputs-shaped ρ δ₂ (shaped-more {τ = υ} first (shaped-kept σ (bare_tree υ) h)) (s + suc d) long υs)
