-- The run's environment: each stream as its id, where it starts in the stream buffer and how long it is, all of which its id and the store say.
use Rattle.std.specs.Prelude.{ℕ, suc, ◌+◌, ◌*◌, ◌≤◌, Bool, List, [], ◌∷◌, ◌≡◌}
use Rattle.std.proofs.Math.Option.{some}
use Rattle.snesl.specs.Limits.{most_inputs, most_nesting, most_depth}
use Rattle.snesl.specs.declared.code.Base.{Base}
use Rattle.snesl.specs.Values.{ValueType, scalar, braces, depth_of, Element}
use Rattle.snesl.specs.Terms.{All, ∅, ◌▹◌}
use Rattle.snesl.specs.Trees.{IdTree, leaf, node, map_tree}
use Rattle.snesl.specs.Streams.{data_of, flags, Store, ◌!◌}
use Rattle.environment.specs.Words.{PlaceTree}
use Rattle.steps.specs.Holding.{place}

unfoldable pub places : {Γ : List ValueType} → Store → All IdTree Γ → All PlaceTree Γ
places σ ∅ = ∅
places σ (t ▹ δ) = map_tree (place σ) t ▹ places σ δ

-- the leaf of a tree names data of its type's base in the store, and each node flags
pub data Shapely (σ : Store) : (τ : ValueType) → IdTree τ → Type 0 where
  shapely-leaf : {b : Base} {s : ℕ} → (vs : List (Element b)) → σ ! s ≡ some (data_of b vs) → Shapely σ (scalar b) (leaf s)
  shapely-node : {τ : ValueType} {s : ℕ} {t : IdTree τ} → (bs : List Bool) → Shapely σ τ t → σ ! s ≡ some (flags bs) → Shapely σ (braces τ) (node t s)

pub data Shaped (σ : Store) : (Γ : List ValueType) → All IdTree Γ → Type 0 where
  shaped-none : Shaped σ [] ∅
  shaped-more : {τ : ValueType} {Γ : List ValueType} {t : IdTree τ} {δ : All IdTree Γ} → Shapely σ τ t → Shaped σ Γ δ → Shaped σ (τ ∷ Γ) (◌▹◌ {τ = τ} t δ)

-- no variable's type is deeper than is allowed
pub data Shallow : List ValueType → Type 0 where
  shallow-none : Shallow []
  shallow-more : {τ : ValueType} {Γ : List ValueType} → depth_of τ ≤ most_depth → Shallow Γ → Shallow (τ ∷ Γ)

-- How many words below sp the walk of an expression may take that has so many nestings left, its result's tree among them: a GU takes three words for its flags and
-- twenty-nine for each of eight listed variables (two and a tree of depth 8); an EA takes sixty-nine, and a LT twenty-nine. While the innermost GU packs, below them
-- stand the bools spread over each of eight levels.
abbrev pub words_for : (levels : ℕ) → ℕ
words_for levels = 235 * levels + 24

-- How many words a whole formula needs: those of its expression, with one level more than the nestings allowed, and a binding of depth 8 for each input.
abbrev pub most_words : ℕ
most_words = words_for (suc most_nesting) + most_inputs * 29
