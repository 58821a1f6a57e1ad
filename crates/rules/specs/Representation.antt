-- The representation rules (002, 1.4 (4)): which streams, as a tree (SvVal), a value is.
use Rattle.std.specs.Prelude.{Bool, true, false, List, [], ◌∷◌, ◌≡◌, ℤ}
use Rattle.snesl.specs.Values as types
use Rattle.snesl.specs.Values.{ValueType, scalar, depth_of}
use Rattle.snesl.specs.Streams.{Stream, ints, bools, flags, data_of, ◌then◌}
use Rattle.snesl.specs.Trees.{Tree, leaf, node, zip_tree}
use Rattle.rules.specs.Values.{Value, Values, int, bool, braces, empty, item}

-- the concatenation of no trees of streams: each stream is ⟨⟩
unfoldable pub no_streams : (τ : ValueType) → Tree Stream (depth_of τ)
no_streams (scalar b) = leaf (data_of b [])
no_streams (types.braces τ) = node (no_streams τ) (flags [])

-- ⟨F1, .., Fk, T⟩ for v1, .., vk
pub data Ends : Values → List Bool → Type 0 where
  ends-none : Ends empty (true ∷ [])
  ends_more : {v : Value} {vs : Values} {bs : List Bool} → Ends vs bs → Ends (item v vs) (false ∷ bs)

-- v ▷ w, and v1 ▷ w1, .., vk ▷ wk with w = w1 ++ .. ++ wk
mutual
  pub data Represents : (τ : ValueType) → Value → Tree Stream (depth_of τ) → Type 0 where
    represents-int : {n : ℤ} → Represents types.int (int n) (leaf (ints (n ∷ [])))
    represents-bool : {c : Bool} → Represents types.bool (bool c) (leaf (bools (c ∷ [])))
    represents-braces : {τ : ValueType} {vs : Values} {w : Tree Stream (depth_of τ)} {bs : List Bool}
        → RepresentsAll τ vs w
        → Ends vs bs
        → Represents (types.braces τ) (braces vs) (node w (flags bs))

  pub data RepresentsAll : (τ : ValueType) → Values → Tree Stream (depth_of τ) → Type 0 where
    represents-none : {τ : ValueType} {w : Tree Stream (depth_of τ)} → w ≡ no_streams τ → RepresentsAll τ empty w
    represents-more : {τ : ValueType} {v : Value} {vs : Values} {w w₁ w₂ : Tree Stream (depth_of τ)}
        → Represents τ v w₁
        → RepresentsAll τ vs w₂
        → w ≡ zip_tree ◌then◌ w₁ w₂
        → RepresentsAll τ (item v vs) w
