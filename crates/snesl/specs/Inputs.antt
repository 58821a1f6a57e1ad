-- A job's inputs as streams (01, "Translation" and refusals 7 and 9): ids run up from 0, each input as data, innermost flags, on to outermost flags.
use Rattle.std.specs.Prelude.{ℕ, zero, suc, ◌+◌, ◌-◌, true, false, List, [], ◌∷◌, ◌++◌, leb, length}
use Rattle.std.proofs.Math.Option.{Option, some, none}
use Rattle.snesl.specs.Values.{ValueType, depth_of, Val}
use Rattle.snesl.specs.Terms.{All, ∅, ◌▹◌}
use Rattle.snesl.specs.Trees.{Tree, IdTree, leaf, node, order}
use Rattle.snesl.specs.Streams.{Store, room}
use Rattle.snesl.specs.Representation.{represent}
use Rattle.snesl.specs.Text.{value_of}
use Rattle.snesl.specs.Records.{Input, Span}
use Rattle.snesl.specs.Finder.{span_of}
use Rattle.snesl.specs.Checking.{input_type, input_types}

-- the tree of an input of depth d whose data has id s
unfoldable pub input_tree : (s d : ℕ) → Tree ℕ d
input_tree s zero = leaf s
input_tree s (suc d) = node (input_tree s d) (s + suc d)

-- the trees of inputs of these types, from id s on
unfoldable pub input_trees : (s : ℕ) → (τs : List ValueType) → All IdTree τs
input_trees s [] = ∅
input_trees s (τ ∷ τs) = input_tree s (depth_of τ) ▹ input_trees (s + suc (depth_of τ)) τs

-- the first id behind inputs of these types
unfoldable pub input_start : List ValueType → ℕ
input_start [] = 0
input_start (τ ∷ τs) = suc (depth_of τ) + input_start τs

-- the values of all inputs, or the offset of the VA record of the first whose text is none of its type
pub data Values (τs : List ValueType) : Type 0 where
  wrong : (place : ℕ) → Values τs
  right : All Val τs → Values τs

abbrev pub value_first : {τ : ValueType} {τs : List ValueType} → (place : ℕ) → Option (Val τ) → Values τs → Values (τ ∷ τs)
value_first p none vs = wrong p
value_first p (some v) (wrong q) = wrong q
value_first p (some v) (right vs) = right (v ▹ vs)

-- a VA record's text starts four bytes behind its mark
unfoldable pub input_values : (job : List ℕ) → (is : List Input) → List Span → Values (input_types is)
input_values t [] ss = right ∅
input_values t (i ∷ is) [] = wrong (length t)
input_values t (i ∷ is) (s ∷ ss) = value_first (s.start - 4) (value_of (input_type i) (span_of t s)) (input_values t is ss)

-- the streams of inputs with these values, in id order
unfoldable pub input_streams : {τs : List ValueType} → All Val τs → Store
input_streams ∅ = []
input_streams (◌▹◌ {τ = τ} v vs) = order (represent τ (v ∷ [])) ++ input_streams vs

-- the first id of the first input with which the room passes a cap, from id s on where so much is held already
unfoldable pub input_over : {τs : List ValueType} → (cap held s : ℕ) → All Val τs → Option ℕ
input_over cap held s ∅ = none
input_over cap held s (◌▹◌ {τ = τ} v vs) =
    let more = held + room (order (represent τ (v ∷ []))) in
    elim (leb more cap) [ true ↦ input_over cap more (s + suc (depth_of τ)) vs | false ↦ some s ]
