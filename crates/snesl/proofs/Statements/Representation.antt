-- What is proved of values, their streams and their text. The definitions that the statements name are those of specs/; the proofs are beside this folder.
use Prim.Native.Nat.{ℕ, suc, ◌≤◌}
use mathlib.Core.Bool.{true, false}
use mathlib.Core.List.{List, [], ◌∷◌, ◌++◌, map}
use mathlib.Core.Logic.{◌↔◌}
use mathlib.Core.Option.{some, none}
use mathlib.Core.Path.{◌≡◌}
use lib.IntN.{ℤ}
use lib.ListN.{length, get_or, take}
use lib.Signed.{le_z}
use Rattle.snesl.specs.Values.{ValueType, int, depth_of, base_of, Val, in_range, InRange}
use Rattle.snesl.specs.Streams.{Store, ◌!◌, ◌then◌, elements}
use Rattle.snesl.specs.Machine.{sum_of}
use Rattle.snesl.specs.Trees.{Tree, IdTree, order, map_tree, zip_tree}
use Rattle.snesl.specs.Representation.{concat, represent, laid, streams_of, Holds, misfit_tree, values, tree_of}
use Rattle.snesl.specs.Text.{show, is_digit, read_value, value_of}
use Rattle.snesl.proofs.Texts.Range as Range
use Rattle.snesl.proofs.Representing.Representation as Representation
use Rattle.snesl.proofs.Representing.StreamRows as StreamRows
use Rattle.snesl.proofs.Texts.TextRoundTrip as TextRoundTrip

-- 1. Values to streams. The streams of n values are accepted as those of n values, and give the values back.
pub values-are-accepted : (τ : ValueType) (vs : List (Val τ)) → misfit_tree (base_of τ) (length vs) (laid (represent τ vs)) ≡ none
values-are-accepted = Representation.accepted

pub values-come-back : (τ : ValueType) (vs : List (Val τ)) → values τ (laid (represent τ vs)) ≡ vs
values-come-back = Representation.values-represent

-- 002, Lemma 1.10: streams determine the values.
pub streams-determine-values : (τ : ValueType) (vs ws : List (Val τ)) → represent τ vs ≡ represent τ ws → vs ≡ ws
streams-determine-values = Representation.determined

-- 2. Streams to values. Streams that are accepted as those of n values are the streams of n values, those that they give back;
pub accepted-streams-come-back : (τ : ValueType) (n : ℕ) (t : Tree (List ℤ) (depth_of τ)) → misfit_tree (base_of τ) n t ≡ none
    → (length (values τ t) ≡ n) × (laid (represent τ (values τ t)) ≡ t)
accepted-streams-come-back = Representation.represented

-- and those accepted as one value's are the streams of exactly one value.
pub accepted-streams-are-one-value : (τ : ValueType) (t : Tree (List ℤ) (depth_of τ)) → misfit_tree (base_of τ) 1 t ≡ none → Representation.OneValue τ t
accepted-streams-are-one-value = Representation.one-represented

-- 3. Streams in a row, with their lengths. A value's streams, laid one after another in tree order, are accepted and give the value back;
pub value-to-row-to-value : (τ : ValueType) (v : Val τ)
    → (length (map length (streams_of τ v)) ≡ suc (depth_of τ))
    × (sum_of (map length (streams_of τ v)) ≡ length (concat (streams_of τ v)))
    × (tree_of (depth_of τ) (map length (streams_of τ v)) (concat (streams_of τ v)) ≡ laid (represent τ (v ∷ [])))
    × (misfit_tree (base_of τ) 1 (tree_of (depth_of τ) (map length (streams_of τ v)) (concat (streams_of τ v))) ≡ none)
    × (values τ (tree_of (depth_of τ) (map length (streams_of τ v)) (concat (streams_of τ v))) ≡ v ∷ [])
value-to-row-to-value τ v = (
  StreamRows.lengths-of-row (laid (represent τ (v ∷ []))),
  StreamRows.total-of-row (laid (represent τ (v ∷ []))),
  StreamRows.value-tree τ v,
  StreamRows.value-accepted τ v,
  StreamRows.value-again τ v,
)

-- where a value's streams are those of its tree, data first and outermost flags last;
pub streams-in-tree-order : (τ : ValueType) (v : Val τ) → streams_of τ v ≡ map elements (order (represent τ (v ∷ [])))
streams-in-tree-order = StreamRows.value-streams

-- and a row of d + 1 streams, whose lengths add up, is the row of its tree; if it is accepted, its value's streams are that row again.
pub row-to-tree-to-row : (d : ℕ) (ls : List ℕ) (zs : List ℤ) → length ls ≡ suc d → sum_of ls ≡ length zs
    → (concat (order (tree_of d ls zs)) ≡ zs) × (map length (order (tree_of d ls zs)) ≡ ls)
row-to-tree-to-row d ls zs count total = (StreamRows.row-of-tree d ls zs count total, StreamRows.lengths-of-tree d ls zs count total)

pub row-to-value-to-row : (τ : ValueType) (ls : List ℕ) (zs : List ℤ) → length ls ≡ suc (depth_of τ) → sum_of ls ≡ length zs → misfit_tree (base_of τ) 1 (tree_of (depth_of τ) ls zs) ≡ none
    → (v : Val τ) × (values τ (tree_of (depth_of τ) ls zs) ≡ v ∷ []) × (concat (streams_of τ v) ≡ zs) × (map length (streams_of τ v) ≡ ls)
row-to-value-to-row = StreamRows.streams-again

-- 4. The store. A tree of ids holds values exactly where the store has their streams at its ids, and holds one list of values at most.
pub holds-exactly : (σ : Store) (τ : ValueType) (st : IdTree τ) (vs : List (Val τ))
    → Holds σ τ st vs ↔ (map_tree (λ s. σ ! s) st ≡ map_tree some (represent τ vs))
holds-exactly σ τ st vs = (Representation.holds-streams, Representation.streams-held σ τ st vs)

pub holds-once : {σ : Store} {τ : ValueType} {st : IdTree τ} {vs ws : List (Val τ)} → Holds σ τ st vs → Holds σ τ st ws → vs ≡ ws
holds-once = Representation.held-once

-- 5. 002, 1.4 (2): values put together have their streams put together, place by place; also as they stand in a buffer.
pub streams-put-together : (τ : ValueType) (vs ws : List (Val τ)) → represent τ (vs ++ ws) ≡ zip_tree ◌then◌ (represent τ vs) (represent τ ws)
streams-put-together = Representation.represent-append

pub laid-put-together : (τ : ValueType) (vs ws : List (Val τ))
    → laid (represent τ (vs ++ ws)) ≡ zip_tree ◌++◌ (laid (represent τ vs)) (laid (represent τ ws))
laid-put-together = Representation.laid-append

-- 6. Values to text. The text of a value in range is read back as that value and no byte more. Only an int's text could run on into what follows.
pub shown-is-read : (τ : ValueType) (v : Val τ) → InRange τ v → (rest : List ℕ) → (τ ≡ int → is_digit (get_or rest 0 0) ≡ false)
    → read_value τ (show τ v ++ rest) ≡ some (v, length (show τ v))
shown-is-read = TextRoundTrip.read-shown

-- 7. Text to values. What is read was the text of that value, which is in range.
pub read-was-shown : (τ : ValueType) (t : List ℕ) (v : Val τ) (n : ℕ) → read_value τ t ≡ some (v, n)
    → (n ≤ length t) × (take n t ≡ show τ v) × InRange τ v
read-was-shown = TextRoundTrip.shown_read

-- So a text is accepted exactly if it is the text of a value in range, and as that value;
pub accepted-text : (τ : ValueType) (t : List ℕ) (v : Val τ) → (value_of τ t ≡ some v) ↔ ((t ≡ show τ v) × InRange τ v)
accepted-text = TextRoundTrip.value-of-exactly

-- and no two values, in range or not, have one text.
pub text-determines-value : (τ : ValueType) (v w : Val τ) → show τ v ≡ show τ w → v ≡ w
text-determines-value = TextRoundTrip.show-injective

-- The range is -2,147,483,648 to 2,147,483,647.
pub range-is-32-bits : (z : ℤ) → (in_range z ≡ true) ↔ ((le_z Range.least_int z ≡ true) × (le_z z Range.greatest_int ≡ true))
range-is-32-bits = Range.range-exactly
