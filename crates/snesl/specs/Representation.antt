-- Values as streams and back (002, 1.4; 01, "Representation by itself"), for a list of values side by side: one value is a list of one.
use Rattle.std.specs.Prelude.{ℕ, suc, Bool, true, false, ◌&&◌, List, [], ◌∷◌, ◌++◌, map, reverse, ◌≡◌, eqb, ℤ, length, replicate, take, drop}
use Rattle.std.proofs.Math.Option.{Option, some, none}
use Rattle.snesl.specs.declared.code.Base.{Base}
use Rattle.snesl.specs.declared.code.Base.TheVariants as base
use Rattle.snesl.specs.Values.{ValueType, scalar, braces, depth_of, Element, Val}
use Rattle.snesl.specs.Streams.{Stream, flags, data_of, elements, Store, ◌!◌}
use Rattle.snesl.specs.Trees.{Tree, IdTree, leaf, node, order, map_tree, grow}
use Rattle.snesl.specs.Transducers.{flag_of, bool_of, misfit, count_f, alone}

unfoldable pub concat : {A : Type 0} → List (List A) → List A
concat [] = []
concat (l ∷ ls) = l ++ concat ls

-- ⟨F1, .., Fk, T⟩ for each sequence of k items
unfoldable pub segments : {A : Type 0} → List (List A) → List Bool
segments [] = []
segments (l ∷ ls) = replicate (length l) false ++ true ∷ segments ls

-- v1 ▷ w1, .., vn ▷ wn, with w1 ++ .. ++ wn
unfoldable pub represent : (τ : ValueType) → List (Val τ) → Tree Stream (depth_of τ)
represent (scalar b) vs = leaf (data_of b vs)
represent (braces τ) vs = node (represent τ (concat vs)) (flags (segments vs))

-- a tree of streams as it stands in a stream buffer
abbrev pub laid : {d : ℕ} → Tree Stream d → Tree (List ℤ) d
laid t = map_tree elements t

-- the d + 1 streams of one value, in tree order, as they stand in a stream buffer
abbrev pub streams_of : (τ : ValueType) → Val τ → List (List ℤ)
streams_of τ v = order (laid (represent τ (v ∷ [])))

-- the streams that a tree names in a store are those of these values: vs ▷ σ(st)
pub data Holds (σ : Store) : (τ : ValueType) → IdTree τ → List (Val τ) → Type 0 where
  holds-leaf : {b : Base} {s : ℕ} {vs : List (Element b)} → σ ! s ≡ some (data_of b vs) → Holds σ (scalar b) (leaf s) vs
  holds-node : {τ : ValueType} {s : ℕ} {st : IdTree τ} {vs : List (List (Val τ))}
      → σ ! s ≡ some (flags (segments vs))
      → Holds σ τ st (concat vs)
      → Holds σ (braces τ) (node st s) vs

-- An element of a data stream in a buffer is one of its base: any number is an int, 0 and 1 are bools.
abbrev pub is_flag : Option Bool → Bool
is_flag none = false
is_flag (some c) = true

abbrev pub is_element : Base → ℤ → Bool
is_element base.Int z = true
is_element base.Bool z = is_flag (flag_of z)

unfoldable pub are_elements : Base → List ℤ → Bool
are_elements b [] = true
are_elements b (z ∷ zs) = is_element b z && are_elements b zs

-- the scalars that such elements are
abbrev pub scalars : (b : Base) → List ℤ → List (Element b)
scalars base.Int zs = zs
scalars base.Bool zs = map bool_of zs

-- The tree number, data 0, of the first stream, outermost first, that does not fit n values: flags that are not n segments and nothing else, or
-- data that is not one element of the base for each.
unfoldable pub misfit_tree : {d : ℕ} → Base → (n : ℕ) → Tree (List ℤ) d → Option ℕ
misfit_tree b n (leaf zs) = elim (eqb (length zs) n && are_elements b zs) [ true ↦ none | false ↦ some 0 ]
misfit_tree b n (node {d = d} t fs) =
    elim (misfit flag_of {B = ℤ} alone 0 n fs [])
    [ none ↦ misfit_tree b (count_f flag_of fs) t | some k ↦ some (suc d) ]

-- the items segment by segment; those so far in the segment stand first
unfoldable pub regroup : {A B : Type 0} → (A → Option Bool) → List B → List A → List B → List (List B)
regroup flag sofar [] xs = []
regroup flag sofar (b ∷ bs) xs =
    elim (flag b) [
      | none ↦ []
      | some c ↦ elim c [ true ↦ sofar ∷ regroup flag [] bs xs | false ↦ regroup flag (sofar ++ take 1 xs) bs (drop 1 xs) ]
    ]

-- the values that fitting streams represent
unfoldable pub values : (τ : ValueType) → Tree (List ℤ) (depth_of τ) → List (Val τ)
values (scalar b) (leaf zs) = scalars b zs
values (braces τ) (node t fs) = regroup flag_of [] fs (values τ t)

-- the elements of each stream, where these are the lengths
unfoldable pub parts : List ℕ → List ℤ → List (List ℤ)
parts [] zs = []
parts (n ∷ ns) zs = take n zs ∷ parts ns (drop n zs)

-- d + 1 streams one after another, as a tree
abbrev pub tree_of : (d : ℕ) (lengths : List ℕ) (zs : List ℤ) → Tree (List ℤ) d
tree_of d lengths zs = grow [] d (reverse (parts lengths zs))
