-- Streams one after another with their lengths (01, "Representation by itself"): a row of d + 1 streams and a tree of depth d say the same, so a value turned
-- into such a row and back, and an accepted row turned into a value and back, are unchanged.
use Prim.Native.Nat.{ℕ, suc, ◌+◌}
use native.Mathlib.Omega.{arith}
use mathlib.Core.List.{List, [], ◌∷◌, ◌++◌, map}
use mathlib.Core.Option.{none}
use mathlib.Core.Path.{◌≡◌, refl, ap, ◌∙◌}
use lib.IntN.{ℤ}
use lib.ListN.{length, take, drop, length-append, length-drop, length-map, take-append-drop}
use lib.Seq.{take-append_seam, drop-append_seam, length-take-le}
use Rattle.snesl.specs.Values.{ValueType, depth_of, base_of, Val}
use Rattle.snesl.specs.Streams.{elements}
use Rattle.snesl.specs.Machine.{sum_of}
use Rattle.snesl.specs.Trees.{Tree, order}
use Rattle.snesl.specs.Representation.{concat, represent, laid, streams_of, misfit_tree, values, parts, tree_of}
use Rattle.snesl.proofs.Representing.Trees.{order-map_tree, length-order, grow-order, order-grow}
use Rattle.snesl.proofs.Representing.Representation.{accepted, values-represent, one-represented}

-- streams put together and cut at their lengths are themselves
parts-concat : (ls : List (List ℤ)) → parts (map length ls) (concat ls) ≡ ls
unfolding parts concat
parts-concat [] = refl
parts-concat (l ∷ ls) = rw (take-append_seam, drop-append_seam) (ap (λ r. l ∷ r) (parts-concat ls))

sum_of-lengths : (ls : List (List ℤ)) → sum_of (map length ls) ≡ length (concat ls)
unfolding sum_of concat
sum_of-lengths [] = refl
sum_of-lengths (l ∷ ls) = rw length-append (ap (λ n. length l + n) (sum_of-lengths ls))

-- what is cut at lengths that add up to it, put together, is itself
concat-parts : (ns : List ℕ) (zs : List ℤ) → sum_of ns ≡ length zs → concat (parts ns zs) ≡ zs
unfolding parts concat sum_of
concat-parts [] [] h = refl
concat-parts [] (z ∷ zs) h = absurd (omega arith)
concat-parts (n ∷ ns) zs h =
    ap (λ r. take n zs ++ r) (concat-parts ns (drop n zs) (omega (arith, length-drop n zs))) ∙ take-append-drop n zs

lengths-parts : (ns : List ℕ) (zs : List ℤ) → sum_of ns ≡ length zs → map length (parts ns zs) ≡ ns
unfolding parts sum_of
lengths-parts [] zs h = refl
lengths-parts (n ∷ ns) zs h = λ i. length-take-le n zs (omega arith) i ∷ lengths-parts ns (drop n zs) (omega (arith, length-drop n zs)) i

length-parts : (ns : List ℕ) (zs : List ℤ) → length (parts ns zs) ≡ length ns
unfolding parts
length-parts [] zs = refl
length-parts (n ∷ ns) zs = ap suc (length-parts ns (drop n zs))

module _ {d : ℕ} (t : Tree (List ℤ) d) where
  -- a tree's streams in a row, as a tree
  pub tree-of-row : tree_of d (map length (order t)) (concat (order t)) ≡ t
  tree-of-row = rw parts-concat (grow-order [] t)

  pub lengths-of-row : length (map length (order t)) ≡ suc d
  lengths-of-row = length-map (order t) length ∙ length-order t

  pub total-of-row : sum_of (map length (order t)) ≡ length (concat (order t))
  total-of-row = sum_of-lengths (order t)

module _ (d : ℕ) (ls : List ℕ) (zs : List ℤ) (count : length ls ≡ suc d) (total : sum_of ls ≡ length zs) where
  order-tree_of : order (tree_of d ls zs) ≡ parts ls zs
  order-tree_of = order-grow [] d (parts ls zs) (length-parts ls zs ∙ count)

  -- a row's tree, in a row
  pub row-of-tree : concat (order (tree_of d ls zs)) ≡ zs
  row-of-tree = ap concat order-tree_of ∙ concat-parts ls zs total

  pub lengths-of-tree : map length (order (tree_of d ls zs)) ≡ ls
  lengths-of-tree = ap (map length) order-tree_of ∙ lengths-parts ls zs total

-- streams to a value to streams
module _ (τ : ValueType) (ls : List ℕ) (zs : List ℤ) (count : length ls ≡ suc (depth_of τ)) (total : sum_of ls ≡ length zs) where
  pub streams-again : misfit_tree (base_of τ) 1 (tree_of (depth_of τ) ls zs) ≡ none
      → (v : Val τ) × (values τ (tree_of (depth_of τ) ls zs) ≡ v ∷ []) × (concat (streams_of τ v) ≡ zs) × (map length (streams_of τ v) ≡ ls)
  streams-again h =
      let one = one-represented τ (tree_of (depth_of τ) ls zs) h in (
        one.value,
        one.given,
        ap (λ t. concat (order t)) one.streams ∙ row-of-tree (depth_of τ) ls zs count total,
        ap (λ t. map length (order t)) one.streams ∙ lengths-of-tree (depth_of τ) ls zs count total,
      )

-- a value to streams to a value
module _ (τ : ValueType) (v : Val τ) where
  pub value-streams : streams_of τ v ≡ map elements (order (represent τ (v ∷ [])))
  value-streams = order-map_tree elements (represent τ (v ∷ []))

  pub value-tree : tree_of (depth_of τ) (map length (streams_of τ v)) (concat (streams_of τ v)) ≡ laid (represent τ (v ∷ []))
  value-tree = tree-of-row (laid (represent τ (v ∷ [])))

  pub value-accepted : misfit_tree (base_of τ) 1 (tree_of (depth_of τ) (map length (streams_of τ v)) (concat (streams_of τ v))) ≡ none
  value-accepted = ap (misfit_tree (base_of τ) 1) value-tree ∙ accepted τ (v ∷ [])

  pub value-again : values τ (tree_of (depth_of τ) (map length (streams_of τ v)) (concat (streams_of τ v))) ≡ v ∷ []
  value-again = ap (values τ) value-tree ∙ values-represent τ (v ∷ [])
