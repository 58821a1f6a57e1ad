-- A tree's words and text taken apart by its depth, which the code knows as a number: a leaf, or a tree and its flags.
use Prim.Native.Nat.{ℕ, suc, ◌+◌, ◌-◌, ◌*◌, ◌<◌, ◌^◌}
use native.Mathlib.Omega.{arith}
use mathlib.Core.List.{List, [], ◌∷◌, ◌++◌}
use mathlib.Core.Path.{◌≡◌, refl, sym, ap, ◌∙◌, subst}
use lib.ListN.{get_or}
use Rattle.laws.specs.Parts.{part}
use Rattle.snesl.specs.Ascii.{ascii, pieces}
use Rattle.snesl.specs.Trees.{Tree, leaf, node, map_tree}
use Rattle.snesl.specs.Listing.{id_text, tree_text}
use Rattle.decimals.specs.Writing.{Writes}
use Rattle.decimals.proofs.Stores.{writes_then}
use Rattle.lines.specs.Counting.{Countable}
use Rattle.lines.proofs.Writing.{countable-is, countable-first, countable-next, writes-is}
use Rattle.environment.specs.Words.{place_words, tree_words, tree_size}
use Rattle.environment.proofs.Finding.{length-tree}
use Rattle.environment.proofs.Stack.{part-front, part-back}
use Rattle.environment.proofs.Entries.{id-is}
use Rattle.sink.specs.Trees.{Placing, TreeAt}

record Leaf (p : Placing) {d : ℕ} (t : Tree ℕ d) : Type 0 where
  id : ℕ
  words : tree_words (map_tree p.place t) ≡ place_words (p.place id)
  text : tree_text t ≡ id_text id

leaf-of : (p : Placing) {d : ℕ} (t : Tree ℕ d) → d ≡ 0 → Leaf p t
unfolding tree_words map_tree tree_text
leaf-of p (leaf s) e = record { id = s; words = refl; text = refl }
leaf-of p (node t s) e = absurd (omega arith)

record Node (p : Placing) {d : ℕ} (t : Tree ℕ d) (n : ℕ) : Type 0 where
  below : Tree ℕ n
  id : ℕ
  words : tree_words (map_tree p.place t) ≡ tree_words (map_tree p.place below) ++ place_words (p.place id)
  text : tree_text t ≡ pieces (ascii "(" ∷ tree_text below ∷ ascii "," ∷ id_text id ∷ ascii ")" ∷ [])

node_of : (p : Placing) {d : ℕ} (t : Tree ℕ d) → (d ≡ 0 → ⊥) → Node p t (d - 1)
unfolding tree_words map_tree tree_text
node_of p (leaf s) e = absurd (e refl)
node_of p (node {d = d} t s) e =
    let q : d ≡ suc d - 1 = omega arith in
    subst (λ n. Node p (node t s) n) q (record { below = t; id = s; words = refl; text = refl })

module _ {env : List ℕ} {q d at : ℕ} (g : TreeAt env q d at) where
  -- an int
  module _ (z : d ≡ 0) where
    only : Leaf g.placing g.tree
    only = leaf-of g.placing g.tree z

    leaf-id : get_or env q 0 ≡ only.id
    leaf-id =
        let n : 3 ≡ tree_size d = omega arith in
        id-is env q (g.placing.place only.id) (ap (λ m. part q m env) n ∙ (g.words ∙ only.words))
        ∙ g.placing.named only.id

    pub leaf-countable : Countable at (id_text (get_or env q 0))
    leaf-countable = countable-is (only.text ∙ ap id_text (sym leaf-id)) g.countable

    pub leaf-writes : {old new : List ℕ} {r : ℕ} → Writes old new at (id_text (get_or env q 0)) r → Writes old new at (tree_text g.tree) r
    leaf-writes w = writes-is (only.text ∙ ap id_text (sym leaf-id)) w

  -- a sequence
  module _ (z : d ≡ 0 → ⊥) where
    both : Node g.placing g.tree (d - 1)
    both = node_of g.placing g.tree z

    halves : part q (tree_size (d - 1) + 3) env ≡ tree_words (map_tree g.placing.place both.below) ++ place_words (g.placing.place both.id)
    halves =
        let n : tree_size (d - 1) + 3 ≡ tree_size d = omega arith in
        ap (λ m. part q m env) n ∙ (g.words ∙ both.words)

    node-id : get_or env (q + 3 * d) 0 ≡ both.id
    node-id =
        let n : q + 3 * d ≡ q + tree_size (d - 1) = omega arith in
        ap (λ m. get_or env m 0) n
        ∙ id-is env (q + tree_size (d - 1)) (g.placing.place both.id)
        (part-back env q (tree_size (d - 1)) 3 (tree_words (map_tree g.placing.place both.below)) (place_words (g.placing.place both.id)) halves (length-tree (map_tree g.placing.place both.below)))
        ∙ g.placing.named both.id

    whole : Countable at (pieces (ascii "(" ∷ tree_text both.below ∷ ascii "," ∷ id_text both.id ∷ ascii ")" ∷ []))
    whole = countable-is both.text g.countable

    pub open-countable : at + 1 < 2 ^ 64
    open-countable = omega (arith, (countable-first (ascii "(") _ whole).end)

    module _ {old a : List ℕ} {x : ℕ} (w₁ : Writes old a at (ascii "(") x) where
      rest₁ : Countable x (pieces (tree_text both.below ∷ ascii "," ∷ id_text both.id ∷ ascii ")" ∷ []))
      rest₁ = countable-next {u = ascii "("} {v = pieces (tree_text both.below ∷ ascii "," ∷ id_text both.id ∷ ascii ")" ∷ [])} whole w₁

      pub inner-at : TreeAt env q (d - 1) x
      inner-at =
          record {
            tree = both.below;
            placing = g.placing;
            words = part-front env q (tree_size (d - 1)) 3 (tree_words (map_tree g.placing.place both.below)) (place_words (g.placing.place both.id)) halves (length-tree (map_tree g.placing.place both.below));
            within = omega (arith, g.within);
            countable = countable-first (tree_text both.below) _ rest₁;
          }

      module _ {b : List ℕ} {y : ℕ} (f : (h : TreeAt env q (d - 1) x) → Writes a b x (tree_text h.tree) y) where
        w₂ : Writes a b x (tree_text both.below) y
        unfolding inner-at
        w₂ = f inner-at

        rest₂ : Countable y (pieces (ascii "," ∷ id_text both.id ∷ ascii ")" ∷ []))
        rest₂ = countable-next rest₁ w₂

        pub comma-countable : y + 1 < 2 ^ 64
        comma-countable = omega (arith, (countable-first (ascii ",") _ rest₂).end)

        module _ {c : List ℕ} {v : ℕ} (w₃ : Writes b c y (ascii ",") v) where
          rest₃ : Countable v (pieces (id_text both.id ∷ ascii ")" ∷ []))
          rest₃ = countable-next {u = ascii ","} {v = pieces (id_text both.id ∷ ascii ")" ∷ [])} rest₂ w₃

          pub id-countable : Countable v (id_text (get_or env (q + 3 * d) 0))
          id-countable = countable-is (ap id_text (sym node-id)) (countable-first (id_text both.id) _ rest₃)

          module _ {e : List ℕ} {u : ℕ} (w₄ : Writes c e v (id_text (get_or env (q + 3 * d) 0)) u) where
            w₄' : Writes c e v (id_text both.id) u
            w₄' = writes-is (ap id_text (sym node-id)) w₄

            pub close-countable : u + 1 < 2 ^ 64
            close-countable = omega (arith, (countable-next {v = ascii ")"} rest₃ w₄').end)

            pub node-writes : {new : List ℕ} {r : ℕ} → Writes e new u (ascii ")") r → Writes old new at (tree_text g.tree) r
            node-writes w₅ = writes-is both.text (writes_then w₁ (writes_then w₂ (writes_then w₃ (writes_then w₄' w₅))))
