-- The words of an entry and of a place, one by one, and how a tree's words become a binding.
use Prim.Native.Nat.{ℕ, suc, ◌+◌, ◌≤◌}
use mathlib.Core.Path.{◌≡◌, refl, sym, ◌∙◌, ap}
use mathlib.Core.List.{List, [], ◌∷◌, ◌++◌, append_assoc}
use native.Mathlib.Nat.{add-zero}
use native.Mathlib.Omega.{arith}
use lib.ListN.{length, get_or, drop}
use lib.Seq.{get_or-take, get_or-drop}
use Rattle.laws.specs.Parts.{part, written}
use Rattle.snesl.specs.declared.code.Variable.{Variable}
use Rattle.snesl.specs.Values.{ValueType, depth_of}
use Rattle.snesl.specs.Terms.{All, ◌▹◌}
use Rattle.snesl.specs.Trees.{Tree, leaf, node, root, inner, outer}
use Rattle.snesl.specs.Checking.{Name}
use Rattle.environment.specs.Words.{Place, PlaceTree, place_words, tree_words, tree_size, spelled, Entry}
use Rattle.environment.proofs.Stack.{part-front, part-back, from-written}
use Rattle.environment.proofs.Finding.{length-tree}

-- the three words of a place
module _ (env : List ℕ) (q : ℕ) (a : Place) (e : part q 3 env ≡ place_words a) where
  word : (i : ℕ) → suc i ≤ 3 → get_or env (q + i) 0 ≡ get_or (place_words a) i 0
  unfolding part
  word i h = sym (get_or-drop q env i 0) ∙ (sym (get_or-take 3 (drop q env) i 0 h) ∙ ap (λ l. get_or l i 0) e)

  pub id-is : get_or env q 0 ≡ a.id
  id-is = ap (λ k. get_or env k 0) (sym (add-zero q)) ∙ word 0 (omega arith)

  pub first-is : get_or env (q + 1) 0 ≡ a.first
  first-is = word 1 (omega arith)

  pub second_is : get_or env (q + 2) 0 ≡ a.second
  second_is = word 2 (omega arith)

-- the words of a tree taken apart
pub root-words : (t : Tree Place 0) → tree_words t ≡ place_words (root t)
unfolding tree_words root
root-words (leaf a) = refl

outer-words : {d : ℕ} → (t : Tree Place (suc d)) → tree_words t ≡ tree_words (inner t) ++ place_words (outer t)
unfolding tree_words inner outer
outer-words (node t a) = refl

module _ {env : List ℕ} {sp p : ℕ} where
  pub leaf-place : {t : Tree Place 0} → Entry env sp p t → part (p + 2) 3 env ≡ place_words (root t)
  leaf-place {t} e = e.words ∙ root-words t

  module _ {d : ℕ} {t : Tree Place (suc d)} (e : Entry env sp p t) where
    halves : part (p + 2) (tree_size d + 3) env ≡ tree_words (inner t) ++ place_words (outer t)
    halves =
        let more : tree_size d + 3 ≡ tree_size (suc d) = omega arith in
        ap (λ n. part (p + 2) n env) more ∙ (e.words ∙ outer-words t)

    pub inner-words : part (p + 2) (tree_size d) env ≡ tree_words (inner t)
    inner-words = part-front env (p + 2) (tree_size d) 3 (tree_words (inner t)) (place_words (outer t)) halves (length-tree (inner t))

    pub outer-place : part (p + 2 + tree_size d) 3 env ≡ place_words (outer t)
    outer-place = part-back env (p + 2) (tree_size d) 3 (tree_words (inner t)) (place_words (outer t)) halves (length-tree (inner t))

-- A tree's words with a name and a depth put below them are a binding.
pub bound : {Γ : List ValueType} → (τ : ValueType) (env : List ℕ) (at : ℕ) (x : Variable) (names : All Name Γ) (t : PlaceTree τ) (trees : All PlaceTree Γ)
    (rest : List ℕ) → at + 2 ≤ length env → drop (at + 2) env ≡ tree_words t ++ (spelled names trees ++ rest)
    → drop at (written at (x.0 ∷ depth_of τ ∷ []) env) ≡ spelled (x ▹ names) (◌▹◌ {τ = τ} t trees) ++ rest
unfolding spelled
bound τ env at x names t trees rest h e =
    from-written env at (x.0 ∷ depth_of τ ∷ []) h
    ∙ (ap (λ l. x.0 ∷ depth_of τ ∷ l) e ∙ ap (λ l. x.0 ∷ depth_of τ ∷ l) (sym (append_assoc (tree_words t) (spelled names trees) rest)))
