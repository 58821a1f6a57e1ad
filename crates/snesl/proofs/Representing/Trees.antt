-- Trees and their places in a row: what is done at each place is done in the row, and a tree and the row of its d + 1 places determine one another.
use Prim.Native.Nat.{ℕ, zero, suc}
use native.Mathlib.Omega.{arith}
use mathlib.Core.List.{List, [], ◌∷◌, ◌++◌, map, map-append, reverse, reverse-cons, reverse-append, reverse-reverse}
use mathlib.Core.Path.{◌≡◌, refl, sym, ap, ◌∙◌}
use lib.ListN.{length, length-append, length-reverse}
use Rattle.snesl.specs.Trees.{Tree, leaf, node, order, map_tree, grow}

module _ {A B C : Type 0} where
  -- one thing done at each place after another
  pub map_tree-map_tree : {d : ℕ} (g : B → C) (f : A → B) (t : Tree A d) → map_tree g (map_tree f t) ≡ map_tree (λ a. g (f a)) t
  unfolding map_tree
  map_tree-map_tree g f (leaf a) = refl
  map_tree-map_tree g f (node t a) = ap (λ u. node u (g (f a))) (map_tree-map_tree g f t)

pub map_tree-id : {A : Type 0} {d : ℕ} (t : Tree A d) → map_tree (λ (a : A). a) t ≡ t
unfolding map_tree
map_tree-id (leaf a) = refl
map_tree-id (node t a) = ap (λ u. node u a) (map_tree-id t)

pub order-map_tree : {A B : Type 0} {d : ℕ} (f : A → B) (t : Tree A d) → order (map_tree f t) ≡ map f (order t)
unfolding map_tree order
order-map_tree f (leaf a) = refl
order-map_tree f (node t a) = rw (order-map_tree f t, map-append)

module _ {A : Type 0} where
  pub length-order : {d : ℕ} (t : Tree A d) → length (order t) ≡ suc d
  unfolding order
  length-order (leaf a) = refl
  length-order (node {d = d} t a) = length-append (order t) (a ∷ []) ∙ omega (arith, length-order t)

  -- the tree of its own places
  pub grow-order : (other : A) {d : ℕ} (t : Tree A d) → grow other d (reverse (order t)) ≡ t
  unfolding grow order
  grow-order other (leaf a) = refl
  grow-order other (node {d = d} t a) = ap (grow other (suc d)) (reverse-append (order t) (a ∷ [])) ∙ ap (λ u. node u a) (grow-order other t)

  order-grow-outermost : (other : A) (d : ℕ) (l : List A) → length l ≡ suc d → order (grow other d l) ≡ reverse l
  unfolding grow order
  order-grow-outermost other zero [] h = absurd (omega arith)
  order-grow-outermost other zero (a ∷ []) h = refl
  order-grow-outermost other zero (a ∷ b ∷ l) h = absurd (omega arith)
  order-grow-outermost other (suc d) [] h = absurd (omega arith)
  order-grow-outermost other (suc d) (a ∷ l) h = ap (λ r. r ++ a ∷ []) (order-grow-outermost other d l (omega arith)) ∙ sym (reverse-cons a l)

  -- the places of the tree that d + 1 things make
  pub order-grow : (other : A) (d : ℕ) (l : List A) → length l ≡ suc d → order (grow other d (reverse l)) ≡ l
  order-grow other d l h = order-grow-outermost other d (reverse l) (length-reverse l ∙ h) ∙ reverse-reverse l
