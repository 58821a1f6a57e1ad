-- Trees of depth d (002, 1.3 (1) and 1.4 (1)): of stream ids (STree), of streams (SvVal). A leaf is the data, and each node adds the
-- flags of one brace, outermost last.
use Rattle.std.specs.Prelude.{ℕ, zero, suc, List, [], ◌∷◌, ◌++◌}
use Rattle.snesl.specs.Values.{ValueType, depth_of}

pub data Tree (A : Type 0) : ℕ → Type 0 where
  leaf : A → Tree A 0
  node : {d : ℕ} → Tree A d → A → Tree A (suc d)

-- the ids of a value's streams: how many there are is its type's depth, whatever its base
abbrev pub IdTree : ValueType → Type 0
IdTree τ = Tree ℕ (depth_of τ)

-- (st, s) taken apart
unfoldable pub inner : {A : Type 0} {d : ℕ} → Tree A (suc d) → Tree A d
inner (node t a) = t

unfoldable pub outer : {A : Type 0} {d : ℕ} → Tree A (suc d) → A
outer (node t a) = a

unfoldable pub root : {A : Type 0} → Tree A 0 → A
root (leaf a) = a

-- tree order: data, innermost flags, on to outermost flags
unfoldable pub order : {A : Type 0} {d : ℕ} → Tree A d → List A
order (leaf a) = a ∷ []
order (node t a) = order t ++ a ∷ []

unfoldable pub map_tree : {A B : Type 0} {d : ℕ} → (A → B) → Tree A d → Tree B d
map_tree f (leaf a) = leaf (f a)
map_tree f (node t a) = node (map_tree f t) (f a)

-- the tree whose places, outermost first, are a list's; `other` where the list has run out
unfoldable pub grow : {A : Type 0} → A → (d : ℕ) → List A → Tree A d
grow other zero [] = leaf other
grow other zero (a ∷ l) = leaf a
grow other (suc d) [] = node (grow other d []) other
grow other (suc d) (a ∷ l) = node (grow other d l) a

-- two trees of one depth, place by place
unfoldable pub zip_tree : {A B C : Type 0} {d : ℕ} → (A → B → C) → Tree A d → Tree B d → Tree C d
zip_tree f (leaf a) (leaf b) = leaf (f a b)
zip_tree f (node t a) (node u b) = node (zip_tree f t u) (f a b)
