-- What the store's growth leaves as it is (the place and the kind of every stream in scope), and what a variable's tree says of its streams.
use Prim.Native.Nat.{ℕ, suc, ◌≤◌}
use mathlib.Core.Bool.{Bool}
use mathlib.Core.List.{List, [], ◌∷◌, ◌++◌}
use mathlib.Core.Option.{some}
use mathlib.Core.Path.{◌≡◌, refl, sym, ◌∙◌, ap, ap₂}
use native.Mathlib.Omega.{arith}
use lib.ListN.{length, length-map}
use Rattle.snesl.specs.Limits.{most_depth}
use Rattle.snesl.specs.declared.code.Base.{Base}
use Rattle.snesl.specs.declared.code.Base.TheVariants as base
use Rattle.snesl.specs.Values.{ValueType, scalar, braces, depth_of, Element}
use Rattle.snesl.specs.Terms.{◌∋◌, here, there, All, ◌▹◌, lookup}
use Rattle.snesl.specs.Trees.{Tree, IdTree, leaf, node, root, inner, outer, map_tree}
use Rattle.snesl.specs.Streams.{Stream, flags, kind_of, data_of, data_kind, len, bit, elements, Store, ◌!◌, room}
use Rattle.steps.specs.Holding.{place, start_of, length_in, length_of}
use Rattle.steps.proofs.Stores.{named, kept, start-kept, newest, start-newest}
use Rattle.leaves.specs.Places.{places, Shapely, shapely-leaf, shapely-node, Shaped, shaped-none, shaped-more, Shallow, shallow-more}

-- ---- a data stream of either base

pub data-kind : (b : Base) (vs : List (Element b)) → kind_of (data_of b vs) ≡ data_kind b
data-kind base.Int vs = refl
data-kind base.Bool vs = refl

pub data-full : (b : Base) (vs : List (Element b)) → length (elements (data_of b vs)) ≡ len (data_of b vs)
data-full base.Int vs = refl
data-full base.Bool vs = length-map vs bit

-- ---- the store grows

module _ (σ τ : Store) where
  pub place_kept : (s : ℕ) (a : Stream) → σ ! s ≡ some a → place (σ ++ τ) s ≡ place σ s
  place_kept s a e =
      let p : start_of (σ ++ τ) s ≡ start_of σ s = start-kept σ τ s (omega (arith, named σ s a e)) in
      let q : length_of (σ ++ τ) s ≡ length_of σ s = ap length_in (kept σ τ s a e ∙ sym e) in
      λ i. record { id = s; first = p i; second = q i }

  pub tree-kept : {υ : ValueType} {t : IdTree υ} → Shapely σ υ t → map_tree (place (σ ++ τ)) t ≡ map_tree (place σ) t
  unfolding map_tree
  tree-kept (shapely-leaf {b = b} {s = s} vs e) = ap leaf (place_kept s (data_of b vs) e)
  tree-kept (shapely-node {s = s} bs h e) = ap₂ node (tree-kept h) (place_kept s (flags bs) e)

  pub places-kept : {Γ : List ValueType} {δ : All IdTree Γ} → Shaped σ Γ δ → places (σ ++ τ) δ ≡ places σ δ
  unfolding places
  places-kept shaped-none = refl
  places-kept (shaped-more h s) = ap₂ ◌▹◌ (tree-kept h) (places-kept s)

  pub shapely-kept : {υ : ValueType} {t : IdTree υ} → Shapely σ υ t → Shapely (σ ++ τ) υ t
  shapely-kept (shapely-leaf {b = b} {s = s} vs e) = shapely-leaf vs (kept σ τ s (data_of b vs) e)
  shapely-kept (shapely-node {s = s} bs h e) = shapely-node bs (shapely-kept h) (kept σ τ s (flags bs) e)

  pub shaped-kept : {Γ : List ValueType} {δ : All IdTree Γ} → Shaped σ Γ δ → Shaped (σ ++ τ) Γ δ
  shaped-kept shaped-none = shaped-none
  shaped-kept (shaped-more h s) = shaped-more (shapely-kept h) (shaped-kept s)

-- the newest stream's place
pub place-newest : (σ : Store) (a : Stream) → place (σ ++ a ∷ []) (length σ) ≡ record { id = length σ; first = room σ; second = length_in (some a) }
place-newest σ a =
    let p : start_of (σ ++ a ∷ []) (length σ) ≡ room σ = start-newest σ a in
    let q : length_of (σ ++ a ∷ []) (length σ) ≡ length_in (some a) = ap length_in (newest σ a) in
    λ i. record { id = length σ; first = p i; second = q i }

-- ---- a variable's tree

pub lookup-places : {Γ : List ValueType} {τ : ValueType} → (σ : Store) (v : Γ ∋ τ) (δ : All IdTree Γ) → lookup v (places σ δ) ≡ map_tree (place σ) (lookup v δ)
unfolding lookup places
lookup-places σ here (t ▹ δ) = refl
lookup-places σ (there v) (t ▹ δ) = lookup-places σ v δ

pub lookup-shapely : {σ : Store} {Γ : List ValueType} {δ : All IdTree Γ} {τ : ValueType} → (v : Γ ∋ τ) → Shaped σ Γ δ → Shapely σ τ (lookup v δ)
unfolding lookup
lookup-shapely here (shaped-more h s) = h
lookup-shapely (there v) (shaped-more h s) = lookup-shapely v s

pub lookup-shallow : {Γ : List ValueType} {τ : ValueType} → Γ ∋ τ → Shallow Γ → depth_of τ ≤ most_depth
lookup-shallow here (shallow-more h s) = h
lookup-shallow (there v) (shallow-more h s) = lookup-shallow v s

module _ {A B : Type 0} (f : A → B) where
  pub root-map : (t : Tree A 0) → root (map_tree f t) ≡ f (root t)
  unfolding root map_tree
  root-map (leaf a) = refl

  pub inner-map : {d : ℕ} → (t : Tree A (suc d)) → inner (map_tree f t) ≡ map_tree f (inner t)
  unfolding inner map_tree
  inner-map (node t a) = refl

  pub outer-map : {d : ℕ} → (t : Tree A (suc d)) → outer (map_tree f t) ≡ f (outer t)
  unfolding outer map_tree
  outer-map (node t a) = refl

pub root-data : {σ : Store} {b : Base} {t : Tree ℕ 0} → Shapely σ (scalar b) t → (vs : List (Element b)) × (σ ! root t ≡ some (data_of b vs))
unfolding root
root-data (shapely-leaf vs e) = (vs, e)

pub outer-flags : {σ : Store} {τ : ValueType} {t : IdTree (braces τ)} → Shapely σ (braces τ) t → (bs : List Bool) × (σ ! outer t ≡ some (flags bs))
unfolding outer
outer-flags (shapely-node bs h e) = (bs, e)

pub inner-shapely : {σ : Store} {τ : ValueType} {t : IdTree (braces τ)} → Shapely σ (braces τ) t → Shapely σ τ (inner t)
unfolding inner
inner-shapely (shapely-node bs h e) = h
