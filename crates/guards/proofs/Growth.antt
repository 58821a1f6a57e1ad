-- A tree's streams while the store grows, and a place on the stack while words are written beside it.
use Prim.Native.Nat.{ℕ, suc, ◌<◌}
use mathlib.Core.List.{List, [], ◌∷◌, ◌++◌}
use mathlib.Core.Option.{some}
use mathlib.Core.Logic.{⊎_elim}
use mathlib.Core.Path.{◌≡◌, refl, sym, ◌∙◌, ap, ap₂, subst}
use lib.ListN.{length, length-map}
use Rattle.laws.proofs.Never.{never}
use Rattle.laws.specs.Parts.{part}
use Rattle.snesl.specs.declared.code.Base.{Base}
use Rattle.snesl.specs.declared.code.Base.TheVariants as base
use Rattle.snesl.specs.declared.code.Kind.{Kind}
use Rattle.snesl.specs.declared.code.Kind.TheVariants.{Flags, Units}
use Rattle.snesl.specs.Trees.{Tree, leaf, node, root, inner, outer, order, map_tree}
use Rattle.snesl.specs.Streams.{Stream, ints, bools, flags, units, bit, kind_of, len, elements, data_kind, base_in, Store, ◌!◌}
use Rattle.snesl.specs.Ids.{Below}
use Rattle.environment.specs.Words.{place_words}
use Rattle.steps.specs.Holding.{place, PlacedAt}
use Rattle.steps.proofs.Stores.{named, kept}
use Rattle.leaves.proofs.Places.{place_kept}
use Rattle.guards.specs.Packs.{Kinds, kinds-leaf, kinds-node}

-- ---- kinds of streams

pub data-solid : (c : Base) → data_kind c ≡ Units → ⊥
data-solid base.Int e = never (cc)
data-solid base.Bool e = never (cc)

-- all but units stand in the buffer element by element
pub solid-full : (a : Stream) → (kind_of a ≡ Units → ⊥) → length (elements a) ≡ len a
solid-full (ints zs) h = refl
solid-full (bools cs) h = length-map cs bit
solid-full (flags bs) h = length-map bs bit
solid-full (units n) h = absurd (h refl)

pub base-is : (a : Stream) (c : Base) → kind_of a ≡ data_kind c → base_in (some a) ≡ c
base-is (ints zs) base.Int e = refl
base-is (ints zs) base.Bool e = never (cc)
base-is (bools cs) base.Int e = never (cc)
base-is (bools cs) base.Bool e = refl
base-is (flags bs) base.Int e = never (cc)
base-is (flags bs) base.Bool e = never (cc)
base-is (units n) base.Int e = never (cc)
base-is (units n) base.Bool e = never (cc)

-- ---- the store grows

module _ (σ τ : Store) where
  pub kinds_kept : {c : Base} {d : ℕ} {t : Tree ℕ d} → Kinds σ c d t → Kinds (σ ++ τ) c d t
  kinds_kept (kinds-leaf {s = s} a e h) = kinds-leaf a (kept σ τ s a e) h
  kinds_kept (kinds-node {s = s} a k e h) = kinds-node a (kinds_kept k) (kept σ τ s a e) h

  pub words-kept : {c : Base} {d : ℕ} {t : Tree ℕ d} → Kinds σ c d t → map_tree (place (σ ++ τ)) t ≡ map_tree (place σ) t
  unfolding map_tree
  words-kept (kinds-leaf {s = s} a e h) = ap leaf (place_kept σ τ s a e)
  words-kept (kinds-node {s = s} a k e h) = ap₂ node (words-kept k) (place_kept σ τ s a e)

-- a tree taken apart
pub kinds-root : {σ : Store} {c : Base} {t : Tree ℕ 0} → Kinds σ c 0 t → (a : Stream) × (σ ! root t ≡ some a) × (kind_of a ≡ data_kind c)
unfolding root
kinds-root (kinds-leaf a e h) = (a, e, h)

pub kinds-outer : {σ : Store} {c : Base} {d : ℕ} {t : Tree ℕ (suc d)} → Kinds σ c (suc d) t → (a : Stream) × (σ ! outer t ≡ some a) × (kind_of a ≡ Flags)
unfolding outer
kinds-outer (kinds-node a k e h) = (a, e, h)

pub kinds-inner : {σ : Store} {c : Base} {d : ℕ} {t : Tree ℕ (suc d)} → Kinds σ c (suc d) t → Kinds σ c d (inner t)
unfolding inner
kinds-inner (kinds-node a k e h) = k

-- a tree's ids are those of streams that there are
pub kinds-below : {σ : Store} {c : Base} {d : ℕ} {t : Tree ℕ d} → Kinds σ c d t → Below (length σ) (order t)
unfolding order
kinds-below {σ} (kinds-leaf {s = s} a e h) u m =
    subst (λ i. i < length σ) (sym (mathlib.Core.List.Memᴰ.eq_of_singleton m)) (named σ s a e)
kinds-below {σ} (kinds-node {s = s} {t = t} a k e h) u m =
    ⊎_elim (λ i. kinds-below k u i) (λ i. subst (λ j. j < length σ) (sym (mathlib.Core.List.Memᴰ.eq_of_singleton i)) (named σ s a e))
    (mathlib.Core.List.Memᴰ.append_cases (order t) m)

-- ---- a place

pub moved : {σ : Store} (τ : Store) {ρ : Store} {env env' : List ℕ} {c : Kind} {s q : ℕ} → PlacedAt σ env c s q → ρ ≡ σ ++ τ → part q 3 env' ≡ part q 3 env → PlacedAt ρ env' c s q
moved {σ} τ {ρ} {env} {env'} {c} {s} {q} o e w =
    record {
      stream = o.stream;
      there = ap (λ χ. χ ! s) e ∙ kept σ τ s o.stream o.there;
      kind = o.kind;
      words = w ∙ (o.words ∙ ap place_words (sym (ap (λ χ. place χ s) e ∙ place_kept σ τ s o.stream o.there)));
    }

pub place-later : (σ τ : Store) {ρ : Store} (s : ℕ) {a : Stream} → σ ! s ≡ some a → ρ ≡ σ ++ τ → place ρ s ≡ place σ s
place-later σ τ s {a} h e = ap (λ χ. place χ s) e ∙ place_kept σ τ s a h
