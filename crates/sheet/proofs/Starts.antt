-- Where a tree's streams start, read off its words: the loop of tree_starts, and what the starts say of the streams.
use Prim.Native.Nat.{ℕ, zero, suc, ◌+◌, ◌*◌, ◌<◌}
use mathlib.Core.Bool.{Bool, true, false}
use mathlib.Core.List.{List, ◌++◌, map, append_assoc}
use mathlib.Core.Path.{◌≡◌, refl, sym, ap, subst, ◌∙◌}
use native.Mathlib.Omega.{arith}
use borrow.Author.Tests.{eqb-true, eqb-false}
use lib.Dec.{eqb}
use lib.IntN.{ℤ}
use lib.ListN.{length, get_or, set, take, drop}
use lib.Seq.{get_or-set_same, get_or-set_other, get_or-drop, get_or-append-add}
use Rattle.laws.specs.Parts.{part}
use Rattle.environment.specs.declared.machine.Machine.{Machine}
use Rattle.environment.specs.Words.{Place, place_words, tree_words}
use Rattle.environment.proofs.Finding.{length-tree}
use Rattle.snesl.specs.declared.code.Base.{Base}
use Rattle.snesl.specs.Values.{type_of, Val}
use Rattle.snesl.specs.Trees.{Tree, IdTree, leaf, node, map_tree}
use Rattle.snesl.specs.Streams.{data_of, flags, bit}
use Rattle.snesl.specs.Machine.{State}
use Rattle.snesl.specs.Representation.{segments, Holds, holds-leaf, holds-node}
use Rattle.snesl.proofs.Types.{depth-of-type}
use Rattle.steps.specs.Holding.{Held, place}
use Rattle.streams.proofs.Store as store
use Rattle.valuetext.specs.Laying.{cells}
use Rattle.rendering.specs.Standing.{Stands}

-- ---- the loop

pub filled_on : (f : ℕ → ℕ) (l : List ℕ) (i : ℕ) → ((j : ℕ) → j < i → get_or l j 0 ≡ f j) → i < length l
    → (j : ℕ) → j < i + 1 → get_or (set l i (f i)) j 0 ≡ f j
filled_on f l i h k j m = go (eqb j i) refl
  where
    go : (b : Bool) → eqb j i ≡ b → get_or (set l i (f i)) j 0 ≡ f j
    go true e = subst (λ (x : ℕ). get_or (set l i (f i)) x 0 ≡ f x) (sym (eqb-true j i e)) (get_or-set_same l i (f i) 0 k)
    go false e = get_or-set_other l i j (f i) 0 (eqb-false j i e) ∙ h j (omega (arith, eqb-false j i e))

-- ---- the words

-- each place's first number, the data's first
Starts : {d : ℕ} → List ℕ → Tree Place d → Type 0
Starts cs (leaf p) = get_or cs 0 0 ≡ p.first
Starts cs (node {d = d} t p) = Starts cs t × (get_or cs (suc d) 0 ≡ p.first)

starts-of : {d : ℕ} (cs words rest : List ℕ) (t : Tree Place d) → words ≡ tree_words t ++ rest
    → ((i : ℕ) → i < suc d → get_or cs i 0 ≡ get_or words (3 * i + 1) 0)
    → Starts cs t
unfolding Starts tree_words
starts-of cs words rest (leaf p) e h = h 0 (omega arith) ∙ ap (λ (l : List ℕ). get_or l 1 0) e
starts-of cs words rest (node {d = d} t p) e h =
    let apart : words ≡ tree_words t ++ (place_words p ++ rest) = e ∙ append_assoc (tree_words t) (place_words p) rest in
    let at : 3 * suc d + 1 ≡ length (tree_words t) + 1 = omega (arith, length-tree t) in (
      starts-of cs words (place_words p ++ rest) t apart (λ i k. h i (omega arith)),
      h (suc d) (omega arith)
          ∙ (ap (λ (j : ℕ). get_or words j 0) at
          ∙ (ap (λ (l : List ℕ). get_or l (length (tree_words t) + 1) 0) apart ∙ get_or-append-add (tree_words t) (place_words p ++ rest) 1 0)),
    )

-- ---- the streams that start there

module _ {m : State} {buf : List ℤ} {counts : Machine} (h : Held m buf counts) (cs : List ℕ) where
  there : store.Holds buf m.store
  there = record { content = h.contents-are; fits = h.fits }

  stands_of : (β : Base) (d : ℕ) {t : IdTree (type_of β d)} {vs : List (Val (type_of β d))} → Holds m.store (type_of β d) t vs → Starts cs (map_tree (place m.store) t) → Stands β d buf cs vs
  unfolding Starts map_tree Stands part
  stands_of β zero (holds-leaf {s = s} {vs = vs} e) b =
      ap (λ (k : ℕ). take (length (cells β vs)) (drop k buf)) b ∙ (store.stands there s (data_of β vs) e).content
  stands_of β (suc d) (holds-node {s = s} {vs = vs} e k) b = (
    stands_of β d k b.0,
    ap (λ (k : ℕ). take (length (map bit (segments vs))) (drop k buf)) (ap (λ (j : ℕ). get_or cs (suc j) 0) (sym (depth-of-type β d)) ∙ b.1)
        ∙ (store.stands there s (flags (segments vs)) e).content,
  )

pub tree-stands : {m : State} {buf : List ℤ} {counts : Machine} → Held m buf counts
    → (β : Base) (d : ℕ) (t : IdTree (type_of β d)) (vs : List (Val (type_of β d))) → Holds m.store (type_of β d) t vs
    → (env : List ℕ) (from : ℕ) (rest : List ℕ) → drop from env ≡ tree_words (map_tree (place m.store) t) ++ rest
    → (cs : List ℕ) → ((i : ℕ) → i < d + 1 → get_or cs i 0 ≡ get_or env (from + (3 * i + 1)) 0)
    → Stands β d buf cs vs
tree-stands {m} h β d t vs k env from rest w cs s =
    stands_of h cs β d k
    (starts-of cs (drop from env) rest (map_tree (place m.store) t) w
    (λ i l. s i (omega (arith, depth-of-type β d)) ∙ sym (get_or-drop from env (3 * i + 1) 0)))
