-- Ids on the stack, one after another.
use Prim.Native.Nat.{ℕ, zero, suc, ◌+◌, ◌*◌, ◌≤◌, ◌<◌}
use native.Mathlib.Omega.{arith}
use native.Mathlib.Numerals.{add-one}
use mathlib.Core.List.{List, [], ◌∷◌, ◌++◌}
use mathlib.Core.Path.{◌≡◌, refl, sym, ap, ◌∙◌}
use lib.ListN.{length, get_or, drop, length-append, drop_of_length-le}
use lib.Seq.{drop-cons, get_or-drop, get_or-take}
use Rattle.laws.specs.Parts.{part}
use Rattle.snesl.specs.Trees.{Tree, leaf, node, order, map_tree}
use Rattle.sink.specs.Between.{lesser, least}
use Rattle.environment.specs.Words.{place_words, tree_words}
use Rattle.sink.specs.Trees.{Placing, id_words, IdsAt}

-- the id at i
word_at : (p : Placing) (ids : List ℕ) (i : ℕ) → i < length ids → get_or (id_words p ids) (3 * i) 0 ≡ get_or ids i 0
unfolding id_words
word_at p [] i h = absurd (omega arith)
word_at p (s ∷ ids) zero h = p.named s
word_at p (s ∷ ids) (suc i) h =
    let e : 3 * suc i ≡ suc (suc (suc (3 * i))) = omega arith in
    ap (λ n. get_or (place_words (p.place s) ++ id_words p ids) n 0) e ∙ word_at p ids i (omega arith)

module _ {env : List ℕ} {q count : ℕ} (g : IdsAt env q count) where
  pub id-at : (i : ℕ) → i < count → get_or env (q + 3 * i) 0 ≡ get_or g.ids i 0
  unfolding part
  id-at i h =
      sym (get_or-drop q env (3 * i) 0)
      ∙ (sym (get_or-take (3 * count) (drop q env) (3 * i) 0 (omega arith))
      ∙ (ap (λ l. get_or l (3 * i) 0) g.words ∙ word_at g.placing g.ids i (omega (arith, g.number))))

  -- a search that has come to i
  pub record Sought (lo hi i best : ℕ) : Type 0 where
    pub so_far : least lo hi g.ids ≡ least lo best (drop i g.ids)

  pub search-start : {lo hi : ℕ} → Sought lo hi 0 hi
  search-start = record { so_far = refl }

  pub search-turn : {lo hi i best next : ℕ} → Sought lo hi i best → i < count → next ≡ lesser lo best (get_or env (q + 3 * i) 0) → Sought lo hi (i + 1) next
  unfolding least
  search-turn {lo} {hi} {i} {best} {next} s h e =
      record {
        so_far =
            s.so_far
            ∙ (ap (least lo best) (drop-cons g.ids i 0 (omega (arith, g.number)) ∙ ap (λ m. get_or g.ids i 0 ∷ drop m g.ids) (sym (add-one i)))
            ∙ ap (λ m. least lo m (drop (i + 1) g.ids)) (sym (e ∙ ap (lesser lo best) (id-at i h))));
      }

  pub search-end : {lo hi i best : ℕ} → Sought lo hi i best → count ≤ i → best ≡ least lo hi g.ids
  unfolding least
  search-end {lo} {i = i} {best = best} s h =
      let past : length g.ids ≤ i = omega (arith, g.number) in
      sym (s.so_far ∙ ap (least lo best) (drop_of_length-le g.ids past))

-- the words of a tree are those of its ids in order
ids-append : (p : Placing) (ss ts : List ℕ) → id_words p (ss ++ ts) ≡ id_words p ss ++ id_words p ts
unfolding id_words
ids-append p [] ts = refl
ids-append p (s ∷ ss) ts = ap (λ l. place_words (p.place s) ++ l) (ids-append p ss ts)

pub tree-ids : (p : Placing) {d : ℕ} (t : Tree ℕ d) → tree_words (map_tree p.place t) ≡ id_words p (order t)
unfolding tree_words map_tree order id_words
tree-ids p (leaf s) = refl
tree-ids p (node t s) = ap (λ l. l ++ place_words (p.place s)) (tree-ids p t) ∙ sym (ids-append p (order t) (s ∷ []))

pub length-order : {d : ℕ} (t : Tree ℕ d) → length (order t) ≡ d + 1
unfolding order
length-order (leaf s) = refl
length-order (node t s) = length-append (order t) (s ∷ []) ∙ omega (arith, length-order t)
