-- A tree's packing, from that of its outermost level, the survey of its items, and their packing.
use Prim.Native.Nat.{ℕ, ◌+◌, ◌-◌, ◌≤◌}
use mathlib.Core.List.{List, ◌++◌}
use mathlib.Core.Logic.{◌⊎◌, inl, inr, ⊎_elim}
use mathlib.Core.Path.{◌≡◌, refl, sym, ◌∙◌, ap, subst}
use native.Mathlib.Omega.{arith}
use lib.IntN.{ℤ}
use lib.ListN.{length, drop}
use Rattle.std.specs.Prelude.{Ok, Err, Result as Returned}
use Rattle.laws.proofs.Never.{never}
use Rattle.laws.specs.Parts.{part, written}
use Rattle.snesl.specs.declared.code.Base.{Base}
use Rattle.snesl.specs.declared.code.Instruction.TheVariants.{Close}
use Rattle.snesl.specs.declared.refusal.Refusal.{Refusal}
use Rattle.snesl.specs.Trees.{Tree, leaf, node, order, map_tree}
use Rattle.snesl.specs.Streams.{◌!◌}
use Rattle.snesl.specs.Programs.{dv, fv, among, ascending}
use Rattle.snesl.specs.Machine.{State, Result, went, stopped}
use Rattle.snesl.specs.Outcome.{refusal_of}
use Rattle.snesl.specs.Translation.{pack_tree, pack_code}
use Rattle.environment.specs.Words.{place_words, tree_words, tree_size}
use Rattle.environment.proofs.Stack.{drop-above}
use Rattle.environment.proofs.Finding.{length-tree}
use Rattle.sink.specs.declared.state.Walk.{Walk}
use Rattle.sink.specs.Sinks.{Sink, told}
use Rattle.sink.specs.Sunk.{Sunk, Tells}
use Rattle.steps.specs.Walking.{walked}
use Rattle.steps.specs.Holding.{Held, place}
use Rattle.steps.proofs.Stores.{kept}
use Rattle.steps.proofs.Walking.{Grown, walked-grown}
use Rattle.leaves.proofs.Growing.{keeps_then}
use Rattle.bodies.proofs.Feeding.{wide-like, like-opened}
use Rattle.guards.specs.Packs.{Kinds, kinds-node, Packs, pack_answer, Leaves, Ends, deeper, opens, Level, Levels, Opened}
use Rattle.guards.specs.declared.Packing.{Packing}
use Rattle.guards.proofs.Words.{beside, level-words}
use Rattle.guards.proofs.Growth.{place-later}
use Rattle.guards.proofs.Data.{ends-whole}

-- a packing that stopped
ends_so : {p : Packing} {d : ℕ} {t : Tree ℕ d} {b : ℕ} {c : Base} {m : State} {k : Sink} {n : ℕ} {env env' : List ℕ} {buf buf' : List ℤ} {state' : Walk} {text' : List ℕ} {q : Refusal}
    → Err q ≡ pack_answer (walked (length buf) n (pack_code b t (length m.store)) m) → Ends p t b c m k n env env' buf buf' state' text' (Err q)
ends_so {q = q} e =
    record { says = e; leaves = λ m' f. let both : Err q ≡ (Ok tt) = e ∙ ap pack_answer f in never (cc) }

-- the items once more, after the words that their survey has left
module _ {p : Packing} {d : ℕ} {t : Tree ℕ d} {b : ℕ} {c : Base} {m : State} {k : Sink} {env env₁ : List ℕ} {buf buf₁ : List ℤ} {state state₁ : Walk} {text text₁ : List ℕ}
    (g : Packs p t b c m k env buf state text) (o : Opened p t b m k env env₁ buf buf₁ state₁ text₁) (l : length env₁ ≡ length env) where
  fits : p.to + length o.scratch ≤ length env
  fits = omega (arith, o.scratch-long, g.apart, g.within)

  still : (q n : ℕ) → p.low ≤ q → (q + n ≤ p.to) ⊎ (p.to + tree_size d ≤ q) → part q n env₁ ≡ part q n env
  still q n h s =
      beside p.low p.to o.scratch env env₁ q n o.words h fits (⊎_elim inl (λ f. inr (up f)) s)
    where
      up : p.to + tree_size d ≤ q → p.to + length o.scratch ≤ q
      up f = omega (arith, o.scratch-long)

  pub again : Packs p t b c m (opens b t (length m.store) k) env₁ buf₁ state₁ text₁
  again =
      record {
        deep = g.deep;
        held = o.held;
        sunk = o.sunk;
        wide =
            wide-like
            (like-opened k (ascending (among (order (pack_tree t (length m.store))) (dv (length m.store) (pack_code b t (length m.store))))) (length m.store - 1)
            (ascending (fv (length m.store) (pack_code b t (length m.store)))))
            g.wide;
        kinds = g.kinds;
        words = still p.from (tree_size d) (omega (arith, g.low, g.apart)) (inr g.apart) ∙ g.words;
        placed =
            record {
              stream = g.placed.stream;
              there = g.placed.there;
              kind = g.placed.kind;
              words = still p.bools 3 (⊎_elim high (λ h. h.0) g.aside) (⊎_elim inr (λ h. inl h.1) g.aside) ∙ g.placed.words;
            };
        shallow = g.shallow;
        free = g.free;
        low = g.low;
        apart = g.apart;
        within = omega (arith, l, g.within);
        aside = g.aside;
        inside = omega (arith, l, g.inside);
        few = g.few;
      }
    where
      high : p.to + tree_size d ≤ p.bools → p.low ≤ p.bools
      high h = omega (arith, g.low)

-- ---- a level and its items

module _ {p : Packing} {d : ℕ} {t : Tree ℕ d} {f b : ℕ} {c : Base} {m : State} {k : Sink} {n units : ℕ} {env env₁ : List ℕ} {buf buf₁ : List ℤ} {state state₁ : Walk} {text text₁ : List ℕ} {m₁ : State} {k₁ : Sink}
    (g : Packs p (node t f) b c m k env buf state text) (v : Level p t f b c m k n units env env₁ buf buf₁ state₁ text₁ m₁ k₁)
    {env₂ : List ℕ} {buf₂ : List ℤ} {state₂ : Walk} {text₂ : List ℕ} (o : Opened (deeper p) t (length m.store + 1) m₁ k₁ env₁ env₂ buf₁ buf₂ state₂ text₂) (l₂ : length env₂ ≡ length env₁)
    {env₃ : List ℕ} {buf₃ : List ℤ} {state₃ : Walk} {text₃ : List ℕ} {r : Returned Unit Refusal}
    (e : Ends (deeper p) t (length m.store + 1) c m₁ (opens (length m.store + 1) t (length m₁.store) k₁) units env₂ env₃ buf₂ buf₃ state₃ text₃ r) (same : length buf₂ ≡ length buf) where
  abbrev z : ℕ
  z = length m.store

  run-same : walked (length buf) n (pack_code b (node t f) z) m ≡ walked (length buf₂) units (pack_code (z + 1) t (length m₁.store)) m₁
  run-same = v.whole ∙ ap (λ i. walked i units (pack_code (z + 1) t (length m₁.store)) m₁) (sym same)

  pub items-stopped : {q : Refusal} → r ≡ Err q → Ends p (node t f) b c m k n env env₃ buf buf₃ state₃ text₃ (Err q)
  items-stopped q = ends_so (sym q ∙ (e.says ∙ ap pack_answer (sym run-same)))

  record Over : Type 0 where
    after : State
    went_to : walked (length buf₂) units (pack_code (z + 1) t (length m₁.store)) m₁ ≡ went after
    left : Leaves (deeper p) t (z + 1) c m₁ (opens (z + 1) t (length m₁.store) k₁) env₂ env₃ buf₂ buf₃ state₃ text₃ after

  module _ (whole : r ≡ (Ok tt)) where
    over : Over
    over = go (walked (length buf₂) units (pack_code (z + 1) t (length m₁.store)) m₁) refl
      where
        go : (x : Result) → walked (length buf₂) units (pack_code (z + 1) t (length m₁.store)) m₁ ≡ x → Over
        go (went m') h = record { after = m'; went_to = h; left = e.leaves m' h }
        go (stopped why i) h = let both : (Ok tt) ≡ Err (refusal_of why i) = sym whole ∙ (e.says ∙ ap pack_answer h) in never (cc)

    pub items-sunk : (j : Sink) × Sunk j text₃ state₃.sink
    items-sunk = (_, over.left.sunk)

    grown : Grown m₁ (pack_code (z + 1) t (length m₁.store)) over.after
    grown = walked-grown (length buf₂) units (pack_code (z + 1) t (length m₁.store)) m₁ over.after over.went_to

    abbrev tree₃ : Tree ℕ d
    tree₃ = pack_tree t (z + 3)

    kinds₃ : Kinds over.after.store c d (pack_tree t (z + 3))
    kinds₃ = subst (λ s. Kinds over.after.store c d (pack_tree t s)) v.number over.left.kinds

    abbrev items₃ : List ℕ
    items₃ = tree_words (map_tree (place over.after.store) tree₃)

    items-long : length items₃ ≡ tree_size d
    items-long = length-tree (map_tree (place over.after.store) tree₃)

    abbrev flags₃ : List ℕ
    flags₃ = place_words (place over.after.store z)

    later : place over.after.store z ≡ place m₁.store z
    later = place-later m₁.store grown.streams z v.flags-there grown.store

    all_words : drop p.low env₃ ≡ drop p.low (written p.to (items₃ ++ flags₃) env)
    all_words =
        level-words p.low p.to o.scratch items₃ flags₃ env env₁ env₂ env₃ g.low (o.scratch-long ∙ sym items-long)
        (omega (arith, items-long, g.apart, g.within)) v.long (l₂ ∙ v.long)
        (v.words ∙ ((λ i. drop p.low (written (p.to + sym items-long i) (place_words (sym later i)) env))))
        (drop-above env₂ (written p.to o.scratch env₁) (p.low - 3) p.low o.words (omega arith))
        (drop-above env₃ (written p.to items₃ env₂) (p.low - 3) p.low
        (subst (λ s. drop (p.low - 3) env₃ ≡ drop (p.low - 3) (written p.to (tree_words (map_tree (place over.after.store) (pack_tree t s))) env₂)) v.number over.left.words) (omega arith))

    pub items-whole : {state₄ : Walk} {text₄ : List ℕ} → ((j : Sink) → Sunk j text₃ state₃.sink → Tells (told Close j) text₄ state₄ state₃)
        → Ends p (node t f) b c m k n env env₃ buf buf₃ state₄ text₄ (Ok tt)
    unfolding pack_tree tree_words map_tree
    items-whole {state₄} {text₄} w =
        ends-whole over.after (run-same ∙ over.went_to)
        (record {
          held = subst (Held over.after buf₃) (sym (w _ over.left.sunk).machine) over.left.held;
          sunk = subst (λ j. Sunk j text₄ state₄.sink) (sym v.fed) (w _ over.left.sunk).sunk;
          kept = keeps_then m₁.store grown.streams over.after.store buf buf₂ buf₃ (o.kept ∙ v.kept) over.left.kept grown.store;
          kinds =
              kinds-node v.flags kinds₃ (ap (λ σ. σ ! z) grown.store ∙ kept m₁.store grown.streams z v.flags v.flags-there) v.flags-kind;
          words = all_words;
        })

-- ---- the function's way

module _ {p : Packing} {env : List ℕ} {buf : List ℤ} {state : Walk} {text : List ℕ} where
  -- a scalar
  leaf-of : {d : ℕ} (t : Tree ℕ d) {b : ℕ} {c : Base} {m : State} {k : Sink} → Packs p t b c m k env buf state text → p.depth ≡ 0
      → (s : ℕ) × (b : ℕ) × (c : Base) × (m : State) × (k : Sink) × Packs p (leaf s) b c m k env buf state text
  leaf-of (leaf s) g z = (_, _, _, _, _, g)
  leaf-of (node t f) g z = absurd (omega (arith, g.deep))

  pub leaf-ready : (d : ℕ) × (t : Tree ℕ d) × (b : ℕ) × (c : Base) × (m : State) × (k : Sink) × Packs p t b c m k env buf state text → p.depth ≡ 0
      → (s : ℕ) × (b : ℕ) × (c : Base) × (m : State) × (k : Sink) × Packs p (leaf s) b c m k env buf state text
  leaf-ready x z = leaf-of x.1 x.6 z

  pub leaf-ends : {n : ℕ} {env' : List ℕ} {buf' : List ℤ} {state' : Walk} {text' : List ℕ} {r : Returned Unit Refusal}
      → ((s b : ℕ) (c : Base) (m : State) (k : Sink) → Packs p (leaf s) b c m k env buf state text → Ends p (leaf s) b c m k n env env' buf buf' state' text' r)
      → p.depth ≡ 0 → (d : ℕ) (t : Tree ℕ d) (b : ℕ) (c : Base) (m : State) (k : Sink) → Packs p t b c m k env buf state text → Ends p t b c m k n env env' buf buf' state' text' r
  leaf-ends h z d (leaf s) b c m k g = h s b c m k g
  leaf-ends h z d (node t f) b c m k g = absurd (omega (arith, g.deep))

  -- a sequence
  node_of : {d : ℕ} (t : Tree ℕ d) {b : ℕ} {c : Base} {m : State} {k : Sink} → Packs p t b c m k env buf state text → (p.depth ≡ 0 → ⊥)
      → (d : ℕ) × (t : Tree ℕ d) × (f : ℕ) × (b : ℕ) × (c : Base) × (m : State) × (k : Sink) × Packs p (node t f) b c m k env buf state text
  node_of (leaf s) g z = absurd (z g.deep)
  node_of (node t f) g z = (_, t, f, _, _, _, _, g)

  pub node-ready : (d : ℕ) × (t : Tree ℕ d) × (b : ℕ) × (c : Base) × (m : State) × (k : Sink) × Packs p t b c m k env buf state text → (p.depth ≡ 0 → ⊥)
      → (d : ℕ) × (t : Tree ℕ d) × (f : ℕ) × (b : ℕ) × (c : Base) × (m : State) × (k : Sink) × Packs p (node t f) b c m k env buf state text
  node-ready x z = node_of x.1 x.6 z

  pub low-three : (d : ℕ) × (t : Tree ℕ d) × (b : ℕ) × (c : Base) × (m : State) × (k : Sink) × Packs p t b c m k env buf state text → (p.depth ≡ 0 → ⊥) → (1 ≤ p.depth) × (3 ≤ p.low)
  low-three x z =
      let y = node_of x.1 x.6 z in
      let e = y.7.deep in
      (omega (arith, e), omega (arith, y.7.free))

  module _ {n : ℕ} {env₁ : List ℕ} {buf₁ : List ℤ} {state₁ : Walk} {text₁ : List ℕ} {r₁ : Returned ℕ Refusal}
      (w₁ : (d : ℕ) (t : Tree ℕ d) (f b : ℕ) (c : Base) (m : State) (k : Sink) → Packs p (node t f) b c m k env buf state text → Levels p t f b c m k n env env₁ buf buf₁ state₁ text₁ r₁) (z : p.depth ≡ 0 → ⊥) where
    pub level-stopped : {q : Refusal} → r₁ ≡ Err q → (d : ℕ) (t : Tree ℕ d) (b : ℕ) (c : Base) (m : State) (k : Sink) → Packs p t b c m k env buf state text
        → Ends p t b c m k n env env₁ buf buf₁ state₁ text₁ (Err q)
    level-stopped e d (leaf s) b c m k g = absurd (z g.deep)
    level-stopped {q} e d (node t f) b c m k g = ends_so ((w₁ _ t f b c m k g).stops q e)

    module _ {units : ℕ} (e₁ : r₁ ≡ Ok units) where
      pub items-ready : (d : ℕ) × (t : Tree ℕ d) × (b : ℕ) × (c : Base) × (m : State) × (k : Sink) × Packs p t b c m k env buf state text
          → (d : ℕ) × (t : Tree ℕ d) × (b : ℕ) × (c : Base) × (m : State) × (k : Sink) × Packs (deeper p) t b c m k env₁ buf₁ state₁ text₁
      items-ready x =
          let y = node_of x.1 x.6 z in
          let v = (w₁ _ y.1 y.2 y.3 y.4 y.5 y.6 y.7).goes_in units e₁ in
          (_, _, _, _, _, _, v.2.items)

      module _ {env₂ : List ℕ} {buf₂ : List ℤ} {state₂ : Walk} {text₂ : List ℕ}
          (w₂ : (d : ℕ) (t : Tree ℕ d) (b : ℕ) (c : Base) (m : State) (k : Sink) → Packs (deeper p) t b c m k env₁ buf₁ state₁ text₁ → Opened (deeper p) t b m k env₁ env₂ buf₁ buf₂ state₂ text₂) (l₂ : length env₂ ≡ length env₁) where
        pub again-ready : (d : ℕ) × (t : Tree ℕ d) × (b : ℕ) × (c : Base) × (m : State) × (k : Sink) × Packs p t b c m k env buf state text
            → (d : ℕ) × (t : Tree ℕ d) × (b : ℕ) × (c : Base) × (m : State) × (k : Sink) × Packs (deeper p) t b c m k env₂ buf₂ state₂ text₂
        again-ready x = let i = items-ready x in (_, _, _, _, _, _, again i.6 (w₂ _ _ _ _ _ _ i.6) l₂)

        module _ {env₃ : List ℕ} {buf₃ : List ℤ} {state₃ : Walk} {text₃ : List ℕ} {r₂ : Returned Unit Refusal}
            (w₃ : (d : ℕ) (t : Tree ℕ d) (b : ℕ) (c : Base) (m : State) (k : Sink) → Packs (deeper p) t b c m k env₂ buf₂ state₂ text₂ → Ends (deeper p) t b c m k units env₂ env₃ buf₂ buf₃ state₃ text₃ r₂)
            (same : length buf₂ ≡ length buf) where
          pub node-stopped : {q : Refusal} → r₂ ≡ Err q → (d : ℕ) (t : Tree ℕ d) (b : ℕ) (c : Base) (m : State) (k : Sink) → Packs p t b c m k env buf state text
              → Ends p t b c m k n env env₃ buf buf₃ state₃ text₃ (Err q)
          node-stopped e d (leaf s) b c m k g = absurd (z g.deep)
          node-stopped e d (node t f) b c m k g =
              let v = (w₁ _ t f b c m k g).goes_in units e₁ in
              let o = w₂ _ _ _ _ _ _ v.2.items in
              items-stopped g v.2 o l₂ (w₃ _ _ _ _ _ _ (again v.2.items o l₂)) same e

          sunk-of : {d : ℕ} (t : Tree ℕ d) {b : ℕ} {c : Base} {m : State} {k : Sink} → Packs p t b c m k env buf state text → r₂ ≡ (Ok tt) → (j : Sink) × Sunk j text₃ state₃.sink
          sunk-of (leaf s) g e = absurd (z g.deep)
          sunk-of (node t f) {b} {c} {m} {k} g e =
              let v = (w₁ _ t f b c m k g).goes_in units e₁ in
              let o = w₂ _ _ _ _ _ _ v.2.items in
              items-sunk g v.2 o l₂ (w₃ _ _ _ _ _ _ (again v.2.items o l₂)) same e

          pub close-ready : (d : ℕ) × (t : Tree ℕ d) × (b : ℕ) × (c : Base) × (m : State) × (k : Sink) × Packs p t b c m k env buf state text → r₂ ≡ (Ok tt) → (j : Sink) × Sunk j text₃ state₃.sink
          close-ready x e = sunk-of x.1 x.6 e

          pub node-whole : {state₄ : Walk} {text₄ : List ℕ} → r₂ ≡ (Ok tt) → ((j : Sink) → Sunk j text₃ state₃.sink → Tells (told Close j) text₄ state₄ state₃)
              → (d : ℕ) (t : Tree ℕ d) (b : ℕ) (c : Base) (m : State) (k : Sink) → Packs p t b c m k env buf state text
              → Ends p t b c m k n env env₃ buf buf₃ state₄ text₄ (Ok tt)
          node-whole e w d (leaf s) b c m k g = absurd (z g.deep)
          node-whole e w d (node t f) b c m k g =
              let v = (w₁ _ t f b c m k g).goes_in units e₁ in
              let o = w₂ _ _ _ _ _ _ v.2.items in
              items-whole g v.2 o l₂ (w₃ _ _ _ _ _ _ (again v.2.items o l₂)) same e w
