-- 002's Theorem 1.20: from the typing, evaluation and translation rules to the instruction rules.
use Prim.Native.Nat.{ℕ, zero, suc, ◌+◌, ◌<◌}
use native.Mathlib.Omega.{arith}
use mathlib.Core.List.Memᴰ
use mathlib.Core.List.{List, [], ◌∷◌, map, Memᴰ}
use mathlib.Core.Logic.{⊎_elim}
use mathlib.Core.Option.{some, get_or}
use mathlib.Core.Path.{◌≡◌, refl, sym, ap, ◌∙◌, subst, transport}
use lib.ListN.{length}
use Rattle.snesl.specs.Values.{ValueType, Val}
use Rattle.snesl.specs.Terms.{◌∋◌, here, there, Term, All, ∅, ◌▹◌, lookup}
use Rattle.snesl.specs.Streams.{Stream, units, Store, ◌!◌}
use Rattle.snesl.specs.Trees.{Tree, IdTree, leaf, node, inner, outer, root, order, map_tree}
use Rattle.snesl.specs.Representation.{represent, Holds}
use Rattle.snesl.specs.Agreement.{Agrees}
use Rattle.snesl.specs.Ids.{ids_of, Below}
use Rattle.snesl.specs.Machine.{State}
use Rattle.snesl.specs.Translation.{size, tree, code}
use Rattle.snesl.specs.Records.{Raw}
use Rattle.snesl.specs.Checking.{Name, typed, check}
use Rattle.snesl.proofs.Representing.Representation.{holds-streams, streams-held}
use Rattle.snesl.proofs.Compiled.WellFormed.{below-result}
use Rattle.snesl.proofs.Statements.Correctness as running
use Rattle.snesl.proofs.Statements.Compiled as compiled
use Rattle.rules.specs.Names.{Env, named, env_of}
use Rattle.rules.specs.Typing.{Types, types_of}
use Rattle.rules.specs.Values.{Value}
use Rattle.rules.specs.Evaluation.{Evaluates, values_of}
use Rattle.rules.specs.Instructions.{Svcode, Stores, Runs, written}
use Rattle.rules.specs.Trees.{STree, pair, ids, Builds, builds-one, builds-pair, plain_tree, trees_of}
use Rattle.rules.specs.Translation.{Translates}
use Rattle.rules.specs.Agreement.{Agree}
use Rattle.rules.specs.Correctness.{Suits, suits-none, suits-more, Correct}
use Rattle.rules.proofs.Typing.{typed-exactly, resolved}
use Rattle.rules.proofs.Evaluation.{value-exactly}
use Rattle.rules.proofs.Representation.{represents-exactly}
use Rattle.rules.proofs.Instructions.Deriving.{run-derives}
use Rattle.rules.proofs.Translation.Regrouped.{ungrouped}
use Rattle.rules.proofs.Translation.Deterministic.{translates-once}
use Rattle.rules.proofs.Translation.Derived.{ids-plain, translated}

-- ---- the ids below s of a mapping, as a list

tabulate : Stores → (k n : ℕ) → Store
tabulate σ k zero = []
tabulate σ k (suc n) = get_or (σ k) (units 0) ∷ tabulate σ (suc k) n

length-tabulate : (σ : Stores) (k n : ℕ) → length (tabulate σ k n) ≡ n
unfolding tabulate
length-tabulate σ k zero = refl
length-tabulate σ k (suc n) = ap suc (length-tabulate σ (suc k) n)

tabulated : (σ : Stores) (k n u : ℕ) {a : Stream} → u < n → σ (k + u) ≡ some a → tabulate σ k n ! u ≡ some a
unfolding tabulate
tabulated σ k zero u h q = absurd (omega arith)
tabulated σ k (suc n) zero h q = let e : σ k ≡ some _ = ap σ (omega arith) ∙ q in ap (λ o. some (get_or o (units 0))) e
tabulated σ k (suc n) (suc u) h q = tabulated σ (suc k) n u (omega arith) (ap σ (omega arith) ∙ q)

-- ---- a tree of ids that a mapping builds, as one of its depth

record Deep (σ : Stores) (s : ℕ) (st : STree) (d : ℕ) (w : Tree Stream d) : Type 0 where
  deep : Tree ℕ d
  plainly : plain_tree deep ≡ st
  low : Below s (order deep)
  streams : map_tree (λ u. tabulate σ 0 s ! u) deep ≡ map_tree some w
  same : (u : ℕ) → Memᴰ u (order deep) → σ u ≡ tabulate σ 0 s ! u

one-id : (σ : Stores) (τ : Store) {u : ℕ} (v : ℕ) → Memᴰ v (u ∷ []) → σ u ≡ τ ! u → σ v ≡ τ ! v
one-id σ τ v m q = subst (λ u. σ u ≡ τ ! u) (sym (Memᴰ.eq_of_singleton m)) q

deepen : {σ : Stores} {s : ℕ} {st : STree} {d : ℕ} {w : Tree Stream d} → Below s (ids st) → Builds σ st d w → Deep σ s st d w
unfolding ids plain_tree order map_tree
deepen {σ} {s} b (builds-one {s = u} {a = a} q) =
    let y = tabulated σ 0 s u (b u (Memᴰ.head refl)) (ap σ (omega arith) ∙ q) in
    record { deep = leaf u; plainly = refl; low = b; streams = ap leaf y; same = λ v m. one-id σ (tabulate σ 0 s) v m (q ∙ sym y) }
deepen {σ} {s} b (builds-pair {st = st} {s = u} {a = a} h q) =
    let r = deepen (λ v m. b v (Memᴰ.append_left _ m)) h in
    let x = r.streams in
    let y = tabulated σ 0 s u (b u (Memᴰ.append_right (ids st) (Memᴰ.head refl))) (ap σ (omega arith) ∙ q) in
    record {
      deep = node r.deep u;
      plainly = ap (λ t. pair t u) r.plainly;
      low = λ v m. ⊎_elim (r.low v) (λ k. b v (Memᴰ.append_right (ids st) k)) (Memᴰ.append_cases (order r.deep) m);
      streams = λ i. node (x i) (y i);
      same = λ v m. ⊎_elim (r.same v) (λ k. one-id σ (tabulate σ 0 s) v k (q ∙ sym y)) (Memᴰ.append_cases (order r.deep) m);
    }

-- ---- the environments of names as those of a context

record Setting (σ : Stores) (s : ℕ) (Γ : Env ValueType) (ρ : Env Value) (δ : Env STree) : Type 0 where
  types : List ValueType
  scope : All Name types
  values : All Val types
  trees : All IdTree types
  types_are : types_of scope ≡ Γ
  values-are : values_of scope values ≡ ρ
  trees-are : trees_of scope trees ≡ δ
  low : Below s (ids_of trees)
  known : Agree (ids_of trees) σ (tabulate σ 0 s)
  holds : Agrees (tabulate σ 0 s) trees (values ∷ [])

nothing-held : {τ : Store} → Agrees τ {Γ = []} ∅ (∅ ∷ [])
nothing-held {τ} = record { holds = go }
  where
    go : {d : ValueType} (x : [] ∋ d) → Holds τ d (lookup {P = IdTree} x ∅) (map (λ (ρ : All Val []). lookup x ρ) (∅ ∷ []))
    go = elim [ ]

one-more-held : {τ : Store} {Γ : List ValueType} {c : ValueType} {st : IdTree c} (v : Val c) {δ : All IdTree Γ} {ρ : All Val Γ}
    → Holds τ c st (v ∷ [])
    → Agrees τ δ (ρ ∷ [])
    → Agrees τ (◌▹◌ {τ = c} st δ) ((◌▹◌ {τ = c} v ρ) ∷ [])
unfolding lookup
one-more-held {τ} {Γ} {c} {st} v {δ} {ρ} h a = record { holds = go }
  where
    go : {d : ValueType} (x : (c ∷ Γ) ∋ d) → Holds τ d (lookup x (◌▹◌ {τ = c} st δ)) (map (lookup x) ((◌▹◌ {τ = c} v ρ) ∷ []))
    go here = h
    go (there x) = a.holds x

setting : {σ : Stores} {s : ℕ} {Γ : Env ValueType} {ρ : Env Value} {δ : Env STree} → Suits σ s Γ ρ δ → Setting σ s Γ ρ δ
unfolding types_of env_of ids_of
setting suits-none = record { types = []; scope = ∅; values = ∅; trees = ∅; types_are = refl; values-are = refl; trees-are = refl; low = λ u h. absurd (Memᴰ.not-nil h); known = record { agree = λ u h. absurd (Memᴰ.not-nil h) }; holds = nothing-held }
setting {σ} {s} (suits-more {x = x} {τ = d} {v = v} {w = w} t b h r rest) =
    let (u, p, q) = (represents-exactly d v w).0 r in
    let m = deepen b h in
    let g = setting rest in
    let held : Holds (tabulate σ 0 s) d m.deep (u ∷ []) = streams-held (tabulate σ 0 s) d m.deep (u ∷ []) (m.streams ∙ ap (map_tree some) q) in
    record {
      types = d ∷ g.types;
      scope = ◌▹◌ {τ = d} x g.scope;
      values = ◌▹◌ {τ = d} u g.values;
      trees = ◌▹◌ {τ = d} m.deep g.trees;
      types_are = ap (named x d) g.types_are;
      values-are = (λ i. named x (sym p i) (g.values-are i));
      trees-are = (λ i. named x (m.plainly i) (g.trees-are i));
      low = λ v k. ⊎_elim (m.low v) (g.low v) (Memᴰ.append_cases (order m.deep) k);
      known = record { agree = λ v k. ⊎_elim (m.same v) (g.known.agree v) (Memᴰ.append_cases (order m.deep) k) };
      holds = one-more-held {c = d} u held g.holds;
    }

-- ---- the result's tree, read from the mapping at the end

built : {d : ℕ} (st : Tree ℕ d) (w : Tree Stream d) {σ : Stores} (τ : Store)
    → map_tree (λ u. τ ! u) st ≡ map_tree some w
    → ((u : ℕ) → Memᴰ u (order st) → σ u ≡ τ ! u)
    → Builds σ (plain_tree st) d w
unfolding map_tree plain_tree order inner outer root
built (leaf s) (leaf a) τ q g = builds-one (g s (Memᴰ.head refl) ∙ ap root q)
built (node st s) (node w a) τ q g =
    builds-pair (built st w τ (ap inner q) (λ u h. g u (Memᴰ.append_left _ h))) (g s (Memᴰ.append_right (order st) (Memᴰ.head refl)) ∙ ap outer q)

correct : {σ : Stores} {s : ℕ} {Γ : Env ValueType} {ρ : Env Value} {δ : Env STree} (g : Setting σ s Γ ρ δ) (e : Raw) {d : ValueType} {t : Term g.types d} (v : Value)
    → check g.scope e ≡ typed d t
    → Evaluates ρ e v
    → Correct (written s (code t g.trees s)) σ s (s + size t) (plain_tree (tree t g.trees s)) d v
unfolding ids_of
correct {σ} {s} g e {d} {t} v c h =
    let m : State = record { store = tabulate σ 0 s; work = 0; steps = 0 } in
    let first : length m.store ≡ s = length-tabulate σ 0 s in
    let (w, q, r) = (value-exactly g.scope e c g.values v).0 (subst (λ ρ. Evaluates ρ e v) (sym g.values-are) h) in
    let (m', went, ran) = running.a-value-gives-a-run t g.trees s g.values m first g.holds q in
    let x = run-derives (code t g.trees s) s 1 m m' (ids_of g.trees) σ went (compiled.code-is-well-formed t g.trees g.low)
    (compiled.used-ids-are-known t g.trees s (λ u h. h)) (running.empty-control-has-empty-inputs t g.trees g.values [] s m first g.holds)
    first g.low g.known in
    record {
      stores = x.stores;
      runs = x.runs;
      streams = represent d (w ∷ []);
      built =
          built (tree t g.trees s) (represent d (w ∷ [])) m'.store (holds-streams ran.results)
          (λ u i. ⊎_elim (x.still-known.agree u) (x.made-known.agree u) (compiled.result-ids-are-known t g.trees s i));
      represents = (represents-exactly d v (represent d (w ∷ []))).1 (w, r, refl);
      kept = x.kept-below;
      onward = omega arith;
      below = λ u i. below-result t g.trees g.low u (Memᴰ.append_left _ (subst (Memᴰ u) (ids-plain (tree t g.trees s)) i));
    }

-- the same for code that runs as this does
runs_as : {p q : Svcode} {σ : Stores} {s₀ s₁ : ℕ} {st : STree} {d : ValueType} {v : Value}
    → ((σ' : Stores) → Runs p σ 1 σ' → Runs q σ 1 σ')
    → Correct p σ s₀ s₁ st d v
    → Correct q σ s₀ s₁ st d v
runs_as f c =
    record {
      stores = c.stores;
      runs = f c.stores c.runs;
      streams = c.streams;
      built = c.built;
      represents = c.represents;
      kept = c.kept;
      onward = c.onward;
      below = c.below;
    }

pub theorem : {Γ : Env ValueType} {ρ : Env Value} {δ : Env STree} {σ : Stores} (e : Raw) {d : ValueType} {s₀ s₁ : ℕ} {v : Value} {p : Svcode} {st : STree}
    → Types Γ e d
    → Evaluates ρ e v
    → Translates δ e s₀ s₁ p st
    → Suits σ s₀ Γ ρ δ
    → Correct p σ s₀ s₁ st d v
theorem {δ = δ} {σ = σ} e {d} {s₀} {s₁} {v} {p} {st} typing evaluation translation suits =
    let g = setting suits in
    let (t, checked) = (typed-exactly g.scope e d).1 (subst (λ Γ. Types Γ e d) (sym g.types_are) typing) in
    let w = translated (resolved g.scope e checked) g.trees s₀ in
    let same = translates-once e δ s₀ (s₀ + size t) s₁ w.made p (plain_tree (tree t g.trees s₀)) st
    (subst (λ δ. Translates δ e s₀ (s₀ + size t) w.made (plain_tree (tree t g.trees s₀))) g.trees-are w.derives) translation in
    let mine = runs_as (λ σ' r. ungrouped w.made (subst (λ q. Runs q σ 1 σ') (sym w.grouped) r)) (correct g e v checked evaluation) in
    transport (λ i. Correct (same.code i) σ s₀ (same.ends i) (same.tree i) d v) mine
