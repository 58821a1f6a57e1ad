-- One listed variable packed, with its entry on the stack.
use Prim.Native.Nat.{ℕ, ◌+◌, ◌*◌, ◌≤◌}
use mathlib.Core.List.{List, [], ◌∷◌}
use mathlib.Core.Logic.{inl, inr}
use mathlib.Core.Option.{some}
use mathlib.Core.Path.{◌≡◌, refl, sym, ◌∙◌, ap}
use native.Mathlib.Omega.{arith}
use lib.IntN.{ℤ}
use lib.ListN.{length, get_or, drop}
use Rattle.std.specs.Prelude.{Ok, Err, Result as Returned}
use Rattle.laws.proofs.Never.{never}
use Rattle.laws.specs.Parts.{part, written}
use Rattle.snesl.specs.declared.code.Base.{Base}
use Rattle.snesl.specs.declared.code.Base.TheVariants as base
use Rattle.snesl.specs.declared.code.Variable.{Variable}
use Rattle.snesl.specs.declared.refusal.Refusal.{Refusal}
use Rattle.snesl.specs.Values.{ValueType, scalar, braces, depth_of, base_of, Element}
use Rattle.snesl.specs.Terms.{lookup}
use Rattle.snesl.specs.Trees.{IdTree, map_tree}
use Rattle.snesl.specs.Streams.{Stream, ints, bools, flags, units, kind_of, data_of, data_kind, Store}
use Rattle.snesl.specs.Machine.{State, Result, went, stopped}
use Rattle.snesl.specs.Outcome.{refusal_of}
use Rattle.snesl.specs.Translation.{pack_tree, pack_code}
use Rattle.environment.specs.Words.{tree_words, tree_size, Sought, Entry}
use Rattle.environment.specs.Needs.{binding_size}
use Rattle.environment.proofs.Stack.{length-written, written_then_lem}
use Rattle.environment.proofs.Finding.{length-tree}
use Rattle.sink.specs.declared.state.Walk.{Walk}
use Rattle.steps.specs.Walking.{walked}
use Rattle.steps.specs.Holding.{place}
use Rattle.steps.proofs.Stepping.{flags_of}
use Rattle.leaves.specs.Places.{places, Shapely, shapely-leaf, shapely-node}
use Rattle.leaves.proofs.Places.{data-kind, lookup-places, lookup-shapely, lookup-shallow}
use Rattle.leaves.proofs.Operands.{sought}
use Rattle.guards.specs.Packs.{Kinds, kinds-leaf, kinds-node, Packs, pack_answer, Leaves, Ends}
use Rattle.guards.specs.Lists.{Chosen, one_answer, Enters}
use Rattle.guards.specs.declared.Packing.{Packing}
use Rattle.guards.specs.declared.Guarding.{Guarding}
use Rattle.guards.proofs.Words.{beside-written}

-- ---- a type's tree is one of its base

pub kinds-of : {σ : Store} {τ : ValueType} {t : IdTree τ} → Shapely σ τ t → Kinds σ (base_of τ) (depth_of τ) t
kinds-of (shapely-leaf {b = b} vs e) = kinds-leaf (data_of b vs) e (data-kind b vs)
kinds-of (shapely-node bs h e) = kinds-node (flags bs) (kinds-of h) e refl

data-of : (a : Stream) (c : Base) → kind_of a ≡ data_kind c → (vs : List (Element c)) × (a ≡ data_of c vs)
data-of (ints zs) base.Int e = (zs, refl)
data-of (ints zs) base.Bool e = never (cc)
data-of (bools cs) base.Int e = never (cc)
data-of (bools cs) base.Bool e = (cs, refl)
data-of (flags bs) base.Int e = never (cc)
data-of (flags bs) base.Bool e = never (cc)
data-of (units n) base.Int e = never (cc)
data-of (units n) base.Bool e = never (cc)

pub shapely-of : {σ : Store} (τ : ValueType) {t : IdTree τ} → Kinds σ (base_of τ) (depth_of τ) t → Shapely σ τ t
shapely-of (scalar b) (kinds-leaf a e h) = let d = data-of a b h in shapely-leaf d.0 (e ∙ ap some d.1)
shapely-of (braces τ) (kinds-node a k e h) = let d = flags_of a h in shapely-node d.0 (shapely-of τ k) (e ∙ ap some d.1)

-- ---- one variable

module _ {u : Variable} {to : ℕ} {q : Guarding} {env : List ℕ} {buf : List ℤ} {state : Walk} {text : List ℕ} (g : Chosen u to q env buf state text) where
  abbrev pub one-sought : Sought env q.sp u
  one-sought = sought g.guarded.scene g.pointer g.finds

  abbrev d : ℕ
  d = depth_of g.type

  abbrev tree : IdTree g.type
  tree = lookup g.pointer g.guarded.scene.trees

  pub name-fits : to + 2 ≤ length env
  name-fits = omega (arith, g.space, g.guarded.scene.within)

  shallow : d ≤ 8
  shallow = lookup-shallow g.pointer g.guarded.scene.shallow

  module _ {p : ℕ} (e : Entry env q.sp p (lookup g.pointer (places g.guarded.scene.machine.store g.guarded.scene.trees))) where
    pub depth-few : get_or env (p + 1) 0 ≤ 8
    depth-few = omega (arith, e.depth, shallow)

    pub depth-fits : p + 2 + 3 * get_or env (p + 1) 0 + 3 ≤ length env
    depth-fits = omega (arith, e.depth, e.within)

    pub next_fits : to + 5 + 3 * get_or env (p + 1) 0 ≤ length env
    next_fits = omega (arith, e.depth, g.space, g.guarded.scene.within)

    abbrev packing : Packing
    packing = record { depth = get_or env (p + 1) 0; from = p + 2; to = to + 2; bools = q.bools; low = q.base }

    module _ {env₁ : List ℕ} (w : env₁ ≡ written to (u.0 ∷ get_or env (p + 1) 0 ∷ []) env) where
      long₁ : length env₁ ≡ length env
      long₁ = ap length w ∙ length-written env to (u.0 ∷ get_or env (p + 1) 0 ∷ []) name-fits

      still : (i n : ℕ) → to + 2 ≤ i → part i n env₁ ≡ part i n env
      still i n h = ap (part i n) w ∙ beside-written to (u.0 ∷ get_or env (p + 1) 0 ∷ []) env i n name-fits (inr h)

      pub one-ready : Packs (record { depth = get_or env (p + 1) 0; from = p + 2; to = to + 2; bools = q.bools; low = q.base }) (lookup g.pointer g.guarded.scene.trees) g.guarded.guard (base_of g.type)
          g.guarded.scene.machine g.guarded.scene.sink env₁ buf state text
      one-ready =
          record {
            deep = e.depth;
            held = g.guarded.scene.held;
            sunk = g.guarded.scene.sunk;
            wide = g.guarded.scene.wide;
            kinds = kinds-of (lookup-shapely g.pointer g.guarded.scene.shaped);
            words =
                still (p + 2) (tree_size d) (omega (arith, g.space, e.above))
                ∙ (e.words ∙ ap tree_words (lookup-places g.guarded.scene.machine.store g.pointer g.guarded.scene.trees));
            placed =
                record {
                  stream = g.guarded.placed.stream;
                  there = g.guarded.placed.there;
                  kind = g.guarded.placed.kind;
                  words = still q.bools 3 (omega (arith, g.space, g.guarded.high)) ∙ g.guarded.placed.words;
                };
            shallow = shallow;
            free = omega (arith, shallow, g.guarded.free);
            low = omega (arith, g.low);
            apart = omega (arith, g.space, e.above);
            within = omega (arith, long₁, e.within);
            aside = inl (omega (arith, g.space, g.guarded.high));
            inside = omega (arith, long₁, g.guarded.inside);
            few = g.few;
          }

      module _ (n : ℕ) {env₂ : List ℕ} {buf₂ : List ℤ} {state₂ : Walk} {text₂ : List ℕ} {r : Returned Unit Refusal}
          (v : Ends (record { depth = get_or env (p + 1) 0; from = p + 2; to = to + 2; bools = q.bools; low = q.base }) (lookup g.pointer g.guarded.scene.trees) g.guarded.guard (base_of g.type)
          g.guarded.scene.machine g.guarded.scene.sink n env₁ env₂ buf buf₂ state₂ text₂ r) where
        abbrev s : ℕ
        s = length g.guarded.scene.machine.store

        abbrev run : Result
        run = walked (length buf) n (pack_code g.guarded.guard tree s) g.guarded.scene.machine

        pub one-stopped : {x : Refusal} → r ≡ Err x → Enters g n env₂ buf₂ state₂ text₂ (Err x)
        one-stopped {x} h = go run refl
          where
            go : (y : Result) → run ≡ y → Enters g n env₂ buf₂ state₂ text₂ (Err x)
            go (went m) f = let both : Err x ≡ (Ok tt) = sym h ∙ (v.says ∙ ap pack_answer f) in never (cc)
            go (stopped why i) f =
                let both : Err x ≡ Err (refusal_of why i) = sym h ∙ (v.says ∙ ap pack_answer f) in
                let same : x ≡ refusal_of why i = cc in
                record {
                  says = ap Err same ∙ ap (one_answer (to + binding_size d)) (sym f);
                  leaves = λ m j. let b : stopped why i ≡ went m = sym f ∙ j in never (cc);
                }

        words-so : (m : State) → Leaves packing tree g.guarded.guard (base_of g.type) g.guarded.scene.machine g.guarded.scene.sink env₁ env₂ buf buf₂ state₂ text₂ m
            → drop q.base env₂ ≡ drop q.base (written to (u.0 ∷ d ∷ tree_words (map_tree (place m.store) (pack_tree tree s))) env)
        words-so m l =
            let t : List ℕ = tree_words (map_tree (place m.store) (pack_tree tree s)) in
            let long : length t ≡ tree_size d = length-tree (map_tree (place m.store) (pack_tree tree s)) in
            l.words
            ∙ ap (drop q.base)
            (ap (written (to + 2) t) (w ∙ ap (λ i. written to (u.0 ∷ i ∷ []) env) e.depth)
            ∙ written_then_lem env to (u.0 ∷ d ∷ []) t (to + 2) refl (omega (arith, long, g.space, g.guarded.scene.within)))

        pub one-whole : r ≡ (Ok tt) → Enters g n env₂ buf₂ state₂ text₂ (Ok (to + 5 + 3 * get_or env (p + 1) 0))
        one-whole h = go run refl
          where
            go : (y : Result) → run ≡ y → Enters g n env₂ buf₂ state₂ text₂ (Ok (to + 5 + 3 * get_or env (p + 1) 0))
            go (stopped why i) f = let both : (Ok tt) ≡ Err (refusal_of why i) = sym h ∙ (v.says ∙ ap pack_answer f) in never (cc)
            go (went m) f =
                let next : to + 5 + 3 * get_or env (p + 1) 0 ≡ to + binding_size d = omega (arith, e.depth) in
                record {
                  says = ap Ok next ∙ ap (one_answer (to + binding_size d)) (sym f);
                  leaves =
                      λ m' j.
                      let l = v.leaves m' j in
                      record { held = l.held; sunk = l.sunk; kept = l.kept; shapely = shapely-of g.type l.kinds; words = words-so m' l };
                }
