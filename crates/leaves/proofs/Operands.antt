-- From a scene and a name that checking found to an operand: the words of the variable's entry are the places of its streams.
use Prim.Native.Nat.{ℕ, ◌+◌}
use mathlib.Core.List.{List}
use mathlib.Core.Path.{◌≡◌, refl, ◌∙◌, ap}
use lib.IntN.{ℤ}
use lib.ListN.{get_or}
use Rattle.laws.specs.Parts.{part}
use Rattle.snesl.specs.declared.code.Kind.{Kind}
use Rattle.snesl.specs.declared.code.Kind.TheVariants.{Flags}
use Rattle.snesl.specs.declared.code.Variable.{Variable}
use Rattle.snesl.specs.declared.code.Base.{Base}
use Rattle.snesl.specs.Values.{ValueType, scalar, braces, depth_of}
use Rattle.snesl.specs.Terms.{◌∋◌, lookup}
use Rattle.snesl.specs.Trees.{map_tree, root, inner, outer}
use Rattle.snesl.specs.Streams.{data_of, data_kind, Store}
use Rattle.snesl.specs.Checking.{find, found}
use Rattle.environment.specs.Words.{place_words, tree_words, tree_size, Sought, Entry}
use Rattle.environment.proofs.Entries.{id-is, leaf-place, root-words, inner-words, outer-place}
use Rattle.sink.specs.declared.state.Walk.{Walk}
use Rattle.steps.specs.Holding.{place, PlacedAt}
use Rattle.leaves.specs.Places.{places}
use Rattle.leaves.specs.Scenes.{Scene}
use Rattle.leaves.proofs.Places.{data-kind, lookup-places, lookup-shapely, root-map, inner-map, outer-map, root-data, outer-flags, inner-shapely}

-- an operand's id is the first word of its place
pub named-there : {σ : Store} {env : List ℕ} {c : Kind} {i q : ℕ} → PlacedAt σ env c i q → get_or env q 0 ≡ i
named-there {σ} {env} {i = i} {q = q} o = id-is env q (place σ i) o.words

module _ {env : List ℕ} {sp : ℕ} {buf : List ℤ} {state : Walk} {text : List ℕ} (s : Scene env sp buf state text) where
  abbrev pub sought : {x : Variable} {τ : ValueType} → (v : s.context ∋ τ) → find x s.names ≡ found τ v → Sought env sp x
  sought {τ = τ} v f =
      record {
        context = s.context;
        names = s.names;
        trees = places s.machine.store s.trees;
        rest = s.rest;
        type = τ;
        pointer = v;
        spells = s.spells;
        finds = f;
      }

  -- a scalar
  pub scalar-placed : {p : ℕ} {b : Base} (v : s.context ∋ scalar b) → Entry env sp p (lookup v (places s.machine.store s.trees))
      → PlacedAt s.machine.store env (data_kind b) (root (lookup v s.trees)) (p + 2)
  scalar-placed {b = b} v e =
      let i = root-data (lookup-shapely v s.shaped) in
      record {
        stream = data_of b i.0;
        there = i.1;
        kind = data-kind b i.0;
        words =
            leaf-place e
            ∙ ap place_words
            (ap root (lookup-places s.machine.store v s.trees) ∙ root-map (place s.machine.store) (lookup v s.trees));
      }

  -- a sequence: its outermost flags, and what they segment
  module _ {p : ℕ} {υ : ValueType} (v : s.context ∋ braces υ) (e : Entry env sp p (lookup v (places s.machine.store s.trees))) where
    tree_is : lookup v (places s.machine.store s.trees) ≡ map_tree (place s.machine.store) (lookup v s.trees)
    tree_is = lookup-places s.machine.store v s.trees

    pub flags-words : part (p + 2 + tree_size (depth_of υ)) 3 env ≡ place_words (place s.machine.store (outer (lookup v s.trees)))
    flags-words = outer-place e ∙ ap place_words (ap outer tree_is ∙ outer-map (place s.machine.store) (lookup v s.trees))

    pub items-words : part (p + 2) (tree_size (depth_of υ)) env ≡ tree_words (map_tree (place s.machine.store) (inner (lookup v s.trees)))
    items-words = inner-words e ∙ ap tree_words (ap inner tree_is ∙ inner-map (place s.machine.store) (lookup v s.trees))

    pub flags-placed : PlacedAt s.machine.store env Flags (outer (lookup v s.trees)) (p + 2 + tree_size (depth_of υ))
    flags-placed =
        let i = outer-flags (lookup-shapely v s.shaped) in
        record { stream = Rattle.snesl.specs.Streams.flags i.0; there = i.1; kind = refl; words = flags-words }

  -- a sequence of scalars: its data
  pub data-placed : {p : ℕ} {b : Base} (v : s.context ∋ braces (scalar b)) → Entry env sp p (lookup v (places s.machine.store s.trees))
      → PlacedAt s.machine.store env (data_kind b) (root (inner (lookup v s.trees))) (p + 2)
  data-placed {b = b} v e =
      let i = root-data (inner-shapely (lookup-shapely v s.shaped)) in
      record {
        stream = data_of b i.0;
        there = i.1;
        kind = data-kind b i.0;
        words =
            items-words v e
            ∙ (root-words (map_tree (place s.machine.store) (inner (lookup v s.trees)))
            ∙ ap place_words (root-map (place s.machine.store) (inner (lookup v s.trees))));
      }
