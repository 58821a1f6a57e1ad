-- One level of a tree: its flags packed, the bools spread over its items, and these counted; then what is left is the packing of the items.
use Prim.Native.Nat.{ℕ, suc, ◌+◌, ◌*◌, ◌-◌, ◌≤◌}
use mathlib.Core.List.{List, [], ◌∷◌, ◌++◌, append_assoc}
use mathlib.Core.Logic.{inl, inr, ⊎_elim}
use mathlib.Core.Option.{some}
use mathlib.Core.Path.{◌≡◌, refl, sym, ◌∙◌, ap, ap₂, subst}
use native.Mathlib.Omega.{arith}
use lib.IntN.{ℤ}
use lib.ListN.{length, get_or, drop, length-append}
use Rattle.std.specs.Prelude.{Ok, Err, Result as Returned}
use Rattle.laws.proofs.Never.{never}
use Rattle.laws.specs.Parts.{part, written}
use Rattle.snesl.specs.declared.code.Base.{Base}
use Rattle.snesl.specs.declared.code.Base.TheVariants as base
use Rattle.snesl.specs.declared.code.Kind.TheVariants.{Bools, Flags}
use Rattle.snesl.specs.declared.code.Transducer.TheVariants.{UPack, Distr, Usum}
use Rattle.snesl.specs.declared.refusal.Refusal.{Refusal}
use Rattle.snesl.specs.Trees.{Tree, node, inner, outer, order, map_tree}
use Rattle.snesl.specs.Streams.{Stream, units, kind_of, len, data_kind, base_in, Store, ◌!◌}
use Rattle.snesl.specs.Programs.{Program, done, define, dv, fv, among, ascending}
use Rattle.snesl.specs.Machine.{State, onward}
use Rattle.snesl.specs.Translation.{id, pack_size, pack_tree, pack_code, controlled}
use Rattle.environment.specs.Words.{place_words, tree_words, tree_size}
use Rattle.environment.proofs.Stack.{part-front, part-back, drop-written, length-written, at-written}
use Rattle.environment.proofs.Finding.{length-tree}
use Rattle.sink.specs.declared.state.Walk.{Walk}
use Rattle.sink.specs.Sinks.{Sink, defined, opened, closed, feed}
use Rattle.steps.specs.Walking.{stepped, walked}
use Rattle.steps.specs.Holding.{Held, keeps, place, PlacedAt, Stopping}
use Rattle.steps.proofs.Stores.{kept, newest}
use Rattle.steps.proofs.Walking.{walked-define, walked-with}
use Rattle.steps.proofs.Stepping.{units_of_lem}
use Rattle.steps.proofs.Performing.{stopping-as}
use Rattle.leaves.specs.Making.{Makes, Instructed}
use Rattle.leaves.proofs.Operands.{named-there}
use Rattle.leaves.proofs.Growing.{keeps_then, onward-as, onward-stop, onward-done}
use Rattle.leaves.proofs.Making.{Making, making, stopping}
use Rattle.bodies.proofs.Feeding.{wide-like, like-defined}
use Rattle.guards.specs.Packs.{Puts, Placed, Packs, pack_answer, deeper, opens, Level, Levels}
use Rattle.guards.specs.declared.Packing.{Packing}
use Rattle.guards.proofs.Words.{beside-written}
use Rattle.guards.proofs.Growth.{data-solid, base-is, kinds_kept, words-kept, kinds-outer, kinds-inner, moved, place-later}
use Rattle.guards.proofs.Putting.{Stored, stored, halts}

grown-one : (σ ρ : Store) (a : Stream) → ρ ≡ σ ++ a ∷ [] → length ρ ≡ length σ + 1
grown-one σ ρ a e = ap length e ∙ length-append σ (a ∷ [])

module _ {p : Packing} {d : ℕ} {t : Tree ℕ d} {f b : ℕ} {c : Base} {m : State} {k : Sink} {env : List ℕ} {buf : List ℤ} {state : Walk} {text : List ℕ} (g : Packs p (node t f) b c m k env buf state text) where
  abbrev z : ℕ
  z = length m.store

  abbrev flags_at : ℕ
  flags_at = p.from + 3 * p.depth

  abbrev flags_to : ℕ
  flags_to = p.to + 3 * p.depth

  three : 3 * p.depth ≡ tree_size d
  three = omega (arith, g.deep)

  words-two : part p.from (tree_size d + 3) env ≡ tree_words (map_tree (place m.store) t) ++ place_words (place m.store f)
  unfolding tree_words map_tree
  words-two = let more : tree_size d + 3 ≡ tree_size (suc d) = omega arith in ap (λ n. part p.from n env) more ∙ g.words

  items-words : part p.from (tree_size d) env ≡ tree_words (map_tree (place m.store) t)
  items-words =
      part-front env p.from (tree_size d) 3 (tree_words (map_tree (place m.store) t)) (place_words (place m.store f)) words-two (length-tree (map_tree (place m.store) t))

  flags-placed : PlacedAt m.store env Flags f (p.from + 3 * p.depth)
  unfolding outer
  flags-placed =
      let r = kinds-outer g.kinds in
      let there : p.from + 3 * p.depth ≡ p.from + tree_size d = ap (λ n. p.from + n) three in
      record {
        stream = r.0;
        there = r.1;
        kind = r.2;
        words =
            ap (λ q. part q 3 env) there
            ∙ part-back env p.from (tree_size d) 3 (tree_words (map_tree (place m.store) t)) (place_words (place m.store f)) words-two (length-tree (map_tree (place m.store) t));
      }

  pub flags-named : get_or env (p.from + 3 * p.depth) 0 ≡ f
  flags-named = named-there flags-placed

  pub bools-named : get_or env p.bools 0 ≡ b
  bools-named = named-there g.placed

  pub flags-within : p.from + 3 * p.depth + 3 ≤ length env
  flags-within = omega (arith, three, g.within)

  pub low-enough : 3 ≤ p.low
  low-enough = omega (arith, g.free)

  pub packs-fit : p.to + 3 * p.depth + 3 ≤ length env
  packs-fit = omega (arith, three, g.apart, g.within)

  few : length m.store + 3 + pack_size d ≤ Rattle.steps.specs.Holding.most_streams
  unfolding pack_size
  few = omega (arith, g.few)

  -- the flags packed
  pub upack-ready : Puts (UPack (id b) (id f)) (record { first = p.bools; second = p.from + 3 * p.depth }) (p.to + 3 * p.depth) env buf state text m k
  upack-ready =
      record {
        makes = record { executable = record { held = g.held; base = base.Int; placed = (g.placed, (flags-placed, tt)); more = omega (arith, few) }; sunk = g.sunk };
        solid = λ e q. never (cc);
        fits = packs-fit;
      }

  -- the rest of its code
  abbrev under : Program
  under = controlled (z + 2) (z + 3) (pack_code (z + 1) t (z + 3)) (pack_tree t (z + 3))

  abbrev last : Program
  last = define (Usum (id f)) (controlled (z + 2) (z + 3) (pack_code (z + 1) t (z + 3)) (pack_tree t (z + 3)))

  abbrev rest : Program
  rest = define (Distr (id f) (id b)) last

  first_code : (cap n : ℕ) → walked cap n (pack_code b (node t f) z) m ≡ onward (stepped cap n (UPack (id b) (id f)) m) (walked cap n rest)
  unfolding pack_code
  first_code cap n = walked-define cap n (UPack (id b) (id f)) rest m

  abbrev sink₁ : Sink
  sink₁ = defined z (UPack (id b) (id f)) k

  module _ (n : ℕ) {env₁ : List ℕ} {buf₁ : List ℤ} {state₁ : Walk} {text₁ : List ℕ} (o : Stored (length buf) n (UPack (id b) (id f)) (p.to + 3 * p.depth) m k env env₁ buf buf₁ state₁ text₁) where
    next₁ : length o.after.store ≡ z + 1
    next₁ = grown-one m.store o.after.store o.stream o.store

    abbrev words₁ : List ℕ
    words₁ = place_words (place o.after.store z)

    pub long₁ : length env₁ ≡ length env
    long₁ = ap length o.words ∙ length-written env flags_to words₁ packs-fit

    flags₁ : PlacedAt o.after.store env₁ Flags f (p.from + 3 * p.depth)
    flags₁ =
        moved (o.stream ∷ []) flags-placed o.store
        (ap (part flags_at 3) o.words ∙ beside-written flags_to words₁ env flags_at 3 packs-fit (inr (omega (arith, three, g.apart))))

    bools₁ : PlacedAt o.after.store env₁ Bools b p.bools
    bools₁ =
        moved (o.stream ∷ []) g.placed o.store
        (ap (part p.bools 3) o.words
        ∙ beside-written flags_to words₁ env p.bools 3 packs-fit (⊎_elim (λ h. inr (after h)) (λ h. inl (before h)) g.aside))
      where
        after : p.to + tree_size (suc d) ≤ p.bools → p.to + 3 * p.depth + 3 ≤ p.bools
        after h = omega (arith, three)

        before : (p.low ≤ p.bools) × (p.bools + 3 ≤ p.to) → p.bools + 3 ≤ p.to + 3 * p.depth
        before h = omega (arith, h.1)

    -- the bools spread over the items
    pub distr-ready : Puts (Distr (id f) (id b)) (record { first = p.from + 3 * p.depth; second = p.bools }) (p.low - 3) env₁ buf₁ state₁ text₁ o.after (defined (length m.store) (UPack (id b) (id f)) k)
    distr-ready =
        record {
          makes =
              record {
                executable = record { held = o.held; base = base.Bool; placed = (flags₁, (bools₁, tt)); more = omega (arith, few, next₁) };
                sunk = o.sunk;
              };
          solid = λ e q. data-solid e q;
          fits = omega (arith, low-enough, long₁, g.low, g.apart, g.within);
        }

    abbrev sink₂ : Sink
    sink₂ = defined (length o.after.store) (Distr (id f) (id b)) sink₁

    module _ {env₂ : List ℕ} {buf₂ : List ℤ} {state₂ : Walk} {text₂ : List ℕ} (same₁ : length buf₁ ≡ length buf)
        (o₂ : Stored (length buf₁) n (Distr (id f) (id b)) (p.low - 3) o.after (defined (length m.store) (UPack (id b) (id f)) k) env₁ env₂ buf₁ buf₂ state₂ text₂) where
      next₂ : length o₂.after.store ≡ z + 2
      next₂ = grown-one o.after.store o₂.after.store o₂.stream o₂.store ∙ omega (arith, next₁)

      abbrev words₂ : List ℕ
      words₂ = place_words (place o₂.after.store (length o.after.store))

      fits₂ : p.low - 3 + 3 ≤ length env₁
      fits₂ = omega (arith, low-enough, long₁, g.low, g.apart, g.within)

      pub long₂ : length env₂ ≡ length env
      long₂ = ap length o₂.words ∙ (length-written env₁ (p.low - 3) words₂ fits₂ ∙ long₁)

      flags₂ : PlacedAt o₂.after.store env₂ Flags f (p.from + 3 * p.depth)
      flags₂ =
          moved (o₂.stream ∷ []) flags₁ o₂.store
          (ap (part flags_at 3) o₂.words ∙ beside-written (p.low - 3) words₂ env₁ flags_at 3 fits₂ (inr (omega (arith, low-enough, g.low, g.apart))))

      pub usum-ready : (q : ℕ) → Makes (Usum (id f)) (record { first = p.from + 3 * p.depth; second = q }) env₂ buf₂ state₂ text₂ o₂.after (defined (length o.after.store) (Distr (id f) (id b)) (defined (length m.store) (UPack (id b) (id f)) k))
      usum-ready q =
          record { executable = record { held = o₂.held; base = base.Int; placed = (flags₂, tt); more = omega (arith, few, next₂) }; sunk = o₂.sunk }

      second-code : walked (length buf) n (pack_code b (node t f) z) m ≡ onward (stepped (length buf) n (Usum (id f)) o₂.after) (walked (length buf) n (controlled (z + 2) (z + 3) (pack_code (z + 1) t (z + 3)) (pack_tree t (z + 3))))
      second-code =
          first_code (length buf) n
          ∙ (onward-as (walked (length buf) n rest) o.went_to
          ∙ (walked-define (length buf) n (Distr (id f) (id b)) last o.after
          ∙ (onward-as (walked (length buf) n last) (ap (λ l. stepped l n (Distr (id f) (id b)) o.after) (sym same₁) ∙ o₂.went_to)
          ∙ walked-define (length buf) n (Usum (id f)) (controlled (z + 2) (z + 3) (pack_code (z + 1) t (z + 3)) (pack_tree t (z + 3))) o₂.after)))

      module _ {buf₃ : List ℤ} {state₃ : Walk} {text₃ : List ℕ} {i : ℕ} (same₂ : length buf₂ ≡ length buf)
          (u : Making (length buf₂) n (Usum (id f)) o₂.after (defined (length o.after.store) (Distr (id f) (id b)) (defined (length m.store) (UPack (id b) (id f)) k)) buf₂ buf₃ state₃ text₃ i) where
        units-stored : u.after.store ≡ o₂.after.store ++ units i ∷ []
        units-stored =
            let v = units_of_lem u.added-to.stream u.added-to.kind in
            u.added-to.store ∙ ap (λ a. o₂.after.store ++ a ∷ []) (v.1 ∙ ap units (sym (u.long ∙ ap len v.1)))

        quiet : n ≡ 0 → i ≡ 0
        quiet q = u.long ∙ ap len (u.added-to.quiet q)

        next₃ : length u.after.store ≡ z + 3
        next₃ = grown-one o₂.after.store u.after.store (units i) units-stored ∙ omega (arith, next₂)

        since-first : u.after.store ≡ o.after.store ++ (o₂.stream ∷ units i ∷ [])
        since-first = units-stored ∙ (ap (λ σ. σ ++ units i ∷ []) o₂.store ∙ append_assoc o.after.store (o₂.stream ∷ []) (units i ∷ []))

        since : u.after.store ≡ m.store ++ (o.stream ∷ o₂.stream ∷ units i ∷ [])
        since = since-first ∙ (ap (λ σ. σ ++ (o₂.stream ∷ units i ∷ [])) o.store ∙ append_assoc m.store (o.stream ∷ []) (o₂.stream ∷ units i ∷ []))

        control-there : u.after.store ! (z + 2) ≡ some (units i)
        control-there =
            ap (λ j. u.after.store ! j) (sym next₂) ∙ (ap (λ σ. σ ! length o₂.after.store) units-stored ∙ newest o₂.after.store (units i))

        whole : walked (length buf) n (pack_code b (node t f) z) m ≡ walked (length buf) i (pack_code (z + 1) t (length u.after.store)) u.after
        whole =
            second-code
            ∙ (onward-as (walked (length buf) n (controlled (z + 2) (z + 3) (pack_code (z + 1) t (z + 3)) (pack_tree t (z + 3))))
            (ap (λ l. stepped l n (Usum (id f)) o₂.after) (sym same₂) ∙ u.went_to)
            ∙ (walked-with (length buf) n i _ (z + 2) _ (pack_code (z + 1) t (z + 3)) done u.after control-there quiet
            ∙ (onward-done (length buf) n (walked (length buf) i (pack_code (z + 1) t (z + 3)) u.after)
            ∙ ap (λ s. walked (length buf) i (pack_code (z + 1) t s) u.after) (sym next₃))))

        abbrev sink₃ : Sink
        sink₃ = defined (length o₂.after.store) (Usum (id f)) (defined (length o.after.store) (Distr (id f) (id b)) (defined (length m.store) (UPack (id b) (id f)) k))

        -- what is told, by the ids in it
        abbrev telling : (s₁ s₂ s₃ a s : ℕ) → Sink
        telling s₁ s₂ s₃ a s =
            closed
            (feed s₃ (pack_code (z + 1) t s)
            (opened (ascending (among (order (pack_tree t s)) (dv s (pack_code (z + 1) t s)))) a (ascending (fv s (pack_code (z + 1) t s)))
            (defined s₂ (Usum (id f)) (defined s₁ (Distr (id f) (id b)) (defined z (UPack (id b) (id f)) k)))))

        fed : feed z (pack_code b (node t f) z) k
            ≡ closed (feed (length u.after.store) (pack_code (z + 1) t (length u.after.store)) (opens (z + 1) t (length u.after.store) sink₃))
        unfolding pack_code feed
        fed =
            let p₁ : suc z ≡ length o.after.store = omega (arith, next₁) in
            let p₂ : suc (suc z) ≡ length o₂.after.store = omega (arith, next₂) in
            let p₃ : suc (suc (suc z)) ≡ length u.after.store = omega (arith, next₃) in
            let p₄ : z + 2 ≡ length u.after.store - 1 = omega (arith, next₃) in
            let p₅ : z + 3 ≡ length u.after.store = omega (arith, next₃) in
            λ j. telling (p₁ j) (p₂ j) (p₃ j) (p₄ j) (p₅ j)

        spread-there : o₂.after.store ! length o.after.store ≡ some o₂.stream
        spread-there = ap (λ σ. σ ! length o.after.store) o₂.store ∙ newest o.after.store o₂.stream

        spread-kind : kind_of o₂.stream ≡ Bools
        spread-kind = o₂.kind ∙ ap data_kind (ap base_in bools₁.there ∙ base-is bools₁.stream base.Bool bools₁.kind)

        spread-placed : PlacedAt u.after.store env₂ Bools (z + 1) (p.low - 3)
        spread-placed =
            subst (λ s. PlacedAt u.after.store env₂ Bools s (p.low - 3)) next₁
            (moved (units i ∷ [])
            (record {
              stream = o₂.stream;
              there = spread-there;
              kind = spread-kind;
              words = ap (part (p.low - 3) 3) o₂.words ∙ at-written env₁ (p.low - 3) words₂ fits₂;
            })
            units-stored refl)

        still-words : part p.from (tree_size d) env₂ ≡ tree_words (map_tree (place u.after.store) t)
        unfolding inner
        still-words =
            ap (part p.from (tree_size d)) o₂.words
            ∙ (beside-written (p.low - 3) words₂ env₁ p.from (tree_size d) fits₂ (inr (omega (arith, low-enough, g.low, g.apart)))
            ∙ (ap (part p.from (tree_size d)) o.words
            ∙ (beside-written flags_to words₁ env p.from (tree_size d) packs-fit (inr (omega (arith, three, g.apart)))
            ∙ (items-words
            ∙ ap tree_words (sym (ap (λ σ. map_tree (place σ) t) since ∙ words-kept m.store (o.stream ∷ o₂.stream ∷ units i ∷ []) (kinds-inner g.kinds)))))))

        items : Packs (deeper p) t (z + 1) c u.after sink₃ env₂ buf₃ state₃ text₃
        unfolding inner
        items =
            record {
              deep = omega (arith, g.deep);
              held = u.held;
              sunk = u.sunk;
              wide =
                  wide-like (like-defined (defined (length o.after.store) (Distr (id f) (id b)) sink₁) (length o₂.after.store) (Usum (id f)))
                  (wide-like (like-defined sink₁ (length o.after.store) (Distr (id f) (id b))) (wide-like (like-defined k z (UPack (id b) (id f))) g.wide));
              kinds = subst (λ σ. Rattle.guards.specs.Packs.Kinds σ c d t) (sym since) (kinds_kept m.store (o.stream ∷ o₂.stream ∷ units i ∷ []) (kinds-inner g.kinds));
              words = still-words;
              placed = spread-placed;
              shallow = omega (arith, g.shallow);
              free = omega (arith, g.free);
              low = omega (arith, g.low);
              apart = omega (arith, g.apart);
              within = omega (arith, g.within, long₂);
              aside = inr (omega arith, omega (arith, low-enough, g.low));
              inside = omega (arith, fits₂, long₁, long₂);
              few = omega (arith, few, next₃);
            }

        flags-made : u.after.store ! z ≡ some o.stream
        flags-made =
            ap (λ σ. σ ! z) since-first
            ∙ kept o.after.store (o₂.stream ∷ units i ∷ []) z o.stream (ap (λ σ. σ ! z) o.store ∙ newest m.store o.stream)

        upper-words : drop p.low env₂ ≡ drop p.low (written (p.to + tree_size d) (place_words (place u.after.store z)) env)
        upper-words =
            let made : o.after.store ! z ≡ some o.stream = ap (λ σ. σ ! z) o.store ∙ newest m.store o.stream in
            ap (drop p.low) o₂.words
            ∙ (drop-written env₁ (p.low - 3) p.low words₂ (omega (arith, low-enough)) (omega (arith, long₁, g.low, g.apart, g.within))
            ∙ (ap (drop p.low) o.words
            ∙ (ap (λ i. drop p.low (written (p.to + i) words₁ env)) three
            ∙ ap (λ q. drop p.low (written (p.to + tree_size d) (place_words q) env)) (sym (place-later o.after.store (o₂.stream ∷ units i ∷ []) z made since-first)))))

        pub level : Level p t f b c m k n i env env₂ buf buf₃ state₃ text₃ u.after (defined (length o₂.after.store) (Usum (id f)) (defined (length o.after.store) (Distr (id f) (id b)) (defined (length m.store) (UPack (id b) (id f)) k)))
        level =
            record {
              streams = o.stream ∷ o₂.stream ∷ units i ∷ [];
              store = since;
              number = next₃;
              items = items;
              whole = whole;
              fed = fed;
              kept =
                  keeps_then o₂.after.store (units i ∷ []) u.after.store buf buf₂ buf₃
                  (keeps_then o.after.store (o₂.stream ∷ []) o₂.after.store buf buf₁ buf₂ o.kept o₂.kept o₂.store) u.kept units-stored;
              flags = o.stream;
              flags-there = flags-made;
              flags-kind = o.kind;
              long = long₂;
              words = upper-words;
            }

-- ---- the function's way, with the ids as they are read from the stack

module _ {p : Packing} {d : ℕ} {t : Tree ℕ d} {f b : ℕ} {c : Base} {m : State} {k : Sink} {env : List ℕ} {buf : List ℤ} {state : Walk} {text : List ℕ} (g : Packs p (node t f) b c m k env buf state text) where
  upack-is : UPack (id (get_or env p.bools 0)) (id (get_or env (p.from + 3 * p.depth) 0)) ≡ UPack (id b) (id f)
  upack-is = ap₂ (λ i j. UPack (id i) (id j)) (bools-named g) (flags-named g)

  distr-is : Distr (id (get_or env (p.from + 3 * p.depth) 0)) (id (get_or env p.bools 0)) ≡ Distr (id f) (id b)
  distr-is = ap₂ (λ i j. Distr (id i) (id j)) (flags-named g) (bools-named g)

  usum-is : Usum (id (get_or env (p.from + 3 * p.depth) 0)) ≡ Usum (id f)
  usum-is = ap (λ i. Usum (id i)) (flags-named g)

  pub first-ready : Puts (UPack (id (get_or env p.bools 0)) (id (get_or env (p.from + 3 * p.depth) 0))) (record { first = p.bools; second = p.from + 3 * p.depth }) (p.to + 3 * p.depth) env buf state text m k
  first-ready = subst (λ t. Puts t (record { first = p.bools; second = p.from + 3 * p.depth }) (p.to + 3 * p.depth) env buf state text m k) (sym upack-is) (upack-ready g)

  stops_so : {n : ℕ} {env' : List ℕ} {buf' : List ℤ} {state' : Walk} {text' : List ℕ} {q : Refusal} → Stopping (walked (length buf) n (pack_code b (node t f) (length m.store)) m) q
      → Levels p t f b c m k n env env' buf buf' state' text' (Err q)
  stops_so {q = q} s =
      record {
        goes_in = λ i e. never (cc);
        stops = λ q' e. let same : q ≡ q' = cc in ap Err (sym same) ∙ (ap Err s.refuses ∙ ap pack_answer (sym s.stops));
      }

  module _ (n : ℕ) {env₁ : List ℕ} {buf₁ : List ℤ} {state₁ : Walk} {text₁ : List ℕ} {r₁ : Returned ℕ Refusal}
      (w₁ : Placed (length buf) n (UPack (id (get_or env p.bools 0)) (id (get_or env (p.from + 3 * p.depth) 0))) (p.to + 3 * p.depth) m k env env₁ buf buf₁ state₁ text₁ r₁) where
    own₁ : Placed (length buf) n (UPack (id b) (id f)) (p.to + 3 * p.depth) m k env env₁ buf buf₁ state₁ text₁ r₁
    own₁ = subst (λ t. Placed (length buf) n t (p.to + 3 * p.depth) m k env env₁ buf buf₁ state₁ text₁ r₁) upack-is w₁

    pub first-stopped : {q : Refusal} → r₁ ≡ Err q → Levels p t f b c m k n env env₁ buf buf₁ state₁ text₁ (Err q)
    first-stopped e = stops_so (stopping-as (first_code g (length buf) n) (onward-stop (walked (length buf) n (rest g)) (halts own₁ e)))

    module _ {l₁ : ℕ} (e₁ : r₁ ≡ Ok l₁) where
      pub so₁ : Stored (length buf) n (UPack (id b) (id f)) (p.to + 3 * p.depth) m k env env₁ buf buf₁ state₁ text₁
      so₁ = stored own₁ e₁

      pub second-ready : Puts (Distr (id (get_or env (p.from + 3 * p.depth) 0)) (id (get_or env p.bools 0))) (record { first = p.from + 3 * p.depth; second = p.bools }) (p.low - 3) env₁ buf₁ state₁ text₁ so₁.after (defined (length m.store) (UPack (id b) (id f)) k)
      second-ready =
          subst (λ t. Puts t (record { first = p.from + 3 * p.depth; second = p.bools }) (p.low - 3) env₁ buf₁ state₁ text₁ so₁.after (defined (length m.store) (UPack (id b) (id f)) k)) (sym distr-is)
          (distr-ready g n so₁)

      module _ {env₂ : List ℕ} {buf₂ : List ℤ} {state₂ : Walk} {text₂ : List ℕ} {r₂ : Returned ℕ Refusal} (same₁ : length buf₁ ≡ length buf)
          (w₂ : Placed (length buf₁) n (Distr (id (get_or env (p.from + 3 * p.depth) 0)) (id (get_or env p.bools 0))) (p.low - 3) so₁.after (defined (length m.store) (UPack (id b) (id f)) k) env₁ env₂ buf₁ buf₂ state₂ text₂ r₂) where
        own₂ : Placed (length buf₁) n (Distr (id f) (id b)) (p.low - 3) so₁.after (defined (length m.store) (UPack (id b) (id f)) k) env₁ env₂ buf₁ buf₂ state₂ text₂ r₂
        own₂ = subst (λ t. Placed (length buf₁) n t (p.low - 3) so₁.after (defined (length m.store) (UPack (id b) (id f)) k) env₁ env₂ buf₁ buf₂ state₂ text₂ r₂) distr-is w₂

        pub second-stopped : {q : Refusal} → r₂ ≡ Err q → Levels p t f b c m k n env env₂ buf buf₂ state₂ text₂ (Err q)
        second-stopped {q} e =
            let s = halts own₂ e in
            stops_so
            (stopping-as
            (first_code g (length buf) n
            ∙ (onward-as (walked (length buf) n (rest g)) so₁.went_to ∙ (walked-define (length buf) n (Distr (id f) (id b)) (last g) so₁.after ∙ ap (λ l. onward (stepped l n (Distr (id f) (id b)) so₁.after) (walked (length buf) n (last g))) (sym same₁))))
            (onward-stop (walked (length buf) n (last g)) s))

        module _ {l₂ : ℕ} (e₂ : r₂ ≡ Ok l₂) where
          pub so₂ : Stored (length buf₁) n (Distr (id f) (id b)) (p.low - 3) so₁.after (defined (length m.store) (UPack (id b) (id f)) k) env₁ env₂ buf₁ buf₂ state₂ text₂
          so₂ = stored own₂ e₂

          pub third-ready : Makes (Usum (id (get_or env (p.from + 3 * p.depth) 0))) (record { first = p.from + 3 * p.depth; second = p.bools }) env₂ buf₂ state₂ text₂ so₂.after (defined (length so₁.after.store) (Distr (id f) (id b)) (defined (length m.store) (UPack (id b) (id f)) k))
          third-ready =
              subst (λ t. Makes t (record { first = p.from + 3 * p.depth; second = p.bools }) env₂ buf₂ state₂ text₂ so₂.after (defined (length so₁.after.store) (Distr (id f) (id b)) (defined (length m.store) (UPack (id b) (id f)) k))) (sym usum-is)
              (usum-ready g n so₁ same₁ so₂ p.bools)

          module _ {buf₃ : List ℤ} {state₃ : Walk} {text₃ : List ℕ} {r₃ : Returned ℕ Refusal} (same₂ : length buf₂ ≡ length buf)
              (w₃ : Instructed (stepped (length buf₂) n (Usum (id (get_or env (p.from + 3 * p.depth) 0))) so₂.after) (Usum (id (get_or env (p.from + 3 * p.depth) 0))) so₂.after (defined (length so₁.after.store) (Distr (id f) (id b)) (defined (length m.store) (UPack (id b) (id f)) k)) buf₂ buf₃ state₃ text₃ r₃) where
            own₃ : Instructed (stepped (length buf₂) n (Usum (id f)) so₂.after) (Usum (id f)) so₂.after (defined (length so₁.after.store) (Distr (id f) (id b)) (defined (length m.store) (UPack (id b) (id f)) k)) buf₂ buf₃ state₃ text₃ r₃
            own₃ =
                subst (λ t. Instructed (stepped (length buf₂) n t so₂.after) t so₂.after (defined (length so₁.after.store) (Distr (id f) (id b)) (defined (length m.store) (UPack (id b) (id f)) k)) buf₂ buf₃ state₃ text₃ r₃)
                usum-is w₃

            pub level-ends : Levels p t f b c m k n env env₂ buf buf₃ state₃ text₃ r₃
            level-ends =
                record {
                  goes_in = λ i e. (_, _, level g n so₁ same₁ so₂ same₂ (making (length buf₂) n (Usum (id f)) own₃ i e));
                  stops =
                      λ q e.
                      let s =
                      stopping-as (second-code g n so₁ same₁ so₂ ∙ ap (λ l. onward (stepped l n (Usum (id f)) so₂.after) (walked (length buf) n (under g))) (sym same₂))
                      (onward-stop (walked (length buf) n (under g)) (stopping (length buf₂) n (Usum (id f)) own₃ q e)) in
                      ap Err s.refuses ∙ ap pack_answer (sym s.stops);
                }
