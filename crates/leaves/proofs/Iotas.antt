-- Iota as a whole: its flags, what follows them, and the two places that its tree has.
use Prim.Native.Nat.{ℕ, ◌+◌, ◌-◌, ◌≤◌, ◌<◌}
use mathlib.Core.Bool.{Bool}
use mathlib.Core.List.{List, [], ◌∷◌, ◌++◌, append_assoc}
use mathlib.Core.Option.{some}
use mathlib.Core.Path.{◌≡◌, refl, sym, ◌∙◌, ap, subst}
use native.Mathlib.Omega.{arith}
use lib.IntN.{ℤ}
use lib.ListN.{length, get_or, drop, length-append, length-map}
use Rattle.laws.proofs.Never.{never}
use Rattle.laws.specs.Parts.{written}
use Rattle.snesl.specs.declared.code.Variable.{Variable}
use Rattle.snesl.specs.declared.code.Transducer.{Transducer}
use Rattle.snesl.specs.declared.code.Transducer.TheVariants.{ToFlags}
use Rattle.snesl.specs.declared.code.Base.TheVariants as base
use Rattle.snesl.specs.declared.refusal.Refusal.{Refusal}
use Rattle.snesl.specs.Values.{int}
use Rattle.snesl.specs.Terms as terms
use Rattle.snesl.specs.Terms.{lookup}
use Rattle.snesl.specs.Trees.{leaf, root, map_tree}
use Rattle.snesl.specs.Streams.{Stream, ints, flags, len, bit, Store, ◌!◌}
use Rattle.snesl.specs.Machine.{State, Result, went, stopped, onward}
use Rattle.snesl.specs.Outcome.{refusal_of}
use Rattle.snesl.specs.Translation.{id, code, tree}
use Rattle.environment.specs.Words.{place_words, tree_words, Entry}
use Rattle.environment.proofs.Stack.{front-is, lowered, length-written}
use Rattle.sink.specs.declared.state.Walk.{Walk}
use Rattle.sink.specs.Sinks.{Sink, defined, feed}
use Rattle.sink.specs.Sunk.{Sunk}
use Rattle.steps.specs.Walking.{stepped, walked}
use Rattle.steps.specs.Holding.{Held, keeps, place, Stopping}
use Rattle.std.specs.Prelude.{Ok, Err, Result as Returned}
use Rattle.steps.proofs.Stores.{newest, kept}
use Rattle.steps.proofs.Stepping.{flags_of}
use Rattle.steps.proofs.Walking.{walked-define}
use Rattle.steps.proofs.Performing.{stopping-as}
use Rattle.leaves.specs.Places.{places, Shapely, shapely-node}
use Rattle.leaves.specs.Scenes.{Runs, reached}
use Rattle.leaves.specs.Making.{Makes, Instructed}
use Rattle.leaves.specs.Arms.{Counting, Flagged, counting_up, Counted}
use Rattle.leaves.proofs.Told.{define-fed}
use Rattle.leaves.proofs.Places.{place_kept}
use Rattle.leaves.proofs.Growing.{keeps_then, onward-as, onward-stop}
use Rattle.leaves.proofs.Operands.{named-there, scalar-placed}
use Rattle.leaves.proofs.Making.{Making, making, stopping}
use Rattle.leaves.proofs.Running.{ran-through, ran-stopped, ran-as}
use Rattle.leaves.proofs.Singles.{pushable, pushed-words, made-shapely}

-- ---- what `count_up` answered

module _ {res : Result} {k : Sink} {m : State} {sp : ℕ} {env env' : List ℕ} {old new : List ℤ} {state : Walk} {text : List ℕ} {r : Returned ℕ Refusal} (c : Counted res k m sp env env' old new state text r) where
  pub record Ended (l : ℕ) : Type 0 where
    pub after : State
    pub went_to : res ≡ went after
    pub between : List Stream
    pub items : List ℤ
    pub store : after.store ≡ m.store ++ between ++ ints items ∷ []
    pub two : length between ≡ 2
    pub long : l ≡ length items
    pub held : Held after new state.machine
    pub kept-behind : keeps after.store old new
    pub sunk : Sunk k text state.sink
    pub words : drop (sp - 3) env' ≡ drop (sp - 3) env

  pub ended : (l : ℕ) → r ≡ Ok l → Ended l
  ended l e = go res refl
    where
      go : (x : Result) → res ≡ x → Ended l
      go (went m') q =
          let f = c.went_on m' q in
          let same : Ok l ≡ Ok (length f.1) = sym e ∙ f.4 in
          record { after = m'; went_to = q; between = f.0; items = f.1; store = f.2; two = f.3; long = cc; held = f.5; kept-behind = f.6; sunk = f.7; words = f.8 }
      go (stopped why s) q = let same : Ok l ≡ Err (refusal_of why s) = sym e ∙ c.gave-up why s q in never (cc)

  pub counted-stopping : (q : Refusal) → r ≡ Err q → Stopping res q
  counted-stopping q e = go res refl
    where
      go : (x : Result) → res ≡ x → Stopping res q
      go (went m') g = let same : Err q ≡ Ok (length (c.went_on m' g).1) = sym e ∙ (c.went_on m' g).4 in never (cc)
      go (stopped why s) g =
          let same : Err q ≡ Err (refusal_of why s) = sym e ∙ c.gave-up why s g in
          record { why = why; where-at = s; stops = g; refuses = cc }

-- ---- the whole

module _ {x : Variable} {sp : ℕ} {env : List ℕ} {buf : List ℤ} {state : Walk} {text : List ℕ} (g : Counting x sp env buf state text) {p : ℕ}
    (e : Entry env sp p (lookup g.pointer (places g.scene.machine.store g.scene.trees))) where
  abbrev pub to_flags : Transducer
  to_flags = ToFlags (id (root (lookup g.pointer g.scene.trees)))

  pub flags-named : get_or env (p + 2) 0 ≡ root (lookup g.pointer g.scene.trees)
  flags-named = named-there (scalar-placed g.scene g.pointer e)

  pub flags-ready : (q : ℕ) → Makes (ToFlags (id (get_or env (p + 2) 0))) (record { first = p + 2; second = q }) env buf state text g.scene.machine g.scene.sink
  flags-ready q =
      subst (λ i. Makes (ToFlags (id i)) (record { first = p + 2; second = q }) env buf state text g.scene.machine g.scene.sink) (sym flags-named)
      (record {
        executable = record { held = g.scene.held; base = base.Int; placed = (scalar-placed g.scene g.pointer e, tt); more = omega (arith, g.few) };
        sunk = g.scene.sunk;
      })

  module _ (n : ℕ) {buf₁ : List ℤ} {state₁ : Walk} {text₁ : List ℕ} {r₁ : Returned ℕ Refusal}
      (p₁ : Instructed (stepped (length buf) n (ToFlags (id (get_or env (p + 2) 0))) g.scene.machine) (ToFlags (id (get_or env (p + 2) 0))) g.scene.machine g.scene.sink buf buf₁ state₁ text₁ r₁) where
    abbrev pub own : Instructed (stepped (length buf) n to_flags g.scene.machine) to_flags g.scene.machine g.scene.sink buf buf₁ state₁ text₁ r₁
    own =
        subst (λ i. Instructed (stepped (length buf) n (ToFlags (id i)) g.scene.machine) (ToFlags (id i)) g.scene.machine g.scene.sink buf buf₁ state₁ text₁ r₁) flags-named p₁

    whole : walked (length buf) n (code (terms.iota g.pointer) g.scene.trees (length g.scene.machine.store)) g.scene.machine
        ≡ onward (stepped (length buf) n to_flags g.scene.machine) (walked (length buf) n (counting_up (length g.scene.machine.store)))
    unfolding code
    whole = walked-define (length buf) n to_flags (counting_up (length g.scene.machine.store)) g.scene.machine

    pub flags-stopped : {env' : List ℕ} {q : Refusal} (next : ℕ) → r₁ ≡ Err q → Runs g.scene (terms.iota g.pointer) n next env' buf₁ state₁ text₁ (Err q)
    flags-stopped {q = q} next f =
        ran-stopped
        (stopping-as whole
        (onward-stop (walked (length buf) n (counting_up (length g.scene.machine.store))) (stopping (length buf) n to_flags own q f)))

    module _ {i : ℕ} (e₁ : r₁ ≡ Ok i) where
      σ : Store
      σ = g.scene.machine.store

      abbrev pub flags-made : Making (length buf) n to_flags g.scene.machine g.scene.sink buf buf₁ state₁ text₁ i
      flags-made = making (length buf) n to_flags own i e₁

      bits : (bs : List Bool) × (flags-made.added-to.stream ≡ flags bs)
      bits = flags_of flags-made.added-to.stream flags-made.added-to.kind

      flags-stored : flags-made.after.store ≡ σ ++ flags bits.0 ∷ []
      unfolding σ
      flags-stored = flags-made.added-to.store ∙ ap (λ a. g.scene.machine.store ++ a ∷ []) bits.1

      flags_long : i ≡ length bits.0
      flags_long = flags-made.long ∙ ap len bits.1

      one_more_lem : length flags-made.after.store ≡ length σ + 1
      one_more_lem = ap length flags-stored ∙ length-append σ (flags bits.0 ∷ [])

      pub flags-push : (1 ≤ state₁.machine.streams) × (state₁.machine.streams < 4294967296) × (i ≤ state₁.machine.room) × (state₁.machine.room < 4294967296)
      flags-push = pushable flags-made.held σ (flags bits.0) flags-stored (length-map bits.0 bit) flags_long

      module _ {env₁ : List ℕ} (w₁ : env₁ ≡ written (sp - 3) ((state₁.machine.streams - 1) ∷ (state₁.machine.room - i) ∷ i ∷ []) env) where
        flags-words : List ℕ
        flags-words = place_words (place flags-made.after.store (length σ))

        words_are : env₁ ≡ written (sp - 3) flags-words env
        unfolding flags-words
        words_are = w₁ ∙ ap (λ l. written (sp - 3) l env) (pushed-words flags-made.held σ (flags bits.0) flags-stored (length-map bits.0 bit) flags_long)

        pub long₁ : length env₁ ≡ length env
        unfolding flags-words
        long₁ = ap length words_are ∙ length-written env (sp - 3) flags-words (omega (arith, g.low, g.scene.within))

        upper : drop (sp - 3) env₁ ≡ flags-words ++ drop sp env
        unfolding flags-words
        upper = ap (drop (sp - 3)) words_are ∙ lowered env sp 3 flags-words refl (omega (arith, g.low)) g.scene.within

        flags-here : flags-made.after.store ! length σ ≡ some (flags bits.0)
        flags-here = ap (λ τ. τ ! length σ) flags-stored ∙ newest σ (flags bits.0)

        pub flagged : Flagged (length g.scene.machine.store) sp env₁ buf₁ state₁ text₁ flags-made.after (defined (length g.scene.machine.store) to_flags g.scene.sink)
        unfolding σ flags-words
        flagged =
            record {
              held = flags-made.held;
              sunk = flags-made.sunk;
              flagged =
                  record {
                    stream = flags bits.0;
                    there = flags-here;
                    kind = refl;
                    words = front-is env₁ (sp - 3) 3 flags-words (drop sp env) upper refl;
                  };
              newest = one_more_lem;
              few = omega (arith, one_more_lem, g.few);
              low = g.low;
              high = omega (arith, long₁, g.scene.within);
            }

        module _ (long : length buf₁ ≡ length buf) {env₂ : List ℕ} {buf₂ : List ℤ} {state₂ : Walk} {text₂ : List ℕ} {r₂ : Returned ℕ Refusal}
            (p₂ : Counted (walked (length buf₁) n (counting_up (length g.scene.machine.store)) flags-made.after)
            (feed (length g.scene.machine.store + 1) (counting_up (length g.scene.machine.store)) (defined (length g.scene.machine.store) to_flags g.scene.sink))
            flags-made.after sp env₁ env₂ buf₁ buf₂ state₂ text₂ r₂) where
          rest-is : walked (length buf) n (code (terms.iota g.pointer) g.scene.trees (length g.scene.machine.store)) g.scene.machine
              ≡ walked (length buf₁) n (counting_up (length g.scene.machine.store)) flags-made.after
          rest-is =
              whole
              ∙ (onward-as (walked (length buf) n (counting_up (length g.scene.machine.store))) flags-made.went_to
              ∙ ap (λ c. walked c n (counting_up (length g.scene.machine.store)) flags-made.after) (sym long))

          fed : feed (length g.scene.machine.store + 1) (counting_up (length g.scene.machine.store)) (defined (length g.scene.machine.store) to_flags g.scene.sink)
              ≡ feed (length g.scene.machine.store) (code (terms.iota g.pointer) g.scene.trees (length g.scene.machine.store)) g.scene.sink
          unfolding code
          fed = sym (define-fed (length g.scene.machine.store) to_flags (counting_up (length g.scene.machine.store)) g.scene.sink)

          pub count-stopped : {env' : List ℕ} {q : Refusal} (next : ℕ) → r₂ ≡ Err q → Runs g.scene (terms.iota g.pointer) n next env' buf₂ state₂ text₂ (Err q)
          count-stopped {q = q} next f = ran-stopped (stopping-as rest-is (counted-stopping p₂ q f))

          module _ {l : ℕ} (e₂ : r₂ ≡ Ok l) where
            end : Ended p₂ l
            end = ended p₂ l e₂

            before : Store
            before = flags-made.after.store ++ end.between

            before-long : length before ≡ length σ + 3
            unfolding before
            before-long = length-append flags-made.after.store end.between ∙ omega (arith, one_more_lem, end.two)

            pub iota-push : (1 ≤ state₂.machine.streams) × (state₂.machine.streams < 4294967296) × (l ≤ state₂.machine.room) × (state₂.machine.room < 4294967296)
            iota-push = pushable end.held (flags-made.after.store ++ end.between) (ints end.items) end.store refl end.long

            all-stored : end.after.store ≡ flags-made.after.store ++ (end.between ++ ints end.items ∷ [])
            all-stored = end.store ∙ append_assoc flags-made.after.store end.between (ints end.items ∷ [])

            flags-still : end.after.store ! length σ ≡ some (flags bits.0)
            flags-still =
                ap (λ τ. τ ! length σ) all-stored ∙ kept flags-made.after.store (end.between ++ ints end.items ∷ []) (length σ) (flags bits.0) flags-here

            flags-place : flags-words ≡ place_words (place end.after.store (length σ))
            unfolding flags-words
            flags-place =
                ap place_words
                (sym (ap (λ τ. place τ (length σ)) all-stored ∙ place_kept flags-made.after.store (end.between ++ ints end.items ∷ []) (length σ) (flags bits.0) flags-here))

            pub iota-runs : {env₃ : List ℕ} (next : ℕ) → length env₂ ≡ length env₁ → env₃ ≡ written (sp - 3 - 3) ((state₂.machine.streams - 1) ∷ (state₂.machine.room - l) ∷ l ∷ []) env₂
                → Runs g.scene (terms.iota g.pointer) n next env₃ buf₂ state₂ text₂ (reached 1 next)
            unfolding tree tree_words map_tree σ before
            iota-runs {env₃} next long₂ w₂ =
                let items_w : List ℕ = (state₂.machine.streams - 1) ∷ (state₂.machine.room - l) ∷ l ∷ [] in
                let six : sp - 6 ≡ sp - 3 - 3 = omega arith in
                let lower : drop (sp - 6) env₃ ≡ items_w ++ drop (sp - 3) env₂ =
                ap (λ c. drop c env₃) six
                ∙ (ap (drop (sp - 3 - 3)) w₂ ∙ lowered env₂ (sp - 3) 3 items_w refl (omega (arith, g.low)) (omega (arith, long₂, long₁, g.scene.within))) in
                let id₃ : length before ≡ length g.scene.machine.store + 3 = before-long in
                let items-place : items_w ≡ place_words (place end.after.store (length g.scene.machine.store + 3)) =
                pushed-words end.held before (ints end.items) end.store refl end.long ∙ ap (λ c. place_words (place end.after.store c)) id₃ in
                let both : drop (sp - 3) env₂ ≡ place_words (place end.after.store (length g.scene.machine.store)) ++ drop sp env =
                end.words ∙ (upper ∙ ap (λ q. q ++ drop sp env) flags-place) in
                ran-as refl fed refl
                (ran-through end.after (rest-is ∙ end.went_to)
                (record {
                  held = end.held;
                  sunk = end.sunk;
                  kept = keeps_then flags-made.after.store (end.between ++ ints end.items ∷ []) end.after.store buf buf₁ buf₂ flags-made.kept end.kept-behind all-stored;
                  shapely =
                      shapely-node bits.0
                      (subst (λ c. Shapely end.after.store int (leaf c)) id₃ (made-shapely end.after before base.Int end.items end.store))
                      flags-still;
                  words = lower ∙ (λ c. items-place c ++ both c);
                }))
