-- What stands before a guard's body, step by step: its flags and their units, and the listed variables' entries.
use Prim.Native.Nat.{ℕ, ◌+◌, ◌*◌, ◌-◌, ◌≤◌}
use mathlib.Core.List.{List, [], ◌∷◌, ◌++◌, append_assoc}
use mathlib.Core.Option.{some}
use mathlib.Core.Path.{◌≡◌, refl, sym, ◌∙◌, ap, subst}
use native.Mathlib.Omega.{arith}
use lib.IntN.{ℤ}
use lib.ListN.{length, drop, length-append}
use Rattle.std.specs.Prelude.{Ok, Err, Result as Returned}
use Rattle.laws.proofs.Never.{never}
use Rattle.laws.specs.Parts.{written}
use Rattle.snesl.specs.declared.code.Kind.TheVariants.{Bools}
use Rattle.snesl.specs.declared.code.Transducer.TheVariants.{B2u, Usum}
use Rattle.snesl.specs.declared.refusal.Refusal.{Refusal}
use Rattle.snesl.specs.Terms.{Listing, lookup}
use Rattle.snesl.specs.Trees.{root}
use Rattle.snesl.specs.Streams.{flags, units, Store, ◌!◌}
use Rattle.snesl.specs.Programs.{Program, done, ◌⨾◌, count}
use Rattle.snesl.specs.Machine.{State, Result, went, stopped, onward}
use Rattle.snesl.specs.Outcome.{refusal_of}
use Rattle.snesl.specs.Records.{byte_at, variable_at, variables_at}
use Rattle.snesl.specs.Checking.{NamedListing, listed_any, any_pointers, any_names}
use Rattle.snesl.specs.Translation.{id, packs_size, pack_trees, pack_codes, controlled, tree, code}
use Rattle.snesl.proofs.Compiled.Packing.{count-packs}
use Rattle.environment.specs.Words.{place_words, spelled, Sought, Entry}
use Rattle.environment.specs.Needs.{listed_size, spread_size, words}
use Rattle.environment.proofs.Stack.{part-drop, drop-above, drop-written, length-written, from-written, lowered}
use Rattle.records.proofs.Variables.{length-variables}
use Rattle.sink.specs.declared.state.Walk.{Walk}
use Rattle.sink.specs.Sinks.{Sink, defined, closed, feed}
use Rattle.steps.specs.Walking.{walked}
use Rattle.steps.specs.Holding.{place, PlacedAt, Stopping}
use Rattle.steps.proofs.Stores.{kept, newest}
use Rattle.steps.proofs.Walking.{walked_seq, walked-with, Grown, walked-grown}
use Rattle.steps.proofs.Performing.{stopping-as}
use Rattle.leaves.specs.Places.{places, Shaped}
use Rattle.leaves.specs.Scenes.{Scene}
use Rattle.leaves.proofs.Operands.{sought, scalar-placed}
use Rattle.leaves.proofs.Places.{place_kept}
use Rattle.leaves.proofs.Growing.{keeps_then, onward-as, onward-stop, onward-done}
use Rattle.leaves.proofs.Told.{define-fed}
use Rattle.bodies.proofs.Feeding.{Like, like-defined, like-fed, wide-like, fed_then}
use Rattle.bodies.proofs.Scenes.{later}
use Rattle.guards.specs.Packs.{pack_answer}
use Rattle.guards.specs.Lists.{Guarded, Lists, AllBound, AllBinds}
use Rattle.guards.specs.Entering.{Naming, Asks, asking, Asked, Answers, Guard, whole_code, inner_trees, opens_guard, GuardInside, GuardEnters}
use Rattle.guards.specs.declared.Guarding.{Guarding}
use Rattle.guards.proofs.Growth.{moved}
use Rattle.guards.proofs.All.{length-entries}
use Rattle.guards.proofs.Naming.{packs-few, listed-shallow, length-any}

-- ---- what `pack_listed` answered

module _ {q : Guarding} {env : List ℕ} {buf : List ℤ} {state : Walk} {text : List ℕ} {g : Guarded q env buf state text} {ls : NamedListing g.scene.context} {n to : ℕ}
    {env' : List ℕ} {buf' : List ℤ} {state' : Walk} {text' : List ℕ} {r : Returned Unit Refusal} (d : AllBinds g ls n to env' buf' state' text' r) where
  abbrev run : Result
  run = walked (length buf) n (pack_codes g.guard (any_pointers ls) g.scene.trees (length g.scene.machine.store)) g.scene.machine

  pub record Ended : Type 0 where
    pub after : State
    pub went_to : walked (length buf) n (pack_codes g.guard (any_pointers ls) g.scene.trees (length g.scene.machine.store)) g.scene.machine ≡ went after
    pub left : AllBound g ls to env' buf' state' text' after

  ended : r ≡ (Ok tt) → Ended
  ended e = go run refl
    where
      go : (x : Result) → run ≡ x → Ended
      go (went m) f = record { after = m; went_to = f; left = d.leaves m f }
      go (stopped why i) f = let both : (Ok tt) ≡ Err (refusal_of why i) = sym e ∙ (d.says ∙ ap pack_answer f) in never (cc)

  packs-stopping : (x : Refusal) → r ≡ Err x → Stopping run x
  packs-stopping x e = go run refl
    where
      go : (y : Result) → run ≡ y → Stopping run x
      go (went m) f = let both : Err x ≡ (Ok tt) = sym e ∙ (d.says ∙ ap pack_answer f) in never (cc)
      go (stopped why i) f =
          let both : Err x ≡ Err (refusal_of why i) = sym e ∙ (d.says ∙ ap pack_answer f) in
          record { why = why; where-at = i; stops = f; refuses = cc }

-- ---- the guard at k

module _ {t : List ℕ} {k sp : ℕ} {env : List ℕ} {buf : List ℤ} {state : Walk} {text : List ℕ} (g : Guard t k sp env buf state text) where
  abbrev store : Store
  store = g.scene.machine.store

  abbrev s : ℕ
  s = length g.scene.machine.store

  abbrev j : ℕ
  j = byte_at t (k + 3)

  abbrev us : Listing g.scene.context
  us = any_pointers g.list

  abbrev guard : ℕ
  guard = root (lookup g.pointer g.scene.trees)

  four : k + 3 + 1 ≡ k + 4
  four = omega arith

  as_many : length g.list ≡ j
  as_many = length-any g.scene.names (variables_at t (k + 4) j) g.list g.lists ∙ length-variables t (k + 4) j

  pub packs-most : packs_size us ≤ 25 * j
  packs-most = omega (arith, packs-few g.list g.scene.shallow, as_many)

  abbrev pub guard-sought : Sought env sp (variable_at t (k + 2))
  guard-sought = sought g.scene g.pointer g.finds

  pub lists-same : listed_any g.scene.names (variables_at t (k + 3 + 1) (byte_at t (k + 3))) ≡ some g.list
  lists-same = ap (λ a. listed_any g.scene.names (variables_at t a (byte_at t (k + 3)))) four ∙ g.lists

  abbrev pub naming : Naming t (k + 3 + 1) (byte_at t (k + 3)) sp env
  naming =
      record {
        context = g.scene.context;
        names = g.scene.names;
        trees = places g.scene.machine.store g.scene.trees;
        rest = g.scene.rest;
        spells = g.scene.spells;
        shallow = g.scene.shallow;
        list = g.list;
        lists = lists-same;
        bytes = omega (arith, g.bytes);
      }

  pub room-enough : 3 + (listed_size (any_pointers g.list) + spread_size) ≤ sp
  room-enough = omega (arith, g.space)

  body-room : 3 + (listed_size us + words g.body) ≤ sp
  body-room = omega (arith, g.space)

  module _ {p : ℕ} (e : Entry env sp p (lookup g.pointer (places g.scene.machine.store g.scene.trees))) where
    pub bools-within : p + 2 + 3 ≤ length env
    bools-within = omega (arith, e.within)

    bools-placed : PlacedAt store env Bools guard (p + 2)
    bools-placed = scalar-placed g.scene g.pointer e

    pub asks : Asks (p + 2) sp (root (lookup g.pointer g.scene.trees)) g.scene.machine g.scene.sink env buf state text
    asks =
        record {
          held = g.scene.held;
          sunk = g.scene.sunk;
          placed = bools-placed;
          room = omega (arith, g.space);
          high = omega (arith, e.above);
          inside = bools-within;
          few = omega (arith, g.few, g.bytes);
        }

    module _ (n : ℕ) {env₁ : List ℕ} {buf₁ : List ℤ} {state₁ : Walk} {text₁ : List ℕ} {r₁ : Returned ℕ Refusal}
        (w₁ : Answers (root (lookup g.pointer g.scene.trees)) sp g.scene.machine g.scene.sink n env env₁ buf buf₁ state₁ text₁ r₁) where
      abbrev inside-at : ℕ
      inside-at = s + (2 + packs_size us)

      abbrev control : Program
      control = controlled (s + 1) inside-at (code g.body (inner_trees g) inside-at) (tree g.body (inner_trees g) inside-at)

      abbrev packing : Program
      packing = pack_codes guard us g.scene.trees (s + 2)

      start-code : walked (length buf) n (whole_code g) g.scene.machine ≡ walked (length buf) n (asking guard s (packing ⨾ control)) g.scene.machine
      unfolding code
      start-code = refl

      enters-stopped : {env' : List ℕ} {buf' : List ℤ} {state' : Walk} {text' : List ℕ} {q : Refusal}
          → Stopping (walked (length buf) n (asking guard s (packing ⨾ control)) g.scene.machine) q → GuardEnters g n env' buf' state' text' (Err q)
      enters-stopped {q = q} x =
          record {
            goes_in = λ e' f. never (cc);
            stops = λ q' f. let same : q ≡ q' = cc in subst (Stopping (walked (length buf) n (whole_code g) g.scene.machine)) same (stopping-as start-code x);
          }

      pub flags-refused : {q : Refusal} → r₁ ≡ Err q → GuardEnters g n env₁ buf₁ state₁ text₁ (Err q)
      flags-refused {q} f = enters-stopped (w₁.stops q f (packing ⨾ control))

      module _ {i : ℕ} (e₁ : r₁ ≡ Ok i) (long : length buf₁ ≡ length buf) where
        pub a : Asked (root (lookup g.pointer g.scene.trees)) sp g.scene.machine g.scene.sink n i env env₁ buf buf₁ state₁ text₁
        a = w₁.made i e₁

        abbrev words₁ : List ℕ
        words₁ = place_words (place a.after.store s)

        low : 3 ≤ sp
        low = omega (arith, g.space)

        pub above₁ : drop sp env₁ ≡ drop sp env
        above₁ = ap (drop sp) a.words ∙ drop-written env (sp - 3) sp words₁ (omega (arith, low)) g.scene.within

        pub long₁ : length env₁ ≡ length env
        long₁ = ap length a.words ∙ length-written env (sp - 3) words₁ (omega (arith, low, g.scene.within))

        upper : drop (sp - 3) env₁ ≡ words₁ ++ drop sp env
        upper = ap (drop (sp - 3)) a.words ∙ lowered env sp 3 words₁ refl low g.scene.within

        pub next₁ : length a.after.store ≡ s + 2
        next₁ = ap length a.store ∙ length-append store (flags a.bits ∷ units i ∷ [])

        abbrev sink₁ : Sink
        sink₁ = defined (length g.scene.machine.store + 1) (Usum (id (length g.scene.machine.store))) (defined (length g.scene.machine.store) (B2u (id (root (lookup g.pointer g.scene.trees)))) g.scene.sink)

        pub like₁ : Like g.scene.sink sink₁
        like₁ =
            let one = like-defined g.scene.sink s (B2u (id guard)) in
            let two = like-defined (defined s (B2u (id guard)) g.scene.sink) (s + 1) (Usum (id s)) in
            record { mode = two.mode ∙ one.mode; most = two.most ∙ one.most }

        abbrev scene₁ : Scene env₁ sp buf₁ state₁ text₁
        scene₁ = later g.scene a.after (flags a.bits ∷ units i ∷ []) a.store a.held above₁ long₁ sink₁ a.sunk like₁

        pub bools₁ : PlacedAt a.after.store env₁ Bools guard (p + 2)
        bools₁ =
            moved (flags a.bits ∷ units i ∷ []) bools-placed a.store
            (part-drop env₁ env (p + 2) 3 (drop-above env₁ env sp (p + 2) above₁ (omega (arith, e.above))))

        module _ {wide : ℕ} (w : wide ≡ listed_size (any_pointers g.list)) where
          abbrev guarding : Guarding
          guarding = record { sp = sp; bools = p + 2; base = sp - 3 - wide }

          abbrev pub lists : Lists t (k + 3 + 1) (byte_at t (k + 3)) (sp - 3 - wide) (record { sp = sp; bools = p + 2; base = sp - 3 - wide }) env₁ buf₁ state₁ text₁
          lists =
              record {
                guarded =
                    record {
                      scene = scene₁;
                      guard = root (lookup g.pointer g.scene.trees);
                      placed = bools₁;
                      high = omega (arith, e.above);
                      inside = omega (arith, bools-within, long₁);
                      free = omega (arith, room-enough, w);
                    };
                list = g.list;
                lists = lists-same;
                bytes = omega (arith, g.bytes);
                low = omega arith;
                space = omega (arith, room-enough, w);
                few = omega (arith, next₁, packs-most, g.few, g.bytes);
              }

          abbrev packing₁ : Program
          packing₁ = pack_codes guard us g.scene.trees (length a.after.store)

          packs-code : walked (length buf) n (asking guard s (packing ⨾ control)) g.scene.machine
              ≡ onward (walked (length buf₁) n packing₁ a.after) (walked (length buf) n control)
          packs-code =
              a.whole (packing ⨾ control)
              ∙ (walked_seq (length buf) n packing control a.after
              ∙ (λ x. onward (walked (sym long x) n (pack_codes guard us g.scene.trees (sym next₁ x)) a.after) (walked (length buf) n control)))

          module _ {env₂ : List ℕ} {buf₂ : List ℤ} {state₂ : Walk} {text₂ : List ℕ} {r₂ : Returned Unit Refusal} (d : AllBinds lists.guarded g.list n (sp - 3 - wide) env₂ buf₂ state₂ text₂ r₂) where
            pub packs-refused : {q : Refusal} → r₂ ≡ Err q → GuardEnters g n env₂ buf₂ state₂ text₂ (Err q)
            packs-refused {q} f = enters-stopped (stopping-as packs-code (onward-stop (walked (length buf) n control) (packs-stopping d q f)))

            module _ (f : r₂ ≡ (Ok tt)) (long₂ : length env₂ ≡ length env₁) where
              end : Ended d
              end = ended d f

              gr : Grown a.after packing₁ end.after
              gr = walked-grown (length buf₁) n packing₁ a.after end.after end.went_to

              abbrev all-streams : Store
              all-streams = flags a.bits ∷ units i ∷ gr.streams

              stored : end.after.store ≡ store ++ all-streams
              stored = gr.store ∙ (ap (λ σ. σ ++ gr.streams) a.store ∙ append_assoc store (flags a.bits ∷ units i ∷ []) gr.streams)

              number : length end.after.store ≡ inside-at
              number =
                  ap length gr.store
                  ∙ (length-append a.after.store gr.streams
                  ∙ omega (arith, next₁, gr.number, count-packs guard us g.scene.trees (length a.after.store)))

              flags-first : a.after.store ! s ≡ some (flags a.bits)
              flags-first =
                  ap (λ σ. σ ! s) (a.store ∙ sym (append_assoc store (flags a.bits ∷ []) (units i ∷ [])))
                  ∙ kept (store ++ flags a.bits ∷ []) (units i ∷ []) s (flags a.bits) (newest store (flags a.bits))

              flags-there : end.after.store ! s ≡ some (flags a.bits)
              flags-there = ap (λ σ. σ ! s) gr.store ∙ kept a.after.store gr.streams s (flags a.bits) flags-first

              units-first : a.after.store ! (s + 1) ≡ some (units i)
              units-first =
                  let second : length (store ++ flags a.bits ∷ []) ≡ s + 1 = length-append store (flags a.bits ∷ []) in
                  ap (λ σ. σ ! (s + 1)) (a.store ∙ sym (append_assoc store (flags a.bits ∷ []) (units i ∷ [])))
                  ∙ (ap (λ c. (store ++ flags a.bits ∷ []) ++ units i ∷ [] ! c) (sym second) ∙ newest (store ++ flags a.bits ∷ []) (units i))

              control-there : end.after.store ! (s + 1) ≡ some (units i)
              control-there = ap (λ σ. σ ! (s + 1)) gr.store ∙ kept a.after.store gr.streams (s + 1) (units i) units-first

              whole : walked (length buf) n (whole_code g) g.scene.machine ≡ walked (length buf) i (code g.body (inner_trees g) (length end.after.store)) end.after
              whole =
                  start-code
                  ∙ (packs-code
                  ∙ (onward-as (walked (length buf) n control) end.went_to
                  ∙ (walked-with (length buf) n i _ (s + 1) _ (code g.body (inner_trees g) inside-at) done end.after control-there a.quiet
                  ∙ (onward-done (length buf) n (walked (length buf) i (code g.body (inner_trees g) inside-at) end.after)
                  ∙ ap (λ c. walked (length buf) i (code g.body (inner_trees g) c) end.after) (sym number)))))

              abbrev sink₂ : Sink
              sink₂ = feed (length a.after.store) packing₁ sink₁

              controlled-fed : feed (length end.after.store) control sink₂
                  ≡ closed (feed (length end.after.store) (code g.body (inner_trees g) (length end.after.store)) (opens_guard g (length end.after.store) sink₂))
              unfolding feed
              controlled-fed = ap (λ c. closed (feed (length end.after.store) (code g.body (inner_trees g) c) (opens_guard g c sink₂))) (sym number)

              packing-fed : feed (s + 2) (packing ⨾ control) sink₁ ≡ feed (length end.after.store) control sink₂
              packing-fed =
                  let up : length a.after.store + count packing₁ ≡ length end.after.store =
                  omega (arith, number, next₁, count-packs guard us g.scene.trees (length a.after.store)) in
                  (λ x. feed (sym next₁ x) (pack_codes guard us g.scene.trees (sym next₁ x) ⨾ control) sink₁)
                  ∙ (fed_then (length a.after.store) packing₁ control sink₁ ∙ ap (λ c. feed c control sink₂) up)

              first-fed : feed s (whole_code g) g.scene.sink ≡ feed (s + 2) (packing ⨾ control) sink₁
              unfolding code
              first-fed =
                  let two : s + 1 + 1 ≡ s + 2 = omega arith in
                  define-fed s (B2u (id guard)) (Rattle.snesl.specs.Programs.define (Usum (id s)) (packing ⨾ control)) g.scene.sink
                  ∙ (define-fed (s + 1) (Usum (id s)) (packing ⨾ control) (defined s (B2u (id guard)) g.scene.sink) ∙ ap (λ c. feed c (packing ⨾ control) sink₁) two)

              -- the words
              abbrev base : ℕ
              base = sp - 3 - wide

              entries : List ℕ
              entries = spelled (any_names g.list) (places end.after.store (inner_trees g))

              entries-long : length entries ≡ listed_size us
              unfolding entries
              entries-long = length-entries g.list end.after.store g.scene.trees (s + 2)

              entries-written : drop base env₂ ≡ drop base (written base entries env₁)
              unfolding entries
              entries-written =
                  end.left.words
                  ∙ ap (λ c. drop base (written base (spelled (any_names g.list) (places end.after.store (pack_trees us g.scene.trees c))) env₁)) next₁

              after-entries : base + length entries ≡ sp - 3
              after-entries = omega (arith, entries-long, w, room-enough)

              from-base : drop base env₂ ≡ entries ++ drop (sp - 3) env₁
              from-base =
                  entries-written
                  ∙ (from-written env₁ base entries (omega (arith, after-entries, long₁, g.scene.within)) ∙ ap (λ c. entries ++ drop c env₁) after-entries)

              place_still : place end.after.store s ≡ place a.after.store s
              place_still = ap (λ σ. place σ s) gr.store ∙ place_kept a.after.store gr.streams s (flags a.bits) flags-first

              flags-still : drop (sp - 3) env₂ ≡ place_words (place end.after.store s) ++ drop sp env
              flags-still =
                  drop-above env₂ (written base entries env₁) base (sp - 3) entries-written (omega (arith, after-entries))
                  ∙ (drop-written env₁ base (sp - 3) entries (omega (arith, after-entries)) (omega (arith, long₁, g.scene.within))
                  ∙ (upper ∙ ap (λ c. place_words c ++ drop sp env) (sym place_still)))

              inside : GuardInside g n (sp - 3 - wide) i env₂ buf₂ state₂ text₂
              unfolding entries
              inside =
                  record {
                    after = end.after;
                    sink = sink₂;
                    streams = all-streams;
                    rest = drop (sp - 3) env₁;
                    whole = whole;
                    fed = first-fed ∙ (packing-fed ∙ controlled-fed);
                    store = stored;
                    number = number;
                    held = end.left.held;
                    sunk = end.left.sunk;
                    wide = wide-like (like-fed (length a.after.store) packing₁ sink₁) scene₁.wide;
                    kept = keeps_then a.after.store gr.streams end.after.store buf buf₁ buf₂ a.kept end.left.kept gr.store;
                    shaped =
                        subst (λ c. Shaped end.after.store (Rattle.snesl.specs.Terms.listed_types us) (pack_trees us g.scene.trees c)) next₁ end.left.shaped;
                    shallow = listed-shallow g.list g.scene.shallow;
                    spells = from-base;
                    bits = a.bits;
                    stored = flags-there;
                    flags = flags-still;
                    space = omega (arith, body-room, w);
                    below = omega (arith, room-enough, w);
                    few = omega (arith, number, packs-most, g.few, g.bytes);
                  }

              pub guard-entered : GuardEnters g n env₂ buf₂ state₂ text₂ (Ok (record { inner = sp - 3 - wide; units = i }))
              guard-entered =
                  record {
                    goes_in =
                        λ e' q.
                        let same : record { inner = sp - 3 - wide; units = i } ≡ e' = cc in
                        subst (λ c. GuardInside g n c.inner c.units env₂ buf₂ state₂ text₂) same inside;
                    stops = λ q h. never (cc);
                  }
