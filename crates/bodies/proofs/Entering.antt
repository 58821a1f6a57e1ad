-- What stands before a comprehension's body, step by step: the flags' place, their units, the listed variables' entries, and x's.
use Prim.Native.Nat.{ℕ, suc, ◌+◌, ◌*◌, ◌-◌, ◌≤◌, ◌<◌}
use mathlib.Core.Bool.{Bool}
use mathlib.Core.List.{List, [], ◌∷◌, ◌++◌, append_assoc}
use mathlib.Core.Option.{some}
use mathlib.Core.Path.{◌≡◌, refl, sym, ◌∙◌, ap, subst}
use native.Mathlib.Omega.{arith}
use lib.IntN.{ℤ}
use lib.ListN.{length, get_or, drop, length-append}
use Rattle.laws.proofs.Never.{never}
use Rattle.laws.specs.Parts.{part, written}
use Rattle.snesl.specs.declared.code.Variable.{Variable}
use Rattle.snesl.specs.declared.code.Kind.TheVariants.{Flags}
use Rattle.snesl.specs.declared.code.Transducer.TheVariants.{Usum, Distr}
use Rattle.snesl.specs.declared.refusal.Refusal.{Refusal}
use Rattle.snesl.specs.declared.code.Base.TheVariants.{Int}
use Rattle.snesl.specs.Values.{ValueType, depth_of}
use Rattle.snesl.specs.Terms as terms
use Rattle.snesl.specs.Terms.{Scalars, any_type, listed_types, All, ◌▹◌, lookup}
use Rattle.snesl.specs.Trees.{IdTree, root, inner, outer, map_tree}
use Rattle.snesl.specs.Streams.{units, flags, len, Store, ◌!◌}
use Rattle.snesl.specs.Programs.{Program, define, done, ◌⨾◌, count}
use Rattle.snesl.specs.Machine.{State, Result, went, stopped, onward}
use Rattle.snesl.specs.Outcome.{refusal_of}
use Rattle.snesl.specs.Records.{byte_at, variable_at, variables_at}
use Rattle.snesl.specs.Checking.{NamedScalars, listed_names, pointers}
use Rattle.snesl.specs.Translation.{id, numbered, tree, controlled, distrs, code}
use Rattle.environment.specs.Words.{place_words, tree_words, tree_size, spelled, Entry}
use Rattle.environment.specs.Needs.{words}
use Rattle.environment.proofs.Stack.{part-drop, front-is, drop-above, drop-written, length-written, from-written, lowered}
use Rattle.environment.proofs.Finding.{length-tree}
use Rattle.environment.proofs.Entries.{bound}
use Rattle.records.proofs.Variables.{length-variables}
use Rattle.sink.specs.declared.state.Walk.{Walk}
use Rattle.steps.specs.Walking.{stepped, walked}
use Rattle.sink.specs.Sinks.{Sink, defined, closed, feed}
use Rattle.steps.specs.Holding.{place, PlacedAt, Stopping}
use Rattle.std.specs.Prelude.{Ok, Err, Result as Returned}
use Rattle.steps.proofs.Stores.{kept, newest}
use Rattle.steps.proofs.Walking.{walked-define, walked_seq, walked-with, Grown, walked-grown}
use Rattle.steps.proofs.Stepping.{units_of_lem}
use Rattle.steps.proofs.Performing.{stopping-as}
use Rattle.leaves.specs.Places.{places, Shapely, Shaped, shaped-more}
use Rattle.leaves.specs.Making.{Makes, Instructed}
use Rattle.leaves.specs.Scenes.{Scene}
use Rattle.bodies.specs.Bodies.{Distributing, Bound, Distributed, listed_answer, Each, inner_trees, opens, Inside, Enters}
use Rattle.bodies.proofs.Differences.{back-up, fits_below, sub-twice, low-enough, far-below}
use Rattle.bodies.proofs.Lists.{length-listed, count-distrs}
use Rattle.leaves.proofs.Places.{place_kept, tree-kept, lookup-shapely, lookup-shallow, outer-flags, inner-shapely, shapely-kept}
use Rattle.leaves.proofs.Growing.{keeps_then, onward-as, onward-stop, onward-done}
use Rattle.bodies.proofs.Scenes.{later}
use Rattle.leaves.proofs.Operands.{flags-words, items-words, named-there}
use Rattle.leaves.proofs.Making.{Making, making, stopping}
use Rattle.leaves.proofs.Told.{define-fed}
use Rattle.leaves.proofs.CountingUp.{placed-later}
use Rattle.bodies.proofs.Feeding.{like-defined, like-fed, wide-like, fed_then}
use Rattle.bodies.proofs.Distributing.{length-entries}

-- ---- what `distribute` answered

module _ {env : List ℕ} {sp : ℕ} {buf : List ℤ} {state : Walk} {text : List ℕ} {s : Scene env sp buf state text} {b : ℕ} {ls : NamedScalars s.context} {n base : ℕ}
    {env' : List ℕ} {buf' : List ℤ} {state' : Walk} {text' : List ℕ} {r : Returned Unit Refusal} (d : Distributed s b ls n base env' buf' state' text' r) where
  pub record Ended : Type 0 where
    pub after : State
    pub went_to : walked (length buf) n (distrs b (pointers ls) s.trees done) s.machine ≡ went after
    pub left : Bound s b ls base env' buf' state' text' after

  pub ended : r ≡ (Ok tt) → Ended
  ended e = go (walked (length buf) n (distrs b (pointers ls) s.trees done) s.machine) refl
    where
      go : (x : Result) → walked (length buf) n (distrs b (pointers ls) s.trees done) s.machine ≡ x → Ended
      go (went m) q = record { after = m; went_to = q; left = d.leaves m q }
      go (stopped why i) q =
          let both : (Ok tt) ≡ Err (refusal_of why i) = sym e ∙ (d.says ∙ ap listed_answer q) in
          never (cc)

  pub listed-stopping : (q : Refusal) → r ≡ Err q → Stopping (walked (length buf) n (distrs b (pointers ls) s.trees done) s.machine) q
  listed-stopping q e = go (walked (length buf) n (distrs b (pointers ls) s.trees done) s.machine) refl
    where
      go : (x : Result) → walked (length buf) n (distrs b (pointers ls) s.trees done) s.machine ≡ x
          → Stopping (walked (length buf) n (distrs b (pointers ls) s.trees done) s.machine) q
      go (went m) f = let both : Err q ≡ (Ok tt) = sym e ∙ (d.says ∙ ap listed_answer f) in never (cc)
      go (stopped why i) f =
          let both : Err q ≡ Err (refusal_of why i) = sym e ∙ (d.says ∙ ap listed_answer f) in
          record { why = why; where-at = i; stops = f; refuses = cc }

enters-stopped : {t : List ℕ} {k sp : ℕ} {env : List ℕ} {buf : List ℤ} {state : Walk} {text : List ℕ} {g : Each t k sp env buf state text}
    {n : ℕ} {env' : List ℕ} {buf' : List ℤ} {state' : Walk} {text' : List ℕ} {q : Refusal}
    → Stopping (walked (length buf) n (code (terms.each g.pointer (pointers g.list) g.body) g.scene.trees (length g.scene.machine.store)) g.scene.machine) q
    → Enters g n env' buf' state' text' (Err q)
enters-stopped {q = q} s =
    record {
      goes_in = λ e' f. never (cc);
      stops = λ q' e. let same : q ≡ q' = cc in subst (Stopping _) same s;
    }

-- the code of a comprehension, its Distrs by themselves
distrs-then : {Γ : List ValueType} → (b : ℕ) (us : Scalars Γ) (δ : All IdTree Γ) (p : Program) → distrs b us δ p ≡ distrs b us δ done ⨾ p
unfolding distrs ◌⨾◌
distrs-then b [] δ p = refl
distrs-then b (u ∷ us) δ p = ap (define (Distr (id b) (id (root (lookup u.1 δ))))) (distrs-then b us δ p)

module _ {t : List ℕ} {k sp : ℕ} {env : List ℕ} {buf : List ℤ} {state : Walk} {text : List ℕ} (g : Each t k sp env buf state text)
    {p : ℕ} (e : Entry env sp p (lookup g.pointer (places g.scene.machine.store g.scene.trees))) where
  abbrev store : Store
  store = g.scene.machine.store

  abbrev flags_id : ℕ
  flags_id = outer (lookup g.pointer g.scene.trees)

  abbrev j : ℕ
  j = byte_at t (k + 4)

  abbrev x : Variable
  x = variable_at t (k + 2)

  depth_is : get_or env (p + 1) 0 - 1 ≡ depth_of g.inside
  depth_is = omega (arith, e.depth)

  pub depth-some : 1 ≤ get_or env (p + 1) 0
  depth-some = omega (arith, e.depth)

  pub depth-most : depth_of g.inside + 1 ≤ 8
  depth-most = omega (arith, lookup-shallow g.pointer g.scene.shallow)

  pub depth-few : get_or env (p + 1) 0 ≤ 8
  depth-few = omega (arith, e.depth, depth-most)

  pub flags-fit : p + 2 + (3 * (get_or env (p + 1) 0 - 1) + 3) + 3 ≤ length env
  flags-fit = omega (arith, e.within, depth_is)

  -- what x's binding asks
  pub items-room : {l : ℕ} → l ≡ length env
      → (get_or env (p + 1) 0 - 1 < 4294967296) × (tree_size (get_or env (p + 1) 0 - 1) + 2 ≤ sp - 3 - 5 * byte_at t (k + 4)) × (sp - 3 - 5 * byte_at t (k + 4) ≤ p + 2)
      × (p + 2 + tree_size (get_or env (p + 1) 0 - 1) ≤ l)
  items-room h =
      (omega (arith, depth-few), omega (arith, depth_is, g.space), omega (arith, e.above), omega (arith, flags-fit, h))

  module _ {env₁ : List ℕ} (w : env₁ ≡ written (sp - 3) (part (p + 2 + (3 * (get_or env (p + 1) 0 - 1) + 3)) 3 env) env) where
    flags-written : env₁ ≡ written (sp - 3) (place_words (place store flags_id)) env
    flags-written =
        w
        ∙ (ap (λ c. written (sp - 3) (part (p + 2 + (3 * c + 3)) 3 env) env) depth_is
        ∙ ap (λ l. written (sp - 3) l env) (flags-words g.scene g.pointer e))

    low : 3 ≤ sp
    low = omega (arith, g.space)

    pub upper : drop (sp - 3) env₁ ≡ place_words (place store flags_id) ++ drop sp env
    upper = ap (drop (sp - 3)) flags-written ∙ lowered env sp 3 (place_words (place store flags_id)) refl (omega (arith, low)) g.scene.within

    pub same_above : drop sp env₁ ≡ drop sp env
    same_above = ap (drop sp) flags-written ∙ drop-written env (sp - 3) sp (place_words (place store flags_id)) (omega (arith, low)) g.scene.within

    pub same-long : length env₁ ≡ length env
    same-long = ap length flags-written ∙ length-written env (sp - 3) (place_words (place store flags_id)) (omega (arith, low, g.scene.within))

    pub pushed : part (sp - 3) 3 env₁ ≡ place_words (place store flags_id)
    pushed = front-is env₁ (sp - 3) 3 (place_words (place store flags_id)) (drop sp env) upper refl

    flags-stream : (bs : List Bool) × (store ! flags_id ≡ some (flags bs))
    flags-stream = outer-flags (lookup-shapely g.pointer g.scene.shaped)

    pub flags-placed : PlacedAt g.scene.machine.store env₁ Flags (outer (lookup g.pointer g.scene.trees)) (sp - 3)
    flags-placed = record { stream = flags flags-stream.0; there = flags-stream.1; kind = refl; words = pushed }

    named : get_or env₁ (sp - 3) 0 ≡ flags_id
    named = named-there flags-placed

    pub usum-ready : (q : ℕ) → Makes (Usum (id (get_or env₁ (sp - 3) 0))) (record { first = sp - 3; second = q }) env₁ buf state text g.scene.machine g.scene.sink
    usum-ready q =
        subst (λ i. Makes (Usum (id i)) (record { first = sp - 3; second = q }) env₁ buf state text g.scene.machine g.scene.sink) (sym named)
        (record {
          executable = record { held = g.scene.held; base = Int; placed = (flags-placed, tt); more = omega (arith, g.few, g.bytes) };
          sunk = g.scene.sunk;
        })

    module _ (n : ℕ) where
      abbrev us : Scalars g.scene.context
      us = pointers g.list

      abbrev inside-at : ℕ
      inside-at = length g.scene.machine.store + (1 + length (pointers g.list))

      abbrev control : Program
      control = controlled (length store) inside-at (code g.body (inner_trees g) inside-at) (tree g.body (inner_trees g) inside-at)

      start-code : walked (length buf) n (code (terms.each g.pointer us g.body) g.scene.trees (length store)) g.scene.machine
          ≡ onward (stepped (length buf) n (Usum (id flags_id)) g.scene.machine) (walked (length buf) n (distrs flags_id us g.scene.trees done ⨾ control))
      unfolding code
      start-code =
          (λ i. walked (length buf) n (define (Usum (id flags_id)) (distrs-then flags_id us g.scene.trees control i)) g.scene.machine)
          ∙ walked-define (length buf) n (Usum (id flags_id)) (distrs flags_id us g.scene.trees done ⨾ control) g.scene.machine

      abbrev sink₁ : Sink
      sink₁ = defined (length store) (Usum (id flags_id)) g.scene.sink

      module _ {buf₁ : List ℤ} {state₁ : Walk} {text₁ : List ℕ} {r₁ : Returned ℕ Refusal}
          (p₁ : Instructed (stepped (length buf) n (Usum (id (get_or env₁ (sp - 3) 0))) g.scene.machine) (Usum (id (get_or env₁ (sp - 3) 0))) g.scene.machine g.scene.sink buf buf₁ state₁ text₁ r₁) where
        own : Instructed (stepped (length buf) n (Usum (id flags_id)) g.scene.machine) (Usum (id flags_id)) g.scene.machine g.scene.sink buf buf₁ state₁ text₁ r₁
        own = subst (λ i. Instructed (stepped (length buf) n (Usum (id i)) g.scene.machine) (Usum (id i)) g.scene.machine g.scene.sink buf buf₁ state₁ text₁ r₁) named p₁

        pub usum-stopped : {env' : List ℕ} {q : Refusal} → r₁ ≡ Err q → Enters g n env' buf₁ state₁ text₁ (Err q)
        usum-stopped {q = q} f =
            enters-stopped (stopping-as start-code (onward-stop (walked (length buf) n (distrs flags_id us g.scene.trees done ⨾ control)) (stopping (length buf) n (Usum (id flags_id)) own q f)))

        module _ {i : ℕ} (e₁ : r₁ ≡ Ok i) (long : length buf₁ ≡ length buf) where
          pub u : Making (length buf) n (Usum (id (outer (lookup g.pointer g.scene.trees)))) g.scene.machine g.scene.sink buf buf₁ state₁ text₁ i
          u = making (length buf) n (Usum (id flags_id)) own i e₁

          pub units-stored : u.after.store ≡ store ++ units i ∷ []
          units-stored =
              let o = units_of_lem u.added-to.stream u.added-to.kind in
              u.added-to.store ∙ ap (λ a. store ++ a ∷ []) (o.1 ∙ ap units (sym (u.long ∙ ap len o.1)))

          units-quiet : n ≡ 0 → i ≡ 0
          units-quiet z = u.long ∙ ap len (u.added-to.quiet z)

          pub units-next : length u.after.store ≡ suc (length store)
          units-next = ap length units-stored ∙ (length-append store (units i ∷ []) ∙ omega arith)

          pub still_placed : PlacedAt u.after.store env₁ Flags (outer (lookup g.pointer g.scene.trees)) (sp - 3)
          still_placed = placed-later (units i ∷ []) flags-placed units-stored refl

          abbrev pub scene₁ : Scene env₁ sp buf₁ state₁ text₁
          scene₁ =
              later g.scene u.after (units i ∷ []) units-stored u.held same_above same-long
              (defined (length g.scene.machine.store) (Usum (id (outer (lookup g.pointer g.scene.trees)))) g.scene.sink) u.sunk
              (like-defined g.scene.sink (length g.scene.machine.store) (Usum (id (outer (lookup g.pointer g.scene.trees)))))

          abbrev pub distributing : Distributing t (k + 5) (byte_at t (k + 4)) (sp - 3 - 5 * byte_at t (k + 4)) sp env₁ buf₁ state₁ text₁
          distributing =
              record {
                scene = scene₁;
                flags = outer (lookup g.pointer g.scene.trees);
                list = g.list;
                lists = g.lists;
                placed = still_placed;
                bytes = g.bytes;
                space = omega (arith, g.space, g.most);
                few = omega (arith, g.few, g.bytes, units-next);
              }

          distrs-code : walked (length buf) n (code (terms.each g.pointer us g.body) g.scene.trees (length store)) g.scene.machine
              ≡ onward (walked (length buf₁) n (distrs flags_id us g.scene.trees done) u.after) (walked (length buf) n control)
          distrs-code =
              start-code
              ∙ (onward-as (walked (length buf) n (distrs flags_id us g.scene.trees done ⨾ control)) u.went_to
              ∙ (walked_seq (length buf) n (distrs flags_id us g.scene.trees done) control u.after
              ∙ ap (λ c. onward (walked c n (distrs flags_id us g.scene.trees done) u.after) (walked (length buf) n control)) (sym long)))

          module _ {env₂ : List ℕ} {buf₂ : List ℤ} {state₂ : Walk} {text₂ : List ℕ} {r : Returned Unit Refusal}
              (d : Distributed scene₁ (outer (lookup g.pointer g.scene.trees)) g.list n (sp - 3 - 5 * byte_at t (k + 4)) env₂ buf₂ state₂ text₂ r) where
            pub distr-stopped : {q : Refusal} → r ≡ Err q → Enters g n env₂ buf₂ state₂ text₂ (Err q)
            distr-stopped {q} f = enters-stopped (stopping-as distrs-code (onward-stop (walked (length buf) n control) (listed-stopping d q f)))

            -- inside
            module _ (f : r ≡ (Ok tt)) (long₂ : length env₂ ≡ length env₁) {env₃ : List ℕ} {sp' : ℕ}
                (at : sp' ≡ sp - 3 - 5 * byte_at t (k + 4) - tree_size (get_or env (p + 1) 0 - 1) - 2)
                (w₃ : env₃ ≡ written (sp - 3 - 5 * byte_at t (k + 4) - tree_size (get_or env (p + 1) 0 - 1) - 2) (byte_at t (k + 2) ∷ (get_or env (p + 1) 0 - 1) ∷ [])
                (written (sp - 3 - 5 * byte_at t (k + 4) - tree_size (get_or env (p + 1) 0 - 1)) (part (p + 2) (tree_size (get_or env (p + 1) 0 - 1)) env₂) env₂)) where
              end : Ended d
              end = ended d f

              gr : Grown u.after (distrs flags_id us g.scene.trees done) end.after
              gr = walked-grown (length buf₁) n (distrs flags_id us g.scene.trees done) u.after end.after end.went_to

              abbrev all-streams : Store
              all-streams = units i ∷ gr.streams

              stored : end.after.store ≡ store ++ all-streams
              stored = gr.store ∙ (ap (λ σ. σ ++ gr.streams) units-stored ∙ append_assoc store (units i ∷ []) gr.streams)

              abbrev sink₂ : Sink
              sink₂ = feed (length u.after.store) (distrs flags_id us g.scene.trees done) sink₁

              as_many : length us ≡ j
              as_many = length-listed g.scene.names (variables_at t (k + 5) j) g.list g.lists ∙ length-variables t (k + 5) j

              number : length end.after.store ≡ inside-at
              unfolding count
              number =
                  ap length stored
                  ∙ (length-append store all-streams ∙ omega (arith, gr.number, count-distrs flags_id us g.scene.trees done))

              control-there : end.after.store ! length store ≡ some (units i)
              control-there =
                  ap (λ σ. σ ! length store) gr.store
                  ∙ kept u.after.store gr.streams (length store) (units i) (ap (λ σ. σ ! length store) units-stored ∙ newest store (units i))

              whole : walked (length buf) n (code (terms.each g.pointer us g.body) g.scene.trees (length store)) g.scene.machine
                  ≡ walked (length buf) i (code g.body (inner_trees g) (length end.after.store)) end.after
              whole =
                  distrs-code
                  ∙ (onward-as (walked (length buf) n control) end.went_to
                  ∙ (walked-with (length buf) n i _ (length store) _ (code g.body (inner_trees g) inside-at) done end.after control-there units-quiet
                  ∙ (onward-done (length buf) n (walked (length buf) i (code g.body (inner_trees g) inside-at) end.after)
                  ∙ ap (λ a. walked (length buf) i (code g.body (inner_trees g) a) end.after) (sym number))))

              controlled-fed : feed (length end.after.store) control sink₂
                  ≡ closed (feed (length end.after.store) (code g.body (inner_trees g) (length end.after.store)) (opens g (length end.after.store) sink₂))
              unfolding feed
              controlled-fed = ap (λ a. closed (feed (length end.after.store) (code g.body (inner_trees g) a) (opens g a sink₂))) (sym number)

              fed : feed (length store) (code (terms.each g.pointer us g.body) g.scene.trees (length store)) g.scene.sink
                  ≡ closed (feed (length end.after.store) (code g.body (inner_trees g) (length end.after.store)) (opens g (length end.after.store) sink₂))
              unfolding code count
              fed =
                  let one : length store + 1 ≡ length u.after.store = omega (arith, units-next) in
                  let up : length u.after.store + count (distrs flags_id us g.scene.trees done) ≡ length end.after.store =
                  omega (arith, number, units-next, count-distrs flags_id us g.scene.trees done) in
                  ap (λ p. feed (length store) (define (Usum (id flags_id)) p) g.scene.sink) (distrs-then flags_id us g.scene.trees control)
                  ∙ (define-fed (length store) (Usum (id flags_id)) (distrs flags_id us g.scene.trees done ⨾ control) g.scene.sink
                  ∙ (ap (λ s. feed s (distrs flags_id us g.scene.trees done ⨾ control) sink₁) one
                  ∙ (fed_then (length u.after.store) (distrs flags_id us g.scene.trees done) control sink₁
                  ∙ (ap (λ s. feed s control sink₂) up ∙ controlled-fed))))

              -- the words
              abbrev base : ℕ
              base = sp - 3 - 5 * j

              entries : List ℕ
              entries = spelled (listed_names g.list) (places end.after.store (numbered (suc (length store)) us))

              entries-long : length entries ≡ 5 * j
              unfolding entries
              entries-long = length-entries g.list end.after.store (suc (length store)) ∙ ap (λ l. 5 * l) as_many

              entries-written : env₂ ≡ written base entries env₁
              unfolding entries
              entries-written =
                  end.left.words
                  ∙ ap (λ a. written base (spelled (listed_names g.list) (places end.after.store (numbered a us))) env₁) units-next

              after-entries : base + length entries ≡ sp - 3
              after-entries = omega (arith, entries-long, g.space, g.most)

              entries_fit : base + length entries ≤ length env₁
              entries_fit = omega (arith, after-entries, same-long, g.scene.within)

              from-base : drop base env₂ ≡ entries ++ drop (sp - 3) env₁
              from-base =
                  ap (drop base) entries-written
                  ∙ (from-written env₁ base entries entries_fit ∙ ap (λ a. entries ++ drop a env₁) after-entries)

              flags-still : drop (sp - 3) env₂ ≡ drop (sp - 3) env₁
              flags-still =
                  ap (drop (sp - 3)) entries-written
                  ∙ drop-written env₁ base (sp - 3) entries (omega (arith, after-entries)) (omega (arith, same-long, g.scene.within))

              above-still : drop sp env₂ ≡ drop sp env
              above-still = drop-above env₂ env₁ (sp - 3) sp flags-still (omega arith) ∙ same_above

              items_tree : IdTree g.inside
              items_tree = inner (lookup g.pointer g.scene.trees)

              items-shapely : Shapely store g.inside items_tree
              unfolding items_tree
              items-shapely = inner-shapely (lookup-shapely g.pointer g.scene.shaped)

              items : List ℕ
              items = tree_words (map_tree (place end.after.store) items_tree)

              items-are : part (p + 2) (tree_size (depth_of g.inside)) env₂ ≡ items
              unfolding items items_tree
              items-are =
                  part-drop env₂ env (p + 2) (tree_size (depth_of g.inside)) (drop-above env₂ env sp (p + 2) above-still (omega (arith, e.above)))
                  ∙ (items-words g.scene g.pointer e
                  ∙ ap tree_words (sym (ap (λ σ. map_tree (place σ) items_tree) stored ∙ tree-kept store all-streams items-shapely)))

              items-long : length items ≡ tree_size (depth_of g.inside)
              unfolding items
              items-long = length-tree (map_tree (place end.after.store) items_tree)

              abbrev items_at : ℕ
              items_at = base - tree_size (depth_of g.inside)

              room-below : tree_size (depth_of g.inside) + 2 + words g.body ≤ base
              room-below = omega (arith, g.space, g.most, depth-most)

              base-within : base ≤ length env₂
              base-within = omega (arith, long₂, same-long, g.scene.within)

              env₂' : List ℕ
              env₂' = written items_at items env₂

              bound-written : env₃ ≡ written (items_at - 2) (x.0 ∷ depth_of g.inside ∷ []) env₂'
              unfolding env₂'
              bound-written =
                  w₃
                  ∙ (ap (λ c. written (base - tree_size c - 2) (x.0 ∷ c ∷ []) (written (base - tree_size c) (part (p + 2) (tree_size c) env₂) env₂)) depth_is
                  ∙ ap (λ l. written (items_at - 2) (x.0 ∷ depth_of g.inside ∷ []) (written items_at l env₂)) items-are)

              from-items : drop items_at env₂' ≡ items ++ (entries ++ drop (sp - 3) env₁)
              unfolding env₂'
              from-items =
                  lowered env₂ base (tree_size (depth_of g.inside)) items items-long (omega (arith, room-below)) base-within ∙ ap (λ l. items ++ l) from-base

              items-fit : items_at + length items ≤ length env₂
              items-fit = omega (arith, items-long, room-below, base-within)

              long₂' : length env₂' ≡ length env₂
              unfolding env₂'
              long₂' = length-written env₂ items_at items items-fit

              two_up : items_at - 2 + 2 ≡ items_at
              two_up = back-up base (tree_size (depth_of g.inside)) (omega (arith, room-below))

              name-fits : items_at - 2 + 2 ≤ length env₂'
              name-fits = subst (λ a. a ≤ length env₂') (sym two_up) (fits_below base (tree_size (depth_of g.inside)) (length env₂) (length env₂') base-within long₂')

              place_is : sp' ≡ items_at - 2
              place_is = at ∙ ap (λ c. base - tree_size c - 2) depth_is

              spells-it : drop sp' env₃ ≡ spelled (x ▹ listed_names g.list) (places end.after.store (inner_trees g)) ++ drop (sp - 3) env₁
              unfolding items entries items_tree places
              spells-it =
                  ap (λ a. drop a env₃) place_is
                  ∙ (ap (drop (items_at - 2)) bound-written
                  ∙ bound g.inside env₂' (items_at - 2) x (listed_names g.list) (map_tree (place end.after.store) (inner (lookup g.pointer g.scene.trees)))
                  (places end.after.store (numbered (suc (length store)) us)) (drop (sp - 3) env₁) name-fits
                  (ap (λ a. drop a env₂') two_up ∙ from-items))

              flags-there-still : drop (sp - 3) env₃ ≡ place_words (place end.after.store flags_id) ++ drop sp env
              unfolding env₂'
              flags-there-still =
                  ap (drop (sp - 3)) bound-written
                  ∙ (drop-written env₂' (items_at - 2) (sp - 3) (x.0 ∷ depth_of g.inside ∷ []) (subst (λ a. a ≤ sp - 3) (sym two_up) (sub-twice (sp - 3) (5 * j) (tree_size (depth_of g.inside)))) (omega (arith, long₂', long₂, same-long, g.scene.within))
                  ∙ (drop-written env₂ items_at (sp - 3) items (omega (arith, items-long, room-below)) (omega (arith, long₂, same-long, g.scene.within))
                  ∙ (flags-still
                  ∙ (upper
                  ∙ ap (λ q. place_words q ++ drop sp env)
                  (sym (ap (λ σ. place σ flags_id) stored ∙ place_kept store all-streams flags_id (flags flags-stream.0) flags-stream.1))))))

              inside-shaped : Shaped end.after.store (g.inside ∷ listed_types (any_type us)) (inner_trees g)
              unfolding items_tree
              inside-shaped =
                  shaped-more (subst (λ σ. Shapely σ g.inside (inner (lookup g.pointer g.scene.trees))) (sym stored) (shapely-kept store all-streams items-shapely))
                  (subst (λ a. Shaped end.after.store (listed_types (any_type us)) (numbered a us)) units-next end.left.shaped)

              pub inside : Inside g n sp' i env₃ buf₂ state₂ text₂
              inside =
                  record {
                    after = end.after;
                    sink = sink₂;
                    streams = all-streams;
                    rest = drop (sp - 3) env₁;
                    whole = whole;
                    fed = fed;
                    store = stored;
                    number = number;
                    held = end.left.held;
                    sunk = end.left.sunk;
                    wide = wide-like (like-fed (length u.after.store) (distrs flags_id us g.scene.trees done) sink₁) scene₁.wide;
                    kept = keeps_then u.after.store gr.streams end.after.store buf buf₁ buf₂ u.kept end.left.kept gr.store;
                    shaped = inside-shaped;
                    spells = spells-it;
                    flags = flags-there-still;
                    space = subst (λ q. words g.body ≤ q) (sym place_is) (low-enough base (tree_size (depth_of g.inside)) (words g.body) room-below);
                    below = subst (λ q. q + 3 ≤ sp) (sym place_is) (far-below sp (5 * j) (tree_size (depth_of g.inside)) (words g.body) room-below);
                  }

              pub enters-inside : Enters g n env₃ buf₂ state₂ text₂ (Ok (record { inner = sp'; units = i }))
              enters-inside =
                  record {
                    goes_in =
                        λ e' q.
                        let same : record { inner = sp'; units = i } ≡ e' = cc in
                        subst (λ c. Inside g n c.inner c.units env₃ buf₂ state₂ text₂) same inside;
                    stops = λ q f. never (cc);
                  }
