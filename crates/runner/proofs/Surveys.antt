-- The survey of a body before its WithCtrl's line: under no units nothing is executed, so the machine is as it was once the next id is.
use Prim.Native.Nat.{ℕ, ◌+◌, ◌*◌, ◌-◌, ◌≤◌, ◌<◌}
use mathlib.Core.List.Memᴰ
use mathlib.Core.List.{List, [], ◌∷◌, ◌++◌, append-nil, Memᴰ}
use mathlib.Core.Logic.{⊎_elim}
use mathlib.Core.Path.{◌≡◌, refl, sym, ◌∙◌, ap, subst}
use native.Mathlib.Omega.{arith}
use lib.IntN.{ℤ}
use lib.ListN.{length, take, drop, length-append}
use Rattle.std.specs.Prelude.{Err, Result as Returned}
use Rattle.laws.proofs.Never.{never}
use Rattle.snesl.specs.declared.code.Kind.{Kind}
use Rattle.snesl.specs.declared.code.Kind.TheVariants.{Ints, Bools, Flags, Units}
use Rattle.snesl.specs.declared.refusal.Refusal.{Refusal}
use Rattle.snesl.specs.Values.{ValueType, depth_of}
use Rattle.snesl.specs.Terms.{All}
use Rattle.snesl.specs.Trees.{IdTree, order, map_tree}
use Rattle.snesl.specs.Streams.{Store, data_of, flags, bare, elements, contents, room}
use Rattle.snesl.specs.Transducers.{signature, carried, empty}
use Rattle.snesl.specs.Programs.{Program, done, define, with_ctrl, dv, fv, among, ascending}
use Rattle.snesl.specs.Machine.{State, went, stopped, skipped, skip}
use Rattle.snesl.specs.Ids.{ids_of, Below}
use Rattle.snesl.specs.Translation.{size, code, tree}
use Rattle.snesl.proofs.Compiled.Freshness.{count_code, of-leaf, of_node, of-ids}
use Rattle.environment.specs.Words.{tree_words, tree_size}
use Rattle.environment.proofs.Stack.{front-is}
use Rattle.environment.proofs.Finding.{length-tree}
use Rattle.sink.specs.declared.state.Walk.{Walk}
use Rattle.sink.specs.declared.state.Mode.{Mode}
use Rattle.sink.specs.declared.state.Mode.TheVariants.{Running, Listing, Surveying}
use Rattle.sink.specs.declared.state.Sink as lent
use Rattle.sink.specs.Sinks.{Sink, opened, feed, surveyed}
use Rattle.sink.specs.Sunk.{Sunk, Tells, Opening, opening, back_to, Opens}
use Rattle.sink.proofs.Feeding.{opened-by}
use Rattle.sink.specs.Trees.{Placing}
use Rattle.sink.proofs.Surveying.{survey-mode, survey-own, opening-is}
use Rattle.steps.specs.Walking.{walked}
use Rattle.steps.specs.Holding.{place, counters, Held}
use Rattle.steps.proofs.Stores.{contents-append, named}
use Rattle.steps.proofs.Walking.{walked-grown}
use Rattle.steps.proofs.Executing.{next-id}
use Rattle.leaves.specs.Places.{Shapely, shapely-leaf, shapely-node, Shaped, shaped-none, shaped-more}
use Rattle.leaves.specs.Scenes.{reached, Runs}
use Rattle.leaves.specs.declared.Walked.{Walked}
use Rattle.leaves.proofs.Running.{Through, through, halted}
use Rattle.runner.specs.Walks.{Ready, Over, opened_by, Opened}
use Rattle.runner.specs.declared.Body.{Body}
use Rattle.runner.proofs.Measures.{words-hold}
use Rattle.runner.proofs.Lifting.{behind}

-- ---- the streams of a body that is not run take no room

bare-none : (k : Kind) → elements (bare k) ≡ []
bare-none Ints = refl
bare-none Bools = refl
bare-none Flags = refl
bare-none Units = refl

skipped-none : (σ : Store) (p : Program) → contents (skipped σ p) ≡ []
unfolding skipped contents
skipped-none σ done = refl
skipped-none σ (define t p) =
    let τ : Store = σ ++ empty σ t ∷ [] in
    ap (λ l. l ++ contents (skipped τ p)) (bare-none (signature (carried σ t) t).output) ∙ skipped-none τ p
skipped-none σ (with_ctrl outs c ins b p) =
    let τ : Store = σ ++ skipped σ b in
    contents-append (skipped σ b) (skipped τ p) ∙ (ap (λ l. l ++ contents (skipped τ p)) (skipped-none σ b) ∙ skipped-none τ p)

skipped-contents : (p : Program) (m : State) → contents (m.store ++ skipped m.store p) ≡ contents m.store
skipped-contents p m =
    contents-append m.store (skipped m.store p)
    ∙ (ap (λ l. contents m.store ++ l) (skipped-none m.store p) ∙ append-nil (contents m.store))

-- ---- an environment's ids are those of streams that there are

tree-below : {σ : Store} {τ : ValueType} {t : IdTree τ} → Shapely σ τ t → (u : ℕ) → Memᴰ u (order t) → u < length σ
tree-below {σ} (shapely-leaf {b = b} {s = s} vs e) u h = subst (λ i. i < length σ) (sym (of-leaf h)) (named σ s (data_of b vs) e)
tree-below {σ} (shapely-node {s = s} {t = t} bs i e) u h =
    ⊎_elim (λ m. tree-below i u m) (λ q. subst (λ j. j < length σ) (sym q) (named σ s (flags bs) e)) (of_node t h)

trees-below : {σ : Store} {Γ : List ValueType} {δ : All IdTree Γ} → Shaped σ Γ δ → Below (length σ) (ids_of δ)
unfolding ids_of
trees-below shaped-none u h = never-in h
  where
    never-in : {u n : ℕ} → Memᴰ u [] → u < n
    never-in j = absurd (Memᴰ.not-nil j)
trees-below (shaped-more {τ = τ} {t = t} {δ = δ} i s) u h = ⊎_elim (λ m. tree-below i u m) (λ m. trees-below s u m) (of-ids τ t δ h)

-- ---- the mode

module _ {k : Sink} {text : List ℕ} {w : lent.Sink} (s : Sunk k text w) where
  -- a sink that doesn't list is left alone by an opening
  pub not-told : (w.mode ≡ Listing → ⊥) → (outs : List ℕ) (c : ℕ) (ins : List ℕ) → k ≡ opened outs c ins k
  not-told f outs c ins = go k.mode refl
    where
      go : (m : Mode) → k.mode ≡ m → k ≡ opened outs c ins k
      go Running e = sym (opened-by k e outs c ins)
      go Listing e = absurd (f (s.mode-is ∙ e))
      go Surveying e = sym (opened-by k e outs c ins)

  pub lists : w.mode ≡ Listing → k.mode ≡ Listing
  lists f = sym s.mode-is ∙ f

-- ---- the survey

module _ {t : List ℕ} {β : Body} {env : List ℕ} {buf : List ℤ} {state : Walk} {text : List ℕ} (g : Over t β env buf state text) where
  abbrev start : ℕ
  start = length g.ready.scene.machine.store

  pub no_line : (state.sink.mode ≡ Listing → ⊥) → Opened g env buf state text
  no_line f =
      record {
        held = g.ready.scene.held;
        sunk =
            subst (λ j. Sunk j text state.sink)
            (not-told g.ready.scene.sunk f (ascending (among (order (tree g.ready.term g.ready.scene.trees start)) (dv start (code g.ready.term g.ready.scene.trees start))))
            β.control (ascending (fv start (code g.ready.term g.ready.scene.trees start))))
            g.ready.scene.sunk;
        kept = refl;
        words = refl;
      }

  module _ (list : state.sink.mode ≡ Listing) {state₁ : Walk} (b : (text : List ℕ) (j : Sink) → Sunk j text state.sink → Tells (surveyed (state.machine.streams) j) text state₁ state) where
    begun : Sunk (surveyed start g.ready.scene.sink) text state₁.sink
    begun = subst (λ i. Sunk (surveyed i g.ready.scene.sink) text state₁.sink) (next-id g.ready.scene.held) (b text g.ready.scene.sink g.ready.scene.sunk).sunk

    pub begun-held : Held g.ready.scene.machine buf state₁.machine
    begun-held = subst (Held g.ready.scene.machine buf) (sym (b text g.ready.scene.sink g.ready.scene.sunk).machine) g.ready.scene.held

    pub begun-sunk : Sunk (surveyed (length g.ready.scene.machine.store) g.ready.scene.sink) text state₁.sink
    begun-sunk = begun

    abbrev pub survey-ready : Ready t β.at β.inner env buf state₁ text
    survey-ready =
        record {
          scene =
              record {
                context = g.ready.scene.context;
                names = g.ready.scene.names;
                trees = g.ready.scene.trees;
                machine = g.ready.scene.machine;
                rest = g.ready.scene.rest;
                spells = g.ready.scene.spells;
                shaped = g.ready.scene.shaped;
                shallow = g.ready.scene.shallow;
                held = begun-held;
                within = g.ready.scene.within;
                sink = surveyed (length g.ready.scene.machine.store) g.ready.scene.sink;
                sunk = begun-sunk;
                wide = record { room = λ e. never (cc) };
              };
          levels = g.ready.levels;
          type = g.ready.type;
          term = g.ready.term;
          next = g.ready.next;
          formed = g.ready.formed;
          short = g.ready.short;
          space = g.ready.space;
          few = g.ready.few;
        }

    module _ {env₁ : List ℕ} {buf₁ : List ℤ} {state₂ : Walk} {text₂ : List ℕ} {r : Returned Walked Refusal} (w : Runs survey-ready.scene g.ready.term 0 g.ready.next env₁ buf₁ state₂ text₂ r) where
      abbrev body : Program
      body = code g.ready.term g.ready.scene.trees start

      pub never-stops : {X : Type 0} {q : Refusal} → r ≡ Err q → X
      unfolding walked
      never-stops {q = q} e =
          let s = halted w q e in
          let both : went (skip body g.ready.scene.machine) ≡ stopped s.why s.where-at = s.stops in
          never (cc)

      module _ {d next : ℕ} (e : r ≡ reached d next) where
        end : Through w d next
        end = through w d next e

        pub depth_is : d ≡ depth_of g.ready.type
        depth_is = end.depth_is

        skipped-to : skip body g.ready.scene.machine ≡ end.after
        unfolding walked
        skipped-to = let both : went (skip body g.ready.scene.machine) ≡ went end.after = end.went_to in cc

        pub shallow : d ≤ 8
        shallow = omega (arith, depth_is, g.shallow)

        pub tree-fits : tree_size d ≤ β.inner
        tree-fits = omega (arith, depth_is, words-hold g.ready.term, g.ready.space)

        abbrev after-survey : Sink
        after-survey = feed start body (surveyed start g.ready.scene.sink)

        below : Below start (ids_of g.ready.scene.trees)
        below = trees-below g.ready.scene.shaped

        roomy : length (ids_of g.ready.scene.trees) ≤ g.ready.scene.sink.most
        roomy = omega (arith, g.known, g.ready.scene.wide.room (lists g.ready.scene.sunk list))

        abbrev the-tree : IdTree g.ready.type
        the-tree = tree g.ready.term g.ready.scene.trees start

        abbrev placing : Placing
        placing = record { place = place end.after.store; named = λ i. refl }

        abbrev opening-here : length env₁ ≡ length env → Opening env₁ (β.inner - (3 * depth_of g.ready.type + 3)) (depth_of g.ready.type) after-survey text₂ state₂.sink
        opening-here l =
            record {
              sunk = end.left.sunk;
              surveys = survey-mode g.ready.term g.ready.scene.trees start below g.ready.scene.sink roomy;
              tree = the-tree;
              placing = placing;
              words =
                  front-is env₁ (β.inner - tree_size (depth_of g.ready.type)) (tree_size (depth_of g.ready.type)) (tree_words (map_tree (place end.after.store) the-tree)) (drop β.inner env) end.left.words
                  (length-tree (map_tree (place end.after.store) the-tree));
              within = omega (arith, l, words-hold g.ready.term, g.ready.space, g.ready.scene.within);
              shallow = omega (arith, g.shallow);
            }

        pub open-ready : length env₁ ≡ length env → (j : Sink) × Opening env₁ (β.inner - (3 * d + 3)) d j text₂ state₂.sink
        open-ready l = (after-survey, subst (λ i. Opening env₁ (β.inner - (3 * i + 3)) i after-survey text₂ state₂.sink) (sym depth_is) (opening-here l))

        module _ (l : length env₁ ≡ length env) {state₃ : Walk} {text₃ : List ℕ}
            (o : (j : Sink) (h : Opening env₁ (β.inner - (3 * d + 3)) d j text₂ state₂.sink) → Opens j h.tree β.control text₃ state₃ state₂) where
          room-same : room end.after.store ≡ room g.ready.scene.machine.store
          room-same = ap (λ m. room m.store) (sym skipped-to) ∙ ap length (skipped-contents body g.ready.scene.machine)

          next-is : state₂.machine.streams ≡ start + size g.ready.term
          next-is =
              let gr = walked-grown (length buf) 0 body g.ready.scene.machine end.after end.went_to in
              next-id end.left.held
              ∙ (ap length gr.store
              ∙ (length-append g.ready.scene.machine.store gr.streams ∙ omega (arith, gr.number, count_code g.ready.term g.ready.scene.trees start)))

          opens-so : Opens after-survey the-tree β.control text₃ state₃ state₂
          opens-so = go d depth_is o
            where
              go : (i : ℕ) → i ≡ depth_of g.ready.type → ((j : Sink) (h : Opening env₁ (β.inner - (3 * i + 3)) i j text₂ state₂.sink) → Opens j h.tree β.control text₃ state₃ state₂)
                  → Opens after-survey (tree g.ready.term g.ready.scene.trees start) β.control text₃ state₃ state₂
              go i q f =
                  subst (λ x. ((j : Sink) (h : Opening env₁ (β.inner - (3 * x + 3)) x j text₂ state₂.sink) → Opens j h.tree β.control text₃ state₃ state₂) → Opens after-survey (tree g.ready.term g.ready.scene.trees start) β.control text₃ state₃ state₂)
                  (sym q) (λ f'. f' after-survey (opening-here l)) f

          counts-same : state₃.machine ≡ counters g.ready.scene.machine
          counts-same =
              let m = g.ready.scene.machine in
              let after-counts : state₂.machine ≡ record { streams = length end.after.store; room = room end.after.store; work = m.work; steps = m.steps } =
              end.left.held.counts-are ∙ ap (λ q. record { streams = length end.after.store; room = room end.after.store; work = q.work; steps = q.steps }) (sym skipped-to) in
              opens-so.machine
              ∙ (ap (λ i. back_to i state₂.machine) (survey-own g.ready.term g.ready.scene.trees start below g.ready.scene.sink roomy)
              ∙ (ap (back_to start) after-counts ∙ ap (λ q. back_to start (record { streams = start; room = q; work = m.work; steps = m.steps })) room-same))

          pub line-told : Opened g env₁ buf₁ state₃ text₃
          line-told =
              let m = g.ready.scene.machine in
              let h = g.ready.scene.held in
              record {
                held =
                    record {
                      counts-are = counts-same;
                      contents-are =
                          ap (λ q. take q buf₁) (sym room-same)
                          ∙ (end.left.held.contents-are ∙ (ap (λ q. contents q.store) (sym skipped-to) ∙ skipped-contents body m));
                      fits = omega (arith, room-same, end.left.held.fits);
                      short = end.left.held.short;
                      few = h.few;
                      slow = h.slow;
                      cheap = h.cheap;
                    };
                sunk = subst (λ j. Sunk j text₃ state₃.sink) sink-is opens-so.sunk;
                kept = subst (λ q. drop q buf₁ ≡ drop q buf) room-same end.left.kept;
                words = behind the-tree end.after β.inner β.inner env env₁ env₁ end.left.words (omega (arith, words-hold g.ready.term, g.ready.space));
              }
            where
              sink-is : opening after-survey the-tree β.control (state₂.machine.streams)
                  ≡ opened_by g
              sink-is =
                  ap (λ n. opening after-survey the-tree β.control n) next-is
                  ∙ opening-is g.ready.term g.ready.scene.trees start below g.ready.scene.sink roomy β.control (lists g.ready.scene.sunk list)
                  (g.ready.scene.sunk.plain (lists g.ready.scene.sunk list))
