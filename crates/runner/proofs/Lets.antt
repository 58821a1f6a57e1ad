-- Let: the second expression is walked where the first one's tree has become a binding, and its own tree then moves up over that.
use Prim.Native.Nat.{ℕ, ◌+◌, ◌*◌, ◌-◌, ◌≤◌, ◌<◌}
use mathlib.Core.List.{List, [], ◌∷◌, ◌++◌}
use mathlib.Core.Path.{◌≡◌, refl, sym, ◌∙◌, ap, subst}
use native.Mathlib.Omega.{arith}
use lib.IntN.{ℤ}
use lib.ListN.{length, drop, length-append}
use Rattle.std.specs.Prelude.{Err, Result as Returned}
use Rattle.laws.specs.Parts.{part, written}
use Rattle.snesl.specs.declared.code.Variable.{Variable}
use Rattle.snesl.specs.declared.refusal.Refusal.{Refusal}
use Rattle.snesl.specs.Values.{depth_of}
use Rattle.snesl.specs.Terms as terms
use Rattle.snesl.specs.Terms.{◌▹◌}
use Rattle.snesl.specs.Trees.{IdTree, map_tree}
use Rattle.snesl.specs.Programs.{count}
use Rattle.snesl.specs.Machine.{onward}
use Rattle.snesl.specs.Records.{byte_at, variable_at}
use Rattle.snesl.specs.Formed.{Formed}
use Rattle.snesl.specs.Translation.{size, tree, code}
use Rattle.environment.specs.Words.{tree_words, tree_size, spelled}
use Rattle.environment.specs.Needs.{words}
use Rattle.environment.proofs.Stack.{drop-written, length-written}
use Rattle.environment.proofs.Entries.{bound}
use Rattle.sink.specs.declared.state.Walk.{Walk}
use Rattle.steps.specs.Walking.{walked}
use Rattle.steps.specs.Holding.{place, most_streams}
use Rattle.steps.proofs.Walking.{walked_seq, Grown, walked-grown}
use Rattle.steps.proofs.Performing.{stopping-as}
use Rattle.sink.specs.Sinks.{feed}
use Rattle.sink.specs.Sunk.{Sunk}
use Rattle.sink.proofs.Feeding.{feed-seq}
use Rattle.leaves.specs.Places.{places, Shapely, Shaped, shaped-more, shallow-more}
use Rattle.leaves.specs.Scenes.{reached, Ran, Runs}
use Rattle.runner.specs.Walks.{Ready, Binding}
use Rattle.leaves.specs.declared.Walked.{Walked}
use Rattle.bodies.proofs.Differences.{back-up}
use Rattle.snesl.proofs.Compiled.Freshness.{count_code}
use Rattle.runner.proofs.Measures.{spans, shallow-type, words-hold}
use Rattle.leaves.proofs.Growing.{keeps_then, onward-as, onward-stop}
use Rattle.bodies.proofs.Feeding.{like-fed, wide-like}
use Rattle.bodies.proofs.Scenes.{grown-shaped, grown-spells}
use Rattle.leaves.proofs.Running.{ran-through, ran-stopped, Through, through, halted, ran-answer}
use Rattle.runner.proofs.Lifting.{behind, lifted-words}

module _ {t : List ℕ} {k sp : ℕ} {env : List ℕ} {buf : List ℤ} {state : Walk} {text : List ℕ} (g : Binding t k sp env buf state text) where
  abbrev x : Variable
  x = variable_at t (k + 2)

  abbrev pub bound-ready : Ready t (k + 3) sp env buf state text
  bound-ready =
      record {
        scene = g.scene;
        levels = g.levels;
        type = g.type₁;
        term = g.bound;
        next = g.middle;
        formed = g.first;
        short = g.short;
        space = omega (arith, g.space);
        few = omega (arith, g.few);
      }

  abbrev start : ℕ
  start = length g.scene.machine.store

  abbrev tree₁ : IdTree g.type₁
  tree₁ = tree g.bound g.scene.trees (length g.scene.machine.store)

  pub let-bytes : (k + 3 < length t) × (length t ≤ 65536)
  let-bytes = (omega (arith, (spans g.first g.scene.shallow).some_bytes, (spans g.first g.scene.shallow).within), g.short)

  module _ (n : ℕ) where
    both_code : walked (length buf) n (code (terms.bind g.bound g.body) g.scene.trees start) g.scene.machine
        ≡ onward (walked (length buf) n (code g.bound g.scene.trees start) g.scene.machine)
        (walked (length buf) n (code g.body (tree₁ ▹ g.scene.trees) (start + size g.bound)))
    unfolding code
    both_code = walked_seq (length buf) n (code g.bound g.scene.trees start) (code g.body (tree₁ ▹ g.scene.trees) (start + size g.bound)) g.scene.machine

    module _ {env₁ : List ℕ} {buf₁ : List ℤ} {state₁ : Walk} {text₁ : List ℕ} {r : Returned Walked Refusal} (w : Runs g.scene g.bound n g.middle env₁ buf₁ state₁ text₁ r) where
      pub bound-stopped : {q : Refusal} {env' : List ℕ} → r ≡ Err q
          → Runs g.scene (terms.bind g.bound g.body) n g.next env' buf₁ state₁ text₁ (Err q)
      bound-stopped {q} e = ran-stopped (stopping-as both_code (onward-stop _ (halted w q e)))

      module _ {c i : ℕ} (e : r ≡ reached c i) where
        pub first-end : Through w c i
        first-end = through w c i e

        pub first-depth : c ≡ depth_of g.type₁
        first-depth = first-end.depth_is

        pub first_next : i ≡ g.middle
        first_next = first-end.next-is

        pub second-later : (k + 3 < i) × (i ≤ length t)
        second-later =
            (omega (arith, first_next, (spans g.first g.scene.shallow).some_bytes), omega (arith, first_next, (spans g.first g.scene.shallow).within))

        pub first-shallow : depth_of g.type₁ ≤ 8
        first-shallow = shallow-type g.first g.scene.shallow

        pub bind-fits : length env₁ ≡ length env → (c < 4294967296) × (tree_size c + 2 ≤ sp) × (sp ≤ length env₁)
        bind-fits long =
            (omega (arith, first-depth, first-shallow), omega (arith, first-depth, g.space), omega (arith, long, g.scene.within))

        gr : Grown g.scene.machine (code g.bound g.scene.trees start) first-end.after
        gr = walked-grown (length buf) n (code g.bound g.scene.trees start) g.scene.machine first-end.after first-end.went_to

        number : length first-end.after.store ≡ start + size g.bound
        number =
            ap length gr.store
            ∙ (length-append g.scene.machine.store gr.streams ∙ omega (arith, gr.number, count_code g.bound g.scene.trees start))

        module _ {env₂ : List ℕ} {inner : ℕ} (at : inner ≡ sp - tree_size c - 2) (w₂ : env₂ ≡ written (sp - tree_size c - 2) (byte_at t (k + 2) ∷ c ∷ []) env₁)
            (long₁ : length env₁ ≡ length env) where
          abbrev size₁ : ℕ
          size₁ = tree_size (depth_of g.type₁)

          room-below : size₁ + 2 + words g.body ≤ sp
          room-below = omega (arith, g.space)

          inner-is : inner ≡ sp - size₁ - 2
          inner-is = at ∙ ap (λ d. sp - tree_size d - 2) first-depth

          named : env₂ ≡ written (sp - size₁ - 2) (x.0 ∷ depth_of g.type₁ ∷ []) env₁
          named = w₂ ∙ ap (λ d. written (sp - tree_size d - 2) (x.0 ∷ d ∷ []) env₁) first-depth

          two_up : sp - size₁ - 2 + 2 ≡ sp - size₁
          two_up = back-up sp size₁ (omega (arith, room-below))

          fits : sp - size₁ - 2 + 2 ≤ length env₁
          fits = subst (λ a. a ≤ length env₁) (sym two_up) (omega (arith, long₁, g.scene.within))

          above-first : drop sp env₁ ≡ drop sp env
          above-first = behind tree₁ first-end.after sp sp env env₁ env₁ first-end.left.words (omega (arith, room-below))

          spells₁ : drop sp env ≡ spelled g.scene.names (places first-end.after.store g.scene.trees) ++ g.scene.rest
          spells₁ = grown-spells g.scene first-end.after gr.streams gr.store env refl

          pub second-spells : drop inner env₂
              ≡ spelled (variable_at t (k + 2) ▹ g.scene.names) (places first-end.after.store (◌▹◌ {τ = g.type₁} (tree g.bound g.scene.trees (length g.scene.machine.store)) g.scene.trees)) ++ g.scene.rest
          unfolding places
          second-spells =
              ap (λ a. drop a env₂) inner-is
              ∙ (ap (drop (sp - size₁ - 2)) named
              ∙ bound g.type₁ env₁ (sp - size₁ - 2) x g.scene.names (map_tree (place first-end.after.store) tree₁)
              (places first-end.after.store g.scene.trees) g.scene.rest fits
              (ap (λ a. drop a env₁) two_up
              ∙ (first-end.left.words ∙ ap (λ l. tree_words (map_tree (place first-end.after.store) tree₁) ++ l) spells₁)))

          pub second-long : length env₂ ≡ length env
          second-long = ap length named ∙ (length-written env₁ (sp - size₁ - 2) (x.0 ∷ depth_of g.type₁ ∷ []) fits ∙ long₁)

          pub second-within : inner ≤ length env₂
          second-within = subst (λ a. a ≤ length env₂) (sym inner-is) (omega (arith, second-long, g.scene.within))

          pub second-space : words g.body ≤ inner
          second-space = subst (λ a. words g.body ≤ a) (sym inner-is) (omega (arith, room-below))

          pub second-formed : Formed t g.levels i (g.type₁ ∷ g.scene.context) (variable_at t (k + 2) ▹ g.scene.names) g.type g.body g.next
          second-formed = subst (λ a. Formed t g.levels a (g.type₁ ∷ g.scene.context) (x ▹ g.scene.names) g.type g.body g.next) (sym first_next) g.second

          pub second-few : length first-end.after.store + 25 * (length t - i) ≤ most_streams
          second-few =
              let s = spans g.first g.scene.shallow in
              let z = spans g.second (shallow-more (shallow-type g.first g.scene.shallow) g.scene.shallow) in
              omega (arith, first_next, number, s.sized, s.within, s.some_bytes, z.within, z.some_bytes, g.few)

          pub second-shaped : Shaped first-end.after.store (g.type₁ ∷ g.scene.context) (tree g.bound g.scene.trees (length g.scene.machine.store) ▹ g.scene.trees)
          second-shaped = shaped-more first-end.left.shapely (grown-shaped g.scene first-end.after gr.streams gr.store)

          abbrev pub second-ready : Ready t i inner env₂ buf₁ state₁ text₁
          second-ready =
              record {
                scene =
                    record {
                      context = g.type₁ ∷ g.scene.context;
                      names = variable_at t (k + 2) ▹ g.scene.names;
                      trees = tree g.bound g.scene.trees (length g.scene.machine.store) ▹ g.scene.trees;
                      machine = first-end.after;
                      rest = g.scene.rest;
                      spells = second-spells;
                      shaped = second-shaped;
                      shallow = shallow-more first-shallow g.scene.shallow;
                      held = first-end.left.held;
                      within = second-within;
                      sink = feed (length g.scene.machine.store) (code g.bound g.scene.trees (length g.scene.machine.store)) g.scene.sink;
                      sunk = first-end.left.sunk;
                      wide = wide-like (like-fed (length g.scene.machine.store) (code g.bound g.scene.trees (length g.scene.machine.store)) g.scene.sink) g.scene.wide;
                    };
                levels = g.levels;
                type = g.type;
                term = g.body;
                next = g.next;
                formed = second-formed;
                short = g.short;
                space = second-space;
                few = second-few;
              }

          then-second : length buf₁ ≡ length buf → walked (length buf) n (code (terms.bind g.bound g.body) g.scene.trees start) g.scene.machine
              ≡ walked (length buf₁) n (code g.body (tree₁ ▹ g.scene.trees) (length first-end.after.store)) first-end.after
          then-second long =
              both_code
              ∙ (onward-as (walked (length buf) n (code g.body (tree₁ ▹ g.scene.trees) (start + size g.bound))) first-end.went_to
              ∙ (λ j. walked (sym long j) n (code g.body (tree₁ ▹ g.scene.trees) (sym number j)) first-end.after))

          module _ (long : length buf₁ ≡ length buf) {env₃ : List ℕ} {buf₂ : List ℤ} {state₂ : Walk} {text₂ : List ℕ} {r₂ : Returned Walked Refusal}
              (w₃ : Runs second-ready.scene g.body n g.next env₃ buf₂ state₂ text₂ r₂) where
            pub body-stopped : {q : Refusal} {env' : List ℕ} → r₂ ≡ Err q
                → Runs g.scene (terms.bind g.bound g.body) n g.next env' buf₂ state₂ text₂ (Err q)
            body-stopped {q} f = ran-stopped (stopping-as (then-second long) (halted w₃ q f))

            module _ {d end : ℕ} (f : r₂ ≡ reached d end) where
              second-end : Through w₃ d end
              second-end = through w₃ d end f

              pub second-depth : d ≡ depth_of g.type
              second-depth = second-end.depth_is

              pub second-shallow : depth_of g.type ≤ 8
              second-shallow = shallow-type g.second (shallow-more first-shallow g.scene.shallow)

              low : tree_size (depth_of g.type) ≤ inner
              low = omega (arith, words-hold g.body, second-space)

              below : inner ≤ sp
              below = subst (λ a. a ≤ sp) (sym inner-is) (omega arith)

              pub lift-fits : length env₃ ≡ length env₂ → (d < 4294967296) × (tree_size d ≤ inner) × (inner ≤ sp) × (sp ≤ length env₃)
              lift-fits long₃ =
                  (omega (arith, second-depth, second-shallow), omega (arith, second-depth, low), below, omega (arith, long₃, second-long, g.scene.within))

              abbrev tree₂ : IdTree g.type
              tree₂ = tree g.body (tree₁ ▹ g.scene.trees) (length first-end.after.store)

              gr₂ : Grown first-end.after (code g.body (tree₁ ▹ g.scene.trees) (length first-end.after.store)) second-end.after
              gr₂ =
                  walked-grown (length buf₁) n (code g.body (tree₁ ▹ g.scene.trees) (length first-end.after.store)) first-end.after
                  second-end.after second-end.went_to

              tree_is : tree₂ ≡ tree (terms.bind g.bound g.body) g.scene.trees start
              unfolding tree
              tree_is = ap (tree g.body (tree₁ ▹ g.scene.trees)) number

              above-second : drop sp env₂ ≡ drop sp env
              above-second =
                  ap (drop sp) named
                  ∙ (drop-written env₁ (sp - size₁ - 2) sp (x.0 ∷ depth_of g.type₁ ∷ []) (subst (λ a. a ≤ sp) (sym two_up) (omega arith)) (omega (arith, long₁, g.scene.within))
                  ∙ above-first)

              fed : feed (length first-end.after.store) (code g.body (tree₁ ▹ g.scene.trees) (length first-end.after.store)) (feed start (code g.bound g.scene.trees start) g.scene.sink)
                  ≡ feed start (code (terms.bind g.bound g.body) g.scene.trees start) g.scene.sink
              unfolding code
              fed =
                  let up : length first-end.after.store ≡ start + count (code g.bound g.scene.trees start) = omega (arith, number, count_code g.bound g.scene.trees start) in
                  (λ j. feed (up j) (code g.body (tree₁ ▹ g.scene.trees) (number j)) (feed start (code g.bound g.scene.trees start) g.scene.sink))
                  ∙ sym (feed-seq start (code g.bound g.scene.trees start) (code g.body (tree₁ ▹ g.scene.trees) (start + size g.bound)) g.scene.sink)

              pub let_runs : {env₄ : List ℕ} → length env₃ ≡ length env₂
                  → env₄ ≡ written (sp - tree_size d) (part (inner - tree_size d) (tree_size d) env₃) env₃
                  → Runs g.scene (terms.bind g.bound g.body) n g.next env₄ buf₂ state₂ text₂ (reached d end)
              let_runs {env₄} long₃ w₄ =
                  let moved : env₄ ≡ written (sp - tree_size (depth_of g.type)) (part (inner - tree_size (depth_of g.type)) (tree_size (depth_of g.type)) env₃) env₃ =
                  w₄ ∙ ap (λ c. written (sp - tree_size c) (part (inner - tree_size c) (tree_size c) env₃) env₃) second-depth in
                  let words : drop (sp - tree_size (depth_of g.type)) env₄ ≡ tree_words (map_tree (place second-end.after.store) tree₂) ++ drop sp env₂ =
                  lifted-words tree₂ second-end.after inner sp env₂ env₃ env₄ second-end.left.words low below (omega (arith, long₃, second-long, g.scene.within)) moved in
                  let ran : Ran (walked (length buf) n (code (terms.bind g.bound g.body) g.scene.trees start) g.scene.machine)
                  (feed start (code (terms.bind g.bound g.body) g.scene.trees start) g.scene.sink)
                  g.type (tree (terms.bind g.bound g.body) g.scene.trees start) g.next sp env env₄ buf buf₂ state₂ text₂ (reached (depth_of g.type) g.next) =
                  ran-through second-end.after (then-second long ∙ second-end.went_to)
                  (record {
                    held = second-end.left.held;
                    sunk = subst (λ z. Sunk z text₂ state₂.sink) fed second-end.left.sunk;
                    kept = keeps_then first-end.after.store gr₂.streams second-end.after.store buf buf₁ buf₂ first-end.left.kept second-end.left.kept gr₂.store;
                    shapely = subst (Shapely second-end.after.store g.type) tree_is second-end.left.shapely;
                    words =
                        words
                        ∙ (λ j. tree_words (map_tree (place second-end.after.store) (tree_is j)) ++ above-second j);
                  }) in
                  ran-answer (λ j. reached (sym second-depth j) (sym second-end.next-is j)) ran
