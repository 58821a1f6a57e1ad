-- A comprehension of either kind: its body is walked in an environment of its own, and its tree then moves up to the flags.
use Prim.Native.Nat.{ℕ, suc, ◌+◌, ◌*◌, ◌-◌, ◌≤◌, ◌<◌}
use mathlib.Core.Bool.{Bool}
use mathlib.Core.List.{List, [], ◌∷◌, ◌++◌, append_assoc}
use mathlib.Core.Option.{some}
use mathlib.Core.Path.{◌≡◌, refl, sym, ◌∙◌, ap, subst}
use native.Mathlib.Omega.{arith}
use lib.IntN.{ℤ}
use lib.ListN.{length, drop, length-append}
use Rattle.std.specs.Prelude.{Err, Result as Returned}
use Rattle.laws.specs.Parts.{part, written}
use Rattle.snesl.specs.declared.code.Instruction.TheVariants.{Close}
use Rattle.snesl.specs.declared.refusal.Refusal.{Refusal}
use Rattle.snesl.specs.Values.{ValueType, braces, depth_of}
use Rattle.snesl.specs.Terms as terms
use Rattle.snesl.specs.Terms.{Term, Scalars, any_type, listed_types, ◌▹◌, lookup}
use Rattle.snesl.specs.Trees.{Tree, IdTree, leaf, node, inner, outer, order, map_tree}
use Rattle.snesl.specs.Programs.{Program, dv, fv, among, ascending}
use Rattle.snesl.specs.Ids.{ids_of}
use Rattle.snesl.specs.Machine.{State, Result, went}
use Rattle.snesl.specs.Streams.{◌!◌, flags}
use Rattle.snesl.specs.Checking.{listed_names, pointers}
use Rattle.snesl.specs.Translation.{numbered, tree, code}
use Rattle.environment.specs.Words.{place_words, tree_words, tree_size}
use Rattle.sink.specs.declared.state.Walk.{Walk}
use Rattle.steps.specs.Walking.{walked}
use Rattle.environment.proofs.Stack.{drop-above, rest-is}
use Rattle.sink.specs.Sinks.{Sink, opened, closed, feed, told}
use Rattle.sink.specs.Sunk.{Sunk, Tells}
use Rattle.steps.specs.Holding.{Held, keeps, place, most_streams}
use Rattle.snesl.specs.Records.{byte_at, variable_at, variables_at}
use Rattle.records.proofs.Variables.{length-variables}
use Rattle.steps.proofs.Stores.{kept}
use Rattle.steps.proofs.Walking.{Grown, walked-grown}
use Rattle.steps.proofs.Performing.{stopping-as}
use Rattle.steps.proofs.Executing.{next-id}
use Rattle.leaves.specs.Places.{shapely-node, Shallow, shallow-more}
use Rattle.leaves.specs.Scenes.{reached, most_taken, Wide, Scene, Ran, Runs}
use Rattle.runner.specs.declared.Body.{Body}
use Rattle.runner.specs.Walks.{Ready, opened_by, Opened, Entire, Comprehends}
use Rattle.bodies.specs.Bodies.{Each, inner_trees, Inside, Enters}
use Rattle.leaves.specs.declared.Walked.{Walked}
use Rattle.bodies.specs.declared.Entered.{Entered}
use Rattle.bodies.proofs.Lists.{length-listed}
use Rattle.bodies.proofs.Feeding.{like-opened, wide-like}
use Rattle.bodies.proofs.Differences.{up-again}
use Rattle.runner.proofs.Measures.{scalars-shallow, words-hold}
use Rattle.leaves.proofs.Places.{place_kept, lookup-shapely, lookup-shallow, outer-flags}
use Rattle.leaves.proofs.Growing.{keeps_then}
use Rattle.leaves.proofs.Running.{ran-through, ran-stopped, Through, through, halted, ran-answer, ran-as}
use Rattle.runner.proofs.Lifting.{lifted-words}

-- ---- a body, its environment and its flags, of either kind

module _ {t : List ℕ} {β : Body} {sp : ℕ} {env : List ℕ} {buf : List ℤ} {state : Walk} {text : List ℕ} (g : Entire t β sp env buf state text) where
  abbrev body : Program
  body = code g.over.ready.term g.over.ready.scene.trees (length g.over.ready.scene.machine.store)

  abbrev body-tree : IdTree g.over.ready.type
  body-tree = tree g.over.ready.term g.over.ready.scene.trees (length g.over.ready.scene.machine.store)

  pub three-below : 3 ≤ sp
  three-below = omega (arith, g.below)

  module _ {env₂ : List ℕ} {buf₂ : List ℤ} {state₂ : Walk} {text₂ : List ℕ} (o : Opened g.over env₂ buf₂ state₂ text₂) (long₂ : length env₂ ≡ length env) (same₂ : length buf₂ ≡ length buf) where
    pub told-wide : Wide (opened_by g.over)
    told-wide =
        wide-like
        (like-opened g.over.ready.scene.sink
        (ascending (among (order body-tree) (dv (length g.over.ready.scene.machine.store) body)))
        β.control (ascending (fv (length g.over.ready.scene.machine.store) body)))
        g.over.ready.scene.wide

    pub told-within : β.inner ≤ length env₂
    told-within = omega (arith, long₂, g.over.ready.scene.within)

    pub told-flags : drop (sp - 3) env₂ ≡ place_words (place g.over.ready.scene.machine.store g.flags) ++ drop sp env
    told-flags = drop-above env₂ env β.inner (sp - 3) o.words (omega (arith, g.below)) ∙ g.words

    abbrev pub told-ready : Ready t β.at β.inner env₂ buf₂ state₂ text₂
    told-ready =
        record {
          scene =
              record {
                context = g.over.ready.scene.context;
                names = g.over.ready.scene.names;
                trees = g.over.ready.scene.trees;
                machine = g.over.ready.scene.machine;
                rest = g.over.ready.scene.rest;
                spells = o.words ∙ g.over.ready.scene.spells;
                shaped = g.over.ready.scene.shaped;
                shallow = g.over.ready.scene.shallow;
                held = o.held;
                within = told-within;
                sink = opened_by g.over;
                sunk = o.sunk;
                wide = told-wide;
              };
          levels = g.over.ready.levels;
          type = g.over.ready.type;
          term = g.over.ready.term;
          next = g.over.ready.next;
          formed = g.over.ready.formed;
          short = g.over.ready.short;
          space = g.over.ready.space;
          few = g.over.ready.few;
        }

    module _ {env₃ : List ℕ} {buf₃ : List ℤ} {state₃ : Walk} {text₃ : List ℕ} {r : Returned Walked Refusal} (w : Runs told-ready.scene g.over.ready.term β.units g.over.ready.next env₃ buf₃ state₃ text₃ r) where
      whole_is : walked (length buf) β.units body g.over.ready.scene.machine ≡ walked (length buf₂) β.units body g.over.ready.scene.machine
      whole_is = ap (λ c. walked c β.units body g.over.ready.scene.machine) (sym same₂)

      pub body-stopped : {q : Refusal} {env' : List ℕ} → r ≡ Err q → Comprehends g env' buf₃ state₃ text₃ (Err q)
      body-stopped {q} e = ran-stopped (stopping-as whole_is (halted w q e))

      module _ {d end : ℕ} (e : r ≡ reached d end) where
        body_end : Through w d end
        body_end = through w d end e

        pub close-sunk : (j : Sink) × Sunk j text₃ state₃.sink
        close-sunk = (_, body_end.left.sunk)

        pub body-depth : d ≡ depth_of g.over.ready.type
        body-depth = body_end.depth_is

        low : tree_size (depth_of g.over.ready.type) ≤ β.inner
        low = omega (arith, g.over.ready.space, words-hold g.over.ready.term)

        pub lift-fits : length env₃ ≡ length env₂ → (d < 4294967296) × (tree_size d ≤ β.inner) × (β.inner ≤ sp - 3) × (sp - 3 ≤ length env₃)
        lift-fits long₃ =
            (omega (arith, body-depth, g.over.shallow), omega (arith, body-depth, low), omega (arith, g.below), omega (arith, long₃, long₂, g.within))

        pub one_deeper : d + 1 ≤ 8
        one_deeper = omega (arith, body-depth, g.over.shallow)

        gr : Grown g.over.ready.scene.machine body body_end.after
        gr = walked-grown (length buf₂) β.units body g.over.ready.scene.machine body_end.after body_end.went_to

        flags-place : place g.over.ready.scene.machine.store g.flags ≡ place body_end.after.store g.flags
        flags-place =
            sym (ap (λ σ. place σ g.flags) gr.store ∙ place_kept g.over.ready.scene.machine.store gr.streams g.flags (flags g.bits) g.stored)

        pub body-runs : {env₄ : List ℕ} {state₄ : Walk} {text₄ : List ℕ} → length env₃ ≡ length env₂ → ((j : Sink) → Sunk j text₃ state₃.sink → Tells (told Close j) text₄ state₄ state₃)
            → env₄ ≡ written (sp - 3 - tree_size d) (part (β.inner - tree_size d) (tree_size d) env₃) env₃
            → Comprehends g env₄ buf₃ state₄ text₄ (reached (d + 1) end)
        unfolding tree_words map_tree
        body-runs {env₄} {state₄} {text₄} long₃ c w₄ =
            let moved : env₄ ≡ written (sp - 3 - tree_size (depth_of g.over.ready.type)) (part (β.inner - tree_size (depth_of g.over.ready.type)) (tree_size (depth_of g.over.ready.type)) env₃) env₃ =
            w₄ ∙ ap (λ c. written (sp - 3 - tree_size c) (part (β.inner - tree_size c) (tree_size c) env₃) env₃) body-depth in
            let below : β.inner ≤ sp - 3 = omega (arith, g.below) in
            let lifted : drop (sp - 3 - tree_size (depth_of g.over.ready.type)) env₄ ≡ tree_words (map_tree (place body_end.after.store) body-tree) ++ drop (sp - 3) env₂ =
            lifted-words body-tree body_end.after β.inner (sp - 3) env₂ env₃ env₄ body_end.left.words low below (omega (arith, long₃, long₂, g.within)) moved in
            let three : sp - tree_size (suc (depth_of g.over.ready.type)) ≡ sp - 3 - tree_size (depth_of g.over.ready.type) = omega arith in
            let words : drop (sp - tree_size (suc (depth_of g.over.ready.type))) env₄
            ≡ (tree_words (map_tree (place body_end.after.store) body-tree) ++ place_words (place body_end.after.store g.flags)) ++ drop sp env =
            ap (λ a. drop a env₄) three
            ∙ (lifted
            ∙ (ap (λ l. tree_words (map_tree (place body_end.after.store) body-tree) ++ l)
            (told-flags ∙ ap (λ q. place_words q ++ drop sp env) flags-place)
            ∙ sym (append_assoc (tree_words (map_tree (place body_end.after.store) body-tree)) (place_words (place body_end.after.store g.flags)) (drop sp env)))) in
            ran-answer (λ j. reached (deeper j) (sym body_end.next-is j))
            (ran-through body_end.after (whole_is ∙ body_end.went_to)
            (record {
              held = subst (Held body_end.after buf₃) (sym (c _ body_end.left.sunk).machine) body_end.left.held;
              sunk = (c _ body_end.left.sunk).sunk;
              kept = keeps_then g.over.ready.scene.machine.store gr.streams body_end.after.store buf buf₂ buf₃ o.kept body_end.left.kept gr.store;
              shapely =
                  shapely-node g.bits body_end.left.shapely
                  (ap (λ σ. σ ! g.flags) gr.store ∙ kept g.over.ready.scene.machine.store gr.streams g.flags (flags g.bits) g.stored);
              words = words;
            }))
          where
            deeper : suc (depth_of g.over.ready.type) ≡ d + 1
            deeper = omega (arith, body-depth)

-- ---- the whole, whose run and lines go on as its body's

pub record Encloses {t : List ℕ} {β : Body} {sp : ℕ} {env env₁ : List ℕ} {buf buf₁ : List ℤ} {state state₁ : Walk} {text text₁ : List ℕ} (s : Scene env sp buf state text)
    (g : Entire t β sp env₁ buf₁ state₁ text₁) (n : ℕ) (e : Term s.context (braces g.over.ready.type)) : Type 0 where
  pub whole : walked (length buf) n (code e s.trees (length s.machine.store)) s.machine
      ≡ walked (length buf) β.units (code g.over.ready.term g.over.ready.scene.trees (length g.over.ready.scene.machine.store)) g.over.ready.scene.machine
  pub fed : feed (length s.machine.store) (code e s.trees (length s.machine.store)) s.sink
      ≡ closed (feed (length g.over.ready.scene.machine.store) (code g.over.ready.term g.over.ready.scene.trees (length g.over.ready.scene.machine.store)) (opened_by g.over))
  pub tree_is : node (tree g.over.ready.term g.over.ready.scene.trees (length g.over.ready.scene.machine.store)) g.flags ≡ tree e s.trees (length s.machine.store)
  pub words : drop sp env₁ ≡ drop sp env
  pub kept : keeps g.over.ready.scene.machine.store buf buf₁
  pub long : length buf₁ ≡ length buf

-- the same walk, seen from before the body was entered
ran-since : {res : Result} {k : Sink} {τ : ValueType} {u : IdTree τ} {next sp : ℕ} {env env₁ env' : List ℕ} {buf buf₁ buf' : List ℤ} {state : Walk} {text : List ℕ} {r : Returned Walked Refusal}
    → drop sp env₁ ≡ drop sp env → ((m : State) → res ≡ went m → keeps m.store buf buf₁)
    → Ran res k τ u next sp env₁ env' buf₁ buf' state text r → Ran res k τ u next sp env env' buf buf' state text r
ran-since {u = u} e f w =
    record {
      says = w.says;
      leaves =
          λ m q.
          let l = w.leaves m q in
          record {
            held = l.held;
            sunk = l.sunk;
            kept = l.kept ∙ f m q;
            shapely = l.shapely;
            words = l.words ∙ ap (λ d. tree_words (map_tree (place m.store) u) ++ d) e;
          };
    }

pub enclosed-runs : {t : List ℕ} {β : Body} {sp : ℕ} {env env₁ : List ℕ} {buf buf₁ : List ℤ} {state state₁ : Walk} {text text₁ : List ℕ} (s : Scene env sp buf state text)
    (g : Entire t β sp env₁ buf₁ state₁ text₁) (n : ℕ) (e : Term s.context (braces g.over.ready.type)) → Encloses s g n e
    → {env' : List ℕ} {buf' : List ℤ} {state' : Walk} {text' : List ℕ} {r : Returned Walked Refusal} → Comprehends g env' buf' state' text' r → Runs s e n g.over.ready.next env' buf' state' text' r
enclosed-runs {β = β} {buf = buf} {buf₁ = buf₁} s g n e h w =
    let m = g.over.ready.scene.machine in
    let p = code g.over.ready.term g.over.ready.scene.trees (length m.store) in
    ran-as (ap (λ c. walked c β.units p m) h.long ∙ sym h.whole) (sym h.fed) h.tree_is
    (ran-since h.words
    (λ m' q.
    let gr = walked-grown (length buf₁) β.units p m m' q in
    keeps_then m.store gr.streams m'.store buf buf₁ buf₁ h.kept refl gr.store)
    w)

-- ---- a comprehension over a sequence

-- how many ids a tree has, and the copies of listed variables
pub order-long : {d : ℕ} → (t : Tree ℕ d) → length (order t) ≡ d + 1
unfolding order
order-long (leaf a) = refl
order-long (node t a) = length-append (order t) (a ∷ []) ∙ omega (arith, order-long t)

numbered-long : {Γ : List ValueType} → (s : ℕ) (us : Scalars Γ) → length (ids_of (numbered s us)) ≡ length us
unfolding ids_of numbered order
numbered-long s [] = refl
numbered-long s (u ∷ us) = ap suc (numbered-long (suc s) us)

abbrev inner_of : {t : List ℕ} {k sp : ℕ} {env : List ℕ} {buf : List ℤ} {state : Walk} {text : List ℕ} → (g : Each t k sp env buf state text) → IdTree g.inside
inner_of g = inner (lookup g.pointer g.scene.trees)

-- its body, whose control is the next stream
abbrev pub each_body : (t : List ℕ) (k : ℕ) (state : Walk) (inner units : ℕ) → Body
each_body t k state inner units = record { at = k + 5 + byte_at t (k + 4); control = state.machine.streams; units = units; inner = inner }

module _ {t : List ℕ} {k sp : ℕ} {env : List ℕ} {buf : List ℤ} {state : Walk} {text : List ℕ} (g : Each t k sp env buf state text) {n : ℕ} where
  pub enter-stopped : {env₁ env' : List ℕ} {buf₁ : List ℤ} {state₁ : Walk} {text₁ : List ℕ} {r : Returned Entered Refusal} {q : Refusal} → Enters g n env₁ buf₁ state₁ text₁ r → r ≡ Err q
      → Runs g.scene (terms.each g.pointer (pointers g.list) g.body) n g.next env' buf₁ state₁ text₁ (Err q)
  enter-stopped {q = q} w e = ran-stopped (w.stops q e)

  module _ {env₁ : List ℕ} {buf₁ : List ℤ} {state₁ : Walk} {text₁ : List ℕ} {inner units : ℕ} (i : Inside g n inner units env₁ buf₁ state₁ text₁) (long₁ : length env₁ ≡ length env) where
    pub inside-within : inner ≤ length env₁
    inside-within = omega (arith, long₁, i.below, g.scene.within)

    pub inside-shallow : Shallow (g.inside ∷ listed_types (any_type (pointers g.list)))
    inside-shallow = shallow-more {τ = g.inside} (omega (arith, lookup-shallow g.pointer g.scene.shallow)) (scalars-shallow (pointers g.list))

    as_many : length (pointers g.list) ≡ byte_at t (k + 4)
    as_many = length-listed g.scene.names (variables_at t (k + 5) (byte_at t (k + 4))) g.list g.lists ∙ length-variables t (k + 5) (byte_at t (k + 4))

    pub inside-few : length i.after.store + 25 * (length t - (k + 5 + byte_at t (k + 4))) ≤ most_streams
    inside-few = omega (arith, as_many, i.number, g.few, g.bytes)

    -- its ids: those of x, and of the listed variables
    pub known-ids : length (ids_of (inner_trees g)) ≤ most_taken
    unfolding ids_of
    known-ids =
        omega (
          arith,
          length-append (order (inner_of g)) (ids_of (numbered (suc (length g.scene.machine.store)) (pointers g.list))),
          order-long (inner_of g),
          numbered-long (suc (length g.scene.machine.store)) (pointers g.list),
          as_many,
          g.most,
          lookup-shallow g.pointer g.scene.shallow,
        )

    abbrev pub flags-id : ℕ
    flags-id = outer (lookup g.pointer g.scene.trees)

    pub flags-stream : (bs : List Bool) × (g.scene.machine.store ! flags-id ≡ some (flags bs))
    flags-stream = outer-flags (lookup-shapely g.pointer g.scene.shaped)

    pub flags-stored : i.after.store ! flags-id ≡ some (flags flags-stream.0)
    flags-stored = ap (λ σ. σ ! flags-id) i.store ∙ kept g.scene.machine.store i.streams flags-id (flags flags-stream.0) flags-stream.1

    above : drop sp env₁ ≡ drop sp env
    above =
        ap (λ a. drop a env₁) (sym (up-again sp 3 (omega (arith, i.below))))
        ∙ rest-is env₁ (sp - 3) 3 (place_words (place i.after.store flags-id)) (drop sp env) i.flags refl

    pub flags-words : drop (sp - 3) env₁ ≡ place_words (place i.after.store flags-id) ++ drop sp env₁
    flags-words = i.flags ∙ ap (λ l. place_words (place i.after.store flags-id) ++ l) (sym above)

    abbrev pub each-entire : Entire t (each_body t k state inner units) sp env₁ buf₁ state₁ text₁
    each-entire =
        record {
          over =
              record {
                ready =
                    record {
                      scene =
                          record {
                            context = g.inside ∷ listed_types (any_type (pointers g.list));
                            names = variable_at t (k + 2) ▹ listed_names g.list;
                            trees = inner_trees g;
                            machine = i.after;
                            rest = i.rest;
                            spells = i.spells;
                            shaped = i.shaped;
                            shallow = inside-shallow;
                            held = i.held;
                            within = inside-within;
                            sink = i.sink;
                            sunk = i.sunk;
                            wide = i.wide;
                          };
                      levels = g.levels;
                      type = g.type;
                      term = g.body;
                      next = g.next;
                      formed = g.formed;
                      short = g.short;
                      space = i.space;
                      few = inside-few;
                    };
                known = known-ids;
                shallow = g.shallow;
              };
          flags = flags-id;
          bits = flags-stream.0;
          stored = flags-stored;
          words = flags-words;
          below = i.below;
          within = omega (arith, long₁, g.scene.within);
        }

    each-encloses : length buf₁ ≡ length buf → Encloses g.scene each-entire n (terms.each g.pointer (pointers g.list) g.body)
    unfolding tree
    each-encloses long =
        let s = length i.after.store in
        let p = code g.body (inner_trees g) s in
        record {
          whole = i.whole;
          fed =
              i.fed
              ∙ ap (λ c. closed (feed s p (opened (ascending (among (order (tree g.body (inner_trees g) s)) (dv s p))) c (ascending (fv s p)) i.sink)))
              (sym (next-id g.scene.held));
          tree_is = ap (λ a. node (tree g.body (inner_trees g) a) flags-id) i.number;
          words = above;
          kept = i.kept;
          long = long;
        }

    pub each-runs : length buf₁ ≡ length buf → {env' : List ℕ} {buf' : List ℤ} {state' : Walk} {text' : List ℕ} {r : Returned Walked Refusal} → Comprehends each-entire env' buf' state' text' r
        → Runs g.scene (terms.each g.pointer (pointers g.list) g.body) n g.next env' buf' state' text' r
    each-runs long w = enclosed-runs g.scene each-entire n (terms.each g.pointer (pointers g.list) g.body) (each-encloses long) w
