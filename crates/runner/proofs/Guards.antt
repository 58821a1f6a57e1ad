-- A guard: what stands at its record, and its body, which is then walked as any other comprehension's (proofs/Comprehensions.antt).
use Prim.Native.Nat.{ℕ, ◌+◌, ◌*◌, ◌-◌, ◌≤◌}
use mathlib.Core.List.{List, [], ◌∷◌, ◌++◌}
use mathlib.Core.Path.{◌≡◌, refl, sym, ◌∙◌, ap, subst}
use native.Mathlib.Omega.{arith}
use borrow.Author.Tests.{ltb-true}
use lib.IntN.{ℤ}
use lib.ListN.{length, drop, length-append}
use Rattle.std.specs.Prelude.{Ok, Err, Result as Returned}
use Rattle.laws.proofs.Never.{never}
use Rattle.snesl.specs.declared.code.Variable.{Variable}
use Rattle.snesl.specs.declared.refusal.Refusal.{Refusal}
use Rattle.snesl.specs.Limits.{most_depth, most_listed}
use Rattle.snesl.specs.Values.{ValueType, depth_of}
use Rattle.snesl.specs.Terms as terms
use Rattle.snesl.specs.Terms.{Term, Listing, listed_types, All, lookup}
use Rattle.snesl.specs.Trees.{IdTree, node, order}
use Rattle.snesl.specs.Programs.{dv, fv, among, ascending}
use Rattle.snesl.specs.Ids.{ids_of}
use Rattle.snesl.specs.Records as records
use Rattle.snesl.specs.Records.{byte_at, variable_at, variables_at, guarding, head_at}
use Rattle.snesl.specs.Checking.{any_names, any_pointers}
use Rattle.snesl.specs.Translation.{pack_size, pack_tree, pack_trees, tree, code}
use Rattle.snesl.specs.Formed.{Formed}
use Rattle.snesl.proofs.Views.{by-guard}
use Rattle.environment.specs.Words.{place_words}
use Rattle.environment.specs.Needs.{words}
use Rattle.environment.proofs.Stack.{rest-is}
use Rattle.sink.specs.declared.state.Walk.{Walk}
use Rattle.sink.specs.Sinks.{opened, closed, feed}
use Rattle.steps.specs.Holding.{place, most_streams}
use Rattle.steps.proofs.Executing.{next-id}
use Rattle.leaves.specs.Places.{Shallow}
use Rattle.leaves.specs.Scenes.{most_taken, Runs}
use Rattle.leaves.specs.declared.Walked.{Walked}
use Rattle.leaves.proofs.Places.{lookup-shallow}
use Rattle.leaves.proofs.Running.{ran-stopped}
use Rattle.records.specs.declared.head.Head.TheVariants as head
use Rattle.records.specs.Heads.{head_of}
use Rattle.records.proofs.Heads.{told, Reading, none, beyond, a_var, a_let, a_const, a_truth, an_iota, an_operation, a_negation, a_sum, an_each, a_guard, reading}
use Rattle.records.proofs.Variables.{length-variables}
use Rattle.bodies.specs.declared.Entered.{Entered}
use Rattle.bodies.proofs.Differences.{up-again}
use Rattle.runner.specs.declared.Body.{Body}
use Rattle.runner.specs.declared.Route.TheVariants as route
use Rattle.runner.specs.Walks.{Ready, Entire, Comprehends}
use Rattle.guards.specs.Entering.{Guard, inner_trees, GuardInside, GuardEnters}
use Rattle.runner.proofs.Reading.{found-bool}
use Rattle.runner.proofs.Measures.{length-any, any-shallow, packs-most}
use Rattle.runner.proofs.Comprehensions.{order-long, Encloses, enclosed-runs}
use Rattle.runner.proofs.Dispatch.{routed, guard-head}

guard-fields : (t : List ℕ) (k : ℕ) (x : Variable) (n : ℕ) → Ok (head.Guard x n) ≡ head_of k (head_at t k) → (x ≡ variable_at t (k + 2)) × (n ≡ byte_at t (k + 3))
guard-fields t k x n e = go (reading t k) e
  where
    go : {m : ℕ} {s : Returned Unit Refusal} {h : records.Head} → Reading t k m s h → Ok (head.Guard x n) ≡ head_of k h → (x ≡ variable_at t (k + 2)) × (n ≡ byte_at t (k + 3))
    go none q = never (cc)
    go beyond q = never (cc)
    go (a_var p l) q = never (cc)
    go (a_let p l) q = never (cc)
    go (a_const p l) q = never (cc)
    go (a_truth p c f l) q = never (cc)
    go (an_iota p l) q = never (cc)
    go (an_operation o p l) q = never (cc)
    go (a_negation p l) q = never (cc)
    go (a_sum p l) q = never (cc)
    go (an_each p j f l i) q = never (cc)
    go (a_guard p j f l i) q =
        let one : x ≡ variable_at t (k + 2) = cc in
        let two : n ≡ length (variables_at t (k + 4) j) = cc in
        (one, two ∙ (length-variables t (k + 4) j ∙ f))

-- how many ids packed variables have
packed-long : {Γ : List ValueType} → Shallow Γ → (us : Listing Γ) (δ : All IdTree Γ) (s : ℕ) → length (ids_of (pack_trees us δ s)) ≤ 9 * length us
unfolding ids_of pack_trees
packed-long h [] δ s = omega arith
packed-long h (u ∷ us) δ s =
    let t = pack_tree (lookup u.1 δ) s in
    let r = pack_trees us δ (s + pack_size (depth_of u.0)) in
    omega (arith, length-append (order t) (ids_of r), order-long t, lookup-shallow u.1 h, packed-long h us δ (s + pack_size (depth_of u.0)))

-- ---- the record

module _ {t : List ℕ} {k sp : ℕ} {env : List ℕ} {buf : List ℤ} {state : Walk} {text : List ℕ} (g : Ready t k sp env buf state text) where
  pub record GuardAt {τ : ValueType} (e : Term g.scene.context τ) (next : ℕ) : Type 0 where
    pub guard : Guard t k sp env buf state text
    pub runs : (n : ℕ) {env' : List ℕ} {buf' : List ℤ} {state' : Walk} {text' : List ℕ} {r : Returned Walked Refusal}
        → Runs guard.scene (terms.guard guard.pointer (any_pointers guard.list) guard.body) n guard.next env' buf' state' text' r → Runs g.scene e n next env' buf' state' text' r

  guard-fields-at : (h : Ok route.Guard ≡ routed k (head_of k (head_at t k)))
      → (head_at t k ≡ guarding (variable_at t (k + 2)) (variables_at t (k + 4) (byte_at t (k + 3))) (4 + byte_at t (k + 3))) × (k + (4 + byte_at t (k + 3)) ≤ length t) × (byte_at t (k + 3) ≤ most_listed)
  guard-fields-at h =
      let l = guard-head k (head_of k (head_at t k)) h in
      let f = guard-fields t k l.0 l.1 l.2 in
      let same : head.Guard l.0 l.1 ≡ head.Guard (variable_at t (k + 2)) (byte_at t (k + 3)) = λ i. head.Guard (f.0 i) (f.1 i) in
      told t k (head.Guard (variable_at t (k + 2)) (byte_at t (k + 3))) (ap Ok (sym same) ∙ l.2)

  pub guard-at : Ok route.Guard ≡ routed k (head_of k (head_at t k)) → GuardAt g.term g.next
  unfolding words
  guard-at h =
      let p = guard-fields-at h in
      by-guard (λ τ e next. words e ≤ sp → GuardAt e next) g.formed p.0
      (λ τ n v ls e some f i body deep w.
      let at : k + (4 + byte_at t (k + 3)) ≡ k + 4 + byte_at t (k + 3) = omega arith in
      record {
        guard =
            record {
              scene = g.scene;
              levels = g.levels - 1;
              pointer = v;
              list = ls;
              type = τ;
              body = e;
              next = n;
              finds = found-bool _ f;
              lists = i;
              formed = subst (λ m. Formed t (g.levels - 1) m (listed_types (any_pointers ls)) (any_names ls) τ e n) at body;
              most = p.2;
              bytes = omega (arith, p.1);
              short = g.short;
              shallow = ltb-true (depth_of τ) most_depth deep;
              space = w;
              few = g.few;
            };
        runs = λ m r. r;
      })
      g.space

-- ---- its body, whose control is the stream behind the next

pub some-state : {t : List ℕ} {k sp : ℕ} {env : List ℕ} {buf : List ℤ} {state : Walk} {text : List ℕ} → Guard t k sp env buf state text → state.machine.streams ≤ most_streams
some-state g = let h = g.scene.held in omega (arith, next-id h, h.few)

abbrev pub guard_body : (t : List ℕ) (k : ℕ) (state : Walk) (inner units : ℕ) → Body
guard_body t k state inner units = record { at = k + 4 + byte_at t (k + 3); control = state.machine.streams + 1; units = units; inner = inner }

module _ {t : List ℕ} {k sp : ℕ} {env : List ℕ} {buf : List ℤ} {state : Walk} {text : List ℕ} (g : Guard t k sp env buf state text) {n : ℕ} where
  pub gate-stopped : {env₁ env' : List ℕ} {buf₁ : List ℤ} {state₁ : Walk} {text₁ : List ℕ} {r : Returned Entered Refusal} {q : Refusal} → GuardEnters g n env₁ buf₁ state₁ text₁ r → r ≡ Err q
      → Runs g.scene (terms.guard g.pointer (any_pointers g.list) g.body) n g.next env' buf₁ state₁ text₁ (Err q)
  gate-stopped {q = q} w e = ran-stopped (w.stops q e)

  module _ {env₁ : List ℕ} {buf₁ : List ℤ} {state₁ : Walk} {text₁ : List ℕ} {inner units : ℕ} (i : GuardInside g n inner units env₁ buf₁ state₁ text₁) (long₁ : length env₁ ≡ length env) where
    abbrev pub start : ℕ
    start = length g.scene.machine.store

    as_many : length (any_pointers g.list) ≡ byte_at t (k + 3)
    as_many = length-any g.scene.names (variables_at t (k + 4) (byte_at t (k + 3))) g.list g.lists ∙ length-variables t (k + 4) (byte_at t (k + 3))

    pub gate-within : inner ≤ length env₁
    gate-within = omega (arith, long₁, i.below, g.scene.within)

    pub gate-few : length i.after.store + 25 * (length t - (k + 4 + byte_at t (k + 3))) ≤ most_streams
    gate-few = omega (arith, as_many, i.number, g.few, g.bytes, packs-most g.scene.shallow (any_pointers g.list))

    pub gate-known : length (ids_of (inner_trees g)) ≤ most_taken
    gate-known = omega (arith, packed-long g.scene.shallow (any_pointers g.list) g.scene.trees (length g.scene.machine.store + 2), as_many, g.most)

    pub gate-above : drop sp env₁ ≡ drop sp env
    gate-above =
        ap (λ a. drop a env₁) (sym (up-again sp 3 (omega (arith, i.below))))
        ∙ rest-is env₁ (sp - 3) 3 (place_words (place i.after.store start)) (drop sp env) i.flags refl

    pub gate-flags : drop (sp - 3) env₁ ≡ place_words (place i.after.store (length g.scene.machine.store)) ++ drop sp env₁
    gate-flags = i.flags ∙ ap (λ l. place_words (place i.after.store start) ++ l) (sym gate-above)

    pub high : sp ≤ length env₁
    high = omega (arith, long₁, g.scene.within)

    abbrev pub guard-entire : Entire t (guard_body t k state inner units) sp env₁ buf₁ state₁ text₁
    guard-entire =
        record {
          over =
              record {
                ready =
                    record {
                      scene =
                          record {
                            context = listed_types (any_pointers g.list);
                            names = any_names g.list;
                            trees = inner_trees g;
                            machine = i.after;
                            rest = i.rest;
                            spells = i.spells;
                            shaped = i.shaped;
                            shallow = any-shallow g.scene.shallow (any_pointers g.list);
                            held = i.held;
                            within = gate-within;
                            sink = i.sink;
                            sunk = i.sunk;
                            wide = i.wide;
                          };
                      levels = g.levels;
                      type = g.type;
                      term = g.body;
                      next = g.next;
                      formed = g.formed;
                      short = g.short;
                      space = i.space;
                      few = gate-few;
                    };
                known = gate-known;
                shallow = g.shallow;
              };
          flags = length g.scene.machine.store;
          bits = i.bits;
          stored = i.stored;
          words = gate-flags;
          below = i.below;
          within = high;
        }

    guard-encloses : length buf₁ ≡ length buf → Encloses g.scene guard-entire n (terms.guard g.pointer (any_pointers g.list) g.body)
    unfolding tree
    guard-encloses long =
        let s = length i.after.store in
        let p = code g.body (inner_trees g) s in
        record {
          whole = i.whole;
          fed =
              i.fed
              ∙ ap (λ c. closed (feed s p (opened (ascending (among (order (tree g.body (inner_trees g) s)) (dv s p))) (c + 1) (ascending (fv s p)) i.sink)))
              (sym (next-id g.scene.held));
          tree_is = ap (λ a. node (tree g.body (inner_trees g) a) start) i.number;
          words = gate-above;
          kept = i.kept;
          long = long;
        }

    pub guard-runs : length buf₁ ≡ length buf → {env' : List ℕ} {buf' : List ℤ} {state' : Walk} {text' : List ℕ} {r : Returned Walked Refusal} → Comprehends guard-entire env' buf' state' text' r
        → Runs g.scene (terms.guard g.pointer (any_pointers g.list) g.body) n g.next env' buf' state' text' r
    guard-runs long w = enclosed-runs g.scene guard-entire n (terms.guard g.pointer (any_pointers g.list) g.body) (guard-encloses long) w
