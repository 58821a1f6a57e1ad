-- The walk's arms: for each route of a record, what its arm needs follows from what the walk was given, and what the arm answers is the walk's answer.
use Prim.Native.Nat.{ℕ, ◌+◌, ◌-◌, ◌≤◌}
use mathlib.Core.Bool.{Bool}
use mathlib.Core.List.{List, ◌∷◌, ◌++◌}
use mathlib.Core.Logic.{◌⊎◌, inl, inr}
use mathlib.Core.Path.{◌≡◌, refl, sym, ◌∙◌, ap, subst}
use native.Mathlib.Omega.{arith}
use borrow.Author.Tests.{ltb-true}
use lib.IntN.{ℤ}
use lib.ListN.{length, drop}
use Rattle.std.specs.Prelude.{Ok, Err, Result as Returned}
use Rattle.laws.proofs.Never.{never}
use Rattle.snesl.specs.declared.refusal.Refusal.{Refusal}
use Rattle.snesl.specs.declared.refusal.Refusal.TheVariants.{NoRecord, OverLimit}
use Rattle.snesl.specs.declared.code.Variable.{Variable}
use Rattle.snesl.specs.Limits.{most_depth, most_listed}
use Rattle.snesl.specs.declared.code.Base.{Base}
use Rattle.snesl.specs.declared.code.Base.TheVariants as base
use Rattle.snesl.specs.declared.code.Operation.{Operation}
use Rattle.snesl.specs.Values.{ValueType, scalar, depth_of}
use Rattle.snesl.specs.Terms as terms
use Rattle.snesl.specs.Terms.{Term, any_type, listed_types, ◌▹◌, lookup}
use Rattle.snesl.specs.declared.code.Transducer.{Transducer}
use Rattle.snesl.specs.declared.code.Transducer.TheVariants as transducer
use Rattle.snesl.specs.Trees.{leaf, root, inner, outer}
use Rattle.snesl.specs.Programs.{define, done}
use Rattle.snesl.specs.Records.{absent, over, byte_at, variable_at, variables_at, eaching, head_at}
use Rattle.snesl.specs.Checking.{listed_names, pointers}
use Rattle.snesl.specs.Translation.{id, code, tree}
use Rattle.snesl.specs.Formed.{Formed}
use Rattle.snesl.proofs.Views.{by-var, by-const, by-truth, by-iota, by-operation, by-negation, by-sum, by-bind, by-each, not-absent, not-over}
use Rattle.environment.specs.Words.{tree_words, tree_size, Sought}
use Rattle.environment.specs.Needs.{words}
use Rattle.sink.specs.declared.state.Walk.{Walk}
use Rattle.sink.specs.Sinks.{feed}
use Rattle.steps.specs.Holding.{most_streams}
use Rattle.steps.proofs.Walking.{walked-done}
use Rattle.leaves.specs.Scenes.{reached, Runs}
use Rattle.leaves.specs.Arms.{Named, named-const, named-truth, named-operation, named-negation, named-sum, Sole, Counting}
use Rattle.bodies.specs.Bodies.{Each}
use Rattle.leaves.specs.declared.Form.{Form}
use Rattle.leaves.specs.declared.Form.TheVariants as form
use Rattle.leaves.specs.declared.Walked.{Walked}
use Rattle.records.specs.declared.head.Head.{Head}
use Rattle.records.specs.declared.head.Head.TheVariants as head
use Rattle.records.specs.Heads.{head_of}
use Rattle.records.proofs.Heads.{told, untold}
use Rattle.leaves.proofs.Places.{lookup-places, lookup-shapely, lookup-shallow}
use Rattle.leaves.proofs.Operands.{sought}
use Rattle.leaves.proofs.Running.{ran-through, ran-answer}
use Rattle.bodies.proofs.Fields.{let-field, each-fields}
use Rattle.bodies.proofs.Lists.{length-listed}
use Rattle.records.proofs.Variables.{length-variables}
use Rattle.runner.specs.declared.Route.{Route}
use Rattle.runner.specs.declared.Route.TheVariants as route
use Rattle.runner.specs.Walks.{route_to, Ready, Binding}
use Rattle.runner.proofs.Reading.{found-int, found-bool, found-sequence, found-ints}
use Rattle.runner.proofs.Measures.{spans}

-- ---- a route comes from its heads alone

-- where the walk goes at what was read
abbrev pub routed : (k : ℕ) → Returned Head Refusal → Returned Route Refusal
routed k (Ok h) = Ok (route_to k h)
routed k (Err q) = Err q

pub routing : (t : List ℕ) (k : ℕ) {h : Head} {r x : Route} {a : Returned Head Refusal} → r ≡ x → r ≡ route_to k h → a ≡ Ok h → a ≡ head_of k (head_at t k)
    → Ok x ≡ routed k (head_of k (head_at t k))
routing t k p q u v = ap Ok (sym p ∙ q) ∙ ap (routed k) (sym u ∙ v)

module _ (k : ℕ) where
  named-head : {x : Variable} (h : Returned Head Refusal) → Ok (route.Name x) ≡ routed k h → Ok (head.Var x) ≡ h
  named-head (Err q) e = never (cc)
  named-head (Ok (head.Var y)) e = cc
  named-head (Ok (head.Let y)) e = never (cc)
  named-head (Ok (head.Const z)) e = never (cc)
  named-head (Ok (head.Truth c)) e = never (cc)
  named-head (Ok (head.Iota y)) e = never (cc)
  named-head (Ok (head.Operation o y z)) e = never (cc)
  named-head (Ok (head.Negation y)) e = never (cc)
  named-head (Ok (head.Sum y)) e = never (cc)
  named-head (Ok (head.Each y z j)) e = never (cc)
  named-head (Ok (head.Guard y j)) e = never (cc)

  iota-head : {x : Variable} (h : Returned Head Refusal) → Ok (route.Iota x) ≡ routed k h → Ok (head.Iota x) ≡ h
  iota-head (Err q) e = never (cc)
  iota-head (Ok (head.Var y)) e = never (cc)
  iota-head (Ok (head.Let y)) e = never (cc)
  iota-head (Ok (head.Const z)) e = never (cc)
  iota-head (Ok (head.Truth c)) e = never (cc)
  iota-head (Ok (head.Iota y)) e = cc
  iota-head (Ok (head.Operation o y z)) e = never (cc)
  iota-head (Ok (head.Negation y)) e = never (cc)
  iota-head (Ok (head.Sum y)) e = never (cc)
  iota-head (Ok (head.Each y z j)) e = never (cc)
  iota-head (Ok (head.Guard y j)) e = never (cc)

  let-head : (h : Returned Head Refusal) → Ok route.Let ≡ routed k h → (x : Variable) × (Ok (head.Let x) ≡ h)
  let-head (Err q) e = never (cc)
  let-head (Ok (head.Var y)) e = never (cc)
  let-head (Ok (head.Let y)) e = (y, refl)
  let-head (Ok (head.Const z)) e = never (cc)
  let-head (Ok (head.Truth c)) e = never (cc)
  let-head (Ok (head.Iota y)) e = never (cc)
  let-head (Ok (head.Operation o y z)) e = never (cc)
  let-head (Ok (head.Negation y)) e = never (cc)
  let-head (Ok (head.Sum y)) e = never (cc)
  let-head (Ok (head.Each y z j)) e = never (cc)
  let-head (Ok (head.Guard y j)) e = never (cc)

  each-head : (h : Returned Head Refusal) → Ok route.Each ≡ routed k h → (x : Variable) × (y : Variable) × (j : ℕ) × (Ok (head.Each x y j) ≡ h)
  each-head (Err q) e = never (cc)
  each-head (Ok (head.Var y)) e = never (cc)
  each-head (Ok (head.Let y)) e = never (cc)
  each-head (Ok (head.Const z)) e = never (cc)
  each-head (Ok (head.Truth c)) e = never (cc)
  each-head (Ok (head.Iota y)) e = never (cc)
  each-head (Ok (head.Operation o y z)) e = never (cc)
  each-head (Ok (head.Negation y)) e = never (cc)
  each-head (Ok (head.Sum y)) e = never (cc)
  each-head (Ok (head.Each y z j)) e = (y, z, j, refl)
  each-head (Ok (head.Guard y j)) e = never (cc)

  pub guard-head : (h : Returned Head Refusal) → Ok route.Guard ≡ routed k h → (x : Variable) × (j : ℕ) × (Ok (head.Guard x j) ≡ h)
  guard-head (Err q) e = never (cc)
  guard-head (Ok (head.Var y)) e = never (cc)
  guard-head (Ok (head.Let y)) e = never (cc)
  guard-head (Ok (head.Const z)) e = never (cc)
  guard-head (Ok (head.Truth c)) e = never (cc)
  guard-head (Ok (head.Iota y)) e = never (cc)
  guard-head (Ok (head.Operation o y z)) e = never (cc)
  guard-head (Ok (head.Negation y)) e = never (cc)
  guard-head (Ok (head.Sum y)) e = never (cc)
  guard-head (Ok (head.Each y z j)) e = never (cc)
  guard-head (Ok (head.Guard y j)) e = (y, j, refl)

  -- a form, by the head that it comes from
  single-head : {X : Type 0} {f : Form} {i : ℕ} (h : Returned Head Refusal) → Ok (route.Single f i) ≡ routed k h
      → ((z : ℤ) → Ok (head.Const z) ≡ h → form.Const z ≡ f → k + 6 ≡ i → X)
      → ((c : Bool) → Ok (head.Truth c) ≡ h → form.Truth c ≡ f → k + 3 ≡ i → X)
      → ((o : Operation) (x y : Variable) → Ok (head.Operation o x y) ≡ h → form.Operation o x y ≡ f → k + 4 ≡ i → X)
      → ((x : Variable) → Ok (head.Negation x) ≡ h → form.Negation x ≡ f → k + 3 ≡ i → X)
      → ((x : Variable) → Ok (head.Sum x) ≡ h → form.Sum x ≡ f → k + 3 ≡ i → X)
      → X
  single-head (Err q) e a b c d s = never (cc)
  single-head (Ok (head.Var y)) e a b c d s = never (cc)
  single-head (Ok (head.Let y)) e a b c d s = never (cc)
  single-head (Ok (head.Const z)) e a b c d s = a z refl (cc) (cc)
  single-head (Ok (head.Truth z)) e a b c d s = b z refl (cc) (cc)
  single-head (Ok (head.Iota y)) e a b c d s = never (cc)
  single-head (Ok (head.Operation o y z)) e a b c d s = c o y z refl (cc) (cc)
  single-head (Ok (head.Negation y)) e a b c d s = d y refl (cc) (cc)
  single-head (Ok (head.Sum y)) e a b c d s = s y refl (cc) (cc)
  single-head (Ok (head.Each y z j)) e a b c d s = never (cc)
  single-head (Ok (head.Guard y j)) e a b c d s = never (cc)

module _ {t : List ℕ} {k sp : ℕ} {env : List ℕ} {buf : List ℤ} {state : Walk} {text : List ℕ} (g : Ready t k sp env buf state text) where
  pub room-behind : k ≤ 65536
  room-behind = let b = spans g.formed g.scene.shallow in omega (arith, g.short, b.some_bytes, b.within)

  enough : k + 3 ≤ length t → length g.scene.machine.store + 4 ≤ most_streams
  enough h = omega (arith, g.few)

  -- ---- a variable

  pub name-sought : {x : Variable} → Ok (route.Name x) ≡ routed k (head_of k (head_at t k)) → ((s : Sought env sp x) × (depth_of s.type ≤ most_depth) × (tree_size (depth_of s.type) ≤ sp)) × (sp ≤ length env)
  unfolding words
  name-sought {x} h = (
    by-var (λ τ e next. words e ≤ sp → (s : Sought env sp x) × (depth_of s.type ≤ most_depth) × (tree_size (depth_of s.type) ≤ sp)) g.formed (told t k (head.Var x) (named-head k _ h)).0
        (λ τ v f w. (sought g.scene v f, lookup-shallow v g.scene.shallow, w)) g.space,
    g.scene.within,
  )

  pub name_runs : {env' : List ℕ} {r : Returned Walked Refusal} {x : Variable} (n : ℕ) → Ok (route.Name x) ≡ routed k (head_of k (head_at t k))
      → ((s : Sought env sp x) → (r ≡ reached (depth_of s.type) (k + 3)) × (drop (sp - tree_size (depth_of s.type)) env' ≡ tree_words (lookup s.pointer s.trees) ++ drop sp env))
      → Runs g.scene g.term n g.next env' buf state text r
  unfolding code tree feed
  name_runs {env'} {r} {x} n h w =
      by-var (λ τ e next. Runs g.scene e n next env' buf state text r) g.formed (told t k (head.Var x) (named-head k _ h)).0
      (λ τ u f.
      let a = w (sought g.scene u f) in
      ran-answer (sym a.0)
      (ran-through g.scene.machine (walked-done (length buf) n g.scene.machine)
      (record {
        held = g.scene.held;
        sunk = g.scene.sunk;
        kept = refl;
        shapely = lookup-shapely u g.scene.shaped;
        words = a.1 ∙ ap (λ y. tree_words y ++ drop sp env) (lookup-places g.scene.machine.store u g.scene.trees);
      })))

  -- ---- one instruction

  -- a form at k, and that its walk is the walk of what stands there
  pub record SoleAt (f : Form) (i : ℕ) {τ : ValueType} (e : Term g.scene.context τ) (next : ℕ) : Type 0 where
    pub sole : Sole f sp env buf state text
    pub runs : (n : ℕ) {env' : List ℕ} {buf' : List ℤ} {state' : Walk} {text' : List ℕ} {r : Returned Walked Refusal} → Runs sole.scene sole.term n i env' buf' state' text' r
        → Runs g.scene e n next env' buf' state' text' r

  sole_of : {f : Form} {b : Base} (e : Term g.scene.context (scalar b)) (t₁ : Transducer) → Named g.scene.names g.scene.trees f b t₁
      → ((s : ℕ) → code e g.scene.trees s ≡ define t₁ done) → ((s : ℕ) → tree e g.scene.trees s ≡ leaf s)
      → 3 ≤ sp → length g.scene.machine.store + 1 ≤ most_streams → (i : ℕ) → SoleAt f i e i
  sole_of {b = b} e t₁ m c u low few i =
      record {
        sole = record { scene = g.scene; base = b; term = e; transducer = t₁; named = m; code_is = c; tree_is = u; low = low; few = few };
        runs = λ n w. w;
      }

  const-at : (z : ℤ) → Ok (head.Const z) ≡ head_of k (head_at t k) → SoleAt (form.Const z) (k + 6) g.term g.next
  unfolding code tree words
  const-at z e =
      by-const (λ τ e next. words e ≤ sp → SoleAt (form.Const z) (k + 6) e next) g.formed (told t k (head.Const z) e).0
      (λ w. sole_of (terms.const base.Int z) (transducer.Const z) named-const (λ s. refl) (λ s. refl) w (omega (arith, g.few, (told t k (head.Const z) e).1)) (k + 6)) g.space

  truth-at : (c : Bool) → Ok (head.Truth c) ≡ head_of k (head_at t k) → SoleAt (form.Truth c) (k + 3) g.term g.next
  unfolding code tree words
  truth-at c e =
      by-truth (λ τ e next. words e ≤ sp → SoleAt (form.Truth c) (k + 3) e next) g.formed (told t k (head.Truth c) e).0
      (λ w. sole_of (terms.const base.Bool c) (transducer.ConstBool c) named-truth (λ s. refl) (λ s. refl) w (omega (arith, g.few, (told t k (head.Truth c) e).1)) (k + 3)) g.space

  operation-at : (o : Operation) (x y : Variable) → Ok (head.Operation o x y) ≡ head_of k (head_at t k) → SoleAt (form.Operation o x y) (k + 4) g.term g.next
  unfolding code tree words
  operation-at o x y e =
      by-operation (λ τ e next. words e ≤ sp → SoleAt (form.Operation o x y) (k + 4) e next) g.formed (told t k (head.Operation o x y) e).0
      (λ v w p q r.
      sole_of (terms.operation o v w) (transducer.MapTwo o (id (root (lookup v g.scene.trees))) (id (root (lookup w g.scene.trees))))
      (named-operation (found-int _ p) (found-int _ q)) (λ s. refl) (λ s. refl) r
      (omega (arith, g.few, (told t k (head.Operation o x y) e).1)) (k + 4))
      g.space

  negation-at : (x : Variable) → Ok (head.Negation x) ≡ head_of k (head_at t k) → SoleAt (form.Negation x) (k + 3) g.term g.next
  unfolding code tree words
  negation-at x e =
      by-negation (λ τ e next. words e ≤ sp → SoleAt (form.Negation x) (k + 3) e next) g.formed (told t k (head.Negation x) e).0
      (λ v p r.
      sole_of (terms.negation v) (transducer.MapOneNot (id (root (lookup v g.scene.trees)))) (named-negation (found-bool _ p)) (λ s. refl) (λ s. refl) r
      (omega (arith, g.few, (told t k (head.Negation x) e).1)) (k + 3))
      g.space

  sum-at : (x : Variable) → Ok (head.Sum x) ≡ head_of k (head_at t k) → SoleAt (form.Sum x) (k + 3) g.term g.next
  unfolding code tree words
  sum-at x e =
      by-sum (λ τ e next. words e ≤ sp → SoleAt (form.Sum x) (k + 3) e next) g.formed (told t k (head.Sum x) e).0
      (λ v p r.
      sole_of (terms.sum v) (transducer.SumPlus (id (outer (lookup v g.scene.trees))) (id (root (inner (lookup v g.scene.trees))))) (named-sum (found-ints _ p)) (λ s. refl) (λ s. refl) r
      (omega (arith, g.few, (told t k (head.Sum x) e).1)) (k + 3))
      g.space

  pub sole-at : {f : Form} {i : ℕ} → Ok (route.Single f i) ≡ routed k (head_of k (head_at t k)) → SoleAt f i g.term g.next
  sole-at {f} {i} h =
      single-head k (head_of k (head_at t k)) h
      (λ z e q j. moved q j (const-at z e))
      (λ c e q j. moved q j (truth-at c e))
      (λ o x y e q j. moved q j (operation-at o x y e))
      (λ x e q j. moved q j (negation-at x e))
      (λ x e q j. moved q j (sum-at x e))
    where
      moved : {f₁ : Form} {i₁ : ℕ} → f₁ ≡ f → i₁ ≡ i → SoleAt f₁ i₁ g.term g.next → SoleAt f i g.term g.next
      moved {f₁} q j s = subst (λ u. SoleAt u i g.term g.next) q (subst (λ u. SoleAt f₁ u g.term g.next) j s)

  -- ---- iota

  pub record CountingAt (x : Variable) {τ : ValueType} (e : Term g.scene.context τ) (next : ℕ) : Type 0 where
    pub counting : Counting x sp env buf state text
    pub runs : (n : ℕ) {env' : List ℕ} {buf' : List ℤ} {state' : Walk} {text' : List ℕ} {r : Returned Walked Refusal} → Runs counting.scene (terms.iota counting.pointer) n (k + 3) env' buf' state' text' r
        → Runs g.scene e n next env' buf' state' text' r

  pub counting-at : {x : Variable} → Ok (route.Iota x) ≡ routed k (head_of k (head_at t k)) → CountingAt x g.term g.next
  unfolding words
  counting-at {x} h =
      by-iota (λ τ e next. words e ≤ sp → CountingAt x e next) g.formed (told t k (head.Iota x) (iota-head k _ h)).0
      (λ v p w.
      record {
        counting = record { scene = g.scene; pointer = v; finds = found-int _ p; low = w; few = enough (told t k (head.Iota x) (iota-head k _ h)).1 };
        runs = λ n r. r;
      })
      g.space

  -- ---- let

  pub record BindingAt {τ : ValueType} (e : Term g.scene.context τ) (next : ℕ) : Type 0 where
    pub binding : Binding t k sp env buf state text
    pub runs : (n : ℕ) {env' : List ℕ} {buf' : List ℤ} {state' : Walk} {text' : List ℕ} {r : Returned Walked Refusal}
        → Runs binding.scene (terms.bind binding.bound binding.body) n binding.next env' buf' state' text' r → Runs g.scene e n next env' buf' state' text' r

  pub binding-at : Ok route.Let ≡ routed k (head_of k (head_at t k)) → BindingAt g.term g.next
  unfolding words
  binding-at h =
      let l = let-head k (head_of k (head_at t k)) h in
      by-bind (λ τ e next. words e ≤ sp → BindingAt e next) g.formed (told t k (head.Let l.0) l.1).0
      (λ υ τ e₁ e₂ k₁ k₂ some f₁ f₂ w.
      record {
        binding =
            record {
              scene = g.scene;
              levels = g.levels - 1;
              type₁ = υ;
              type = τ;
              bound = e₁;
              body = e₂;
              middle = k₁;
              next = k₂;
              first = f₁;
              second = subst (λ x. Formed t (g.levels - 1) k₁ (υ ∷ g.scene.context) (x ▹ g.scene.names) τ e₂ k₂) (let-field t k l.0 l.1) f₂;
              short = g.short;
              space = w;
              few = g.few;
            };
        runs = λ n r. r;
      })
      g.space

  -- ---- a comprehension

  pub record EachAt {τ : ValueType} (e : Term g.scene.context τ) (next : ℕ) : Type 0 where
    pub each : Each t k sp env buf state text
    pub runs : (n : ℕ) {env' : List ℕ} {buf' : List ℤ} {state' : Walk} {text' : List ℕ} {r : Returned Walked Refusal}
        → Runs each.scene (terms.each each.pointer (pointers each.list) each.body) n each.next env' buf' state' text' r → Runs g.scene e n next env' buf' state' text' r

  each-fields-at : (h : Ok route.Each ≡ routed k (head_of k (head_at t k)))
      → (head_at t k ≡ eaching (variable_at t (k + 2)) (variable_at t (k + 3)) (variables_at t (k + 5) (byte_at t (k + 4))) (5 + byte_at t (k + 4))) × (k + (5 + byte_at t (k + 4)) ≤ length t) × (byte_at t (k + 4) ≤ most_listed)
  each-fields-at h =
      let l = each-head k (head_of k (head_at t k)) h in
      let f = each-fields t k l.0 l.1 l.2 l.3 in
      let same : head.Each l.0 l.1 l.2 ≡ head.Each (variable_at t (k + 2)) (variable_at t (k + 3)) (byte_at t (k + 4)) = λ i. head.Each (f.0 i) (f.1 i) (f.2 i) in
      told t k (head.Each (variable_at t (k + 2)) (variable_at t (k + 3)) (byte_at t (k + 4))) (ap Ok (sym same) ∙ l.3)

  pub each_at : Ok route.Each ≡ routed k (head_of k (head_at t k)) → EachAt g.term g.next
  unfolding words
  each_at h =
      let p = each-fields-at h in
      by-each (λ τ e next. words e ≤ sp → EachAt e next) g.formed p.0
      (λ υ τ n v ls e some f i body deep w.
      let at : k + (5 + byte_at t (k + 4)) ≡ k + 5 + byte_at t (k + 4) = omega arith in
      let long : length (pointers ls) ≡ byte_at t (k + 4) = length-listed g.scene.names (variables_at t (k + 5) (byte_at t (k + 4))) ls i ∙ length-variables t (k + 5) (byte_at t (k + 4)) in
      record {
        each =
            record {
              scene = g.scene;
              levels = g.levels - 1;
              inside = υ;
              pointer = v;
              list = ls;
              type = τ;
              body = e;
              next = n;
              finds = found-sequence _ f;
              lists = i;
              formed = subst (λ m. Formed t (g.levels - 1) m (υ ∷ listed_types (any_type (pointers ls))) (variable_at t (k + 2) ▹ listed_names ls) τ e n) at body;
              most = p.2;
              bytes = omega (arith, p.1);
              short = g.short;
              shallow = ltb-true (depth_of τ) most_depth deep;
              space = omega (arith, w, long);
              few = g.few;
            };
        runs = λ m r. r;
      })
      g.space

  -- ---- no record

  pub no_record : {X : Type 0} {q : Refusal} → Err q ≡ routed k (head_of k (head_at t k)) → X
  no_record {X} {q} h = go (untold t k q (none (head_of k (head_at t k)) h))
    where
      none : (a : Returned Head Refusal) → Err q ≡ routed k a → Err q ≡ a
      none (Err q') e = let same : q ≡ q' = cc in ap Err same
      none (Ok h') e = never (cc)

      go : ((q ≡ NoRecord k) × (head_at t k ≡ absent)) ⊎ ((q ≡ OverLimit k) × (head_at t k ≡ over)) → X
      go (inl e) = not-absent (λ τ e next. X) g.formed e.1
      go (inr e) = not-over (λ τ e next. X) g.formed e.1
