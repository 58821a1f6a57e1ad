-- The laws of a variable and of the forms that stand for one instruction.
use Prim.Native.Nat.{ℕ, ◌+◌, ◌*◌, ◌-◌, ◌≤◌, ◌<◌}
use mathlib.Core.Bool.{Bool}
use mathlib.Core.List.{List, [], ◌∷◌, ◌++◌}
use mathlib.Core.Logic.{◌⊎◌, inl, inr}
use mathlib.Core.Path.{◌≡◌, refl, sym, ◌∙◌, ap, ap₂, subst}
use native.Mathlib.Omega.{arith}
use lib.IntN.{ℤ}
use lib.ListN.{length, get_or, drop, length-append}
use mir.Facts.{to_z-of_z}
use mir.Syntax.{w32}
use mir.Val.{SFits, to_z, of_z}
use Rattle.laws.specs.Parts.{part, written}
use Rattle.snesl.specs.declared.code.Kind.{Kind}
use Rattle.snesl.specs.declared.code.Variable.{Variable}
use Rattle.snesl.specs.declared.code.Transducer.{Transducer}
use Rattle.snesl.specs.declared.code.Transducer.TheVariants.{Const, ConstBool, MapTwo, MapOneNot, SumPlus}
use Rattle.snesl.specs.declared.code.Operation.{Operation}
use Rattle.snesl.specs.declared.code.Base.{Base}
use Rattle.snesl.specs.declared.code.Base.TheVariants as base
use Rattle.snesl.specs.declared.refusal.Refusal.{Refusal}
use Rattle.snesl.specs.Values.{ValueType, scalar, braces, int, bool, depth_of, Element}
use Rattle.snesl.specs.Terms.{◌∋◌, All, lookup}
use Rattle.snesl.specs.Trees.{IdTree, leaf, root, inner, outer, map_tree}
use Rattle.snesl.specs.Streams.{Stream, data_of, data_kind, len, elements, Store, ◌!◌, room}
use Rattle.snesl.specs.Transducers.{operands, signature, carried}
use Rattle.snesl.specs.Programs.{define, done}
use Rattle.snesl.specs.Machine.{State}
use Rattle.snesl.specs.Checking.{Name, find, found}
use Rattle.snesl.specs.Translation.{id, code}
use Rattle.environment.specs.Words.{PlaceTree, place_words, tree_words, tree_size, Sought, Entry}
use Rattle.environment.proofs.Stack.{lowered}
use Rattle.environment.proofs.Finding.{length-tree}
use Rattle.environment.specs.declared.machine.Machine.{Machine}
use Rattle.sink.specs.declared.state.Walk.{Walk}
use Rattle.sink.specs.Sinks.{Sink, defined, feed}
use Rattle.steps.specs.Walking.{stepped, walked}
use Rattle.steps.specs.Holding.{Held, place, PlacedAt, Placed, positions, Executable}
use Rattle.steps.specs.declared.Operands.{Operands}
use Rattle.std.specs.Prelude.{Ok, Err, Result as Returned}
use Rattle.steps.proofs.Stores.{newest, room-more}
use Rattle.steps.proofs.Stepping.{data-of}
use Rattle.steps.proofs.Spanning.{place-within}
use Rattle.steps.proofs.Walking.{walked_one}
use Rattle.steps.proofs.Executing.{next-id, next-element}
use Rattle.steps.proofs.Performing.{stopping-as}
use Rattle.leaves.specs.Places.{Shapely, shapely-leaf}
use Rattle.leaves.specs.declared.Form.{Form}
use Rattle.leaves.specs.declared.Form.TheVariants as form
use Rattle.leaves.specs.declared.Walked.{Walked}
use Rattle.leaves.specs.Scenes.{Runs, reached}
use Rattle.leaves.specs.Making.{Makes, Instructed}
use Rattle.leaves.specs.Arms.{Named, named-const, named-truth, named-operation, named-negation, named-sum, Sole, Located}
use Rattle.leaves.proofs.Places.{place-newest, data-full}
use Rattle.leaves.proofs.Operands.{sought, named-there, scalar-placed, flags-placed, data-placed}
use Rattle.leaves.proofs.Making.{Making, making, stopping}
use Rattle.leaves.proofs.Running.{ran-through, ran-stopped, ran-as}

-- ---- a variable

module _ {env : List ℕ} {sp p : ℕ} {x : Variable} (g : Sought env sp x) (e : Entry env sp p (lookup g.pointer g.trees)) where
  size_is : 3 * get_or env (p + 1) 0 + 3 ≡ tree_size (depth_of g.type)
  size_is = ap (λ d. 3 * d + 3) e.depth

  pub variable-fits : p + 2 + (3 * get_or env (p + 1) 0 + 3) ≤ length env
  variable-fits = omega (arith, size_is, e.within)

  pub variable-words : (next : ℕ) (env' : List ℕ) → 3 * get_or env (p + 1) 0 + 3 ≤ sp → sp ≤ length env
      → env' ≡ written (sp - (3 * get_or env (p + 1) 0 + 3)) (part (p + 2) (3 * get_or env (p + 1) 0 + 3) env) env
      → ◌≡◌ {A = Walked} (record { depth = get_or env (p + 1) 0; next = next }) (record { depth = depth_of g.type; next = next })
      × (drop (sp - tree_size (depth_of g.type)) env' ≡ tree_words (lookup g.pointer g.trees) ++ drop sp env)
  variable-words next env' low high w =
      let t : PlaceTree g.type = lookup g.pointer g.trees in
      let same : env' ≡ written (sp - tree_size (depth_of g.type)) (tree_words t) env =
      w ∙ (ap (λ n. written (sp - n) (part (p + 2) n env) env) size_is ∙ ap (λ l. written (sp - tree_size (depth_of g.type)) l env) e.words) in (
        λ i. record { depth = e.depth i; next = next },
        ap (drop (sp - tree_size (depth_of g.type))) same
            ∙ lowered env sp (tree_size (depth_of g.type)) (tree_words t) (length-tree t) (omega (arith, size_is)) high,
      )

-- ---- the place of a stream that was just made and takes as many elements as it has

module _ {m : State} {buf : List ℤ} {counts : Machine} {made : ℕ} (h : Held m buf counts) (σ : Store) (a : Stream) (e : m.store ≡ σ ++ a ∷ []) (full : length (elements a) ≡ len a)
    (l : made ≡ len a) where
  next-is : counts.streams ≡ length σ + 1
  next-is = next-id h ∙ (ap length e ∙ length-append σ (a ∷ []))

  room-is : counts.room ≡ room σ + made
  room-is = next-element h ∙ (ap room e ∙ (room-more σ a ∙ ap (λ k. room σ + k) (full ∙ sym l)))

  -- what `push` asks, beside its place on the stack
  pub pushable : (1 ≤ counts.streams) × (counts.streams < 4294967296) × (made ≤ counts.room) × (counts.room < 4294967296)
  pushable =
      (omega (arith, next-is), omega (arith, next-id h, h.few), omega (arith, room-is), omega (arith, next-element h, h.fits, h.short))

  pub pushed-words : (counts.streams - 1) ∷ (counts.room - made) ∷ made ∷ [] ≡ place_words (place m.store (length σ))
  pushed-words =
      let i : counts.streams - 1 ≡ length σ = omega (arith, next-is) in
      let f : counts.room - made ≡ room σ = omega (arith, room-is) in
      (λ j. i j ∷ f j ∷ l j ∷ []) ∙ ap place_words (sym (place-newest σ a) ∙ ap (λ τ. place τ (length σ)) (sym e))

pub made-shapely : (m : State) (σ : Store) (b : Base) (vs : List (Element b)) → m.store ≡ σ ++ data_of b vs ∷ [] → Shapely m.store (scalar b) (leaf (length σ))
made-shapely m σ b vs e = shapely-leaf vs (ap (λ τ. τ ! length σ) e ∙ newest σ (data_of b vs))

-- of one instruction that gives data
module _ {cap n : ℕ} {t : Transducer} {m : State} {k : Sink} {old new : List ℤ} {state : Walk} {text : List ℕ} {made : ℕ} (u : Making cap n t m k old new state text made)
    (b : Base) (g : (signature (carried m.store t) t).output ≡ data_kind b) where
  given : (vs : List (Element b)) × (u.added-to.stream ≡ data_of b vs)
  given = data-of b u.added-to.stream (u.added-to.kind ∙ g)

  pub items : List (Element b)
  items = given.0

  pub items-stored : u.after.store ≡ m.store ++ data_of b items ∷ []
  unfolding items
  items-stored = u.added-to.store ∙ ap (λ a. m.store ++ a ∷ []) given.1

  pub items-long : made ≡ len (data_of b items)
  unfolding items
  items-long = u.long ∙ ap len given.1

-- ---- a form by its shape

module _ {Γ : List ValueType} (names : All Name Γ) (δ : All IdTree Γ) where
  -- what a form's transducer is over the variables that it finds
  abbrev Shape : Transducer → Form → Type 0
  Shape t (form.Const z) = t ≡ Const z
  Shape t (form.Truth c) = t ≡ ConstBool c
  Shape t (form.Operation o x y) =
      (v : Γ ∋ int) × (w : Γ ∋ int) × (find x names ≡ found int v) × (find y names ≡ found int w) × (t ≡ MapTwo o (id (root (lookup v δ))) (id (root (lookup w δ))))
  Shape t (form.Negation x) = (v : Γ ∋ bool) × (find x names ≡ found bool v) × (t ≡ MapOneNot (id (root (lookup v δ))))
  Shape t (form.Sum x) =
      (v : Γ ∋ braces int) × (find x names ≡ found (braces int) v) × (t ≡ SumPlus (id (outer (lookup v δ))) (id (root (inner (lookup v δ)))))

module _ {Γ : List ValueType} {names : All Name Γ} {δ : All IdTree Γ} where
  shape : {f : Form} {b : Base} {t : Transducer} → Named names δ f b t → Shape names δ t f
  shape named-const = refl
  shape named-truth = refl
  shape (named-operation {v = v} {w = w} p q) = (v, w, p, q, refl)
  shape (named-negation {v = v} p) = (v, p, refl)
  shape (named-sum {v = v} p) = (v, p, refl)

  shape_of : {f g : Form} {b : Base} {t : Transducer} → Named names δ f b t → f ≡ g → Shape names δ t g
  shape_of {t = t} n e = subst (Shape names δ t) e (shape n)

  gives-data : {f : Form} {b : Base} {t : Transducer} → Named names δ f b t → (c : Base) → (signature c t).output ≡ data_kind b
  gives-data named-const c = refl
  gives-data named-truth c = refl
  gives-data (named-operation p q) c = refl
  gives-data (named-negation p) c = refl
  gives-data (named-sum p) c = refl

module _ {f : Form} {sp : ℕ} {env : List ℕ} {buf : List ℤ} {state : Walk} {text : List ℕ} (g : Sole f sp env buf state text) where
  placed-as : (at : Operands) {t : Transducer} → g.transducer ≡ t
      → Placed g.scene.machine.store env (signature base.Int t).inputs (operands t) (positions at) → Located g at
  placed-as at e p =
      record {
        placed =
            subst (λ t. Placed g.scene.machine.store env (signature base.Int t).inputs (operands t) (positions at)) (sym e)
            p;
      }

  pub constant-located : (at : Operands) → ((z : ℤ) × (f ≡ form.Const z)) ⊎ ((c : Bool) × (f ≡ form.Truth c)) → Located g at
  constant-located at (inl (z, e)) = placed-as at (shape_of g.named e) tt
  constant-located at (inr (c, e)) = placed-as at (shape_of g.named e) tt

  pub left-sought : {o : Operation} {x y : Variable} → f ≡ form.Operation o x y → Sought env sp x
  left-sought e = let o = shape_of g.named e in sought g.scene o.0 o.2

  pub right-sought : {o : Operation} {x y : Variable} → f ≡ form.Operation o x y → Sought env sp y
  right-sought e = let o = shape_of g.named e in sought g.scene o.1 o.3

  pub negation-sought : {x : Variable} → f ≡ form.Negation x → Sought env sp x
  negation-sought e = let o = shape_of g.named e in sought g.scene o.0 o.1

  pub sum-sought : {x : Variable} → f ≡ form.Sum x → Sought env sp x
  sum-sought e = let o = shape_of g.named e in sought g.scene o.0 o.1

  pub operation-located : {o : Operation} {x y : Variable} {p q : ℕ} → f ≡ form.Operation o x y → ((s : Sought env sp x) → Entry env sp p (lookup s.pointer s.trees))
      → ((s : Sought env sp y) → Entry env sp q (lookup s.pointer s.trees)) → Located g (record { first = p + 2; second = q + 2 })
  operation-located {p = p} {q = q} e h i =
      let o = shape_of g.named e in
      placed-as (record { first = p + 2; second = q + 2 }) o.4
      (scalar-placed g.scene o.0 (h (sought g.scene o.0 o.2)), (scalar-placed g.scene o.1 (i (sought g.scene o.1 o.3)), tt))

  pub negation-located : {x : Variable} {p : ℕ} → f ≡ form.Negation x → ((s : Sought env sp x) → Entry env sp p (lookup s.pointer s.trees))
      → Located g (record { first = p + 2; second = 0 })
  negation-located {p = p} e h =
      let o = shape_of g.named e in
      placed-as (record { first = p + 2; second = 0 }) o.2 (scalar-placed g.scene o.0 (h (sought g.scene o.0 o.1)), tt)

  pub sum-located : {x : Variable} {p : ℕ} → f ≡ form.Sum x → ((s : Sought env sp x) → Entry env sp p (lookup s.pointer s.trees))
      → Located g (record { first = p + 2 + 3; second = p + 2 })
  sum-located {p = p} e h =
      let o = shape_of g.named e in
      let at = h (sought g.scene o.0 o.1) in
      placed-as (record { first = p + 2 + 3; second = p + 2 }) o.2 (flags-placed g.scene o.0 at, (data-placed g.scene o.0 at, tt))

  -- the transducer that is made, from the words at those places
  module _ {at : Operands} (l : Located g at) where
    placed_of : {t : Transducer} → g.transducer ≡ t → Placed g.scene.machine.store env (signature base.Int t).inputs (operands t) (positions at)
    placed_of e = subst (λ t. Placed g.scene.machine.store env (signature base.Int t).inputs (operands t) (positions at)) e l.placed

    pub const-chosen : {z : ℤ} → f ≡ form.Const z → SFits w32 z → Const (to_z w32 (of_z w32 z)) ≡ g.transducer
    const-chosen e h = ap Const (to_z-of_z h) ∙ sym (shape_of g.named e)

    pub truth-chosen : {c : Bool} → f ≡ form.Truth c → ConstBool c ≡ g.transducer
    truth-chosen e = sym (shape_of g.named e)

    pub operation-chosen : {o : Operation} {x y : Variable} → f ≡ form.Operation o x y → MapTwo o (id (get_or env at.first 0)) (id (get_or env at.second 0)) ≡ g.transducer
    operation-chosen {o} e =
        let h = shape_of g.named e in
        let p = placed_of h.4 in
        ap₂ (λ a b. MapTwo o (id a) (id b)) (named-there p.0) (named-there p.1.0) ∙ sym h.4

    pub negation-chosen : {x : Variable} → f ≡ form.Negation x → MapOneNot (id (get_or env at.first 0)) ≡ g.transducer
    negation-chosen e =
        let h = shape_of g.named e in
        ap (λ a. MapOneNot (id a)) (named-there (placed_of h.2).0) ∙ sym h.2

    pub sum-chosen : {x : Variable} → f ≡ form.Sum x → SumPlus (id (get_or env at.first 0)) (id (get_or env at.second 0)) ≡ g.transducer
    sum-chosen e =
        let o = shape_of g.named e in
        let p = placed_of o.2 in
        ap₂ (λ a b. SumPlus (id a) (id b)) (named-there p.0) (named-there p.1.0) ∙ sym o.2

    both-within : {c d : Kind} {i j : ℕ} → PlacedAt g.scene.machine.store env c i at.first → PlacedAt g.scene.machine.store env d j at.second
        → (at.first + 3 ≤ length env) × (at.second + 3 ≤ length env)
    both-within o p = (place-within env at.first _ o.words, place-within env at.second _ p.words)

    pub negation-within : {x : Variable} → f ≡ form.Negation x → at.first + 3 ≤ length env
    negation-within e = place-within env at.first _ (placed_of (shape_of g.named e).2).0.words

    pub operation-within : {o : Operation} {x y : Variable} → f ≡ form.Operation o x y → (at.first + 3 ≤ length env) × (at.second + 3 ≤ length env)
    operation-within e = let p = placed_of (shape_of g.named e).4 in both-within p.0 p.1.0

    pub sum-within : {x : Variable} → f ≡ form.Sum x → (at.first + 3 ≤ length env) × (at.second + 3 ≤ length env)
    sum-within e = let p = placed_of (shape_of g.named e).2 in both-within p.0 p.1.0

    pub sole-ready : {t : Transducer} → t ≡ g.transducer → Makes t at env buf state text g.scene.machine g.scene.sink
    sole-ready e =
        record {
          executable =
              subst (λ t. Executable t at env buf state.machine g.scene.machine) (sym e)
              (record { held = g.scene.held; base = base.Int; placed = l.placed; more = omega (arith, g.few) });
          sunk = g.scene.sunk;
        }

  -- what it made
  module _ (n : ℕ) {t : Transducer} (c : t ≡ g.transducer) {new : List ℤ} {state₁ : Walk} {text₁ : List ℕ} {r : Returned ℕ Refusal}
      (p : Instructed (stepped (length buf) n t g.scene.machine) t g.scene.machine g.scene.sink buf new state₁ text₁ r) where
    own : Instructed (stepped (length buf) n g.transducer g.scene.machine) g.transducer g.scene.machine g.scene.sink buf new state₁ text₁ r
    own = subst (λ u. Instructed (stepped (length buf) n u g.scene.machine) u g.scene.machine g.scene.sink buf new state₁ text₁ r) c p

    whole : walked (length buf) n (define g.transducer done) g.scene.machine
        ≡ walked (length buf) n (code g.term g.scene.trees (length g.scene.machine.store)) g.scene.machine
    whole = ap (λ q. walked (length buf) n q g.scene.machine) (sym (g.code_is (length g.scene.machine.store)))

    fed : defined (length g.scene.machine.store) g.transducer g.scene.sink
        ≡ feed (length g.scene.machine.store) (code g.term g.scene.trees (length g.scene.machine.store)) g.scene.sink
    unfolding feed
    fed = ap (λ q. feed (length g.scene.machine.store) q g.scene.sink) (sym (g.code_is (length g.scene.machine.store)))

    pub single-stopped : {env' : List ℕ} {q : Refusal} (next : ℕ) → r ≡ Err q → Runs g.scene g.term n next env' new state₁ text₁ (Err q)
    single-stopped {q = q} next e =
        ran-stopped (stopping-as (sym whole ∙ walked_one (length buf) n g.transducer g.scene.machine) (stopping (length buf) n g.transducer own q e))

    module _ {made : ℕ} (e : r ≡ Ok made) where
      done-so : Making (length buf) n g.transducer g.scene.machine g.scene.sink buf new state₁ text₁ made
      done-so = making (length buf) n g.transducer own made e

      data-so : (signature (carried g.scene.machine.store g.transducer) g.transducer).output ≡ data_kind g.base
      data-so = gives-data g.named (carried g.scene.machine.store g.transducer)

      pub single-push : (1 ≤ state₁.machine.streams) × (state₁.machine.streams < 4294967296) × (made ≤ state₁.machine.room) × (state₁.machine.room < 4294967296)
      single-push =
          pushable done-so.held g.scene.machine.store (data_of g.base (items done-so g.base data-so)) (items-stored done-so g.base data-so) (data-full g.base (items done-so g.base data-so)) (items-long done-so g.base data-so)

      pub single-made : {env' : List ℕ} (next : ℕ) → env' ≡ written (sp - 3) ((state₁.machine.streams - 1) ∷ (state₁.machine.room - made) ∷ made ∷ []) env
          → Runs g.scene g.term n next env' new state₁ text₁ (reached 0 next)
      unfolding tree_words map_tree
      single-made next w =
          let u = done-so in
          ran-as whole fed (sym (g.tree_is (length g.scene.machine.store)))
          (ran-through u.after (walked_one (length buf) n g.transducer g.scene.machine ∙ u.went_to)
          (record {
            held = u.held;
            sunk = u.sunk;
            kept = u.kept;
            shapely = made-shapely u.after g.scene.machine.store g.base (items u g.base data-so) (items-stored u g.base data-so);
            words =
                ap (drop (sp - 3)) w
                ∙ (lowered env sp 3 ((state₁.machine.streams - 1) ∷ (state₁.machine.room - made) ∷ made ∷ []) refl g.low g.scene.within
                ∙ ap (λ l. l ++ drop sp env)
                (pushed-words u.held g.scene.machine.store (data_of g.base (items u g.base data-so)) (items-stored u g.base data-so) (data-full g.base (items u g.base data-so)) (items-long u g.base data-so)));
          }))
