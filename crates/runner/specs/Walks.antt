-- What the walk needs at a checked formula's byte: the expression that stands there, and room for it.
use Rattle.std.specs.Prelude.{ℕ, ◌+◌, ◌*◌, ◌-◌, ◌≤◌, ◌<◌, max, Bool, List, ◌∷◌, ◌++◌, ◌≡◌, ℤ, length, drop, Result as Returned}
use Rattle.std.proofs.Math.Option.{some}
use Rattle.snesl.specs.declared.refusal.Refusal.{Refusal}
use Rattle.snesl.specs.Limits.{most_bytes, most_depth}
use Rattle.snesl.specs.Values.{ValueType, braces, depth_of}
use Rattle.snesl.specs.Terms.{Term, ◌▹◌}
use Rattle.snesl.specs.Trees.{node, order}
use Rattle.snesl.specs.Streams as streams
use Rattle.snesl.specs.Streams.{◌!◌}
use Rattle.snesl.specs.Programs.{dv, fv, among, ascending}
use Rattle.snesl.specs.Records.{variable_at}
use Rattle.snesl.specs.Translation.{code, tree}
use Rattle.snesl.specs.Ids.{ids_of}
use Rattle.snesl.specs.Formed.{Formed}
use Rattle.environment.specs.Words.{place_words, tree_size}
use Rattle.environment.specs.Needs.{words}
use Rattle.sink.specs.declared.state.Walk.{Walk}
use Rattle.sink.specs.Sinks.{Sink, opened, closed, feed}
use Rattle.sink.specs.Sunk.{Sunk}
use Rattle.steps.specs.Holding.{Held, keeps, place, most_streams}
use Rattle.steps.specs.Walking.{walked as walks}
use Rattle.leaves.specs.Scenes.{most_taken, Scene, Ran}
use Rattle.leaves.specs.declared.Walked.{Walked}
use Rattle.records.specs.declared.head.Head.{Head}
use Rattle.records.specs.declared.head.Head.TheVariants as head
use Rattle.leaves.specs.declared.Form.TheVariants as form
use Rattle.runner.specs.declared.Body.{Body}
use Rattle.runner.specs.declared.Route.{Route}
use Rattle.runner.specs.declared.Route.TheVariants as route

-- the arm of the walk that a record of this head at k goes to
abbrev pub route_to : (k : ℕ) → Head → Route
route_to k (head.Var x) = route.Name x
route_to k (head.Let x) = route.Let
route_to k (head.Const z) = route.Single (form.Const z) (k + 6)
route_to k (head.Truth c) = route.Single (form.Truth c) (k + 3)
route_to k (head.Iota x) = route.Iota x
route_to k (head.Operation o x y) = route.Single (form.Operation o x y) (k + 4)
route_to k (head.Negation x) = route.Single (form.Negation x) (k + 3)
route_to k (head.Sum x) = route.Single (form.Sum x) (k + 3)
route_to k (head.Each x y j) = route.Each
route_to k (head.Guard x j) = route.Guard

-- At byte k stands a typed expression over that environment, with room for its walk: no byte is behind more streams than a listed variable of a guard, whose packing
-- at depth 8 defines twenty-five.
pub record Ready (t : List ℕ) (k sp : ℕ) (env : List ℕ) (buf : List ℤ) (state : Walk) (text : List ℕ) : Type 0 where
  pub scene : Scene env sp buf state text
  pub levels : ℕ
  pub type : ValueType
  pub term : Term scene.context type
  pub next : ℕ
  pub formed : Formed t levels k scene.context scene.names type term next
  pub short : length t ≤ most_bytes
  pub space : words term ≤ sp
  pub few : length scene.machine.store + 25 * (length t - k) ≤ most_streams

-- At byte k stands a LT of x, and behind it the expression that x is bound to and then the one that sees it.
pub record Binding (t : List ℕ) (k sp : ℕ) (env : List ℕ) (buf : List ℤ) (state : Walk) (text : List ℕ) : Type 0 where
  pub scene : Scene env sp buf state text
  pub levels : ℕ
  pub type₁ : ValueType
  pub type : ValueType
  pub bound : Term scene.context type₁
  pub body : Term (type₁ ∷ scene.context) type
  pub middle : ℕ
  pub next : ℕ
  pub first : Formed t levels (k + 3) scene.context scene.names type₁ bound middle
  pub second : Formed t levels middle (type₁ ∷ scene.context) (variable_at t (k + 2) ▹ scene.names) type body next
  pub short : length t ≤ most_bytes
  pub space : max (words bound) (tree_size (depth_of type₁) + 2 + words body) ≤ sp
  pub few : length scene.machine.store + 25 * (length t - k) ≤ most_streams

-- A body with its environment, of a WithCtrl that is still to be told.
pub record Over (t : List ℕ) (body : Body) (env : List ℕ) (buf : List ℤ) (state : Walk) (text : List ℕ) : Type 0 where
  pub ready : Ready t body.at body.inner env buf state text
  pub known : length (ids_of ready.scene.trees) ≤ most_taken
  pub shallow : depth_of ready.type < most_depth

-- the sink once its WithCtrl is opened
abbrev pub opened_by : {t : List ℕ} {body : Body} {env : List ℕ} {buf : List ℤ} {state : Walk} {text : List ℕ} → Over t body env buf state text → Sink
opened_by {body = body} g =
    let e = g.ready.term in
    let δ = g.ready.scene.trees in
    let s = length g.ready.scene.machine.store in
    opened (ascending (among (order (tree e δ s)) (dv s (code e δ s)))) body.control (ascending (fv s (code e δ s))) g.ready.scene.sink

-- The opening of its WithCtrl was told; the machine is as it was, and so is its environment.
pub record Opened {t : List ℕ} {body : Body} {env : List ℕ} {buf : List ℤ} {state : Walk} {text : List ℕ} (g : Over t body env buf state text)
    (env' : List ℕ) (buf' : List ℤ) (state' : Walk) (text' : List ℕ) : Type 0 where
  pub held : Held g.ready.scene.machine buf' state'.machine
  pub sunk : Sunk (opened_by g) text' state'.sink
  pub kept : keeps g.ready.scene.machine.store buf buf'
  pub words : drop body.inner env' ≡ drop body.inner env

-- A body, and the flags of the whole's result: their place stands just below sp, and the body's environment below it.
pub record Entire (t : List ℕ) (body : Body) (sp : ℕ) (env : List ℕ) (buf : List ℤ) (state : Walk) (text : List ℕ) : Type 0 where
  pub over : Over t body env buf state text
  pub flags : ℕ
  pub bits : List Bool
  pub stored : over.ready.scene.machine.store ! flags ≡ some (streams.flags bits)
  pub words : drop (sp - 3) env ≡ place_words (place over.ready.scene.machine.store flags) ++ drop sp env
  pub below : body.inner + 3 ≤ sp
  pub within : sp ≤ length env

-- The body's code was run and told under its WithCtrl, and its tree stands beside the flags.
abbrev pub Comprehends : {t : List ℕ} {body : Body} {sp : ℕ} {env : List ℕ} {buf : List ℤ} {state : Walk} {text : List ℕ} → Entire t body sp env buf state text
    → List ℕ → List ℤ → Walk → List ℕ → Returned Walked Refusal → Type 0
Comprehends {body = body} {sp} {env} {buf} g env' buf' state' text' r =
    let e = g.over.ready.term in
    let δ = g.over.ready.scene.trees in
    let m = g.over.ready.scene.machine in
    let s = length m.store in
    Ran (walks (length buf) body.units (code e δ s) m) (closed (feed s (code e δ s) (opened_by g.over))) (braces g.over.ready.type) (node (tree e δ s) g.flags)
    g.over.ready.next sp env env' buf buf' state' text' r
