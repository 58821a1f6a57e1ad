-- What the walk needs before a comprehension's body, and what it then finds: the flags' place just below sp, under it an entry for each listed variable and
-- one for x, and under the control of the flags' units the body's own expression.
use Rattle.std.specs.Prelude.{ℕ, ◌+◌, ◌*◌, ◌-◌, ◌≤◌, ◌<◌, List, [], ◌∷◌, ◌++◌, ◌≡◌, ℤ, length, drop, Ok, Err, Result as Returned}
use Rattle.std.proofs.Math.Option.{some}
use Rattle.laws.specs.Parts.{written}
use Rattle.snesl.specs.declared.code.Kind.TheVariants.{Flags}
use Rattle.snesl.specs.declared.code.Variable.{Variable}
use Rattle.snesl.specs.declared.code.Transducer.{Transducer}
use Rattle.snesl.specs.declared.code.Transducer.TheVariants.{Distr}
use Rattle.snesl.specs.declared.refusal.Refusal.{Refusal}
use Rattle.snesl.specs.Limits.{most_bytes, most_listed, most_depth}
use Rattle.snesl.specs.declared.code.Base.{Base}
use Rattle.snesl.specs.Values.{ValueType, scalar, braces, depth_of, Element}
use Rattle.snesl.specs.Terms as terms
use Rattle.snesl.specs.Terms.{◌∋◌, Term, any_type, listed_types, All, ◌▹◌, lookup}
use Rattle.snesl.specs.Trees.{IdTree, root, outer, order}
use Rattle.snesl.specs.Streams.{data_of, len, Store}
use Rattle.snesl.specs.Programs.{done, dv, fv, among, ascending}
use Rattle.snesl.specs.Machine.{State, Stop, Result, went, stopped}
use Rattle.snesl.specs.Outcome.{refusal_of}
use Rattle.snesl.specs.Records.{byte_at, variable_at, variables_at}
use Rattle.snesl.specs.Checking.{find, found, NamedScalars, listed_scalars, listed_names, pointers}
use Rattle.snesl.specs.Translation.{id, numbered, within, tree, code, distrs}
use Rattle.snesl.specs.Formed.{Formed}
use Rattle.environment.specs.Words.{place_words, tree_size, spelled}
use Rattle.environment.specs.Needs.{words}
use Rattle.sink.specs.declared.state.Walk.{Walk}
use Rattle.sink.specs.Sinks.{Sink, defined, opened, closed, feed}
use Rattle.sink.specs.Sunk.{Sunk}
use Rattle.steps.specs.Walking.{stepped, walked}
use Rattle.steps.specs.Holding.{Held, keeps, place, PlacedAt, Stopping, most_streams}
use Rattle.leaves.specs.Places.{places, Shaped}
use Rattle.leaves.specs.Scenes.{Wide, Scene}
use Rattle.bodies.specs.declared.Entered.{Entered}

-- ---- one listed variable

-- The scalar u is to be distributed over the flags whose place stands below sp, with its entry at `to`.
pub record Spreading (u : Variable) (to sp : ℕ) (env : List ℕ) (buf : List ℤ) (state : Walk) (text : List ℕ) : Type 0 where
  pub scene : Scene env sp buf state text
  pub flags : ℕ
  pub base : Base
  pub pointer : scene.context ∋ scalar base
  pub finds : find u scene.names ≡ found (scalar base) pointer
  pub placed : PlacedAt scene.machine.store env Flags flags (sp - 3)
  pub space : to + 8 ≤ sp
  pub few : length scene.machine.store < most_streams

abbrev pub spread_by : {u : Variable} {to sp : ℕ} {env : List ℕ} {buf : List ℤ} {state : Walk} {text : List ℕ} → Spreading u to sp env buf state text → Transducer
spread_by g = Distr (id g.flags) (id (root (lookup g.pointer g.scene.trees)))

-- Its copy, which is of its base, is the newest stream, and its entry stands at `to`.
pub record Spread {u : Variable} {to sp : ℕ} {env : List ℕ} {buf : List ℤ} {state : Walk} {text : List ℕ} (g : Spreading u to sp env buf state text) (n : ℕ)
    (env' : List ℕ) (buf' : List ℤ) (state' : Walk) (text' : List ℕ) (r : Returned ℕ Refusal) : Type 0 where
  pub went_on : (m : State) → stepped (length buf) n (spread_by g) g.scene.machine ≡ went m
      → (vs : List (Element g.base)) × (m.store ≡ g.scene.machine.store ++ data_of g.base vs ∷ []) × (r ≡ Ok (len (data_of g.base vs))) × Held m buf' state'.machine × keeps m.store buf buf'
      × Sunk (defined (length g.scene.machine.store) (spread_by g) g.scene.sink) text' state'.sink
      × (env' ≡ written to (u.0 ∷ 0 ∷ place_words (place m.store (length g.scene.machine.store))) env)
  pub gave-up : (why : Stop) (s : ℕ) → stepped (length buf) n (spread_by g) g.scene.machine ≡ stopped why s → r ≡ Err (refusal_of why s)

-- ---- all of them

-- Listed variables from byte `at` on, whose entries are to stand from `base` on; the flags over which they are distributed have their place below sp.
pub record Distributing (t : List ℕ) (at left base sp : ℕ) (env : List ℕ) (buf : List ℤ) (state : Walk) (text : List ℕ) : Type 0 where
  pub scene : Scene env sp buf state text
  pub flags : ℕ
  pub list : NamedScalars scene.context
  pub lists : listed_scalars scene.names (variables_at t at left) ≡ some list
  pub placed : PlacedAt scene.machine.store env Flags flags (sp - 3)
  pub bytes : at + left ≤ length t
  pub space : base + 5 * left + 3 ≤ sp
  pub few : length scene.machine.store + left ≤ most_streams

abbrev pub listed_answer : Result → Returned Unit Refusal
listed_answer (went m) = Ok tt
listed_answer (stopped why s) = Err (refusal_of why s)

-- After the Distr of each: their streams are the newest, and the entries' words stand from `base` on.
pub record Bound {env : List ℕ} {sp : ℕ} {buf : List ℤ} {state : Walk} {text : List ℕ} (s : Scene env sp buf state text) (b : ℕ) (ls : NamedScalars s.context) (base : ℕ)
    (env' : List ℕ) (buf' : List ℤ) (state' : Walk) (text' : List ℕ) (m : State) : Type 0 where
  pub held : Held m buf' state'.machine
  pub sunk : Sunk (feed (length s.machine.store) (distrs b (pointers ls) s.trees done) s.sink) text' state'.sink
  pub kept : keeps m.store buf buf'
  pub shaped : Shaped m.store (listed_types (any_type (pointers ls))) (numbered (length s.machine.store) (pointers ls))
  pub words : env' ≡ written base (spelled (listed_names ls) (places m.store (numbered (length s.machine.store) (pointers ls)))) env

pub record Distributed {env : List ℕ} {sp : ℕ} {buf : List ℤ} {state : Walk} {text : List ℕ} (s : Scene env sp buf state text) (b : ℕ) (ls : NamedScalars s.context) (n base : ℕ)
    (env' : List ℕ) (buf' : List ℤ) (state' : Walk) (text' : List ℕ) (r : Returned Unit Refusal) : Type 0 where
  pub says : r ≡ listed_answer (walked (length buf) n (distrs b (pointers ls) s.trees done) s.machine)
  pub leaves : (m : State) → walked (length buf) n (distrs b (pointers ls) s.trees done) s.machine ≡ went m → Bound s b ls base env' buf' state' text' m

-- ---- the comprehension at k

-- how many variables are listed there, and where their entries are to stand
abbrev pub count_at : List ℕ → ℕ → ℕ
count_at t k = byte_at t (k + 4)

abbrev pub entries_at : List ℕ → (k sp : ℕ) → ℕ
entries_at t k sp = sp - 3 - 5 * byte_at t (k + 4)

-- A comprehension, its record at k, and its body behind that.
pub record Each (t : List ℕ) (k sp : ℕ) (env : List ℕ) (buf : List ℤ) (state : Walk) (text : List ℕ) : Type 0 where
  pub scene : Scene env sp buf state text
  pub levels : ℕ
  pub inside : ValueType
  pub pointer : scene.context ∋ braces inside
  pub list : NamedScalars scene.context
  pub type : ValueType
  pub body : Term (inside ∷ listed_types (any_type (pointers list))) type
  pub next : ℕ
  pub finds : find (variable_at t (k + 3)) scene.names ≡ found (braces inside) pointer
  pub lists : listed_scalars scene.names (variables_at t (k + 5) (byte_at t (k + 4))) ≡ some list
  pub formed : Formed t levels (k + 5 + byte_at t (k + 4)) (inside ∷ listed_types (any_type (pointers list))) (variable_at t (k + 2) ▹ listed_names list) type body next
  pub most : byte_at t (k + 4) ≤ most_listed
  pub bytes : k + 5 + byte_at t (k + 4) ≤ length t
  pub short : length t ≤ most_bytes
  pub shallow : depth_of type < most_depth
  pub space : 3 + 5 * byte_at t (k + 4) + (tree_size (depth_of inside) + 2) + words body ≤ sp
  pub few : length scene.machine.store + 25 * (length t - k) ≤ most_streams

-- the trees of the body's environment
abbrev pub inner_trees : {t : List ℕ} {k sp : ℕ} {env : List ℕ} {buf : List ℤ} {state : Walk} {text : List ℕ} → (g : Each t k sp env buf state text)
    → All IdTree (g.inside ∷ listed_types (any_type (pointers g.list)))
inner_trees g = within g.pointer (pointers g.list) g.scene.trees (length g.scene.machine.store)

-- the opening of its WithCtrl, whose body's ids start at s
abbrev pub opens : {t : List ℕ} {k sp : ℕ} {env : List ℕ} {buf : List ℤ} {state : Walk} {text : List ℕ} → (g : Each t k sp env buf state text) → (s : ℕ) → Sink → Sink
opens g s =
    opened (ascending (among (order (tree g.body (inner_trees g) s)) (dv s (code g.body (inner_trees g) s)))) (length g.scene.machine.store)
    (ascending (fv s (code g.body (inner_trees g) s)))

-- Before the body: the rest of the run is the body's, from the machine `after`, under n' units, in its own environment from sp' on; what is told of the rest is its
-- WithCtrl over it.
pub record Inside {t : List ℕ} {k sp : ℕ} {env : List ℕ} {buf : List ℤ} {state : Walk} {text : List ℕ} (g : Each t k sp env buf state text)
    (n sp' n' : ℕ) (env' : List ℕ) (buf' : List ℤ) (state' : Walk) (text' : List ℕ) : Type 0 where
  pub after : State
  pub sink : Sink
  pub streams : Store
  pub rest : List ℕ
  pub whole : walked (length buf) n (code (terms.each g.pointer (pointers g.list) g.body) g.scene.trees (length g.scene.machine.store)) g.scene.machine
      ≡ walked (length buf) n' (code g.body (inner_trees g) (length after.store)) after
  pub fed : feed (length g.scene.machine.store) (code (terms.each g.pointer (pointers g.list) g.body) g.scene.trees (length g.scene.machine.store)) g.scene.sink
      ≡ closed (feed (length after.store) (code g.body (inner_trees g) (length after.store)) (opens g (length after.store) sink))
  pub store : after.store ≡ g.scene.machine.store ++ streams
  pub number : length after.store ≡ length g.scene.machine.store + (1 + length (pointers g.list))
  pub held : Held after buf' state'.machine
  pub sunk : Sunk sink text' state'.sink
  pub wide : Wide sink
  pub kept : keeps after.store buf buf'
  pub shaped : Shaped after.store (g.inside ∷ listed_types (any_type (pointers g.list))) (inner_trees g)
  pub spells : drop sp' env' ≡ spelled (variable_at t (k + 2) ▹ listed_names g.list) (places after.store (inner_trees g)) ++ rest
  pub flags : drop (sp - 3) env' ≡ place_words (place after.store (outer (lookup g.pointer g.scene.trees))) ++ drop sp env
  pub space : words g.body ≤ sp'
  pub below : sp' + 3 ≤ sp

pub record Enters {t : List ℕ} {k sp : ℕ} {env : List ℕ} {buf : List ℤ} {state : Walk} {text : List ℕ} (g : Each t k sp env buf state text)
    (n : ℕ) (env' : List ℕ) (buf' : List ℤ) (state' : Walk) (text' : List ℕ) (r : Returned Entered Refusal) : Type 0 where
  pub goes_in : (e : Entered) → r ≡ Ok e → Inside g n e.inner e.units env' buf' state' text'
  pub stops : (q : Refusal) → r ≡ Err q
      → Stopping (walked (length buf) n (code (terms.each g.pointer (pointers g.list) g.body) g.scene.trees (length g.scene.machine.store)) g.scene.machine) q
