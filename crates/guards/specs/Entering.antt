-- What the walk needs before a guard's body, and what it then finds: the place of the guard's flags just below sp, under it an entry for each listed variable, packed,
-- and under the control of the flags' units the body's own expression.
use Rattle.std.specs.Prelude.{ℕ, ◌+◌, ◌*◌, ◌-◌, ◌≤◌, ◌<◌, max, Bool, List, [], ◌∷◌, ◌++◌, ◌≡◌, ℤ, length, drop, Ok, Err, Result as Returned}
use Rattle.std.proofs.Math.Option.{some}
use Rattle.laws.specs.Parts.{written}
use Rattle.snesl.specs.declared.code.Kind.TheVariants.{Bools}
use Rattle.snesl.specs.declared.code.Transducer.TheVariants.{B2u, Usum}
use Rattle.snesl.specs.declared.refusal.Refusal.{Refusal}
use Rattle.snesl.specs.Limits.{most_bytes, most_listed, most_depth}
use Rattle.snesl.specs.Values.{ValueType, bool, depth_of}
use Rattle.snesl.specs.Terms as terms
use Rattle.snesl.specs.Terms.{◌∋◌, Term, listed_types, All}
use Rattle.snesl.specs.Trees.{IdTree, order}
use Rattle.snesl.specs.Streams.{flags, units, Store, ◌!◌}
use Rattle.snesl.specs.Programs.{Program, define, dv, fv, among, ascending}
use Rattle.snesl.specs.Machine.{State}
use Rattle.snesl.specs.Records.{byte_at, variable_at, variables_at}
use Rattle.snesl.specs.Checking.{Name, find, found, NamedListing, listed_any, any_pointers, any_names}
use Rattle.snesl.specs.Translation.{id, packs_size, pack_trees, tree, code}
use Rattle.snesl.specs.Formed.{Formed}
use Rattle.environment.specs.Words.{PlaceTree, place_words, spelled}
use Rattle.environment.specs.Needs.{listed_size, spread_size, words}
use Rattle.sink.specs.declared.state.Walk.{Walk}
use Rattle.sink.specs.Sinks.{Sink, defined, opened, closed, feed}
use Rattle.sink.specs.Sunk.{Sunk}
use Rattle.steps.specs.Walking.{walked}
use Rattle.steps.specs.Holding.{Held, keeps, place, PlacedAt, Stopping, most_streams}
use Rattle.leaves.specs.Places.{places, Shaped, Shallow}
use Rattle.leaves.specs.Scenes.{Wide, Scene}
use Rattle.bodies.specs.declared.Entered.{Entered}

-- ---- the words of listed variables' entries

-- Variables listed from byte `at` on, each of which the environment from sp on names.
pub record Naming (t : List ℕ) (at left sp : ℕ) (env : List ℕ) : Type 0 where
  pub context : List ValueType
  pub names : All Name context
  pub trees : All PlaceTree context
  pub rest : List ℕ
  pub spells : drop sp env ≡ spelled names trees ++ rest
  pub shallow : Shallow context
  pub list : NamedListing context
  pub lists : listed_any names (variables_at t at left) ≡ some list
  pub bytes : at + left ≤ length t

-- ---- a guard's flags and their units

-- The place of the bools b stands at `bools`, and there is room for another below sp.
pub record Asks (bools sp b : ℕ) (m : State) (k : Sink) (env : List ℕ) (buf : List ℤ) (state : Walk) (text : List ℕ) : Type 0 where
  pub held : Held m buf state.machine
  pub sunk : Sunk k text state.sink
  pub placed : PlacedAt m.store env Bools b bools
  pub room : 3 ≤ sp
  pub high : sp ≤ bools
  pub inside : bools + 3 ≤ length env
  pub few : length m.store + 2 ≤ most_streams

-- its first two instructions, and then p
abbrev pub asking : (b s : ℕ) → Program → Program
asking b s p = define (B2u (id b)) (define (Usum (id s)) p)

-- The flags were made, with their place just below sp, and counted.
pub record Asked (b sp : ℕ) (m : State) (k : Sink) (n n' : ℕ) (env env' : List ℕ) (buf buf' : List ℤ) (state' : Walk) (text' : List ℕ) : Type 0 where
  pub after : State
  pub bits : List Bool
  pub store : after.store ≡ m.store ++ (flags bits ∷ units n' ∷ [])
  pub quiet : n ≡ 0 → n' ≡ 0
  pub whole : (p : Program) → walked (length buf) n (asking b (length m.store) p) m ≡ walked (length buf) n p after
  pub held : Held after buf' state'.machine
  pub sunk : Sunk (defined (length m.store + 1) (Usum (id (length m.store))) (defined (length m.store) (B2u (id b)) k)) text' state'.sink
  pub kept : keeps after.store buf buf'
  pub words : env' ≡ written (sp - 3) (place_words (place after.store (length m.store))) env

pub record Answers (b sp : ℕ) (m : State) (k : Sink) (n : ℕ) (env env' : List ℕ) (buf buf' : List ℤ) (state' : Walk) (text' : List ℕ) (r : Returned ℕ Refusal) : Type 0 where
  pub made : (n' : ℕ) → r ≡ Ok n' → Asked b sp m k n n' env env' buf buf' state' text'
  pub stops : (q : Refusal) → r ≡ Err q → (p : Program) → Stopping (walked (length buf) n (asking b (length m.store) p) m) q

-- ---- the guard at k

-- A guard, its record at k, and its body behind that. No byte is behind more streams than a listed variable, whose packing at depth 8 defines twenty-five.
pub record Guard (t : List ℕ) (k sp : ℕ) (env : List ℕ) (buf : List ℤ) (state : Walk) (text : List ℕ) : Type 0 where
  pub scene : Scene env sp buf state text
  pub levels : ℕ
  pub pointer : scene.context ∋ bool
  pub list : NamedListing scene.context
  pub type : ValueType
  pub body : Term (listed_types (any_pointers list)) type
  pub next : ℕ
  pub finds : find (variable_at t (k + 2)) scene.names ≡ found bool pointer
  pub lists : listed_any scene.names (variables_at t (k + 4) (byte_at t (k + 3))) ≡ some list
  pub formed : Formed t levels (k + 4 + byte_at t (k + 3)) (listed_types (any_pointers list)) (any_names list) type body next
  pub most : byte_at t (k + 3) ≤ most_listed
  pub bytes : k + 4 + byte_at t (k + 3) ≤ length t
  pub short : length t ≤ most_bytes
  pub shallow : depth_of type < most_depth
  pub space : 3 + (listed_size (any_pointers list) + max spread_size (words body)) ≤ sp
  pub few : length scene.machine.store + 25 * (length t - k) ≤ most_streams

-- its code
abbrev pub whole_code : {t : List ℕ} {k sp : ℕ} {env : List ℕ} {buf : List ℤ} {state : Walk} {text : List ℕ} → Guard t k sp env buf state text → Program
whole_code g = code (terms.guard g.pointer (any_pointers g.list) g.body) g.scene.trees (length g.scene.machine.store)

-- the trees of the body's environment
abbrev pub inner_trees : {t : List ℕ} {k sp : ℕ} {env : List ℕ} {buf : List ℤ} {state : Walk} {text : List ℕ} → (g : Guard t k sp env buf state text) → All IdTree (listed_types (any_pointers g.list))
inner_trees g = pack_trees (any_pointers g.list) g.scene.trees (length g.scene.machine.store + 2)

-- the opening of its WithCtrl, whose body's ids start at s
abbrev pub opens_guard : {t : List ℕ} {k sp : ℕ} {env : List ℕ} {buf : List ℤ} {state : Walk} {text : List ℕ} → (g : Guard t k sp env buf state text) → (s : ℕ) → Sink → Sink
opens_guard g s =
    opened (ascending (among (order (tree g.body (inner_trees g) s)) (dv s (code g.body (inner_trees g) s)))) (length g.scene.machine.store + 1)
    (ascending (fv s (code g.body (inner_trees g) s)))

-- Before the body: the rest of the run is the body's, from the machine `after`, under n' units, in its own environment from sp' on; what is told of the rest is its
-- WithCtrl over it. The guard's flags are the first stream that was made.
pub record GuardInside {t : List ℕ} {k sp : ℕ} {env : List ℕ} {buf : List ℤ} {state : Walk} {text : List ℕ} (g : Guard t k sp env buf state text)
    (n sp' n' : ℕ) (env' : List ℕ) (buf' : List ℤ) (state' : Walk) (text' : List ℕ) : Type 0 where
  pub after : State
  pub sink : Sink
  pub streams : Store
  pub rest : List ℕ
  pub whole : walked (length buf) n (whole_code g) g.scene.machine ≡ walked (length buf) n' (code g.body (inner_trees g) (length after.store)) after
  pub fed : feed (length g.scene.machine.store) (whole_code g) g.scene.sink
      ≡ closed (feed (length after.store) (code g.body (inner_trees g) (length after.store)) (opens_guard g (length after.store) sink))
  pub store : after.store ≡ g.scene.machine.store ++ streams
  pub number : length after.store ≡ length g.scene.machine.store + (2 + packs_size (any_pointers g.list))
  pub held : Held after buf' state'.machine
  pub sunk : Sunk sink text' state'.sink
  pub wide : Wide sink
  pub kept : keeps after.store buf buf'
  pub shaped : Shaped after.store (listed_types (any_pointers g.list)) (inner_trees g)
  pub shallow : Shallow (listed_types (any_pointers g.list))
  pub spells : drop sp' env' ≡ spelled (any_names g.list) (places after.store (inner_trees g)) ++ rest
  pub bits : List Bool
  pub stored : after.store ! length g.scene.machine.store ≡ some (flags bits)
  pub flags : drop (sp - 3) env' ≡ place_words (place after.store (length g.scene.machine.store)) ++ drop sp env
  pub space : words g.body ≤ sp'
  pub below : sp' + 3 ≤ sp
  pub few : length after.store + 25 * (length t - (k + 4 + byte_at t (k + 3))) ≤ most_streams

pub record GuardEnters {t : List ℕ} {k sp : ℕ} {env : List ℕ} {buf : List ℤ} {state : Walk} {text : List ℕ} (g : Guard t k sp env buf state text)
    (n : ℕ) (env' : List ℕ) (buf' : List ℤ) (state' : Walk) (text' : List ℕ) (r : Returned Entered Refusal) : Type 0 where
  pub goes_in : (e : Entered) → r ≡ Ok e → GuardInside g n e.inner e.units env' buf' state' text'
  pub stops : (q : Refusal) → r ≡ Err q → Stopping (walked (length buf) n (whole_code g) g.scene.machine) q
