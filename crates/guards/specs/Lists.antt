-- Each listed variable packed by a guard's bools, with its entry on the stack.
use Rattle.std.specs.Prelude.{ℕ, ◌+◌, ◌≤◌, List, ◌∷◌, ◌≡◌, ℤ, length, drop, Ok, Err, Result as Returned}
use Rattle.std.proofs.Math.Option.{some}
use Rattle.laws.specs.Parts.{written}
use Rattle.snesl.specs.declared.code.Kind.TheVariants.{Bools}
use Rattle.snesl.specs.declared.code.Variable.{Variable}
use Rattle.snesl.specs.declared.refusal.Refusal.{Refusal}
use Rattle.snesl.specs.Values.{ValueType, depth_of}
use Rattle.snesl.specs.Terms.{◌∋◌, lookup, listed_types}
use Rattle.snesl.specs.Trees.{map_tree}
use Rattle.snesl.specs.Machine.{State, Result, went, stopped}
use Rattle.snesl.specs.Outcome.{refusal_of}
use Rattle.snesl.specs.Records.{variables_at}
use Rattle.snesl.specs.Checking.{find, found, NamedListing, listed_any, any_pointers, any_names}
use Rattle.snesl.specs.Translation.{pack_size, packs_size, pack_tree, pack_trees, pack_code, pack_codes}
use Rattle.environment.specs.Words.{tree_words, spelled}
use Rattle.environment.specs.Needs.{binding_size, listed_size, spread_size}
use Rattle.sink.specs.declared.state.Walk.{Walk}
use Rattle.sink.specs.Sinks.{feed}
use Rattle.sink.specs.Sunk.{Sunk}
use Rattle.steps.specs.Walking.{walked}
use Rattle.steps.specs.Holding.{Held, keeps, place, PlacedAt, most_streams}
use Rattle.leaves.specs.Places.{places, Shapely, Shaped}
use Rattle.leaves.specs.Scenes.{Scene}
use Rattle.guards.specs.Packs.{pack_answer}
use Rattle.guards.specs.declared.Guarding.{Guarding}

-- An environment from sp on, the place of the guard's bools above it, and free words below the entries.
pub record Guarded (q : Guarding) (env : List ℕ) (buf : List ℤ) (state : Walk) (text : List ℕ) : Type 0 where
  pub scene : Scene env q.sp buf state text
  pub guard : ℕ
  pub placed : PlacedAt scene.machine.store env Bools guard q.bools
  pub high : q.sp ≤ q.bools
  pub inside : q.bools + 3 ≤ length env
  pub free : spread_size ≤ q.base

-- ---- one of them

pub record Chosen (u : Variable) (to : ℕ) (q : Guarding) (env : List ℕ) (buf : List ℤ) (state : Walk) (text : List ℕ) : Type 0 where
  pub guarded : Guarded q env buf state text
  pub type : ValueType
  pub pointer : guarded.scene.context ∋ type
  pub finds : find u guarded.scene.names ≡ found type pointer
  pub low : q.base ≤ to
  pub space : to + binding_size (depth_of type) ≤ q.sp
  pub few : length guarded.scene.machine.store + pack_size (depth_of type) ≤ most_streams

abbrev pub one_answer : (next : ℕ) → Result → Returned ℕ Refusal
one_answer next (went m) = Ok next
one_answer next (stopped why s) = Err (refusal_of why s)

-- Its entry stands at `to`, and all else from the lowest entry on is as it was.
pub record Entered {u : Variable} {to : ℕ} {q : Guarding} {env : List ℕ} {buf : List ℤ} {state : Walk} {text : List ℕ} (g : Chosen u to q env buf state text)
    (env' : List ℕ) (buf' : List ℤ) (state' : Walk) (text' : List ℕ) (m : State) : Type 0 where
  pub held : Held m buf' state'.machine
  pub sunk :
      let s = length g.guarded.scene.machine.store in
      Sunk (feed s (pack_code g.guarded.guard (lookup g.pointer g.guarded.scene.trees) s) g.guarded.scene.sink) text' state'.sink
  pub kept : keeps m.store buf buf'
  pub shapely : Shapely m.store g.type (pack_tree (lookup g.pointer g.guarded.scene.trees) (length g.guarded.scene.machine.store))
  pub words : drop q.base env'
      ≡ drop q.base
      (written to (u.0 ∷ depth_of g.type ∷ tree_words (map_tree (place m.store) (pack_tree (lookup g.pointer g.guarded.scene.trees) (length g.guarded.scene.machine.store)))) env)

pub record Enters {u : Variable} {to : ℕ} {q : Guarding} {env : List ℕ} {buf : List ℤ} {state : Walk} {text : List ℕ} (g : Chosen u to q env buf state text) (n : ℕ)
    (env' : List ℕ) (buf' : List ℤ) (state' : Walk) (text' : List ℕ) (r : Returned ℕ Refusal) : Type 0 where
  pub says :
      let s = length g.guarded.scene.machine.store in
      r ≡ one_answer (to + binding_size (depth_of g.type)) (walked (length buf) n (pack_code g.guarded.guard (lookup g.pointer g.guarded.scene.trees) s) g.guarded.scene.machine)
  pub leaves : (m : State)
      → walked (length buf) n (pack_code g.guarded.guard (lookup g.pointer g.guarded.scene.trees) (length g.guarded.scene.machine.store)) g.guarded.scene.machine ≡ went m
      → Entered g env' buf' state' text' m

-- ---- all of them

-- Listed variables from byte `at` on, whose entries are to stand from `to` on.
pub record Lists (t : List ℕ) (at left to : ℕ) (q : Guarding) (env : List ℕ) (buf : List ℤ) (state : Walk) (text : List ℕ) : Type 0 where
  pub guarded : Guarded q env buf state text
  pub list : NamedListing guarded.scene.context
  pub lists : listed_any guarded.scene.names (variables_at t at left) ≡ some list
  pub bytes : at + left ≤ length t
  pub low : q.base ≤ to
  pub space : to + listed_size (any_pointers list) ≤ q.sp
  pub few : length guarded.scene.machine.store + packs_size (any_pointers list) ≤ most_streams

-- After the packing of each: their entries' words stand from `to` on.
pub record AllBound {q : Guarding} {env : List ℕ} {buf : List ℤ} {state : Walk} {text : List ℕ} (g : Guarded q env buf state text) (ls : NamedListing g.scene.context) (to : ℕ)
    (env' : List ℕ) (buf' : List ℤ) (state' : Walk) (text' : List ℕ) (m : State) : Type 0 where
  pub held : Held m buf' state'.machine
  pub sunk :
      let s = length g.scene.machine.store in
      Sunk (feed s (pack_codes g.guard (any_pointers ls) g.scene.trees s) g.scene.sink) text' state'.sink
  pub kept : keeps m.store buf buf'
  pub shaped : Shaped m.store (listed_types (any_pointers ls)) (pack_trees (any_pointers ls) g.scene.trees (length g.scene.machine.store))
  pub words : drop q.base env'
      ≡ drop q.base (written to (spelled (any_names ls) (places m.store (pack_trees (any_pointers ls) g.scene.trees (length g.scene.machine.store)))) env)

pub record AllBinds {q : Guarding} {env : List ℕ} {buf : List ℤ} {state : Walk} {text : List ℕ} (g : Guarded q env buf state text) (ls : NamedListing g.scene.context) (n to : ℕ)
    (env' : List ℕ) (buf' : List ℤ) (state' : Walk) (text' : List ℕ) (r : Returned Unit Refusal) : Type 0 where
  pub says :
      let s = length g.scene.machine.store in
      r ≡ pack_answer (walked (length buf) n (pack_codes g.guard (any_pointers ls) g.scene.trees s) g.scene.machine)
  pub leaves : (m : State)
      → walked (length buf) n (pack_codes g.guard (any_pointers ls) g.scene.trees (length g.scene.machine.store)) g.scene.machine ≡ went m
      → AllBound g ls to env' buf' state' text' m
