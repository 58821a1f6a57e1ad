-- What each arm of the run's walk finds, and what it answers and leaves.
use Rattle.std.specs.Prelude.{ℕ, ◌+◌, ◌*◌, ◌-◌, ◌≤◌, List, ◌++◌, ◌≡◌, ℤ, length, drop, Ok, Err, Result as Returned}
use Rattle.snesl.specs.Limits.{most_depth, most_listed}
use Rattle.snesl.specs.Values.{ValueType, depth_of}
use Rattle.snesl.specs.Terms.{Term, All}
use Rattle.snesl.specs.Trees.{IdTree, map_tree}
use Rattle.snesl.specs.Machine.{State, Result, went, stopped}
use Rattle.snesl.specs.declared.refusal.Refusal.{Refusal}
use Rattle.snesl.specs.Outcome.{refusal_of}
use Rattle.snesl.specs.Checking.{Name}
use Rattle.environment.specs.Words.{tree_words, tree_size, spelled}
use Rattle.sink.specs.declared.state.Mode.TheVariants.{Listing}
use Rattle.sink.specs.declared.state.Walk.{Walk}
use Rattle.sink.specs.Sinks.{Sink, feed}
use Rattle.sink.specs.Sunk.{Sunk}
use Rattle.steps.specs.Holding.{Held, place, keeps}
use Rattle.steps.specs.Walking.{walked as walks}
use Rattle.snesl.specs.Translation.{code, tree}
use Rattle.leaves.specs.Places.{places, Shapely, Shaped, Shallow}
use Rattle.leaves.specs.declared.Walked.{Walked}

-- a sink that lists can keep every id that a body takes in: at most those of listed variables of the deepest type, which a GU's may be; an EA's are those of x, whose
-- type is less deep, and of listed scalars
abbrev pub most_taken : ℕ
most_taken = most_listed * (most_depth + 1)

pub record Wide (k : Sink) : Type 0 where
  pub room : k.mode ≡ Listing → most_taken ≤ k.most

-- The words from sp on spell an environment whose streams are in the machine's store, the machine is in the buffer, and the sink beside its counters.
pub record Scene (env : List ℕ) (sp : ℕ) (buf : List ℤ) (state : Walk) (text : List ℕ) : Type 0 where
  pub context : List ValueType
  pub names : All Name context
  pub trees : All IdTree context
  pub machine : State
  pub rest : List ℕ
  pub spells : drop sp env ≡ spelled names (places machine.store trees) ++ rest
  pub shaped : Shaped machine.store context trees
  pub shallow : Shallow context
  pub held : Held machine buf state.machine
  pub within : sp ≤ length env
  pub sink : Sink
  pub sunk : Sunk sink text state.sink
  pub wide : Wide sink

-- a walk that went through, to the position `next`
abbrev pub reached : (depth next : ℕ) → Returned Walked Refusal
reached depth next = Ok (record { depth = depth; next = next })

-- the answer of a walk that ends like this
abbrev pub answer : (depth next : ℕ) → Result → Returned Walked Refusal
answer depth next (went m) = reached depth next
answer depth next (stopped why s) = Err (refusal_of why s)

-- After a walk that went through to m and k: the machine is in the buffer and the sink beside its counters, what stands behind its streams is as it was, and the words
-- of the result's tree stand just below sp, with everything from sp on as it was.
pub record Left (m : State) (k : Sink) (τ : ValueType) (t : IdTree τ) (sp : ℕ) (env env' : List ℕ) (buf buf' : List ℤ) (state : Walk) (text : List ℕ) : Type 0 where
  pub held : Held m buf' state.machine
  pub sunk : Sunk k text state.sink
  pub kept : keeps m.store buf buf'
  pub shapely : Shapely m.store τ t
  pub words : drop (sp - tree_size (depth_of τ)) env' ≡ tree_words (map_tree (place m.store) t) ++ drop sp env

-- What a walk that ends like `res` and makes the sink k, with its result of type τ at the tree t, answers and leaves.
pub record Ran (res : Result) (k : Sink) (τ : ValueType) (t : IdTree τ) (next sp : ℕ) (env env' : List ℕ) (buf buf' : List ℤ) (state : Walk) (text : List ℕ) (r : Returned Walked Refusal) : Type 0 where
  pub says : r ≡ answer (depth_of τ) next res
  pub leaves : (m : State) → res ≡ went m → Left m k τ t sp env env' buf buf' state text

-- the same of an expression e over a scene, under n units: its code from the next free id on
abbrev pub Runs : {env : List ℕ} {sp : ℕ} {buf : List ℤ} {state : Walk} {text : List ℕ} → (s : Scene env sp buf state text) {τ : ValueType} → Term s.context τ → (n next : ℕ)
    → List ℕ → List ℤ → Walk → List ℕ → Returned Walked Refusal → Type 0
Runs {env} {sp} {buf} s {τ} e n next env' buf' state' text' r =
    let start = length s.machine.store in
    let p = code e s.trees start in
    Ran (walks (length buf) n p s.machine) (feed start p s.sink) τ (tree e s.trees start) next sp env env' buf buf' state' text' r
