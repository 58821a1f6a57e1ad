-- Loading a job's inputs (01, "Translation" and refusal 9): their streams into the stream buffer in id order, and a binding for each on the stack of words, the
-- newest first.
use Rattle.std.specs.Prelude.{Result, Ok, Err, ℕ, suc, ◌+◌, ◌*◌, ◌≤◌, ◌<◌, List, [], ◌∷◌, ◌++◌, map, ◌≡◌, ℤ, length, take, drop}
use Rattle.std.proofs.Math.Option.{Option, some, none}
use Rattle.snesl.specs.declared.code.Variable.{Variable}
use Rattle.snesl.specs.declared.limits.Formula.{Formula}
use Rattle.snesl.specs.Limits.{most_inputs, most_depth, most_elements}
use Rattle.snesl.specs.declared.code.Base.{Base}
use Rattle.snesl.specs.Values.{ValueType, depth_of, type_of, Val}
use Rattle.snesl.specs.Terms.{All, ∅, ◌▹◌}
use Rattle.snesl.specs.Trees.{IdTree}
use Rattle.snesl.specs.Streams.{Store, len, room}
use Rattle.snesl.specs.Machine.{State}
use Rattle.snesl.specs.Text.{value_of}
use Rattle.snesl.specs.Records.{Input}
use Rattle.snesl.specs.Checking.{Name, context, input_types, turned, input_names}
use Rattle.snesl.specs.Inputs.{input_tree, input_trees, input_streams}
use Rattle.environment.specs.declared.machine.Machine.{Machine}
use Rattle.environment.specs.Words.{spelled}
use Rattle.steps.specs.Holding.{Held, keeps}
use Rattle.leaves.specs.Places.{places, Shaped, Shallow}
use Rattle.valuetext.specs.Storing.{value_store}
use Rattle.inputs.specs.Supply.{Valued}
use Rattle.snesl.specs.declared.refusal.Refusal.{Refusal}
use Rattle.snesl.specs.declared.refusal.Refusal.TheVariants.{NoRoom}

-- the most words that an input's binding takes: its name, its depth, and three for each of nine streams
abbrev pub binding_words : ℕ
binding_words = 29

-- nothing counted yet
abbrev pub fresh : Machine
fresh = record { streams = 0; room = 0; work = 0; steps = 0 }

-- nothing spent on this store
abbrev pub unspent : Store → State
unspent σ = record { store = σ; work = 0; steps = 0 }

-- some inputs, newest first: their names, and the trees of their streams' ids
pub record Bound : Type 0 where
  pub context : List ValueType
  pub names : All Name context
  pub trees : All IdTree context

-- an input of type τ more, whose data has id s
abbrev pub bind_one : Bound → Variable → (s : ℕ) → ValueType → Bound
bind_one b x s τ = record { context = τ ∷ b.context; names = x ▹ b.names; trees = input_tree s (depth_of τ) ▹ b.trees }

-- the inputs' words from sp on, and their streams in the buffer
pub record Stands (b : Bound) (σ : Store) (env : List ℕ) (sp : ℕ) (buf : List ℤ) (machine : Machine) : Type 0 where
  pub spells : drop sp env ≡ spelled b.names (places σ b.trees)
  pub shaped : Shaped σ b.context b.trees
  pub shallow : Shallow b.context
  pub held : Held (unspent σ) buf machine
  pub within : sp ≤ length env

-- ---- one input

-- a text that is the value of an input x of base β and depth d, with its counts, behind inputs that are loaded
pub record Next (text : List ℕ) (x : Variable) (β : Base) (d : ℕ) (counts : List ℕ) (sp : ℕ) (env : List ℕ) (buf : List ℤ) (machine : Machine) : Type 0 where
  pub bound : Bound
  pub store : Store
  pub value : Val (type_of β d)
  pub stands : Stands bound store env sp buf machine
  pub reads : value_of (type_of β d) text ≡ some value
  pub counted : take (suc d) counts ≡ map len (value_store (type_of β d) value)
  pub shallow : d ≤ most_depth
  pub low : binding_words ≤ sp
  pub few : length store + suc most_depth ≤ most_elements
  pub small : length buf ≤ most_elements

-- its streams fit behind the others, and it is bound to them; or they don't
pub data Takes {text : List ℕ} {x : Variable} {β : Base} {d : ℕ} {counts : List ℕ} {sp : ℕ} {env : List ℕ} {buf : List ℤ} {machine : Machine}
    (g : Next text x β d counts sp env buf machine)
    (env' : List ℕ) (buf' : List ℤ) (machine' : Machine) : Result ℕ Refusal → Type 0 where
  takes : {top : ℕ}
      → room g.store + room (value_store (type_of β d) g.value) ≤ length buf
      → Stands (bind_one g.bound x (length g.store) (type_of β d)) (g.store ++ value_store (type_of β d) g.value) env' top buf' machine'
      → keeps (g.store ++ value_store (type_of β d) g.value) buf buf'
      → sp ≤ top + binding_words
      → Takes g env' buf' machine' (Ok top)
  passes : length buf < room g.store + room (value_store (type_of β d) g.value) → Takes g env' buf' machine' (Err (NoRoom (length g.store)))

-- ---- all of them

abbrev pub inputs_bound : (is : List Input) → Bound
inputs_bound is = record { context = context is; names = turned ∅ (input_names is); trees = turned ∅ (input_trees 0 (input_types is)) }

-- What is answered and left where the room is passed by the input with this first id, or by none. Behind the streams the buffer is as it was.
pub data Loads {t : List ℕ} {f : Formula} (g : Valued t f) (env env' : List ℕ) (buf buf' : List ℤ) (machine' : Machine) : Option ℕ → Result ℕ Refusal → Type 0 where
  loads : {top : ℕ}
      → Stands (inputs_bound g.job.inputs) (input_streams g.given) env' top buf' machine'
      → keeps (input_streams g.given) buf buf'
      → length env ≤ top + binding_words * most_inputs
      → length (input_streams g.given) ≤ suc most_depth * most_inputs
      → Loads g env env' buf buf' machine' none (Ok top)
  fills : {s : ℕ} → Loads g env env' buf buf' machine' (some s) (Err (NoRoom s))
