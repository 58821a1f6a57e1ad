-- One variable's value packed by bools: what stands on the stack before, and what the packing answers and leaves.
use Rattle.std.specs.Prelude.{ℕ, suc, ◌+◌, ◌*◌, ◌-◌, ◌≤◌, List, [], ◌∷◌, ◌++◌, ◌⊎◌, ◌≡◌, ℤ, length, drop, Ok, Err, Result as Returned}
use Rattle.std.proofs.Math.Option.{some}
use Rattle.laws.specs.Parts.{part, written}
use Rattle.snesl.specs.declared.refusal.Refusal.{Refusal}
use Rattle.snesl.specs.declared.code.Base.{Base}
use Rattle.snesl.specs.declared.code.Kind.TheVariants.{Bools, Flags, Units}
use Rattle.snesl.specs.declared.code.Transducer.{Transducer}
use Rattle.snesl.specs.Limits.{most_depth}
use Rattle.snesl.specs.Trees.{Tree, leaf, node, order, map_tree}
use Rattle.snesl.specs.Streams.{Stream, kind_of, len, data_kind, Store, ◌!◌}
use Rattle.snesl.specs.Transducers.{signature}
use Rattle.snesl.specs.Programs.{dv, fv, among, ascending}
use Rattle.snesl.specs.Machine.{State, Stop, Result, went, stopped}
use Rattle.snesl.specs.Outcome.{refusal_of}
use Rattle.snesl.specs.Translation.{pack_size, pack_tree, pack_code}
use Rattle.environment.specs.Words.{place_words, tree_words, tree_size}
use Rattle.sink.specs.declared.state.Walk.{Walk}
use Rattle.sink.specs.Sinks.{Sink, defined, opened, closed, feed}
use Rattle.sink.specs.Sunk.{Sunk}
use Rattle.steps.specs.Walking.{stepped, walked}
use Rattle.steps.specs.Holding.{Held, keeps, place, PlacedAt, most_streams}
use Rattle.steps.specs.declared.Operands.{Operands}
use Rattle.leaves.specs.Making.{Makes}
use Rattle.leaves.specs.Scenes.{Wide}
use Rattle.guards.specs.declared.Packing.{Packing}

-- ---- one stream, with its place at `to`

pub record Puts (t : Transducer) (at : Operands) (to : ℕ) (env : List ℕ) (buf : List ℤ) (state : Walk) (text : List ℕ) (m : State) (k : Sink) : Type 0 where
  pub makes : Makes t at env buf state text m k
  pub solid : (b : Base) → (signature b t).output ≡ Units → ⊥
  pub fits : to + 3 ≤ length env

pub record Placed (cap n : ℕ) (t : Transducer) (to : ℕ) (m : State) (k : Sink) (env env' : List ℕ) (old new : List ℤ) (state : Walk) (text : List ℕ) (r : Returned ℕ Refusal) : Type 0 where
  pub went_on : (m' : State) (a : Stream) → stepped cap n t m ≡ went m' → m'.store ≡ m.store ++ a ∷ []
      → (r ≡ Ok (len a)) × Held m' new state.machine × keeps m'.store old new × Sunk (defined (length m.store) t k) text state.sink
      × (env' ≡ written to (place_words (place m'.store (length m.store))) env)
  pub gave-up : (why : Stop) (s : ℕ) → stepped cap n t m ≡ stopped why s → r ≡ Err (refusal_of why s)

-- ---- a tree

-- its leaf names data of this base in the store, and each node flags
pub data Kinds (σ : Store) (c : Base) : (d : ℕ) → Tree ℕ d → Type 0 where
  kinds-leaf : {s : ℕ} → (a : Stream) → σ ! s ≡ some a → kind_of a ≡ data_kind c → Kinds σ c 0 (leaf s)
  kinds-node : {d s : ℕ} {t : Tree ℕ d} → (a : Stream) → Kinds σ c d t → σ ! s ≡ some a → kind_of a ≡ Flags → Kinds σ c (suc d) (node t s)

-- Its words stand at `from` and those of the bools' place at `bools`; its packed words are to stand at `to`; below `low` is room for the bools spread over each level.
pub record Packs (p : Packing) {d : ℕ} (t : Tree ℕ d) (b : ℕ) (c : Base) (m : State) (k : Sink) (env : List ℕ) (buf : List ℤ) (state : Walk) (text : List ℕ) : Type 0 where
  pub deep : p.depth ≡ d
  pub held : Held m buf state.machine
  pub sunk : Sunk k text state.sink
  pub wide : Wide k
  pub kinds : Kinds m.store c d t
  pub words : part p.from (tree_size d) env ≡ tree_words (map_tree (place m.store) t)
  pub placed : PlacedAt m.store env Bools b p.bools
  pub shallow : d ≤ most_depth
  pub free : 3 * d ≤ p.low
  pub low : p.low ≤ p.to
  pub apart : p.to + tree_size d ≤ p.from
  pub within : p.from + tree_size d ≤ length env
  pub aside : (p.to + tree_size d ≤ p.bools) ⊎ ((p.low ≤ p.bools) × (p.bools + 3 ≤ p.to))
  pub inside : p.bools + 3 ≤ length env
  pub few : length m.store + pack_size d ≤ most_streams

abbrev pub pack_answer : Result → Returned Unit Refusal
pack_answer (went m) = Ok tt
pack_answer (stopped why s) = Err (refusal_of why s)

-- After it went through to m': the packed tree's words stand at `to`, and all else from `low` on is as it was.
pub record Leaves (p : Packing) {d : ℕ} (t : Tree ℕ d) (b : ℕ) (c : Base) (m : State) (k : Sink) (env env' : List ℕ) (buf buf' : List ℤ) (state' : Walk) (text' : List ℕ) (m' : State) : Type 0 where
  pub held : Held m' buf' state'.machine
  pub sunk : Sunk (feed (length m.store) (pack_code b t (length m.store)) k) text' state'.sink
  pub kept : keeps m'.store buf buf'
  pub kinds : Kinds m'.store c d (pack_tree t (length m.store))
  pub words : drop p.low env' ≡ drop p.low (written p.to (tree_words (map_tree (place m'.store) (pack_tree t (length m.store)))) env)

pub record Ends (p : Packing) {d : ℕ} (t : Tree ℕ d) (b : ℕ) (c : Base) (m : State) (k : Sink) (n : ℕ) (env env' : List ℕ) (buf buf' : List ℤ) (state' : Walk) (text' : List ℕ) (r : Returned Unit Refusal) : Type 0 where
  pub says : r ≡ pack_answer (walked (length buf) n (pack_code b t (length m.store)) m)
  pub leaves : (m' : State) → walked (length buf) n (pack_code b t (length m.store)) m ≡ went m' → Leaves p t b c m k env env' buf buf' state' text' m'

-- ---- one level of it

-- the packing of the items, by the bools that were spread over them
abbrev pub deeper : Packing → Packing
deeper p = record { depth = p.depth - 1; from = p.from; to = p.to; bools = p.low - 3; low = p.low - 3 }

-- the opening of the items' WithCtrl, whose code's ids start at s
abbrev pub opens : {d : ℕ} → (b : ℕ) → Tree ℕ d → (s : ℕ) → Sink → Sink
opens b t s = opened (ascending (among (order (pack_tree t s)) (dv s (pack_code b t s)))) (s - 1) (ascending (fv s (pack_code b t s)))

-- Before the items: the rest of the run is theirs, under so many units, from the machine m'; what is told of the rest is their WithCtrl.
pub record Level (p : Packing) {d : ℕ} (t : Tree ℕ d) (f b : ℕ) (c : Base) (m : State) (k : Sink) (n units : ℕ) (env env' : List ℕ) (buf buf' : List ℤ) (state' : Walk) (text' : List ℕ) (m' : State) (k' : Sink) : Type 0 where
  pub streams : Store
  pub store : m'.store ≡ m.store ++ streams
  pub number : length m'.store ≡ length m.store + 3
  pub items : Packs (deeper p) t (length m.store + 1) c m' k' env' buf' state' text'
  pub whole : walked (length buf) n (pack_code b (node t f) (length m.store)) m
      ≡ walked (length buf) units (pack_code (length m.store + 1) t (length m'.store)) m'
  pub fed : feed (length m.store) (pack_code b (node t f) (length m.store)) k
      ≡ closed (feed (length m'.store) (pack_code (length m.store + 1) t (length m'.store)) (opens (length m.store + 1) t (length m'.store) k'))
  pub kept : keeps m'.store buf buf'
  pub flags : Stream
  pub flags-there : m'.store ! length m.store ≡ some flags
  pub flags-kind : kind_of flags ≡ Flags
  pub long : length env' ≡ length env
  pub words : drop p.low env' ≡ drop p.low (written (p.to + tree_size d) (place_words (place m'.store (length m.store))) env)

pub record Levels (p : Packing) {d : ℕ} (t : Tree ℕ d) (f b : ℕ) (c : Base) (m : State) (k : Sink) (n : ℕ) (env env' : List ℕ) (buf buf' : List ℤ) (state' : Walk) (text' : List ℕ) (r : Returned ℕ Refusal) : Type 0 where
  pub goes_in : (units : ℕ) → r ≡ Ok units → (m' : State) × (k' : Sink) × Level p t f b c m k n units env env' buf buf' state' text' m' k'
  pub stops : (q : Refusal) → r ≡ Err q → Err q ≡ pack_answer (walked (length buf) n (pack_code b (node t f) (length m.store)) m)

-- ---- their survey

-- The opening of the WithCtrl over a packing was told: the machine is as it was, and so is every word from `low` on but those at `to`.
pub record Opened (p : Packing) {d : ℕ} (t : Tree ℕ d) (b : ℕ) (m : State) (k : Sink) (env env' : List ℕ) (buf buf' : List ℤ) (state' : Walk) (text' : List ℕ) : Type 0 where
  pub held : Held m buf' state'.machine
  pub sunk : Sunk (opens b t (length m.store) k) text' state'.sink
  pub kept : keeps m.store buf buf'
  pub scratch : List ℕ
  pub scratch-long : length scratch ≡ tree_size d
  pub words : drop p.low env' ≡ drop p.low (written p.to scratch env)
