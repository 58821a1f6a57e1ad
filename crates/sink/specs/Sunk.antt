-- A sink as a walk keeps it: its text in the slice lent for the listing, and the rest beside the machine's counters.
use Rattle.std.specs.Prelude.{ℕ, ◌+◌, ◌≤◌, List, [], ◌≡◌, length}
use Rattle.laws.specs.Parts.{part}
use Rattle.snesl.specs.Trees.{Tree, order, map_tree}
use Rattle.snesl.specs.Programs.{ascending}
use Rattle.environment.specs.Words.{tree_words, tree_size}
use Rattle.environment.specs.declared.machine.Machine.{Machine}
use Rattle.sink.specs.declared.state.Mode.{Mode}
use Rattle.sink.specs.declared.state.Mode.TheVariants.{Listing, Surveying}
use Rattle.sink.specs.declared.state.Sink as state
use Rattle.sink.specs.declared.state.Walk.{Walk}
use Rattle.sink.specs.Sinks.{Sink, far, opened, resumed}
use Rattle.sink.specs.Kept.{Marks}
use Rattle.sink.specs.Between.{between}
use Rattle.sink.specs.Trees.{Placing}

-- a sink that lists keeps nothing of a survey
pub record Plain (k : Sink) : Type 0 where
  pub own : k.own ≡ 0
  pub taken : k.taken ≡ []

pub record Sunk (k : Sink) (text : List ℕ) (s : state.Sink) : Type 0 where
  pub mode-is : s.mode ≡ k.mode
  pub at-is : s.at ≡ k.at
  pub own-is : s.own ≡ k.own
  pub marks : Marks k.taken k.most s.kept
  pub near : k.at ≤ far + far
  pub text-is : text ≡ k.text
  pub plain : k.mode ≡ Listing → Plain k

-- a sink that nothing was told, at the start of this text; a survey keeps at most so many ids
abbrev pub starting : ℕ → Mode → List ℕ → Sink
starting most mode text = record { mode = mode; text = text; at = 0; own = 0; taken = []; most = most }

-- what telling a sink leaves: the sink after, and the machine as it was
pub record Tells (after : Sink) (text : List ℕ) (w old : Walk) : Type 0 where
  pub sunk : Sunk after text w.sink
  pub machine : w.machine ≡ old.machine

-- At q stand the places of a tree, which a body has left that was surveyed: its ids in tree order, each with two words that say where its stream is.
pub record Opening (env : List ℕ) (q depth : ℕ) (k : Sink) (text : List ℕ) (s : state.Sink) : Type 0 where
  pub sunk : Sunk k text s
  pub surveys : k.mode ≡ Surveying
  pub tree : Tree ℕ depth
  pub placing : Placing
  pub words : part q (tree_size depth) env ≡ tree_words (map_tree placing.place tree)
  pub within : q + tree_size depth ≤ length env
  pub shallow : depth ≤ 65536

-- the line that opens a body's WithCtrl is written, and its end is known
pub record Lines (after : Sink) (text : List ℕ) (end : ℕ) : Type 0 where
  pub written : text ≡ after.text
  pub end_is : end ≡ after.at
  pub near : end ≤ far + far

-- After the line that opens the body's WithCtrl on c: it puts out the tree's ids that the body defined, from its first to the machine's next, and takes in what the
-- survey has kept. The machine's next id is the body's first again.
abbrev pub opening : (k : Sink) {depth : ℕ} → Tree ℕ depth → (c next : ℕ) → Sink
opening k tree c next = opened (ascending (between k.own next (order tree))) c k.taken (resumed k)

-- the machine's counters with this as the next id
abbrev pub back_to : ℕ → Machine → Machine
back_to s m = record { streams = s; room = m.room; work = m.work; steps = m.steps }

pub record Opens (k : Sink) {depth : ℕ} (tree : Tree ℕ depth) (c : ℕ) (text : List ℕ) (w old : Walk) : Type 0 where
  pub sunk : Sunk (opening k tree c old.machine.streams) text w.sink
  pub machine : w.machine ≡ back_to k.own old.machine

-- a sink that lists again, with the machine's next id where the survey began
pub record Resumes (k : Sink) (end : ℕ) (w old : Walk) : Type 0 where
  pub mode-is : w.sink.mode ≡ Listing
  pub at-is : w.sink.at ≡ end
  pub own-is : w.sink.own ≡ 0
  pub marks : Marks [] k.most w.sink.kept
  pub machine : w.machine ≡ back_to k.own old.machine
