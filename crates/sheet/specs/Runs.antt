-- What `run` answers and leaves of what it was lent, as snesl's `outcome` has it, and what its parts do of that.
use Rattle.std.specs.Prelude.{ℕ, ◌+◌, ◌*◌, ◌≤◌, List, [], ◌∷◌, ◌++◌, ◌≡◌, ℤ, pos, length, drop, replicate, Result, Ok, Err}
use Rattle.snesl.specs.declared.refusal.Refusal.{Refusal}
use Rattle.snesl.specs.Limits.{most_depth}
use Rattle.snesl.specs.Values.{ValueType, base_of, depth_of, Val}
use Rattle.snesl.specs.Trees.{IdTree, map_tree}
use Rattle.snesl.specs.Machine.{State}
use Rattle.snesl.specs.Representation.{Holds}
use Rattle.snesl.specs.Inputs.{input_over}
use Rattle.snesl.specs.Demands.{Told, shows, declines, Accepted}
use Rattle.snesl.specs.Outcome.{Outcome, refusal, value, executed, outcome, streams_after, answer_after}
use Rattle.environment.specs.declared.machine.Machine.{Machine}
use Rattle.environment.specs.Words.{tree_words}
use Rattle.environment.specs.Needs.{words}
use Rattle.steps.specs.Holding.{Held, place}
use Rattle.inputs.specs.Loading.{binding_words}
use Rattle.sheet.specs.declared.admission.Task.{Task}
use Rattle.sheet.specs.declared.Counts.{Counts}

-- an outcome as it is answered
abbrev pub ran_of : Outcome → Result Counts Refusal
ran_of (refusal r) = Err r
ran_of (value text work steps room held) = Ok (record { text = length text; work = work; steps = steps; room = room })

-- an answer as the demands speak of it
abbrev pub told : Result Counts Refusal → Told
told (Ok c) = shows c.text c.work c.steps c.room
told (Err r) = declines r

-- the answer, and what is left of the two buffers
pub record Exact (t : List ℕ) (streams streams' : List ℤ) (answer answer' : List ℕ) (r : Result Counts Refusal) : Type 0 where
  pub says : r ≡ ran_of (outcome t (length streams) (length answer))
  pub streams-are : streams' ≡ streams_after streams (outcome t (length streams) (length answer))
  pub answer-is : answer' ≡ answer_after answer (outcome t (length streams) (length answer))

-- ---- a job that meets none of 1 to 7

-- with its task, where so many words are enough for its inputs' bindings and the walk of its expression
pub record Admitted (t : List ℕ) (a : Task) (enough : ℕ) : Type 0 where
  pub accepted : Accepted t
  pub formula : a.formula ≡ record { inputs = length accepted.inputs; expression = accepted.expression; end = accepted.next }
  pub base : a.base ≡ base_of accepted.type
  pub room : words accepted.term + binding_words * length accepted.inputs ≤ enough

-- the words that a task needs: its expression's, and a binding for each input
abbrev pub need_of : Task → ℕ
need_of a = a.words + binding_words * a.formula.inputs

-- its outcome where so many elements are used
abbrev pub execution : {t : List ℕ} {a : Task} {enough : ℕ} → Admitted t a enough → (cap answer_lent : ℕ) → Outcome
execution g cap answer_lent =
    executed cap answer_lent g.accepted.inputs g.accepted.term g.accepted.given (input_over cap 0 0 g.accepted.given)

-- ---- a run that went through

-- the result's tree has its words from `from` on, and holds a value of its type in the machine's store
pub record Finished (τ : ValueType) (from : ℕ) (env : List ℕ) (buf : List ℤ) (counts : Machine) : Type 0 where
  pub machine : State
  pub tree : IdTree τ
  pub result : Val τ
  pub rest : List ℕ
  pub held : Held machine buf counts
  pub holds : Holds machine.store τ tree (result ∷ [])
  pub words : drop from env ≡ tree_words (map_tree (place machine.store) tree) ++ rest
  pub shallow : depth_of τ ≤ most_depth

-- ---- what the parts answer and leave

pub record Shows (o : Outcome) (answer answer' : List ℕ) (r : Result Counts Refusal) : Type 0 where
  pub says : r ≡ ran_of o
  pub answer-is : answer' ≡ answer_after answer o

-- the streams, where there is a value
abbrev pub LeftBy : Outcome → (buf buf' : List ℤ) → Type 0
LeftBy (refusal r) buf buf' = Unit {0}
LeftBy (value text work steps room held) buf buf' = buf' ≡ held ++ drop (length held) buf

pub record Performs (o : Outcome) (buf buf' : List ℤ) (answer answer' : List ℕ) (r : Result Counts Refusal) : Type 0 where
  pub shows : Shows o answer answer' r
  pub left : LeftBy o buf buf'

-- from where on a buffer of so many elements is to be cleared
abbrev pub spoiled_from : Result Counts Refusal → (lent : ℕ) → ℕ
spoiled_from (Ok c) lent = lent
spoiled_from (Err r) lent = 0

-- the used part of a stream buffer: all zero after a refusal
abbrev pub used_after : List ℤ → Outcome → List ℤ
used_after buf (refusal r) = replicate (length buf) (pos 0)
used_after buf (value text work steps room held) = held ++ drop (length held) buf

pub record Executes (o : Outcome) (buf buf' : List ℤ) (answer answer' : List ℕ) (r : Result Counts Refusal) : Type 0 where
  pub shows : Shows o answer answer' r
  pub used : buf' ≡ used_after buf o
