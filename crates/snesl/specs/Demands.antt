-- THE PROMISE: what a call that runs a job answers and leaves, in the terms of the source rules. It is said of the call itself: t is the job's bytes,
-- `streams` and `answer` are the two buffers as they were lent, `streams'` and `answer'` as the call leaves them, and the answer is a `Told`.
-- `Demands`, at the end, is the whole of it; it leaves one answer and one content of each buffer (proofs/Statements/Jobs).
use Rattle.std.specs.Prelude.{ℕ, ◌*◌, ◌≤◌, ◌<◌, List, [], ◌∷◌, ◌++◌, ◌≡◌, ℤ, length, take, drop}
use Rattle.std.proofs.Math.Option.{some, none}
use Rattle.snesl.specs.declared.refusal.Refusal.{Refusal}
use Rattle.snesl.specs.declared.refusal.Refusal.TheVariants.{NoValueText, NoValue, NoRoom, NoAnswerRoom}
use Rattle.snesl.specs.Limits.{used_of}
use Rattle.snesl.specs.Refusals.{number}
use Rattle.snesl.specs.Values.{ValueType, Val}
use Rattle.snesl.specs.Terms.{Term, All, ∅}
use Rattle.snesl.specs.Evaluation.{eval}
use Rattle.snesl.specs.Charges.{charge, plain_charge, reached, count_true}
use Rattle.snesl.specs.Streams.{Store, ◌!◌, contents, room}
use Rattle.snesl.specs.Programs.{Program}
use Rattle.snesl.specs.Machine.{State, Stop, full, Result, went, stopped, run, holding}
use Rattle.snesl.specs.Trees.{IdTree, map_tree}
use Rattle.snesl.specs.Translation.{code, tree}
use Rattle.snesl.specs.Representation.{represent, laid}
use Rattle.snesl.specs.Agreement.{ByRule}
use Rattle.snesl.specs.Text.{show}
use Rattle.snesl.specs.Records
use Rattle.snesl.specs.Records.{Input, Span, Raw, job, read_job}
use Rattle.snesl.specs.Checking
use Rattle.snesl.specs.Checking.{typed, context, input_types, turned, check_formula}
use Rattle.snesl.specs.Inputs.{wrong, right, input_trees, input_start, input_values, input_over}
use Rattle.snesl.specs.Outcome.{Outcome, refusal, value, elements_of, loaded, zeroed}

-- what a call answers: the bytes of the value's text, its work, steps and room; or the one refusal
pub data Told : Type 0 where
  shows : (bytes work steps taken : ℕ) → Told
  declines : Refusal → Told

-- an outcome as it is told
abbrev pub told_of : Outcome → Told
told_of (refusal r) = declines r
told_of (value text work steps room held) = shows (length text) work steps room

-- ---- the job

-- a job that meets none of 1 to 7: its expression, typed, and its inputs' values
pub record Accepted (t : List ℕ) : Type 0 where
  pub inputs : List Input
  pub expression : ℕ
  pub raw : Raw
  pub next : ℕ
  pub spans : List Span
  pub type : ValueType
  pub term : Term (context inputs) type
  pub given : All Val (input_types inputs)
  pub read : read_job t ≡ job inputs expression raw next spans
  pub checked : check_formula inputs raw ≡ typed type term
  pub valued : input_values t inputs spans ≡ right given

-- ρ: the inputs' values, the newest input first
abbrev pub environment : {t : List ℕ} → (a : Accepted t) → All Val (context a.inputs)
environment a = turned ∅ a.given

-- its code, behind its inputs
abbrev pub program : {t : List ℕ} → Accepted t → Program
program a = code a.term (turned ∅ (input_trees 0 (input_types a.inputs))) (input_start (input_types a.inputs))

-- the ids of the result
abbrev pub result_tree : {t : List ℕ} → (a : Accepted t) → IdTree a.type
result_tree a = tree a.term (turned ∅ (input_trees 0 (input_types a.inputs))) (input_start (input_types a.inputs))

-- Its inputs fit so many elements, and its code, run behind them under one unit in a buffer of so many, comes to this.
pub record Comes {t : List ℕ} (a : Accepted t) (cap : ℕ) (r : Result) : Type 0 where
  pub loads : input_over cap 0 0 a.given ≡ none
  pub runs : run (holding cap) (program a) 1 (loaded a.given) ≡ r

-- ---- demand 1: a value, or one numbered refusal with its place

-- 1 to 7: reading refuses the job (1 to 4), checking refuses its formula (5, 6), or an input's text is none (7)
pub data TurnedAway (t : List ℕ) : Refusal → Type 0 where
  unread : {r : Refusal} → read_job t ≡ Records.JobRead.refused r → TurnedAway t r
  untyped : {is : List Input} {k : ℕ} {e : Raw} {next : ℕ} {ss : List Span} {r : Refusal}
      → read_job t ≡ job is k e next ss
      → check_formula is e ≡ Checking.Typed.refused r
      → TurnedAway t r
  unvalued : {is : List Input} {k : ℕ} {e : Raw} {next : ℕ} {ss : List Span} {τ : ValueType} {f : Term (context is) τ} {p : ℕ}
      → read_job t ≡ job is k e next ss
      → check_formula is e ≡ typed τ f
      → input_values t is ss ≡ wrong p
      → TurnedAway t (NoValueText p)

-- 8: the rules give no value, and the run meets that where s was to be defined. 9: an input or a stream passes the room. 10: the text is too long.
pub data Stops {t : List ℕ} (a : Accepted t) (cap answer_lent : ℕ) : Refusal → Type 0 where
  valueless : {s : ℕ} {why : Stop} → eval a.term (environment a) ≡ none → ByRule why → Comes a cap (stopped why s)
      → Stops a cap answer_lent (NoValue s)
  crowded : {s : ℕ} → input_over cap 0 0 a.given ≡ some s → Stops a cap answer_lent (NoRoom s)
  filled : {s : ℕ} → Comes a cap (stopped full s) → Stops a cap answer_lent (NoRoom s)
  unshown : {v : Val a.type} {m : State} → eval a.term (environment a) ≡ some v → Comes a cap (went m)
      → answer_lent < length (show a.type v)
      → Stops a cap answer_lent (NoAnswerRoom (length (show a.type v)))

-- ---- demand 2: right

-- what stands in a buffer where the store's stream s has its place: behind the elements of every stream before it
abbrev pub standing : Store → List ℤ → ℕ → List ℤ
standing σ buf s = take (length (elements_of (σ ! s))) (drop (room (take s σ)) buf)

-- The rules give this value; its text is what the answer buffer starts with, and behind it that is as it was; and the result's streams, each read from
-- the buffer at its place, are those that represent the value.
pub record Right {t : List ℕ} (a : Accepted t) (σ : Store) (streams' : List ℤ) (answer answer' : List ℕ) (bytes : ℕ) : Type 0 where
  pub result : Val a.type
  pub evaluated : eval a.term (environment a) ≡ some result
  pub long : bytes ≡ length (show a.type result)
  pub fits : bytes ≤ length answer
  pub shown : answer' ≡ show a.type result ++ drop bytes answer
  pub represented : map_tree (standing σ streams') (result_tree a) ≡ laid (represent a.type (result ∷ []))

-- ---- demand 3: charged

-- Work is the charge over every evaluation, at most seven times the plain charge; steps are the definitions that at least one evaluation reaches.
pub record Charged {t : List ℕ} (a : Accepted t) (work steps : ℕ) : Type 0 where
  pub charged : work ≡ charge a.term (environment a)
  pub bounded : work ≤ 7 * plain_charge a.term (environment a)
  pub stepped : steps ≡ count_true (reached a.term (environment a))

-- Room is the number of elements that all streams take, within the used part; they stand in id order, and behind them the buffer is as it was.
pub record Roomed (σ : Store) (streams streams' : List ℤ) (taken : ℕ) : Type 0 where
  pub counted : taken ≡ room σ
  pub within : taken ≤ used_of (length streams)
  pub stands : streams' ≡ contents σ ++ drop taken streams

-- a value's promise: all of it over the streams that the run of its code makes
pub record Kept {t : List ℕ} (a : Accepted t) (streams streams' : List ℤ) (answer answer' : List ℕ) (bytes work steps taken : ℕ) : Type 0 where
  pub machine : State
  pub comes : Comes a (used_of (length streams)) (went machine)
  pub right : Right a machine.store streams' answer answer' bytes
  pub charged : Charged a work steps
  pub roomed : Roomed machine.store streams streams' taken

-- ---- the promise: refused by 1 to 7 with nothing written, or by 8, 9 or 10 with the used part all zero and the answer buffer as it was, or a value
pub data Demands (t : List ℕ) (streams streams' : List ℤ) (answer answer' : List ℕ) : Told → Type 0 where
  turned-away : {r : Refusal} → TurnedAway t r → number r ≤ 7 → streams' ≡ streams → answer' ≡ answer
      → Demands t streams streams' answer answer' (declines r)
  stops : {r : Refusal} (a : Accepted t) → Stops a (used_of (length streams)) (length answer) r → streams' ≡ zeroed streams → answer' ≡ answer
      → Demands t streams streams' answer answer' (declines r)
  keeps : {bytes work steps taken : ℕ} (a : Accepted t) → Kept a streams streams' answer answer' bytes work steps taken
      → Demands t streams streams' answer answer' (shows bytes work steps taken)
