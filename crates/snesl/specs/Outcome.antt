-- The whole job (01): what a run of the job's bytes gives where so many stream elements and so many answer bytes are lent. The order of the refusals is 01's.
use Rattle.std.specs.Prelude.{ℕ, true, false, List, [], ◌∷◌, ◌++◌, leb, ℤ, pos, length, drop, replicate}
use Rattle.std.proofs.Math.Option.{Option, some, none}
use Rattle.snesl.specs.declared.refusal.Refusal.{Refusal}
use Rattle.snesl.specs.declared.refusal.Refusal.TheVariants.{TooLong, NoRecord, OverLimit, TooMany, Unbound, WrongType, NoValueText, NoValue, NoRoom, NoAnswerRoom, NoRepresentation}
use Rattle.snesl.specs.Limits.{used_of}
use Rattle.snesl.specs.Values.{ValueType, Val}
use Rattle.snesl.specs.Terms.{Term, All, ∅}
use Rattle.snesl.specs.Streams.{Stream, elements, Store, ◌!◌, contents, room}
use Rattle.snesl.specs.Trees.{IdTree, map_tree}
use Rattle.snesl.specs.Representation.{values}
use Rattle.snesl.specs.Text.{show}
use Rattle.snesl.specs.Machine.{State, Stop, unfitting, below_zero, out_of_range, full, Result, went, stopped, run, holding}
use Rattle.snesl.specs.Translation.{code, tree}
use Rattle.snesl.specs.Records.{Input, Span, JobRead, refused, job, read_job}
use Rattle.snesl.specs.Checking.{Typed, typed, context, input_types, turned, check_formula}
use Rattle.snesl.specs.Inputs.{Values, wrong, right, input_trees, input_start, input_values, input_streams, input_over}

-- a value with its text, what it cost and what the stream buffer holds then; or the one refusal
pub data Outcome : Type 0 where
  refusal : Refusal → Outcome
  value : (text : List ℕ) (work steps room : ℕ) (held : List ℤ) → Outcome

-- why a run stopped, as a refusal at the id to be defined. Compiled code never meets streams that don't fit; they have no value either.
abbrev pub refusal_of : Stop → ℕ → Refusal
refusal_of (unfitting k) s = NoValue s
refusal_of (below_zero k) s = NoValue s
refusal_of (out_of_range k) s = NoValue s
refusal_of full s = NoRoom s

-- the elements of a stream, none where there is no stream
abbrev pub elements_of : Option Stream → List ℤ
elements_of none = []
elements_of (some a) = elements a

-- the text of the value that the streams of a tree represent
abbrev pub text_of_first : (τ : ValueType) → List (Val τ) → List ℕ
text_of_first τ [] = []
text_of_first τ (v ∷ vs) = show τ v

abbrev pub answer_text : (τ : ValueType) → IdTree τ → Store → List ℕ
answer_text τ t σ = text_of_first τ (values τ (map_tree (λ s. elements_of (σ ! s)) t))

-- 10, or the value
abbrev pub answered : (answer_lent : ℕ) → List ℕ → State → Outcome
answered answer_lent text m =
    elim (leb (length text) answer_lent) [
      | true ↦ value text m.work m.steps (room m.store) (contents m.store)
      | false ↦ refusal (NoAnswerRoom (length text))
    ]

abbrev pub finished : (τ : ValueType) → (answer_lent : ℕ) → IdTree τ → Result → Outcome
finished τ answer_lent t (stopped why s) = refusal (refusal_of why s)
finished τ answer_lent t (went m) = answered answer_lent (answer_text τ t m.store) m

-- the machine at the start: the inputs' streams, nothing spent
abbrev pub loaded : {τs : List ValueType} → All Val τs → State
loaded vs = record { store = input_streams vs; work = 0; steps = 0 }

-- 9 for inputs, then the instructions in order, under a control stream of one unit
abbrev pub executed : {τ : ValueType} → (cap answer_lent : ℕ) → (is : List Input) → Term (context is) τ → All Val (input_types is) → Option ℕ → Outcome
executed cap answer_lent is e vs (some s) = refusal (NoRoom s)
executed {τ} cap answer_lent is e vs none =
    let δ = turned ∅ (input_trees 0 (input_types is)) in
    finished τ answer_lent (tree e δ (input_start (input_types is))) (run (holding cap) (code e δ (input_start (input_types is))) 1 (loaded vs))

-- 7 over all inputs
abbrev pub valued : {τ : ValueType} → (cap answer_lent : ℕ) → (is : List Input) → Term (context is) τ → Values (input_types is) → Outcome
valued cap answer_lent is e (wrong p) = refusal (NoValueText p)
valued cap answer_lent is e (right vs) = executed cap answer_lent is e vs (input_over cap 0 0 vs)

-- 5 and 6
abbrev pub outcome_typed : (t : List ℕ) (cap answer_lent : ℕ) → (is : List Input) → List Span → Typed (context is) → Outcome
outcome_typed t cap answer_lent is ss (Typed.refused r) = refusal r
outcome_typed t cap answer_lent is ss (typed τ e) = valued cap answer_lent is e (input_values t is ss)

-- 1 to 4
abbrev pub outcome_read : (t : List ℕ) (cap answer_lent : ℕ) → JobRead → Outcome
outcome_read t cap answer_lent (refused r) = refusal r
outcome_read t cap answer_lent (job is k e next ss) = outcome_typed t cap answer_lent is ss (check_formula is e)

abbrev pub outcome : (job : List ℕ) (lent answer_lent : ℕ) → Outcome
outcome t lent answer_lent = outcome_read t (used_of lent) answer_lent (read_job t)

-- the used part all zero
abbrev pub zeroed : List ℤ → List ℤ
zeroed old = replicate (used_of (length old)) (pos 0) ++ drop (used_of (length old)) old

-- the stream buffer after a run: as it was after 1 to 7, its used part all zero after 8, 9 and 10
abbrev pub streams_refused : List ℤ → Refusal → List ℤ
streams_refused old TooLong = old
streams_refused old (NoRecord p) = old
streams_refused old (OverLimit p) = old
streams_refused old (TooMany p) = old
streams_refused old (Unbound p) = old
streams_refused old (WrongType p) = old
streams_refused old (NoValueText p) = old
streams_refused old (NoValue p) = zeroed old
streams_refused old (NoRoom p) = zeroed old
streams_refused old (NoAnswerRoom p) = zeroed old
streams_refused old (NoRepresentation p) = old

abbrev pub streams_after : List ℤ → Outcome → List ℤ
streams_after old (refusal r) = streams_refused old r
streams_after old (value text work steps room held) = held ++ drop (length held) old

-- the answer buffer after a run
abbrev pub answer_after : List ℕ → Outcome → List ℕ
answer_after old (refusal r) = old
answer_after old (value text work steps room held) = text ++ drop (length text) old
