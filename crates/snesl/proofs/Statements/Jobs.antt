-- What is proved of a whole job: where its inputs stand, what each outcome promises, and which outcome it has.
use Prim.Native.Nat.{ℕ, suc, ◌+◌, ◌≤◌, ◌<◌}
use mathlib.Core.List.{List, [], ◌∷◌}
use mathlib.Core.Logic.{◌⊎◌, ◌↔◌}
use mathlib.Core.Option.{some, none}
use mathlib.Core.Path.{◌≡◌}
use lib.IntN.{ℤ}
use lib.ListN.{length, take}
use Rattle.snesl.specs.declared.refusal.Refusal.TheVariants.{NoValue, NoRoom, NoAnswerRoom}
use Rattle.snesl.specs.Limits.{used_of}
use Rattle.snesl.specs.Values.{ValueType, Val}
use Rattle.snesl.specs.Terms.{Term, All, ∅}
use Rattle.snesl.specs.Evaluation.{eval}
use Rattle.snesl.specs.Charges.{charge, reached, count_true}
use Rattle.snesl.specs.Streams.{Store, room}
use Rattle.snesl.specs.Programs.{WellFormed, Scoped}
use Rattle.snesl.specs.Translation.{code}
use Rattle.snesl.specs.Agreement.{Agrees}
use Rattle.snesl.specs.Ids.{ids_of, Below}
use Rattle.snesl.specs.Bounded.{Passes}
use Rattle.snesl.specs.Text.{show}
use Rattle.snesl.specs.Checking.{turned_onto, turned, input_types}
use Rattle.snesl.specs.Inputs.{input_trees, input_start, input_streams, input_over}
use Rattle.snesl.specs.Outcome.{refusal, value, loaded, outcome, streams_after, answer_after}
use Rattle.snesl.specs.Demands.{Told, declines, told_of, Accepted, environment, Demands}
use Rattle.snesl.proofs.Jobs.InputStreams as InputStreams
use Rattle.snesl.proofs.Jobs.InputRoom as InputRoom
use Rattle.snesl.proofs.Jobs.Demands as Keeping
use Rattle.snesl.proofs.Jobs.OneAnswer as OneAnswer
use Rattle.snesl.proofs.Jobs.Exactly as Exactly

-- 1. The inputs. Their streams are those of the ids below the code's first one, and in them each input's tree holds its value: so correctness holds of a
-- job's code behind its inputs.
pub inputs-take-the-first-ids : {τs : List ValueType} (vs : All Val τs) → length (input_streams vs) ≡ input_start τs
inputs-take-the-first-ids = InputStreams.length-inputs

pub inputs-hold-their-values : {τs : List ValueType} (vs : All Val τs) → Agrees (input_streams vs) (turned ∅ (input_trees 0 τs)) (turned ∅ vs ∷ [])
inputs-hold-their-values = InputStreams.inputs-agree

pub input-ids-lie-below : (τs : List ValueType) → Below (input_start τs) (ids_of (turned ∅ (input_trees 0 τs)))
input-ids-lie-below = InputStreams.inputs-below

-- A job's code is well-formed, and every id that it uses is known where it is used.
pub job-code-is-well-formed : {τ : ValueType} (τs : List ValueType) (e : Term (turned_onto [] τs) τ)
    → WellFormed (input_start τs) (code e (turned ∅ (input_trees 0 τs)) (input_start τs))
job-code-is-well-formed = InputStreams.job-well-formed

pub job-ids-are-known : {τ : ValueType} (τs : List ValueType) (e : Term (turned_onto [] τs) τ)
    → Scoped (ids_of (turned ∅ (input_trees 0 τs))) (input_start τs) (code e (turned ∅ (input_trees 0 τs)) (input_start τs))
job-ids-are-known = InputStreams.job-scoped

-- 2. Their room. No input is over exactly if all fit in the buffer;
pub no-input-is-over-if-all-fit : {τs : List ValueType} (cap : ℕ) (vs : All Val τs) → (input_over cap 0 0 vs ≡ none) ↔ (room (input_streams vs) ≤ cap)
no-input-is-over-if-all-fit = InputRoom.none_over

-- and s is told exactly if it is the first id of an input, number i, with which the room passes the buffer, and with those before it does not.
pub the-first-input-over : {τs : List ValueType} (cap s : ℕ) (vs : All Val τs)
    → (input_over cap 0 0 vs ≡ some s)
    ↔ ((i : ℕ)
    × (i < length τs)
    × (s ≡ input_start (take i τs))
    × (room (take s (input_streams vs)) ≤ cap)
    × (cap < room (take (input_start (take (suc i) τs)) (input_streams vs))))
the-first-input-over = InputRoom.some-over

-- 3. The demands (specs/Demands.antt), for every job and whatever is lent: a call that answers and leaves what the outcome says keeps them;
pub every-outcome-keeps-the-demands : (t : List ℕ) (streams : List ℤ) (answer : List ℕ)
    → Demands t streams (streams_after streams (outcome t (length streams) (length answer))) answer (answer_after answer (outcome t (length streams) (length answer)))
    (told_of (outcome t (length streams) (length answer)))
every-outcome-keeps-the-demands = Keeping.demands

-- and no other call does: by the demands alone there is one answer and one content of each buffer.
pub the-demands-leave-one-answer : {t : List ℕ} {streams streams₁ streams₂ : List ℤ} {answer answer₁ answer₂ : List ℕ} {r₁ r₂ : Told}
    → Demands t streams streams₁ answer answer₁ r₁
    → Demands t streams streams₂ answer answer₂ r₂
    → (r₁ ≡ r₂) × (streams₁ ≡ streams₂) × (answer₁ ≡ answer₂)
the-demands-leave-one-answer = OneAnswer.one_answer_lem

-- Where the rules give no value, the answer is 8, or 9 before it, and never a value.
pub no-value-is-never-shown : {t : List ℕ} {streams streams' : List ℤ} {answer answer' : List ℕ} {r : Told} (a : Accepted t)
    → Demands t streams streams' answer answer' r
    → eval a.term (environment a) ≡ none
    → (s : ℕ) × ((r ≡ declines (NoValue s)) ⊎ (r ≡ declines (NoRoom s)))
no-value-is-never-shown = OneAnswer.no-value-shows

-- 4. A job that meets none of 1 to 7 and no 9 is refused by 8 exactly if the rules give it no value;
module _ {t : List ℕ} (a : Accepted t) (lent answer_lent : ℕ) where
  pub eight-exactly-without-a-value : ((s : ℕ) → outcome t lent answer_lent ≡ refusal (NoRoom s) → ⊥)
      → ((s : ℕ) × (outcome t lent answer_lent ≡ refusal (NoValue s))) ↔ (eval a.term (environment a) ≡ none)
  eight-exactly-without-a-value = Exactly.eight-exactly a lent answer_lent

  -- and where they give one, it is answered with its text and its charges, or refused by 10 with the text's length where that is more than is lent.
  pub a-value-is-answered : {v : Val a.type} → ((s : ℕ) → outcome t lent answer_lent ≡ refusal (NoRoom s) → ⊥)
      → eval a.term (environment a) ≡ some v
      → ((length (show a.type v) ≤ answer_lent)
      × (r : ℕ)
      × (held : List ℤ)
      × (outcome t lent answer_lent
      ≡ value (show a.type v) (charge a.term (environment a)) (count_true (reached a.term (environment a))) r held))
      ⊎ ((answer_lent < length (show a.type v)) × (outcome t lent answer_lent ≡ refusal (NoAnswerRoom (length (show a.type v)))))
  a-value-is-answered = Exactly.value-exactly a lent answer_lent

  -- 5. It is refused by 9 at s exactly if s is told of its inputs; or none is, and its boundless run passes a store whose last stream is s and whose room is
  -- above the used part of the buffer, with the room before within it.
  pub nine-exactly-where-room-passes : (s : ℕ)
      → (outcome t lent answer_lent ≡ refusal (NoRoom s))
      ↔ ((input_over (used_of lent) 0 0 a.given ≡ some s)
      ⊎ ((input_over (used_of lent) 0 0 a.given ≡ none)
      × ((τ : Store)
      × Passes (code a.term (turned ∅ (input_trees 0 (input_types a.inputs))) (input_start (input_types a.inputs))) 1 (loaded a.given) τ
      × (length τ ≡ s + 1)
      × (used_of lent < room τ)
      × (room (take s τ) ≤ used_of lent))))
  nine-exactly-where-room-passes = Exactly.nine-exactly a lent answer_lent

-- A value's room is how much is held, and lies within the used part of the buffer.
pub a-value's-room-fits : (t : List ℕ) (lent answer_lent : ℕ) {text : List ℕ} {work steps r : ℕ} {held : List ℤ}
    → outcome t lent answer_lent ≡ value text work steps r held
    → (r ≤ used_of lent) × (length held ≡ r)
a-value's-room-fits = Exactly.value-fits
