-- A machine as the run keeps it: the streams one after another at the front of the stream buffer, and its counters beside it. No stream's elements are
-- found by its id: an operand is given by where its place stands on the stack of words.
use Rattle.std.specs.Prelude.{ℕ, ◌+◌, ◌*◌, ◌≤◌, ◌<◌, ◌^◌, List, [], ◌∷◌, ◌++◌, map, ◌≡◌, ℤ, length, get_or, take, drop, Ok, Err}
use Rattle.std.specs.Prelude.{Result as Returned}
use Rattle.std.proofs.Math.Option.{Option, some, none}
use Rattle.snesl.specs.declared.code.Kind.{Kind}
use Rattle.snesl.specs.declared.code.Kind.TheVariants.{Ints, Bools, Flags, Units}
use Rattle.snesl.specs.declared.code.Base.{Base}
use Rattle.snesl.specs.declared.code.Transducer.{Transducer}
use Rattle.snesl.specs.declared.refusal.Refusal.{Refusal}
use Rattle.snesl.specs.declared.refusal.Refusal.TheVariants.{NoValue, NoRoom}
use Rattle.snesl.specs.Streams.{Stream, ints, bools, flags, kind_of, len, elements, Store, ◌!◌, contents, room}
use Rattle.laws.specs.Parts.{part}
use Rattle.environment.specs.declared.machine.Machine.{Machine}
use Rattle.environment.specs.Words.{Place, place_words}
use Rattle.snesl.specs.Transducers.{Answer, made, operands, signature}
use Rattle.streams.specs.Answers.{answered, widest_buffer}
use Rattle.streams.specs.declared.output.Failure.{Failure}
use Rattle.streams.specs.declared.output.Failure.TheVariants as failure
use Rattle.snesl.specs.Machine.{State, Stop, Result, went, stopped, sum_of}
use Rattle.snesl.specs.Outcome.{refusal_of}
use Rattle.steps.specs.declared.Operands.{Operands}
use Rattle.steps.specs.declared.Spans.{Spans}

-- the most streams that a run defines: with the most elements that a stream buffer has, numbers that follow from these don't wrap
abbrev pub most_streams : ℕ
most_streams = 2097152

-- where stream s starts, and how long it is
abbrev pub start_of : Store → ℕ → ℕ
start_of σ s = room (take s σ)

abbrev pub length_in : Option Stream → ℕ
length_in none = 0
length_in (some a) = len a

abbrev pub length_of : Store → ℕ → ℕ
length_of σ s = length_in (σ ! s)

-- a stream as the run's environment has it: all that its id and the store say
abbrev pub place : Store → ℕ → Place
place σ s = record { id = s; first = start_of σ s; second = length_of σ s }

-- what is counted of m
abbrev pub counters : State → Machine
counters m = record { streams = length m.store; room = room m.store; work = m.work; steps = m.steps }

-- The machine m stands in this buffer and in these counters. An instruction takes one step and at most two operands and one output of work,
-- each of which stood in the buffer.
pub record Held (m : State) (buf : List ℤ) (counts : Machine) : Type 0 where
  pub counts-are : counts ≡ counters m
  pub contents-are : take (room m.store) buf ≡ contents m.store
  pub fits : room m.store ≤ length buf
  pub short : length buf ≤ widest_buffer
  pub few : length m.store ≤ most_streams
  pub slow : m.steps ≤ length m.store
  pub cheap : m.work ≤ 196608 * length m.store

-- an operand: stream s is of this kind and stands there
pub record IntsAt (σ : Store) (s at n : ℕ) : Type 0 where
  pub content : List ℤ
  pub stream : σ ! s ≡ some (ints content)
  pub start : at ≡ start_of σ s
  pub long : n ≡ length_of σ s

pub record FlagsAt (σ : Store) (s at n : ℕ) : Type 0 where
  pub content : List mathlib.Core.Bool.Bool
  pub stream : σ ! s ≡ some (flags content)
  pub start : at ≡ start_of σ s
  pub long : n ≡ length_of σ s

pub record BoolsAt (σ : Store) (s at n : ℕ) : Type 0 where
  pub content : List mathlib.Core.Bool.Bool
  pub stream : σ ! s ≡ some (bools content)
  pub start : at ≡ start_of σ s
  pub long : n ≡ length_of σ s

-- no transducer takes units
abbrev pub OperandAt : Store → Kind → (s at n : ℕ) → Type 0
OperandAt σ Ints s at n = IntsAt σ s at n
OperandAt σ Bools s at n = BoolsAt σ s at n
OperandAt σ Flags s at n = FlagsAt σ s at n
OperandAt σ Units s at n = ⊥

-- streams ss of these kinds stand where so many pairs of a start and a length say
abbrev pub OperandsAt : Store → List Kind → (ss : List ℕ) → List (ℕ × ℕ) → Type 0
OperandsAt σ [] [] ps = Unit
OperandsAt σ [] (s ∷ ss) ps = ⊥
OperandsAt σ (k ∷ ks) [] ps = ⊥
OperandsAt σ (k ∷ ks) (s ∷ ss) [] = ⊥
OperandsAt σ (k ∷ ks) (s ∷ ss) (p ∷ ps) = OperandAt σ k s p.0 p.1 × OperandsAt σ ks ss ps

abbrev pub span_list : Spans → List (ℕ × ℕ)
span_list w = (w.first.start, w.first.length) ∷ (w.second.start, w.second.length) ∷ []

-- both spans lie before the first free element
abbrev pub Inside : Store → Spans → Type 0
Inside σ w = (w.first.start + w.first.length ≤ room σ) × (w.second.start + w.second.length ≤ room σ)

-- the operands of t, which carries on data of this base if it carries on any, stand in these spans, and no others are counted
pub record Spanned (σ : Store) (t : Transducer) (w : Spans) : Type 0 where
  pub inside : Inside σ w
  pub base : Base
  pub stand : OperandsAt σ (signature base t).inputs (operands t) (span_list w)
  pub total : w.first.length + w.second.length ≡ sum_of (map (length_of σ) (operands t))

-- Stream s is of this kind, and its place stands at word p.
pub record PlacedAt (σ : Store) (env : List ℕ) (k : Kind) (s p : ℕ) : Type 0 where
  pub stream : Stream
  pub there : σ ! s ≡ some stream
  pub kind : kind_of stream ≡ k
  pub words : part p 3 env ≡ place_words (place σ s)

-- streams ss of these kinds have their places at the first of the words ps
abbrev pub Placed : Store → (env : List ℕ) → List Kind → (ss ps : List ℕ) → Type 0
Placed σ env [] [] ps = Unit
Placed σ env [] (s ∷ ss) ps = ⊥
Placed σ env (k ∷ ks) [] ps = ⊥
Placed σ env (k ∷ ks) (s ∷ ss) [] = ⊥
Placed σ env (k ∷ ks) (s ∷ ss) (p ∷ ps) = PlacedAt σ env k s p × Placed σ env ks ss ps

abbrev pub positions : Operands → List ℕ
positions at = at.first ∷ at.second ∷ []

-- what is kept of a buffer behind the streams of σ
abbrev pub keeps : Store → List ℤ → List ℤ → Type 0
keeps σ old new = drop (room σ) new ≡ drop (room σ) old

-- what the run must be ready for when it executes t; the base is that of the data that t carries on, if it carries on any
pub record Executable (t : Transducer) (at : Operands) (env : List ℕ) (buf : List ℤ) (counts : Machine) (m : State) : Type 0 where
  pub held : Held m buf counts
  pub base : Base
  pub placed : Placed m.store env (signature base t).inputs (operands t) (positions at)
  pub more : length m.store < most_streams

-- the same where the operands' spans were read
pub record Performable (t : Transducer) (w : Spans) (buf : List ℤ) (counts : Machine) (m : State) : Type 0 where
  pub held : Held m buf counts
  pub spanned : Spanned m.store t w
  pub more : length m.store < most_streams

-- What an instruction that ends like `res` answers and leaves: how long the stream is that it made, with the machine as it is then, and the elements behind
-- the streams as they were; or the refusal.
pub record Performed (res : Result) (m : State) (old new : List ℤ) (counts : Machine) (r : Returned ℕ Refusal) : Type 0 where
  pub went_on : (m' : State) (a : Stream) → res ≡ went m' → m'.store ≡ m.store ++ a ∷ []
      → (r ≡ Ok (len a)) × Held m' new counts × keeps m'.store old new
  pub gave-up : (why : Stop) (s : ℕ) → res ≡ stopped why s → r ≡ Err (refusal_of why s)

-- a run that stops with this refusal
pub record Stopping (res : Result) (q : Refusal) : Type 0 where
  pub why : Stop
  pub where-at : ℕ
  pub stops : res ≡ stopped why where-at
  pub refuses : q ≡ refusal_of why where-at

-- how many elements of the buffer a stream of this kind and of so many elements takes
abbrev pub taking : Kind → ℕ → ℕ
taking Ints n = n
taking Bools n = n
taking Flags n = n
taking Units n = 0

-- what must be held when t is executed: the streams, and the operands among them
pub record Applies (t : Transducer) (w : Spans) (held : List ℤ) (σ : Store) : Type 0 where
  pub base : Base
  pub stand : OperandsAt σ (signature base t).inputs (operands t) (span_list w)
  pub inside : Inside σ w
  pub contents-are : held ≡ contents σ
  pub short : length held ≤ widest_buffer

-- What a transducer whose answer is a says where it may write to `old`, and where it made its output and there was room, what it leaves there.
pub record Transduced (old : List ℤ) (a : Answer) (r : Returned ℕ Failure) (new : List ℤ) : Type 0 where
  pub says : r ≡ answered (length old) a
  pub wrote : (s : Stream) → a ≡ made s → length (elements s) ≤ length old → new ≡ elements s ++ drop (length (elements s)) old

-- why a run stops where the stream with this id isn't made
abbrev pub refusing : Failure → (id : ℕ) → Refusal
refusing (failure.Unfit k) id = NoValue id
refusing (failure.Negative k) id = NoValue id
refusing (failure.Outside k) id = NoValue id
refusing failure.NoRoom id = NoRoom id

-- counters that can grow by so much
pub record Grows (counts : Machine) (room work steps : ℕ) : Type 0 where
  pub ids : counts.streams + 1 < 2 ^ 64
  pub rooms : counts.room + room < 2 ^ 64
  pub works : counts.work + work < 2 ^ 64
  pub steps-more : counts.steps + steps < 2 ^ 64

abbrev pub grown : Machine → (room work steps : ℕ) → Machine
grown c room work steps = record { streams = c.streams + 1; room = c.room + room; work = c.work + work; steps = c.steps + steps }
