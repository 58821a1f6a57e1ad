-- One instruction made: executed, and told to the sink.
use Rattle.std.specs.Prelude.{ℕ, List, [], ◌∷◌, ◌++◌, ◌≡◌, ℤ, length, Ok, Err, Result as Returned}
use Rattle.snesl.specs.declared.code.Transducer.{Transducer}
use Rattle.snesl.specs.Streams.{Stream, len}
use Rattle.snesl.specs.Machine.{State, Stop, Result, went, stopped}
use Rattle.snesl.specs.declared.refusal.Refusal.{Refusal}
use Rattle.snesl.specs.Outcome.{refusal_of}
use Rattle.sink.specs.declared.state.Walk.{Walk}
use Rattle.sink.specs.Sinks.{Sink, defined}
use Rattle.sink.specs.Sunk.{Sunk}
use Rattle.steps.specs.declared.Operands.{Operands}
use Rattle.steps.specs.Holding.{Held, keeps, Executable}

pub record Makes (t : Transducer) (at : Operands) (env : List ℕ) (buf : List ℤ) (state : Walk) (text : List ℕ) (m : State) (k : Sink) : Type 0 where
  pub executable : Executable t at env buf state.machine m
  pub sunk : Sunk k text state.sink

-- what an instruction that ends like `res` answers and leaves
pub record Instructed (res : Result) (t : Transducer) (m : State) (k : Sink) (old new : List ℤ) (state : Walk) (text : List ℕ) (r : Returned ℕ Refusal) : Type 0 where
  pub went_on : (m' : State) (a : Stream) → res ≡ went m' → m'.store ≡ m.store ++ a ∷ []
      → (r ≡ Ok (len a)) × Held m' new state.machine × keeps m'.store old new × Sunk (defined (length m.store) t k) text state.sink
  pub gave-up : (why : Stop) (s : ℕ) → res ≡ stopped why s → r ≡ Err (refusal_of why s)
