-- `make` meets its contract, and what its caller learns from its answer: the machine and the sink that the instruction left, or why it stopped.
use Prim.Native.Nat.{ℕ}
use mathlib.Core.List.{List}
use mathlib.Core.Path.{◌≡◌, refl, sym, ◌∙◌, ap, subst}
use lib.IntN.{ℤ}
use lib.ListN.{length}
use Rattle.laws.proofs.Never.{never}
use Rattle.snesl.specs.declared.code.Instruction.TheVariants.{Define}
use Rattle.snesl.specs.declared.code.Transducer.{Transducer}
use Rattle.snesl.specs.declared.refusal.Refusal.{Refusal}
use Rattle.snesl.specs.Streams.{len}
use Rattle.snesl.specs.Machine.{State, Result, went, stopped}
use Rattle.snesl.specs.Outcome.{refusal_of}
use Rattle.snesl.specs.Translation.{id}
use Rattle.environment.specs.declared.machine.Machine.{Machine}
use Rattle.sink.specs.declared.state.Sink as lent
use Rattle.sink.specs.declared.state.Walk.{Walk}
use Rattle.sink.specs.Sinks.{Sink, defined, told}
use Rattle.sink.specs.Sunk.{Sunk}
use Rattle.steps.specs.declared.Operands.{Operands}
use Rattle.std.specs.Prelude.{Ok, Err, Result as Returned}
use Rattle.steps.specs.Walking.{stepped}
use Rattle.steps.specs.Holding.{Held, keeps, Performed, Stopping}
use Rattle.steps.proofs.Stepping.{Added, added}
use Rattle.steps.proofs.Executing.{next-id}
use Rattle.leaves.specs.Making.{Makes, Instructed}

-- ---- `make`

module _ {t : Transducer} {at : Operands} {env : List ℕ} {buf : List ℤ} {state : Walk} {text : List ℕ} {m : State} {k : Sink} (g : Makes t at env buf state text m k) (n : ℕ)
    {new : List ℤ} {counts : Machine} {r : Returned ℕ Refusal} (p : Performed (stepped (length buf) n t m) m buf new counts r) where
  pub make-made : {made : ℕ} {sink : lent.Sink} {text₂ : List ℕ} → r ≡ Ok made → Sunk (told (Define (id state.machine.streams) t) k) text₂ sink
      → Instructed (stepped (length buf) n t m) t m k buf new (record { machine = counts; sink = sink }) text₂ (Ok made)
  make-made {made} {sink} {text₂} e w =
      record {
        went_on =
            λ m' a q h.
            let f = p.went_on m' a q h in (
              sym e ∙ f.0,
              f.1,
              f.2,
              subst (λ j. Sunk j text₂ sink) (ap (λ s. defined s t k) (next-id g.executable.held)) w,
            );
        gave-up = λ why s q. sym e ∙ p.gave-up why s q;
      }

  pub make-stopped : {q : Refusal} {w : Walk} → r ≡ Err q → Instructed (stepped (length buf) n t m) t m k buf new w text (Err q)
  make-stopped {q} e =
      record {
        went_on = λ m' a f h. let same : Err q ≡ Ok (len a) = sym e ∙ (p.went_on m' a f h).0 in never (cc);
        gave-up = λ why s f. sym e ∙ p.gave-up why s f;
      }

-- ---- its caller

-- an instruction that made a stream of so many elements
pub record Making (cap n : ℕ) (t : Transducer) (m : State) (k : Sink) (old new : List ℤ) (state : Walk) (text : List ℕ) (made : ℕ) : Type 0 where
  pub after : State
  pub went_to : stepped cap n t m ≡ went after
  pub added-to : Added m t n after
  pub long : made ≡ len added-to.stream
  pub held : Held after new state.machine
  pub kept : keeps after.store old new
  pub sunk : Sunk (defined (length m.store) t k) text state.sink

module _ (cap n : ℕ) (t : Transducer) {m : State} {k : Sink} {old new : List ℤ} {state : Walk} {text : List ℕ} {r : Returned ℕ Refusal}
    (p : Instructed (stepped cap n t m) t m k old new state text r) where
  pub making : (made : ℕ) → r ≡ Ok made → Making cap n t m k old new state text made
  making made e = go (stepped cap n t m) refl
    where
      go : (res : Result) → stepped cap n t m ≡ res → Making cap n t m k old new state text made
      go (went m') q =
          let a = added cap n t m m' q in
          let f = p.went_on m' a.stream q a.store in
          let same : Ok made ≡ Ok (len a.stream) = sym e ∙ f.0 in
          record { after = m'; went_to = q; added-to = a; long = cc; held = f.1; kept = f.2; sunk = f.3 }
      go (stopped why s) q = let same : Ok made ≡ Err (refusal_of why s) = sym e ∙ p.gave-up why s q in never (cc)

  pub stopping : (q : Refusal) → r ≡ Err q → Stopping (stepped cap n t m) q
  stopping q e = go (stepped cap n t m) refl
    where
      go : (res : Result) → stepped cap n t m ≡ res → Stopping (stepped cap n t m) q
      go (went m') g =
          let a = added cap n t m m' g in
          let same : Err q ≡ Ok (len a.stream) = sym e ∙ (p.went_on m' a.stream g a.store).0 in
          never (cc)
      go (stopped why s) g =
          let same : Err q ≡ Err (refusal_of why s) = sym e ∙ p.gave-up why s g in
          record { why = why; where-at = s; stops = g; refuses = cc }
