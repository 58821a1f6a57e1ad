-- One instruction whose output's place is put on the stack.
use Prim.Native.Nat.{ℕ, ◌+◌, ◌-◌, ◌≤◌, ◌<◌}
use mathlib.Core.List.{List, [], ◌∷◌, ◌++◌}
use mathlib.Core.Path.{◌≡◌, refl, sym, ◌∙◌, ap}
use native.Mathlib.Omega.{arith}
use lib.IntN.{ℤ}
use lib.ListN.{length, get_or}
use Rattle.std.specs.Prelude.{Ok, Err, Result as Returned}
use Rattle.laws.proofs.Never.{never}
use Rattle.laws.specs.Parts.{written}
use Rattle.snesl.specs.declared.code.Transducer.{Transducer}
use Rattle.snesl.specs.declared.refusal.Refusal.{Refusal}
use Rattle.snesl.specs.Streams.{Stream, kind_of, len, elements}
use Rattle.snesl.specs.Transducers.{signature, carried}
use Rattle.snesl.specs.Machine.{State, Result, went, stopped}
use Rattle.snesl.specs.Outcome.{refusal_of}
use Rattle.environment.specs.Words.{place_words}
use Rattle.sink.specs.declared.state.Walk.{Walk}
use Rattle.sink.specs.Sinks.{Sink, defined}
use Rattle.sink.specs.Sunk.{Sunk}
use Rattle.steps.specs.Walking.{stepped}
use Rattle.steps.specs.Holding.{Held, keeps, place, Stopping}
use Rattle.steps.specs.declared.Operands.{Operands}
use Rattle.steps.proofs.Stepping.{added}
use Rattle.leaves.specs.Making.{Instructed}
use Rattle.leaves.proofs.Making.{Making, making, stopping}
use Rattle.leaves.proofs.Singles.{pushable, pushed-words}
use Rattle.guards.specs.Packs.{Puts, Placed}
use Rattle.guards.proofs.Growth.{solid-full}

-- ---- `put` meets its contract

module _ {t : Transducer} {at : Operands} {to : ℕ} {env : List ℕ} {buf : List ℤ} {state : Walk} {text : List ℕ} {m : State} {k : Sink} (g : Puts t at to env buf state text m k) (n : ℕ)
    {buf₁ : List ℤ} {state₁ : Walk} {text₁ : List ℕ} {r : Returned ℕ Refusal} (w : Instructed (stepped (length buf) n t m) t m k buf buf₁ state₁ text₁ r) where
  pub put-stopped : {env' : List ℕ} {q : Refusal} → r ≡ Err q → Placed (length buf) n t to m k env env' buf buf₁ state₁ text₁ (Err q)
  put-stopped {q = q} e =
      let s = stopping (length buf) n t w q e in
      record {
        went_on = λ m' a f h. let both : stopped s.why s.where-at ≡ went m' = sym s.stops ∙ f in never (cc);
        gave-up = λ why i f. sym e ∙ w.gave-up why i f;
      }

  module _ {made : ℕ} (e : r ≡ Ok made) where
    one : Making (length buf) n t m k buf buf₁ state₁ text₁ made
    one = making (length buf) n t w made e

    full : length (elements one.added-to.stream) ≡ len one.added-to.stream
    full = solid-full one.added-to.stream (λ h. g.solid (carried m.store t) (sym one.added-to.kind ∙ h))

    pub put-push : (1 ≤ state₁.machine.streams) × (state₁.machine.streams < 4294967296) × (made ≤ state₁.machine.room) × (state₁.machine.room < 4294967296)
    put-push = pushable one.held m.store one.added-to.stream one.added-to.store full one.long

    pub put-made : {env' : List ℕ} → env' ≡ written (to + 3 - 3) ((state₁.machine.streams - 1) ∷ (state₁.machine.room - made) ∷ made ∷ []) env
        → Placed (length buf) n t to m k env env' buf buf₁ state₁ text₁ (Ok made)
    put-made {env'} v =
        let there : to + 3 - 3 ≡ to = omega arith in
        let words : env' ≡ written to (place_words (place one.after.store (length m.store))) env =
        v
        ∙ (ap (λ l. written (to + 3 - 3) l env) (pushed-words one.held m.store one.added-to.stream one.added-to.store full one.long)
        ∙ ap (λ i. written i (place_words (place one.after.store (length m.store))) env) there) in
        record {
          went_on =
              λ m' a f h.
              let both : went one.after ≡ went m' = sym one.went_to ∙ f in
              let same : one.after ≡ m' = cc in
              let o = w.went_on m' a f h in (
                sym e ∙ o.0,
                o.1,
                o.2,
                o.3,
                words ∙ ap (λ q. written to (place_words (place q.store (length m.store))) env) same,
              );
          gave-up = λ why i f. sym e ∙ w.gave-up why i f;
        }

-- ---- its caller

pub record Stored (cap n : ℕ) (t : Transducer) (to : ℕ) (m : State) (k : Sink) (env env' : List ℕ) (old new : List ℤ) (state : Walk) (text : List ℕ) : Type 0 where
  pub after : State
  pub went_to : stepped cap n t m ≡ went after
  pub stream : Stream
  pub store : after.store ≡ m.store ++ stream ∷ []
  pub kind : kind_of stream ≡ (signature (carried m.store t) t).output
  pub held : Held after new state.machine
  pub kept : keeps after.store old new
  pub sunk : Sunk (defined (length m.store) t k) text state.sink
  pub words : env' ≡ written to (place_words (place after.store (length m.store))) env

module _ {cap n : ℕ} {t : Transducer} {to : ℕ} {m : State} {k : Sink} {env env' : List ℕ} {old new : List ℤ} {state : Walk} {text : List ℕ} {r : Returned ℕ Refusal}
    (p : Placed cap n t to m k env env' old new state text r) where
  pub stored : {made : ℕ} → r ≡ Ok made → Stored cap n t to m k env env' old new state text
  stored {made} e = go (stepped cap n t m) refl
    where
      go : (x : Result) → stepped cap n t m ≡ x → Stored cap n t to m k env env' old new state text
      go (went m') f =
          let a = added cap n t m m' f in
          let o = p.went_on m' a.stream f a.store in
          record { after = m'; went_to = f; stream = a.stream; store = a.store; kind = a.kind; held = o.1; kept = o.2; sunk = o.3; words = o.4 }
      go (stopped why s) f = let same : Ok made ≡ Err (refusal_of why s) = sym e ∙ p.gave-up why s f in never (cc)

  pub halts : {q : Refusal} → r ≡ Err q → Stopping (stepped cap n t m) q
  halts {q} e = go (stepped cap n t m) refl
    where
      go : (x : Result) → stepped cap n t m ≡ x → Stopping (stepped cap n t m) q
      go (went m') f =
          let a = added cap n t m m' f in
          let same : Err q ≡ Ok (len a.stream) = sym e ∙ (p.went_on m' a.stream f a.store).0 in
          never (cc)
      go (stopped why s) f =
          let same : Err q ≡ Err (refusal_of why s) = sym e ∙ p.gave-up why s f in
          record { why = why; where-at = s; stops = f; refuses = cc }
