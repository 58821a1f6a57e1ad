-- One run after another: what stands behind the streams stays as it was over both, and a stop of the first is a stop of both.
use Prim.Native.Nat.{ℕ}
use mathlib.Core.List.{List, ◌++◌}
use mathlib.Core.Path.{◌≡◌, refl, ◌∙◌, ap}
use native.Mathlib.Omega.{arith}
use lib.IntN.{ℤ}
use Rattle.snesl.specs.declared.refusal.Refusal.{Refusal}
use Rattle.snesl.specs.Streams.{Store, room}
use Rattle.snesl.specs.Programs.{done}
use Rattle.snesl.specs.Machine.{State, Result, went, stopped, onward}
use Rattle.environment.proofs.Stack.{drop-above}
use Rattle.steps.specs.Walking.{walked}
use Rattle.steps.specs.Holding.{keeps}
use Rattle.steps.proofs.Stores.{room-append}
use Rattle.steps.proofs.Walking.{walked-done}
use Rattle.steps.specs.Holding.{Stopping}

pub keeps_then : (σ τ ρ : Store) (old mid new : List ℤ) → keeps σ old mid → keeps ρ mid new → ρ ≡ σ ++ τ → keeps ρ old new
keeps_then σ τ ρ old mid new a b e =
    b ∙ drop-above mid old (room σ) (room ρ) a (omega (arith, ap room e, room-append σ τ))

pub onward-as : (f : State → Result) {r : Result} {m : State} → r ≡ went m → onward r f ≡ f m
onward-as f e = ap (λ x. onward x f) e

pub onward-stop : (f : State → Result) {r : Result} {q : Refusal} → Stopping r q → Stopping (onward r f) q
onward-stop f s = record { why = s.why; where-at = s.where-at; stops = ap (λ x. onward x f) s.stops; refuses = s.refuses }

pub onward-done : (cap n : ℕ) (r : Result) → onward r (walked cap n done) ≡ r
onward-done cap n (went m) = walked-done cap n m
onward-done cap n (stopped why s) = refl
