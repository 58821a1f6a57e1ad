-- The theorem for one environment, under a control of one unit.
use Prim.Native.Nat.{ℕ, ◌+◌, ◌≤◌, ◌<◌}
use native.Mathlib.Omega.{arith}
use mathlib.Core.Path.{◌≡◌, refl, subst}
use mathlib.Core.List.{List, [], ◌∷◌}
use mathlib.Core.Option.{Option, some, none}
use lib.ListN.{length}
use Rattle.snesl.specs.Values.{ValueType, Val}
use Rattle.snesl.specs.Terms.{Term, All}
use Rattle.snesl.specs.Trees.{IdTree}
use Rattle.snesl.specs.Machine.{State, Stop, Result, went, stopped, run, boundless, sum_of}
use Rattle.snesl.specs.Evaluation.{and_then, eval, all_of}
use Rattle.snesl.specs.Translation.{size, tree, code}
use Rattle.snesl.specs.Representation.{Holds}
use Rattle.snesl.specs.Agreement.{Agrees, ComesTo, ran, halted, ByRule, RanOnce, ComesToOnce, ran-once, halted-once}
use Rattle.snesl.proofs.Correctness.Reached.{steps-one}
use Rattle.snesl.proofs.Correctness.Correct.{correct}

module _ {Γ : List ValueType} {τ : ValueType} (e : Term Γ τ) (δ : All IdTree Γ) (s : ℕ) (ρ : All Val Γ) (m : State) where
  once : {os : Option (List (Val τ))} {r : Result} (o : Option (Val τ))
      → os ≡ and_then o (λ v. some (v ∷ []))
      → ComesTo e δ s (ρ ∷ []) m os r
      → ComesToOnce e δ s ρ m o r
  unfolding sum_of
  once none h (ran w) = let z : ◌≡◌ {A = ℕ} 0 1 = cc in absurd (omega arith)
  once none h (halted why low high) = halted-once why low high
  once (some v) h (ran {vs = vs} {m' = m'} w) =
      ran-once {v = v} {m' = m'} record {
        added = w.added;
        store = w.store;
        adds = w.adds;
        results = subst (λ vs. Holds m'.store τ (tree e δ s) vs) (cc) w.results;
        work = omega (arith, w.work);
        steps = omega (arith, w.steps, steps-one e ρ);
      }
  once (some v) h (halted why low high) = let z : ◌≡◌ {A = ℕ} 0 1 = cc in absurd (omega arith)

  pub correct-once : length m.store ≡ s → Agrees m.store δ (ρ ∷ []) → ComesToOnce e δ s ρ m (eval e ρ) (run boundless (code e δ s) 1 m)
  unfolding all_of
  correct-once first a = once (eval e ρ) refl (correct e δ ρ [] s m first a)

-- Read from what the rules give, and from what the run came to.
module _ {Γ : List ValueType} {τ : ValueType} {e : Term Γ τ} {δ : All IdTree Γ} {s : ℕ} {ρ : All Val Γ} {m : State} where
  pub value-runs : {o : Option (Val τ)} {r : Result} {v : Val τ}
      → o ≡ some v
      → ComesToOnce e δ s ρ m o r
      → (m' : State) × (r ≡ went m') × RanOnce e δ s ρ m v m'
  value-runs h (ran-once {m' = m'} w) = (m', refl, subst (λ v. RanOnce e δ s ρ m v m') (cc) w)
  value-runs h (halted-once why low high) = let z : ◌≡◌ {A = ℕ} 0 1 = cc in absurd (omega arith)

  pub no-value-halts : {o : Option (Val τ)} {r : Result}
      → o ≡ none
      → ComesToOnce e δ s ρ m o r
      → (why : Stop) × (i : ℕ) × (r ≡ stopped why i) × ByRule why × (s ≤ i) × (i < s + size e)
  no-value-halts h (ran-once w) = let z : ◌≡◌ {A = ℕ} 0 1 = cc in absurd (omega arith)
  no-value-halts h (halted-once {why = why} {i = i} rule low high) = (why, i, refl, rule, low, high)

  pub run-has-value : {o : Option (Val τ)} {r : Result} {m' : State}
      → r ≡ went m'
      → ComesToOnce e δ s ρ m o r
      → (v : Val τ) × (o ≡ some v) × RanOnce e δ s ρ m v m'
  run-has-value h (ran-once {v = v} w) = (v, refl, subst (λ m'. RanOnce e δ s ρ m v m') (cc) w)
  run-has-value h (halted-once why low high) = let z : ◌≡◌ {A = ℕ} 0 1 = cc in absurd (omega arith)

  pub halt-has-no-value : {o : Option (Val τ)} {r : Result} {why : Stop} {i : ℕ}
      → r ≡ stopped why i
      → ComesToOnce e δ s ρ m o r
      → (o ≡ none) × ByRule why × (s ≤ i) × (i < s + size e)
  halt-has-no-value h (ran-once w) = let z : ◌≡◌ {A = ℕ} 0 1 = cc in absurd (omega arith)
  halt-has-no-value {why = why} {i = i} h (halted-once {why = w} {i = j} rule low high) =
      let same : j ≡ i = cc in
      (refl, subst ByRule (cc) rule, omega arith, omega arith)
