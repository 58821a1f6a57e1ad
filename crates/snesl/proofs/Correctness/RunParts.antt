-- Runs put together: a sequence runs its parts one after the other, and a definition whose transducer has an answer goes on or stops by it.
use Prim.Native.Nat.{ℕ, zero, suc}
use mathlib.Core.Path.{◌≡◌, refl, ap}
use mathlib.Core.Bool.{Bool}
use mathlib.Core.List.{List}
use mathlib.Core.Option.{Option, some, none}
use lib.ListN.{length}
use Rattle.snesl.specs.declared.code.Transducer.{Transducer}
use Rattle.snesl.specs.Streams.{Stream, units, ◌!◌}
use Rattle.snesl.specs.Transducers.{apply, made, negative, outside}
use Rattle.snesl.specs.Programs.{Program, done, define, with_ctrl, ◌⨾◌}
use Rattle.snesl.specs.Machine.{State, unfitting, below_zero, out_of_range, Result, went, stopped, onward, push, step, skip, units_of, run, boundless}

pub onward-went : (r : Result) → onward r (λ m. went m) ≡ r
onward-went (went m) = refl
onward-went (stopped why i) = refl

module _ (fits : ℕ → Bool) where
  pub run-sequence : (p q : Program) (n : ℕ) (m : State) → run fits (p ⨾ q) n m ≡ onward (run fits p n m) (run fits q n)
  unfolding run ◌⨾◌
  run-sequence done q n m = refl
  run-sequence (define t p) q n m = go (step fits t n m) (λ m'. run-sequence p q n m')
    where
      go : (r : Result)
          → ((m' : State) → run fits (p ⨾ q) n m' ≡ onward (run fits p n m') (run fits q n))
          → onward r (run fits (p ⨾ q) n) ≡ onward (onward r (run fits p n)) (run fits q n)
      go (went m') ih = ih m'
      go (stopped why s) ih = refl
  run-sequence (with_ctrl outs c ins b p) q n m = go (body (units_of (m.store ! c))) (λ m'. run-sequence p q n m')
    where
      body : Option ℕ → Result
      body o =
          elim o [
            | none ↦ stopped (unfitting 0) (length m.store)
            | some k ↦ elim k [ zero ↦ went (skip b m) | suc j ↦ run fits b (suc j) m ]
          ]

      go : (r : Result)
          → ((m' : State) → run fits (p ⨾ q) n m' ≡ onward (run fits p n m') (run fits q n))
          → onward r (run fits (p ⨾ q) n) ≡ onward (onward r (run fits p n)) (run fits q n)
      go (went m') ih = ih m'
      go (stopped why s) ih = refl

  -- under an empty control a body is skipped, under another it is run
  module _ (outs ins : List ℕ) (c : ℕ) (b p : Program) (n : ℕ) (m : State) where
    pub run-skipped : m.store ! c ≡ some (units 0) → run fits (with_ctrl outs c ins b p) n m ≡ run fits p n (skip b m)
    unfolding run
    run-skipped h = rw h

    pub run-body : {j : ℕ} → m.store ! c ≡ some (units (suc j)) → run fits (with_ctrl outs c ins b p) n m ≡ onward (run fits b (suc j) m) (run fits p n)
    unfolding run
    run-body h = rw h

pub step-made : (t : Transducer) (n : ℕ) (m : State) {a : Stream} → apply t n m.store ≡ made a → step boundless t n m ≡ went (push t n a m)
unfolding step
step-made t n m h = rw (h, step)

module _ (t : Transducer) (p : Program) (n : ℕ) (m : State) where
  pub run_step : {r : Result} → step boundless t n m ≡ r → run boundless (define t p) n m ≡ onward r (run boundless p n)
  unfolding run
  run_step h = ap (λ r. onward r (run boundless p n)) h

  pub run-made : {a : Stream} → apply t n m.store ≡ made a → run boundless (define t p) n m ≡ run boundless p n (push t n a m)
  run-made {a} h = run_step {r = went (push t n a m)} (step-made t n m h)

  pub run-negative : {k : ℕ} → apply t n m.store ≡ negative k → run boundless (define t p) n m ≡ stopped (below_zero k) (length m.store)
  unfolding step
  run-negative {k} h = run_step {r = stopped (below_zero k) (length m.store)} (rw (h, step))

  pub run-outside : {k : ℕ} → apply t n m.store ≡ outside k → run boundless (define t p) n m ≡ stopped (out_of_range k) (length m.store)
  unfolding step
  run-outside {k} h = run_step {r = stopped (out_of_range k) (length m.store)} (rw (h, step))
