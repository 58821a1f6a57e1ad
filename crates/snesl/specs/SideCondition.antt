-- P-WC-EMP's side condition (002, Figure 1.3): where a WithCtrl's control is empty, so is every stream that it takes in. `run` does not test it; here
-- it is said of a program, at each WithCtrl that its run meets.
use Rattle.std.specs.Prelude.{ℕ, suc, ◌≡◌}
use mathlib.Core.List.{List, Memᴰ}
use Rattle.std.proofs.Math.Option.{some}
use Rattle.snesl.specs.declared.code.Transducer.{Transducer}
use Rattle.snesl.specs.Streams.{Stream, units, len, Store, ◌!◌}
use Rattle.snesl.specs.Programs.{Program, done, define, with_ctrl}
use Rattle.snesl.specs.Machine.{State, went, step, run, boundless}

-- σ(u) = ⟨⟩
pub record Empty (σ : Store) (u : ℕ) : Type 0 where
  pub stream : Stream
  pub there-is : σ ! u ≡ some stream
  pub no-elements : len stream ≡ 0

pub data Proper : Program → ℕ → State → Type 0 where
  proper-done : {n : ℕ} {m : State} → Proper done n m
  proper-define : {t : Transducer} {p : Program} {n : ℕ} {m : State}
      → ((m' : State) → step boundless t n m ≡ went m' → Proper p n m')
      → Proper (define t p) n m
  proper-with_ctrl : {outs ins : List ℕ} {c : ℕ} {b p : Program} {n : ℕ} {m : State}
      → (m.store ! c ≡ some (units 0) → (u : ℕ) → Memᴰ u ins → Empty m.store u)
      → ((j : ℕ) → m.store ! c ≡ some (units (suc j)) → Proper b (suc j) m)
      → ((m' : State) → run boundless (with_ctrl outs c ins b done) n m ≡ went m' → Proper p n m')
      → Proper (with_ctrl outs c ins b p) n m
