-- Which stores a run in a boundless buffer passes: a run in a buffer that holds only so much (Machine.antt, `holding`) is full exactly where one of these is
-- too large.
use Rattle.std.specs.Prelude.{ℕ, zero, suc, List, ◌≡◌}
use Rattle.std.proofs.Math.Option.{some}
use Rattle.snesl.specs.declared.code.Transducer.{Transducer}
use Rattle.snesl.specs.Streams.{Store, ◌!◌}
use Rattle.snesl.specs.Programs.{Program, define, with_ctrl}
use Rattle.snesl.specs.Machine.{State, went, step, skip, units_of, run, boundless}

-- The boundless run of a program under n units has this store at some moment: where it starts, right after one of its definitions, those of an entered body
-- included, or right after a body that it skips.
pub data Passes : Program → ℕ → State → Store → Type 0 where
  starts : {p : Program} {n : ℕ} {m : State} → Passes p n m m.store
  defines : {t : Transducer} {p : Program} {n : ℕ} {m m' : State} {τ : Store}
      → step boundless t n m ≡ went m'
      → Passes p n m' τ
      → Passes (define t p) n m τ
  skips : {outs ins : List ℕ} {b p : Program} {c n : ℕ} {m : State} {τ : Store}
      → units_of (m.store ! c) ≡ some zero
      → Passes p n (skip b m) τ
      → Passes (with_ctrl outs c ins b p) n m τ
  enters : {outs ins : List ℕ} {b p : Program} {c n j : ℕ} {m : State} {τ : Store}
      → units_of (m.store ! c) ≡ some (suc j)
      → Passes b (suc j) m τ
      → Passes (with_ctrl outs c ins b p) n m τ
  leaves : {outs ins : List ℕ} {b p : Program} {c n j : ℕ} {m m' : State} {τ : Store}
      → units_of (m.store ! c) ≡ some (suc j)
      → run boundless b (suc j) m ≡ went m'
      → Passes p n m' τ
      → Passes (with_ctrl outs c ins b p) n m τ
