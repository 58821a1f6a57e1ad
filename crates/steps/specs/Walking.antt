-- Running under n units where n may be 0: under an empty control nothing is executed or counted, and every stream defined is empty, so one walk over a
-- formula serves bodies that are run and bodies that are skipped.
use Rattle.std.specs.Prelude.{ℕ, zero, suc}
use Rattle.snesl.specs.declared.code.Transducer.{Transducer}
use Rattle.snesl.specs.Programs.{Program, done, define}
use Rattle.snesl.specs.Machine.{State, Result, went, step, skip, run, holding}

unfoldable pub stepped : (cap n : ℕ) → Transducer → State → Result
stepped cap zero t m = went (skip (define t done) m)
stepped cap (suc n) t m = step (holding cap) t (suc n) m

unfoldable pub walked : (cap n : ℕ) → Program → State → Result
walked cap zero p m = went (skip p m)
walked cap (suc n) p m = run (holding cap) p (suc n) m
