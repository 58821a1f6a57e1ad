-- The stack that is lent is enough for the task and for the most inputs.
use Prim.Native.Nat.{ℕ}
use native.Mathlib.Omega.{arith}
use lib.ListN.{length-replicate}
use Rattle.sheet.proofs.Needing.{widened}
use Rattle.sheet.proofs.execution.lend_words.Goals as goal

pub perform-requires : goal.perform-requires
perform-requires g c = record {
  admitted = (widened (omega (arith, length-replicate {A = ℕ} g.row.WORDS 0, c.requires.enough.0)) c.requires.admitted.0, c.requires.admitted.1);
  most_inputs_in_bounds = (omega (arith, length-replicate {A = ℕ} g.row.WORDS 0, c.requires.enough.1), c.requires.used);
}

pub returns : goal.returns
returns g c = λ here. c.perform.ensures (widened (omega (arith, length-replicate {A = ℕ} g.row.WORDS 0, c.requires.enough.0)) here)
