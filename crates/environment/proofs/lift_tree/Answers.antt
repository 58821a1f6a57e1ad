-- The words move up, onto themselves where they overlap.
use mathlib.Core.Logic.{inl}
use native.Mathlib.Omega.{arith}
use Rattle.environment.proofs.lift_tree.Goals as goal

pub move_words-requires : goal.move_words-requires
move_words-requires c = (omega arith, omega arith, inl (omega arith))
