-- `operations::write_tests`: the stores that are still to come, done on the output as it is, give the whole run of stores.
use Rattle.std.proofs.Common.{◌≡◌, map, drop, ℤ, Bool}
use Rattle.std.proofs.lemmas.List.Edits.{sets}
use Rattle.snesl.specs.Streams.{bit}
use Rattle.snesl.specs.Transducers.{pairwise}
use Rattle.itemwise.specs.Tests.{Computes}
use Rattle.itemwise.proofs.operations.write_tests.Given as goal

abbrev pub invariant-loop-i : goal.invariant-loop-i
invariant-loop-i g l =
    (f : ℤ → ℤ → Bool) → Computes (goal.F-post g l.test) f →
    sets l.out l.i (map bit (pairwise f (drop l.i l.xs) (drop l.i l.ys))) ≡ sets l.initial.out 0 (map bit (pairwise f l.xs l.ys))
