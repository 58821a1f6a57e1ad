-- `operations::compare`: where the streams fit, there is room or not, and what `write_tests` left.
use Rattle.std.proofs.Common.{◌≡◌, ℕ, ◌≤◌, ◌<◌, Bool, List, map, length, ℤ, Ok, Err, refl, ◌∙◌, arith}
use Rattle.std.proofs.Math.Option.{none}
use Rattle.std.proofs.lemmas.List.Edits.{sets}
use lib.ListN.{length-map}
use Rattle.snesl.specs.Streams.{bit, bools}
use Rattle.snesl.specs.Transducers.{length_misfit, outside, pairwise}
use Rattle.streams.specs.Answers.{Answers}
use Rattle.streams.specs.declared.output.Failure.TheVariants.{NoRoom}
use Rattle.streams.proofs.Ending.{makes, lacks-room}
use Rattle.itemwise.specs.Tests.{comparison}
use Rattle.itemwise.proofs.Lengths.{Fit, fit, tests-long}
use Rattle.itemwise.proofs.operations.compare.Goals as goal

module _ (f : ℤ → ℤ → Bool) (xs ys old : List ℤ) (n : ℕ) (e : Fit n (length xs) (length ys)) where
  long : length (pairwise f xs ys) ≡ n
  long = tests-long f n xs ys e.first e.second

  stored : length (map bit (pairwise f xs ys)) ≡ n
  stored = length-map (pairwise f xs ys) bit ∙ long

  full : length old < n → Answers old (comparison f n xs ys) (Err NoRoom) old
  full h = lacks-room (length_misfit n (length xs) (length ys)) none outside (bools (pairwise f xs ys)) old e.whole refl (omega (arith, stored))

  wrote : {new : List ℤ} → n ≤ length old → new ≡ sets old 0 (map bit (pairwise f xs ys)) → Answers old (comparison f n xs ys) (Ok n) new
  wrote h w = makes (length_misfit n (length xs) (length ys)) none outside (bools (pairwise f xs ys)) old n e.whole refl long stored h w

pub returns-then-out-n : goal.returns-then-out-n
returns-then-out-n g c =
    λ f h.
    let a = c.args in
    full f a.xs.now a.ys.now a.out.now a.n (fit a.n (length a.xs.now) (length a.ys.now) c.in_ok-lengths.ensures) c.if-out-n.true

pub returns : goal.returns
returns g c =
    λ f h.
    let a = c.args in
    wrote f a.xs.now a.ys.now a.out.now a.n (fit a.n (length a.xs.now) (length a.ys.now) c.in_ok-lengths.ensures) c.if-out-n.false (c.write_tests.ensures f h)
