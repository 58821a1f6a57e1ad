-- What ScanPlus's loops answer and leave. A store past the end changes nothing, so where there is no room they say the same and write nothing.
use Rattle.std.specs.Prelude.{ℕ, Bool, true, List, map, ◌≡◌, ℤ, Result, Ok}
use Rattle.std.proofs.lemmas.List.Edits.{sets}
use Rattle.snesl.specs.Transducers.{first_outside}
use Rattle.flags.specs.Segments.{running}
use Rattle.streams.specs.Walks.{all_inside, told}
use Rattle.streams.specs.declared.output.Failure.{Failure}
use Rattle.streams.specs.declared.output.Failure.TheVariants.{Outside}

-- the totals before each item of a segment, from `to` on
pub record Runs (start : ℤ) (xs : List ℤ) (to : ℕ) (old : List ℤ) (inside : Bool) (new : List ℤ) : Type 0 where
  pub says : inside ≡ all_inside (map (λ z. (0, z)) (running start xs))
  pub wrote : inside ≡ true → new ≡ sets old to (running start xs)

-- the first segment with a total that is out of range, and the totals where there is none
pub record Scans (rs : List (ℕ × ℤ)) (old : List ℤ) (r : Result (Unit {0}) Failure) (new : List ℤ) : Type 0 where
  pub says : r ≡ told (λ k. Outside k) (first_outside rs)
  pub wrote : r ≡ Ok tt → new ≡ sets old 0 (map (λ x. x.1) rs)
