-- What the functions behind the comparisons answer.
use Rattle.std.specs.Prelude.{ℕ, Bool, ℤ, List, length, ◌≡◌, FitsSigned}
use Rattle.std.specs.Int.{w32}
use Rattle.snesl.specs.Streams.{bools}
use Rattle.snesl.specs.Transducers.{Answer, length_misfit, made, pairwise, unfit, unless}

-- whatever such a test answers for two 32-bit numbers, it is their f
abbrev pub Computes : (post : ℤ → ℤ → Bool → Type 0) → (f : ℤ → ℤ → Bool) → Type 0
Computes post f = (x y : ℤ) (b : Bool) → FitsSigned w32 x → FitsSigned w32 y → post x y b → b ≡ f x y

-- a comparison of the two items of each of n units
abbrev pub comparison : (f : ℤ → ℤ → Bool) → ℕ → List ℤ → List ℤ → Answer
comparison f n xs ys = unless (length_misfit n (length xs) (length ys)) unfit (made (bools (pairwise f xs ys)))
