-- What the loops that write results answer and leave: whether all of the m results were in range, and the results where they were. Nothing but the first m elements
-- is written.
use Rattle.std.specs.Prelude.{ℕ, Bool, true, List, map, ◌≡◌, ℤ, length, drop}
use Rattle.std.proofs.lemmas.List.Edits.{sets}
use Rattle.streams.specs.Walks.{all_inside}

pub record Fills (rs : List (ℕ × ℤ)) (m : ℕ) (old : List ℤ) (inside : Bool) (new : List ℤ) : Type 0 where
  pub says : inside ≡ all_inside rs
  pub long : length rs ≡ m
  pub wrote : inside ≡ true → new ≡ sets old 0 (map (λ r. r.1) rs)
  pub behind : drop m new ≡ drop m old
