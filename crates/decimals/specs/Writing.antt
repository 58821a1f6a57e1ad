-- Writing at a position of a lent slice: only while the position lies within the slice, and always counting on. So one function measures, lent an
-- empty slice, and writes, lent the real one.
use Rattle.std.specs.Prelude.{◌≡◌, ℕ, ◌+◌, List, length}
use Rattle.std.proofs.lemmas.List.Edits.{sets}

-- `w` was written from `at` on, and `next` is the position behind it
pub record Writes {A : Type 0} (old new : List A) (at : ℕ) (w : List A) (next : ℕ) : Type 0 where
  pub content : new ≡ sets old at w
  pub count : next ≡ at + length w
