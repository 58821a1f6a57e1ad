-- Where the texts of a job stand: the i-th one of those that were read, and the same without their list, from a position on.
use Rattle.std.specs.Prelude.{ℕ, zero, suc, ◌+◌, ◌<◌, List, [], ◌∷◌, ◌≡◌}
use Rattle.snesl.specs.Records.{Span, span_at, texts_at, texts, JobRead, refused, job, read_job}
use Rattle.finder.specs.declared.find.Part.{Part}

-- more than i VA records are read from k on
pub record Held (t : List ℕ) (i k : ℕ) : Type 0 where
  pub inputs : ℕ
  pub spans : List Span
  pub end : ℕ
  pub enough : i < inputs
  pub read : texts_at inputs t k ≡ texts spans end

abbrev pub part_of : Span → Part
part_of s = record { start = s.start; bytes = s.bytes }

unfoldable pub part_from : ℕ → List ℕ → (k : ℕ) → Part
part_from zero t k = part_of (span_at t k)
part_from (suc i) t k = part_from i t (k + 4 + (span_at t k).bytes)

-- ---- the whole

abbrev pub nowhere : Part
nowhere = record { start = 0; bytes = 0 }

unfoldable pub part_among : ℕ → List Span → Part
part_among i [] = nowhere
part_among zero (s ∷ ss) = part_of s
part_among (suc i) (s ∷ ss) = part_among i ss

abbrev pub located_in : ℕ → JobRead → Part
located_in i (refused r) = nowhere
located_in i (job is k e next ss) = part_among i ss

-- the finder's part of a job is what stands there (proofs/Parts, `find-located`)
abbrev pub located : ℕ → List ℕ → Part
located i t = located_in i (read_job t)

-- where a part of a slice starts: in the slice's own memory, which has this block and offset
abbrev pub start_of : ℕ × ℕ → Part → ℕ × ℕ
start_of slice p = (slice.0, slice.1 + p.start)
