-- The finder (01, "The formula and the job"): the part of the job's own bytes that holds the text of input number i.
use Rattle.std.specs.Prelude.{ℕ, zero, suc, List, [], ◌∷◌, take, drop}
use Rattle.snesl.specs.Records.{Span, JobRead, refused, job, read_job}

abbrev pub span_of : List ℕ → Span → List ℕ
span_of t s = take s.bytes (drop s.start t)

-- an empty part where there is no such input
unfoldable pub part_of : List ℕ → ℕ → List Span → List ℕ
part_of t i [] = []
part_of t zero (s ∷ ss) = span_of t s
part_of t (suc i) (s ∷ ss) = part_of t i ss

-- or where the job meets 1 to 4
abbrev pub part_in : List ℕ → ℕ → JobRead → List ℕ
part_in t i (refused r) = []
part_in t i (job is k e next ss) = part_of t i ss

abbrev pub find : ℕ → List ℕ → List ℕ
find i t = part_in t i (read_job t)
