-- What the run program's lines are of a job and of what is lent for it (01, "Two programs, one job").
use Rattle.std.specs.Prelude.{ℕ, ◌+◌, ◌≤◌, min, List, [], ◌∷◌, ◌≡◌, ℤ, length}
use Rattle.snesl.specs.Ascii.{ascii, pieces}
use Rattle.snesl.specs.Text.{show_number}
use Rattle.snesl.specs.Report.{value_line, work_line, steps_line, room_line, run_lines}
use Rattle.snesl.specs.Outcome.{Outcome, outcome, streams_after, answer_after}
use Rattle.decimals.specs.Writing.{Writes}

-- 01: "The programs lend 65,536 bytes for a listing or an answer"
abbrev pub most_answer : ℕ
most_answer = 65536

-- all of it where fewer are there
abbrev pub answer_lent : ℕ → ℕ
answer_lent have = min have most_answer

-- the outcome of a job with these two buffers
abbrev pub outcome_over : (job : List ℕ) → List ℤ → List ℕ → Outcome
outcome_over job streams answer = outcome job (length streams) (answer_lent (length answer))

-- the lines stand at the start of the text as far as it goes, and n bytes are all of them; the two buffers are as the run leaves them
pub record Prints (job : List ℕ) (streams streams' : List ℤ) (answer answer' text text' : List ℕ) (n : ℕ) : Type 0 where
  pub lines : Writes text text' 0 (run_lines (outcome_over job streams answer)) n
  pub streams-are : streams' ≡ streams_after streams (outcome_over job streams answer)
  pub answer-is : answer' ≡ answer_after answer (outcome_over job streams answer)
  pub short : n ≤ answer_lent (length answer) + 86

-- the lines of a value
abbrev pub value_lines : List ℕ → (work steps room : ℕ) → List ℕ
value_lines text work steps room = pieces (value_line text ∷ work_line work ∷ steps_line steps ∷ room_line room ∷ [])

-- a name, a number and a line feed
abbrev pub count_line : List ℕ → ℕ → List ℕ
count_line name n = pieces (name ∷ show_number n ∷ ascii "\n" ∷ [])
