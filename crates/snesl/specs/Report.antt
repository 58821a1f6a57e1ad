-- What the two programs print (01, "Two programs, one job"): a refusal's line, and the run's four lines.
use Rattle.std.specs.Prelude.{ℕ, List, [], ◌∷◌}
use Rattle.snesl.specs.declared.refusal.Refusal.{Refusal}
use Rattle.snesl.specs.Refusals.{number, place}
use Rattle.snesl.specs.Ascii.{ascii, pieces}
use Rattle.snesl.specs.Text.{show_number}
use Rattle.snesl.specs.Listing.{Listed, unlisted, listed}
use Rattle.snesl.specs.Outcome.{Outcome, refusal, value}

-- refused 8 at 1
abbrev pub refusal_line : Refusal → List ℕ
refusal_line r = pieces (ascii "refused " ∷ show_number (number r) ∷ ascii " at " ∷ show_number (place r) ∷ ascii "\n" ∷ [])

-- work 17
abbrev pub work_line : ℕ → List ℕ
work_line n = pieces (ascii "work " ∷ show_number n ∷ ascii "\n" ∷ [])

abbrev pub steps_line : ℕ → List ℕ
steps_line n = pieces (ascii "steps " ∷ show_number n ∷ ascii "\n" ∷ [])

abbrev pub room_line : ℕ → List ℕ
room_line n = pieces (ascii "room " ∷ show_number n ∷ ascii "\n" ∷ [])

-- value {7,5}
abbrev pub value_line : List ℕ → List ℕ
value_line text = pieces (ascii "value " ∷ text ∷ ascii "\n" ∷ [])

-- the run program's lines
abbrev pub run_lines : Outcome → List ℕ
run_lines (refusal r) = refusal_line r
run_lines (value text work steps room held) = pieces (value_line text ∷ work_line work ∷ steps_line steps ∷ room_line room ∷ [])

-- the listing program's lines
abbrev pub list_lines : Listed → List ℕ
list_lines (unlisted r) = refusal_line r
list_lines (listed text) = text
