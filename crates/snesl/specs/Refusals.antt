-- 01, "Refusal numbers": the number and the place of each refusal.
use Rattle.std.specs.Prelude.{ℕ}
use Rattle.snesl.specs.declared.refusal.Refusal.{Refusal}
use Rattle.snesl.specs.declared.refusal.Refusal.TheVariants.{TooLong, NoRecord, OverLimit, TooMany, Unbound, WrongType, NoValueText, NoValue, NoRoom, NoAnswerRoom, NoRepresentation}

abbrev pub number : Refusal → ℕ
number TooLong = 1
number (NoRecord p) = 2
number (OverLimit p) = 3
number (TooMany p) = 4
number (Unbound p) = 5
number (WrongType p) = 6
number (NoValueText p) = 7
number (NoValue p) = 8
number (NoRoom p) = 9
number (NoAnswerRoom p) = 10
number (NoRepresentation p) = 11

abbrev pub place : Refusal → ℕ
place TooLong = 0
place (NoRecord p) = p
place (OverLimit p) = p
place (TooMany p) = p
place (Unbound p) = p
place (WrongType p) = p
place (NoValueText p) = p
place (NoValue p) = p
place (NoRoom p) = p
place (NoAnswerRoom p) = p
place (NoRepresentation p) = p
