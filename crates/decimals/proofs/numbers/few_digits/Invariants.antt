-- The first digit is no zero; from there on digit by digit, up to ten.
use Rattle.decimals.proofs.ShortInts.{Short}
use Rattle.decimals.proofs.numbers.few_digits.Given as goal

abbrev pub invariant-loop-i : goal.invariant-loop-i
invariant-loop-i l = Short l.text l.n l.i
