-- Digit by digit, with the number so far; past 2,147,483,648 it stops.
use Rattle.std.proofs.Common.{◌-◌, ◌≤◌, length}
use Rattle.decimals.proofs.NumberText.{Reading}
use Rattle.decimals.proofs.numbers.read_digits.Given as goal

abbrev pub invariant-loop-d : goal.invariant-loop-d
invariant-loop-d l = Reading l.text l.n l.i × (l.n ≤ 2147483648)

abbrev pub decreases-loop-d : goal.decreases-loop-d
decreases-loop-d l = length l.text - l.i
