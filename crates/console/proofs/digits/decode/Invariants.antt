-- The first i bytes are decoded, and what lies behind them is as it was.
use Rattle.std.proofs.Common.{◌≡◌, ℕ, ◌<◌, length, drop, slice_index}
use Rattle.console.specs.Digits.{pair_of}
use Rattle.console.proofs.digits.decode.Given as goal

abbrev pub invariant-loop-i : goal.invariant-loop-i
invariant-loop-i l = record {
  long : length l.out ≡ length l.initial.out;
  decoded : (j : ℕ) → j < l.i → slice_index l.out j ≡ pair_of l.digits j;
  rest : drop l.i l.out ≡ drop l.i l.initial.out;
}
