-- The first digit is no zero; from there on digit by digit, up to ten.
use Rattle.std.proofs.Common.{sym, ◌∙◌, arith}
use Rattle.decimals.proofs.NumberText.{is_digit_lem, is-end}
use Rattle.decimals.proofs.ShortInts.{short-first, short_on, short-end}
use Rattle.decimals.proofs.numbers.few_digits.Goals as goal

pub loop-i-init : goal.loop-i-init
loop-i-init c = short-first c.args.text.now (omega arith) (omega arith) (omega arith)

pub returns-in_default-digit_at : goal.returns-in_default-digit_at
returns-in_default-digit_at c = sym (short-end c.loop-i.invariant (omega arith) (omega arith) (is-end c.args.text.now c.loop-i.i (sym c.in_default-digit_at.is ∙ c.digit_at.ensures)))

pub loop-i-preserved : goal.loop-i-preserved
loop-i-preserved c = short_on c.loop-i.invariant (is_digit_lem c.args.text.now c.loop-i.i c.in-Some.d (sym c.in-Some.is ∙ c.digit_at.ensures))
