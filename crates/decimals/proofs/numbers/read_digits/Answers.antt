-- Digit by digit, with the number so far; past 2,147,483,648 it stops.
use Rattle.std.proofs.Common.{sym, ◌∙◌, arith}
use Rattle.std.proofs.lemmas.Grind.{common_steps}
use Rattle.decimals.proofs.NumberText.{is_digit_lem, is-end, reading-start, reading-on, reading-over, reading-none, reading-leading, reading-end}
use Rattle.decimals.proofs.numbers.read_digits.Goals as goal

pub loop-d-init : goal.loop-d-init
loop-d-init c = (reading-start c.args.text.now, omega arith)

pub overflow_add-i : goal.overflow_add-i
overflow_add-i c = omega (arith, (is_digit_lem c.args.text.now c.loop-d.i c.in-Some.d (sym c.in-Some.is ∙ c.digit_at.ensures)).inside)

pub loop-d-smaller : goal.loop-d-smaller
loop-d-smaller c = omega (arith, (is_digit_lem c.args.text.now c.loop-d.i c.in-Some.d (sym c.in-Some.is ∙ c.digit_at.ensures)).inside)

pub returns-then-n-gt2147483648 : goal.returns-then-n-gt2147483648
returns-then-n-gt2147483648 c = sym (reading-over c.loop-d.invariant.0 (is_digit_lem c.args.text.now c.loop-d.i c.in-Some.d (sym c.in-Some.is ∙ c.digit_at.ensures)) c.if-n-gt2147483648.true)

pub loop-d-preserved : goal.loop-d-preserved
loop-d-preserved c = (reading-on c.loop-d.invariant.0 (is_digit_lem c.args.text.now c.loop-d.i c.in-Some.d (sym c.in-Some.is ∙ c.digit_at.ensures)), c.if-n-gt2147483648.false)

pub returns-then-i-eq0 : goal.returns-then-i-eq0
returns-then-i-eq0 c = sym (reading-none c.loop-d.invariant.0 (is-end c.args.text.now c.loop-d.i (sym c.in_default.is ∙ c.digit_at.ensures)) c.if-i-eq0.true)

pub returns-then-text-eq48 : goal.returns-then-text-eq48
returns-then-text-eq48 c = sym (reading-leading c.loop-d.invariant.0 (is-end c.args.text.now c.loop-d.i (sym c.in_default.is ∙ c.digit_at.ensures)) c.if-i-eq0.false c.if-i-gt1.true c.if-text-eq48.true)

pub returns : goal.returns
returns c = sym (reading-end c.loop-d.invariant.0 (is-end c.args.text.now c.loop-d.i (sym c.in_default.is ∙ c.digit_at.ensures)) c.if-i-eq0.false c.loop-d.invariant.1 (λ m z. grind (arith, common_steps)))
