-- Each turn passes one text by, and behind the last stands the one that is asked for.
use Rattle.std.proofs.Common.{ap, arith}
use Rattle.std.specs.Prelude.{Some}
use Rattle.finder.proofs.Parts.{never, turn, within, passed}
use Rattle.finder.proofs.find.part_from.Goals as goal

pub returns-in_err-k : goal.returns-in_err-k
returns-in_err-k c = absurd (never _ c.loop.invariant c.text_at.ensures c.in_err-k.was)

pub loop-preserved : goal.loop-preserved
loop-preserved c = turn _ c.loop.invariant c.text_at.ensures c.in_ok-k.was c.loop-test.true

pub returns-in_err-end : goal.returns-in_err-end
returns-in_err-end c = absurd (never _ c.loop.invariant c.text_at-2.ensures c.in_err-end.was)

pub overflow_add-start : goal.overflow_add-start
overflow_add-start c = omega (arith, within _ c.loop.invariant c.text_at-2.ensures c.in_ok-end.was)

pub overflow_sub-result : goal.overflow_sub-result
overflow_sub-result c = omega (arith, within _ c.loop.invariant c.text_at-2.ensures c.in_ok-end.was)

pub returns : goal.returns
returns c = ap Some (passed _ c.loop.invariant c.text_at-2.ensures c.in_ok-end.was c.loop-test.false)
