-- What is left of the texts is what the definition makes of them all.
use Rattle.std.proofs.lemmas.Result.{err_from_is_err_and}
use Rattle.formula.proofs.Texts.{start, turn, stopped, all_passed}
use Rattle.formula.proofs.read.texts_from.Goals as goal

pub loop-init : goal.loop-init
loop-init c = start _ _ _

pub returns-in_err-k : goal.returns-in_err-k
returns-in_err-k c = let p = err_from_is_err_and c.from_residual.result c.from_residual.ensures.1 in
    rw (p.1, p.2) (stopped _ c.loop.invariant c.loop-test.true c.text_at.ensures c.ok_or.ensures.value c.in_err-k.was)

pub loop-preserved : goal.loop-preserved
loop-preserved c = turn _ c.loop.invariant c.loop-test.true c.text_at.ensures c.ok_or.ensures.value c.in_ok-k.was

pub returns : goal.returns
returns c = all_passed _ c.loop.invariant c.loop-test.false
