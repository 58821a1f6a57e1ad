-- What is left of the input records, behind those that are read, is what the definition makes of them.
use Rattle.std.proofs.Common.{◌+◌, ◌∙◌, ap, subst, arith}
use Rattle.std.proofs.lemmas.Result.{err_from_is_err_and}
use Rattle.std.specs.Prelude.{Ok}
use Rattle.formula.proofs.Declaring.{Declaring, turn, last, stopped, all_read, one_over, last-full, stopped-full}
use Rattle.formula.proofs.read.declare.Goals as goal

pub returns-in_err-entry_at : goal.returns-in_err-entry_at
returns-in_err-entry_at c = let p = err_from_is_err_and c.from_residual.result c.from_residual.ensures.1 in
    rw (p.1, p.2) (stopped _ c.loop-inputs.invariant c.entry_at.ensures c.in_err-entry_at.was)

pub returns-then-not-branch : goal.returns-then-not-branch
returns-then-not-branch c = last _ c.loop-inputs.invariant c.entry_at.ensures (c.in_ok-entry_at.was ∙ ap Ok c.if-not-branch.true)

pub loop-inputs-preserved : goal.loop-inputs-preserved
loop-inputs-preserved c =
    let next = turn _ c.loop-inputs.invariant c.entry_at.ensures c.loop-inputs-test.true (c.in_ok-entry_at.was ∙ ap Ok c.if-not-branch.false) in
    subst (Declaring c.args.bytes.now (c.loop-inputs.inputs + 1)) (omega arith) next

pub returns-in_err-entry_at-2 : goal.returns-in_err-entry_at-2
returns-in_err-entry_at-2 c = let p = err_from_is_err_and c.from_residual-in_err-entry_at-2.result c.from_residual-in_err-entry_at-2.ensures.1 in
    rw (p.1, p.2) (stopped-full _ (all_read _ c.loop-inputs.invariant c.loop-inputs-test.false) c.entry_at-2.ensures (omega arith) c.in_err-entry_at-2.was)

pub returns-then-branch : goal.returns-then-branch
returns-then-branch c =
    one_over _ (all_read _ c.loop-inputs.invariant c.loop-inputs-test.false) c.entry_at-2.ensures (omega arith) (c.in_ok-entry_at-2.was ∙ ap Ok c.if-branch.true)

pub returns : goal.returns
returns c =
    last-full _ (all_read _ c.loop-inputs.invariant c.loop-inputs-test.false) c.entry_at-2.ensures (omega arith) (c.in_ok-entry_at-2.was ∙ ap Ok c.if-branch.false)
