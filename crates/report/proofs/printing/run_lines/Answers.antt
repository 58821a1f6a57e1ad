-- What the run answered says which outcome it is, and what was lent of the answer buffer goes back in front of its rest.
use native.Mathlib.Omega.{arith}
use mathlib.Core.Path.{sym}
use lib.Seq.{length-take-le}
use Rattle.report.proofs.Lines.{refused, text-within, text-short, valued}
use Rattle.report.proofs.printing.run_lines.Goals as goal

pub slice_bounds-run-end-2 : goal.slice_bounds-run-end-2
slice_bounds-run-end-2 c = sym (length-take-le c.min-lent.result c.args.answer.now (omega (arith, c.min-lent.ensures)))

pub slice_bounds-value_lines-end : goal.slice_bounds-value_lines-end
slice_bounds-value_lines-end c = text-within c.args.answer.now c.min-lent.result c.min-lent.ensures c.run.auto.answer c.run.ensures.exact c.in-Ok.is

pub slice_bounds-value_lines-end-in-Ok : goal.slice_bounds-value_lines-end-in-Ok
slice_bounds-value_lines-end-in-Ok c = sym (length-take-le c.in-Ok.counts.text _ (text-within c.args.answer.now c.min-lent.result c.min-lent.ensures c.run.auto.answer c.run.ensures.exact c.in-Ok.is))

pub value_lines-requires : goal.value_lines-requires
value_lines-requires c = text-short c.args.answer.now c.min-lent.result c.min-lent.ensures c.run.auto.answer c.run.ensures.exact c.in-Ok.is

pub returns-in-Err : goal.returns-in-Err
returns-in-Err c = refused c.args.answer.now c.min-lent.result c.min-lent.ensures c.run.auto.answer c.run.ensures.exact c.in-Err.is c.refusal_line.ensures

pub returns-in-Ok : goal.returns-in-Ok
returns-in-Ok c = valued c.args.answer.now c.min-lent.result c.min-lent.ensures c.run.auto.answer c.run.ensures.exact c.in-Ok.is c.value_lines.ensures
