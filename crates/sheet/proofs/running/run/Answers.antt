-- Refused by 1 to 7, or executed on the used part: either way the demands are kept, and `exact` follows from them alone.
use mathlib.Core.Path.{◌≡◌, sym, ◌∙◌}
use native.Mathlib.Omega.{arith}
use lib.ListN.{replicate}
use lib.Seq.{length-take-le}
use Rattle.std.proofs.Common.{rules, Err}
use Rattle.sheet.proofs.Admitting.{turned, taken_in}
use Rattle.sheet.proofs.Performing.{counted_of}
use Rattle.sheet.proofs.OneAnswer.{exacted}
use Rattle.sheet.proofs.Whole.{kept-untouched, kept_whole}
use Rattle.sheet.proofs.running.run.Goals as goal

pub execute-requires : goal.execute-requires
execute-requires c = let taken = taken_in c.args.job.now c.in_ok-task.task (sym c.in_ok-task.was ∙ c.admit.ensures.value) in
    let long = length-take-le c.min-used.result c.args.streams.now (omega (arith, c.min-used.ensures)) in record {
      admitted = (taken.0, counted_of taken.0 (replicate 144 0) c.admit.ensures.counts_after (omega arith) c.admit.auto.counts);
      task_bound = (taken.1, omega (arith, long, c.min-used.ensures));
    }

pub returns-in_err-task : goal.returns-in_err-task
returns-in_err-task c =
    let refusal = c.in_err-task.field-0.0 in
    let refused : c.from_residual.result ≡ Err c.in_err-task.field-0.0 = search rules in
    let k = kept-untouched refusal c.args.streams.now c.args.answer.now (turned c.args.job.now refusal (sym c.in_err-task.was ∙ c.admit.ensures.value)) in
    rw refused (search (k, exacted (Err c.in_err-task.field-0.0) k))

pub returns : goal.returns
returns c =
    let streams = c.args.streams.now in
    let long = length-take-le c.min-used.result streams (omega (arith, c.min-used.ensures)) in
    let k = kept_whole streams c.execute.new.buf c.min-used.result c.min-used.ensures long c.execute.auto.buf c.execute.result c.execute.ensures.demands in
    search (k, exacted c.execute.result k)
