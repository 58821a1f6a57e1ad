-- Each refusal is the first that the definitions meet.
use mathlib.Core.Path.{◌≡◌, sym, ◌∙◌}
use Rattle.std.proofs.Common.{rules, Err}
use Rattle.sheet.proofs.Admitting.{job-found, front-found, refused-typed, kept-typed, refused-valued, tallied-all, admitted}
use Rattle.sheet.proofs.admission.admit.Goals as goal

pub check_front-requires : goal.check_front-requires
check_front-requires c = front-found c.args.job.now (job-found c.args.job.now c.in_ok-formula.field-0 (sym c.in_ok-formula.was ∙ c.read_job.ensures))

pub measure_texts-requires : goal.measure_texts-requires
measure_texts-requires c = record { read = job-found c.args.job.now c.in_ok-formula.field-0 (sym c.in_ok-formula.was ∙ c.read_job.ensures); most_inputs_in_bounds = c.requires }

pub returns-in_err-judged : goal.returns-in_err-judged
returns-in_err-judged c = let found = job-found c.args.job.now c.in_ok-formula.field-0 (sym c.in_ok-formula.was ∙ c.read_job.ensures) in
    let why = sym c.in_err-judged.was ∙ c.check_front.ensures in
    let refused : c.from_residual-in_err-judged.result ≡ Err c.in_err-judged.field-0.0 = search rules in record {
      value = refused ∙ refused-typed c.args.job.now found c.in_err-judged.field-0.0 why;
      counts_after = kept-typed c.args.job.now found c.in_err-judged.field-0.0 why c.args.counts.now;
    }

pub returns-in_err-measure_texts : goal.returns-in_err-measure_texts
returns-in_err-measure_texts c = let found = job-found c.args.job.now c.in_ok-formula.field-0 (sym c.in_ok-formula.was ∙ c.read_job.ensures) in
    let judged = sym c.in_ok-judged.was ∙ c.check_front.ensures in
    let refused : c.from_residual-in_err-measure_texts.result ≡ Err c.in_err-measure_texts.field-0.0 = search rules in record {
      value = refused ∙ refused-valued c.args.job.now found c.in_ok-judged.judged judged c.in_err-measure_texts.field-0.0 (sym c.in_err-measure_texts.was ∙ c.measure_texts.ensures.value found);
      counts_after = c.measure_texts.ensures.counts_after found ∙ tallied-all c.args.job.now found c.in_ok-judged.judged judged c.args.counts.now;
    }

pub returns : goal.returns
returns c = let found = job-found c.args.job.now c.in_ok-formula.field-0 (sym c.in_ok-formula.was ∙ c.read_job.ensures) in
    let judged = sym c.in_ok-judged.was ∙ c.check_front.ensures in record {
      value = admitted c.args.job.now found c.in_ok-judged.judged judged (sym c.in_ok-measure_texts.was ∙ c.measure_texts.ensures.value found);
      counts_after = c.measure_texts.ensures.counts_after found ∙ tallied-all c.args.job.now found c.in_ok-judged.judged judged c.args.counts.now;
    }
