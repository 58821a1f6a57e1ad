-- A job that is read has its inputs' texts behind its formula; any other has none.
use Rattle.std.proofs.Common.{◌∙◌, ap, unwrap_or}
use Rattle.finder.specs.Parts.{nowhere}
use Rattle.finder.proofs.Parts.{read-is, present, found, missing}
use Rattle.finder.proofs.find.sought.Goals as goal

pub returns-then-job-i : goal.returns-then-job-i
returns-then-job-i c = missing _ (read-is _ c.read_job.ensures c.ok.ensures.value c.in_ok-job.was) _ c.if-job-i.true

pub part_from-requires : goal.part_from-requires
part_from-requires c = present _ (read-is _ c.read_job.ensures c.ok.ensures.value c.in_ok-job.was) _ c.if-job-i.false

pub returns : goal.returns
returns c = ap (λ o. unwrap_or o nowhere) c.part_from.ensures
    ∙ found _ (read-is _ c.read_job.ensures c.ok.ensures.value c.in_ok-job.was) _ c.if-job-i.false
