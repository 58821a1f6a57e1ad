-- What was performed stays where it has a value, and else the buffer is cleared: so the demands are kept.
use Rattle.sheet.proofs.Whole.{kept-used}
use Rattle.sheet.proofs.execution.execute.Goals as goal

pub returns : goal.returns
returns c = record {
  demands = kept-used c.requires.admitted.0 c.requires.task_bound.1 (c.lend-ran.ensures c.requires.admitted.0) c.lend-ran.auto.buf c.spoiled_from-from.ensures c.clear.ensures;
}
