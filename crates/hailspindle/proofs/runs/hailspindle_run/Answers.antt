-- What `run` keeps is kept by the number and the figures; `exact` follows from that alone.
use Rattle.hailspindle.proofs.Replying.{refused-keeps, valued-keeps, keeps-exactly}
use Rattle.hailspindle.proofs.runs.hailspindle_run.Goals as goal

pub returns-in-Ok : goal.returns-in-Ok
returns-in-Ok c = let k = valued-keeps c.run.ensures.demands c.in-Ok.counts c.in-Ok.is c.note.ensures in search (k, keeps-exactly k)

pub returns-in-Err : goal.returns-in-Err
returns-in-Err c = let k = refused-keeps c.run.ensures.demands c.in-Err.refusal c.in-Err.is c.refuse.ensures.value c.refuse.ensures.figures_after in search (k, keeps-exactly k)
