-- The instruction is executed, and where it went through it is told (proofs/Making.antt).
use Rattle.std.proofs.lemmas.Result.{err_from_is_err_and}
use Rattle.leaves.proofs.Making.{make-made, make-stopped}
use Rattle.leaves.proofs.make.Goals as goal

pub execute-requires : goal.execute-requires
execute-requires c = (c.requires.0, c.requires.2.executable)

pub tell-requires : goal.tell-requires
tell-requires c = (c.requires.1, c.requires.2.sunk)

pub returns : goal.returns
returns c = λ m k g. make-made g _ (c.execute.ensures m g.executable) c.in_ok-made.was (c.tell.ensures k g.sunk)

pub returns-in_err-made : goal.returns-in_err-made
returns-in_err-made c = λ m k g. let p = err_from_is_err_and c.from_residual.result c.from_residual.ensures.1 in rw (p.1, p.2) (make-stopped g _ (c.execute.ensures m g.executable) c.in_err-made.was)
