-- One instruction, and the place of what it made (proofs/Putting.antt).
use native.Mathlib.Omega.{arith}
use Rattle.guards.proofs.Putting.{put-push, put-made, put-stopped}
use Rattle.std.proofs.lemmas.Result.{err_from_is_err_and}
use Rattle.guards.proofs.put.Goals as goal

pub make-requires : goal.make-requires
make-requires c = (
  c.requires.0,
  c.requires.1,
  c.requires.2.makes,
)

pub push-requires : goal.push-requires
push-requires c = let q = put-push c.requires.2 _ (c.make.ensures _ _ c.requires.2.makes) c.in_ok-made.was in (
  omega arith,
  c.requires.2.fits,
  q.0,
  q.1,
  q.2,
  q.3,
)

pub returns : goal.returns
returns c = λ m k g. put-made g _ (c.make.ensures _ _ g.makes) c.in_ok-made.was c.push.ensures

pub returns-in_err-made : goal.returns-in_err-made
returns-in_err-made c = λ m k g.
    let p = err_from_is_err_and c.from_residual.result c.from_residual.ensures.1 in rw (p.1, p.2)
    (put-stopped g _ (c.make.ensures _ _ g.makes) c.in_err-made.was)
