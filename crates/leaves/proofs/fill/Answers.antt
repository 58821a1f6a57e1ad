-- The WithCtrl's two lines stand round the Const_1, whose place is then put (proofs/CountingUp.antt).
use native.Mathlib.Omega.{arith}
use Rattle.leaves.proofs.CountingUp.{some-streams, ones-ready, close-sunk, fill-push, fill-made, fill-stopped}
use Rattle.std.proofs.lemmas.Result.{err_from_is_err_and}
use Rattle.leaves.proofs.fill.Goals as goal

pub overflow_sub-s : goal.overflow_sub-s
overflow_sub-s c = omega (arith, some-streams c.requires.2)

pub open_one-requires : goal.open_one-requires
open_one-requires c = (c.requires.1, c.requires.2.sunk)

pub make-requires : goal.make-requires
make-requires c = (
  c.requires.0,
  _,
  ones-ready c.requires.2 (c.open_one.ensures c.requires.1 c.requires.2.sunk) _,
)

pub tell-requires : goal.tell-requires
tell-requires c = close-sunk c.requires.2 (c.open_one.ensures c.requires.1 c.requires.2.sunk) _ (c.make.ensures
    c.requires.0 _ (ones-ready c.requires.2 (c.open_one.ensures c.requires.1 c.requires.2.sunk) _)) c.in_ok-made.was

pub push-requires : goal.push-requires
push-requires c = let q = fill-push c.requires.2 (c.open_one.ensures c.requires.1 c.requires.2.sunk) _ (c.make.ensures c.requires.0 _
    (ones-ready c.requires.2 (c.open_one.ensures c.requires.1 c.requires.2.sunk) _)) c.in_ok-made.was c.tell.ensures in (
      c.requires.2.low,
      c.requires.2.high,
      q.0,
      q.1,
      q.2,
      q.3,
    )

pub returns : goal.returns
returns c = λ m k g. fill-made g (c.open_one.ensures k g.sunk) _ (c.make.ensures m _ (ones-ready g (c.open_one.ensures k g.sunk) _)) c.in_ok-made.was c.tell.ensures c.push.ensures

pub returns-in_err-made : goal.returns-in_err-made
returns-in_err-made c = λ m k g.
    let p = err_from_is_err_and c.from_residual.result c.from_residual.ensures.1 in rw (p.1, p.2)
    (fill-stopped g (c.open_one.ensures k g.sunk) _ (c.make.ensures m _ (ones-ready g (c.open_one.ensures k g.sunk) _)) c.in_err-made.was)
