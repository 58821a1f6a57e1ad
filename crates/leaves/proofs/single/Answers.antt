-- One instruction, and the place of what it made (proofs/Singles.antt).
use Rattle.leaves.proofs.Singles.{sole-ready, single-push, single-made, single-stopped}
use Rattle.std.proofs.lemmas.Result.{err_from_is_err_and}
use Rattle.leaves.proofs.single.Goals as goal

pub locate-at-requires : goal.locate-at-requires
locate-at-requires c = (_, _, _, c.requires)

pub choose-requires : goal.choose-requires
choose-requires c = (_, _, _, _, c.requires, (c.locate-at.ensures _ _ _ c.requires))

pub make-requires : goal.make-requires
make-requires c = (
  _,
  _,
  sole-ready c.requires (c.locate-at.ensures _ _ _ c.requires) (c.choose.ensures _ _ _ _ c.requires (c.locate-at.ensures _ _ _ c.requires)),
)

pub push-requires : goal.push-requires
push-requires c = let q = single-push c.requires _ (c.choose.ensures _ _ _ _ c.requires (c.locate-at.ensures _ _ _ c.requires)) (c.make.ensures _ _ (sole-ready c.requires (c.locate-at.ensures _ _ _ c.requires) (c.choose.ensures _ _ _ _ c.requires (c.locate-at.ensures _ _ _ c.requires)))) c.in_ok-made.was in (
  c.requires.low,
  c.requires.scene.within,
  q.0,
  q.1,
  q.2,
  q.3,
)

pub returns : goal.returns
returns c = λ g. single-made g _ (c.choose.ensures _ _
    _ _ g (c.locate-at.ensures _ _ _ g))
    (c.make.ensures _ _ (sole-ready g (c.locate-at.ensures _ _ _ g) (c.choose.ensures _ _ _ _ g (c.locate-at.ensures _ _ _ g)))) c.in_ok-made.was _ c.push.ensures

pub returns-in_err-made : goal.returns-in_err-made
returns-in_err-made c = λ g.
    let p = err_from_is_err_and c.from_residual.result c.from_residual.ensures.1 in rw (p.1, p.2)
    (single-stopped g _ (c.choose.ensures _ _ _ _ g (c.locate-at.ensures _ _ _ g)) (c.make.ensures _ _ (sole-ready g (c.locate-at.ensures _ _ _ g) (c.choose.ensures _ _ _ _ g (c.locate-at.ensures _ _ _ g)))) _ c.in_err-made.was)
