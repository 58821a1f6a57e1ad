-- The ids before `from` are written.
use Prim.Native.Nat.{◌-◌}
use Rattle.sink.proofs.Ascent.{Rest}
use Rattle.sink.specs.Trees.{OutsAt}
use Rattle.sink.proofs.trees.put_outs.Given as goal

abbrev pub invariant-loop-q : goal.invariant-loop-q
invariant-loop-q l = (g : OutsAt l.env l.q l.count l.lo l.hi l.at) → Rest g.held.ids l.lo l.hi l.initial.text l.at l.first l.from l.text l.p

abbrev pub decreases-loop-q : goal.decreases-loop-q
decreases-loop-q l = l.hi - l.from
