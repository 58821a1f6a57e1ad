-- The walk's contract over the first scene; it never stops under no units.
use native.Mathlib.Omega.{arith}
use mathlib.Core.List.{[]}
use Rattle.lister.proofs.Lining as lining
use Rattle.lister.proofs.list.put_lines.Goals as goal

pub walk-requires : goal.walk-requires
walk-requires c = lining.ready c.requires c.new-state.ensures.machine (c.new-state.ensures.sink (omega arith)) [] (omega arith) _

pub unwrap-walked-requires : goal.unwrap-walked-requires
unwrap-walked-requires c = lining.never-stopped c.requires c.new-state.ensures.machine (c.new-state.ensures.sink (omega arith)) [] (omega arith) _ c.walk.ensures

pub returns : goal.returns
returns c = λ g. lining.lined g c.new-state.ensures.machine (c.new-state.ensures.sink (omega arith)) [] (omega arith) _ c.walk.ensures c.unwrap-walked.ensures
