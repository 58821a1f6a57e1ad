-- The ids before `from` are written.
use native.Mathlib.Omega.{arith}
use Rattle.lines.proofs.Writing.{writes-length}
use Rattle.sink.proofs.Least.{least-of, least-last}
use Rattle.sink.proofs.Ascent.{rest-start, rest_end, rest-countable, rest-on, least-from}
use Rattle.sink.proofs.trees.put_outs.Goals as goal

pub loop-q-init : goal.loop-q-init
loop-q-init c = λ g. rest-start

pub least_at-s-requires : goal.least_at-s-requires
least_at-s-requires c = c.requires.held

pub shape_of-text-then-s-hi : goal.shape_of-text-then-s-hi
shape_of-text-then-s-hi c = writes-length (c.loop-q.invariant c.requires).left.writes

pub returns-then-s-hi : goal.returns-then-s-hi
returns-then-s-hi c = λ g. rest_end (c.loop-q.invariant g) (least-of g.held.ids (c.least_at-s.ensures g.held)) (least-last (least-of g.held.ids (c.least_at-s.ensures g.held)) c.if-s-hi.true)

pub put_next-p-requires : goal.put_next-p-requires
put_next-p-requires c = rest-countable (c.loop-q.invariant c.requires) (least-of c.requires.held.ids (c.least_at-s.ensures c.requires.held)) c.if-s-hi.false c.requires.countable

pub overflow_add-from : goal.overflow_add-from
overflow_add-from c = omega (arith, c.if-s-hi.false, c.ranges.hi)

pub loop-q-smaller : goal.loop-q-smaller
loop-q-smaller c = omega (arith, c.if-s-hi.false, least-from (least-of c.requires.held.ids (c.least_at-s.ensures c.requires.held)) c.if-s-hi.false)

pub loop-q-preserved : goal.loop-q-preserved
loop-q-preserved c = λ g. rest-on (c.loop-q.invariant g) (least-of g.held.ids (c.least_at-s.ensures g.held)) c.if-s-hi.false c.put_next-p.ensures
