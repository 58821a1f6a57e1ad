-- By the two tests, and by where the id stands among those that are kept.
use native.Mathlib.Omega.{arith}
use mathlib.Core.Path.{refl}
use Rattle.sink.proofs.Keeping as keeping
use Rattle.sink.proofs.kept.mark_one.Goals as goal

pub overflow_add-r : goal.overflow_add-r
overflow_add-r c = omega (arith, keeping.ranks-low c.args.kept.now.ids.now (keeping.ranked c.taken.ensures c.seek.ensures) c.in-Some.is, c.if-count-kept.false)

pub copy_within-requires-clause-start_le_end : goal.copy_within-requires-clause-start_le_end
copy_within-requires-clause-start_le_end c = keeping.ranks-low c.args.kept.now.ids.now (keeping.ranked c.taken.ensures c.seek.ensures) c.in-Some.is

pub copy_within-requires-clause-dest_in_bounds : goal.copy_within-requires-clause-dest_in_bounds
copy_within-requires-clause-dest_in_bounds c = omega (
  arith,
  keeping.ranks-low c.args.kept.now.ids.now (keeping.ranked c.taken.ensures c.seek.ensures) c.in-Some.is,
  c.if-count-kept.false,
)

pub returns-then-u-own : goal.returns-then-u-own
returns-then-u-own c = λ t n m. keeping.mark-own m c.args.own c.args.u c.if-u-own.true

pub returns-then-count-kept : goal.returns-then-count-kept
returns-then-count-kept c = λ t n m. keeping.mark-full m c.args.own c.args.u c.if-u-own.false c.if-count-kept.true

pub returns-in-Some : goal.returns-in-Some
returns-in-Some c = λ t n m.
    keeping.ranked-new m c.args.own c.args.u c.if-u-own.false c.if-count-kept.false (keeping.ranked c.taken.ensures c.seek.ensures) c.in-Some.is
    c.copy_within.ensures.after _ refl refl
