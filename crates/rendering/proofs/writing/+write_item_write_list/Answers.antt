-- The writers of an item and of a list call each other, as the readers do, with the same measure. The loop over a list's items keeps `Enlisting`.
use mathlib.Core.Path.{sym, ◌∙◌}
use native.Mathlib.Omega.{arith}
use Rattle.valuetext.proofs.ReadingAt.{deeper}
use Rattle.rendering.proofs.WritingSteps.{enlisting-start}
use Rattle.rendering.proofs.WritingAt.{showable-at, shown-at, flag-inside-at, end-short-at, closed_at, empty-at, mark-short-at, item-showable-at, enlisting-on-at, moved-on-at}
use Rattle.rendering.proofs.writing.+write_item_write_list.Goals as goal
use Rattle.rendering.proofs.writing.+write_item_write_list.Goals.{write_list-then-mark-ne44, write_list-else-mark-ne44}

pub write_item-write_leaf-requires : goal.write_item-write_leaf-requires
write_item-write_leaf-requires t c = showable-at c.if-depth-eq0.true c.requires

pub write_item-returns-then-depth-eq0 : goal.write_item-returns-then-depth-eq0
write_item-returns-then-depth-eq0 t c = shown-at (sym c.if-depth-eq0.true) c.write_leaf.ensures

pub write_item-write_list-requires : goal.write_item-write_list-requires
write_item-write_list-requires t c = (omega arith, (c.requires, omega (arith, c.if-depth-eq0.false)))

pub write_item-returns : goal.write_item-returns
write_item-returns t c = c.write_list.ensures

pub write_list-loop-base-init : goal.write_list-loop-base-init
write_list-loop-base-init t c = enlisting-start (showable-at (sym (deeper c.args.depth c.requires.depth_nonzero)) c.requires.showable)

pub write_list-stops-requires : goal.write_list-stops-requires
write_list-stops-requires t c = flag-inside-at (deeper c.args.depth c.requires.depth_nonzero) c.loop-base.invariant

pub write_list-put-next-requires : goal.write_list-put-next-requires
write_list-put-next-requires t c = omega (arith, mark-short-at (deeper c.args.depth c.requires.depth_nonzero) c.loop-base.invariant c.stops.ensures.cursors_after (sym c.stops.ensures.value ∙ c.loop-base-test.true))

pub write_list-put-next-requires-then-mark-ne44 : goal.write_list-put-next-requires-then-mark-ne44
write_list-put-next-requires-then-mark-ne44 t c = omega (arith, end-short-at (deeper c.args.depth c.requires.depth_nonzero) c.loop-base.invariant c.stops.ensures.cursors_after (sym c.stops.ensures.value ∙ c.loop-base-test.false))

pub write_list-put-requires : goal.write_list-put-requires
write_list-put-requires t c =
    let short = end-short-at (deeper c.args.depth c.requires.depth_nonzero) c.loop-base.invariant c.stops.ensures.cursors_after (sym c.stops.ensures.value ∙ c.loop-base-test.false) in
    elim c.if-mark-ne44.branch [
      | write_list-then-mark-ne44 w ↦ omega (arith, short, w.next-is, w.put-next-then-mark-ne44.ensures.count)
      | write_list-else-mark-ne44 w ↦ omega (arith, short, w.next-is)
    ]

pub write_list-returns : goal.write_list-returns
write_list-returns t c =
    elim c.if-mark-ne44.branch [
      | write_list-then-mark-ne44 w ↦ empty-at (deeper c.args.depth c.requires.depth_nonzero) c.loop-base.invariant c.stops.ensures.cursors_after (sym c.stops.ensures.value ∙ c.loop-base-test.false) w.if-mark-ne44.true w.put-next-then-mark-ne44.ensures (rw (w.answer-is, w.next-is) at c.put.ensures)
      | write_list-else-mark-ne44 w ↦ closed_at (deeper c.args.depth c.requires.depth_nonzero) c.loop-base.invariant c.stops.ensures.cursors_after (sym c.stops.ensures.value ∙ c.loop-base-test.false) w.if-mark-ne44.false (rw (w.answer-is, w.next-is) at c.put.ensures)
    ]

pub write_list-overflow_sub-depth : goal.write_list-overflow_sub-depth
write_list-overflow_sub-depth t c = omega (arith, c.requires.depth_nonzero)

pub write_list-write_item-next-requires : goal.write_list-write_item-next-requires
write_list-write_item-next-requires t c = (omega (arith, c.requires.depth_nonzero), item-showable-at (deeper c.args.depth c.requires.depth_nonzero) c.loop-base.invariant c.stops.ensures.cursors_after (sym c.stops.ensures.value ∙ c.loop-base-test.true) c.put-next.ensures)

pub write_list-loop-base-smaller : goal.write_list-loop-base-smaller
write_list-loop-base-smaller t c = omega (arith, moved-on-at (deeper c.args.depth c.requires.depth_nonzero) c.loop-base.invariant c.stops.ensures.cursors_after (sym c.stops.ensures.value ∙ c.loop-base-test.true) c.put-next.ensures c.write_item-next.ensures, (flag-inside-at (deeper c.args.depth c.requires.depth_nonzero) c.loop-base.invariant).1)

pub write_list-loop-base-preserved : goal.write_list-loop-base-preserved
write_list-loop-base-preserved t c = enlisting-on-at (deeper c.args.depth c.requires.depth_nonzero) c.loop-base.invariant c.stops.ensures.cursors_after (sym c.stops.ensures.value ∙ c.loop-base-test.true) c.put-next.ensures c.write_item-next.ensures
