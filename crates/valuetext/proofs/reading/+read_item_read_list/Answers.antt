-- The item reader and the list reader call each other. The measure is twice the depth, and one more for an item, which hands a list of its own depth on;
-- a list hands its items on at one depth less. The loop over a list's items keeps `Listing`.
use Rattle.std.proofs.Common.{sym, ◌∙◌, arith}
use Rattle.valuetext.proofs.ReadingSteps.{listing_start, listing-no, item-ready, item-comma-at, item-else}
use Rattle.valuetext.proofs.ReadingAt.{deeper, ready_at, read_at, empty-at, no-list-at, laid_of, none_of, part-ready, part-read, item-at, end-ready-at, close_at}
use Rattle.valuetext.proofs.reading.+read_item_read_list.Goals as goal

pub read_item-returns-in-Empty : goal.read_item-returns-in-Empty
read_item-returns-in-Empty t c = empty-at c.args.base c.args.depth c.if-depth-eq0.false (sym c.in-Empty.is ∙ c.opening_of.ensures) c.append.ensures.elements_after c.append.ensures.cursors_after

pub read_item-returns-in-No : goal.read_item-returns-in-No
read_item-returns-in-No t c = no-list-at c.args.base c.args.depth c.if-depth-eq0.false (sym c.in-No.is ∙ c.opening_of.ensures)

pub read_list-loop-n-init : goal.read_list-loop-n-init
read_list-loop-n-init t c = listing_start (ready_at (sym (deeper c.args.depth c.requires.depth_nonzero.0)) c.requires.ready) c.requires.depth_nonzero.1

pub read_list-read_item-requires : goal.read_list-read_item-requires
read_list-read_item-requires t c = (omega (arith, c.requires.depth_nonzero.0), part-ready c.args.text.now c.loop-n.k (item-ready c.loop-n.invariant))

pub read_list-loop-n-preserved : goal.read_list-loop-n-preserved
read_list-loop-n-preserved t c = let laid = laid_of (part-read c.args.text.now c.loop-n.k c.read_item.ensures) c.in_ok-n.was in
    item-comma-at (item-at (deeper c.args.depth c.requires.depth_nonzero.0) c.loop-n.invariant laid c.append.ensures.elements_after c.append.ensures.cursors_after) (sym c.in-Comma.is ∙ c.what_follows.ensures) (omega arith)

pub read_list-append-requires-in-Close : goal.read_list-append-requires-in-Close
read_list-append-requires-in-Close t c = let laid = laid_of (part-read c.args.text.now c.loop-n.k c.read_item.ensures) c.in_ok-n.was in
    end-ready-at (deeper c.args.depth c.requires.depth_nonzero.0) (item-at (deeper c.args.depth c.requires.depth_nonzero.0) c.loop-n.invariant laid c.append.ensures.elements_after c.append.ensures.cursors_after) (sym c.in-Close.is ∙ c.what_follows.ensures)

pub read_list-returns-in-Close : goal.read_list-returns-in-Close
read_list-returns-in-Close t c = let laid = laid_of (part-read c.args.text.now c.loop-n.k c.read_item.ensures) c.in_ok-n.was in
    close_at (deeper c.args.depth c.requires.depth_nonzero.0) (item-at (deeper c.args.depth c.requires.depth_nonzero.0) c.loop-n.invariant laid c.append.ensures.elements_after c.append.ensures.cursors_after) (sym c.in-Close.is ∙ c.what_follows.ensures) c.append-in-Close.ensures.elements_after c.append-in-Close.ensures.cursors_after

pub read_list-returns-in-Else : goal.read_list-returns-in-Else
read_list-returns-in-Else t c = let laid = laid_of (part-read c.args.text.now c.loop-n.k c.read_item.ensures) c.in_ok-n.was in
    read_at (deeper c.args.depth c.requires.depth_nonzero.0) (item-else (item-at (deeper c.args.depth c.requires.depth_nonzero.0) c.loop-n.invariant laid c.append.ensures.elements_after c.append.ensures.cursors_after) (sym c.in-Else.is ∙ c.what_follows.ensures))

pub read_list-returns-in_err-n : goal.read_list-returns-in_err-n
read_list-returns-in_err-n t c = read_at (deeper c.args.depth c.requires.depth_nonzero.0) (listing-no c.loop-n.invariant (none_of (part-read c.args.text.now c.loop-n.k c.read_item.ensures) c.in_err-n.was) c.from_residual.ensures)
