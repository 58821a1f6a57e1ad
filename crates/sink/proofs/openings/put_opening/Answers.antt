-- Piece after piece, where the position is not too far on.
use borrow.Author.Rules.{rules}
use Rattle.sink.proofs.Opening as opening
use Rattle.sink.proofs.openings.put_opening.Goals as goal

pub returns-then-at-gt-FAR : goal.returns-then-at-gt-FAR
returns-then-at-gt-FAR c = λ k g e. opening.nothing g _ _ c.if-at-gt-FAR.true

pub put_outs-b-requires : goal.put_outs-b-requires
put_outs-b-requires c = opening.outs-at c.requires.1 c.args.control.0 (search rules) c.args.next c.ranges.next.fits c.requires.2 (λ i. (c.type_inv.kept i).fits) c.if-at-gt-FAR.false c.put_bytes-a.ensures

pub put_instruction-c-requires : goal.put_instruction-c-requires
put_instruction-c-requires c = opening.control-countable c.requires.1 c.args.control.0 (search rules) c.args.next c.ranges.next.fits c.requires.2 (λ i. (c.type_inv.kept i).fits) c.if-at-gt-FAR.false c.put_bytes-a.ensures
    c.put_outs-b.ensures

pub put_kept-d-requires : goal.put_kept-d-requires
put_kept-d-requires c = opening.kept-countable c.requires.1 c.args.control.0 (search rules) c.args.next c.ranges.next.fits c.requires.2 (λ i. (c.type_inv.kept i).fits) c.if-at-gt-FAR.false c.put_bytes-a.ensures
    c.put_outs-b.ensures c.put_instruction-c.ensures

pub put_bytes-requires : goal.put_bytes-requires
put_bytes-requires c = opening.end-countable c.requires.1 c.args.control.0 (search rules) c.args.next c.ranges.next.fits c.requires.2 (λ i. (c.type_inv.kept i).fits) c.if-at-gt-FAR.false c.put_bytes-a.ensures
    c.put_outs-b.ensures c.put_instruction-c.ensures c.put_kept-d.ensures

pub returns : goal.returns
returns c = λ k g e. opening.opened-line g c.args.control.0 (search rules) c.args.next c.ranges.next.fits e (λ i. (c.type_inv.kept i).fits) c.if-at-gt-FAR.false c.put_bytes-a.ensures
    c.put_outs-b.ensures c.put_instruction-c.ensures c.put_kept-d.ensures c.put_bytes.ensures
