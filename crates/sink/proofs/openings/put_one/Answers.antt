-- Piece after piece.
use mathlib.Core.List.{[], ◌∷◌}
use Rattle.snesl.specs.Ascii.{ascii, pieces}
use Rattle.snesl.specs.Listing.{id_text}
use Rattle.decimals.proofs.Stores.{writes_then}
use Rattle.lines.specs.Pieces.{control_text}
use Rattle.lines.proofs.Writing.{countable-is, countable-first, countable-next, writes-is}
use Rattle.sink.proofs.Using.{one_line}
use Rattle.sink.proofs.openings.put_one.Goals as goal

pub put_bytes-a-requires : goal.put_bytes-a-requires
put_bytes-a-requires c = countable-first (ascii "[") (pieces ((id_text c.args.out.0) ∷ (control_text c.args.control.0) ∷ ascii "]) {\n" ∷ [])) (countable-is (one_line c.args.out.0 c.args.control.0) c.requires)

pub put_id-b-requires : goal.put_id-b-requires
put_id-b-requires c = countable-first (id_text c.args.out.0) (pieces ((control_text c.args.control.0) ∷ ascii "]) {\n" ∷ [])) (countable-next {u = ascii "["} {v = pieces ((id_text c.args.out.0)
    ∷ (control_text c.args.control.0) ∷ ascii "]) {\n" ∷ [])} (countable-is (one_line c.args.out.0 c.args.control.0) c.requires) c.put_bytes-a.ensures)

pub put_instruction-c-requires : goal.put_instruction-c-requires
put_instruction-c-requires c = countable-first (control_text c.args.control.0) (ascii "]) {\n") (countable-next {u = (id_text c.args.out.0)} {v = pieces ((control_text c.args.control.0) ∷
    ascii "]) {\n" ∷ [])} (countable-next {u = ascii "["} {v = pieces ((id_text c.args.out.0) ∷ (control_text c.args.control.0) ∷ ascii "]) {\n" ∷ [])} (countable-is
    (one_line c.args.out.0 c.args.control.0) c.requires) c.put_bytes-a.ensures) c.put_id-b.ensures)

pub put_bytes-requires : goal.put_bytes-requires
put_bytes-requires c = countable-next {u = (control_text c.args.control.0)} {v = ascii "]) {\n"} (countable-next {u = (id_text c.args.out.0)} {v = pieces ((control_text c.args.control.0)
    ∷ ascii "]) {\n" ∷ [])} (countable-next {u = ascii "["} {v = pieces ((id_text c.args.out.0) ∷ (control_text c.args.control.0) ∷ ascii "]) {\n" ∷ [])}
    (countable-is (one_line c.args.out.0 c.args.control.0) c.requires) c.put_bytes-a.ensures) c.put_id-b.ensures) c.put_instruction-c.ensures

pub returns : goal.returns
returns c = writes-is (one_line c.args.out.0 c.args.control.0) (writes_then c.put_bytes-a.ensures (writes_then c.put_id-b.ensures (writes_then c.put_instruction-c.ensures
    c.put_bytes.ensures)))
