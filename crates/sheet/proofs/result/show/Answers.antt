-- Measured, and written where it fits.
use native.Mathlib.Omega.{arith}
use Rattle.sheet.proofs.Answering.{words-within, shallow, value-stands, too_long, written}
use Rattle.sheet.proofs.result.show.Goals as goal

pub overflow_add-depth : goal.overflow_add-depth
overflow_add-depth c = omega (arith, shallow c.args.base c.args.depth c.requires)

pub tree_starts-requires : goal.tree_starts-requires
tree_starts-requires c = (words-within c.args.base c.args.depth c.requires, omega (arith, shallow c.args.base c.args.depth c.requires))

pub overflow_cast-depth : goal.overflow_cast-depth
overflow_cast-depth c = omega (arith, shallow c.args.base c.args.depth c.requires)

pub value_text-bytes-requires : goal.value_text-bytes-requires
value_text-bytes-requires c = value-stands c.args.base c.args.depth c.requires c.tree_starts.new.places c.tree_starts.ensures c.tree_starts.auto.places

pub returns-then-bytes-answer : goal.returns-then-bytes-answer
returns-then-bytes-answer c = λ g. too_long c.args.base c.args.depth g c.tree_starts.new.places c.tree_starts.ensures c.value_text-bytes.ensures c.args.answer.now c.if-bytes-answer.true

pub overflow_cast-depth-2 : goal.overflow_cast-depth-2
overflow_cast-depth-2 c = omega (arith, shallow c.args.base c.args.depth c.requires)

pub value_text-requires : goal.value_text-requires
value_text-requires c = value-stands c.args.base c.args.depth c.requires c.tree_starts.new.places c.tree_starts.ensures c.tree_starts.auto.places

pub returns : goal.returns
returns c = λ g.
    written c.args.base c.args.depth g c.tree_starts.new.places c.tree_starts.ensures c.value_text-bytes.ensures c.args.answer.now c.value_text.new.answer c.if-bytes-answer.false c.value_text.ensures
