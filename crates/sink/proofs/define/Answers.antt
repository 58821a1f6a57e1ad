-- By the sink's mode.
use borrow.Author.Rules.{rules}
use Rattle.sink.proofs.Using.{define-short}
use Rattle.sink.proofs.define.Goals as goal

pub put_line-requires : goal.put_line-requires
put_line-requires c = (c.requires, define-short c.args.id.0 c.args.t {r = c.operands_of-used.result} (search rules) c.operands_of-used.ensures)
