-- The expression's lines, then the result's line.
use native.Mathlib.Omega.{arith}
use Rattle.lister.proofs.Wholes as wholes
use Rattle.lister.proofs.list.put_whole.Goals as goal

pub put_lines-lines-requires : goal.put_lines-lines-requires
put_lines-lines-requires c = c.requires

pub put_bytes-a-requires : goal.put_bytes-a-requires
put_bytes-a-requires c = wholes.result-countable c.requires c.put_lines-lines.ensures c.put_lines-lines.auto.env

pub overflow_mul-depth : goal.overflow_mul-depth
overflow_mul-depth c = omega (arith, wholes.bounds c.requires c.put_lines-lines.ensures c.put_lines-lines.auto.env)

pub overflow_add-depth : goal.overflow_add-depth
overflow_add-depth c = omega (arith, wholes.bounds c.requires c.put_lines-lines.ensures c.put_lines-lines.auto.env)

pub overflow_sub-sp : goal.overflow_sub-sp
overflow_sub-sp c = omega (arith, wholes.bounds c.requires c.put_lines-lines.ensures c.put_lines-lines.auto.env)

pub put_tree-b-requires : goal.put_tree-b-requires
put_tree-b-requires c = wholes.tree-ready c.requires c.put_lines-lines.ensures c.put_lines-lines.auto.env c.put_bytes-a.ensures

pub put-requires : goal.put-requires
put-requires c = wholes.end-countable c.requires c.put_lines-lines.ensures c.put_lines-lines.auto.env c.put_bytes-a.ensures c.put_tree-b.ensures

pub returns : goal.returns
returns c = λ g. wholes.whole g c.put_lines-lines.ensures c.put_lines-lines.auto.env c.put_bytes-a.ensures c.put_tree-b.ensures c.put.ensures
