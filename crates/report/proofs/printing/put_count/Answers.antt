-- A name, a number of at most 20 digits and a line feed.
use native.Mathlib.Omega.{arith}
use Rattle.decimals.proofs.NumberWriting.{at-most-20}
use Rattle.report.proofs.Lines.{count-written}
use Rattle.report.proofs.printing.put_count.Goals as goal

pub put-requires : goal.put-requires
put-requires c = omega (arith, at-most-20 c.args.count (omega arith), c.put_bytes-a.ensures.count, c.write_number-b.ensures.count)

pub returns : goal.returns
returns c = count-written c.args.name.now c.args.count (omega arith) c.put_bytes-a.ensures c.write_number-b.ensures c.put.ensures
