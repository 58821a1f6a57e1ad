-- Four lines, one after another; each count has at most 20 digits.
use Rattle.report.proofs.Lines.{value_written}
use Rattle.report.proofs.printing.value_lines.Goals as goal

pub returns : goal.returns
returns c = value_written c.args.value.now c.args.counts.work c.args.counts.steps c.args.counts.room c.put_bytes-a.ensures c.put_bytes-b.ensures c.put-c.ensures c.put_count-d.ensures c.put_count-e.ensures c.put_count.ensures
