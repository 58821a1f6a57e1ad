-- The two tests are the definition's own; the row stands within the record.
use Rattle.std.proofs.Common.{◌+◌, ◌∙◌, sym, leb-true, length, arith}
use Rattle.records.specs.Heads.{shaped}
use Rattle.records.proofs.Variables.{row-part}
use Rattle.records.proofs.head.sized.Goals as goal

pub returns-then-not-variables_ok : goal.returns-then-not-variables_ok
returns-then-not-variables_ok c = let within = sym c.has_bytes.ensures ∙ c.if-not-has_bytes.false in
    let l = leb-true (c.args.k + c.args.size) (length c.args.bytes.now) within in
    let row = row-part c.args.bytes.now (c.args.k + 2) c.args.count (omega arith) in
    rw (within, sym row ∙ (sym c.variables_ok.ensures ∙ c.if-not-variables_ok.true), shaped)

pub returns : goal.returns
returns c = let within = sym c.has_bytes.ensures ∙ c.if-not-has_bytes.false in
    let l = leb-true (c.args.k + c.args.size) (length c.args.bytes.now) within in
    let row = row-part c.args.bytes.now (c.args.k + 2) c.args.count (omega arith) in
    rw (within, sym row ∙ (sym c.variables_ok.ensures ∙ c.if-not-variables_ok.false), shaped)
