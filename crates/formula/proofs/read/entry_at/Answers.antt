-- The tests stand in the definition's order.
use Rattle.std.proofs.Common.{◌∙◌, sym}
use Rattle.formula.proofs.Declaring.{marked, entry-last, entry-cut, entry-name, entry-deep, entry-one}
use Rattle.formula.proofs.read.entry_at.Goals as goal
use Rattle.formula.proofs.read.entry_at.Goals.{then-bytes-k-gt-VARIABLE-via-then-bytes-k-gt-VARIABLE, then-bytes-k-gt-VARIABLE-via-else-bytes-k-gt-VARIABLE+then-bytes-k-gt-DEPTH}

pub returns-then-not-is_input : goal.returns-then-not-is_input
returns-then-not-is_input c =
    entry-last c.args.bytes.now c.args.k (marked c.args.bytes.now c.args.k c.mark_at.ensures c.is_input.ensures c.if-not-is_input.true)

pub returns-then-not-has_bytes : goal.returns-then-not-has_bytes
returns-then-not-has_bytes c = let is = marked c.args.bytes.now c.args.k c.mark_at.ensures c.is_input.ensures c.if-not-is_input.false in
    entry-cut c.args.bytes.now c.args.k is (sym c.has_bytes.ensures ∙ c.if-not-has_bytes.true)

pub returns-then-bytes-k-gt-VARIABLE : goal.returns-then-bytes-k-gt-VARIABLE
returns-then-bytes-k-gt-VARIABLE c = let t = c.args.bytes.now in
    let k = c.args.k in
    let is = marked t k c.mark_at.ensures c.is_input.ensures c.if-not-is_input.false in
    let here = sym c.has_bytes.ensures ∙ c.if-not-has_bytes.false in
    elim c.then-bytes-k-gt-VARIABLE.branch [
      | then-bytes-k-gt-VARIABLE-via-then-bytes-k-gt-VARIABLE w ↦ entry-name t k is here w.if-bytes-k-gt-VARIABLE.true
      | then-bytes-k-gt-VARIABLE-via-else-bytes-k-gt-VARIABLE+then-bytes-k-gt-DEPTH w ↦
          entry-deep t k is here w.if-bytes-k-gt-VARIABLE.false w.if-bytes-k-gt-DEPTH.true
    ]

pub returns : goal.returns
returns c = let t = c.args.bytes.now in
    let k = c.args.k in
    let is = marked t k c.mark_at.ensures c.is_input.ensures c.if-not-is_input.false in
    let here = sym c.has_bytes.ensures ∙ c.if-not-has_bytes.false in
    entry-one t k is here c.if-bytes-k-gt-VARIABLE.false c.if-bytes-k-gt-DEPTH.false
