-- The tests stand in the definition's order.
use Rattle.std.proofs.Common.{◌+◌, ◌∙◌, ap, sym}
use Rattle.std.specs.Bool.{then_some}
use Rattle.formula.proofs.Texts.{text-none, text-cut, text-by}
use Rattle.formula.proofs.read.text_at.Goals as goal
use Rattle.formula.proofs.read.text_at.Goals.{then-not-is_text-via-then-not-is_text, then-not-is_text-via-else-not-is_text+then-not-has_bytes}
use Rattle.snesl.specs.Records.{mark_va}
use lib.Dec.{eqb}

pub returns-then-not-is_text : goal.returns-then-not-is_text
returns-then-not-is_text c = let mark = ap (λ m. eqb m mark_va) (sym c.mark_at.ensures) ∙ sym c.is_text.ensures in
    elim c.then-not-is_text.branch [
      | then-not-is_text-via-then-not-is_text w ↦ text-none c.args.bytes.now c.args.k (mark ∙ w.if-not-is_text.true)
      | then-not-is_text-via-else-not-is_text+then-not-has_bytes w ↦
          text-cut c.args.bytes.now c.args.k (mark ∙ w.if-not-is_text.false) (sym w.has_bytes.ensures ∙ w.if-not-has_bytes.true)
    ]

pub returns : goal.returns
returns c = let mark = ap (λ m. eqb m mark_va) (sym c.mark_at.ensures) ∙ sym c.is_text.ensures in
    c.then_some.ensures
    ∙ (ap (λ b. then_some b (c.args.k + 4 + c.size_at-size.result)) c.has_bytes-2.ensures
    ∙ text-by c.args.bytes.now c.args.k (mark ∙ c.if-not-is_text.false) (sym c.has_bytes.ensures ∙ c.if-not-has_bytes.false) c.size_at-size.ensures)
