-- No expression's mark, and a record that is cut or over a limit, have no fields.
use Rattle.std.proofs.Common.{◌∙◌, ap, sym}
use Rattle.std.specs.Prelude.{Ok}
use Rattle.std.proofs.lemmas.Result.{err_from_is_err_and}
use Rattle.records.proofs.Heads.{form-is, no-form, misshapen}
use Rattle.records.proofs.head.head_at.Goals as goal

pub returns-in_err-shape_of-in-Ok-Expression : goal.returns-in_err-shape_of-in-Ok-Expression
returns-in_err-shape_of-in-Ok-Expression c =
    let p = err_from_is_err_and c.from_residual.result c.from_residual.ensures.1 in
    let f = form-is c.try_from.ensures (c.in-Ok-Expression.is ∙ ap Ok c.in-Ok-Expression.field-0-is) in
    rw (p.1, p.2) (misshapen c.args.bytes.now c.args.k c.mark_at.ensures _ f _ (sym c.in_err-shape_of-in-Ok-Expression.was ∙ c.shape_of.ensures))

pub returns-in-Ok-Input : goal.returns-in-Ok-Input
returns-in-Ok-Input c =
    no-form c.args.bytes.now c.args.k c.mark_at.ensures (form-is c.try_from.ensures (c.in-Ok-Input.is ∙ ap Ok c.in-Ok-Input.field-0-is))

pub returns-in-Ok-Text : goal.returns-in-Ok-Text
returns-in-Ok-Text c =
    no-form c.args.bytes.now c.args.k c.mark_at.ensures (form-is c.try_from.ensures (c.in-Ok-Text.is ∙ ap Ok c.in-Ok-Text.field-0-is))

pub returns-in-Err : goal.returns-in-Err
returns-in-Err c = no-form c.args.bytes.now c.args.k c.mark_at.ensures (form-is c.try_from.ensures c.in-Err.is)
