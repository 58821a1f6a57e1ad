-- Each arm's mark tells the test.
use Rattle.std.proofs.Common.{◌∙◌, ap}
use Rattle.std.specs.Prelude.{Ok}
use Rattle.formula.proofs.Texts.{text-is}
use Rattle.formula.proofs.read.is_text.Goals as goal

pub returns-in-Ok-Text : goal.returns-in-Ok-Text
returns-in-Ok-Text c = text-is c.try_from.ensures (c.in-Ok-Text.is ∙ ap Ok c.in-Ok-Text.field-0-is)

pub returns-in-Ok-Input : goal.returns-in-Ok-Input
returns-in-Ok-Input c = text-is c.try_from.ensures (c.in-Ok-Input.is ∙ ap Ok c.in-Ok-Input.field-0-is)

pub returns-in-Ok-Expression : goal.returns-in-Ok-Expression
returns-in-Ok-Expression c = text-is c.try_from.ensures (c.in-Ok-Expression.is ∙ ap Ok c.in-Ok-Expression.field-0-is)

pub returns-in-Err : goal.returns-in-Err
returns-in-Err c = text-is c.try_from.ensures c.in-Err.is
