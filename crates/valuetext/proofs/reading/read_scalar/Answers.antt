-- Of each base its own reader.
use Rattle.std.proofs.Common.{sym, ap, ◌∙◌}
use Rattle.snesl.specs.declared.code.Base.{Base}
use Rattle.valuetext.specs.Reading.{scalar_at}
use Rattle.valuetext.proofs.ReadingSteps.{int_at_lem}
use Rattle.valuetext.proofs.reading.read_scalar.Goals as goal

pub returns-in-Int : goal.returns-in-Int
returns-in-Int c = c.read_int.ensures ∙ int_at_lem c.args.text.now ∙ ap (λ (β : Base). scalar_at β c.args.text.now) (sym c.in-Int.is)

pub returns-in-Bool : goal.returns-in-Bool
returns-in-Bool c = c.read_bool.ensures ∙ ap (λ (β : Base). scalar_at β c.args.text.now) (sym c.in-Bool.is)
