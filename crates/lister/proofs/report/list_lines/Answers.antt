-- A listing stands as `list` left it; a refusal is followed by its line.
use mathlib.Core.Path.{sym, ◌∙◌}
use Rattle.lister.proofs.Reporting.{listed-printed, refusal-printed}
use Rattle.lister.proofs.report.list_lines.Goals as goal

pub returns-in-Ok : goal.returns-in-Ok
returns-in-Ok c = listed-printed c.args.formula.now c.args.text.now (sym c.in-Ok.is ∙ c.list.ensures.0) c.list.ensures.1

pub returns-in-Err : goal.returns-in-Err
returns-in-Err c = refusal-printed c.args.formula.now c.args.text.now (sym c.in-Err.is ∙ c.list.ensures.0) c.list.ensures.1 c.refusal_line.ensures
