-- The line, and then the sink.
use mathlib.Core.Path.{refl}
use Rattle.std.proofs.Common.{◌∙◌}
use Rattle.sink.proofs.Keeping.{kept-ids}
use Rattle.sink.proofs.Opening as openings
use Rattle.sink.proofs.openings.open_body.Goals as goal

pub put_opening-end-requires : goal.put_opening-end-requires
put_opening-end-requires c = (c.requires.0, c.requires.1, c.taken-kept.ensures ∙ kept-ids c.requires.1.sunk.marks)

pub returns : goal.returns
returns c = λ k g. openings.opens g refl (c.put_opening-end.ensures k g (c.taken-kept.ensures ∙ kept-ids g.sunk.marks)) (c.end_survey.ensures _ k g.sunk)
