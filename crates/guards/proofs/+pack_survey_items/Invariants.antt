-- A tree's packing, and the survey of one (proofs/Items.antt, Surveys.antt).
use Prim.Native.Nat.{◌*◌, ◌+◌}
use Rattle.guards.proofs.+pack_survey_items.Given as goal

abbrev pub decreases-pack : goal.decreases-pack
decreases-pack l = 2 * l.p.depth

abbrev pub decreases-survey_items : goal.decreases-survey_items
decreases-survey_items l = 2 * l.p.depth + 1
