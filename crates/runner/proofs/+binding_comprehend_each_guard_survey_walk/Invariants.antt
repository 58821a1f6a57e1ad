-- The walk and its arms that call it again: the bytes left are the measure. proofs/Dispatch.antt has the arms, proofs/Lets.antt, proofs/Surveys.antt,
-- proofs/Comprehensions.antt and proofs/Guards.antt what comes of the expressions behind a LT, an EA and a GU.
use Prim.Native.Nat.{◌+◌, ◌*◌, ◌-◌}
use lib.ListN.{length}
use Rattle.runner.proofs.+binding_comprehend_each_guard_survey_walk.Given as goal

abbrev pub decreases-binding : goal.decreases-binding
decreases-binding l = 5 * (length l.bytes.now - l.k)

abbrev pub decreases-comprehend : goal.decreases-comprehend
decreases-comprehend l = 5 * (length l.bytes.now - l.body.at) + 3

abbrev pub decreases-each : goal.decreases-each
decreases-each l = 5 * (length l.bytes.now - l.k)

abbrev pub decreases-guard : goal.decreases-guard
decreases-guard l = 5 * (length l.bytes.now - l.k)

abbrev pub decreases-survey : goal.decreases-survey
decreases-survey l = 5 * (length l.bytes.now - l.body.at) + 2

abbrev pub decreases-walk : goal.decreases-walk
decreases-walk l = 5 * (length l.bytes.now - l.k) + 1
