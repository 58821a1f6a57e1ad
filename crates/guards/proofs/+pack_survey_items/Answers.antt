-- A tree's packing, and the survey of one (proofs/Items.antt, Surveys.antt).
use mathlib.Core.Path.{refl, ◌∙◌}
use native.Mathlib.Omega.{arith}
use borrow.Author.Rules.{rules}
use Rattle.guards.proofs.Items.{leaf-ready, leaf-ends, node-ready, low-three, items-ready, again-ready, close-ready, level-stopped, node-stopped, node-whole}
use Rattle.guards.proofs.Surveys.{some-streams, no_line, survey-ready, open-ready, line-told, never-stops}
use Rattle.std.proofs.lemmas.Result.{err_from_is_err_and}
use Rattle.guards.proofs.+pack_survey_items.Goals as goal

pub pack-pack_data-requires : goal.pack-pack_data-requires
pack-pack_data-requires t c = leaf-ready c.requires c.if-p-eq0.true

pub pack-returns-then-p-eq0 : goal.pack-returns-then-p-eq0
pack-returns-then-p-eq0 t c = leaf-ends c.pack_data.ensures c.if-p-eq0.true

pub pack-overflow_sub-items : goal.pack-overflow_sub-items
pack-overflow_sub-items t c = omega (arith, (low-three c.requires c.if-p-eq0.false).0)

pub pack-overflow_sub-items-2 : goal.pack-overflow_sub-items-2
pack-overflow_sub-items-2 t c = omega (arith, (low-three c.requires c.if-p-eq0.false).1)

pub pack-overflow_sub-items-3 : goal.pack-overflow_sub-items-3
pack-overflow_sub-items-3 t c = omega (arith, (low-three c.requires c.if-p-eq0.false).1)

pub pack-pack_level-requires : goal.pack-pack_level-requires
pack-pack_level-requires t c = node-ready c.requires c.if-p-eq0.false

pub pack-survey_items-requires : goal.pack-survey_items-requires
pack-survey_items-requires t c = (
  omega (
    arith,
    c.requires,
    (low-three c.requires c.if-p-eq0.false).0,
  ),
  items-ready c.pack_level.ensures c.if-p-eq0.false c.in_ok-units.was c.requires,
)

pub pack-pack-requires : goal.pack-pack-requires
pack-pack-requires t c = (
  omega (
    arith,
    c.requires,
    (low-three c.requires c.if-p-eq0.false).0,
  ),
  again-ready c.pack_level.ensures c.if-p-eq0.false c.in_ok-units.was c.survey_items.ensures c.survey_items.auto.env c.requires,
)

pub pack-tell-requires : goal.pack-tell-requires
pack-tell-requires t c = close-ready c.pack_level.ensures c.if-p-eq0.false c.in_ok-units.was c.survey_items.ensures c.survey_items.auto.env c.pack.ensures (c.survey_items.auto.buf ∙ c.pack_level.auto.buf) c.requires c.in_ok-pack.was

pub pack-returns : goal.pack-returns
pack-returns t c = node-whole c.pack_level.ensures c.if-p-eq0.false c.in_ok-units.was c.survey_items.ensures c.survey_items.auto.env c.pack.ensures (c.survey_items.auto.buf ∙ c.pack_level.auto.buf) c.in_ok-pack.was (λ j u. record { sunk = c.tell.ensures j u; machine = refl })

pub pack-returns-in_err-pack : goal.pack-returns-in_err-pack
pack-returns-in_err-pack t c =
    let p = err_from_is_err_and c.from_residual-in_err-pack.result c.from_residual-in_err-pack.ensures.1 in rw (p.1, p.2)
    (node-stopped c.pack_level.ensures c.if-p-eq0.false c.in_ok-units.was c.survey_items.ensures c.survey_items.auto.env c.pack.ensures (c.survey_items.auto.buf ∙ c.pack_level.auto.buf) c.in_err-pack.was)

pub pack-returns-in_err-units : goal.pack-returns-in_err-units
pack-returns-in_err-units t c =
    let p = err_from_is_err_and c.from_residual.result c.from_residual.ensures.1 in rw (p.1, p.2)
    (level-stopped c.pack_level.ensures c.if-p-eq0.false c.in_err-units.was)

pub survey_items-returns-then-ne : goal.survey_items-returns-then-ne
survey_items-returns-then-ne t c = λ d t b e m k g. no_line g (search rules)

pub survey_items-overflow_sub-control : goal.survey_items-overflow_sub-control
survey_items-overflow_sub-control t c = omega (arith, some-streams c.requires.6)

pub survey_items-begin_survey-requires : goal.survey_items-begin_survey-requires
survey_items-begin_survey-requires t c = (_, _, c.requires.6.sunk)

pub survey_items-pack-requires : goal.survey_items-pack-requires
survey_items-pack-requires t c = (
  omega (arith, c.requires),
  (
    _,
    _,
    _,
    _,
    _,
    _,
    survey-ready c.requires.6 (search rules) c.begin_survey.ensures,
  ),
)

pub survey_items-open_body-requires : goal.survey_items-open_body-requires
survey_items-open_body-requires t c = open-ready c.requires.6 (search rules) c.begin_survey.ensures (c.pack.ensures _ _ _ _ _
    _ (survey-ready c.requires.6 (search rules) c.begin_survey.ensures)) c.pack.auto.env

pub survey_items-returns-then-is_ok : goal.survey_items-returns-then-is_ok
survey_items-returns-then-is_ok t c = λ d t b e m k g. line-told g (search rules) c.begin_survey.ensures (c.pack.ensures _ _ _ _ _ _ (survey-ready g (search rules) c.begin_survey.ensures)) c.pack.auto.env refl c.open_body.ensures

pub survey_items-returns-else-is_ok : goal.survey_items-returns-else-is_ok
survey_items-returns-else-is_ok t c = λ d t b e m k g. never-stops g (search rules) c.begin_survey.ensures (c.pack.ensures _ _ _ _ _ _ (survey-ready g (search rules) c.begin_survey.ensures)) c.if-is_ok.ensures.value
