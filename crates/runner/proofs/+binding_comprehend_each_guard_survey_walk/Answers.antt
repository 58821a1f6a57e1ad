-- The walk and its arms that call it again: the bytes left are the measure. proofs/Dispatch.antt has the arms, proofs/Lets.antt, proofs/Surveys.antt,
-- proofs/Comprehensions.antt and proofs/Guards.antt what comes of the expressions behind a LT, an EA and a GU.
use mathlib.Core.Path.{refl, sym, ap, ◌∙◌}
use Rattle.std.proofs.Common.{Ok}
use Rattle.runner.proofs.Lets as lets
use Rattle.runner.proofs.Lets.{bound-ready, second-ready}
use Rattle.runner.proofs.Surveys.{no_line, survey-ready, never-stops, shallow, tree-fits, open-ready, line-told}
use Rattle.runner.proofs.Comprehensions as comprehensions
use Rattle.runner.proofs.Comprehensions.{told-ready, each-entire}
use Rattle.runner.proofs.Dispatch as dispatch
use native.Mathlib.Omega.{arith}
use borrow.Author.Rules.{rules}
use Rattle.runner.proofs.Guards as guards
use Rattle.std.proofs.lemmas.Result.{err_from_is_err_and}
use Rattle.runner.proofs.+binding_comprehend_each_guard_survey_walk.Goals as goal

pub binding-overflow_add-k : goal.binding-overflow_add-k
binding-overflow_add-k t c = omega (arith, lets.let-bytes c.requires)

pub binding-walk-requires : goal.binding-walk-requires
binding-walk-requires t c = (omega (arith, c.decreases, lets.let-bytes c.requires), bound-ready c.requires)

pub binding-overflow_add-k-2 : goal.binding-overflow_add-k-2
binding-overflow_add-k-2 t c = omega (arith, lets.let-bytes c.requires)

pub binding-bounds-bytes-k : goal.binding-bounds-bytes-k
binding-bounds-bytes-k t c = omega (arith, lets.let-bytes c.requires)

pub binding-bind_tree-inner-requires : goal.binding-bind_tree-inner-requires
binding-bind_tree-inner-requires t c = lets.bind-fits c.requires c.args.n (c.walk.ensures (bound-ready c.requires)) c.in_ok-bound.was c.walk.auto.env

pub binding-walk-requires-2 : goal.binding-walk-requires-2
binding-walk-requires-2 t c = (
  omega (arith, c.decreases, lets.second-later c.requires c.args.n (c.walk.ensures (bound-ready c.requires)) c.in_ok-bound.was),
  (second-ready c.requires c.args.n
      (c.walk.ensures (bound-ready c.requires)) c.in_ok-bound.was c.bind_tree-inner.ensures.0 c.bind_tree-inner.ensures.1 c.walk.auto.env),
)

pub binding-lift_tree-requires : goal.binding-lift_tree-requires
binding-lift_tree-requires t c = lets.lift-fits c.requires c.args.n (c.walk.ensures (bound-ready c.requires)) c.in_ok-bound.was c.bind_tree-inner.ensures.0 c.bind_tree-inner.ensures.1 c.walk.auto.env c.walk.auto.buf (c.walk-2.ensures (second-ready c.requires c.args.n (c.walk.ensures (bound-ready c.requires)) c.in_ok-bound.was
    c.bind_tree-inner.ensures.0 c.bind_tree-inner.ensures.1 c.walk.auto.env)) c.in_ok-body.was c.walk-2.auto.env

pub binding-returns : goal.binding-returns
binding-returns t c = λ g. lets.let_runs g c.args.n (c.walk.ensures (bound-ready g)) c.in_ok-bound.was c.bind_tree-inner.ensures.0 c.bind_tree-inner.ensures.1 c.walk.auto.env
    c.walk.auto.buf (c.walk-2.ensures (second-ready g c.args.n (c.walk.ensures (bound-ready g)) c.in_ok-bound.was c.bind_tree-inner.ensures.0 c.bind_tree-inner.ensures.1 c.walk.auto.env)) c.in_ok-body.was c.walk-2.auto.env c.lift_tree.ensures

pub binding-returns-in_err-body : goal.binding-returns-in_err-body
binding-returns-in_err-body t c = λ g.
    let p = err_from_is_err_and c.from_residual-in_err-body.result c.from_residual-in_err-body.ensures.1 in rw (p.1, p.2)
    (lets.body-stopped g c.args.n (c.walk.ensures (bound-ready g)) c.in_ok-bound.was c.bind_tree-inner.ensures.0 c.bind_tree-inner.ensures.1 c.walk.auto.env
    c.walk.auto.buf (c.walk-2.ensures (second-ready g c.args.n (c.walk.ensures (bound-ready g)) c.in_ok-bound.was c.bind_tree-inner.ensures.0 c.bind_tree-inner.ensures.1 c.walk.auto.env)) c.in_err-body.was)

pub binding-returns-in_err-bound : goal.binding-returns-in_err-bound
binding-returns-in_err-bound t c = λ g.
    let p = err_from_is_err_and c.from_residual.result c.from_residual.ensures.1 in rw (p.1, p.2)
    (lets.bound-stopped g c.args.n (c.walk.ensures (bound-ready g)) c.in_err-bound.was)

pub comprehend-survey-requires : goal.comprehend-survey-requires
comprehend-survey-requires t c = (omega (arith, c.decreases), c.requires.over)

pub comprehend-walk-requires : goal.comprehend-walk-requires
comprehend-walk-requires t c = (omega (arith, c.decreases), told-ready c.requires (c.survey.ensures c.requires.over) c.survey.auto.env c.survey.auto.buf)

pub comprehend-tell-requires : goal.comprehend-tell-requires
comprehend-tell-requires t c = comprehensions.close-sunk c.requires (c.survey.ensures c.requires.over) c.survey.auto.env c.survey.auto.buf (c.walk.ensures (told-ready c.requires
    (c.survey.ensures c.requires.over) c.survey.auto.env c.survey.auto.buf)) c.in_ok-walked.was

pub comprehend-lift_tree-requires : goal.comprehend-lift_tree-requires
comprehend-lift_tree-requires t c = comprehensions.lift-fits c.requires (c.survey.ensures c.requires.over) c.survey.auto.env c.survey.auto.buf (c.walk.ensures (told-ready c.requires
    (c.survey.ensures c.requires.over) c.survey.auto.env c.survey.auto.buf)) c.in_ok-walked.was c.walk.auto.env

pub comprehend-overflow_add-result : goal.comprehend-overflow_add-result
comprehend-overflow_add-result t c = omega (
  arith,
  comprehensions.one_deeper c.requires (c.survey.ensures c.requires.over) c.survey.auto.env c.survey.auto.buf (c.walk.ensures (told-ready
      c.requires (c.survey.ensures c.requires.over) c.survey.auto.env c.survey.auto.buf)) c.in_ok-walked.was,
)

pub comprehend-returns : goal.comprehend-returns
comprehend-returns t c = λ g. comprehensions.body-runs g (c.survey.ensures g.over) c.survey.auto.env c.survey.auto.buf (c.walk.ensures (told-ready g (c.survey.ensures g.over) c.survey.auto.env c.survey.auto.buf)) c.in_ok-walked.was c.walk.auto.env (λ j u. record { sunk = c.tell.ensures j u; machine = refl }) c.lift_tree.ensures

pub comprehend-returns-in_err-walked : goal.comprehend-returns-in_err-walked
comprehend-returns-in_err-walked t c = λ g.
    let p = err_from_is_err_and c.from_residual.result c.from_residual.ensures.1 in rw (p.1, p.2)
    (comprehensions.body-stopped g (c.survey.ensures g.over) c.survey.auto.env c.survey.auto.buf (c.walk.ensures (told-ready g (c.survey.ensures g.over) c.survey.auto.env c.survey.auto.buf)) c.in_err-walked.was)

pub each-comprehend-requires : goal.each-comprehend-requires
each-comprehend-requires t c = (omega (arith, c.decreases, c.requires.bytes), each-entire c.requires ((c.enter.ensures c.requires).goes_in _ c.in_ok-entered.was) c.enter.auto.env)

pub each-returns : goal.each-returns
each-returns t c = λ g. comprehensions.each-runs g ((c.enter.ensures g).goes_in _ c.in_ok-entered.was) c.enter.auto.env c.enter.auto.buf (c.comprehend.ensures
    (each-entire g ((c.enter.ensures g).goes_in _ c.in_ok-entered.was) c.enter.auto.env))

pub each-returns-in_err-entered : goal.each-returns-in_err-entered
each-returns-in_err-entered t c = λ g.
    let p = err_from_is_err_and c.from_residual.result c.from_residual.ensures.1 in rw (p.1, p.2)
    (comprehensions.enter-stopped g (c.enter.ensures g) c.in_err-entered.was)

pub guard-comprehend-requires : goal.guard-comprehend-requires
guard-comprehend-requires t c = (
  omega (arith, c.decreases, c.requires.bytes),
  guards.guard-entire c.requires ((c.enter_guard.ensures c.requires).goes_in _ c.in_ok-entered.was) c.enter_guard.auto.env,
)

pub guard-returns : goal.guard-returns
guard-returns t c = λ g. guards.guard-runs g ((c.enter_guard.ensures g).goes_in _ c.in_ok-entered.was) c.enter_guard.auto.env c.enter_guard.auto.buf (c.comprehend.ensures (guards.guard-entire g ((c.enter_guard.ensures g).goes_in _ c.in_ok-entered.was) c.enter_guard.auto.env))

pub guard-returns-in_err-entered : goal.guard-returns-in_err-entered
guard-returns-in_err-entered t c = λ g.
    let p = err_from_is_err_and c.from_residual.result c.from_residual.ensures.1 in rw (p.1, p.2)
    (guards.gate-stopped g (c.enter_guard.ensures g) c.in_err-entered.was)

pub survey-returns-then-ne : goal.survey-returns-then-ne
survey-returns-then-ne t c = λ g. no_line g (search rules)

pub survey-begin_survey-requires : goal.survey-begin_survey-requires
survey-begin_survey-requires t c = (_, _, c.requires.ready.scene.sunk)

pub survey-walk-requires : goal.survey-walk-requires
survey-walk-requires t c = (omega (arith, c.decreases), survey-ready c.requires (search rules) c.begin_survey.ensures)

pub survey-overflow_mul-tree : goal.survey-overflow_mul-tree
survey-overflow_mul-tree t c = omega (
  arith,
  shallow c.requires (search rules) c.begin_survey.ensures (c.walk.ensures (survey-ready c.requires (search rules) c.begin_survey.ensures)) c.in-Ok.is,
)

pub survey-overflow_add-tree : goal.survey-overflow_add-tree
survey-overflow_add-tree t c = omega (
  arith,
  shallow c.requires (search rules) c.begin_survey.ensures (c.walk.ensures (survey-ready c.requires (search rules) c.begin_survey.ensures)) c.in-Ok.is,
)

pub survey-overflow_sub-tree : goal.survey-overflow_sub-tree
survey-overflow_sub-tree t c = omega (
  arith,
  tree-fits c.requires (search rules) c.begin_survey.ensures (c.walk.ensures (survey-ready c.requires (search rules) c.begin_survey.ensures)) c.in-Ok.is,
)

pub survey-open_body-requires : goal.survey-open_body-requires
survey-open_body-requires t c = open-ready c.requires (search rules) c.begin_survey.ensures (c.walk.ensures (survey-ready c.requires (search rules) c.begin_survey.ensures)) c.in-Ok.is
    c.walk.auto.env

pub survey-returns-in-Ok : goal.survey-returns-in-Ok
survey-returns-in-Ok t c = λ g. line-told g (search rules) c.begin_survey.ensures (c.walk.ensures (survey-ready g (search rules) c.begin_survey.ensures)) c.in-Ok.is c.walk.auto.env c.open_body.ensures

pub survey-returns-in_default : goal.survey-returns-in_default
survey-returns-in_default t c = λ g. never-stops g (search rules) c.begin_survey.ensures (c.walk.ensures (survey-ready g (search rules) c.begin_survey.ensures)) c.in_default.is

pub walk-route_of-requires : goal.walk-route_of-requires
walk-route_of-requires t c = dispatch.room-behind c.requires

pub walk-overflow_add-k : goal.walk-overflow_add-k
walk-overflow_add-k t c = omega (arith, dispatch.room-behind c.requires)

pub walk-variable-requires : goal.walk-variable-requires
walk-variable-requires t c = dispatch.name-sought c.requires (dispatch.routing c.args.bytes.now c.args.k c.in-Name.is c.route_of.ensures c.in_ok-head.was c.head_at.ensures)

pub walk-single-requires : goal.walk-single-requires
walk-single-requires t c = (dispatch.sole-at c.requires (dispatch.routing c.args.bytes.now c.args.k c.in-Single.is c.route_of.ensures c.in_ok-head.was c.head_at.ensures)).sole

pub walk-overflow_add-k-in-Iota : goal.walk-overflow_add-k-in-Iota
walk-overflow_add-k-in-Iota t c = omega (arith, dispatch.room-behind c.requires)

pub walk-iota-requires : goal.walk-iota-requires
walk-iota-requires t c = (dispatch.counting-at c.requires (dispatch.routing c.args.bytes.now c.args.k c.in-Iota.is c.route_of.ensures c.in_ok-head.was c.head_at.ensures)).counting

pub walk-binding-requires : goal.walk-binding-requires
walk-binding-requires t c = (omega (arith, c.decreases), (dispatch.binding-at c.requires (dispatch.routing c.args.bytes.now c.args.k c.in-Let.is c.route_of.ensures c.in_ok-head.was c.head_at.ensures)).binding)

pub walk-each-requires : goal.walk-each-requires
walk-each-requires t c = (omega (arith, c.decreases), (dispatch.each_at c.requires (dispatch.routing c.args.bytes.now c.args.k c.in-Each.is c.route_of.ensures c.in_ok-head.was c.head_at.ensures)).each)

pub walk-guard-requires : goal.walk-guard-requires
walk-guard-requires t c = (omega (arith, c.decreases), (guards.guard-at c.requires (dispatch.routing c.args.bytes.now c.args.k c.in-Guard.is c.route_of.ensures c.in_ok-head.was c.head_at.ensures)).guard)

pub walk-returns-in-Name : goal.walk-returns-in-Name
walk-returns-in-Name t c = λ g. dispatch.name_runs g _ (dispatch.routing c.args.bytes.now c.args.k c.in-Name.is c.route_of.ensures c.in_ok-head.was c.head_at.ensures) (λ s. (ap Ok (c.variable.ensures s).0, (c.variable.ensures s).1))

pub walk-returns-in-Single : goal.walk-returns-in-Single
walk-returns-in-Single t c = λ g. (dispatch.sole-at g (dispatch.routing c.args.bytes.now c.args.k c.in-Single.is c.route_of.ensures c.in_ok-head.was c.head_at.ensures)).runs _ (c.single.ensures (dispatch.sole-at g (dispatch.routing c.args.bytes.now c.args.k c.in-Single.is c.route_of.ensures c.in_ok-head.was c.head_at.ensures)).sole)

pub walk-returns-in-Iota : goal.walk-returns-in-Iota
walk-returns-in-Iota t c = λ g. (dispatch.counting-at g (dispatch.routing c.args.bytes.now c.args.k c.in-Iota.is c.route_of.ensures c.in_ok-head.was c.head_at.ensures)).runs _ (c.iota.ensures (dispatch.counting-at g (dispatch.routing c.args.bytes.now c.args.k c.in-Iota.is c.route_of.ensures c.in_ok-head.was c.head_at.ensures)
    ).counting)

pub walk-returns-in-Let : goal.walk-returns-in-Let
walk-returns-in-Let t c = λ g. (dispatch.binding-at g (dispatch.routing c.args.bytes.now c.args.k c.in-Let.is c.route_of.ensures c.in_ok-head.was c.head_at.ensures)).runs _ (c.binding.ensures (dispatch.binding-at g (dispatch.routing c.args.bytes.now c.args.k c.in-Let.is c.route_of.ensures c.in_ok-head.was c.head_at.ensures)).binding)

pub walk-returns-in-Each : goal.walk-returns-in-Each
walk-returns-in-Each t c = λ g. (dispatch.each_at g (dispatch.routing c.args.bytes.now c.args.k c.in-Each.is c.route_of.ensures c.in_ok-head.was c.head_at.ensures)).runs _ (c.each.ensures (dispatch.each_at g (dispatch.routing c.args.bytes.now c.args.k c.in-Each.is c.route_of.ensures c.in_ok-head.was c.head_at.ensures)
    ).each)

pub walk-returns-in-Guard : goal.walk-returns-in-Guard
walk-returns-in-Guard t c = λ g. (guards.guard-at g (dispatch.routing c.args.bytes.now c.args.k c.in-Guard.is c.route_of.ensures c.in_ok-head.was c.head_at.ensures)).runs _ (c.guard.ensures (guards.guard-at g (dispatch.routing c.args.bytes.now c.args.k c.in-Guard.is c.route_of.ensures c.in_ok-head.was c.head_at.ensures)
    ).guard)

pub walk-returns-in_err-head : goal.walk-returns-in_err-head
walk-returns-in_err-head t c = λ g. dispatch.no_record g (ap (dispatch.routed c.args.k) (sym c.in_err-head.was ∙ c.head_at.ensures))
