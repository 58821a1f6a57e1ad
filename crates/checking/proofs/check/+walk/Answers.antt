-- Each way out by its own law; what the callees are asked follows from the expression that was read here.
use Rattle.std.proofs.Common.{Ok, refl, sym, ap, ◌∙◌, arith}
use Rattle.scopes.proofs.Listing.{handed}
use Rattle.checking.proofs.Walks.{judges-at, leaf-refused, leaf-found, let-fits, let-first, let-refused, let-second, let-second-refused, let-judges}
use Rattle.checking.proofs.Walks.{each_fits, each-refused, element-fits, each-body, each-body-refused, each-judges, guard-fits, guard-refused, size-asked, guard-body, guard-body-refused, guard-judges}
use Rattle.checking.proofs.check.+walk.Goals as goal

pub returns-in_err-next : goal.returns-in_err-next
returns-in_err-next t c = judges-at (handed _ c.from_residual.ensures.1) (leaf-refused c.requires _ c.in_err-next.ensures)

pub overflow_add-k : goal.overflow_add-k
overflow_add-k t c = omega (arith, (let-fits c.requires (ap Ok (sym c.in-Let.is) ∙ c.in_ok-next.ensures)).0)

pub overflow_sub-levels : goal.overflow_sub-levels
overflow_sub-levels t c = omega (arith, (let-fits c.requires (ap Ok (sym c.in-Let.is) ∙ c.in_ok-next.ensures)).1)

pub walk-requires : goal.walk-requires
walk-requires t c = (omega (arith, (let-fits c.requires (ap Ok (sym c.in-Let.is) ∙ c.in_ok-next.ensures)).1, c.decreases), let-first c.requires (ap Ok (sym c.in-Let.is) ∙ c.in_ok-next.ensures) c.requires)

pub returns-in_err-first-in-Let : goal.returns-in_err-first-in-Let
returns-in_err-first-in-Let t c = judges-at (handed _ c.from_residual-in_err-first-in-Let.ensures.1) (let-refused c.requires (ap Ok (sym c.in-Let.is) ∙ c.in_ok-next.ensures) _ c.in_err-first-in-Let.ensures)

pub push-inner-requires : goal.push-inner-requires
push-inner-requires t c = omega (arith, (let-fits c.requires (ap Ok (sym c.in-Let.is) ∙ c.in_ok-next.ensures)).2, c.walk.auto.env, c.requires.order, c.requires.high)

pub overflow_sub-levels-in-Let : goal.overflow_sub-levels-in-Let
overflow_sub-levels-in-Let t c = omega (arith, (let-fits c.requires (ap Ok (sym c.in-Let.is) ∙ c.in_ok-next.ensures)).1)

pub walk-requires-in-Let : goal.walk-requires-in-Let
walk-requires-in-Let t c = (omega (arith, (let-fits c.requires (ap Ok (sym c.in-Let.is) ∙ c.in_ok-next.ensures)).1, c.decreases), let-second c.requires (ap Ok (sym c.in-Let.is) ∙ c.in_ok-next.ensures) c.in_ok-first-in-Let.ensures c.push-inner.ensures (c.push-inner.auto.env ∙ c.walk.auto.env) c.requires)

pub returns-in_err-second-in-Let : goal.returns-in_err-second-in-Let
returns-in_err-second-in-Let t c = judges-at (handed _ c.from_residual-in_err-second-in-Let.ensures.1) (let-second-refused c.requires (ap Ok (sym c.in-Let.is) ∙ c.in_ok-next.ensures) c.in_ok-first-in-Let.ensures c.push-inner.ensures (c.push-inner.auto.env ∙ c.walk.auto.env) c.in_err-second-in-Let.ensures _ refl)

pub overflow_add-behind : goal.overflow_add-behind
overflow_add-behind t c = omega (arith, (each_fits c.requires (ap Ok (sym c.in-Each.is) ∙ c.in_ok-next.ensures)).0)

pub overflow_add-behind-in-Each : goal.overflow_add-behind-in-Each
overflow_add-behind-in-Each t c = omega (arith, (each_fits c.requires (ap Ok (sym c.in-Each.is) ∙ c.in_ok-next.ensures)).0)

pub overflow_add-k-in-Each : goal.overflow_add-k-in-Each
overflow_add-k-in-Each t c = omega (arith, (each_fits c.requires (ap Ok (sym c.in-Each.is) ∙ c.in_ok-next.ensures)).0)

pub slice_bounds-prepare-end : goal.slice_bounds-prepare-end
slice_bounds-prepare-end t c = omega (arith, (each_fits c.requires (ap Ok (sym c.in-Each.is) ∙ c.in_ok-next.ensures)).0)

pub prepare-requires : goal.prepare-requires
prepare-requires t c = omega (arith, (each_fits c.requires (ap Ok (sym c.in-Each.is) ∙ c.in_ok-next.ensures)).2, (each_fits c.requires (ap Ok (sym c.in-Each.is) ∙ c.in_ok-next.ensures)).0, c.requires.order, c.requires.high)

pub returns-in_err-inner-in-Each : goal.returns-in_err-inner-in-Each
returns-in_err-inner-in-Each t c = judges-at (handed _ c.from_residual-in_err-inner-in-Each.ensures.1) (each-refused c.requires (ap Ok (sym c.in-Each.is) ∙ c.in_ok-next.ensures) _ c.in_err-inner-in-Each.ensures)

pub bounds-env-inner : goal.bounds-env-inner
bounds-env-inner t c = element-fits c.requires (ap Ok (sym c.in-Each.is) ∙ c.in_ok-next.ensures) c.in_ok-inner-in-Each.ensures c.prepare.auto.env

pub overflow_sub-levels-in-Each : goal.overflow_sub-levels-in-Each
overflow_sub-levels-in-Each t c = omega (arith, (each_fits c.requires (ap Ok (sym c.in-Each.is) ∙ c.in_ok-next.ensures)).1)

pub walk-requires-in-Each : goal.walk-requires-in-Each
walk-requires-in-Each t c = (omega (arith, (each_fits c.requires (ap Ok (sym c.in-Each.is) ∙ c.in_ok-next.ensures)).1, c.decreases), each-body c.requires (ap Ok (sym c.in-Each.is) ∙ c.in_ok-next.ensures) c.in_ok-inner-in-Each.ensures c.prepare.auto.env c.requires)

pub returns-in_err-body-in-Each : goal.returns-in_err-body-in-Each
returns-in_err-body-in-Each t c = judges-at (handed _ c.from_residual-in_err-body-in-Each.ensures.1) (each-body-refused c.requires (ap Ok (sym c.in-Each.is) ∙ c.in_ok-next.ensures) c.in_ok-inner-in-Each.ensures c.prepare.auto.env c.in_err-body-in-Each.ensures _ refl)

pub close-requires-clause-short : goal.close-requires-clause-short
close-requires-clause-short t c = (each_fits c.requires (ap Ok (sym c.in-Each.is) ∙ c.in_ok-next.ensures)).3

pub returns-in-Found : goal.returns-in-Found
returns-in-Found t c = leaf-found c.requires _ _ (ap Ok (sym c.in-Found.is) ∙ c.in_ok-next.ensures) (omega arith)

pub returns-in_ok-second-in-Let : goal.returns-in_ok-second-in-Let
returns-in_ok-second-in-Let t c = judges-at (ap Ok (sym c.bound.ensures)) (let-judges c.requires (ap Ok (sym c.in-Let.is) ∙ c.in_ok-next.ensures) c.in_ok-first-in-Let.ensures c.push-inner.ensures (c.push-inner.auto.env ∙ c.walk.auto.env) c.in_ok-second-in-Let.ensures _ refl (omega arith))

pub returns-in_ok-body-in-Each : goal.returns-in_ok-body-in-Each
returns-in_ok-body-in-Each t c = each-judges c.requires (ap Ok (sym c.in-Each.is) ∙ c.in_ok-next.ensures) c.in_ok-inner-in-Each.ensures c.prepare.auto.env c.in_ok-body-in-Each.ensures _ refl refl c.close.ensures.answer c.close.ensures.few

pub overflow_add-next : goal.overflow_add-next
overflow_add-next t c = omega (arith, (guard-fits c.requires (ap Ok (sym c.in-Guard.is) ∙ c.in_ok-next.ensures)).0)

pub overflow_add-next-in-Guard : goal.overflow_add-next-in-Guard
overflow_add-next-in-Guard t c = omega (arith, (guard-fits c.requires (ap Ok (sym c.in-Guard.is) ∙ c.in_ok-next.ensures)).0)

pub overflow_add-k-in-Guard : goal.overflow_add-k-in-Guard
overflow_add-k-in-Guard t c = omega (arith, (guard-fits c.requires (ap Ok (sym c.in-Guard.is) ∙ c.in_ok-next.ensures)).0)

pub slice_bounds-prepare_guard-end : goal.slice_bounds-prepare_guard-end
slice_bounds-prepare_guard-end t c = omega (arith, (guard-fits c.requires (ap Ok (sym c.in-Guard.is) ∙ c.in_ok-next.ensures)).0)

pub prepare_guard-requires : goal.prepare_guard-requires
prepare_guard-requires t c = omega (arith, (guard-fits c.requires (ap Ok (sym c.in-Guard.is) ∙ c.in_ok-next.ensures)).2, (guard-fits c.requires (ap Ok (sym c.in-Guard.is) ∙ c.in_ok-next.ensures)).0, c.requires.order, c.requires.high)

pub returns-in_err-inner-in-Guard : goal.returns-in_err-inner-in-Guard
returns-in_err-inner-in-Guard t c = judges-at (handed _ c.from_residual-in_err-inner-in-Guard.ensures.1) (guard-refused c.requires (ap Ok (sym c.in-Guard.is) ∙ c.in_ok-next.ensures) _ c.in_err-inner-in-Guard.ensures)

pub listed_size-size-requires : goal.listed_size-size-requires
listed_size-size-requires t c = (size-asked c.requires (ap Ok (sym c.in-Guard.is) ∙ c.in_ok-next.ensures) c.in_ok-inner-in-Guard.ensures c.prepare_guard.auto.env).2

pub overflow_sub-levels-in-Guard : goal.overflow_sub-levels-in-Guard
overflow_sub-levels-in-Guard t c = omega (arith, (guard-fits c.requires (ap Ok (sym c.in-Guard.is) ∙ c.in_ok-next.ensures)).1)

pub walk-requires-in-Guard : goal.walk-requires-in-Guard
walk-requires-in-Guard t c = (omega (arith, (guard-fits c.requires (ap Ok (sym c.in-Guard.is) ∙ c.in_ok-next.ensures)).1, c.decreases), guard-body c.requires (ap Ok (sym c.in-Guard.is) ∙ c.in_ok-next.ensures) c.in_ok-inner-in-Guard.ensures c.prepare_guard.auto.env c.requires)

pub returns-in_err-body-in-Guard : goal.returns-in_err-body-in-Guard
returns-in_err-body-in-Guard t c = judges-at (handed _ c.from_residual-in_err-body-in-Guard.ensures.1) (guard-body-refused c.requires (ap Ok (sym c.in-Guard.is) ∙ c.in_ok-next.ensures) c.in_ok-inner-in-Guard.ensures c.prepare_guard.auto.env c.in_err-body-in-Guard.ensures _ refl)

pub returns-in_ok-body-in-Guard : goal.returns-in_ok-body-in-Guard
returns-in_ok-body-in-Guard t c = guard-judges c.requires (ap Ok (sym c.in-Guard.is) ∙ c.in_ok-next.ensures) c.in_ok-inner-in-Guard.ensures c.prepare_guard.auto.env c.in_ok-body-in-Guard.ensures _ refl c.listed_size-size.ensures.0 c.close_guard.ensures.answer c.close_guard.ensures.few
