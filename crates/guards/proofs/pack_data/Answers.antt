-- One instruction (proofs/Data.antt).
use native.Mathlib.Omega.{arith}
use Rattle.guards.proofs.Data.{data-ready, data-stopped, data-whole}
use Rattle.std.proofs.lemmas.Result.{err_from_is_err_and}
use Rattle.guards.proofs.pack_data.Goals as goal

pub bounds-env-b : goal.bounds-env-b
bounds-env-b c = omega (arith, c.requires.5.inside)

pub overflow_cast-t : goal.overflow_cast-t
overflow_cast-t c = omega (arith, c.type_inv.env c.args.p.bools)

pub bounds-env-q : goal.bounds-env-q
bounds-env-q c = omega (arith, c.requires.5.within)

pub overflow_cast-t-2 : goal.overflow_cast-t-2
overflow_cast-t-2 c = omega (arith, c.type_inv.env c.args.p.from)

pub put-requires : goal.put-requires
put-requires c = (
  c.requires.3,
  c.requires.4,
  data-ready
      c.requires.5,
)

pub returns : goal.returns
returns c = λ s b e m k g. data-whole g _ (c.put.ensures _ _ (data-ready g)) c.in_ok-put.was

pub returns-in_err-put : goal.returns-in_err-put
returns-in_err-put c = λ s b e m k g.
    let p = err_from_is_err_and c.from_residual.result c.from_residual.ensures.1 in rw (p.1, p.2)
    (data-stopped g _ (c.put.ensures _ _ (data-ready g)) c.in_err-put.was)
