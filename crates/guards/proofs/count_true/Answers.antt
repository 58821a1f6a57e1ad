-- Two instructions (proofs/Asking.antt).
use native.Mathlib.Omega.{arith}
use Rattle.guards.proofs.Asking.{flags-ready, flags-stopped, units-ready, answers}
use Rattle.std.proofs.lemmas.Result.{err_from_is_err_and}
use Rattle.guards.proofs.count_true.Goals as goal

pub overflow_cast-t : goal.overflow_cast-t
overflow_cast-t c = omega (arith, c.type_inv.env c.args.bools)

pub put-requires : goal.put-requires
put-requires c = (_, _, flags-ready c.requires.3)

pub make-requires : goal.make-requires
make-requires c = let g = c.requires.3 in
    (_, _, units-ready g _ (c.put.ensures _ _ (flags-ready g)) c.in_ok-put.was)

pub returns : goal.returns
returns c = λ b m k g.
    let w = c.put.ensures _ _ (flags-ready g) in
    let e = c.in_ok-put.was in
    answers g _ w e c.put.auto.buf (c.make.ensures _ _ (units-ready g _ w e))

pub returns-in_err-put : goal.returns-in_err-put
returns-in_err-put c = λ b m k g.
    let p = err_from_is_err_and c.from_residual.result c.from_residual.ensures.1 in rw (p.1, p.2)
    (flags-stopped g _ (c.put.ensures _ _ (flags-ready g)) c.in_err-put.was)
