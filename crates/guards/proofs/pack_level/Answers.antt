-- Three instructions (proofs/Levels.antt).
use mathlib.Core.Path.{◌∙◌}
use Prim.Native.Nat.{◌+◌, ◌*◌}
use native.Mathlib.Omega.{arith}
use Rattle.guards.proofs.Levels.{flags-within, low-enough, packs-fit, first-ready, second-ready, third-ready, first-stopped, second-stopped, level-ends}
use Rattle.std.proofs.lemmas.Result.{err_from_is_err_and}
use Rattle.guards.proofs.pack_level.Goals as goal

pub overflow_mul-f : goal.overflow_mul-f
overflow_mul-f c = omega (arith, c.requires.7.deep, c.requires.7.shallow)

pub overflow_add-f : goal.overflow_add-f
overflow_add-f c = omega (arith, flags-within c.requires.7)

pub bounds-env-f : goal.bounds-env-f
bounds-env-f c = omega (arith, flags-within c.requires.7)

pub overflow_cast-flags : goal.overflow_cast-flags
overflow_cast-flags c = omega (arith, c.type_inv.env (c.args.p.from + 3 * c.args.p.depth))

pub bounds-env-b : goal.bounds-env-b
bounds-env-b c = omega (arith, c.requires.7.inside)

pub overflow_cast-bools : goal.overflow_cast-bools
overflow_cast-bools c = omega (arith, c.type_inv.env c.args.p.bools)

pub overflow_mul-p : goal.overflow_mul-p
overflow_mul-p c = omega (arith, c.requires.7.deep, c.requires.7.shallow)

pub overflow_add-p : goal.overflow_add-p
overflow_add-p c = omega (arith, packs-fit c.requires.7)

pub put-requires : goal.put-requires
put-requires c = (
  c.requires.5,
  c.requires.6,
  first-ready c.requires.7,
)

pub overflow_sub-p : goal.overflow_sub-p
overflow_sub-p c = omega (
  arith,
  low-enough c.requires.7,
)

pub put-requires-2 : goal.put-requires-2
put-requires-2 c = (
  _,
  _,
  second-ready c.requires.7 _ (c.put.ensures _ _ (first-ready c.requires.7)) c.in_ok-put.was,
)

pub make-requires : goal.make-requires
make-requires c = (
  _,
  _,
  third-ready c.requires.7 _
      (c.put.ensures _ _ (first-ready c.requires.7)) c.in_ok-put.was c.put.auto.buf (c.put-2.ensures _ _ (second-ready c.requires.7 _ (c.put.ensures _ _ (first-ready c.requires.7)) c.in_ok-put.was)) c.in_ok-put-2.was,
)

pub returns : goal.returns
returns c = λ d t f b e m k g. level-ends g _ (c.put.ensures _ _ (first-ready g)) c.in_ok-put.was c.put.auto.buf
    (c.put-2.ensures _ _ (second-ready g _ (c.put.ensures _ _ (first-ready g)) c.in_ok-put.was)) c.in_ok-put-2.was (c.put-2.auto.buf ∙ c.put.auto.buf)
    (c.make.ensures _ _ (third-ready g _ (c.put.ensures _ _ (first-ready g)) c.in_ok-put.was c.put.auto.buf
    (c.put-2.ensures _ _ (second-ready g _ (c.put.ensures _ _ (first-ready g)) c.in_ok-put.was)) c.in_ok-put-2.was))

pub returns-in_err-put-2 : goal.returns-in_err-put-2
returns-in_err-put-2 c = λ d t f b e m k g.
    let p = err_from_is_err_and c.from_residual-in_err-put-2.result c.from_residual-in_err-put-2.ensures.1 in rw (p.1, p.2)
    (second-stopped g _ (c.put.ensures _ _ (first-ready g)) c.in_ok-put.was c.put.auto.buf (c.put-2.ensures _ _
    (second-ready g _ (c.put.ensures _ _ (first-ready g)) c.in_ok-put.was)) c.in_err-put-2.was)

pub returns-in_err-put : goal.returns-in_err-put
returns-in_err-put c = λ d t f b e m k g.
    let p = err_from_is_err_and c.from_residual.result c.from_residual.ensures.1 in rw (p.1, p.2)
    (first-stopped g _ (c.put.ensures _ _ (first-ready g)) c.in_err-put.was)
