-- The flags with their place, what follows them, and the place of the numbers (proofs/Iotas.antt).
use native.Mathlib.Omega.{arith}
use Rattle.leaves.proofs.Operands.{sought}
use Rattle.leaves.proofs.Iotas.{flags-ready, flags-push, flagged, iota-push, iota-runs, count-stopped, flags-stopped}
use Rattle.std.proofs.lemmas.Result.{err_from_is_err_and}
use Rattle.leaves.proofs.iota.Goals as goal

pub find-p-requires : goal.find-p-requires
find-p-requires c = sought c.requires.scene c.requires.pointer c.requires.finds

pub overflow_add-p : goal.overflow_add-p
overflow_add-p c = omega (arith, (c.find-p.ensures (sought c.requires.scene c.requires.pointer c.requires.finds)).within)

pub offset_bounds-env-p : goal.offset_bounds-env-p
offset_bounds-env-p c = omega (arith, (c.find-p.ensures (sought c.requires.scene c.requires.pointer c.requires.finds)).within)

pub bounds-env-p : goal.bounds-env-p
bounds-env-p c = omega (arith, (c.find-p.ensures (sought c.requires.scene c.requires.pointer c.requires.finds)).within)

pub make-requires : goal.make-requires
make-requires c = (
  _,
  _,
  flags-ready c.requires (c.find-p.ensures (sought c.requires.scene c.requires.pointer
      c.requires.finds)) _,
)

pub push-requires : goal.push-requires
push-requires c = let q = flags-push c.requires (c.find-p.ensures (sought c.requires.scene c.requires.pointer c.requires.finds)) _ (c.make.ensures _ _ (flags-ready c.requires (c.find-p.ensures (sought c.requires.scene c.requires.pointer
    c.requires.finds)) _)) c.in_ok-flags.was in (
      omega (
        arith,
        c.requires.low,
      ),
      c.requires.scene.within,
      q.0,
      q.1,
      q.2,
      q.3,
    )

pub count_up-requires : goal.count_up-requires
count_up-requires c = (
  _,
  _,
  _,
  flagged c.requires (c.find-p.ensures (sought c.requires.scene c.requires.pointer c.requires.finds)) _ (c.make.ensures _ _ (flags-ready c.requires (c.find-p.ensures (sought c.requires.scene c.requires.pointer c.requires.finds)) _)) c.in_ok-flags.was c.push.ensures,
)

pub overflow_sub-sp : goal.overflow_sub-sp
overflow_sub-sp c = omega (
  arith,
  c.requires.low,
)

pub push-requires-2 : goal.push-requires-2
push-requires-2 c = let q = iota-push c.requires
    (c.find-p.ensures (sought c.requires.scene c.requires.pointer c.requires.finds)) _
    (c.make.ensures _ _ (flags-ready c.requires
    (c.find-p.ensures (sought c.requires.scene c.requires.pointer c.requires.finds)) _)) c.in_ok-flags.was c.push.ensures c.make.auto.buf
    (c.count_up.ensures _ _ _ (flagged c.requires
    (c.find-p.ensures (sought c.requires.scene c.requires.pointer c.requires.finds)) _
    (c.make.ensures _ _ (flags-ready c.requires
    (c.find-p.ensures (sought c.requires.scene c.requires.pointer c.requires.finds)) _)) c.in_ok-flags.was c.push.ensures)) c.in_ok-made.was in (
      omega (
        arith,
        c.requires.low,
      ),
      omega (
        arith,
        c.count_up.auto.env,
        c.push.auto.env,
        c.requires.scene.within,
      ),
      q.0,
      q.1,
      q.2,
      q.3,
    )

pub returns : goal.returns
returns c = λ g. iota-runs g (c.find-p.ensures (sought g.scene g.pointer g.finds)) _ (c.make.ensures _ _ (flags-ready g (c.find-p.ensures (sought g.scene g.pointer g.finds)) _)) c.in_ok-flags.was c.push.ensures c.make.auto.buf (c.count_up.ensures _
    _ _ (flagged g (c.find-p.ensures (sought g.scene g.pointer g.finds))
    _ (c.make.ensures _ _ (flags-ready g (c.find-p.ensures (sought g.scene g.pointer g.finds)) _)) c.in_ok-flags.was c.push.ensures)) c.in_ok-made.was _ c.count_up.auto.env c.push-2.ensures

pub returns-in_err-made : goal.returns-in_err-made
returns-in_err-made c = λ g.
    let p = err_from_is_err_and c.from_residual-in_err-made.result c.from_residual-in_err-made.ensures.1 in rw (p.1, p.2)
    (count-stopped g
    (c.find-p.ensures (sought g.scene g.pointer g.finds)) _
    (c.make.ensures _ _ (flags-ready g
    (c.find-p.ensures (sought g.scene g.pointer g.finds)) _)) c.in_ok-flags.was c.push.ensures c.make.auto.buf
    (c.count_up.ensures _ _ _ (flagged g
    (c.find-p.ensures (sought g.scene g.pointer g.finds)) _
    (c.make.ensures _ _ (flags-ready g
    (c.find-p.ensures (sought g.scene g.pointer g.finds)) _)) c.in_ok-flags.was c.push.ensures)) _ c.in_err-made.was)

pub returns-in_err-flags : goal.returns-in_err-flags
returns-in_err-flags c = λ g.
    let p = err_from_is_err_and c.from_residual.result c.from_residual.ensures.1 in rw (p.1, p.2)
    (flags-stopped g (c.find-p.ensures (sought g.scene g.pointer g.finds)) _ (c.make.ensures _ _ (flags-ready g (c.find-p.ensures (sought g.scene g.pointer g.finds)) _)) _ c.in_err-flags.was)
