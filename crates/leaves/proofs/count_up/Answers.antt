-- Three instructions, each on the machine that the one before it left (proofs/CountingUp.antt).
use Prim.Native.Nat.{◌+◌}
use mathlib.Core.Path.{ap}
use native.Mathlib.Omega.{arith}
use Rattle.leaves.proofs.CountingUp.{flags-id, some_id, units-ready, units-stopped, fill-ready, ones-stopped, scan-ready, scanned}
use Rattle.std.proofs.lemmas.Result.{err_from_is_err_and}
use Rattle.leaves.proofs.count_up.Goals as goal

pub overflow_sub-a : goal.overflow_sub-a
overflow_sub-a c = omega (arith, some_id c.args.n c.requires.3)

pub overflow_sub-at : goal.overflow_sub-at
overflow_sub-at c = omega (arith, c.requires.3.low)

pub overflow_sub-at-2 : goal.overflow_sub-at-2
overflow_sub-at-2 c = omega (arith, c.requires.3.low)

pub make-requires : goal.make-requires
make-requires c = (
  _,
  _,
  units-ready c.args.n c.requires.3 _
      (flags-id c.args.n c.requires.3),
)

pub overflow_sub-sp : goal.overflow_sub-sp
overflow_sub-sp c = omega (arith, c.requires.3.low)

pub fill-requires : goal.fill-requires
fill-requires c = (
  _,
  _,
  fill-ready c.args.n c.requires.3 (flags-id c.args.n c.requires.3) (c.make.ensures _ _ (units-ready c.args.n c.requires.3 _ (flags-id c.args.n c.requires.3))) c.make.auto.buf c.in_ok-units.was,
)

pub overflow_add-t : goal.overflow_add-t
overflow_add-t c = omega (
  arith,
  (flags-id c.args.n c.requires.3),
  c.requires.3.newest,
  c.requires.3.few,
)

pub make-requires-2 : goal.make-requires-2
make-requires-2 c = (
  _,
  _,
  scan-ready c.args.n c.requires.3 (flags-id c.args.n c.requires.3)
      (c.make.ensures _ _ (units-ready c.args.n c.requires.3 _ (flags-id c.args.n c.requires.3))) c.make.auto.buf c.in_ok-units.was
      (c.fill.ensures _ _ (fill-ready c.args.n c.requires.3 (flags-id c.args.n c.requires.3)
      (c.make.ensures _ _ (units-ready c.args.n c.requires.3 _ (flags-id c.args.n c.requires.3))) c.make.auto.buf c.in_ok-units.was)) c.in_ok-fill.was (flags-id c.args.n c.requires.3) (ap (λ i. i + 2) (flags-id c.args.n c.requires.3)),
)

pub returns : goal.returns
returns c = λ a m k g. let f = (flags-id c.args.n g) in let
    p = (c.make.ensures _ _ (units-ready c.args.n g _ (flags-id c.args.n g))) in let q = (c.fill.ensures _ _ (fill-ready c.args.n g (flags-id c.args.n g) (c.make.ensures _ _ (units-ready c.args.n g _ (flags-id c.args.n g))) c.make.auto.buf c.in_ok-units.was)) in
    scanned c.args.n g f p c.make.auto.buf c.in_ok-units.was q c.in_ok-fill.was f (ap (λ i. i + 2) f) c.fill.auto.buf
    (c.make-2.ensures _ _ (scan-ready c.args.n g f p c.make.auto.buf c.in_ok-units.was q c.in_ok-fill.was f (ap (λ i. i + 2) f)))

pub returns-in_err-fill : goal.returns-in_err-fill
returns-in_err-fill c = λ a m k g.
    let p = err_from_is_err_and c.from_residual-in_err-fill.result c.from_residual-in_err-fill.ensures.1 in rw (p.1, p.2)
    (ones-stopped c.args.n g (flags-id c.args.n g)
    (c.make.ensures _ _ (units-ready c.args.n g _ (flags-id c.args.n g))) c.make.auto.buf c.in_ok-units.was (c.fill.ensures _ _ (fill-ready c.args.n g (flags-id c.args.n g) (c.make.ensures _ _ (units-ready c.args.n g _ (flags-id c.args.n g))) c.make.auto.buf c.in_ok-units.was)) c.in_err-fill.was)

pub returns-in_err-units : goal.returns-in_err-units
returns-in_err-units c = λ a m k g.
    let p = err_from_is_err_and c.from_residual.result c.from_residual.ensures.1 in rw (p.1, p.2)
    (units-stopped c.args.n g (flags-id
    c.args.n g) (c.make.ensures _ _ (units-ready c.args.n g _ (flags-id c.args.n g))) c.make.auto.buf c.in_err-units.was)
