-- Loaded, walked and shown, or refused on the way.
use mathlib.Core.List.{[]}
use mathlib.Core.Path.{◌≡◌}
use native.Mathlib.Omega.{arith}
use Rattle.std.proofs.Common.{rules, Err}
use Rattle.sink.specs.declared.state.Walk.{Walk}
use Rattle.sheet.proofs.Performing.{valued-of, crowded, ready, low, halted, finished-at, shallow, answers-it}
use Rattle.sheet.proofs.execution.perform.Goals as goal

pub load-requires : goal.load-requires
load-requires c = record {
  valued = (valued-of c.requires.admitted.0, c.requires.admitted.1);
  most_inputs_in_bounds = (c.requires.most_inputs_in_bounds.0, c.requires.most_inputs_in_bounds.1, c.new-state.ensures.machine);
}

pub walk-requires : goal.walk-requires
walk-requires c = let here = c.requires.admitted.0 in
    ready here (record c.new-state.result { machine = c.load.new.machine }) c.in_ok-sp.sp c.in_ok-sp.was (c.load.ensures (valued-of here)) c.load.auto.env (c.new-state.ensures.sink (omega arith) [])

pub overflow_mul-tree : goal.overflow_mul-tree
overflow_mul-tree c = let here = c.requires.admitted.0 in
    let w : Walk = record c.new-state.result { machine = c.load.new.machine } in
    let first = ready here w c.in_ok-sp.sp c.in_ok-sp.was (c.load.ensures (valued-of here)) c.load.auto.env (c.new-state.ensures.sink (omega arith) []) in
    omega (arith, shallow here w c.in_ok-sp.sp c.in_ok-sp.was (c.load.ensures (valued-of here)) c.load.auto.env (c.new-state.ensures.sink (omega arith) []) c.load.auto.buf (c.walk.ensures first) c.in_ok-depth.field-0 c.in_ok-depth.was)

pub overflow_add-tree : goal.overflow_add-tree
overflow_add-tree c = let here = c.requires.admitted.0 in
    let w : Walk = record c.new-state.result { machine = c.load.new.machine } in
    let first = ready here w c.in_ok-sp.sp c.in_ok-sp.was (c.load.ensures (valued-of here)) c.load.auto.env (c.new-state.ensures.sink (omega arith) []) in
    omega (arith, shallow here w c.in_ok-sp.sp c.in_ok-sp.was (c.load.ensures (valued-of here)) c.load.auto.env (c.new-state.ensures.sink (omega arith) []) c.load.auto.buf (c.walk.ensures first) c.in_ok-depth.field-0 c.in_ok-depth.was)

pub overflow_sub-tree : goal.overflow_sub-tree
overflow_sub-tree c = let here = c.requires.admitted.0 in
    let w : Walk = record c.new-state.result { machine = c.load.new.machine } in
    let first = ready here w c.in_ok-sp.sp c.in_ok-sp.was (c.load.ensures (valued-of here)) c.load.auto.env (c.new-state.ensures.sink (omega arith) []) in
    omega (arith, low here w c.in_ok-sp.sp c.in_ok-sp.was (c.load.ensures (valued-of here)) c.load.auto.env (c.new-state.ensures.sink (omega arith) []) c.load.auto.buf (c.walk.ensures first) c.in_ok-depth.field-0 c.in_ok-depth.was)

pub show-requires : goal.show-requires
show-requires c = let here = c.requires.admitted.0 in
    let w : Walk = record c.new-state.result { machine = c.load.new.machine } in
    let first = ready here w c.in_ok-sp.sp c.in_ok-sp.was (c.load.ensures (valued-of here)) c.load.auto.env (c.new-state.ensures.sink (omega arith) []) in
    finished-at here w c.in_ok-sp.sp c.in_ok-sp.was (c.load.ensures (valued-of here)) c.load.auto.env (c.new-state.ensures.sink (omega arith) []) c.load.auto.buf (c.walk.ensures first) c.in_ok-depth.field-0 c.in_ok-depth.was

pub returns-in_err-sp : goal.returns-in_err-sp
returns-in_err-sp c = λ here.
    let w : Walk = record c.new-state.result { machine = c.load.new.machine } in
    let refused : c.from_residual.result ≡ Err c.in_err-sp.field-0.0 = search rules in
    rw refused (crowded here w c.in_err-sp.field-0.0 c.args.answer.now c.in_err-sp.was (c.load.ensures (valued-of here)))

pub returns-in_err-depth : goal.returns-in_err-depth
returns-in_err-depth c = λ here.
    let w : Walk = record c.new-state.result { machine = c.load.new.machine } in
    let first = ready here w c.in_ok-sp.sp c.in_ok-sp.was (c.load.ensures (valued-of here)) c.load.auto.env (c.new-state.ensures.sink (omega arith) []) in
    let refused : c.from_residual-in_err-depth.result ≡ Err c.in_err-depth.field-0.0 = search rules in
    rw refused (halted here w c.in_ok-sp.sp c.in_ok-sp.was (c.load.ensures (valued-of here)) c.load.auto.env (c.new-state.ensures.sink (omega arith) []) c.load.auto.buf (c.walk.ensures first) c.in_err-depth.field-0.0 c.args.answer.now c.in_err-depth.was)

pub returns : goal.returns
returns c = λ here.
    let w : Walk = record c.new-state.result { machine = c.load.new.machine } in
    let first = ready here w c.in_ok-sp.sp c.in_ok-sp.was (c.load.ensures (valued-of here)) c.load.auto.env (c.new-state.ensures.sink (omega arith) []) in
    answers-it here w c.in_ok-sp.sp c.in_ok-sp.was (c.load.ensures (valued-of here)) c.load.auto.env (c.new-state.ensures.sink (omega arith) []) c.load.auto.buf (c.walk.ensures first) c.in_ok-depth.field-0 c.in_ok-depth.was c.show.ensures
