-- Turn by turn one input more is loaded, or the room is passed.
use Prim.Native.Nat.{◌+◌}
use mathlib.Core.Path.{◌≡◌, refl, subst, ◌∙◌}
use Rattle.std.proofs.Common.{Err, rules}
use native.Mathlib.Omega.{arith}
use Rattle.inputs.proofs.Supplying.{inputs-few}
use Rattle.inputs.proofs.AllLoaded.{given-of, loading-start, bounds, step-at, After, loaded-all, loaded-full}
use Rattle.inputs.proofs.loading.load.Goals as goal

pub loop-i-init : goal.loop-i-init
loop-i-init c = (refl, refl, λ g. loading-start g c.args.env.now c.args.buf.now (inputs-few c.requires.valued.0.job) c.requires.most_inputs_in_bounds.0 c.requires.most_inputs_in_bounds.1 c.args.machine.now c.requires.most_inputs_in_bounds.2)

pub text_end-next-requires : goal.text_end-next-requires
text_end-next-requires c = let within = bounds (given-of c.requires.valued.0 c.requires.valued.1) c.args.env.now c.args.buf.now (c.loop-i.invariant.2 (given-of c.requires.valued.0 c.requires.valued.1)) c.loop-i-test.true in
    omega (arith, within.text)

pub declared-input-requires : goal.declared-input-requires
declared-input-requires c = let within = bounds (given-of c.requires.valued.0 c.requires.valued.1) c.args.env.now c.args.buf.now (c.loop-i.invariant.2 (given-of c.requires.valued.0 c.requires.valued.1)) c.loop-i-test.true in
    within.input

pub overflow_mul-from : goal.overflow_mul-from
overflow_mul-from c = omega (arith, c.loop-i-test.true, inputs-few c.requires.valued.0.job, c.requires.valued.1.long)

pub overflow_add-k : goal.overflow_add-k
overflow_add-k c = let within = bounds (given-of c.requires.valued.0 c.requires.valued.1) c.args.env.now c.args.buf.now (c.loop-i.invariant.2 (given-of c.requires.valued.0 c.requires.valued.1)) c.loop-i-test.true in
    omega (arith, within.text, c.well_formed)

pub slice_bounds-load_input-count : goal.slice_bounds-load_input-count
slice_bounds-load_input-count c = omega (arith, c.text_end-next.ensures)

pub slice_bounds-load_input-start : goal.slice_bounds-load_input-start
slice_bounds-load_input-start c = omega (arith, c.text_end-next.ensures)

pub slice_bounds-load_input-end : goal.slice_bounds-load_input-end
slice_bounds-load_input-end c = let within = bounds (given-of c.requires.valued.0 c.requires.valued.1) c.args.env.now c.args.buf.now (c.loop-i.invariant.2 (given-of c.requires.valued.0 c.requires.valued.1)) c.loop-i-test.true in
    omega (arith, c.text_end-next.ensures, within.text)

pub offset_bounds-counts-from : goal.offset_bounds-counts-from
offset_bounds-counts-from c = omega (arith, c.loop-i-test.true, inputs-few c.requires.valued.0.job, c.requires.valued.1.long)

pub slice_bounds-load_input-count-in-loop-i : goal.slice_bounds-load_input-count-in-loop-i
slice_bounds-load_input-count-in-loop-i c = omega (arith, c.loop-i-test.true, inputs-few c.requires.valued.0.job, c.requires.valued.1.long)

pub slice_bounds-load_input-start-in-loop-i : goal.slice_bounds-load_input-start-in-loop-i
slice_bounds-load_input-start-in-loop-i c = omega (arith, c.loop-i-test.true, inputs-few c.requires.valued.0.job, c.requires.valued.1.long)

pub load_input-requires : goal.load_input-requires
load_input-requires c = let given = given-of c.requires.valued.0 c.requires.valued.1 in
    let loading = c.loop-i.invariant.2 given in
    (step-at given c.args.env.now c.args.buf.now (loading) c.declared-input.ensures c.text_end-next.result c.text_end-next.ensures c.loop-i-test.true).first

pub returns-in_err-sp : goal.returns-in_err-sp
returns-in_err-sp c = λ g.
    let given = given-of g c.requires.valued.1 in
    let loading = c.loop-i.invariant.2 given in
    let step = step-at given c.args.env.now c.args.buf.now (loading) c.declared-input.ensures c.text_end-next.result c.text_end-next.ensures c.loop-i-test.true in
    let refused : c.from_residual.result ≡ Err c.in_err-sp.field-0.0 = search rules in
    loaded-full g refused (subst (λ r. After given c.args.env.now c.args.buf.now (c.loop-i.i + 1) c.text_end-next.result c.load_input.new.env c.load_input.new.buf c.load_input.new.machine r) c.in_err-sp.was
    (step.on c.load_input.result (c.load_input.ensures step.first) c.load_input.auto.env c.load_input.auto.buf))

pub loop-i-preserved : goal.loop-i-preserved
loop-i-preserved c = (
  c.load_input.auto.env ∙ c.loop-i.invariant.0,
  c.load_input.auto.buf ∙ c.loop-i.invariant.1,
  λ given.
      let loading = c.loop-i.invariant.2 given in
      let step = step-at given c.args.env.now c.args.buf.now (loading) c.declared-input.ensures c.text_end-next.result c.text_end-next.ensures c.loop-i-test.true in
      subst (λ r. After given c.args.env.now c.args.buf.now (c.loop-i.i + 1) c.text_end-next.result c.load_input.new.env c.load_input.new.buf c.load_input.new.machine r) c.in_ok-sp.was
      (step.on c.load_input.result (c.load_input.ensures step.first) c.load_input.auto.env c.load_input.auto.buf),
)

pub shape_of-env : goal.shape_of-env
shape_of-env c = c.loop-i.invariant.0

pub shape_of-buf : goal.shape_of-buf
shape_of-buf c = c.loop-i.invariant.1

pub returns : goal.returns
returns c = λ g. loaded-all g c.requires.valued.1 (c.loop-i.invariant.2 (given-of g c.requires.valued.1)) c.loop-i-test.false
