-- Turn by turn, what is left to tell of all inputs is told of those that follow.
use Prim.Native.Nat.{◌*◌, ◌-◌}
use mathlib.Core.Path.{◌≡◌, refl, ap, sym, ◌∙◌}
use Rattle.std.proofs.Common.{Err, rules}
use Rattle.valuetext.specs.declared.storing.Unmeasured.TheVariants.{NoValue}
use native.Mathlib.Omega.{arith}
use borrow.Rule.Slice.PartMut.{same_len_mid}
use lib.ListN.{length, drop, length-take, length-drop}
use Rattle.formula.specs.declared.inputs.Declaration.{Declaration}
use Rattle.inputs.proofs.Supplying.{inputs-supplied, inputs-few}
use Rattle.inputs.proofs.Checking.{tells, counts-back, text_from, bounds, told-bad, told-on, told-all}
use Rattle.inputs.proofs.texts.measure_texts.Goals as goal

pub loop-i-init : goal.loop-i-init
loop-i-init c = (refl, λ is ss s. tells s (omega (arith, inputs-few c.requires.read, c.requires.most_inputs_in_bounds)))

pub text_end-next-requires : goal.text_end-next-requires
text_end-next-requires c = omega (arith, (bounds (c.loop-i.invariant.1 c.requires.read.inputs c.requires.read.spans (inputs-supplied c.requires.read)) c.loop-i-test.true).text)

pub declared-input-requires : goal.declared-input-requires
declared-input-requires c = (bounds (c.loop-i.invariant.1 c.requires.read.inputs c.requires.read.spans (inputs-supplied c.requires.read)) c.loop-i-test.true).input

pub overflow_mul-from : goal.overflow_mul-from
overflow_mul-from c = omega (arith, c.loop-i-test.true, inputs-few c.requires.read)

pub overflow_add-k : goal.overflow_add-k
overflow_add-k c = omega (arith, (bounds (c.loop-i.invariant.1 c.requires.read.inputs c.requires.read.spans (inputs-supplied c.requires.read)) c.loop-i-test.true).text, c.well_formed)

pub slice_bounds-measure_text-count : goal.slice_bounds-measure_text-count
slice_bounds-measure_text-count c = omega (arith, c.text_end-next.ensures)

pub slice_bounds-measure_text-start : goal.slice_bounds-measure_text-start
slice_bounds-measure_text-start c = omega (arith, c.text_end-next.ensures)

pub slice_bounds-measure_text-end : goal.slice_bounds-measure_text-end
slice_bounds-measure_text-end c = omega (arith, c.text_end-next.ensures, (bounds (c.loop-i.invariant.1 c.requires.read.inputs c.requires.read.spans (inputs-supplied c.requires.read)) c.loop-i-test.true).text)

pub offset_bounds-counts-from : goal.offset_bounds-counts-from
offset_bounds-counts-from c = omega (arith, c.loop-i-test.true, inputs-few c.requires.read)

pub slice_bounds-measure_text-count-in-loop-i : goal.slice_bounds-measure_text-count-in-loop-i
slice_bounds-measure_text-count-in-loop-i c = let told = c.loop-i.invariant.1 c.requires.read.inputs c.requires.read.spans (inputs-supplied c.requires.read) in
    omega (arith, c.loop-i-test.true, told.space)

pub slice_bounds-measure_text-start-in-loop-i : goal.slice_bounds-measure_text-start-in-loop-i
slice_bounds-measure_text-start-in-loop-i c = let told = c.loop-i.invariant.1 c.requires.read.inputs c.requires.read.spans (inputs-supplied c.requires.read) in
    omega (arith, c.loop-i-test.true, told.space)

pub slice_bounds-measure_text-end-in-loop-i : goal.slice_bounds-measure_text-end-in-loop-i
slice_bounds-measure_text-end-in-loop-i c = let told = c.loop-i.invariant.1 c.requires.read.inputs c.requires.read.spans (inputs-supplied c.requires.read) in
    omega (arith, c.loop-i-test.true, told.space)

pub measure_text-measured-requires : goal.measure_text-measured-requires
measure_text-measured-requires c = let told = c.loop-i.invariant.1 c.requires.read.inputs c.requires.read.spans (inputs-supplied c.requires.read) in
    let within = bounds told c.loop-i-test.true in
    let depth = ap (λ (r : Declaration). r.depth) c.declared-input.ensures in (
      omega (arith, within.shallow, depth),
      omega (arith, within.shallow, depth, told.space, c.loop-i-test.true, length-take (length c.loop-i.counts - 9 * c.loop-i.i) (drop (9 * c.loop-i.i) c.loop-i.counts), length-drop (9 * c.loop-i.i) c.loop-i.counts),
    )

pub returns-then-eq : goal.returns-then-eq
returns-then-eq c = let same : c.measure_text-measured.result ≡ Err NoValue = search rules in let none = sym same ∙ c.measure_text-measured.ensures.value in
    let back = counts-back c.declared-input.result.base c.declared-input.result.depth (text_from c.args.job.now c.loop-i.k c.text_end-next.result) c.loop-i.counts c.loop-i.i c.measure_text-measured.ensures.counts_after in
    let base = ap (λ (r : Declaration). r.base) c.declared-input.ensures in
    let depth = ap (λ (r : Declaration). r.depth) c.declared-input.ensures in record {
      value = λ g. (told-bad (c.loop-i.invariant.1 g.inputs g.spans (inputs-supplied g)) c.loop-i-test.true c.text_end-next.result c.text_end-next.ensures base depth back none).0;
      counts_after = λ g. (told-bad (c.loop-i.invariant.1 g.inputs g.spans (inputs-supplied g)) c.loop-i-test.true c.text_end-next.result c.text_end-next.ensures base depth back none).1;
    }

pub loop-i-preserved : goal.loop-i-preserved
loop-i-preserved c = let back = counts-back c.declared-input.result.base c.declared-input.result.depth (text_from c.args.job.now c.loop-i.k c.text_end-next.result) c.loop-i.counts c.loop-i.i c.measure_text-measured.ensures.counts_after in
    let base = ap (λ (r : Declaration). r.base) c.declared-input.ensures in
    let depth = ap (λ (r : Declaration). r.depth) c.declared-input.ensures in
    let long = same_len_mid (9 * c.loop-i.i) (length c.loop-i.counts - 9 * c.loop-i.i) c.loop-i.counts c.measure_text-measured.new.counts c.measure_text-measured.auto.counts in (
      long ∙ c.loop-i.invariant.0,
      λ is ss s. told-on (c.loop-i.invariant.1 is ss s) c.loop-i-test.true c.text_end-next.result c.text_end-next.ensures base depth back
          c.measure_text-measured.result c.measure_text-measured.ensures.value (search rules) long,
    )

pub shape_of-counts : goal.shape_of-counts
shape_of-counts c = c.loop-i.invariant.0

pub returns : goal.returns
returns c = record { value = λ g. (told-all (c.loop-i.invariant.1 g.inputs g.spans (inputs-supplied g)) (omega (arith, c.loop-i-test.false))).0; counts_after = λ g. (told-all (c.loop-i.invariant.1 g.inputs g.spans (inputs-supplied g)) (omega (arith, c.loop-i-test.false))).1 }
