-- Level by level, from the outermost flags to the data.
use Rattle.std.proofs.Common.{Some, None, ◌≡◌, arith, sym, ◌∙◌, get_or, ◌-◌, length-take-le}
use Rattle.rendering.proofs.FittingSteps.{place_inside, trial_on, trial-misfit, trial-fits, trial-data}
use Rattle.rendering.proofs.fitting.first_misfit.Goals as goal

pub overflow_add-end : goal.overflow_add-end
overflow_add-end c = omega (arith, (place_inside c.args.elements.now c.requires (c.loop-level.level - 1) c.loop-level.invariant.inside).2, c.well_formed)

pub offset_bounds-elements-start : goal.offset_bounds-elements-start
offset_bounds-elements-start c = omega (arith, (place_inside c.args.elements.now c.requires (c.loop-level.level - 1) c.loop-level.invariant.inside).2, c.well_formed)

pub slice_bounds-fit_flags-end : goal.slice_bounds-fit_flags-end
slice_bounds-fit_flags-end c = omega (arith, (place_inside c.args.elements.now c.requires (c.loop-level.level - 1) c.loop-level.invariant.inside).2)

pub loop-level-preserved : goal.loop-level-preserved
loop-level-preserved c =
    let items : c.fit_flags.result ≡ Some c.in_ok-n.n = grind arith in
    trial_on c.args.elements.now c.requires c.loop-level.invariant (omega arith) (sym items ∙ c.fit_flags.ensures)

pub returns-in_err-n : goal.returns-in_err-n
returns-in_err-n c =
    let none : c.fit_flags.result ≡ None = grind arith in
    let told = trial-misfit c.args.elements.now c.requires c.loop-level.invariant (omega arith) (sym none ∙ c.fit_flags.ensures) in
    grind (arith, told)

pub slice_bounds-fit_data-end : goal.slice_bounds-fit_data-end
slice_bounds-fit_data-end c = sym (length-take-le (get_or c.args.lengths.now 0 0) c.args.elements.now (omega (arith, (place_inside c.args.elements.now c.requires 0 (omega arith)).2)))

pub returns-then-fit_data : goal.returns-then-fit_data
returns-then-fit_data c = trial-fits c.args.elements.now c.requires c.loop-level.invariant (omega arith) (sym c.if-fit_data.true ∙ c.fit_data.ensures)

pub returns-else-fit_data : goal.returns-else-fit_data
returns-else-fit_data c = trial-data c.args.elements.now c.requires c.loop-level.invariant (omega arith) (sym c.if-fit_data.false ∙ c.fit_data.ensures)
