-- The reader lent no elements counts; the counts of a value are kept, and added up.
use Rattle.std.proofs.Common.{◌≡◌, ℕ, length, refl, ap, ◌∙◌, arith}
use Rattle.std.specs.Prelude.{Option, Some}
use Rattle.std.specs.Option.{ok_or}
use Rattle.std.proofs.lemmas.Grind.{common_steps}
use Rattle.valuetext.specs.declared.storing.Unmeasured.TheVariants.{Over}
use Rattle.valuetext.proofs.ReadingAt.{laid_of}
use Rattle.valuetext.proofs.StoringSteps.{measured_as, kept}
use Rattle.valuetext.proofs.storing.measure_text.Goals as goal

pub returns-clause-value : goal.returns-clause-value
returns-clause-value c =
    let q : c.read_item-taken.result ≡ Some (length c.args.text.now) = grind (arith, common_steps) in
    c.ok_or.ensures.value ∙ ap (λ (o : Option ℕ). ok_or o Over) c.add_up.ensures ∙ measured_as c.args.base c.args.depth c.args.text.now c.args.counts.now (laid_of c.read_item-taken.ensures q) c.requires.0 refl

pub returns-clause-counts_after : goal.returns-clause-counts_after
returns-clause-counts_after c =
    let q : c.read_item-taken.result ≡ Some (length c.args.text.now) = grind (arith, common_steps) in
    kept c.args.base c.args.depth c.args.text.now c.args.counts.now (laid_of c.read_item-taken.ensures q) c.requires.0 refl c.copy.ensures
