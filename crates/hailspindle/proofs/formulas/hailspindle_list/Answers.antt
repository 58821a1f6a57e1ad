-- The answer of `list` is the reply's.
use mathlib.Core.Path.{ap, ◌∙◌}
use lib.ListN.{length}
use Rattle.snesl.specs.Listing.{listing}
use Rattle.hailspindle.specs.Replies.{Reply, counted_reply, noted}
use Rattle.hailspindle.proofs.Replying.{list_replied}
use Rattle.hailspindle.proofs.formulas.hailspindle_list.Goals as goal

pub returns : goal.returns
returns c =
    let replied = ap counted_reply c.list-listed.ensures.0 ∙ list_replied (listing (length c.args.text.now) c.args.formula.now) in record {
      value = c.reply.ensures.value ∙ ap (λ (a : Reply). a.number) replied;
      figures_after = c.reply.ensures.figures_after ∙ ap (λ (a : Reply). noted a.figures c.args.figures.now) replied;
      text_after = c.list-listed.ensures.1;
    }
