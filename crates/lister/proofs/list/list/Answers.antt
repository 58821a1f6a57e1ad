-- A formula that was read is checked as the front of its bytes; what neither refuses has been found, with the words that it needs.
use mathlib.Core.Path.{sym, ◌∙◌}
use Rattle.lister.proofs.Listing.{found}
use Rattle.lister.proofs.list.list.Goals as goal

pub lend-requires : goal.lend-requires
lend-requires c = found c.args.formula.now (sym c.in_ok-found.was ∙ c.read_formula.ensures) (sym c.in_ok-judged.was ∙ c.check_front.ensures)
