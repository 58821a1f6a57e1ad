-- One look at an entry more (proofs/Finding.antt).
use Rattle.std.proofs.Common.{sym, ◌∙◌}
use Rattle.environment.proofs.Finding.{start, turn, done, within}
use Rattle.environment.proofs.find.Goals as goal

pub loop-p-init : goal.loop-p-init
loop-p-init c = record { searching = start; within = within start c.requires }

pub loop-p-preserved : goal.loop-p-preserved
loop-p-preserved c =
    let next = turn c.loop-p.invariant.searching (λ e. c.loop-p-test.true (e ∙ sym c.from.ensures)) in
    record { searching = next; within = within next c.requires }

pub returns : goal.returns
returns c = done c.loop-p.invariant.searching (c.loop-p-test.false ∙ c.from.ensures)
