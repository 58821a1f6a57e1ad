-- A scan goes on as its first record asks, with one nesting less.
use Rattle.std.proofs.Common.{◌∙◌, ap, sym}
use Rattle.std.proofs.lemmas.Result.{err_from_is_err_and}
use Rattle.std.specs.Prelude.{Ok}
use Rattle.formula.proofs.Scanning.{scan-by, scan-unasked, scan-full}
use Rattle.formula.proofs.read.+scan.Goals as goal

pub returns-in_err-asks : goal.returns-in_err-asks
returns-in_err-asks t c = let p = err_from_is_err_and c.from_residual.result c.from_residual.ensures.1 in
    rw (p.1, p.2) (scan-unasked c.args.bytes.now c.args.k c.args.n c.args.levels c.asked.ensures c.in_err-asks.was)

pub returns-in_err-admit : goal.returns-in_err-admit
returns-in_err-admit t c = let p = err_from_is_err_and c.from_residual-in_err-admit.result c.from_residual-in_err-admit.ensures.1 in
    rw (p.1, p.2) (scan-full c.args.bytes.now c.args.k c.args.n c.args.levels c.asked.ensures c.in_ok-asks.was c.admit.ensures c.in_err-admit.was)

pub returns-in_err-body-in-Let : goal.returns-in_err-body-in-Let
returns-in_err-body-in-Let t c = let both = (scan-by c.args.bytes.now c.args.k c.args.n c.args.levels c.asked.ensures (c.in_ok-asks.was ∙ ap Ok c.in-Let.is) c.admit.ensures c.in_ok-admit.was).2 in
    let p = err_from_is_err_and c.from_residual-in_err-body-in-Let.result c.from_residual-in_err-body-in-Let.ensures.1 in
    rw (p.1, p.2) (sym (both.first _ (sym c.scan.ensures ∙ c.in_err-body-in-Let.was)))

pub returns-in-Leaf : goal.returns-in-Leaf
returns-in-Leaf t c = sym (scan-by c.args.bytes.now c.args.k c.args.n c.args.levels c.asked.ensures (c.in_ok-asks.was ∙ ap Ok c.in-Leaf.is) c.admit.ensures c.in_ok-admit.was).1

pub returns-in_ok-body-in-Let : goal.returns-in_ok-body-in-Let
returns-in_ok-body-in-Let t c = let both = (scan-by c.args.bytes.now c.args.k c.args.n c.args.levels c.asked.ensures (c.in_ok-asks.was ∙ ap Ok c.in-Let.is) c.admit.ensures c.in_ok-admit.was).2 in
    c.scan-in-Let.ensures ∙ sym (both.second _ (sym c.scan.ensures ∙ c.in_ok-body-in-Let.was))

pub returns-in-Nested : goal.returns-in-Nested
returns-in-Nested t c = c.scan-in-Nested.ensures ∙ sym (scan-by c.args.bytes.now c.args.k c.args.n c.args.levels c.asked.ensures (c.in_ok-asks.was ∙ ap Ok c.in-Nested.is) c.admit.ensures c.in_ok-admit.was).2
