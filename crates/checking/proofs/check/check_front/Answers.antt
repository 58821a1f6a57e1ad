-- The inputs are entered, and then the expression is walked in their scope.
use Rattle.std.proofs.Common.{refl, sym, ◌∙◌, arith}
use Rattle.scopes.proofs.Listing.{handed}
use Rattle.checking.proofs.Checks.{declared-here, few-inputs, entry-refused, walk-asked, walk_refused, walk-found}
use Rattle.checking.proofs.check.check_front.Goals as goal

pub enter-requires-clause-here : goal.enter-requires-clause-here
enter-requires-clause-here c = declared-here c.args.bytes.now c.args.formula c.requires

pub enter-requires-clause-room : goal.enter-requires-clause-room
enter-requires-clause-room c = omega (arith, few-inputs c.args.bytes.now c.args.formula c.requires)

pub returns-in_err-sp : goal.returns-in_err-sp
returns-in_err-sp c = sym (handed _ c.from_residual.ensures.1) ∙ entry-refused c.args.bytes.now c.args.formula c.requires c.enter.new.env _ c.in_err-sp.ensures

pub walk-requires : goal.walk-requires
walk-requires c = walk-asked c.args.bytes.now c.args.formula c.requires c.in_ok-sp.ensures c.enter.auto.env

pub returns-in_err-walked : goal.returns-in_err-walked
returns-in_err-walked c =
    sym (handed _ c.from_residual-in_err-walked.ensures.1)
    ∙ walk_refused c.args.bytes.now c.args.formula c.requires c.in_ok-sp.ensures c.enter.auto.env c.in_err-walked.ensures _ refl

pub returns : goal.returns
returns c = walk-found c.args.bytes.now c.args.formula c.requires c.in_ok-sp.ensures c.enter.auto.env c.in_ok-walked.ensures _ refl
