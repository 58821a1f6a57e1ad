-- Measured first on an empty part of the slice, and written if there is room.
use mathlib.Core.Path.{refl}
use Rattle.lister.proofs.Listing as listings
use Rattle.lister.proofs.list.list_found.Goals as goal

pub enter_inputs-e-requires : goal.enter_inputs-e-requires
enter_inputs-e-requires c = listings.declares c.requires.0 _ refl c.requires.1

pub put_whole-needed-requires : goal.put_whole-needed-requires
put_whole-needed-requires c = listings.whole_ready c.requires.0 _ refl c.requires.1 c.enter_inputs-e.ensures c.enter_inputs-e.auto.env (λ i. (c.type_inv.formula i).fits) _ refl refl

pub returns-then-text-needed : goal.returns-then-text-needed
returns-then-text-needed c = listings.unlisted c.requires.0 _ refl c.requires.1 c.enter_inputs-e.ensures c.enter_inputs-e.auto.env (λ i. (c.type_inv.formula i).fits) _ c.put_whole-needed.ensures c.args.text.now c.if-text-needed.true

pub put_whole-requires : goal.put_whole-requires
put_whole-requires c = listings.whole_ready c.requires.0 _ refl c.requires.1 c.enter_inputs-e.ensures c.enter_inputs-e.auto.env (λ i. (c.type_inv.formula i).fits) _
    (listings.kept c.requires.0 _ refl c.requires.1 c.enter_inputs-e.ensures c.enter_inputs-e.auto.env (λ i. (c.type_inv.formula i).fits) _ c.put_whole-needed.ensures) c.put_whole-needed.auto.env

pub returns : goal.returns
returns c = listings.listed c.requires.0 _ refl c.requires.1 c.enter_inputs-e.ensures c.enter_inputs-e.auto.env (λ i. (c.type_inv.formula i).fits) _ c.put_whole-needed.ensures c.args.text.now _ c.if-text-needed.false c.put_whole.ensures c.put_whole-needed.auto.env
