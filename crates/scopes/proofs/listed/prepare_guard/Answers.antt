-- The tests stand in the definition's order; the body's scope is written where all of them pass.
use Rattle.std.proofs.Common.{sym, refl, ◌∙◌}
use Rattle.scopes.proofs.Listing.{hands-on, guard-unbound, guard-unusable, guard-other, guard-inside}
use Rattle.scopes.proofs.listed.prepare_guard.Goals as goal

pub returns-in_err-guard : goal.returns-in_err-guard
returns-in_err-guard c =
    hands-on _ _ _ (guard-unbound _ _ _ _ (sym c.look.ensures ∙ c.in_err-guard.ensures.ok_part)) c.in_err-guard.ensures.ok_part c.in_err-guard.ensures.value
    c.from_residual.ensures.1

pub returns-then-not-usable : goal.returns-then-not-usable
returns-then-not-usable c = record { is = guard-unusable _ _ _ _ _ (sym c.look.ensures ∙ c.in_ok-guard.ensures.ok_part) (sym c.if-not-usable.ensures); kept = refl }

pub returns-then-ne : goal.returns-then-ne
returns-then-ne c = record { is = guard-other _ _ _ _ _ (sym c.look.ensures ∙ c.in_ok-guard.ensures.ok_part) (sym c.if-not-usable.ensures) c.if-ne.ensures; kept = refl }

pub returns : goal.returns
returns c = guard-inside _ _ _ _ _ (sym c.look.ensures ∙ c.in_ok-guard.ensures.ok_part) (sym c.if-not-usable.ensures) c.if-ne.ensures c.push_listed.ensures
