-- The tests stand in the definition's order; the body's scope is written where all of them pass.
use Rattle.std.proofs.Common.{sym, refl, ◌∙◌, arith}
use Rattle.scopes.proofs.Listing.{hands-on, each-unbound, each-unusable, each-scalar, each-types, each-inside, room-left}
use Rattle.scopes.proofs.listed.prepare.Goals as goal
use Rattle.scopes.proofs.listed.prepare.Goals.{then-sequence-eq0-via-then-sequence-eq0, then-sequence-eq0-via-else-sequence-eq0+then-not-scalars}

pub returns-in_err-sequence : goal.returns-in_err-sequence
returns-in_err-sequence c =
    hands-on _ _ _ (each-unbound _ _ _ _ _ (sym c.look.ensures ∙ c.in_err-sequence.ensures.ok_part)) c.in_err-sequence.ensures.ok_part
    c.in_err-sequence.ensures.value c.from_residual.ensures.1

pub returns-then-not-each_usable : goal.returns-then-not-each_usable
returns-then-not-each_usable c = record { is = each-unusable _ _ _ _ _ _ (sym c.look.ensures ∙ c.in_ok-sequence.ensures.ok_part) (sym c.if-not-each_usable.ensures); kept = refl }

pub returns-then-sequence-eq0 : goal.returns-then-sequence-eq0
returns-then-sequence-eq0 c = elim c.then-sequence-eq0.branch [
  | then-sequence-eq0-via-then-sequence-eq0 w ↦ record { is = each-scalar _ _ _ _ _ _ (sym c.look.ensures ∙ c.in_ok-sequence.ensures.ok_part) (sym c.if-not-each_usable.ensures) w.if-sequence-eq0.true; kept = refl }
  | then-sequence-eq0-via-else-sequence-eq0+then-not-scalars w ↦ record { is = each-types _ _ _ _ _ _ (sym c.look.ensures ∙ c.in_ok-sequence.ensures.ok_part) (sym c.if-not-each_usable.ensures) w.if-sequence-eq0.false (sym w.if-not-scalars.ensures); kept = refl }
]

pub push-requires : goal.push-requires
push-requires c = let r = room-left _ _ c.push_listed-top.ensures c.requires.0 in (r.0, omega (arith, r.1, c.push_listed-top.auto.env, c.requires))

pub returns : goal.returns
returns c = each-inside _ _ _ _ _ _ (sym c.look.ensures ∙ c.in_ok-sequence.ensures.ok_part) (sym c.if-not-each_usable.ensures) c.if-sequence-eq0.false (sym c.if-not-scalars.ensures) c.push_listed-top.ensures c.push.ensures
