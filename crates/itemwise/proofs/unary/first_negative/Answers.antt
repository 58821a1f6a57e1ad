-- `unary::first_negative`: the first negative of the items that are left.
use Rattle.std.proofs.Common.{◌≡◌, ℤ, Bool, pos, get_or, sym, ◌∙◌, ap, rules}
use Rattle.std.specs.Int.{w32}
use lib.Signed.{lt_z}
use mir.Facts.{to_z-of_z}
use mir.Val.{SFits, to_z, of_z}
use Rattle.streams.specs.Walks.{told_negative}
use Rattle.itemwise.proofs.Lengths.{negative-at, not-negative-at, negative-over}
use Rattle.itemwise.proofs.unary.first_negative.Goals as goal

sign : (z : ℤ) {b : Bool} → SFits w32 z → lt_z (to_z w32 (of_z w32 z)) (pos 0) ≡ b → lt_z z (pos 0) ≡ b
sign z f e = sym (ap (λ y. lt_z y (pos 0)) (to_z-of_z f)) ∙ e

pub returns-then-items-i-lt0 : goal.returns-then-items-i-lt0
returns-then-items-i-lt0 c =
    let f : SFits w32 (get_or c.args.items.now c.loop-i.i (pos 0)) = search rules in
    sym (ap told_negative (c.loop-i.invariant ∙ negative-at c.args.items.now c.loop-i.i c.loop-i-test.true (sign _ f c.if-items-i-lt0.true)))

pub loop-i-preserved : goal.loop-i-preserved
loop-i-preserved c =
    let f : SFits w32 (get_or c.args.items.now c.loop-i.i (pos 0)) = search rules in
    c.loop-i.invariant ∙ not-negative-at c.args.items.now c.loop-i.i c.loop-i-test.true (sign _ f c.if-items-i-lt0.false)

pub returns : goal.returns
returns c = sym (ap told_negative (c.loop-i.invariant ∙ negative-over c.args.items.now c.loop-i.i c.loop-i-test.false))
