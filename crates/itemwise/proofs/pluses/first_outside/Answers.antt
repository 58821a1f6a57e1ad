-- `pluses::first_outside`: the first that is out of range, of the sums that are left.
use Rattle.std.proofs.Common.{◌≡◌, ℕ, ◌+◌, ◌<◌, Bool, true, false, List, ◌∷◌, length, get_or, drop, ℤ, pos, ◌+ℤ◌, sym, ◌∙◌, ap, arith, rules}
use Rattle.std.proofs.Math.Option.{some}
use Rattle.std.specs.Int.{w32}
use mir.Val.{SFits}
use Rattle.laws.specs.Range.{fitting}
use Rattle.snesl.specs.Transducers.{pluses, first_outside}
use Rattle.streams.specs.Walks.{told_outside}
use Rattle.streams.proofs.Filling.{outside-not, outside-here, outside-none}
use Rattle.itemwise.proofs.Lengths.{pluses-at, pluses-over}
use Rattle.itemwise.proofs.Pairs.{exact}
use Rattle.itemwise.proofs.pluses.first_outside.Goals as goal

module _ (xs ys : List ℤ) (i : ℕ) where
  module _ (hx : i < length xs) (hy : i < length ys) (z : ℤ) {b : Bool} (s : z ≡ get_or xs i (pos 0) +ℤ get_or ys i (pos 0)) (p : b ≡ fitting z) where
    at : pluses i (drop i xs) (drop i ys) ≡ (i, z) ∷ pluses (i + 1) (drop (i + 1) xs) (drop (i + 1) ys)
    at = pluses-at xs ys i hx hy ∙ ap (λ y. (i, y) ∷ pluses (i + 1) (drop (i + 1) xs) (drop (i + 1) ys)) (sym s)

    inside : b ≡ true → first_outside (pluses i (drop i xs) (drop i ys)) ≡ first_outside (pluses (i + 1) (drop (i + 1) xs) (drop (i + 1) ys))
    inside e = ap first_outside at ∙ outside-not i z _ (sym p ∙ e)

    stop : b ≡ false → first_outside (pluses i (drop i xs) (drop i ys)) ≡ some i
    stop e = ap first_outside at ∙ outside-here i z _ (sym p ∙ e)

pub returns-then-not-in_range : goal.returns-then-not-in_range
returns-then-not-in_range c =
    let fx : SFits w32 (get_or c.args.xs.now c.loop-i.i (pos 0)) = search rules in
    let fy : SFits w32 (get_or c.args.ys.now c.loop-i.i (pos 0)) = search rules in
    let z = exact (get_or c.args.xs.now c.loop-i.i (pos 0)) (get_or c.args.ys.now c.loop-i.i (pos 0)) fx fy c.from.ensures c.from-in-loop-i.ensures in
    sym (ap told_outside (c.loop-i.invariant ∙ stop c.args.xs.now c.args.ys.now c.loop-i.i c.loop-i-test.true (omega (arith, c.requires, c.loop-i-test.true)) _ z c.in_range.ensures c.if-not-in_range.true))

pub loop-i-preserved : goal.loop-i-preserved
loop-i-preserved c =
    let fx : SFits w32 (get_or c.args.xs.now c.loop-i.i (pos 0)) = search rules in
    let fy : SFits w32 (get_or c.args.ys.now c.loop-i.i (pos 0)) = search rules in
    let z = exact (get_or c.args.xs.now c.loop-i.i (pos 0)) (get_or c.args.ys.now c.loop-i.i (pos 0)) fx fy c.from.ensures c.from-in-loop-i.ensures in
    c.loop-i.invariant ∙ inside c.args.xs.now c.args.ys.now c.loop-i.i c.loop-i-test.true (omega (arith, c.requires, c.loop-i-test.true)) _ z c.in_range.ensures c.if-not-in_range.false

pub returns : goal.returns
returns c = sym (ap told_outside (c.loop-i.invariant ∙ ap first_outside (pluses-over c.args.xs.now c.args.ys.now c.loop-i.i c.loop-i-test.false) ∙ outside-none))
