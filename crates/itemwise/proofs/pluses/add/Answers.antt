-- `pluses::add`: a turn stores the first of the sums that are still to come, and says whether it was in range.
use Rattle.std.proofs.Common.{◌≡◌, ℕ, ◌+◌, ◌<◌, ◌≤◌, Bool, ◌&&◌, List, ◌∷◌, length, get_or, drop, set, ℤ, pos, ◌+ℤ◌, refl, sym, ◌∙◌, ap, arith, rules}
use Rattle.std.specs.Int.{w32}
use mir.Val.{SFits}
use Rattle.laws.specs.Range.{fitting, held_of}
use Rattle.laws.proofs.Whole.{held-inside, read}
use Rattle.snesl.specs.Transducers.{pluses}
use Rattle.streams.specs.Fills.{Fills}
use Rattle.streams.proofs.Filling as F
use Rattle.streams.proofs.Filling.{Filling}
use Rattle.itemwise.proofs.Lengths.{pluses-at, pluses-over}
use Rattle.itemwise.proofs.Pairs.{exact}
use Rattle.itemwise.proofs.pluses.add.Goals as goal

module _ (xs ys old out : List ℤ) (inside : Bool) (i : ℕ) (f : Filling (pluses 0 xs ys) old out (pluses i (drop i xs) (drop i ys)) inside i) where
  turn : i < length xs → i < length ys → (z : ℤ) {b : Bool} {v : ℤ} → z ≡ get_or xs i (pos 0) +ℤ get_or ys i (pos 0) → b ≡ fitting z → v ≡ held_of z →
      Filling (pluses 0 xs ys) old (set out i v) (pluses (i + 1) (drop (i + 1) xs) (drop (i + 1) ys)) (inside && b) (i + 1)
  turn hx hy z {b} {v} s p q =
      F.put f i z v (pluses-at xs ys i hx hy ∙ ap (λ y. (i, y) ∷ pluses (i + 1) (drop (i + 1) xs) (drop (i + 1) ys)) (sym s)) (λ e. q ∙ held-inside z e) refl p

  done : i ≤ length xs → length xs ≤ i → Fills (pluses 0 xs ys) (length xs) old inside out
  done h end =
      let all : i ≡ length xs = omega arith in
      let o = F.over f (pluses-over xs ys i end) in
      record { says = o.0; long = o.1 ∙ all; wrote = o.2; behind = F.behind f (length xs) h }

pub loop-i-preserved : goal.loop-i-preserved
loop-i-preserved c =
    let fx : SFits w32 (get_or c.args.xs.now c.loop-i.i (pos 0)) = search rules in
    let fy : SFits w32 (get_or c.args.ys.now c.loop-i.i (pos 0)) = search rules in
    let z = exact (get_or c.args.xs.now c.loop-i.i (pos 0)) (get_or c.args.ys.now c.loop-i.i (pos 0)) fx fy c.from.ensures c.from-in-loop-i.ensures in
    turn c.args.xs.now c.args.ys.now c.args.out.now c.loop-i.out c.loop-i.inside c.loop-i.i c.loop-i.invariant c.loop-i-test.true
    (omega (arith, c.requires.0, c.loop-i-test.true)) _ z c.in_range-inside.ensures (read c.held.result c.held.type_inv ∙ c.held.ensures)

pub returns : goal.returns
returns c =
    done c.args.xs.now c.args.ys.now c.args.out.now c.loop-i.out c.loop-i.inside c.loop-i.i c.loop-i.invariant c.loop-i.auto.i-end c.loop-i-test.false
