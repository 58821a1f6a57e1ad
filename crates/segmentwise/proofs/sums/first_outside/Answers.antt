-- `sums::first_outside`: the first total that is out of range is among those of what is left of the streams.
use Prim.Native.Nat.{ℕ, ◌+◌, ◌≤◌, ◌<◌}
use mathlib.Core.Bool.{Bool, true, false}
use mathlib.Core.List.{List, ◌∷◌}
use mathlib.Core.Path.{◌≡◌, sym, ◌∙◌, ap}
use borrow.Author.Rules.{sfits_of}
use lib.IntN.{ℤ, pos}
use mir.Facts.{to_z-of_z}
use mir.Syntax.{w64}
use mir.Val.{SFits, to_z, of_z}
use Rattle.laws.specs.Range.{fitting}
use Rattle.snesl.specs.Transducers.{each_f, flag_of, sums, first_outside}
use Rattle.flags.specs.Segments.{total_from}
use Rattle.streams.specs.Walks.{told_outside}
use Rattle.streams.specs.declared.output.Failure.TheVariants.{Outside, NoRoom}
use Rattle.streams.proofs.Filling.{outside-not, outside-here, outside-none}
use Rattle.segmentwise.proofs.Segment.{Cut, cut, ends-within, items-within}
use Rattle.segmentwise.proofs.Summing as S
use Rattle.segmentwise.proofs.sums.first_outside.Invariants.{Head}
use Rattle.segmentwise.proofs.sums.first_outside.Goals as goal

module _ {n : ℕ} {flags items bs xs : List ℤ} {k : ℕ} (a : Head n flags items bs xs k) where
  module _ (lt : k < n) {bs' these xs' : List ℤ} {count : ℕ} (cut : Cut bs xs count bs' these xs') (t : ℤ) {b : Bool} (total : t ≡ total_from (pos 0) these) (ok : SFits w64 t)
      (p : b ≡ fitting (to_z w64 (of_z w64 t))) where
    to-come : first_outside (sums flag_of 0 (pos 0) flags items) ≡ first_outside ((k, t) ∷ sums flag_of (k + 1) (pos 0) bs' xs')
    to-come = a.first ∙ ap first_outside (S.total_here a.reached lt cut) ∙ ap (λ z. first_outside ((k, z) ∷ sums flag_of (k + 1) (pos 0) bs' xs')) (sym total)

    tells : {c : Bool} → b ≡ c → fitting t ≡ c
    tells q = ap fitting (sym (to_z-of_z ok)) ∙ sym p ∙ q

    turn : b ≡ true → Head n flags items bs' xs' (k + 1)
    turn q = record { reached = S.onwards a.reached lt cut; first = to-come ∙ outside-not k t _ (tells q) }

    stop : b ≡ false → Outside k ≡ told_outside (first_outside (sums flag_of 0 (pos 0) flags items))
    stop q = sym (ap told_outside (to-come ∙ outside-here k t _ (tells q)))

  over : n ≤ k → NoRoom ≡ told_outside (first_outside (sums flag_of 0 (pos 0) flags items))
  over end = sym (ap told_outside (a.first ∙ ap first_outside (S.over a.reached end) ∙ outside-none))

pub next_segment-count-requires : goal.next_segment-count-requires
next_segment-count-requires c = ends-within each_f _ _ _ _ c.loop-k-test.true c.loop-k.invariant.reached.fits

pub split_at-requires : goal.split_at-requires
split_at-requires c = items-within each_f _ _ _ _ c.loop-k-test.true c.loop-k.invariant.reached.fits _ c.next_segment-count.ensures.count

pub loop-k-preserved : goal.loop-k-preserved
loop-k-preserved c = turn c.loop-k.invariant c.loop-k-test.true (cut c.next_segment-count.ensures.count c.next_segment-count.ensures.rest c.split_at.ensures.front c.split_at.ensures.back)
    _ c.total.ensures (sfits_of c.total.type_inv) c.in_range.ensures c.if-not-in_range.false

pub returns-then-not-in_range : goal.returns-then-not-in_range
returns-then-not-in_range c = stop c.loop-k.invariant c.loop-k-test.true (cut c.next_segment-count.ensures.count c.next_segment-count.ensures.rest c.split_at.ensures.front c.split_at.ensures.back)
    _ c.total.ensures (sfits_of c.total.type_inv) c.in_range.ensures c.if-not-in_range.true

pub returns : goal.returns
returns c = over c.loop-k.invariant c.loop-k-test.false
