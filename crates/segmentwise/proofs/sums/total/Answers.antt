-- `sums::total`: the items that are left, added to what was added. No more than i items are in a total, so it fits 64 bits.
use Prim.Native.Nat.{ℕ, ◌+◌, ◌*◌, ◌≤◌, ◌<◌, ◌^◌}
use mathlib.Core.List.{List, [], ◌∷◌}
use mathlib.Core.Path.{◌≡◌, refl, sym, ◌∙◌, ap}
use native.Mathlib.Numerals.{add-one}
use native.Mathlib.Omega.{arith}
use lib.IntN.{ℤ, pos, ◌+ℤ◌}
use lib.ListN.{length, drop, get_or, drop_of_length-le}
use lib.Seq.{drop-cons}
use lib.Signed.{mag}
use mir.Facts.{to_z-of_z}
use mir.Syntax.{w32, w64}
use mir.Val.{SFits, to_z, of_z}
use Rattle.laws.proofs.Whole.{mag_sum, wide}
use Rattle.flags.specs.Segments.{total_from}
use Rattle.streams.specs.Answers.{widest_buffer}
use Rattle.segmentwise.proofs.sums.total.Invariants.{Head}
use Rattle.segmentwise.proofs.sums.total.Goals as goal

totals-end : (t : ℤ) → total_from t [] ≡ t
unfolding total_from
totals-end t = refl

totals-next : (t x : ℤ) (xs : List ℤ) → total_from t (x ∷ xs) ≡ total_from (t +ℤ x) xs
unfolding total_from
totals-next t x xs = refl

module _ {items : List ℤ} {i : ℕ} {t : ℤ} (a : Head items i t) where
  turn : length items ≤ widest_buffer → i < length items → mag (get_or items i (pos 0)) < 2 ^ 31 → (w : ℤ) → w ≡ to_z w32 (of_z w32 (get_or items i (pos 0))) →
      Head items (i + 1) (to_z w64 (of_z w64 (t +ℤ to_z w64 (of_z w64 w))))
  turn few lt h w e =
      let x : ℤ = get_or items i (pos 0) in
      let larger : mag (t +ℤ x) ≤ (i + 1) * 2147483648 = omega (arith, mag_sum t x, a.size) in
      let fits : SFits w64 (t +ℤ x) = record { sfits = omega (arith, larger) } in
      let next : drop i items ≡ x ∷ drop (i + 1) items = drop-cons items i (pos 0) lt ∙ ap (λ m. x ∷ drop m items) (sym (add-one i)) in
      rw (e, wide x h, to_z-of_z fits)
      (record { size = larger; same = a.same ∙ ap (total_from t) next ∙ totals-next t x (drop (i + 1) items) })

  done : length items ≤ i → t ≡ total_from (pos 0) items
  done end = sym (a.same ∙ ap (total_from t) (drop_of_length-le items end) ∙ totals-end t)

pub loop-x-preserved : goal.loop-x-preserved
loop-x-preserved c = turn c.loop-x.invariant c.requires c.loop-x-test.true (omega arith) c.from-sum.result c.from-sum.ensures

pub returns : goal.returns
returns c = done c.loop-x.invariant c.loop-x-test.false
