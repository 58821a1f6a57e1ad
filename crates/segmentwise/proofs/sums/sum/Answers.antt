-- `sums::sum`: the totals so far, and those of what is left of the streams.
use Prim.Native.Nat.{ℕ, ◌+◌, ◌≤◌, ◌<◌}
use mathlib.Core.Bool.{Bool, ◌&&◌}
use mathlib.Core.List.{List, ◌∷◌}
use mathlib.Core.Path.{◌≡◌, refl, sym, ◌∙◌, ap}
use native.Mathlib.Omega.{arith}
use borrow.Author.Rules.{sfits_of}
use lib.IntN.{ℤ, pos}
use lib.ListN.{set}
use mir.Facts.{to_z-of_z}
use mir.Syntax.{w32, w64}
use mir.Val.{SFits, to_z, of_z}
use Rattle.laws.specs.Range.{fitting, held_of}
use Rattle.laws.proofs.Whole.{held-inside, held_fits, read}
use Rattle.snesl.specs.Transducers.{each_f, flag_of, sums}
use Rattle.flags.specs.Segments.{total_from}
use Rattle.streams.specs.Fills.{Fills}
use Rattle.streams.proofs.Filling as F
use Rattle.segmentwise.proofs.Segment.{Cut, cut, ends-within, items-within}
use Rattle.segmentwise.proofs.Summing as S
use Rattle.segmentwise.proofs.sums.sum.Invariants.{Head}
use Rattle.segmentwise.proofs.sums.sum.Goals as goal

module _ {n : ℕ} {flags items old buf bs xs : List ℤ} {inside : Bool} {k : ℕ} (a : Head n flags items old buf bs xs inside k) where
  turn : k < n → {bs' these xs' : List ℤ} {count : ℕ} → Cut bs xs count bs' these xs' → (t v : ℤ) {b : Bool} → t ≡ total_from (pos 0) these → SFits w64 t →
      b ≡ fitting (to_z w64 (of_z w64 t)) → v ≡ held_of (to_z w64 (of_z w64 t)) → Head n flags items old (set buf k (to_z w32 (of_z w32 v))) bs' xs' (inside && b) (k + 1)
  turn lt {bs'} {these} {xs'} cut t v total ok p q =
      let held : to_z w32 (of_z w32 v) ≡ held_of t = ap (λ y. to_z w32 (of_z w32 y)) (q ∙ ap held_of (to_z-of_z ok)) ∙ read (held_of t) (held_fits t) in
      let to-come : sums flag_of k (pos 0) bs xs ≡ (k, t) ∷ sums flag_of (k + 1) (pos 0) bs' xs' =
      S.total_here a.reached lt cut ∙ ap (λ z. (k, z) ∷ sums flag_of (k + 1) (pos 0) bs' xs') (sym total) in
      record {
        reached = S.onwards a.reached lt cut;
        room = a.room;
        filling = F.put a.filling k t (to_z w32 (of_z w32 v)) to-come (λ f. held ∙ held-inside t f) refl (p ∙ ap fitting (to_z-of_z ok));
      }

  done : k ≤ n → n ≤ k → Fills (sums flag_of 0 (pos 0) flags items) n old inside buf
  done few end =
      let all : k ≡ n = omega arith in
      let o = F.over a.filling (S.over a.reached end) in
      record { says = o.0; long = o.1 ∙ all; wrote = o.2; behind = F.behind a.filling n few }

pub next_segment-count-requires : goal.next_segment-count-requires
next_segment-count-requires c = ends-within each_f _ _ _ _ c.loop-k-test.true c.loop-k.invariant.reached.fits

pub split_at-requires : goal.split_at-requires
split_at-requires c = items-within each_f _ _ _ _ c.loop-k-test.true c.loop-k.invariant.reached.fits _ c.next_segment-count.ensures.count

pub loop-k-preserved : goal.loop-k-preserved
loop-k-preserved c = turn c.loop-k.invariant c.loop-k-test.true (cut c.next_segment-count.ensures.count c.next_segment-count.ensures.rest c.split_at.ensures.front c.split_at.ensures.back)
    _ _ c.total-t.ensures (sfits_of c.total-t.type_inv) c.in_range-inside.ensures c.held.ensures

pub returns : goal.returns
returns c = done c.loop-k.invariant c.loop-k.auto.k-end c.loop-k-test.false
