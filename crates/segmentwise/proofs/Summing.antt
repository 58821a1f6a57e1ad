-- SumPlus under way, whether it writes or only looks: k of n segments are done, and what is left of the streams fits.
use Prim.Native.Nat.{ℕ, suc, ◌+◌, ◌-◌, ◌≤◌, ◌<◌}
use mathlib.Core.List.{List, [], ◌∷◌}
use mathlib.Core.Option.{none}
use mathlib.Core.Path.{◌≡◌, sym, ◌∙◌, ap}
use native.Mathlib.Omega.{arith}
use lib.IntN.{ℤ, pos}
use lib.ListN.{length, length-drop}
use Rattle.snesl.specs.Transducers.{each_f, flag_of, misfit, sums}
use Rattle.flags.specs.Segments.{total_from}
use Rattle.flags.proofs.Clauses.{sums-end}
use Rattle.flags.proofs.Fronts.{front-sums}
use Rattle.streams.specs.Answers.{widest_buffer}
use Rattle.segmentwise.proofs.Segment.{Cut, Segment, segment, finished}

pub record Reached (n k : ℕ) (bs xs : List ℤ) : Type 0 where
  pub fits : misfit flag_of each_f k (n - k) bs xs ≡ none
  pub few : length xs ≤ widest_buffer

module _ {n k : ℕ} {bs xs : List ℤ} (a : Reached n k bs xs) where
  module _ (lt : k < n) {bs' these xs' : List ℤ} {count : ℕ} (cut : Cut bs xs count bs' these xs') where
    pub here : Segment each_f k n count bs xs
    here = segment each_f k n bs xs lt a.fits count cut.is

    pub total_here : sums flag_of k (pos 0) bs xs ≡ (k, total_from (pos 0) these) ∷ sums flag_of (k + 1) (pos 0) bs' xs'
    total_here =
        let e1 : suc k ≡ k + 1 = omega arith in
        front-sums flag_of here.front k (pos 0) xs here.items
        ∙ sym (λ q. (k, total_from (pos 0) (cut.front q)) ∷ sums flag_of (sym e1 q) (pos 0) (cut.rest q) (cut.back q))

    pub onwards : Reached n (k + 1) bs' xs'
    onwards =
        let l : length xs' ≡ length xs - count = ap length cut.back ∙ length-drop count xs in
        record { fits = (λ q. misfit flag_of each_f (k + 1) (n - (k + 1)) (cut.rest q) (cut.back q)) ∙ here.rest; few = omega (arith, a.few) }

  pub over : n ≤ k → sums flag_of k (pos 0) bs xs ≡ []
  over end = ap (λ l. sums flag_of k (pos 0) l xs) (finished each_f bs xs k n end a.fits) ∙ sums-end flag_of k (pos 0) xs
