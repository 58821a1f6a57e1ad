-- `sums::sum_plus`: what the test of the streams told, and what `sum` left.
use Prim.Native.Nat.{ℕ, ◌≤◌, ◌<◌}
use mathlib.Core.Bool.{Bool, true, false}
use mathlib.Core.List.{List}
use mathlib.Core.Option.{Option, none}
use mathlib.Core.Path.{◌≡◌, refl, sym, ◌∙◌}
use native.Mathlib.Omega.{arith}
use lib.IntN.{ℤ, pos}
use lib.ListN.{length, length-map}
use Rattle.std.specs.Prelude.{Ok, Err}
use Rattle.snesl.specs.Streams.{ints}
use Rattle.snesl.specs.Transducers.{each_f, flag_of, misfit, first_outside, outside, sums, sum_plus}
use Rattle.streams.specs.Answers.{Answers}
use Rattle.streams.specs.Fills.{Fills}
use Rattle.streams.specs.Walks.{told_outside}
use Rattle.streams.specs.declared.output.Failure.{Failure}
use Rattle.streams.proofs.Ending.{fitted, makes, too_long, leaves-range}
use Rattle.streams.proofs.Filling.{values, none-outside, some-outside}
use Rattle.segmentwise.proofs.Segment.{sums-long}
use Rattle.segmentwise.proofs.sums.sum_plus.Goals as goal
use Rattle.segmentwise.proofs.sums.sum_plus.Goals.{else-n-out-via-then-n-out+else-sum, else-n-out-via-else-n-out}

module _ (n : ℕ) (flags items : List ℤ) where
  abbrev mis : Option ℕ
  mis = misfit flag_of each_f 0 n flags items

  abbrev results : List (ℕ × ℤ)
  results = sums flag_of 0 (pos 0) flags items

  module _ (old : List ℤ) (fit : mis ≡ none) where
    long : length (values results) ≡ n
    long = length-map results (λ x. x.1) ∙ sums-long n 0 (pos 0) flags items fit

    full : length old < n → {f : Failure} → f ≡ told_outside (first_outside results) → Answers old (sum_plus flag_of n flags items) (Err f) old
    full h p = too_long mis (first_outside results) (ints (values results)) old fit (omega (arith, long)) p

    module _ {b : Bool} {new : List ℤ} (f : Fills results n old b new) where
      made : n ≤ length old → b ≡ true → Answers old (sum_plus flag_of n flags items) (Ok n) new
      made h q = makes mis (first_outside results) outside (ints (values results)) old n fit (none-outside results (sym f.says ∙ q)) long long h (f.wrote q)

      refuses : b ≡ false → {r : Failure} → r ≡ told_outside (first_outside results) → Answers old (sum_plus flag_of n flags items) (Err r) new
      refuses q p =
          let first = some-outside results (sym f.says ∙ q) in
          leaves-range mis (first_outside results) (ints (values results)) old first.0 fit first.1 p

pub returns-then-sum : goal.returns-then-sum
returns-then-sum c =
    record { answers = made _ _ _ _ (fitted each_f _ _ c.args.items.now c.fits.ensures c.in_ok-fits.was) c.sum.ensures c.if-n-out.true c.if-sum.true; out_unchanged = c.sum.ensures.behind }

pub returns : goal.returns
returns c =
    elim c.else-n-out.branch [
      | else-n-out-via-then-n-out+else-sum w ↦ rw w.out-is (record { answers = refuses _ _ _ _ (fitted each_f _ _ c.args.items.now c.fits.ensures c.in_ok-fits.was) w.sum.ensures w.if-sum.false c.first_outside.ensures; out_unchanged = w.sum.ensures.behind })
      | else-n-out-via-else-n-out w ↦ rw w.out-is (record { answers = full _ _ _ _ (fitted each_f _ _ c.args.items.now c.fits.ensures c.in_ok-fits.was) w.if-n-out.false c.first_outside.ensures; out_unchanged = refl })
    ]
