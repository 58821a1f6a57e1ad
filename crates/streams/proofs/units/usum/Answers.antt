-- `units::usum`: of flags that fit, all but n are F's.
use Prim.Native.Nat.{ℕ, ◌+◌, ◌-◌}
use mathlib.Core.List.{List, []}
use mathlib.Core.Option.{none}
use mathlib.Core.Path.{◌≡◌, sym, ◌∙◌, ap}
use native.Mathlib.Omega.{arith}
use lib.IntN.{ℤ}
use lib.ListN.{length}
use Rattle.std.specs.Prelude.{Ok}
use Rattle.snesl.specs.Streams.{units}
use Rattle.snesl.specs.Transducers.{alone, flag_of, misfit, count_f, made, unfit, unless, usum}
use Rattle.flags.proofs.Fronts.{fits_count}
use Rattle.streams.specs.Answers.{answered}
use Rattle.streams.proofs.Ending.{fitted}
use Rattle.streams.proofs.units.usum.Goals as goal

module _ (flags : List ℤ) (n : ℕ) (fit : misfit flag_of {B = ℤ} alone 0 n flags [] ≡ none) where
  all : count_f flag_of flags + n ≡ length flags
  all = fits_count flag_of alone n 0 flags [] fit

  counts : Ok (length flags - n) ≡ answered 0 (usum flag_of n flags)
  counts =
      let e : length flags - n ≡ count_f flag_of flags = omega (arith, all) in
      ap (λ (k : ℕ). Ok k) e ∙ sym (ap (λ o. answered 0 (unless o unfit (made (units (count_f flag_of flags))))) fit)

pub overflow_sub-result : goal.overflow_sub-result
overflow_sub-result c = omega (arith, all c.args.flags.now c.args.n (fitted alone _ _ [] c.fits.ensures c.in_ok-fits.was))

pub returns : goal.returns
returns c = counts c.args.flags.now c.args.n (fitted alone _ _ [] c.fits.ensures c.in_ok-fits.was)
