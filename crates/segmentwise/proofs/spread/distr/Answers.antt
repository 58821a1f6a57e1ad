-- `spread::distr`: what the test of the streams told, and what `distribute` left.
use Prim.Native.Nat.{ℕ, ◌+◌, ◌-◌, ◌≤◌, ◌<◌}
use mathlib.Core.List.{List}
use mathlib.Core.Option.{none}
use mathlib.Core.Path.{◌≡◌, refl, ◌∙◌, ap}
use native.Mathlib.Omega.{arith}
use lib.IntN.{ℤ}
use lib.ListN.{length}
use lib.Seq.{sets}
use Rattle.std.specs.Prelude.{Ok, Err}
use Rattle.snesl.specs.declared.code.Base.TheVariants.{Int}
use Rattle.snesl.specs.Streams.{ints}
use Rattle.snesl.specs.Transducers.{each_t, flag_of, misfit, outside, spread, distr}
use Rattle.streams.specs.Answers.{Answers}
use Rattle.streams.specs.declared.output.Failure.TheVariants.{NoRoom}
use Rattle.streams.proofs.Ending.{fitted, lacks-room, makes}
use Rattle.segmentwise.proofs.Segment.{items-long, spread-long}
use Rattle.segmentwise.proofs.spread.distr.Goals as goal

module _ (n : ℕ) (flags items : List ℤ) (fit : misfit flag_of each_t 0 n flags items ≡ none) where
  abbrev output : List ℤ
  output = spread flag_of flags items

  long : length (spread flag_of flags items) + n ≡ length flags
  long = spread-long n 0 flags items fit

  -- an item for each segment
  fits : misfit flag_of each_t 0 (length items) flags items ≡ none
  fits = ap (λ m. misfit flag_of each_t 0 m flags items) (items-long n 0 flags items fit) ∙ fit

  module _ (old : List ℤ) where
    full : length old < length flags - n → Answers old (distr flag_of n flags Int items) (Err NoRoom) old
    full h = lacks-room (misfit flag_of each_t 0 n flags items) none outside (ints output) old fit refl (omega (arith, long))

    made : length flags - n ≤ length old → {new : List ℤ} → new ≡ sets old 0 (spread flag_of flags items) → Answers old (distr flag_of n flags Int items) (Ok (length flags - n)) new
    made h w =
        let l : length output ≡ length flags - n = omega (arith, long) in
        makes (misfit flag_of each_t 0 n flags items) none outside (ints output) old (length flags - n) fit refl l l h w

pub overflow_sub-made : goal.overflow_sub-made
overflow_sub-made c =
    omega (arith, long _ _ _ (fitted each_t _ _ c.args.items.now c.fits.ensures c.in_ok-fits.was))

pub returns-then-out-made : goal.returns-then-out-made
returns-then-out-made c =
    full _ _ _ (fitted each_t _ _ c.args.items.now c.fits.ensures c.in_ok-fits.was) _ c.if-out-made.true

pub distribute-requires-clause-fit : goal.distribute-requires-clause-fit
distribute-requires-clause-fit c =
    fits _ _ _ (fitted each_t _ _ c.args.items.now c.fits.ensures c.in_ok-fits.was)

pub distribute-requires-clause-room : goal.distribute-requires-clause-room
distribute-requires-clause-room c =
    omega (arith, long _ _ _ (fitted each_t _ _ c.args.items.now c.fits.ensures c.in_ok-fits.was), c.if-out-made.false)

pub returns : goal.returns
returns c =
    made _ _ _ (fitted each_t _ _ c.args.items.now c.fits.ensures c.in_ok-fits.was) _ c.if-out-made.false c.distribute.ensures
