-- `packs::upack`: what the test of the streams told, how many flags are kept, and what `keep` left.
use Prim.Native.Nat.{ℕ, ◌≤◌, ◌<◌}
use mathlib.Core.List.{List, map}
use mathlib.Core.Option.{none}
use mathlib.Core.Path.{◌≡◌, refl, sym, ◌∙◌, ap}
use native.Mathlib.Omega.{arith}
use lib.IntN.{ℤ}
use lib.ListN.{length, length-map}
use lib.Seq.{sets}
use Rattle.std.specs.Prelude.{Result, Ok, Err}
use Rattle.std.proofs.Common.{rules}
use Rattle.snesl.specs.Streams.{bit, flags}
use Rattle.snesl.specs.Transducers as snesl
use Rattle.snesl.specs.Transducers.{each_t, bool_of, flag_of, misfit, outside}
use Rattle.snesl.proofs.Bools.{misfit-map}
use Rattle.streams.specs.Answers.{Answers}
use Rattle.streams.specs.Walks.{told}
use Rattle.streams.specs.declared.output.Failure.{Failure}
use Rattle.streams.specs.declared.output.Failure.TheVariants.{Unfit, NoRoom}
use Rattle.streams.proofs.Ending.{fitted, unfits, lacks-room, makes}
use Rattle.segmentwise.proofs.Keeping.{keeps}
use Rattle.segmentwise.proofs.Segment.{items-long}
use Rattle.segmentwise.proofs.packs.upack.Goals as goal

module _ (n : ℕ) (bools bs : List ℤ) where
  -- whether streams fit does not depend on what the items are
  same-mis : misfit flag_of each_t 0 n bs (map bool_of bools) ≡ misfit flag_of each_t 0 n bs bools
  same-mis = misfit-map flag_of bool_of each_t 0 n bs bools

  unfit : (old : List ℤ) {r : Result (Unit {0}) Failure} {f : Failure} → r ≡ told (λ k. Unfit k) (misfit flag_of each_t 0 n bs bools) → r ≡ Err f →
      Answers old (snesl.upack flag_of n (map bool_of bools) bs) (Err f) old
  unfit old p e = unfits (misfit flag_of each_t 0 n bs (map bool_of bools)) none outside (flags (keeps bools bs)) old (p ∙ ap (told (λ k. Unfit k)) (sym same-mis)) e

  module _ (fit : misfit flag_of each_t 0 n bs bools ≡ none) where
    -- a bool for each segment
    fits : misfit flag_of each_t 0 (length bools) bs bools ≡ none
    fits = ap (λ m. misfit flag_of each_t 0 m bs bools) (items-long n 0 bs bools fit) ∙ fit

    module _ (old : List ℤ) {m : ℕ} (q : m ≡ length (keeps bools bs)) where
      long : length (map bit (keeps bools bs)) ≡ m
      long = length-map (keeps bools bs) bit ∙ sym q

      full : length old < m → Answers old (snesl.upack flag_of n (map bool_of bools) bs) (Err NoRoom) old
      full h = lacks-room (misfit flag_of each_t 0 n bs (map bool_of bools)) none outside (flags (keeps bools bs)) old (same-mis ∙ fit) refl (omega (arith, long))

      wrote : m ≤ length old → {new : List ℤ} → new ≡ sets old 0 (map bit (keeps bools bs)) → Answers old (snesl.upack flag_of n (map bool_of bools) bs) (Ok m) new
      wrote h w = makes (misfit flag_of each_t 0 n bs (map bool_of bools)) none outside (flags (keeps bools bs)) old m (same-mis ∙ fit) refl (sym q) long h w

pub returns-in_err-fits : goal.returns-in_err-fits
returns-in_err-fits c =
    let e : c.from_residual.result ≡ Err c.in_err-fits.field-0.0 = search rules in
    rw e (unfit _ _ _ _ (c.fits.ensures each_t refl refl c.args.bools.now refl) c.in_err-fits.was)

pub measure-made-requires : goal.measure-made-requires
measure-made-requires c =
    fits _ _ _ (fitted each_t _ _ c.args.bools.now c.fits.ensures c.in_ok-fits.was)

pub returns-then-out-made : goal.returns-then-out-made
returns-then-out-made c =
    full _ _ _ (fitted each_t _ _ c.args.bools.now c.fits.ensures c.in_ok-fits.was) _ c.measure-made.ensures c.if-out-made.true

pub keep-requires-clause-fit : goal.keep-requires-clause-fit
keep-requires-clause-fit c =
    fits _ _ _ (fitted each_t _ _ c.args.bools.now c.fits.ensures c.in_ok-fits.was)

pub returns : goal.returns
returns c =
    wrote _ _ _ (fitted each_t _ _ c.args.bools.now c.fits.ensures c.in_ok-fits.was) _ c.measure-made.ensures c.if-out-made.false c.keep.ensures
