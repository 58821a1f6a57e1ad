-- `fit::fits`: streams of the right counts fit; all others are asked flag by flag.
use Prim.Native.Nat.{ℕ, ◌+◌, ◌-◌}
use mathlib.Core.Bool.{Bool, true, false}
use mathlib.Core.List.{List, []}
use mathlib.Core.Option.{Option, some, none}
use mathlib.Core.Path.{◌≡◌, refl, sym, ◌∙◌, ap}
use native.Mathlib.Omega.{arith}
use lib.IntN.{ℤ}
use lib.ListN.{length}
use Rattle.std.specs.Prelude as rust
use Rattle.laws.proofs.Never.{never}
use Rattle.snesl.specs.Transducers.{Feed, alone, each_f, each_t, takes, flag_of, misfit, count_f}
use Rattle.flags.specs.Flags.{found}
use Rattle.flags.specs.Segments.{wholes}
use Rattle.flags.proofs.Fronts.{fits_count, whole-fits, wanted}
use Rattle.streams.specs.Walks.{told, wanted_by}
use Rattle.streams.specs.declared.output.Failure.TheVariants.{Unfit}
use Rattle.streams.proofs.fit.fits.Goals as goal

module _ (flags : List ℤ) (n : ℕ) {r : rust.Option ℕ} (read : r ≡ found (wholes flag_of 0 false flags)) {m : ℕ} (whole : r ≡ rust.Some m) (right : m ≡ n) where
  is_whole : wholes flag_of 0 false flags ≡ some n
  is_whole = go (wholes flag_of 0 false flags) read ∙ ap some right
    where
      go : (o : Option ℕ) → r ≡ found o → o ≡ some m
      go none e = never (cc)
      go (some k) e = cc

  counts : count_f flag_of flags + n ≡ length flags
  counts =
      let e : n - 0 ≡ n = omega arith in
      let fit : misfit flag_of {B = ℤ} alone 0 n flags [] ≡ none =
      ap (λ k. misfit flag_of {B = ℤ} alone 0 k flags []) (sym e) ∙ whole-fits flag_of alone 0 false flags n [] is_whole refl in
      fits_count flag_of alone n 0 flags [] fit

  wants : (feed : Feed) → wanted_by (takes feed false) (takes feed true) (length flags - n) n ≡ wanted flag_of feed (n - 0) flags
  wants alone = refl
  wants each_f = omega (arith, counts)
  wants each_t = omega arith

  quick : {f t : Bool} {items w : ℕ} → w ≡ wanted_by f t (length flags - n) n → w ≡ items → (feed : Feed) → takes feed false ≡ f → takes feed true ≡ t →
      (xs : List ℤ) → length xs ≡ items → rust.Ok tt ≡ told (λ x. Unfit x) (misfit flag_of feed 0 n flags xs)
  quick p q feed u v xs l =
      let e : n - 0 ≡ n = omega arith in
      let long : length xs ≡ wanted flag_of feed (n - 0) flags = l ∙ sym q ∙ p ∙ sym (λ i. wanted_by (u i) (v i) (length flags - n) n) ∙ wants feed in
      sym (ap (told (λ x. Unfit x)) (ap (λ k. misfit flag_of feed 0 k flags xs) (sym e) ∙ whole-fits flag_of feed 0 false flags n xs is_whole long))

pub overflow_sub-flags : goal.overflow_sub-flags
overflow_sub-flags c = omega (arith, counts c.args.flags.now c.args.n c.segments.ensures c.in-Some.is c.if-m-n.true)

pub returns-then-wanted-items : goal.returns-then-wanted-items
returns-then-wanted-items c = quick c.args.flags.now c.args.n c.segments.ensures c.in-Some.is c.if-m-n.true c.wanted.ensures c.if-wanted-items.true
