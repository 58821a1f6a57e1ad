-- `packs::pack`: where the streams fit, how many T's there are, and what `keep` left.
use Rattle.std.proofs.Common.{◌≡◌, ℕ, ◌≤◌, ◌<◌, List, map, length, ℤ, Ok, Err, refl, sym, ◌∙◌, arith}
use Rattle.std.proofs.Math.Option.{none}
use Rattle.std.proofs.lemmas.List.Edits.{sets}
use lib.ListN.{length-map}
use Rattle.snesl.specs.declared.code.Base.TheVariants.{Int}
use Rattle.snesl.specs.Charges.{count_true}
use Rattle.snesl.specs.Streams.{ints}
use Rattle.snesl.specs.Transducers as snesl
use Rattle.snesl.specs.Transducers.{bool_of, kept, length_misfit, outside}
use Rattle.streams.specs.Answers.{Answers}
use Rattle.streams.specs.declared.output.Failure.TheVariants.{NoRoom}
use Rattle.streams.proofs.Ending.{makes, lacks-room}
use Rattle.itemwise.proofs.Lengths.{Fit, fit, kept-long}
use Rattle.itemwise.proofs.packs.pack.Goals as goal

module _ (bs xs old : List ℤ) (n made : ℕ) (e : Fit n (length bs) (length xs)) (q : made ≡ count_true (map bool_of bs)) where
  same : length (map bool_of bs) ≡ length bs
  same = length-map bs bool_of

  whole : length_misfit n (length (map bool_of bs)) (length xs) ≡ none
  whole = (λ i. length_misfit n (same i) (length xs)) ∙ e.whole

  long : length (kept (map bool_of bs) xs) ≡ made
  long = kept-long (map bool_of bs) xs (same ∙ e.first ∙ sym e.second) ∙ sym q

  full : length old < made → Answers old (snesl.pack n (map bool_of bs) Int xs) (Err NoRoom) old
  full h = lacks-room (length_misfit n (length (map bool_of bs)) (length xs)) none outside (ints (kept (map bool_of bs) xs)) old whole refl (omega (arith, long))

  wrote : {new : List ℤ} → made ≤ length old → new ≡ sets old 0 (kept (map bool_of bs) xs) → Answers old (snesl.pack n (map bool_of bs) Int xs) (Ok made) new
  wrote h w = makes (length_misfit n (length (map bool_of bs)) (length xs)) none outside (ints (kept (map bool_of bs) xs)) old made whole refl long long h w

pub returns-then-out-made : goal.returns-then-out-made
returns-then-out-made c =
    let a = c.args in
    full a.bools.now a.items.now a.out.now a.n _ (fit a.n (length a.bools.now) (length a.items.now) c.in_ok-lengths.ensures) c.trues-made.ensures c.if-out-made.true

pub keep-requires : goal.keep-requires
keep-requires c =
    let a = c.args in
    let e = fit a.n (length a.bools.now) (length a.items.now) c.in_ok-lengths.ensures in
    (e.first ∙ sym e.second, omega (arith, long a.bools.now a.items.now a.out.now a.n _ e c.trues-made.ensures, c.if-out-made.false))

pub returns : goal.returns
returns c =
    let a = c.args in
    wrote a.bools.now a.items.now a.out.now a.n _ (fit a.n (length a.bools.now) (length a.items.now) c.in_ok-lengths.ensures) c.trues-made.ensures c.if-out-made.false c.keep.ensures
