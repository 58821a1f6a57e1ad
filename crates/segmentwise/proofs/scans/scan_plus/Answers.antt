-- `scans::scan_plus`: what the test of the streams told, and what `scan` answered and left.
use Prim.Native.Nat.{ℕ, ◌≤◌, ◌<◌}
use mathlib.Core.List.{List, [], ◌∷◌, ◌++◌, append-nil}
use mathlib.Core.Option.{Option, none}
use mathlib.Core.Path.{◌≡◌, refl, sym, ◌∙◌, ap}
use native.Mathlib.Omega.{arith}
use lib.IntN.{ℤ}
use lib.ListN.{length, drop, length-map, drop_of_length-le}
use lib.Seq.{length-take-le}
use Rattle.std.specs.Prelude.{Result, Ok, Err}
use Rattle.snesl.specs.Streams.{ints}
use Rattle.snesl.specs.Transducers.{each_f, flag_of, misfit, first_outside, outside, scans, scan_plus}
use Rattle.streams.specs.Answers.{Answers}
use Rattle.streams.specs.declared.output.Failure.{Failure}
use Rattle.streams.specs.declared.output.Failure.TheVariants.{Outside, NoRoom}
use Rattle.streams.proofs.Ending.{told-ok, fitted, makes, lacks-room, sets-front}
use Rattle.streams.proofs.Filling.{values}
use Rattle.segmentwise.specs.Segmented.{Scans}
use Rattle.segmentwise.proofs.Scanning.{restart, scans-long}
use Rattle.segmentwise.proofs.scans.scan_plus.Goals as goal

module _ (n : ℕ) (start : ℤ) (flags items : List ℤ) where
  abbrev mis : Option ℕ
  mis = misfit flag_of each_f 0 n flags items

  abbrev results : List (ℕ × ℤ)
  results = scans flag_of start 0 start flags items

  module _ (old : List ℤ) (fit : mis ≡ none) {lent new : List ℤ} {r : Result (Unit {0}) Failure} (f : Scans results lent r new) (q : r ≡ Ok tt) where
    long : length (values results) ≡ length items
    long = length-map results (λ x. x.1) ∙ scans-long n 0 start start flags items fit

    inside : first_outside results ≡ none
    inside = told-ok (λ k. Outside k) (first_outside results) f.says q

    -- all of what was lent is written
    made : length items ≤ length old → length lent ≡ length items → Answers old (scan_plus flag_of start n flags items) (Ok (length items)) (new ++ drop (length items) old)
    made h l =
        let all : length lent ≤ length (values results) = omega (arith, long) in
        let wrote : new ≡ values results = f.wrote q ∙ sets-front (values results) lent (omega (arith, long)) ∙ ap (λ t. values results ++ t) (drop_of_length-le lent all) ∙ append-nil (values results) in
        makes mis (first_outside results) outside (ints (values results)) old (length items) fit inside long long h
        ((λ i. wrote i ++ drop (sym long i) old) ∙ sym (sets-front (values results) old (omega (arith, long))))

    -- nothing was lent
    full : length old < length items → length new ≡ 0 → Answers old (scan_plus flag_of start n flags items) (Err NoRoom) (new ++ old)
    full h l = rw (empty new l) (lacks-room mis (first_outside results) outside (ints (values results)) old fit inside (omega (arith, long)))
      where
        empty : (l : List ℤ) → length l ≡ 0 → l ≡ []
        empty [] e = refl
        empty (x ∷ l) e = absurd (omega arith)

pub returns-then-items-out-clause-answers : goal.returns-then-items-out-clause-answers
returns-then-items-out-clause-answers c =
    made _ _ _ _ _ (fitted each_f _ _ c.args.items.now c.fits.ensures c.in_ok-fits.was) (restart _ _ c.ranges.start c.scan.ensures) c.in_ok-scan.was c.if-items-out.true (length-take-le _ _ c.if-items-out.true)

pub returns-clause-answers : goal.returns-clause-answers
returns-clause-answers c =
    full _ _ _ _ _ (fitted each_f _ _ c.args.items.now c.fits.ensures c.in_ok-fits.was) (restart _ _ c.ranges.start c.scan-2.ensures) c.in_ok-scan-2.was c.if-items-out.false c.scan-2.auto.out
