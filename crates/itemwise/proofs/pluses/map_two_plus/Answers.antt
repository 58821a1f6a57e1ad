-- `pluses::map_two_plus`: where the streams fit, what `add` left, or which sum is the first out of range.
use Rattle.std.proofs.Common.{◌≡◌, ℕ, ◌≤◌, ◌<◌, Bool, true, false, List, length, ℤ, Ok, Err, sym, ◌∙◌, subst, arith}
use Rattle.std.proofs.Math.Option.{Option}
use lib.ListN.{length-map}
use Rattle.snesl.specs.declared.code.Operation.TheVariants.{Plus}
use Rattle.snesl.specs.Streams.{ints}
use Rattle.snesl.specs.Transducers.{length_misfit, first_outside, outside, pluses, map_two}
use Rattle.streams.specs.Answers.{Answers}
use Rattle.streams.specs.Fills.{Fills}
use Rattle.streams.specs.Walks.{told_outside}
use Rattle.streams.specs.declared.output.Failure.{Failure}
use Rattle.streams.proofs.Ending.{makes, too_long, leaves-range}
use Rattle.streams.proofs.Filling.{values, none-outside, some-outside}
use Rattle.itemwise.proofs.Lengths.{Fit, fit, pluses-long}
use Rattle.itemwise.proofs.pluses.map_two_plus.Goals as goal
use Rattle.itemwise.proofs.pluses.map_two_plus.Goals.{else-n-out-via-then-n-out+else-add, else-n-out-via-else-n-out}

module _ (xs ys old : List ℤ) (n : ℕ) (e : Fit n (length xs) (length ys)) where
  abbrev results : List (ℕ × ℤ)
  results = pluses 0 xs ys

  abbrev mis : Option ℕ
  mis = length_misfit n (length xs) (length ys)

  long : length (values (pluses 0 xs ys)) ≡ n
  long = length-map (pluses 0 xs ys) (λ x. x.1) ∙ pluses-long n 0 xs ys e.first e.second

  wrote : {b : Bool} {new : List ℤ} → Fills (pluses 0 xs ys) (length xs) old b new → b ≡ true → n ≤ length old → Answers old (map_two Plus n xs ys) (Ok n) new
  wrote f q h =
      makes mis (first_outside results) outside (ints (values results)) old n e.whole (none-outside (pluses 0 xs ys) (sym f.says ∙ q)) long long h (f.wrote q)

  refuses : {b : Bool} {new filled : List ℤ} {f : Failure} → Fills (pluses 0 xs ys) (length xs) old b filled → b ≡ false → f ≡ told_outside (first_outside (pluses 0 xs ys)) →
      Answers old (map_two Plus n xs ys) (Err f) new
  refuses w q p =
      let first = some-outside (pluses 0 xs ys) (sym w.says ∙ q) in
      leaves-range mis (first_outside results) (ints (values results)) old first.0 e.whole first.1 p

  full : {f : Failure} {new : List ℤ} → length old < n → f ≡ told_outside (first_outside (pluses 0 xs ys)) → new ≡ old → Answers old (map_two Plus n xs ys) (Err f) new
  full {f} h p q =
      subst (λ l. Answers old (map_two Plus n xs ys) (Err f) l) (sym q) (too_long mis (first_outside results) (ints (values results)) old e.whole (omega (arith, long)) p)

pub returns-then-add-clause-answers : goal.returns-then-add-clause-answers
returns-then-add-clause-answers c =
    let a = c.args in
    wrote a.xs.now a.ys.now a.out.now a.n (fit a.n (length a.xs.now) (length a.ys.now) c.in_ok-lengths.ensures) c.add.ensures c.if-add.true c.if-n-out.true

pub returns-else-n-out-clause-answers : goal.returns-else-n-out-clause-answers
returns-else-n-out-clause-answers c =
    let a = c.args in
    let e = fit a.n (length a.xs.now) (length a.ys.now) c.in_ok-lengths.ensures in
    elim c.else-n-out.branch [
      | else-n-out-via-then-n-out+else-add w ↦ refuses a.xs.now a.ys.now a.out.now a.n e w.add.ensures w.if-add.false c.first_outside.ensures
      | else-n-out-via-else-n-out w ↦ full a.xs.now a.ys.now a.out.now a.n e w.if-n-out.false c.first_outside.ensures w.out-is
    ]
