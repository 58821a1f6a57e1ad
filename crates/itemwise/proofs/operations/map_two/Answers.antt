-- `operations::map_two`: each arm's contract is the one that is asked for, at the arm's operation.
use Rattle.std.proofs.Common.{◌≡◌, ℕ, Bool, true, false, List, ◌++◌, map, length, drop, ℤ, Result, refl, sym, ◌∙◌, ap, subst, leb, eqb, rules}
use Rattle.std.proofs.Math.Option.{Option, some, none}
use Rattle.std.proofs.lemmas.Bool.{eqb-false}
use Rattle.std.specs.Int.{w32}
use borrow.Author.Tests.{eqb-true}
use lib.ListN.{length-map}
use lib.Signed.{le_z}
use lib.Seq.{drop-append_seam}
use mir.Facts.{to_z-of_z}
use mir.Val.{SFits, to_z, of_z}
use Rattle.snesl.specs.Streams.{bit, bools}
use Rattle.snesl.specs.Transducers.{length_misfit, made, pairwise, unfit, unless, map_two}
use Rattle.snesl.specs.Values.{equal_z}
use Rattle.snesl.proofs.Conditions.{equal-exactly}
use Rattle.streams.specs.Answers.{Answers, after}
use Rattle.streams.specs.Walks.{told}
use Rattle.streams.specs.declared.output.Failure.{Failure}
use Rattle.streams.specs.declared.output.Failure.TheVariants.{Unfit}
use Rattle.itemwise.specs.Tests.{comparison}
use Rattle.itemwise.proofs.Lengths.{fit, tests-long}
use Rattle.itemwise.proofs.operations.map_two.Goals as goal

-- two numbers of 32 bits are equal where their bits are
equal-bits : (x y : ℤ) {b : Bool} → SFits w32 x → SFits w32 y → b ≡ eqb (of_z w32 x) (of_z w32 y) → b ≡ equal_z x y
equal-bits x y {b} fx fy p = p ∙ go (eqb (of_z w32 x) (of_z w32 y)) (equal_z x y) refl refl
  where
    go : (s t : Bool) → eqb (of_z w32 x) (of_z w32 y) ≡ s → equal_z x y ≡ t → s ≡ t
    go true t e f =
        let same : x ≡ y = sym (to_z-of_z fx) ∙ ap (to_z w32) (eqb-true (of_z w32 x) (of_z w32 y) e) ∙ to_z-of_z fy in
        sym ((equal-exactly x y).1 same) ∙ f
    go false false e f = refl
    go false true e f = absurd (eqb-false (of_z w32 x) (of_z w32 y) e (ap (of_z w32) ((equal-exactly x y).0 f)))

-- as many elements are written as there are units, or none
module _ (f : ℤ → ℤ → Bool) (n : ℕ) (xs ys old : List ℤ) {r : Result ℕ Failure} {new : List ℤ} (a : Answers old (comparison f n xs ys) r new) where
  behind : drop n new ≡ drop n old
  behind = go (length_misfit n (length xs) (length ys)) refl
    where
      made-here : length (map bit (pairwise f xs ys)) ≡ n → (b : Bool) →
          new ≡ elim b [ true ↦ map bit (pairwise f xs ys) ++ drop (length (map bit (pairwise f xs ys))) old | false ↦ old ] → drop n new ≡ drop n old
      made-here l false q = ap (drop n) q
      made-here l true q =
          ap (drop n) q
          ∙ ap (λ k. drop k (map bit (pairwise f xs ys) ++ drop (length (map bit (pairwise f xs ys))) old)) (sym l)
          ∙ drop-append_seam (map bit (pairwise f xs ys)) (drop (length (map bit (pairwise f xs ys))) old)
          ∙ ap (λ k. drop k old) l

      go : (o : Option ℕ) → length_misfit n (length xs) (length ys) ≡ o → drop n new ≡ drop n old
      go (some k) e = ap (drop n) (a.leaves ∙ ap (λ o. after old new (unless o unfit (made (bools (pairwise f xs ys))))) e)
      go none e =
          let fits = fit n (length xs) (length ys) {u = tt} (sym (ap (told Unfit) e)) in
          made-here (length-map (pairwise f xs ys) bit ∙ tests-long f n xs ys fits.first fits.second) (leb (length (map bit (pairwise f xs ys))) (length old))
          (a.leaves ∙ ap (λ o. after old new (unless o unfit (made (bools (pairwise f xs ys))))) e)

pub returns-in-LessEqual-clause-out_unchanged : goal.returns-in-LessEqual-clause-out_unchanged
returns-in-LessEqual-clause-out_unchanged c =
    let a = c.args in
    let e : Answers c.args.out.now (comparison le_z c.args.n c.args.xs.now c.args.ys.now) c.compare.result c.compare.new.out = search (rules, c.compare.ensures) in
    behind le_z a.n a.xs.now a.ys.now a.out.now e

pub returns-in-Equal-clause-answers : goal.returns-in-Equal-clause-answers
returns-in-Equal-clause-answers c =
    let a = c.args in
    subst (λ o. Answers a.out.now (map_two o a.n a.xs.now a.ys.now) c.compare-in-Equal.result c.compare-in-Equal.new.out) (sym c.in-Equal.is)
    (c.compare-in-Equal.ensures equal_z (λ x y b fx fy p. equal-bits x y fx fy (search (rules, p))))

pub returns-in-Equal-clause-out_unchanged : goal.returns-in-Equal-clause-out_unchanged
returns-in-Equal-clause-out_unchanged c =
    let a = c.args in
    behind equal_z a.n a.xs.now a.ys.now a.out.now (c.compare-in-Equal.ensures equal_z (λ x y b fx fy p. equal-bits x y fx fy (search (rules, p))))
