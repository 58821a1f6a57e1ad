-- `unary::to_flags`: where the streams fit, what `measure` answered, and what `write_flags` left.
use Rattle.std.proofs.Common.{◌≡◌, ℕ, ◌≤◌, Bool, true, false, List, map, length, ℤ, Result, Ok, Err, refl, ◌∙◌, ap, leb, arith}
use Rattle.std.proofs.Math.Option.{Option, some, none}
use Rattle.std.proofs.lemmas.List.Edits.{sets}
use borrow.Author.Tests.{leb-true}
use lib.ListN.{length-map}
use Rattle.laws.proofs.Never.{never}
use Rattle.snesl.specs.Streams.{bit, flags}
use Rattle.snesl.specs.Transducers.{length_misfit, first_negative, made, negative, unary, unless, to_flags}
use Rattle.streams.specs.Answers.{Answers, answered}
use Rattle.streams.specs.declared.output.Failure.{Failure}
use Rattle.streams.specs.declared.output.Failure.TheVariants.{Negative, NoRoom}
use Rattle.streams.proofs.Ending.{makes}
use Rattle.itemwise.proofs.Lengths.{Fit, fit}
use Rattle.itemwise.proofs.unary.to_flags.Goals as goal

-- what a measure says of the items
record Measured (zs : List ℤ) (room m : ℕ) : Type 0 where
  natural : first_negative 0 zs ≡ none
  count : length (unary zs) ≡ m
  fits : m ≤ room

abbrev answer : ℕ → List ℤ → Option ℕ → Result ℕ Failure
answer room zs o = answered room (unless o negative (made (flags (unary zs))))

measured : (zs : List ℤ) (room m : ℕ) → Ok m ≡ answer room zs (first_negative 0 zs) → Measured zs room m
measured zs room m p = go (first_negative 0 zs) refl
  where
    inside : first_negative 0 zs ≡ none → (b : Bool) → leb (length (map bit (unary zs))) room ≡ b → Measured zs room m
    inside e false f =
        let z : ◌≡◌ {A = Result ℕ Failure} (Ok m) (Err NoRoom) =
        p ∙ ap (answer room zs) e ∙ (λ i. elim (f i) [ true ↦ Ok (length (unary zs)) | false ↦ Err NoRoom ]) in
        never (cc)
    inside e true f =
        let z : ◌≡◌ {A = Result ℕ Failure} (Ok m) (Ok (length (unary zs))) =
        p ∙ ap (answer room zs) e ∙ (λ i. elim (f i) [ true ↦ Ok (length (unary zs)) | false ↦ Err NoRoom ]) in
        let same : length (unary zs) ≡ m = cc in
        let l : length (map bit (unary zs)) ≡ length (unary zs) = length-map (unary zs) bit in
        record { natural = e; count = same; fits = omega (arith, leb-true (length (map bit (unary zs))) room f) }

    go : (n : Option ℕ) → first_negative 0 zs ≡ n → Measured zs room m
    go (some k) e = let z : ◌≡◌ {A = Result ℕ Failure} (Ok m) (Err (Negative k)) = p ∙ ap (answer room zs) e in never (cc)
    go none e = inside e (leb (length (map bit (unary zs))) room) refl

wrote : (zs old : List ℤ) (n m : ℕ) {new : List ℤ} → Fit n (length zs) (length zs) → Measured zs (length old) m → new ≡ sets old 0 (map bit (unary zs)) →
    Answers old (to_flags n zs) (Ok m) new
wrote zs old n m f s w =
    makes (length_misfit n (length zs) (length zs)) (first_negative 0 zs) negative (flags (unary zs)) old m f.whole s.natural s.count
    (length-map (unary zs) bit ∙ s.count) s.fits w

pub returns : goal.returns
returns c =
    let a = c.args in
    wrote a.items.now a.out.now a.n c.in_ok-made.made (fit a.n (length a.items.now) (length a.items.now) c.in_ok-lengths.ensures)
    (measured a.items.now (length a.out.now) c.in_ok-made.made c.in_ok-made.ensures) c.write_flags.ensures
