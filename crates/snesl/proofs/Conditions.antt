-- Request 1's forms by the definitions alone: what a guard comes to either way, comparisons as relations, and that the elements a plain charge counts are
-- those that represent a value.
use Prim.Native.Nat.{ℕ, ◌+◌, ◌*◌, ◌<◌}
use native.Mathlib.Omega.{arith}
use mathlib.Core.Bool.{true, false}
use mathlib.Core.List.{List, [], ◌∷◌, ◌++◌, map, map-append}
use mathlib.Core.Logic.{◌↔◌}
use mathlib.Core.Option.{some}
use mathlib.Core.Path.{◌≡◌, refl, sym, ap, ◌∙◌}
use borrow.Author.Tests.{leb-true, le-leb}
use lib.Dec.{leb}
use lib.IntN.{ℤ, pos, negsuc}
use lib.ListN.{length, length-append, length-map, length-replicate, replicate}
use Rattle.laws.proofs.Tests.{both_true}
use Rattle.snesl.specs.Values.{ValueType, scalar, braces, int, bool, Val, equal_z}
use Rattle.snesl.specs.Terms.{◌∋◌, here, Term, iota, guard, Listing, listed_types, All, ∅, ◌▹◌, lookup, listed}
use Rattle.snesl.specs.Evaluation.{and_then, all_of, eval}
use Rattle.snesl.specs.Streams.{bit}
use Rattle.snesl.specs.Machine.{sum_of}
use Rattle.snesl.specs.Trees.{order, map_tree}
use Rattle.snesl.specs.Translation.{size}
use Rattle.snesl.specs.Representation.{concat, segments, represent, laid, streams_of}
use Rattle.snesl.specs.Charges.{pack_charges, elements_in, listed_elements, charge, plain_charge, any_of, packs_reached, reached}
use Rattle.snesl.proofs.Representing.Elements.{length-elements}
use Rattle.snesl.proofs.Representing.StreamRows.{total-of-row}

module _ {Γ : List ValueType} {τ : ValueType} (g : Γ ∋ bool) (us : Listing Γ) (e : Term (listed_types us) τ) (ρ : All Val Γ) where
  pub shut-evaluates : lookup g ρ ≡ false → eval (guard g us e) ρ ≡ some []
  unfolding eval all_of
  shut-evaluates h = rw h refl

  pub open-evaluates : lookup g ρ ≡ true → eval (guard g us e) ρ ≡ and_then (eval e (listed us ρ)) (λ v. some (v ∷ []))
  unfolding eval all_of
  open-evaluates h = rw h refl

  pub shut-charges : lookup g ρ ≡ false → (charge (guard g us e) ρ ≡ 3 + pack_charges 0 us ρ) × (plain_charge (guard g us e) ρ ≡ 2 + listed_elements us ρ)
  unfolding charge plain_charge sum_of
  shut-charges h = (rw h (omega arith), rw h (omega arith))

  pub open-charges : lookup g ρ ≡ true
      → (charge (guard g us e) ρ ≡ 6 + pack_charges 1 us ρ + charge e (listed us ρ))
      × (plain_charge (guard g us e) ρ ≡ 2 + listed_elements us ρ + plain_charge e (listed us ρ))
  unfolding charge plain_charge sum_of
  open-charges h = (rw h (omega arith), rw h (omega arith))

  pub shut-reaches : lookup g ρ ≡ false → reached (guard g us e) ρ ≡ true ∷ true ∷ (packs_reached us ρ ++ replicate (size e) false)
  unfolding reached any_of
  shut-reaches h = rw h refl

-- x <= y is the order of the whole numbers, so that x == y, which is both ways of it, is that they are one number
pub equal-exactly : (x y : ℤ) → (equal_z x y ≡ true) ↔ (x ≡ y)
equal-exactly x y = (there x y, λ h. ap (λ z. equal_z x z) (sym h) ∙ back x)
  where
    there : (x y : ℤ) → equal_z x y ≡ true → x ≡ y
    there (pos a) (pos b) h =
        let both = both_true (leb a b) (leb b a) h in
        ap pos (omega (arith, leb-true a b both.0, leb-true b a both.1))
    there (pos a) (negsuc b) h = let z : ◌≡◌ {A = ℕ} 0 1 = cc in absurd (omega arith)
    there (negsuc a) (pos b) h = let z : ◌≡◌ {A = ℕ} 0 1 = cc in absurd (omega arith)
    there (negsuc a) (negsuc b) h =
        let both = both_true (leb b a) (leb a b) h in
        ap negsuc (omega (arith, leb-true b a both.0, leb-true a b both.1))

    back : (x : ℤ) → equal_z x x ≡ true
    back (pos a) = rw (le-leb a a (omega arith)) refl
    back (negsuc a) = rw (le-leb a a (omega arith)) refl

sum_of-together : (l r : List ℕ) → sum_of (l ++ r) ≡ sum_of l + sum_of r
unfolding sum_of
sum_of-together [] r = omega arith
sum_of-together (n ∷ l) r = omega (arith, sum_of-together l r)

-- one element for each scalar
sum_of-ones : {A : Type 0} (vs : List A) → sum_of (map (λ v. 1) vs) ≡ length vs
unfolding sum_of
sum_of-ones [] = refl
sum_of-ones (v ∷ vs) = omega (arith, sum_of-ones vs)

-- for each sequence its flags and its items' elements
sum_of-levels : {A : Type 0} (f : A → ℕ) (vs : List (List A))
    → sum_of (map f (concat vs)) + length (segments vs) ≡ sum_of (map (λ v. (length v + 1) + sum_of (map f v)) vs)
unfolding sum_of concat segments
sum_of-levels f [] = omega arith
sum_of-levels f (v ∷ vs) =
    omega (
      arith,
      ap sum_of (map-append f v (concat vs)),
      sum_of-together (map f v) (map f (concat vs)),
      length-append (replicate (length v) false) (true ∷ segments vs),
      length-replicate (length v) false,
      sum_of-levels f vs,
    )

sum_of-laid : (τ : ValueType) (vs : List (Val τ)) → sum_of (map length (order (laid (represent τ vs)))) ≡ sum_of (map (λ v. elements_in τ v) vs)
unfolding represent map_tree order elements_in sum_of
sum_of-laid (scalar b) vs = omega (arith, length-elements b vs, sum_of-ones vs)
sum_of-laid (braces τ) vs =
    omega (
      arith,
      ap sum_of (map-append length (order (laid (represent τ (concat vs)))) (map bit (segments vs) ∷ [])),
      sum_of-together (map length (order (laid (represent τ (concat vs))))) (length (map bit (segments vs)) ∷ []),
      length-map (segments vs) bit,
      sum_of-laid τ (concat vs),
      sum_of-levels (λ v. elements_in τ v) vs,
    )

pub elements-represent : (τ : ValueType) (v : Val τ) → elements_in τ v ≡ length (concat (streams_of τ v))
unfolding sum_of
elements-represent τ v = omega (arith, total-of-row (laid (represent τ (v ∷ []))), sum_of-laid τ (v ∷ []))

-- iota of 3: 25 to 4
pub six-is-too-few : 6 * plain_charge (iota {Γ = int ∷ []} here) (pos 3 ▹ ∅) < charge (iota {Γ = int ∷ []} here) (pos 3 ▹ ∅)
unfolding charge plain_charge lookup
six-is-too-few = omega arith
