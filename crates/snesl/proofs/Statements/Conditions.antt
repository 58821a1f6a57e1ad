-- What is proved of request 1's forms by the definitions alone; that their code does it is Correctness, which holds of every term.
use Prim.Native.Nat.{◌+◌, ◌*◌, ◌<◌}
use mathlib.Core.Bool.{true, false}
use mathlib.Core.List.{List, [], ◌∷◌, ◌++◌}
use mathlib.Core.Logic.{◌↔◌}
use mathlib.Core.Option.{some}
use mathlib.Core.Path.{◌≡◌}
use lib.IntN.{ℤ, pos}
use lib.ListN.{length, replicate}
use Rattle.snesl.specs.Values.{ValueType, int, bool, Val, equal_z}
use Rattle.snesl.specs.Terms.{◌∋◌, here, Term, iota, guard, Listing, listed_types, All, ∅, ◌▹◌, lookup, listed}
use Rattle.snesl.specs.Evaluation.{and_then, eval}
use Rattle.snesl.specs.Translation.{size}
use Rattle.snesl.specs.Representation.{concat, streams_of}
use Rattle.snesl.specs.Charges.{pack_charges, elements_in, listed_elements, charge, plain_charge, packs_reached, reached}
use Rattle.snesl.proofs.Conditions as Conditions

module _ {Γ : List ValueType} {τ : ValueType} (g : Γ ∋ bool) (us : Listing Γ) (e : Term (listed_types us) τ) (ρ : All Val Γ) where
  -- 1. A guard that is false gives an empty sequence, whatever its body is: one that has no value too.
  pub a-false-guard's-body-is-not-evaluated : lookup g ρ ≡ false → eval (guard g us e) ρ ≡ some []
  a-false-guard's-body-is-not-evaluated = Conditions.shut-evaluates g us e ρ

  -- Its body is not charged,
  pub a-false-guard's-body-is-not-charged : lookup g ρ ≡ false
      → (charge (guard g us e) ρ ≡ 3 + pack_charges 0 us ρ) × (plain_charge (guard g us e) ρ ≡ 2 + listed_elements us ρ)
  a-false-guard's-body-is-not-charged = Conditions.shut-charges g us e ρ

  -- and nothing in it is reached.
  pub a-false-guard's-body-is-not-reached : lookup g ρ ≡ false
      → reached (guard g us e) ρ ≡ true ∷ true ∷ (packs_reached us ρ ++ replicate (size e) false)
  a-false-guard's-body-is-not-reached = Conditions.shut-reaches g us e ρ

  -- 2. One that is true gives a sequence of one, its body's value over the listed variables, if that has one,
  pub a-true-guard-gives-its-body's-value : lookup g ρ ≡ true → eval (guard g us e) ρ ≡ and_then (eval e (listed us ρ)) (λ v. some (v ∷ []))
  a-true-guard-gives-its-body's-value = Conditions.open-evaluates g us e ρ

  -- and its body is charged as it stands.
  pub a-true-guard's-body-is-charged : lookup g ρ ≡ true
      → (charge (guard g us e) ρ ≡ 6 + pack_charges 1 us ρ + charge e (listed us ρ))
      × (plain_charge (guard g us e) ρ ≡ 2 + listed_elements us ρ + plain_charge e (listed us ρ))
  a-true-guard's-body-is-charged = Conditions.open-charges g us e ρ

-- 3. == is that two whole numbers are one.
pub equal-numbers-are-one : (x y : ℤ) → (equal_z x y ≡ true) ↔ (x ≡ y)
equal-numbers-are-one = Conditions.equal-exactly

-- 4. The elements of a value that a plain charge counts are those of the streams that represent it.
pub elements-are-those-of-its-streams : (τ : ValueType) (v : Val τ) → elements_in τ v ≡ length (concat (streams_of τ v))
elements-are-those-of-its-streams = Conditions.elements-represent

-- 5. Seven is the smallest whole factor (Correctness has that it holds): iota of 3 is charged 25, and its plain charge is 4.
pub sixfold-is-too-few : 6 * plain_charge (iota {Γ = int ∷ []} here) (pos 3 ▹ ∅) < charge (iota {Γ = int ∷ []} here) (pos 3 ▹ ∅)
sixfold-is-too-few = Conditions.six-is-too-few
