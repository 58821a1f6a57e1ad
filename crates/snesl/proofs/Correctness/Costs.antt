-- The charge of an evaluation is at most seven times its plain charge; a guard's own, beside its body, at most six times, and six is the smallest such factor.
use Prim.Native.Nat.{ℕ, ◌+◌, ◌*◌, ◌≤◌, ◌<◌}
use native.Mathlib.Omega.{arith}
use mathlib.Core.Bool.{Bool, true, false}
use mathlib.Core.List.{List, [], ◌∷◌, map}
use mathlib.Core.Option.{Option, some, none}
use mathlib.Core.Path.{◌≡◌, refl}
use lib.ListN.{length}
use Rattle.snesl.specs.Values.{ValueType, scalar, braces, int, bool, Val}
use Rattle.snesl.specs.Terms.{◌∋◌, here, there, Term, var, bind, const, iota, operation, negation, sum, each, guard, Listing, any_type, listed_types, All, ∅, ◌▹◌, lookup, listed}
use Rattle.snesl.specs.Evaluation.{one_if, eval}
use Rattle.snesl.specs.Machine.{sum_of}
use Rattle.snesl.specs.Charges.{if_value, unit_for, pack_charge, pack_charges, elements_in, listed_elements, charge, plain_charge}

sums-bounded : {A : Type 0} (f g : A → ℕ) → ((a : A) → f a ≤ 7 * g a) → (l : List A) → sum_of (map f l) ≤ 7 * sum_of (map g l)
unfolding sum_of
sums-bounded f g h [] = omega arith
sums-bounded f g h (a ∷ l) = omega (arith, h a, sums-bounded f g h l)

value-bounded : {A : Type 0} (f g : A → ℕ) → ((a : A) → f a ≤ 7 * g a) → (o : Option A) → if_value o f ≤ 7 * if_value o g
value-bounded f g h none = omega arith
value-bounded f g h (some a) = h a

-- packing a value is charged at most six times its elements, be the guard true or false
sums-sixfold : {A : Type 0} (f g : A → ℕ) → ((a : A) → f a ≤ 6 * g a) → (l : List A) → sum_of (map f l) ≤ 6 * sum_of (map g l)
unfolding sum_of
sums-sixfold f g h [] = omega arith
sums-sixfold f g h (a ∷ l) = omega (arith, h a, sums-sixfold f g h l)

at_most_one : (c : Bool) → unit_for c ≤ 1
at_most_one false = omega arith
at_most_one true = omega arith

one-or-none : (c : Bool) (k : ℕ) → unit_for c * (k + 1) ≤ k + 1
one-or-none false k = omega arith
one-or-none true k = omega arith

pack-bounded : (c : Bool) (τ : ValueType) (v : Val τ) → pack_charge (unit_for c) τ v ≤ 6 * elements_in τ v
unfolding pack_charge elements_in
pack-bounded c (scalar b) v = omega (arith, at_most_one c)
pack-bounded c (braces τ) vs =
    omega (
      arith,
      one-or-none c (length vs),
      sums-sixfold (λ v. pack_charge (unit_for c) τ v) (λ v. elements_in τ v) (λ v. pack-bounded c τ v) vs,
    )

packs-bounded : {Γ : List ValueType} (c : Bool) (us : Listing Γ) (ρ : All Val Γ) → pack_charges (unit_for c) us ρ ≤ 6 * listed_elements us ρ
unfolding pack_charges listed_elements
packs-bounded c [] ρ = omega arith
packs-bounded c (u ∷ us) ρ = omega (arith, pack-bounded c u.0 (lookup u.1 ρ), packs-bounded c us ρ)

-- a guard beside its body
pub guard-bounded : {Γ : List ValueType} {τ : ValueType} (g : Γ ∋ bool) (us : Listing Γ) (e : Term (listed_types us) τ) (ρ : All Val Γ)
    → (own plain : ℕ)
    × (charge (guard g us e) ρ ≡ own + sum_of (map (charge e) (one_if (lookup g ρ) (listed us ρ))))
    × (plain_charge (guard g us e) ρ ≡ plain + sum_of (map (plain_charge e) (one_if (lookup g ρ) (listed us ρ))))
    × (own ≤ 6 * plain)
unfolding charge plain_charge
guard-bounded g us e ρ =
    let b = unit_for (lookup g ρ) in (
      (2 + b) + (1 + 2 * b) + pack_charges b us ρ,
      2 + listed_elements us ρ,
      refl,
      refl,
      omega (arith, at_most_one (lookup g ρ), packs-bounded (lookup g ρ) us ρ),
    )

pub charge-bounded : {Γ : List ValueType} {τ : ValueType} (e : Term Γ τ) (ρ : All Val Γ) → charge e ρ ≤ 7 * plain_charge e ρ
unfolding charge plain_charge
charge-bounded (var x) ρ = omega arith
charge-bounded (bind e₁ e₂) ρ =
    omega (
      arith,
      charge-bounded e₁ ρ,
      value-bounded (λ v. charge e₂ (v ▹ ρ)) (λ v. plain_charge e₂ (v ▹ ρ)) (λ v. charge-bounded e₂ (v ▹ ρ)) (eval e₁ ρ),
    )
charge-bounded (const b e) ρ = omega arith
charge-bounded (iota x) ρ = omega arith
charge-bounded (operation o x y) ρ = omega arith
charge-bounded (negation x) ρ = omega arith
charge-bounded (sum x) ρ = omega arith
charge-bounded (each y us e) ρ =
    omega (
      arith,
      sums-bounded
          (λ v. charge e (v ▹ listed (any_type us) ρ)) (λ v. plain_charge e (v ▹ listed (any_type us) ρ)) (λ v. charge-bounded e (v ▹ listed (any_type us) ρ)) (lookup y ρ),
    )
charge-bounded (guard g us e) ρ =
    omega (
      arith,
      at_most_one (lookup g ρ),
      packs-bounded (lookup g ρ) us ρ,
      sums-bounded (λ ρ'. charge e ρ') (λ ρ'. plain_charge e ρ') (λ ρ'. charge-bounded e ρ') (one_if (lookup g ρ) (listed us ρ)),
    )

-- For a guard alone five would be too small: a true one that lists five empty sequences, whose body is a variable, is charged 36, its plain charge is 7.
abbrev pub five_empty : Term (bool ∷ braces int ∷ []) (braces (braces int))
five_empty =
    let u : (τ : ValueType) × ((bool ∷ braces int ∷ []) ∋ τ) = (braces int, there here) in
    guard here (u ∷ u ∷ u ∷ u ∷ u ∷ []) (var here)

pub five-is-too-small : 5 * plain_charge five_empty (◌▹◌ {τ = bool} true (◌▹◌ {τ = braces int} [] ∅)) < charge five_empty (◌▹◌ {τ = bool} true (◌▹◌ {τ = braces int} [] ∅))
unfolding charge plain_charge lookup listed pack_charge pack_charges elements_in listed_elements sum_of
five-is-too-small = omega arith
