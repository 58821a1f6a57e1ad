-- Work: what several evaluations are charged together, put together as the code is.
use Prim.Native.Nat.{ℕ, ◌+◌, ◌*◌}
use native.Mathlib.Omega.{arith}
use mathlib.Core.Path.{◌≡◌, refl, ap, ◌∙◌, sym}
use mathlib.Core.Bool.{Bool, true, false}
use mathlib.Core.List.{List, [], ◌∷◌, ◌++◌, map, map-map, zip_with, map-append}
use mathlib.Core.Option.{some}
use lib.ListN.{length, replicate, length-append, length-replicate}
use Rattle.snesl.specs.declared.code.Base.{Base}
use Rattle.snesl.specs.declared.code.Operation.{Operation}
use Rattle.snesl.specs.Values.{ValueType, scalar, braces, int, bool, Element, Val}
use Rattle.snesl.specs.Terms.{◌∋◌, Term, var, bind, const, iota, operation, negation, sum, each, guard, Listing, Scalars, any_type, listed_types, All, ◌▹◌, lookup, listed}
use Rattle.snesl.specs.Evaluation.{one_if, eval}
use Rattle.snesl.specs.Machine.{sum_of}
use Rattle.snesl.specs.Charges.{unit_for, pack_charge, pack_charges, charge}
use Rattle.snesl.specs.Representation.{concat, segments}
use Rattle.snesl.proofs.Correctness.AllOf.{Each, each_nil, each-cons}
use Rattle.snesl.proofs.Correctness.Environments.{bound, inside, inside_all, items, those, passed, passed_all}
use Rattle.snesl.proofs.Correctness.Reached.{counts, counts-cons}

pub sum_of-append : (l r : List ℕ) → sum_of (l ++ r) ≡ sum_of l + sum_of r
unfolding sum_of
sum_of-append [] r = omega arith
sum_of-append (n ∷ l) r = omega (arith, sum_of-append l r)

-- what e is charged in all of these environments
abbrev pub charges : {Γ : List ValueType} {τ : ValueType} → Term Γ τ → List (All Val Γ) → ℕ
charges e ρs = sum_of (map (charge e) ρs)

module _ {Γ : List ValueType} where
  pub charges-var : {τ : ValueType} (x : Γ ∋ τ) (ρs : List (All Val Γ)) → charges (var x) ρs ≡ 0
  unfolding sum_of charge
  charges-var x [] = refl
  charges-var x (ρ ∷ ρs) = omega (arith, charges-var x ρs)

  pub charges-const : (b : Base) (e : Element b) (ρs : List (All Val Γ)) → charges (const b e) ρs ≡ length ρs
  unfolding sum_of charge
  charges-const b e [] = refl
  charges-const b e (ρ ∷ ρs) = omega (arith, charges-const b e ρs)

  pub charges-operation : (o : Operation) (x y : Γ ∋ int) (ρs : List (All Val Γ)) → charges (operation o x y) ρs ≡ 3 * length ρs
  unfolding sum_of charge
  charges-operation o x y [] = refl
  charges-operation o x y (ρ ∷ ρs) = omega (arith, charges-operation o x y ρs)

  pub charges-negation : (x : Γ ∋ bool) (ρs : List (All Val Γ)) → charges (negation x) ρs ≡ 2 * length ρs
  unfolding sum_of charge
  charges-negation x [] = refl
  charges-negation x (ρ ∷ ρs) = omega (arith, charges-negation x ρs)

  pub charges-sum : (x : Γ ∋ braces int) (ρs : List (All Val Γ)) → charges (sum x) ρs ≡ 2 * items x ρs + 2 * length ρs
  unfolding sum_of charge concat
  charges-sum x [] = refl
  charges-sum x (ρ ∷ ρs) = omega (arith, charges-sum x ρs, length-append (lookup x ρ) (concat (map (lookup x) ρs)))

  pub charges-iota : (x : Γ ∋ int) (ρs : List (All Val Γ)) → charges (iota x) ρs ≡ 7 * counts x ρs + 4 * length ρs
  unfolding sum_of charge concat
  charges-iota x [] = refl
  charges-iota x (ρ ∷ ρs) = omega (arith, charges-iota x ρs, counts-cons x ρ ρs)

module _ {Γ : List ValueType} {υ τ : ValueType} (e₁ : Term Γ υ) (e₂ : Term (υ ∷ Γ) τ) where
  charge-bind : (ρ : All Val Γ) {v : Val υ} → eval e₁ ρ ≡ some v → charge (bind e₁ e₂) ρ ≡ charge e₁ ρ + charge e₂ (v ▹ ρ)
  unfolding charge
  charge-bind ρ p = rw p

  pub charges-bind : {ρs : List (All Val Γ)} {vs : List (Val υ)} → Each (eval e₁) ρs vs → charges (bind e₁ e₂) ρs ≡ charges e₁ ρs + charges e₂ (bound vs ρs)
  unfolding sum_of zip_with
  charges-bind each_nil = refl
  charges-bind (each-cons {a = ρ} p h) = omega (arith, charge-bind ρ p, charges-bind h)

charges-append : {Γ : List ValueType} {τ : ValueType} (e : Term Γ τ) (l r : List (All Val Γ)) → charges e (l ++ r) ≡ charges e l + charges e r
charges-append e l r = ap sum_of (map-append (charge e) l r) ∙ sum_of-append (map (charge e) l) (map (charge e) r)

-- a comprehension: k items over all n environments, j listed variables
module _ {Γ : List ValueType} {υ τ : ValueType} (y : Γ ∋ braces υ) (us : Scalars Γ) (e : Term (υ ∷ listed_types (any_type us)) τ) where
  charge-each : (ρ : All Val Γ)
      → charge (each y us e) ρ ≡ (2 * length (lookup y ρ) + 1) + length us * (2 * length (lookup y ρ) + 2) + charges e (inside y us ρ)
  unfolding charge
  charge-each ρ =
      ap (λ l. (2 * length (lookup y ρ) + 1) + length us * (2 * length (lookup y ρ) + 2) + sum_of l)
      (sym (map-map (charge e) (λ v. v ▹ listed (any_type us) ρ) (lookup y ρ)))

  pub charges-each : (ρs : List (All Val Γ))
      → charges (each y us e) ρs ≡ (2 * items y ρs + length ρs) + length us * (2 * items y ρs + 2 * length ρs) + charges e (inside_all y us ρs)
  unfolding sum_of concat
  charges-each [] = omega arith
  charges-each (ρ ∷ ρs) =
      rw (length-append (lookup y ρ) (concat (map (lookup y) ρs)))
      (omega (arith, charge-each ρ, charges-each ρs, charges-append e (inside y us ρ) (inside_all y us ρs)))

-- Packing some values, each with its bool: beside one list's own elements each of its items is packed by the list's bool.
abbrev pub pack_work : (τ : ValueType) {R : Type 0} → (R → Bool) → (R → Val τ) → List R → ℕ
pack_work τ f h rs = sum_of (map (λ r. pack_charge (unit_for (f r)) τ (h r)) rs)

-- each item with its list's bool
abbrev pub tagged : {A : Type 0} → Bool → A → Bool × A
tagged c v = (c, v)

abbrev pub paired : {R A : Type 0} → (R → Bool) → (R → List A) → List R → List (Bool × A)
paired f h rs = concat (map (λ r. map (tagged (f r)) (h r)) rs)

abbrev pub chosen : {A : Type 0} → Bool × A → Bool
chosen p = p.0

abbrev pub item : {A : Type 0} → Bool × A → A
item p = p.1

length-one : {A : Type 0} (c : Bool) (a : A) → length (one_if c a) ≡ unit_for c
length-one false a = refl
length-one true a = refl

pub work-packed-scalar : (b : Base) {R : Type 0} (f : R → Bool) (h : R → Element b) (rs : List R) → pack_work (scalar b) f h rs ≡ 2 * length rs + length (those f h rs)
unfolding sum_of pack_charge concat
work-packed-scalar b f h [] = refl
work-packed-scalar b f h (r ∷ rs) =
    omega (arith, work-packed-scalar b f h rs, length-append (one_if (f r) (h r)) (those f h rs), length-one (f r) (h r))

-- the flags that are kept of one list
flags-one : {A : Type 0} (c : Bool) (l : List A) (ls : List (List A)) → length (segments (one_if c l ++ ls)) ≡ unit_for c * (length l + 1) + length (segments ls)
unfolding segments
flags-one false l ls = omega arith
flags-one true l ls =
    omega (arith, length-append (replicate (length l) false) (true ∷ segments ls), length-replicate (length l) false)

pub work-packed-list : (τ : ValueType) {R : Type 0} (f : R → Bool) (h : R → List (Val τ)) (rs : List R)
    → pack_work (braces τ) f h rs
    ≡ (5 * length (concat (map h rs)) + 5 * length rs + length (segments (those f h rs))) + pack_work τ chosen item (paired f h rs)
unfolding sum_of pack_charge concat segments
work-packed-list τ f h [] = refl
work-packed-list τ f h (r ∷ rs) =
    let each : Bool × Val τ → ℕ = λ p. pack_charge (unit_for (chosen p)) τ (item p) in
    let first = map (tagged (f r)) (h r) in
    omega (
      arith,
      work-packed-list τ f h rs,
      length-append (h r) (concat (map h rs)),
      flags-one (f r) (h r) (those f h rs),
      ap sum_of (map-append each first (paired f h rs)),
      sum_of-append (map each first) (map each (paired f h rs)),
      ap sum_of (map-map each (tagged (f r)) (h r)),
    )

pub work-packs : {Γ : List ValueType} (c : Γ ∋ bool) (u : (τ : ValueType) × (Γ ∋ τ)) (us : Listing Γ) (ρs : List (All Val Γ))
    → sum_of (map (λ ρ. pack_charges (unit_for (lookup c ρ)) (u ∷ us) ρ) ρs)
    ≡ pack_work u.0 (lookup c) (lookup u.1) ρs + sum_of (map (λ ρ. pack_charges (unit_for (lookup c ρ)) us ρ) ρs)
unfolding sum_of pack_charges
work-packs c u us [] = refl
work-packs c u us (ρ ∷ ρs) = omega (arith, work-packs c u us ρs)

pub work-packs-none : {Γ : List ValueType} (c : Γ ∋ bool) (ρs : List (All Val Γ)) → sum_of (map (λ ρ. pack_charges (unit_for (lookup c ρ)) [] ρ) ρs) ≡ 0
unfolding sum_of pack_charges
work-packs-none c [] = refl
work-packs-none c (ρ ∷ ρs) = omega (arith, work-packs-none c ρs)

-- a guard: a unit for each environment behind it
pub charges-guard : {Γ : List ValueType} {τ : ValueType} (g : Γ ∋ bool) (us : Listing Γ) (e : Term (listed_types us) τ) (ρs : List (All Val Γ))
    → charges (guard g us e) ρs
    ≡ (3 * length ρs + 3 * length (passed_all g us ρs)) + sum_of (map (λ ρ. pack_charges (unit_for (lookup g ρ)) us ρ) ρs) + charges e (passed_all g us ρs)
unfolding sum_of charge concat
charges-guard g us e [] = refl
charges-guard g us e (ρ ∷ ρs) =
    omega (
      arith,
      charges-guard g us e ρs,
      length-append (passed g us ρ) (passed_all g us ρs),
      length-one (lookup g ρ) (listed us ρ),
      charges-append e (passed g us ρ) (passed_all g us ρs),
    )
