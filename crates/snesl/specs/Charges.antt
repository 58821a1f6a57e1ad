-- What one evaluation is charged, what it would be charged plainly, and which definitions of its code it reaches (01, "Charges").
use Rattle.std.specs.Prelude.{ℕ, ◌+◌, ◌*◌, Bool, true, false, ◌||◌, List, [], ◌∷◌, ◌++◌, map, ltb, ℤ, pos, negsuc, length, replicate}
use Rattle.std.proofs.Math.Option.{Option, some, none}
use Rattle.snesl.specs.Values.{ValueType, scalar, braces, depth_of, Val}
use Rattle.snesl.specs.Terms.{Term, var, bind, const, iota, operation, negation, sum, each, guard, Listing, All, ◌▹◌, lookup, any_type, listed}
use Rattle.snesl.specs.Evaluation.{one_if, eval}
use Rattle.snesl.specs.Machine.{sum_of}
use Rattle.snesl.specs.Translation.{pack_size, size}

-- the n of iota(n)
abbrev pub times : ℤ → ℕ
times (pos n) = n
times (negsuc n) = 0

-- what follows a value costs nothing where there is none
abbrev pub if_value : {A : Type 0} → Option A → (A → ℕ) → ℕ
if_value none f = 0
if_value (some v) f = f v

-- the units of one evaluation behind its guard
abbrev pub unit_for : Bool → ℕ
unit_for false = 0
unit_for true = 1

-- packing one value under a guard of b units: a scalar, or a sequence with its flags and each item
unfoldable pub pack_charge : (b : ℕ) (τ : ValueType) → Val τ → ℕ
pack_charge b (scalar c) e = 2 + b
pack_charge b (braces τ) vs =
    let k = length vs in
    (5 * k + 5) + b * (k + 1) + sum_of (map (λ v. pack_charge b τ v) vs)

-- packing each listed value
unfoldable pub pack_charges : {Γ : List ValueType} → (b : ℕ) → Listing Γ → All Val Γ → ℕ
pack_charges b [] ρ = 0
pack_charges b (u ∷ us) ρ = pack_charge b u.0 (lookup u.1 ρ) + pack_charges b us ρ

-- how many elements represent a value: one for a scalar, and for a sequence its flags and its items' elements
unfoldable pub elements_in : (τ : ValueType) → Val τ → ℕ
elements_in (scalar b) e = 1
elements_in (braces τ) vs = (length vs + 1) + sum_of (map (λ v. elements_in τ v) vs)

-- those of the listed values
unfoldable pub listed_elements : {Γ : List ValueType} → Listing Γ → All Val Γ → ℕ
listed_elements [] ρ = 0
listed_elements (u ∷ us) ρ = elements_in u.0 (lookup u.1 ρ) + listed_elements us ρ

unfoldable pub charge : {Γ : List ValueType} {τ : ValueType} → Term Γ τ → All Val Γ → ℕ
charge (var x) ρ = 0
charge (bind e₁ e₂) ρ = charge e₁ ρ + if_value (eval e₁ ρ) (λ v. charge e₂ (v ▹ ρ))
charge (const b e) ρ = 1
charge (iota x) ρ = 7 * times (lookup x ρ) + 4
charge (operation o x y) ρ = 3
charge (negation x) ρ = 2
charge (sum x) ρ = 2 * length (lookup x ρ) + 2
charge (each y us e) ρ =
    let k = length (lookup y ρ) in
    (2 * k + 1) + length us * (2 * k + 2) + sum_of (map (λ v. charge e (v ▹ listed (any_type us) ρ)) (lookup y ρ))
charge (guard g us e) ρ =
    let b = unit_for (lookup g ρ) in
    (2 + b) + (1 + 2 * b) + pack_charges b us ρ + sum_of (map (λ ρ'. charge e ρ') (one_if (lookup g ρ) (listed us ρ)))

unfoldable pub plain_charge : {Γ : List ValueType} {τ : ValueType} → Term Γ τ → All Val Γ → ℕ
plain_charge (var x) ρ = 0
plain_charge (bind e₁ e₂) ρ = plain_charge e₁ ρ + if_value (eval e₁ ρ) (λ v. plain_charge e₂ (v ▹ ρ))
plain_charge (const b e) ρ = 1
plain_charge (iota x) ρ = times (lookup x ρ) + 1
plain_charge (operation o x y) ρ = 1
plain_charge (negation x) ρ = 1
plain_charge (sum x) ρ = length (lookup x ρ) + 1
plain_charge (each y us e) ρ =
    let k = length (lookup y ρ) in
    (1 + length us) * (1 + k) + sum_of (map (λ v. plain_charge e (v ▹ listed (any_type us) ρ)) (lookup y ρ))
plain_charge (guard g us e) ρ = 2 + listed_elements us ρ + sum_of (map (λ ρ'. plain_charge e ρ') (one_if (lookup g ρ) (listed us ρ)))

-- at each position, whether one of two is so
unfoldable pub either : List Bool → List Bool → List Bool
either [] cs = cs
either (b ∷ bs) [] = b ∷ bs
either (b ∷ bs) (c ∷ cs) = (b || c) ∷ either bs cs

-- at each of n positions, whether one of several is so
unfoldable pub any_of : ℕ → List (List Bool) → List Bool
any_of n [] = replicate n false
any_of n (r ∷ rs) = either r (any_of n rs)

-- for each definition of a value's packing, whether its evaluation reaches it: further in, where an item does
unfoldable pub pack_reached : (τ : ValueType) → Val τ → List Bool
pack_reached (scalar b) e = true ∷ []
pack_reached (braces τ) vs = true ∷ true ∷ true ∷ any_of (pack_size (depth_of τ)) (map (λ v. pack_reached τ v) vs)

unfoldable pub packs_reached : {Γ : List ValueType} → Listing Γ → All Val Γ → List Bool
packs_reached [] ρ = []
packs_reached (u ∷ us) ρ = pack_reached u.0 (lookup u.1 ρ) ++ packs_reached us ρ

-- for each definition of e's code, in id order, whether this evaluation reaches it
unfoldable pub reached : {Γ : List ValueType} {τ : ValueType} → Term Γ τ → All Val Γ → List Bool
reached (var x) ρ = []
reached (bind e₁ e₂) ρ = reached e₁ ρ ++ elim (eval e₁ ρ) [ none ↦ replicate (size e₂) false | some v ↦ reached e₂ (v ▹ ρ) ]
reached (const b e) ρ = true ∷ []
reached (iota x) ρ = true ∷ true ∷ ltb 0 (times (lookup x ρ)) ∷ true ∷ []
reached (operation o x y) ρ = true ∷ []
reached (negation x) ρ = true ∷ []
reached (sum x) ρ = true ∷ []
reached (each y us e) ρ =
    true ∷ (replicate (length us) true ++ any_of (size e) (map (λ v. reached e (v ▹ listed (any_type us) ρ)) (lookup y ρ)))
reached (guard g us e) ρ =
    true ∷ true ∷ (packs_reached us ρ ++ any_of (size e) (map (λ ρ'. reached e ρ') (one_if (lookup g ρ) (listed us ρ))))

unfoldable pub count_true : List Bool → ℕ
count_true [] = 0
count_true (false ∷ bs) = count_true bs
count_true (true ∷ bs) = count_true bs + 1

-- how many definitions of e's code at least one of these evaluations reaches, each counted once
abbrev pub steps_of : {Γ : List ValueType} {τ : ValueType} → Term Γ τ → List (All Val Γ) → ℕ
steps_of e ρs = count_true (any_of (size e) (map (reached e) ρs))
