-- Checking a whole formula: its inputs each have a name of their own, and its expression has a type over them.
use Prim.Native.Nat.{ℕ}
use mathlib.Core.Bool.{Bool, true, false, ◌||◌}
use mathlib.Core.List.{List, [], ◌∷◌}
use mathlib.Core.Logic.{◌↔◌}
use mathlib.Core.Option.{Option, some, none}
use mathlib.Core.Path.{◌≡◌, refl, sym, subst}
use Rattle.laws.proofs.Never.{never}
use Rattle.snesl.specs.declared.code.Variable.{Variable}
use Rattle.snesl.specs.declared.refusal.Refusal.{Refusal}
use Rattle.snesl.specs.Values.{ValueType}
use Rattle.snesl.specs.Terms.{Term, All, ∅, ◌▹◌}
use Rattle.snesl.specs.Records.{Raw, Input}
use Rattle.snesl.specs.Checking.{Name, same, names, Typed, refused, typed, check, turned, input_type, input_names, context, repeated, check_inputs, check_formula}
use Rattle.snesl.proofs.Formed.{checked-inputs}
use Rattle.rules.specs.Names.{Env, nothing, named, Maps, newest, older}
use Rattle.rules.specs.Typing.{Types, types_of, Declares, declares-none, declares-more, FormulaTypes, formula-types}
use Rattle.rules.proofs.Names.{same_true, same_false}
use Rattle.rules.proofs.Typing.{typed-exactly}

-- the names of Γ, newest first
data Seen : List Variable → Env ValueType → Type 0 where
  seen_none : Seen [] nothing
  seen_more : {x : Variable} {xs : List Variable} {τ : ValueType} {Γ : Env ValueType} → Seen xs Γ → Seen (x ∷ xs) (named x τ Γ)

unseen : {xs : List Variable} {Γ : Env ValueType} → Seen xs Γ → (x : Variable) → names x xs ≡ false → (τ : ValueType) → Maps Γ x τ → ⊥
unfolding names
unseen seen_none x q τ m = elim m [ ]
unseen (seen_more {x = y} {xs = xs} s) x q τ (newest e) = go (same x y) refl q
  where
    go : (b : Bool) → same x y ≡ b → (b || names x xs) ≡ false → ⊥
    go true p r = never (cc)
    go false p r = same_false x y p e
unseen (seen_more {x = y} {xs = xs} s) x q τ (older n m) = go (same x y) q (λ r. unseen s x r τ m)
  where
    go : (b : Bool) → (b || names x xs) ≡ false → (names x xs ≡ false → ⊥) → ⊥
    go true r below = never (cc)
    go false r below = below r

seen : {xs : List Variable} {Γ : Env ValueType} → Seen xs Γ → (x : Variable) → names x xs ≡ true → ((τ : ValueType) → Maps Γ x τ → ⊥) → ⊥
unfolding names
seen seen_none x q n = never (cc)
seen {Γ = Γ} (seen_more {x = y} {xs = xs} {τ = τ} {Γ = Δ} s) x q n = go (same x y) refl q (λ r. seen s x r)
  where
    go : (b : Bool) → same x y ≡ b → (b || names x xs) ≡ true → (names x xs ≡ true → ((τ : ValueType) → Maps Δ x τ → ⊥) → ⊥) → ⊥
    go true p r below = n τ (newest (same_true x y p))
    go false p r below = below r (λ c m. n c (older (same_false x y p) m))

-- inputs that are all new
declares : {Γ : List ValueType} (scope : All Name Γ) {xs : List Variable} (is : List Input) → Seen xs (types_of scope) → repeated xs is ≡ none → Declares (types_of scope) is (types_of (turned scope (input_names is)))
unfolding repeated turned input_names types_of
declares scope [] s q = declares-none
declares scope {xs} (i ∷ is) s q = go (names i.name xs) refl q (λ r. declares (i.name ▹ scope) is (seen_more s) r)
  where
    go : (b : Bool) → names i.name xs ≡ b
        → ◌≡◌ {A = Option ℕ} (elim b [ true ↦ some i.place | false ↦ repeated (i.name ∷ xs) is ]) none
        → (repeated (i.name ∷ xs) is ≡ none → Declares (named i.name (input_type i) (types_of scope)) is (types_of (turned (◌▹◌ {τ = input_type i} i.name scope) (input_names is))))
        → Declares (types_of scope) (i ∷ is) (types_of (turned (◌▹◌ {τ = input_type i} i.name scope) (input_names is)))
    go true p r below = never (cc)
    go false p r below = declares-more (unseen s i.name p) (below r)

declared : {Γ : List ValueType} (scope : All Name Γ) {xs : List Variable} {Δ : Env ValueType} (is : List Input) → Seen xs (types_of scope) → Declares (types_of scope) is Δ
    → (repeated xs is ≡ none) × (Δ ≡ types_of (turned scope (input_names is)))
unfolding repeated turned input_names types_of
declared scope [] s declares-none = (refl, refl)
declared scope {xs} (i ∷ is) s (declares-more n h) =
    let (p, q) = declared (◌▹◌ {τ = input_type i} i.name scope) is (seen_more s) h in
    (go (names i.name xs) refl p, q)
  where
    go : (b : Bool) → names i.name xs ≡ b → repeated (i.name ∷ xs) is ≡ none → ◌≡◌ {A = Option ℕ} (elim b [ true ↦ some i.place | false ↦ repeated (i.name ∷ xs) is ]) none
    go true p r = absurd (seen s i.name p n)
    go false p r = r

-- ---- the theorems

module _ (is : List Input) (e : Raw) where
  names_of : All Name (context is)
  names_of = turned ∅ (input_names is)

  typed-there : (τ : ValueType) → (t : Term (context is) τ) × (check_formula is e ≡ typed τ t) → FormulaTypes is e τ
  unfolding types_of names_of
  typed-there τ (t, q) =
      let (new, checked) = checked-inputs is e q in
      formula-types (declares ∅ is seen_none new) ((typed-exactly names_of e τ).0 (t, checked))

  typed-back : (τ : ValueType) → FormulaTypes is e τ → (t : Term (context is) τ) × (check_formula is e ≡ typed τ t)
  unfolding types_of names_of
  typed-back τ (formula-types {Γ = Γ} h k) =
      let (new, same) = declared ∅ is seen_none h in
      let (t, q) = (typed-exactly names_of e τ).1 (subst (λ Γ. Types Γ e τ) same k) in
      (t, subst (λ o. check_inputs o (check names_of e) ≡ typed τ t) (sym new) q)

  pub formula-typed-exactly : (τ : ValueType) → ((t : Term (context is) τ) × (check_formula is e ≡ typed τ t)) ↔ FormulaTypes is e τ
  formula-typed-exactly τ = (typed-there τ, typed-back τ)

  refused-there : {r : Typed (context is)} → check_formula is e ≡ r → ((τ : ValueType) → FormulaTypes is e τ → ⊥) → (why : Refusal) × (r ≡ refused why)
  refused-there {r} q n = go r q
    where
      go : (r : Typed (context is)) → check_formula is e ≡ r → (why : Refusal) × (r ≡ refused why)
      go (Typed.refused why) q = (why, refl)
      go (typed τ t) q = absurd (n τ (typed-there τ (t, q)))

  pub formula-refused-exactly : ((why : Refusal) × (check_formula is e ≡ refused why)) ↔ ((τ : ValueType) → FormulaTypes is e τ → ⊥)
  formula-refused-exactly = (λ (why, q) τ h. let (t, p) = typed-back τ h in never (cc), λ n. refused-there refl n)
