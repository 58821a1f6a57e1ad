-- A name is found where the mapping has it, and an environment maps a name once.
use mathlib.Core.Bool.{Bool, true, false}
use mathlib.Core.List.{List}
use mathlib.Core.Option.{some}
use mathlib.Core.Path.{◌≡◌, refl, ap, subst}
use borrow.Author.Tests.{eqb-true, eqb-false}
use Rattle.laws.proofs.Never.{never}
use Rattle.snesl.specs.declared.code.Variable.{Variable}
use Rattle.snesl.specs.declared.code.Base.{Base}
use Rattle.snesl.specs.declared.code.Base.TheVariants as base
use Rattle.snesl.specs.Values.{ValueType, scalar, braces, int, bool}
use Rattle.snesl.specs.Terms.{◌∋◌, here, All, ∅, ◌▹◌, lookup}
use Rattle.snesl.specs.Checking.{Name, same, Found, missing, found, later, find, AnyScalar, no_scalar, a_scalar, as_scalar, as_int, as_bool, as_ints, Sequence, no_sequence, sequence, as_sequence}
use Rattle.rules.specs.Names.{Env, nothing, named, Maps, newest, older, env_of}
use Rattle.rules.specs.Typing.{types_of}

pub same_true : (x y : Variable) → same x y ≡ true → x ≡ y
same_true x y e = let p : x.0 ≡ y.0 = eqb-true x.0 y.0 e in λ i. record { 0 = p i }

pub same_false : (x y : Variable) → same x y ≡ false → x ≡ y → ⊥
same_false x y e q = eqb-false x.0 y.0 e (ap (λ v. v.0) q)

pub maps-once : {A : Type 0} {Γ : Env A} {x : Variable} {a b : A} → Maps Γ x a → Maps Γ x b → a ≡ b
maps-once (newest p) (newest q) = refl
maps-once (newest p) (older n m) = absurd (n p)
maps-once (older n m) (newest q) = absurd (n q)
maps-once (older n m) (older n' m') = maps-once m m'

-- what a search for a name comes to, beside what the mapping has
pub data Finds {Γ : List ValueType} (scope : All Name Γ) (x : Variable) : Found Γ → Type 0 where
  finds-none : ((τ : ValueType) → Maps (types_of scope) x τ → ⊥) → Finds scope x missing
  finds-one : {τ : ValueType} {v : Γ ∋ τ} → Maps (types_of scope) x τ → Finds scope x (found τ v)

pub finding : {Γ : List ValueType} (scope : All Name Γ) (x : Variable) → Finds scope x (find x scope)
unfolding find types_of
finding ∅ x = finds-none none-there
  where
    none-there : (τ : ValueType) → Maps nothing x τ → ⊥
    none-there τ = elim [ ]
finding (◌▹◌ {τ = c} {Γ = Δ} y scope) x = go (same x y) refl (find x scope) (finding scope x)
  where
    not-older : (x ≡ y → ⊥) → ((τ : ValueType) → Maps (types_of scope) x τ → ⊥) → (τ : ValueType) → Maps (named y c (types_of scope)) x τ → ⊥
    not-older n none-there d (newest p) = n p
    not-older n none-there d (older m h) = none-there d h

    go : (b : Bool) → same x y ≡ b → (f : Found Δ) → Finds scope x f → Finds (◌▹◌ {τ = c} y scope) x (elim b [ true ↦ found c here | false ↦ later f ])
    go true e f h = finds-one (newest (same_true x y e))
    go false e missing (finds-none h) = finds-none (not-older (same_false x y e) h)
    go false e (found d v) (finds-one h) = finds-one (older (same_false x y e) h)

-- ---- the same beside what the names map to

module _ {P : ValueType → Type 0} {A : Type 0} (f : (τ : ValueType) → P τ → A) {Γ : List ValueType} (scope : All Name Γ) (ρ : All P Γ) (x : Variable) where
  pub data Looks : Found Γ → Type 0 where
    looks-none : Looks missing
    looks-one : {τ : ValueType} {v : Γ ∋ τ} → Maps (env_of f scope ρ) x (f τ (lookup v ρ)) → Looks (found τ v)

  pub data LooksAtSequence : Sequence Γ → Type 0 where
    looks-no : LooksAtSequence no_sequence
    looks-along : {υ : ValueType} {v : Γ ∋ braces υ} → Maps (env_of f scope ρ) x (f (braces υ) (lookup v ρ)) → LooksAtSequence (sequence υ v)

module _ {P : ValueType → Type 0} {A : Type 0} (f : (τ : ValueType) → P τ → A) where
  pub looking : {Γ : List ValueType} (scope : All Name Γ) (ρ : All P Γ) (x : Variable) → Looks f scope ρ x (find x scope)
  unfolding find env_of lookup
  looking ∅ ∅ x = looks-none
  looking (◌▹◌ {τ = c} {Γ = Δ} y scope) (v ▹ ρ) x = go (same x y) refl (find x scope) (looking scope ρ x)
    where
      go : (b : Bool) → same x y ≡ b → (g : Found Δ) → Looks f scope ρ x g → Looks f (◌▹◌ {τ = c} y scope) (v ▹ ρ) x (elim b [ true ↦ found c here | false ↦ later g ])
      go true e g h = looks-one (newest (same_true x y e))
      go false e missing looks-none = looks-none
      go false e (found d w) (looks-one h) = looks-one (older (same_false x y e) h)

module _ {P : ValueType → Type 0} {A : Type 0} {f : (τ : ValueType) → P τ → A} {Γ : List ValueType} {scope : All Name Γ} {ρ : All P Γ} {x : Variable} where
  pub looks-found : {τ : ValueType} {v : Γ ∋ τ} → Looks f scope ρ x (found τ v) → Maps (env_of f scope ρ) x (f τ (lookup v ρ))
  looks-found (looks-one h) = h

  pub looks-scalar : {g : Found Γ} {b : Base} {v : Γ ∋ scalar b} → Looks f scope ρ x g → as_scalar g ≡ a_scalar b v → Maps (env_of f scope ρ) x (f (scalar b) (lookup v ρ))
  looks-scalar looks-none q = never (cc)
  looks-scalar {b = b} {v = v} (looks-one {τ = scalar c} {v = w} h) q = same q h
    where
      Held : AnyScalar Γ → Type 0
      Held no_scalar = ⊥
      Held (a_scalar c w) = Maps (env_of f scope ρ) x (f (scalar c) (lookup w ρ))

      same : {c : Base} {w : Γ ∋ scalar c} → a_scalar c w ≡ a_scalar b v → Maps (env_of f scope ρ) x (f (scalar c) (lookup w ρ)) → Maps (env_of f scope ρ) x (f (scalar b) (lookup v ρ))
      same q h = subst Held q h
  looks-scalar (looks-one {τ = braces τ} h) q = never (cc)

  pub looks-int : {g : Found Γ} {v : Γ ∋ int} → Looks f scope ρ x g → as_int (as_scalar g) ≡ some v → Maps (env_of f scope ρ) x (f int (lookup v ρ))
  looks-int looks-none q = never (cc)
  looks-int {v = v} (looks-one {τ = scalar base.Int} {v = w} h) q = let p : w ≡ v = cc in subst (λ u. Maps (env_of f scope ρ) x (f int (lookup u ρ))) p h
  looks-int (looks-one {τ = scalar base.Bool} h) q = never (cc)
  looks-int (looks-one {τ = braces τ} h) q = never (cc)

  pub looks-bool : {g : Found Γ} {v : Γ ∋ bool} → Looks f scope ρ x g → as_bool (as_scalar g) ≡ some v → Maps (env_of f scope ρ) x (f bool (lookup v ρ))
  looks-bool looks-none q = never (cc)
  looks-bool (looks-one {τ = scalar base.Int} h) q = never (cc)
  looks-bool {v = v} (looks-one {τ = scalar base.Bool} {v = w} h) q = let p : w ≡ v = cc in subst (λ u. Maps (env_of f scope ρ) x (f bool (lookup u ρ))) p h
  looks-bool (looks-one {τ = braces τ} h) q = never (cc)

  pub as-sequence : {g : Found Γ} → Looks f scope ρ x g → LooksAtSequence f scope ρ x (as_sequence g)
  as-sequence looks-none = looks-no
  as-sequence (looks-one {τ = scalar b} h) = looks-no
  as-sequence (looks-one {τ = braces τ} h) = looks-along h

  pub along : {υ : ValueType} {v : Γ ∋ braces υ} → LooksAtSequence f scope ρ x (sequence υ v) → Maps (env_of f scope ρ) x (f (braces υ) (lookup v ρ))
  along (looks-along h) = h

  pub looks-ints : {g : Found Γ} {v : Γ ∋ braces int} → Looks f scope ρ x g → as_ints (as_sequence g) ≡ some v → Maps (env_of f scope ρ) x (f (braces int) (lookup v ρ))
  looks-ints looks-none q = never (cc)
  looks-ints (looks-one {τ = scalar b} h) q = never (cc)
  looks-ints {v = v} (looks-one {τ = braces (scalar base.Int)} {v = w} h) q =
      let p : w ≡ v = cc in subst (λ u. Maps (env_of f scope ρ) x (f (braces int) (lookup u ρ))) p h
  looks-ints (looks-one {τ = braces (scalar base.Bool)} h) q = never (cc)
  looks-ints (looks-one {τ = braces (braces τ)} h) q = never (cc)
