-- Checking (snesl, specs/Checking.antt) gives a typed expression exactly where the typing rules have a derivation, and refusal 5 or 6 where they have none.
use Prim.Native.Nat.{ℕ, suc, ◌≤◌}
use native.Mathlib.Omega.{arith}
use mathlib.Core.Bool.{Bool, true, false, ◌&&◌, ◌||◌, not}
use mathlib.Core.List.{List, [], ◌∷◌}
use mathlib.Core.Logic.{◌⊎◌, inl, inr, ⊎_elim, ◌↔◌}
use mathlib.Core.Option.{Option, some, none}
use mathlib.Core.Path.{◌≡◌, refl, sym, ap, ◌∙◌, subst}
use borrow.Author.Tests.{ltb-true, ltb-false}
use lib.Dec.{ltb}
use lib.IntN.{ℤ}
use Rattle.laws.proofs.Never.{never}
use Rattle.laws.proofs.Tests.{both_true}
use Rattle.snesl.specs.declared.code.Base.{Base}
use Rattle.snesl.specs.declared.code.Base.TheVariants as base
use Rattle.snesl.specs.declared.code.Operation.{Operation}
use Rattle.snesl.specs.declared.code.Variable.{Variable}
use Rattle.snesl.specs.declared.refusal.Refusal.{Refusal}
use Rattle.snesl.specs.declared.refusal.Refusal.TheVariants.{Unbound, WrongType}
use Rattle.snesl.specs.Limits.{most_depth}
use Rattle.snesl.specs.Values.{ValueType, scalar, braces, int, bool, depth_of, result_of, each_none, each_more}
use Rattle.snesl.specs.Terms as terms
use Rattle.snesl.specs.Terms.{◌∋◌, Term, any_type, listed_types, All, ∅, ◌▹◌}
use Rattle.snesl.specs.Records as raw
use Rattle.snesl.specs.Records.{Raw}
use Rattle.snesl.specs.Checking.{Name, same, Found, missing, found, find, is_bound, AnyScalar, no_scalar, a_scalar, as_scalar, as_int, as_bool, as_ints, Sequence, no_sequence, sequence, as_sequence, names}
use Rattle.snesl.specs.Checking.{usable, NamedScalars, listed_first, listed_scalars, listed_names, pointers, NamedListing, any_first, listed_any, any_pointers, any_names, Typed, refused, typed, demand, typed_if, typed_sequence, typed_then, check}
use Rattle.rules.specs.Names.{Env, nothing, named, Maps, maps_none, maps-more, Listed, listed-none, listed_more}
use Rattle.rules.specs.Typing.{BuiltIn, Calls, calls-const, calls-truth, calls-iota, calls-operation, calls-negation, calls-sum, takes-const, takes-truth, takes-iota, takes-operation, takes-negation, takes-sum}
use Rattle.rules.specs.Typing.{Unlisted, Once, once-none, once_more, IsScalar, is-scalar, AnyType, Types, types-var, types-let, types-call, types-each, types-guard, types_of}
use Rattle.rules.proofs.Names.{same_true, same_false, maps-once, Finds, finds-none, finds-one, finding}

-- A rule's premises from its conclusion, for each expression.
pub not-var : {p : ℕ} {x : Variable} {φ : BuiltIn} {xs : List Variable} → Calls (raw.var p x) φ xs → ⊥
not-var = elim [ ]

pub not-let : {p : ℕ} {x : Variable} {e₁ e₂ : Raw} {φ : BuiltIn} {xs : List Variable} → Calls (raw.bind p x e₁ e₂) φ xs → ⊥
not-let = elim [ ]

pub not-each : {p : ℕ} {x y : Variable} {us : List Variable} {e : Raw} {φ : BuiltIn} {xs : List Variable} → Calls (raw.each p x y us e) φ xs → ⊥
not-each = elim [ ]

pub not-guard : {p : ℕ} {g : Variable} {us : List Variable} {e : Raw} {φ : BuiltIn} {xs : List Variable} → Calls (raw.guard p g us e) φ xs → ⊥
not-guard = elim [ ]

record OfGuard (Γ : Env ValueType) (g : Variable) (us : List Variable) (e : Raw) (τ : ValueType) : Type 0 where
  body : ValueType
  inside : Env ValueType
  guard-is : Maps Γ g bool
  listed : Listed AnyType Γ us inside
  once : Once us
  body_is : Types inside e body
  deep : suc (depth_of body) ≤ most_depth
  type-is : braces body ≡ τ

record OfEach (Γ : Env ValueType) (x y : Variable) (us : List Variable) (e : Raw) (τ : ValueType) : Type 0 where
  item : ValueType
  body : ValueType
  inside : Env ValueType
  sequence-is : Maps Γ y (braces item)
  listed : Listed IsScalar Γ us inside
  apart : Unlisted x us
  once : Once us
  body_is : Types (named x item inside) e body
  deep : suc (depth_of body) ≤ most_depth
  type-is : braces body ≡ τ

module _ {Γ : Env ValueType} {p : ℕ} where
  of-var : {x : Variable} {τ : ValueType} → Types Γ (raw.var p x) τ → Maps Γ x τ
  of-var (types-var h) = h
  of-var (types-call c t m) = absurd (not-var c)

  of-let : {x : Variable} {e₁ e₂ : Raw} {τ : ValueType} → Types Γ (raw.bind p x e₁ e₂) τ → (c : ValueType) × Types Γ e₁ c × Types (named x c Γ) e₂ τ
  of-let (types-let {υ = c} h k) = (c, h, k)
  of-let (types-call c t m) = absurd (not-let c)

  of-const : {z : ℤ} {τ : ValueType} → Types Γ (raw.const p z) τ → int ≡ τ
  of-const (types-call calls-const takes-const m) = refl

  of-truth : {c : Bool} {τ : ValueType} → Types Γ (raw.truth p c) τ → bool ≡ τ
  of-truth (types-call calls-truth takes-truth m) = refl

  of-iota : {x : Variable} {τ : ValueType} → Types Γ (raw.iota p x) τ → Maps Γ x int × (braces int ≡ τ)
  of-iota (types-call calls-iota takes-iota (maps-more h m)) = (h, refl)

  of-operation : {o : Operation} {x y : Variable} {τ : ValueType} → Types Γ (raw.operation p o x y) τ → Maps Γ x int × Maps Γ y int × (scalar (result_of o) ≡ τ)
  of-operation (types-call calls-operation (takes-operation q) (maps-more h (maps-more k m))) = (h, k, sym q)

  of-negation : {x : Variable} {τ : ValueType} → Types Γ (raw.negation p x) τ → Maps Γ x bool × (bool ≡ τ)
  of-negation (types-call calls-negation takes-negation (maps-more h m)) = (h, refl)

  of_guard : {g : Variable} {us : List Variable} {e : Raw} {τ : ValueType} → Types Γ (raw.guard p g us e) τ → OfGuard Γ g us e τ
  of_guard (types-guard {Δ = Δ} {τ = τ} h l o b m) = record { body = τ; inside = Δ; guard-is = h; listed = l; once = o; body_is = b; deep = m; type-is = refl }
  of_guard (types-call c t m) = absurd (not-guard c)

  of-sum : {x : Variable} {τ : ValueType} → Types Γ (raw.sum p x) τ → Maps Γ x (braces int) × (int ≡ τ)
  of-sum (types-call calls-sum takes-sum (maps-more h m)) = (h, refl)

  of-each : {x y : Variable} {us : List Variable} {e : Raw} {τ : ValueType} → Types Γ (raw.each p x y us e) τ → OfEach Γ x y us e τ
  of-each (types-each {Δ = Δ} {υ = c} {τ = τ} h l a o b m) =
      record { item = c; body = τ; inside = Δ; sequence-is = h; listed = l; apart = a; once = o; body_is = b; deep = m; type-is = refl }
  of-each (types-call c t m) = absurd (not-each c)

pub listed-once : {A : Type 0} {Must : A → Type 0} {Γ Δ Δ' : Env A} {us : List Variable} → Listed Must Γ us Δ → Listed Must Γ us Δ' → Δ ≡ Δ'
listed-once listed-none listed-none = refl
listed-once (listed_more {u = u} h m l) (listed_more h' m' l') =
    let p = maps-once h h' in
    let q = listed-once l l' in
    λ i. named u (p i) (q i)

braces-same : {c τ : ValueType} → braces c ≡ braces τ → c ≡ τ
braces-same q = cc

-- The rules give an expression at most one type.
pub types-once : {Γ : Env ValueType} {e : Raw} {c τ : ValueType} → Types Γ e c → Types Γ e τ → c ≡ τ
types-once (types-var h) k = maps-once h (of-var k)
types-once {Γ} {τ = τ} (types-let {x = x} {e₂ = e₂} h₁ h₂) k =
    let (c, k₁, k₂) = of-let k in
    types-once h₂ (subst (λ n. Types (named x n Γ) e₂ τ) (sym (types-once h₁ k₁)) k₂)
types-once (types-call calls-const takes-const m) k = of-const k
types-once (types-call calls-iota takes-iota m) k = (of-iota k).1
types-once (types-call calls-truth takes-truth m) k = of-truth k
types-once (types-call calls-operation (takes-operation q) m) k = q ∙ (of-operation k).2
types-once (types-call calls-negation takes-negation m) k = (of-negation k).1
types-once (types-call calls-sum takes-sum m) k = (of-sum k).1
types-once {Γ} (types-each {Δ = Δ} {υ = c} {x = x} {e = e} h l a o b m) k =
    let r = of-each k in
    let p : c ≡ r.item = braces-same (maps-once h r.sequence-is) in
    let q = listed-once l r.listed in
    let pq : named x c Δ ≡ named x r.item r.inside = λ i. named x (p i) (q i) in
    ap braces (types-once b (subst (λ Γ. Types Γ e r.body) (sym pq) r.body_is)) ∙ r.type-is
types-once (types-guard {e = e} h l o b m) k =
    let r = of_guard k in
    ap braces (types-once b (subst (λ Γ. Types Γ e r.body) (sym (listed-once l r.listed)) r.body_is)) ∙ r.type-is

-- ---- what checking asks of a name

module _ {Γ : List ValueType} {scope : All Name Γ} {x : Variable} where
  unbound-name : {f : Found Γ} {τ : ValueType} → Finds scope x f → is_bound f ≡ false → Maps (types_of scope) x τ → ⊥
  unbound-name {τ = τ} (finds-none h) q m = h τ m
  unbound-name (finds-one h) q m = never (cc)

  a-scalar : {f : Found Γ} {b : Base} {v : Γ ∋ scalar b} → Finds scope x f → as_scalar f ≡ a_scalar b v → Maps (types_of scope) x (scalar b)
  a-scalar (finds-none h) q = never (cc)
  a-scalar {b = b} (finds-one {τ = scalar c} h) q = let e : c ≡ b = cc in subst (λ b. Maps (types_of scope) x (scalar b)) e h
  a-scalar (finds-one {τ = braces τ} h) q = never (cc)

  no-scalar : {f : Found Γ} {τ : ValueType} → Finds scope x f → as_scalar f ≡ no_scalar → IsScalar τ → Maps (types_of scope) x τ → ⊥
  no-scalar {τ = τ} (finds-none h) q s m = h τ m
  no-scalar (finds-one {τ = scalar b} h) q s m = never (cc)
  no-scalar (finds-one {τ = braces υ} h) q (is-scalar {b = b}) m = let z : braces υ ≡ scalar b = maps-once h m in never (cc)

  an_int : {f : Found Γ} {v : Γ ∋ int} → Finds scope x f → as_int (as_scalar f) ≡ some v → Maps (types_of scope) x int
  an_int (finds-none h) q = never (cc)
  an_int (finds-one {τ = scalar base.Int} h) q = h
  an_int (finds-one {τ = scalar base.Bool} h) q = never (cc)
  an_int (finds-one {τ = braces τ} h) q = never (cc)

  no-int : {f : Found Γ} → Finds scope x f → as_int (as_scalar f) ≡ none → Maps (types_of scope) x int → ⊥
  no-int (finds-none h) q m = h int m
  no-int (finds-one {τ = scalar base.Int} h) q m = never (cc)
  no-int (finds-one {τ = scalar base.Bool} h) q m = let z : scalar base.Bool ≡ int = maps-once h m in never (cc)
  no-int (finds-one {τ = braces τ} h) q m = let z : braces τ ≡ int = maps-once h m in never (cc)

  a-bool : {f : Found Γ} {v : Γ ∋ bool} → Finds scope x f → as_bool (as_scalar f) ≡ some v → Maps (types_of scope) x bool
  a-bool (finds-none h) q = never (cc)
  a-bool (finds-one {τ = scalar base.Int} h) q = never (cc)
  a-bool (finds-one {τ = scalar base.Bool} h) q = h
  a-bool (finds-one {τ = braces τ} h) q = never (cc)

  no_bool : {f : Found Γ} → Finds scope x f → as_bool (as_scalar f) ≡ none → Maps (types_of scope) x bool → ⊥
  no_bool (finds-none h) q m = h bool m
  no_bool (finds-one {τ = scalar base.Int} h) q m = let z : int ≡ bool = maps-once h m in never (cc)
  no_bool (finds-one {τ = scalar base.Bool} h) q m = never (cc)
  no_bool (finds-one {τ = braces τ} h) q m = let z : braces τ ≡ bool = maps-once h m in never (cc)

  a-sequence : {f : Found Γ} {c : ValueType} {v : Γ ∋ braces c} → Finds scope x f → as_sequence f ≡ sequence c v → Maps (types_of scope) x (braces c)
  a-sequence (finds-none h) q = never (cc)
  a-sequence (finds-one {τ = scalar b} h) q = never (cc)
  a-sequence {c = c} (finds-one {τ = braces τ} h) q = let e : τ ≡ c = cc in subst (λ n. Maps (types_of scope) x (braces n)) e h

  no-sequence : {f : Found Γ} {c : ValueType} → Finds scope x f → as_sequence f ≡ no_sequence → Maps (types_of scope) x (braces c) → ⊥
  no-sequence {c = c} (finds-none h) q m = h (braces c) m
  no-sequence {c = c} (finds-one {τ = scalar b} h) q m = let z : scalar b ≡ braces c = maps-once h m in never (cc)
  no-sequence (finds-one {τ = braces τ} h) q m = never (cc)

  some-ints : {f : Found Γ} {v : Γ ∋ braces int} → Finds scope x f → as_ints (as_sequence f) ≡ some v → Maps (types_of scope) x (braces int)
  some-ints (finds-none h) q = never (cc)
  some-ints (finds-one {τ = scalar b} h) q = never (cc)
  some-ints (finds-one {τ = braces (scalar base.Int)} h) q = h
  some-ints (finds-one {τ = braces (scalar base.Bool)} h) q = never (cc)
  some-ints (finds-one {τ = braces (braces τ)} h) q = never (cc)

  no-ints : {f : Found Γ} → Finds scope x f → as_ints (as_sequence f) ≡ none → Maps (types_of scope) x (braces int) → ⊥
  no-ints (finds-none h) q m = h (braces int) m
  no-ints (finds-one {τ = scalar b} h) q m = let z : scalar b ≡ braces int = maps-once h m in never (cc)
  no-ints (finds-one {τ = braces (scalar base.Int)} h) q m = never (cc)
  no-ints (finds-one {τ = braces (scalar base.Bool)} h) q m = let z : braces (scalar base.Bool) ≡ braces int = maps-once h m in never (cc)
  no-ints (finds-one {τ = braces (braces τ)} h) q m = let z : braces (braces τ) ≡ braces int = maps-once h m in never (cc)

-- ---- what it asks of a using list

names-false : (u : Variable) (us : List Variable) → names u us ≡ false → Unlisted u us
unfolding names
names-false u [] e = each_none
names-false u (v ∷ us) e = go (same u v) refl e (names-false u us)
  where
    go : (b : Bool) → same u v ≡ b → (b || names u us) ≡ false → (names u us ≡ false → Unlisted u us) → Unlisted u (v ∷ us)
    go true q r below = never (cc)
    go false q r below = each_more (same_false u v q) (below r)

names-true : (u : Variable) (us : List Variable) → names u us ≡ true → Unlisted u us → ⊥
unfolding names
names-true u [] e h = never (cc)
names-true u (v ∷ us) e (each_more n h) = go (same u v) refl e (names-true u us)
  where
    go : (b : Bool) → same u v ≡ b → (b || names u us) ≡ true → (names u us ≡ true → Unlisted u us → ⊥) → ⊥
    go true q r below = n (same_true u v q)
    go false q r below = below r h

module _ {Γ : List ValueType} (scope : All Name Γ) where
  usable-true : (us : List Variable) → usable scope us ≡ true → Once us
  unfolding usable
  usable-true [] e = once-none
  usable-true (u ∷ us) e = go (is_bound (find u scope)) (names u us) refl e (usable-true us)
    where
      go : (b d : Bool) → names u us ≡ d → (b && (not d && usable scope us)) ≡ true → (usable scope us ≡ true → Once us) → Once (u ∷ us)
      go false d qd r below = never (cc)
      go true true qd r below = never (cc)
      go true false qd r below = once_more (names-false u us qd) (below r)

  usable-false : {Must : ValueType → Type 0} (us : List Variable) {Δ : Env ValueType} → usable scope us ≡ false → Listed Must (types_of scope) us Δ → Once us → ⊥
  unfolding usable
  usable-false [] e l o = never (cc)
  usable-false {Must} (u ∷ us) e (listed_more {Δ = Δ} h m l) (once_more k o) = go (is_bound (find u scope)) refl (names u us) refl e (λ r. usable-false us r l o)
    where
      go : (b : Bool) → is_bound (find u scope) ≡ b → (d : Bool) → names u us ≡ d → (b && (not d && usable scope us)) ≡ false → (usable scope us ≡ false → ⊥) → ⊥
      go false qb d qd r below = unbound-name (finding scope u) qb h
      go true qb true qd r below = names-true u us qd k
      go true qb false qd r below = below r

not-false : (b : Bool) → not b ≡ false → b ≡ true
not-false true q = refl
not-false false q = never (cc)

not-true : (b : Bool) → not b ≡ true → b ≡ false
not-true true q = never (cc)
not-true false q = refl

module _ {Γ : List ValueType} (scope : All Name Γ) where
  all_any : (us : List Variable) {ls : NamedListing Γ} → listed_any scope us ≡ some ls → Listed AnyType (types_of scope) us (types_of (any_names ls))
  unfolding listed_any any_names types_of
  all_any [] {ls} e = let q : [] ≡ ls = cc in subst (λ l. Listed AnyType (types_of scope) [] (types_of (any_names l))) q listed-none
  all_any (u ∷ us) {ls} e = go (find u scope) (finding scope u) (listed_any scope us) refl e (λ l q. all_any us q)
    where
      go : (o : Found Γ) → Finds scope u o → (r : Option (NamedListing Γ)) → listed_any scope us ≡ r
          → any_first u o r ≡ some ls
          → ((ls : NamedListing Γ) → listed_any scope us ≡ some ls → Listed AnyType (types_of scope) us (types_of (any_names ls)))
          → Listed AnyType (types_of scope) (u ∷ us) (types_of (any_names ls))
      go missing h r qr q below = never (cc)
      go (found τ v) h none qr q below = never (cc)
      go (found τ v) (finds-one h) (some l) qr q below =
          let s : (u, (τ, v)) ∷ l ≡ ls = cc in
          subst (λ l. Listed AnyType (types_of scope) (u ∷ us) (types_of (any_names l))) s (listed_more h tt (below l qr))

  not-any : (us : List Variable) {Δ : Env ValueType} → listed_any scope us ≡ none → Listed AnyType (types_of scope) us Δ → ⊥
  unfolding listed_any
  not-any [] e l = never (cc)
  not-any (u ∷ us) e (listed_more {a = a} {Δ = Δ} h m l) = go (find u scope) (finding scope u) (listed_any scope us) refl e (λ r. not-any us r l)
    where
      go : (o : Found Γ) → Finds scope u o → (r : Option (NamedListing Γ)) → listed_any scope us ≡ r → any_first u o r ≡ none → (listed_any scope us ≡ none → ⊥) → ⊥
      go missing (finds-none n) r qr q below = n a h
      go (found τ v) f none qr q below = below qr
      go (found τ v) f (some l') qr q below = never (cc)

module _ {Γ : List ValueType} (scope : All Name Γ) where
  all-scalars : (us : List Variable) {ls : NamedScalars Γ} → listed_scalars scope us ≡ some ls → Listed IsScalar (types_of scope) us (types_of (listed_names ls))
  unfolding listed_scalars listed_names types_of
  all-scalars [] {ls} e = let q : [] ≡ ls = cc in subst (λ l. Listed IsScalar (types_of scope) [] (types_of (listed_names l))) q listed-none
  all-scalars (u ∷ us) {ls} e = go (as_scalar (find u scope)) refl (listed_scalars scope us) refl e (λ l q. all-scalars us q)
    where
      go : (o : AnyScalar Γ) → as_scalar (find u scope) ≡ o → (r : Option (NamedScalars Γ)) → listed_scalars scope us ≡ r
          → listed_first u o r ≡ some ls
          → ((ls : NamedScalars Γ) → listed_scalars scope us ≡ some ls → Listed IsScalar (types_of scope) us (types_of (listed_names ls)))
          → Listed IsScalar (types_of scope) (u ∷ us) (types_of (listed_names ls))
      go no_scalar qo r qr q below = never (cc)
      go (a_scalar b v) qo none qr q below = never (cc)
      go (a_scalar b v) qo (some l) qr q below =
          let s : (u, (b, v)) ∷ l ≡ ls = cc in
          subst (λ l. Listed IsScalar (types_of scope) (u ∷ us) (types_of (listed_names l))) s
          (listed_more (a-scalar (finding scope u) qo) is-scalar (below l qr))

  not-scalars : (us : List Variable) {Δ : Env ValueType} → listed_scalars scope us ≡ none → Listed IsScalar (types_of scope) us Δ → ⊥
  unfolding listed_scalars
  not-scalars [] e l = never (cc)
  not-scalars (u ∷ us) e (listed_more {Δ = Δ} h m l) = go (as_scalar (find u scope)) refl (listed_scalars scope us) refl e (not-scalars us)
    where
      go : (o : AnyScalar Γ) → as_scalar (find u scope) ≡ o → (r : Option (NamedScalars Γ)) → listed_scalars scope us ≡ r
          → listed_first u o r ≡ none
          → (listed_scalars scope us ≡ none → Listed IsScalar (types_of scope) us Δ → ⊥)
          → ⊥
      go no_scalar qo r qr q below = no-scalar (finding scope u) qo m h
      go (a_scalar b v) qo none qr q below = below qr l
      go (a_scalar b v) qo (some l') qr q below = never (cc)

-- ---- names resolved: which typed expression a named one is

pub data Resolved : (Γ : List ValueType) → All Name Γ → Raw → (τ : ValueType) → Term Γ τ → Type 0 where
  resolved-var : {Γ : List ValueType} {scope : All Name Γ} {p : ℕ} {τ : ValueType} {x : Variable} {v : Γ ∋ τ}
      → find x scope ≡ found τ v
      → Resolved Γ scope (raw.var p x) τ (terms.var v)
  resolved-let : {Γ : List ValueType} {scope : All Name Γ} {p : ℕ} {c τ : ValueType} {x : Variable} {e₁ e₂ : Raw} {t₁ : Term Γ c} {t₂ : Term (c ∷ Γ) τ}
      → Resolved Γ scope e₁ c t₁
      → Resolved (c ∷ Γ) (x ▹ scope) e₂ τ t₂
      → Resolved Γ scope (raw.bind p x e₁ e₂) τ (terms.bind t₁ t₂)
  resolved-const : {Γ : List ValueType} {scope : All Name Γ} {p : ℕ} {z : ℤ} → Resolved Γ scope (raw.const p z) int (terms.const base.Int z)
  resolved-truth : {Γ : List ValueType} {scope : All Name Γ} {p : ℕ} {c : Bool} → Resolved Γ scope (raw.truth p c) bool (terms.const base.Bool c)
  resolved-iota : {Γ : List ValueType} {scope : All Name Γ} {p : ℕ} {x : Variable} {v : Γ ∋ int}
      → as_int (as_scalar (find x scope)) ≡ some v
      → Resolved Γ scope (raw.iota p x) (braces int) (terms.iota v)
  resolved-negation : {Γ : List ValueType} {scope : All Name Γ} {p : ℕ} {x : Variable} {v : Γ ∋ bool}
      → as_bool (as_scalar (find x scope)) ≡ some v
      → Resolved Γ scope (raw.negation p x) bool (terms.negation v)
  resolved-operation : {Γ : List ValueType} {scope : All Name Γ} {p : ℕ} {o : Operation} {x y : Variable} {v w : Γ ∋ int}
      → as_int (as_scalar (find x scope)) ≡ some v
      → as_int (as_scalar (find y scope)) ≡ some w
      → Resolved Γ scope (raw.operation p o x y) (scalar (result_of o)) (terms.operation o v w)
  resolved-sum : {Γ : List ValueType} {scope : All Name Γ} {p : ℕ} {x : Variable} {v : Γ ∋ braces int}
      → as_ints (as_sequence (find x scope)) ≡ some v
      → Resolved Γ scope (raw.sum p x) int (terms.sum v)
  resolved-each : {Γ : List ValueType} {scope : All Name Γ} {p : ℕ} {c τ : ValueType} {x y : Variable} {us : List Variable} {e : Raw} {v : Γ ∋ braces c}
      {ls : NamedScalars Γ} {t : Term (c ∷ listed_types (any_type (pointers ls))) τ}
      → as_sequence (find y scope) ≡ sequence c v
      → listed_scalars scope us ≡ some ls
      → Resolved (c ∷ listed_types (any_type (pointers ls))) (x ▹ listed_names ls) e τ t
      → Resolved Γ scope (raw.each p x y us e) (braces τ) (terms.each v (pointers ls) t)
  resolved-guard : {Γ : List ValueType} {scope : All Name Γ} {p : ℕ} {τ : ValueType} {g : Variable} {us : List Variable} {e : Raw} {v : Γ ∋ bool}
      {ls : NamedListing Γ} {t : Term (listed_types (any_pointers ls)) τ}
      → as_bool (as_scalar (find g scope)) ≡ some v
      → listed_any scope us ≡ some ls
      → Resolved (listed_types (any_pointers ls)) (any_names ls) e τ t
      → Resolved Γ scope (raw.guard p g us e) (braces τ) (terms.guard v (any_pointers ls) t)

-- ---- what checking answers, beside what the rules have

abbrev pub Untyped : {Γ : List ValueType} → All Name Γ → Raw → Type 0
Untyped scope e = (τ : ValueType) → Types (types_of scope) e τ → ⊥

pub data Checked {Γ : List ValueType} (scope : All Name Γ) (e : Raw) : Typed Γ → Type 0 where
  passed : {τ : ValueType} {t : Term Γ τ} → Types (types_of scope) e τ → Resolved Γ scope e τ t → Checked scope e (typed τ t)
  unbound : {p : ℕ} → Untyped scope e → Checked scope e (refused (Unbound p))
  mistyped : {p : ℕ} → Untyped scope e → Checked scope e (refused (WrongType p))

module _ {Γ : List ValueType} {scope : All Name Γ} {e : Raw} (p : ℕ) where
  names-asked : (b : Bool) (r : Typed Γ) → (b ≡ false → Untyped scope e) → (b ≡ true → Checked scope e r) → Checked scope e (demand b (Unbound p) r)
  names-asked true r f g = g refl
  names-asked false r f g = unbound (f refl)

  type-asked : (b : Bool) (r : Typed Γ) → (b ≡ false → Untyped scope e) → (b ≡ true → Checked scope e r) → Checked scope e (demand b (WrongType p) r)
  type-asked true r f g = g refl
  type-asked false r f g = mistyped (f refl)

  if-asked : {A : Type 0} (o : Option A) (f : A → Typed Γ)
      → (o ≡ none → Untyped scope e)
      → ((a : A) → o ≡ some a → Checked scope e (f a))
      → Checked scope e (typed_if p o f)
  if-asked none f g h = mistyped (g refl)
  if-asked (some a) f g h = h a refl

  sequence-asked : (o : Sequence Γ) (f : (c : ValueType) → Γ ∋ braces c → Typed Γ)
      → (o ≡ no_sequence → Untyped scope e)
      → ((c : ValueType) (v : Γ ∋ braces c) → o ≡ sequence c v → Checked scope e (f c v))
      → Checked scope e (typed_sequence p o f)
  sequence-asked no_sequence f g h = mistyped (g refl)
  sequence-asked (sequence c v) f g h = h c v refl

-- a part that has no type, then one that has
part-asked : {Γ Δ : List ValueType} {scope : All Name Γ} {inner : All Name Δ} {e e' : Raw} {r : Typed Δ} (f : (τ : ValueType) → Term Δ τ → Typed Γ)
    → Checked inner e' r
    → (Untyped inner e' → Untyped scope e)
    → ((τ : ValueType) (t : Term Δ τ) → Types (types_of inner) e' τ → Resolved Δ inner e' τ t → Checked scope e (f τ t))
    → Checked scope e (typed_then r f)
part-asked f (passed {τ = τ} {t = t} h w) g k = k τ t h w
part-asked f (unbound n) g k = unbound (g n)
part-asked f (mistyped n) g k = mistyped (g n)

either-false : (a b : Bool) → (a && b) ≡ false → (a ≡ false) ⊎ (b ≡ false)
either-false true b e = inr e
either-false false b e = inl refl

module _ {Γ : List ValueType} (scope : All Name Γ) (p : ℕ) where
  checking-var : (x : Variable) → Checked scope (raw.var p x) (check scope (raw.var p x))
  unfolding check
  checking-var x = go (find x scope) refl (finding scope x)
    where
      go : (f : Found Γ) → find x scope ≡ f → Finds scope x f
          → Checked scope (raw.var p x) (elim f [ missing ↦ refused (Unbound p) | found τ v ↦ typed τ (terms.var v) ])
      go missing q (finds-none h) = unbound (λ τ k. h τ (of-var k))
      go (found τ v) q (finds-one h) = passed (types-var h) (resolved-var q)

  checking-const : (z : ℤ) → Checked scope (raw.const p z) (check scope (raw.const p z))
  unfolding check
  checking-const z = passed (types-call calls-const takes-const maps_none) resolved-const

  checking-iota : (x : Variable) → Checked scope (raw.iota p x) (check scope (raw.iota p x))
  unfolding check
  checking-iota x =
      let f = finding scope x in
      names-asked p (is_bound (find x scope)) _ (λ q τ k. unbound-name f q (of-iota k).0)
      (λ b. if-asked p (as_int (as_scalar (find x scope))) (λ v. typed (braces int) (terms.iota v)) (λ q τ k. no-int f q (of-iota k).0)
      (λ v q. passed (types-call calls-iota takes-iota (maps-more (an_int f q) maps_none)) (resolved-iota q)))

  checking-truth : (c : Bool) → Checked scope (raw.truth p c) (check scope (raw.truth p c))
  unfolding check
  checking-truth c = passed (types-call calls-truth takes-truth maps_none) resolved-truth

  checking-negation : (x : Variable) → Checked scope (raw.negation p x) (check scope (raw.negation p x))
  unfolding check
  checking-negation x =
      let f = finding scope x in
      names-asked p (is_bound (find x scope)) _ (λ q τ k. unbound-name f q (of-negation k).0)
      (λ b. if-asked p (as_bool (as_scalar (find x scope))) (λ v. typed bool (terms.negation v)) (λ q τ k. no_bool f q (of-negation k).0)
      (λ v q. passed (types-call calls-negation takes-negation (maps-more (a-bool f q) maps_none)) (resolved-negation q)))

  checking-operation : (o : Operation) (x y : Variable) → Checked scope (raw.operation p o x y) (check scope (raw.operation p o x y))
  unfolding check
  checking-operation o x y =
      let f = finding scope x in
      let g = finding scope y in
      let τ = scalar (result_of o) in
      names-asked p (is_bound (find x scope) && is_bound (find y scope)) _
      (λ q τ k. ⊎_elim (λ r. unbound-name f r (of-operation k).0) (λ r. unbound-name g r (of-operation k).1) (either-false _ _ q))
      (λ b. if-asked p (as_int (as_scalar (find x scope))) (λ v. typed_if p (as_int (as_scalar (find y scope))) (λ w. typed τ (terms.operation o v w)))
      (λ q τ k. no-int f q (of-operation k).0)
      (λ v q. if-asked p (as_int (as_scalar (find y scope))) (λ w. typed τ (terms.operation o v w)) (λ r τ k. no-int g r (of-operation k).1)
      (λ w r. passed (types-call calls-operation (takes-operation refl) (maps-more (an_int f q) (maps-more (an_int g r) maps_none))) (resolved-operation q r))))

  checking-sum : (x : Variable) → Checked scope (raw.sum p x) (check scope (raw.sum p x))
  unfolding check
  checking-sum x =
      let f = finding scope x in
      names-asked p (is_bound (find x scope)) _ (λ q τ k. unbound-name f q (of-sum k).0)
      (λ b. if-asked p (as_ints (as_sequence (find x scope))) (λ v. typed int (terms.sum v)) (λ q τ k. no-ints f q (of-sum k).0)
      (λ v q. passed (types-call calls-sum takes-sum (maps-more (some-ints f q) maps_none)) (resolved-sum q)))

  checking-let : (x : Variable) (e₁ e₂ : Raw)
      → Checked scope e₁ (check scope e₁)
      → ((c : ValueType) → Checked (◌▹◌ {τ = c} x scope) e₂ (check (◌▹◌ {τ = c} x scope) e₂))
      → Checked scope (raw.bind p x e₁ e₂) (check scope (raw.bind p x e₁ e₂))
  unfolding check types_of
  checking-let x e₁ e₂ h₁ h₂ =
      part-asked (λ c t₁. typed_then (check (◌▹◌ {τ = c} x scope) e₂) (λ τ t₂. typed τ (terms.bind t₁ t₂))) h₁ (λ n τ k. let (c, k₁, k₂) = of-let k in n c k₁)
      (λ c t₁ k₁ w₁.
      part-asked (λ τ t₂. typed τ (terms.bind t₁ t₂)) (h₂ c) (λ n τ k. let (b, j₁, j₂) = of-let k in n τ (subst (λ a. Types (named x a (types_of scope)) e₂ τ) (types-once j₁ k₁) j₂))
      (λ τ t₂ k₂ w₂. passed (types-let k₁ k₂) (resolved-let w₁ w₂)))

  -- the body of a comprehension that has its types is the one that was checked
  body_typed : {x y : Variable} {us : List Variable} {e : Raw} {c τ : ValueType} {Δ : Env ValueType}
      → Maps (types_of scope) y (braces c)
      → Listed IsScalar (types_of scope) us Δ
      → OfEach (types_of scope) x y us e τ
      → (b : ValueType) × Types (named x c Δ) e b × (suc (depth_of b) ≤ most_depth)
  body_typed {x} {e = e} {c = c} {Δ = Δ} h l r =
      let i : c ≡ r.item = braces-same (maps-once h r.sequence-is) in
      let q = listed-once l r.listed in
      let same-scope : named x c Δ ≡ named x r.item r.inside = λ j. named x (i j) (q j) in
      (r.body, subst (λ Γ. Types Γ e r.body) (sym same-scope) r.body_is, r.deep)

  checking-each : (x y : Variable) (us : List Variable) (e : Raw)
      → ((c : ValueType) (ls : NamedScalars Γ) → Checked (◌▹◌ {τ = c} x (listed_names ls)) e (check (◌▹◌ {τ = c} x (listed_names ls)) e))
      → Checked scope (raw.each p x y us e) (check scope (raw.each p x y us e))
  unfolding check types_of
  checking-each x y us e body =
      let f = finding scope y in
      let shut : (c : ValueType) → Γ ∋ braces c → (ls : NamedScalars Γ) → (τ : ValueType) → Term (c ∷ listed_types (any_type (pointers ls))) τ → Typed Γ =
      λ c v ls τ t. demand (ltb (depth_of τ) most_depth) (WrongType p) (typed (braces τ) (terms.each v (pointers ls) t)) in
      let inside : (c : ValueType) → Γ ∋ braces c → NamedScalars Γ → Typed Γ =
      λ c v ls. typed_then (check (◌▹◌ {τ = c} x (listed_names ls)) e) (shut c v ls) in
      names-asked p (is_bound (find y scope) && (usable scope us && not (names x us))) _
      (λ q τ k. let r = of-each k in
      ⊎_elim (λ z. unbound-name f z r.sequence-is)
      (λ z. ⊎_elim (λ w. usable-false scope us w r.listed r.once) (λ w. names-true x us (not-false (names x us) w) r.apart) (either-false (usable scope us) _ z)) (either-false _ _ q))
      (λ named-well.
      let (fine, other) = both_true (usable scope us) _ (both_true (is_bound (find y scope)) _ named-well).1 in
      let o = usable-true scope us fine in
      let a = names-false x us (not-true (names x us) other) in
      sequence-asked p (as_sequence (find y scope)) (λ c v. typed_if p (listed_scalars scope us) (inside c v)) (λ q τ k. no-sequence f q (of-each k).sequence-is)
      (λ c v qv.
      let h = a-sequence f qv in
      if-asked p (listed_scalars scope us) (inside c v) (λ q τ k. not-scalars scope us q (of-each k).listed)
      (λ ls ql.
      let l = all-scalars scope us ql in
      part-asked (shut c v ls) (body c ls) (λ n τ k. let (b, t, z) = body_typed h l (of-each k) in n b t)
      (λ τ t k w.
      type-asked p (ltb (depth_of τ) most_depth) _
      (λ q b j. let (b', k', z) = body_typed h l (of-each j) in omega (arith, ltb-false (depth_of τ) most_depth q, ap depth_of (types-once k' k), z))
      (λ q. passed (types-each h l a o k (ltb-true (depth_of τ) most_depth q)) (resolved-each qv ql w))))))

  checking-guard : (g : Variable) (us : List Variable) (e : Raw)
      → ((ls : NamedListing Γ) → Checked (any_names ls) e (check (any_names ls) e))
      → Checked scope (raw.guard p g us e) (check scope (raw.guard p g us e))
  unfolding check types_of
  checking-guard g us e body =
      let f = finding scope g in
      let shut : Γ ∋ bool → (ls : NamedListing Γ) → (τ : ValueType) → Term (listed_types (any_pointers ls)) τ → Typed Γ =
      λ v ls τ t. demand (ltb (depth_of τ) most_depth) (WrongType p) (typed (braces τ) (terms.guard v (any_pointers ls) t)) in
      let inside : Γ ∋ bool → NamedListing Γ → Typed Γ = λ v ls. typed_then (check (any_names ls) e) (shut v ls) in
      let body_typed : (τ : ValueType) (Δ : Env ValueType) → Listed AnyType (types_of scope) us Δ → OfGuard (types_of scope) g us e τ → (b : ValueType) × Types Δ e b × (suc (depth_of b) ≤ most_depth) =
      λ τ Δ l r. (r.body, subst (λ Γ. Types Γ e r.body) (sym (listed-once l r.listed)) r.body_is, r.deep) in
      names-asked p (is_bound (find g scope) && usable scope us) _
      (λ q τ k. let r = of_guard k in ⊎_elim (λ z. unbound-name f z r.guard-is) (λ z. usable-false scope us z r.listed r.once) (either-false _ _ q))
      (λ named-well.
      let o = usable-true scope us (both_true (is_bound (find g scope)) _ named-well).1 in
      if-asked p (as_bool (as_scalar (find g scope))) (λ v. typed_if p (listed_any scope us) (inside v)) (λ q τ k. no_bool f q (of_guard k).guard-is)
      (λ v qv.
      if-asked p (listed_any scope us) (inside v) (λ q τ k. not-any scope us q (of_guard k).listed)
      (λ ls ql.
      let l = all_any scope us ql in
      part-asked (shut v ls) (body ls) (λ n τ k. let (b, t, z) = body_typed τ _ l (of_guard k) in n b t)
      (λ τ t k w.
      type-asked p (ltb (depth_of τ) most_depth) _
      (λ q b j. let (b', k', z) = body_typed b _ l (of_guard j) in omega (arith, ltb-false (depth_of τ) most_depth q, ap depth_of (types-once k' k), z))
      (λ q. passed (types-guard (a-bool f qv) l o k (ltb-true (depth_of τ) most_depth q)) (resolved-guard qv ql w))))))

pub checking : {Γ : List ValueType} (scope : All Name Γ) (e : Raw) → Checked scope e (check scope e)
checking scope (raw.var p x) = checking-var scope p x
checking scope (raw.bind p x e₁ e₂) = checking-let scope p x e₁ e₂ (checking scope e₁) (λ c. checking (◌▹◌ {τ = c} x scope) e₂)
checking scope (raw.const p z) = checking-const scope p z
checking scope (raw.iota p x) = checking-iota scope p x
checking scope (raw.truth p c) = checking-truth scope p c
checking scope (raw.operation p o x y) = checking-operation scope p o x y
checking scope (raw.negation p x) = checking-negation scope p x
checking scope (raw.sum p x) = checking-sum scope p x
checking scope (raw.each p x y us e) = checking-each scope p x y us e (λ c ls. checking (◌▹◌ {τ = c} x (listed_names ls)) e)
checking scope (raw.guard p g us e) = checking-guard scope p g us e (λ ls. checking (any_names ls) e)

-- ---- the theorems

module _ {Γ : List ValueType} {scope : All Name Γ} {e : Raw} where
  of-passed : {τ : ValueType} {t : Term Γ τ} → Checked scope e (typed τ t) → Types (types_of scope) e τ × Resolved Γ scope e τ t
  of-passed (passed h w) = (h, w)

  of-refused : {r : Refusal} → Checked scope e (refused r) → Untyped scope e × (((p : ℕ) × (r ≡ Unbound p)) ⊎ ((p : ℕ) × (r ≡ WrongType p)))
  of-refused (unbound {p = p} n) = (n, inl (p, refl))
  of-refused (mistyped {p = p} n) = (n, inr (p, refl))

  has-term : {r : Typed Γ} {τ : ValueType} → Checked scope e r → Types (types_of scope) e τ → (t : Term Γ τ) × (r ≡ typed τ t)
  has-term (passed {τ = c} {t = u} h w) k = subst (λ n. (t : Term Γ n) × (typed c u ≡ typed n t)) (types-once h k) (u, refl)
  has-term {τ = τ} (unbound n) k = absurd (n τ k)
  has-term {τ = τ} (mistyped n) k = absurd (n τ k)

  has-none : {r : Typed Γ} → Checked scope e r → Untyped scope e → (why : Refusal) × (r ≡ refused why)
  has-none (passed {τ = τ} h w) n = absurd (n τ h)
  has-none (unbound {p = p} m) n = (Unbound p, refl)
  has-none (mistyped {p = p} m) n = (WrongType p, refl)

module _ {Γ : List ValueType} (scope : All Name Γ) (e : Raw) where
  pub resolved : {τ : ValueType} {t : Term Γ τ} → check scope e ≡ typed τ t → Resolved Γ scope e τ t
  resolved q = (of-passed (subst (Checked scope e) q (checking scope e))).1

  pub typed-exactly : (τ : ValueType) → ((t : Term Γ τ) × (check scope e ≡ typed τ t)) ↔ Types (types_of scope) e τ
  typed-exactly τ = (λ (t, q). (of-passed (subst (Checked scope e) q (checking scope e))).0, λ k. has-term (checking scope e) k)

  pub refused-exactly : ((why : Refusal) × (check scope e ≡ refused why)) ↔ Untyped scope e
  refused-exactly = (λ (why, q). (of-refused (subst (Checked scope e) q (checking scope e))).0, λ n. has-none (checking scope e) n)

  pub refused-by : {why : Refusal} → check scope e ≡ refused why → ((p : ℕ) × (why ≡ Unbound p)) ⊎ ((p : ℕ) × (why ≡ WrongType p))
  refused-by q = (of-refused (subst (Checked scope e) q (checking scope e))).1

-- every Γ is that of some names
pub scoped : (Γ : Env ValueType) → (τs : List ValueType) × (scope : All Name τs) × (types_of scope ≡ Γ)
unfolding types_of
scoped nothing = ([], ∅, refl)
scoped (named x τ Γ) = let (τs, scope, q) = scoped Γ in (τ ∷ τs, x ▹ scope, ap (named x τ) q)
