-- A value has a type exactly if it is a value of that type without it.
use mathlib.Core.Bool.{Bool}
use mathlib.Core.List.{List, [], ◌∷◌}
use mathlib.Core.Logic.{◌↔◌}
use mathlib.Core.Path.{◌≡◌, refl, sym, ap, subst}
use lib.IntN.{ℤ}
use Rattle.laws.proofs.Never.{never}
use Rattle.snesl.specs.declared.code.Base.{Base}
use Rattle.snesl.specs.declared.code.Base.TheVariants as base
use Rattle.snesl.specs.Values as types
use Rattle.snesl.specs.Values.{ValueType, scalar, Element, Val}
use Rattle.rules.specs.Values.{Value, Values, int, bool, braces, item, HasType, HaveType, type-int, type-bool, type-braces, type-none, type-more, plains, plain_scalar, plain}

module _ (τ : ValueType) (typed : (v : Val τ) → HasType (plain τ v) τ) where
  plains-typed : (vs : List (Val τ)) → HaveType (plains (plain τ) vs) τ
  unfolding plains
  plains-typed [] = type-none
  plains-typed (v ∷ vs) = type-more (typed v) (plains-typed vs)

plain-typed : (τ : ValueType) (v : Val τ) → HasType (plain τ v) τ
unfolding plain
plain-typed (scalar base.Int) n = type-int
plain-typed (scalar base.Bool) c = type-bool
plain-typed (types.braces τ) vs = type-braces (plains-typed τ (plain-typed τ) vs)

module _ (τ : ValueType) (plainly : (v : Value) → HasType v τ → (w : Val τ) × (v ≡ plain τ w)) where
  all_plain : {vs : Values} → HaveType vs τ → (ws : List (Val τ)) × (vs ≡ plains (plain τ) ws)
  unfolding plains
  all_plain type-none = ([], refl)
  all_plain (type-more {v = v} h hs) =
      let (w, p) = plainly v h in
      let (ws, q) = all_plain hs in
      (w ∷ ws, λ i. item (p i) (q i))

is_plain : (τ : ValueType) (v : Value) → HasType v τ → (w : Val τ) × (v ≡ plain τ w)
unfolding plain
is_plain (scalar base.Int) _ (type-int {n = n}) = (n, refl)
is_plain (scalar base.Bool) _ (type-bool {c = c}) = (c, refl)
is_plain (types.braces τ) _ (type-braces h) = let (ws, q) = all_plain τ (is_plain τ) h in (ws, ap braces q)

pub typed-exactly : (τ : ValueType) (v : Value) → HasType v τ ↔ ((w : Val τ) × (v ≡ plain τ w))
typed-exactly τ v = (is_plain τ v, λ (w, q). subst (λ u. HasType u τ) (sym q) (plain-typed τ w))

-- and is that of one value only
module _ (τ : ValueType) (once : (v w : Val τ) → plain τ v ≡ plain τ w → v ≡ w) where
  plains-once : (vs ws : List (Val τ)) → plains (plain τ) vs ≡ plains (plain τ) ws → vs ≡ ws
  unfolding plains
  plains-once [] [] q = refl
  plains-once [] (w ∷ ws) q = never (cc)
  plains-once (v ∷ vs) [] q = never (cc)
  plains-once (v ∷ vs) (w ∷ ws) q =
      let h : plain τ v ≡ plain τ w = cc in
      let t : plains (plain τ) vs ≡ plains (plain τ) ws = cc in
      let p = once v w h in
      let r = plains-once vs ws t in
      λ i. p i ∷ r i

scalar-once : (b : Base) (v w : Element b) → plain_scalar b v ≡ plain_scalar b w → v ≡ w
scalar-once base.Int v w q = int_same q
  where
    int_same : {n m : ℤ} → int n ≡ int m → n ≡ m
    int_same e = cc
scalar-once base.Bool v w q = bool_same q
  where
    bool_same : {n m : Bool} → bool n ≡ bool m → n ≡ m
    bool_same e = cc

pub plain-once : (τ : ValueType) (v w : Val τ) → plain τ v ≡ plain τ w → v ≡ w
unfolding plain
plain-once (scalar b) v w q = scalar-once b v w q
plain-once (types.braces τ) v w q = plains-once τ (plain-once τ) v w (same q)
  where
    same : {vs ws : Values} → braces vs ≡ braces ws → vs ≡ ws
    same e = cc
