-- What the record at a place says of the expression that is formed there: to show something of the expression, show it of what the record spells. So a
-- walk never takes an indexed family apart.
use Prim.Native.Nat.{ℕ, suc, ◌+◌, ◌-◌, ◌<◌}
use native.Mathlib.Omega.{arith}
use mathlib.Core.Bool.{Bool, true}
use mathlib.Core.List.{List, ◌∷◌}
use mathlib.Core.Option.{some}
use mathlib.Core.Path.{◌≡◌, sym, ◌∙◌, subst}
use lib.Dec.{ltb}
use lib.IntN.{ℤ}
use Rattle.snesl.specs.declared.code.Base.TheVariants as base
use Rattle.snesl.specs.declared.code.Operation.{Operation}
use Rattle.snesl.specs.declared.code.Variable.{Variable}
use Rattle.snesl.specs.Limits.{most_depth}
use Rattle.snesl.specs.Values.{ValueType, scalar, braces, int, bool, depth_of, result_of}
use Rattle.snesl.specs.Terms.{◌∋◌, Term, var, bind, const, iota, operation, negation, sum, each, guard, any_type, listed_types, All, ◌▹◌}
use Rattle.snesl.specs.Records as records
use Rattle.snesl.specs.Records.{Head, single, letting, eaching, guarding, head_at}
use Rattle.snesl.specs.Checking.{Name, find, found, as_scalar, as_int, as_bool, as_ints, as_sequence, sequence, NamedScalars, listed_scalars, listed_names, pointers, NamedListing, listed_any, any_names, any_pointers}
use Rattle.snesl.specs.Formed.{Formed, formed-var, formed-bind, formed-const, formed-truth, formed-iota, formed-operation, formed-negation, formed-sum, formed-each, formed-guard}

module _ (t : List ℕ) {Γ : List ValueType} (scope : All Name Γ) (P : (τ : ValueType) → Term Γ τ → ℕ → Type 0) where
  -- what is to be shown of an expression where this record stands at k; nothing where no expression does
  abbrev Shows : (levels k : ℕ) → Head → Type 0
  Shows levels k records.absent = Unit
  Shows levels k records.over = Unit
  Shows levels k (single (records.var p x) b) = (τ : ValueType) (v : Γ ∋ τ) → find x scope ≡ found τ v → P τ (var v) (k + b)
  Shows levels k (single (records.bind p x e₁ e₂) b) = Unit
  Shows levels k (single (records.const p z) b) = P int (const base.Int z) (k + b)
  Shows levels k (single (records.truth p c) b) = P bool (const base.Bool c) (k + b)
  Shows levels k (single (records.iota p x) b) = (v : Γ ∋ int) → as_int (as_scalar (find x scope)) ≡ some v → P (braces int) (iota v) (k + b)
  Shows levels k (single (records.operation p o x y) b) =
      (v w : Γ ∋ int) → as_int (as_scalar (find x scope)) ≡ some v → as_int (as_scalar (find y scope)) ≡ some w → P (scalar (result_of o)) (operation o v w) (k + b)
  Shows levels k (single (records.negation p x) b) = (v : Γ ∋ bool) → as_bool (as_scalar (find x scope)) ≡ some v → P bool (negation v) (k + b)
  Shows levels k (single (records.sum p x) b) = (v : Γ ∋ braces int) → as_ints (as_sequence (find x scope)) ≡ some v → P int (sum v) (k + b)
  Shows levels k (single (records.each p x y us e) b) = Unit
  Shows levels k (single (records.guard p g us e) b) = Unit
  Shows levels k (letting x) =
      (υ τ : ValueType) (e₁ : Term Γ υ) (e₂ : Term (υ ∷ Γ) τ) (k₁ k₂ : ℕ)
      → 0 < levels
      → Formed t (levels - 1) (k + 3) Γ scope υ e₁ k₁
      → Formed t (levels - 1) k₁ (υ ∷ Γ) (x ▹ scope) τ e₂ k₂
      → P τ (bind e₁ e₂) k₂
  Shows levels k (eaching x y us b) =
      (υ τ : ValueType) (n : ℕ) (v : Γ ∋ braces υ) (ls : NamedScalars Γ) (e : Term (υ ∷ listed_types (any_type (pointers ls))) τ)
      → 0 < levels
      → as_sequence (find y scope) ≡ sequence υ v
      → listed_scalars scope us ≡ some ls
      → Formed t (levels - 1) (k + b) (υ ∷ listed_types (any_type (pointers ls))) (x ▹ listed_names ls) τ e n
      → ltb (depth_of τ) most_depth ≡ true
      → P (braces τ) (each v (pointers ls) e) n
  Shows levels k (guarding g us b) =
      (τ : ValueType) (n : ℕ) (v : Γ ∋ bool) (ls : NamedListing Γ) (e : Term (listed_types (any_pointers ls)) τ)
      → 0 < levels
      → as_bool (as_scalar (find g scope)) ≡ some v
      → listed_any scope us ≡ some ls
      → Formed t (levels - 1) (k + b) (listed_types (any_pointers ls)) (any_names ls) τ e n
      → ltb (depth_of τ) most_depth ≡ true
      → P (braces τ) (guard v (any_pointers ls) e) n

  -- a record spells what is formed where it stands, so only what is to be shown of it has to be
  by-head : (levels k : ℕ) {next : ℕ} {τ : ValueType} {e : Term Γ τ} (h : Head)
      → Formed t levels k Γ scope τ e next
      → head_at t k ≡ h
      → Shows levels k h
      → P τ e next
  by-head levels k h (formed-var {τ = τ} {v = v} r f) q p = subst (Shows levels k) (sym q ∙ r) p τ v f
  by-head levels k h (formed-bind {l = l} {k₁ = k₁} {k₂ = k₂} {υ = υ} {τ = τ} {x = x} {e₁ = e₁} {e₂ = e₂} r f f₂) q p =
      let m : l ≡ suc l - 1 = omega arith in
      subst (Shows levels k) (sym q ∙ r) p υ τ e₁ e₂ k₁ k₂ (omega arith)
      (subst (λ n. Formed t n (k + 3) Γ scope υ e₁ k₁) m f)
      (subst (λ n. Formed t n k₁ (υ ∷ Γ) (x ▹ scope) τ e₂ k₂) m f₂)
  by-head levels k h (formed-const r) q p = subst (Shows levels k) (sym q ∙ r) p
  by-head levels k h (formed-truth r) q p = subst (Shows levels k) (sym q ∙ r) p
  by-head levels k h (formed-iota {v = v} r f) q p = subst (Shows levels k) (sym q ∙ r) p v f
  by-head levels k h (formed-operation {v = v} {w = w} r f f₂) q p = subst (Shows levels k) (sym q ∙ r) p v w f f₂
  by-head levels k h (formed-negation {v = v} r f) q p = subst (Shows levels k) (sym q ∙ r) p v f
  by-head levels k h (formed-sum {v = v} r f) q p = subst (Shows levels k) (sym q ∙ r) p v f
  by-head levels k h (formed-each {l = l} {b = b} {next = n} {υ = υ} {τ = τ} {x = x} {v = v} {ls = ls} {e = e} r f f₂ f₃ f₄) q p =
      let m : l ≡ suc l - 1 = omega arith in
      subst (Shows levels k) (sym q ∙ r) p υ τ n v ls e (omega arith) f f₂
      (subst (λ a. Formed t a (k + b) (υ ∷ listed_types (any_type (pointers ls))) (x ▹ listed_names ls) τ e n) m f₃)
      f₄
  by-head levels k h (formed-guard {l = l} {b = b} {next = n} {τ = τ} {v = v} {ls = ls} {e = e} r f f₂ f₃ f₄) q p =
      let m : l ≡ suc l - 1 = omega arith in
      subst (Shows levels k) (sym q ∙ r) p τ n v ls e (omega arith) f f₂
      (subst (λ a. Formed t a (k + b) (listed_types (any_pointers ls)) (any_names ls) τ e n) m f₃)
      f₄

module _ {t : List ℕ} {Γ : List ValueType} {scope : All Name Γ} (P : (τ : ValueType) → Term Γ τ → ℕ → Type 0) where
  pub by-var : {levels k next : ℕ} {τ : ValueType} {e : Term Γ τ} {x : Variable}
      → Formed t levels k Γ scope τ e next
      → head_at t k ≡ single (records.var k x) 3
      → ((τ : ValueType) (v : Γ ∋ τ) → find x scope ≡ found τ v → P τ (var v) (k + 3))
      → P τ e next
  by-var {levels} {k} f q p = by-head t scope P levels k _ f q p

  pub by-const : {levels k next : ℕ} {τ : ValueType} {e : Term Γ τ} {z : ℤ}
      → Formed t levels k Γ scope τ e next
      → head_at t k ≡ single (records.const k z) 6
      → P int (const base.Int z) (k + 6)
      → P τ e next
  by-const {levels} {k} f q p = by-head t scope P levels k _ f q p

  pub by-truth : {levels k next : ℕ} {τ : ValueType} {e : Term Γ τ} {c : Bool}
      → Formed t levels k Γ scope τ e next
      → head_at t k ≡ single (records.truth k c) 3
      → P bool (const base.Bool c) (k + 3)
      → P τ e next
  by-truth {levels} {k} f q p = by-head t scope P levels k _ f q p

  pub by-iota : {levels k next : ℕ} {τ : ValueType} {e : Term Γ τ} {x : Variable}
      → Formed t levels k Γ scope τ e next
      → head_at t k ≡ single (records.iota k x) 3
      → ((v : Γ ∋ int) → as_int (as_scalar (find x scope)) ≡ some v → P (braces int) (iota v) (k + 3))
      → P τ e next
  by-iota {levels} {k} f q p = by-head t scope P levels k _ f q p

  pub by-operation : {levels k next : ℕ} {τ : ValueType} {e : Term Γ τ} {o : Operation} {x y : Variable}
      → Formed t levels k Γ scope τ e next
      → head_at t k ≡ single (records.operation k o x y) 4
      → ((v w : Γ ∋ int)
      → as_int (as_scalar (find x scope)) ≡ some v
      → as_int (as_scalar (find y scope)) ≡ some w
      → P (scalar (result_of o)) (operation o v w) (k + 4))
      → P τ e next
  by-operation {levels} {k} f q p = by-head t scope P levels k _ f q p

  pub by-negation : {levels k next : ℕ} {τ : ValueType} {e : Term Γ τ} {x : Variable}
      → Formed t levels k Γ scope τ e next
      → head_at t k ≡ single (records.negation k x) 3
      → ((v : Γ ∋ bool) → as_bool (as_scalar (find x scope)) ≡ some v → P bool (negation v) (k + 3))
      → P τ e next
  by-negation {levels} {k} f q p = by-head t scope P levels k _ f q p

  pub by-sum : {levels k next : ℕ} {τ : ValueType} {e : Term Γ τ} {x : Variable}
      → Formed t levels k Γ scope τ e next
      → head_at t k ≡ single (records.sum k x) 3
      → ((v : Γ ∋ braces int) → as_ints (as_sequence (find x scope)) ≡ some v → P int (sum v) (k + 3))
      → P τ e next
  by-sum {levels} {k} f q p = by-head t scope P levels k _ f q p

  pub by-bind : {levels k next : ℕ} {τ : ValueType} {e : Term Γ τ} {x : Variable}
      → Formed t levels k Γ scope τ e next
      → head_at t k ≡ letting x
      → ((υ τ : ValueType) (e₁ : Term Γ υ) (e₂ : Term (υ ∷ Γ) τ) (k₁ k₂ : ℕ)
      → 0 < levels
      → Formed t (levels - 1) (k + 3) Γ scope υ e₁ k₁
      → Formed t (levels - 1) k₁ (υ ∷ Γ) (x ▹ scope) τ e₂ k₂
      → P τ (bind e₁ e₂) k₂)
      → P τ e next
  by-bind {levels} {k} f q p = by-head t scope P levels k _ f q p

  pub by-each : {levels k next : ℕ} {τ : ValueType} {e : Term Γ τ} {x y : Variable} {us : List Variable} {b : ℕ}
      → Formed t levels k Γ scope τ e next
      → head_at t k ≡ eaching x y us b
      → ((υ τ : ValueType) (n : ℕ) (v : Γ ∋ braces υ) (ls : NamedScalars Γ) (e : Term (υ ∷ listed_types (any_type (pointers ls))) τ)
      → 0 < levels
      → as_sequence (find y scope) ≡ sequence υ v
      → listed_scalars scope us ≡ some ls
      → Formed t (levels - 1) (k + b) (υ ∷ listed_types (any_type (pointers ls))) (x ▹ listed_names ls) τ e n
      → ltb (depth_of τ) most_depth ≡ true
      → P (braces τ) (each v (pointers ls) e) n)
      → P τ e next
  by-each {levels} {k} f q p = by-head t scope P levels k _ f q p

  pub by-guard : {levels k next : ℕ} {τ : ValueType} {e : Term Γ τ} {g : Variable} {us : List Variable} {b : ℕ}
      → Formed t levels k Γ scope τ e next
      → head_at t k ≡ guarding g us b
      → ((τ : ValueType) (n : ℕ) (v : Γ ∋ bool) (ls : NamedListing Γ) (e : Term (listed_types (any_pointers ls)) τ)
      → 0 < levels
      → as_bool (as_scalar (find g scope)) ≡ some v
      → listed_any scope us ≡ some ls
      → Formed t (levels - 1) (k + b) (listed_types (any_pointers ls)) (any_names ls) τ e n
      → ltb (depth_of τ) most_depth ≡ true
      → P (braces τ) (guard v (any_pointers ls) e) n)
      → P τ e next
  by-guard {levels} {k} f q p = by-head t scope P levels k _ f q p

  -- no expression stands where there is no record, or one over a limit
  pub not-absent : {levels k next : ℕ} {τ : ValueType} {e : Term Γ τ} → Formed t levels k Γ scope τ e next → head_at t k ≡ records.absent → P τ e next
  not-absent {levels} {k} f q = by-head t scope P levels k _ f q tt

  pub not-over : {levels k next : ℕ} {τ : ValueType} {e : Term Γ τ} → Formed t levels k Γ scope τ e next → head_at t k ≡ records.over → P τ e next
  not-over {levels} {k} f q = by-head t scope P levels k _ f q tt
