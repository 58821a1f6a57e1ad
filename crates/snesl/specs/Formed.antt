-- Bytes that spell a typed expression: reading, checking and nesting in one relation, with what each record's bytes say as its premises.
-- The walks over a checked formula's bytes (listing, running) go by it; proofs/Formed.antt ties it to reading and checking.
use Rattle.std.specs.Prelude.{ℕ, suc, ◌+◌, Bool, true, List, ◌∷◌, ◌≡◌, ltb, ℤ}
use Rattle.std.proofs.Math.Option.{some}
use Rattle.snesl.specs.declared.code.Base.TheVariants as base
use Rattle.snesl.specs.declared.code.Operation.{Operation}
use Rattle.snesl.specs.declared.code.Variable.{Variable}
use Rattle.snesl.specs.Limits.{most_depth}
use Rattle.snesl.specs.Values.{ValueType, scalar, braces, int, bool, depth_of, result_of}
use Rattle.snesl.specs.Terms as terms
use Rattle.snesl.specs.Terms.{◌∋◌, Term, any_type, listed_types, All, ◌▹◌}
use Rattle.snesl.specs.Records.{var, const, truth, iota, operation, negation, sum, single, letting, eaching, guarding, head_at}
use Rattle.snesl.specs.Checking.{Name, find, found, as_scalar, as_int, as_bool, NamedListing, listed_any, any_names, any_pointers, as_ints, as_sequence, sequence, NamedScalars, listed_scalars, listed_names, pointers}

-- At byte k of t, with so many nestings left, stands e over these names; behind it, at `next`, whatever follows.
pub data Formed (t : List ℕ) : (levels k : ℕ) (Γ : List ValueType) → All Name Γ → (τ : ValueType) → Term Γ τ → (next : ℕ) → Type 0 where
  formed-var : {l k : ℕ} {τ : ValueType} {Γ : List ValueType} {scope : All Name Γ} {x : Variable} {v : Γ ∋ τ}
      → head_at t k ≡ single (var k x) 3
      → find x scope ≡ found τ v
      → Formed t (suc l) k Γ scope τ (terms.var v) (k + 3)
  formed-bind : {l k k₁ k₂ : ℕ} {υ τ : ValueType} {Γ : List ValueType} {scope : All Name Γ} {x : Variable} {e₁ : Term Γ υ} {e₂ : Term (υ ∷ Γ) τ}
      → head_at t k ≡ letting x
      → Formed t l (k + 3) Γ scope υ e₁ k₁
      → Formed t l k₁ (υ ∷ Γ) (x ▹ scope) τ e₂ k₂
      → Formed t (suc l) k Γ scope τ (terms.bind e₁ e₂) k₂
  formed-const : {l k : ℕ} {Γ : List ValueType} {scope : All Name Γ} {z : ℤ}
      → head_at t k ≡ single (const k z) 6
      → Formed t (suc l) k Γ scope int (terms.const base.Int z) (k + 6)
  formed-truth : {l k : ℕ} {Γ : List ValueType} {scope : All Name Γ} {c : Bool}
      → head_at t k ≡ single (truth k c) 3
      → Formed t (suc l) k Γ scope bool (terms.const base.Bool c) (k + 3)
  formed-iota : {l k : ℕ} {Γ : List ValueType} {scope : All Name Γ} {x : Variable} {v : Γ ∋ int}
      → head_at t k ≡ single (iota k x) 3
      → as_int (as_scalar (find x scope)) ≡ some v
      → Formed t (suc l) k Γ scope (braces int) (terms.iota v) (k + 3)
  formed-operation : {l k : ℕ} {Γ : List ValueType} {scope : All Name Γ} {o : Operation} {x y : Variable} {v w : Γ ∋ int}
      → head_at t k ≡ single (operation k o x y) 4
      → as_int (as_scalar (find x scope)) ≡ some v
      → as_int (as_scalar (find y scope)) ≡ some w
      → Formed t (suc l) k Γ scope (scalar (result_of o)) (terms.operation o v w) (k + 4)
  formed-negation : {l k : ℕ} {Γ : List ValueType} {scope : All Name Γ} {x : Variable} {v : Γ ∋ bool}
      → head_at t k ≡ single (negation k x) 3
      → as_bool (as_scalar (find x scope)) ≡ some v
      → Formed t (suc l) k Γ scope bool (terms.negation v) (k + 3)
  formed-sum : {l k : ℕ} {Γ : List ValueType} {scope : All Name Γ} {x : Variable} {v : Γ ∋ braces int}
      → head_at t k ≡ single (sum k x) 3
      → as_ints (as_sequence (find x scope)) ≡ some v
      → Formed t (suc l) k Γ scope int (terms.sum v) (k + 3)
  formed-each : {l k b next : ℕ} {υ τ : ValueType} {Γ : List ValueType} {scope : All Name Γ} {x y : Variable} {us : List Variable} {v : Γ ∋ braces υ}
      {ls : NamedScalars Γ} {e : Term (υ ∷ listed_types (any_type (pointers ls))) τ}
      → head_at t k ≡ eaching x y us b
      → as_sequence (find y scope) ≡ sequence υ v
      → listed_scalars scope us ≡ some ls
      → Formed t l (k + b) (υ ∷ listed_types (any_type (pointers ls))) (x ▹ listed_names ls) τ e next
      → ltb (depth_of τ) most_depth ≡ true
      → Formed t (suc l) k Γ scope (braces τ) (terms.each v (pointers ls) e) next
  formed-guard : {l k b next : ℕ} {τ : ValueType} {Γ : List ValueType} {scope : All Name Γ} {g : Variable} {us : List Variable} {v : Γ ∋ bool}
      {ls : NamedListing Γ} {e : Term (listed_types (any_pointers ls)) τ}
      → head_at t k ≡ guarding g us b
      → as_bool (as_scalar (find g scope)) ≡ some v
      → listed_any scope us ≡ some ls
      → Formed t l (k + b) (listed_types (any_pointers ls)) (any_names ls) τ e next
      → ltb (depth_of τ) most_depth ≡ true
      → Formed t (suc l) k Γ scope (braces τ) (terms.guard v (any_pointers ls) e) next
