-- A comprehension's body sees types within the limit, and its using list is short.
use Prim.Native.Nat.{ℕ, ◌+◌, ◌≤◌}
use native.Mathlib.Omega.{arith}
use mathlib.Core.List.{List, ◌∷◌}
use mathlib.Core.Path.{◌≡◌, sym, ap}
use lib.ListN.{length}
use Rattle.snesl.specs.declared.code.Variable.{Variable}
use Rattle.snesl.specs.Limits.{most_listed}
use Rattle.snesl.specs.Values.{ValueType, braces}
use Rattle.snesl.specs.Terms.{◌∋◌, Scalars, any_type, listed_types}
use Rattle.snesl.specs.Records.{head_at, eaching, guarding}
use Rattle.records.specs.declared.head.Head.TheVariants.{Each, Guard}
use Rattle.records.specs.Heads.{head_of}
use Rattle.records.proofs.Heads.{told}
use Rattle.leaves.specs.Places.{Shallow, shallow-more}
use Rattle.leaves.proofs.Places.{lookup-shallow}
use Rattle.runner.proofs.Measures.{scalars-shallow}

pub shallow-body : {υ : ValueType} {Γ : List ValueType} → Γ ∋ braces υ → (us : Scalars Γ) → Shallow Γ → Shallow (υ ∷ listed_types (any_type us))
shallow-body {υ} v us s = shallow-more {τ = υ} (let h = lookup-shallow v s in omega arith) (scalars-shallow us)

-- an EA's using list, and a GU's; their records have so many bytes besides
pub record Using (own : ℕ) (us : List Variable) (b : ℕ) : Type 0 where
  pub few : length us ≤ most_listed
  pub bytes : b ≡ own + length us

pub listing-few : (t : List ℕ) (k : ℕ) {x y : Variable} {us : List Variable} {b : ℕ} → head_at t k ≡ eaching x y us b → Using 5 us b
listing-few t k {x} {y} {us} {b} h =
    let n = told t k (Each x y (length us)) (ap (head_of k) (sym h)) in
    let e : b ≡ 5 + length us = cc (h, n.0) in
    record { few = n.2; bytes = e }

pub guard-few : (t : List ℕ) (k : ℕ) {g : Variable} {us : List Variable} {b : ℕ} → head_at t k ≡ guarding g us b → Using 4 us b
guard-few t k {g} {us} {b} h =
    let n = told t k (Guard g (length us)) (ap (head_of k) (sym h)) in
    let e : b ≡ 4 + length us = cc (h, n.0) in
    record { few = n.2; bytes = e }
