-- The fields of a let and of a comprehension, as they stand in the record's bytes.
use Prim.Native.Nat.{ℕ, ◌+◌}
use mathlib.Core.List.{List}
use mathlib.Core.Path.{◌≡◌, ◌∙◌}
use lib.ListN.{length}
use Rattle.std.specs.Prelude.{Ok, Result as Returned}
use Rattle.laws.proofs.Never.{never}
use Rattle.snesl.specs.declared.code.Variable.{Variable}
use Rattle.snesl.specs.declared.refusal.Refusal.{Refusal}
use Rattle.snesl.specs.Records as records
use Rattle.snesl.specs.Records.{byte_at, variable_at, variables_at, head_at}
use Rattle.records.specs.declared.head.Head.TheVariants.{Let, Each}
use Rattle.records.specs.Heads.{head_of}
use Rattle.records.proofs.Heads.{Reading, none, beyond, a_var, a_let, a_const, a_truth, an_iota, an_operation, a_negation, a_sum, an_each, a_guard, reading}
use Rattle.records.proofs.Variables.{length-variables}

pub let-field : (t : List ℕ) (k : ℕ) (x : Variable) → Ok (Let x) ≡ head_of k (head_at t k) → x ≡ variable_at t (k + 2)
let-field t k x e = go (reading t k) e
  where
    go : {m : ℕ} {s : Returned Unit Refusal} {h : records.Head} → Reading t k m s h → Ok (Let x) ≡ head_of k h → x ≡ variable_at t (k + 2)
    go none q = never (cc)
    go beyond q = never (cc)
    go (a_var p l) q = never (cc)
    go (a_let p l) q = cc
    go (a_const p l) q = never (cc)
    go (a_truth p c f l) q = never (cc)
    go (an_iota p l) q = never (cc)
    go (an_operation o p l) q = never (cc)
    go (a_negation p l) q = never (cc)
    go (a_sum p l) q = never (cc)
    go (an_each p j f l i) q = never (cc)
    go (a_guard p j f l i) q = never (cc)

pub each-fields : (t : List ℕ) (k : ℕ) (x y : Variable) (n : ℕ) → Ok (Each x y n) ≡ head_of k (head_at t k)
    → (x ≡ variable_at t (k + 2)) × (y ≡ variable_at t (k + 3)) × (n ≡ byte_at t (k + 4))
each-fields t k x y n e = go (reading t k) e
  where
    go : {m : ℕ} {s : Returned Unit Refusal} {h : records.Head} → Reading t k m s h → Ok (Each x y n) ≡ head_of k h
        → (x ≡ variable_at t (k + 2)) × (y ≡ variable_at t (k + 3)) × (n ≡ byte_at t (k + 4))
    go none q = never (cc)
    go beyond q = never (cc)
    go (a_var p l) q = never (cc)
    go (a_let p l) q = never (cc)
    go (a_const p l) q = never (cc)
    go (a_truth p c f l) q = never (cc)
    go (an_iota p l) q = never (cc)
    go (an_operation o p l) q = never (cc)
    go (a_negation p l) q = never (cc)
    go (a_sum p l) q = never (cc)
    go (an_each p j f l i) q =
        let one : x ≡ variable_at t (k + 2) = cc in
        let two : y ≡ variable_at t (k + 3) = cc in
        let three : n ≡ length (variables_at t (k + 5) j) = cc in
        (one, two, three ∙ (length-variables t (k + 5) j ∙ f))
    go (a_guard p j f l i) q = never (cc)
