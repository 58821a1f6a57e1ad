-- What `head_at` answers of a record's head: the head's fields without its offset and its bytes, which the caller has; a record that is cut or over a
-- limit is refused at its own place.
use Rattle.std.specs.Prelude.{ℕ, ◌+◌, Bool, true, false, ◌&&◌, List, eqb, leb, length, Result, Ok, Err}
use Rattle.snesl.specs.declared.refusal.Refusal.{Refusal}
use Rattle.snesl.specs.declared.refusal.Refusal.TheVariants.{NoRecord, OverLimit}
use Rattle.snesl.specs.Limits.{most_listed}
use Rattle.snesl.specs.Records as records
use Rattle.snesl.specs.Records.{byte_at, variables_ok}
use Rattle.records.specs.declared.head.Head.{Head}
use Rattle.records.specs.declared.head.Head.TheVariants.{Var, Let, Const, Truth, Iota, Operation, Negation, Sum, Each, Guard}
use Rattle.records.specs.declared.marks.Form.{Form}
use Rattle.records.specs.declared.marks.Form.TheVariants as form

-- a record with no expression behind it
abbrev pub head_of_single : (k : ℕ) → records.Raw → Result Head Refusal
head_of_single k (records.var p x) = Ok (Var x)
head_of_single k (records.bind p x e f) = Err (NoRecord k)
head_of_single k (records.const p z) = Ok (Const z)
head_of_single k (records.truth p c) = Ok (Truth c)
head_of_single k (records.iota p x) = Ok (Iota x)
head_of_single k (records.operation p o x y) = Ok (Operation o x y)
head_of_single k (records.negation p x) = Ok (Negation x)
head_of_single k (records.sum p x) = Ok (Sum x)
head_of_single k (records.each p x y us e) = Err (NoRecord k)
head_of_single k (records.guard p g us e) = Err (NoRecord k)

abbrev pub head_of : (k : ℕ) → records.Head → Result Head Refusal
head_of k records.absent = Err (NoRecord k)
head_of k records.over = Err (OverLimit k)
head_of k (records.single e b) = head_of_single k e
head_of k (records.letting x) = Ok (Let x)
head_of k (records.eaching x y us b) = Ok (Each x y (length us))
head_of k (records.guarding g us b) = Ok (Guard g (length us))

-- a record of so many bytes at k: is it whole, and then within its limits? (snesl's `whole`, without the head)
abbrev pub shaped : List ℕ → (k bytes : ℕ) → Bool → Result Unit Refusal
shaped t k bytes ok =
    elim (leb (k + bytes) (length t)) [ true ↦ elim ok [ true ↦ Ok tt | false ↦ Err (OverLimit k) ] | false ↦ Err (NoRecord k) ]

-- KB and 0 or 1 (snesl's `truth_head`)
abbrev pub truth_shaped : List ℕ → ℕ → Result Unit Refusal
truth_shaped t k =
    elim (eqb (byte_at t (k + 2)) 0)
    [ true ↦ shaped t k 3 true | false ↦ elim (eqb (byte_at t (k + 2)) 1) [ true ↦ shaped t k 3 true | false ↦ Err (NoRecord k) ] ]

-- c variables, then a using list: c is 2 for an EA and 1 for a GU (snesl's `each_head` and `guard_head`)
abbrev pub list_ok : List ℕ → (k c j : ℕ) → Bool
list_ok t k c j = variables_ok t (k + 2) c && leb j most_listed && variables_ok t (k + (3 + c)) j

abbrev pub list_shaped : List ℕ → (k c : ℕ) → Result Unit Refusal
list_shaped t k c =
    elim (leb (k + (3 + c)) (length t))
    [ true ↦ shaped t k (3 + c + byte_at t (k + (2 + c))) (list_ok t k c (byte_at t (k + (2 + c)))) | false ↦ Err (NoRecord k) ]

-- the record at k, if its mark is this form's
abbrev pub shape_of : List ℕ → (k : ℕ) → Form → Result Unit Refusal
shape_of t k form.Var = shaped t k 3 (variables_ok t (k + 2) 1)
shape_of t k form.Let = shaped t k 3 (variables_ok t (k + 2) 1)
shape_of t k form.Const = shaped t k 6 true
shape_of t k form.Truth = truth_shaped t k
shape_of t k form.Iota = shaped t k 3 (variables_ok t (k + 2) 1)
shape_of t k (form.Operation o) = shaped t k 4 (variables_ok t (k + 2) 2)
shape_of t k form.Negation = shaped t k 3 (variables_ok t (k + 2) 1)
shape_of t k form.Sum = shaped t k 3 (variables_ok t (k + 2) 1)
shape_of t k form.Each = list_shaped t k 2
shape_of t k form.Guard = list_shaped t k 1
