-- What the head of a record at a position can be, with what is then known of the bytes: one case for each mark. `head_at` meets its contract by it, and
-- whoever calls `head_at` learns from the fields that came out which head stands there.
use Prim.Native.Nat.{ℕ, ◌+◌, ◌≤◌, ◌<◌}
use mathlib.Core.Bool.{Bool, true, false, ◌&&◌}
use mathlib.Core.List.{List}
use mathlib.Core.Logic.{◌⊎◌, inl, inr}
use mathlib.Core.Option.{Option, some}
use mathlib.Core.Option as option
use mathlib.Core.Path.{◌≡◌, refl, sym, ap, subst, ◌∙◌}
use native.Mathlib.Omega.{arith}
use lib.Dec.{eqb, leb}
use lib.ListN.{length}
use borrow.Author.Tests.{eqb-true, leb-true, le-leb, lt-leb}
use Rattle.laws.proofs.Options.{none-some}
use Rattle.std.specs.Prelude.{Result, Ok, Err}
use Rattle.snesl.specs.declared.code.Base.{Base}
use Rattle.snesl.specs.declared.code.Base.TheVariants as base
use Rattle.snesl.specs.declared.code.Operation as code
use Rattle.snesl.specs.declared.refusal.Refusal.{Refusal}
use Rattle.snesl.specs.declared.refusal.Refusal.TheVariants.{NoRecord, OverLimit}
use Rattle.snesl.specs.Limits.{most_listed}
use Rattle.snesl.specs.Records as records
use Rattle.snesl.specs.Records.{byte_at, mark_at, mark_va, mark_in, mark_ib, mark_vr, mark_lt, mark_kn, mark_kb, mark_io, mark_pl, mark_le, mark_eq, mark_no, mark_sm, mark_ea, mark_gu}
use Rattle.snesl.specs.Records.{variable_at, variables_at, variables_ok, int_at, input_base, whole, each_head, guard_head, truth_head, operation_of, operation_head, head_at}
use Rattle.snesl.specs.Records.{absent, over, single, letting, eaching, guarding}
use Rattle.records.specs.declared.head.Head.{Head}
use Rattle.records.specs.declared.head.Head.TheVariants.{Var, Let, Const, Truth, Iota, Operation, Negation, Sum, Each, Guard}
use Rattle.records.specs.declared.marks.Form.{Form}
use Rattle.records.specs.declared.marks.Form.TheVariants as form
use Rattle.records.specs.declared.marks.Mark.{Mark}
use Rattle.records.specs.declared.marks.Mark.TheVariants as mark
use Rattle.records.specs.declared.marks.UnknownMark.{UnknownMark}
use Rattle.records.specs.Marks.{operation_form, expression_mark, form_of, mark_by, mark_of, marks, Marks}
use Rattle.records.specs.Heads.{head_of, shaped, truth_shaped, list_ok, list_shaped, shape_of}
use Rattle.records.proofs.Variables.{length-variables}

-- the mark, the shape and the head of the record at k of t
pub data Reading (t : List ℕ) (k : ℕ) : ℕ → Result Unit Refusal → records.Head → Type 0 where
  none : {m : ℕ} → Reading t k m (Err (NoRecord k)) absent
  beyond : {m : ℕ} → Reading t k m (Err (OverLimit k)) over
  a_var : {m : ℕ} → m ≡ mark_vr → k + 3 ≤ length t → Reading t k m (Ok tt) (single (records.var k (variable_at t (k + 2))) 3)
  a_let : {m : ℕ} → m ≡ mark_lt → k + 3 ≤ length t → Reading t k m (Ok tt) (letting (variable_at t (k + 2)))
  a_const : {m : ℕ} → m ≡ mark_kn → k + 6 ≤ length t → Reading t k m (Ok tt) (single (records.const k (int_at t (k + 2))) 6)
  a_truth :
      {m : ℕ} → m ≡ mark_kb → (c : Bool) → eqb (byte_at t (k + 2)) 1 ≡ c → k + 3 ≤ length t
      → Reading t k m (Ok tt) (single (records.truth k c) 3)
  an_iota : {m : ℕ} → m ≡ mark_io → k + 3 ≤ length t → Reading t k m (Ok tt) (single (records.iota k (variable_at t (k + 2))) 3)
  an_operation :
      {m : ℕ} (o : code.Operation) → operation_of m ≡ some o → k + 4 ≤ length t
      → Reading t k m (Ok tt) (single (records.operation k o (variable_at t (k + 2)) (variable_at t (k + 3))) 4)
  a_negation : {m : ℕ} → m ≡ mark_no → k + 3 ≤ length t → Reading t k m (Ok tt) (single (records.negation k (variable_at t (k + 2))) 3)
  a_sum : {m : ℕ} → m ≡ mark_sm → k + 3 ≤ length t → Reading t k m (Ok tt) (single (records.sum k (variable_at t (k + 2))) 3)
  an_each :
      {m : ℕ} → m ≡ mark_ea → (j : ℕ) → j ≡ byte_at t (k + 4) → k + (5 + j) ≤ length t → j ≤ most_listed
      → Reading t k m (Ok tt) (eaching (variable_at t (k + 2)) (variable_at t (k + 3)) (variables_at t (k + 5) j) (5 + j))
  a_guard :
      {m : ℕ} → m ≡ mark_gu → (j : ℕ) → j ≡ byte_at t (k + 3) → k + (4 + j) ≤ length t → j ≤ most_listed
      → Reading t k m (Ok tt) (guarding (variable_at t (k + 2)) (variables_at t (k + 4) j) (4 + j))

pub and_first : (a b : Bool) → (a && b) ≡ true → a ≡ true
and_first true b e = refl
and_first false b e = e

pub and_second : (a b : Bool) → (a && b) ≡ true → b ≡ true
and_second true b e = e
and_second false b e = cc

-- what the conversion of a mark says of its form
abbrev Marked : Result Mark UnknownMark → Option Form → Type 0
Marked (Ok (mark.Expression f)) o = o ≡ some f
Marked (Ok (mark.Input b)) o = o ≡ option.none
Marked (Ok mark.Text) o = o ≡ option.none
Marked (Err e) o = o ≡ option.none

-- an input's mark starts no expression
input-form : (m : ℕ) (b : Base) → input_base m ≡ some b → form_of m ≡ option.none
input-form m b e = go (eqb m mark_in) refl (eqb m mark_ib) refl e
  where
    go :
        (i : Bool) → eqb m mark_in ≡ i → (j : Bool) → eqb m mark_ib ≡ j
        → elim i [ true ↦ some base.Int | false ↦ elim j [ true ↦ some base.Bool | false ↦ option.none ] ] ≡ some b
        → form_of m ≡ option.none
    go true p j q e = ap form_of (eqb-true m mark_in p)
    go false p true q e = ap form_of (eqb-true m mark_ib q)
    go false p false q e = none-some e

marked : (m : ℕ) → Marked (marks m (mark_of m)) (form_of m)
marked m = go (input_base m) refl (eqb m mark_va) refl
  where
    last : (o : Option Form) → Marked (marks m (expression_mark o)) o
    last (some f) = refl
    last option.none = refl

    go :
        (o : Option Base) → input_base m ≡ o → (a : Bool) → eqb m mark_va ≡ a
        → Marked (marks m (mark_by o (elim a [ true ↦ some mark.Text | false ↦ expression_mark (form_of m) ]))) (form_of m)
    go (some b) e a q = input-form m b e
    go option.none e true q = ap form_of (eqb-true m mark_va q)
    go option.none e false q = last (form_of m)

pub form-is : {m : ℕ} {r s : Result Mark UnknownMark} → Marks m r → r ≡ s → Marked s (form_of m)
form-is {m} p e = subst (λ z. Marked z (form_of m)) (sym p.is ∙ e) (marked m)

-- an operation's mark starts an operation
operation-form : (m : ℕ) (o : code.Operation) → operation_of m ≡ some o → form_of m ≡ some (form.Operation o)
operation-form m o e = go (eqb m mark_pl) refl (eqb m mark_le) refl (eqb m mark_eq) refl
  where
    starts : (n : ℕ) → m ≡ n → form_of n ≡ operation_form (operation_of n) → form_of m ≡ some (form.Operation o)
    starts n q f = ap form_of q ∙ (f ∙ (ap (λ z. operation_form (operation_of z)) (sym q) ∙ ap operation_form e))

    go :
        (a : Bool) → eqb m mark_pl ≡ a → (b : Bool) → eqb m mark_le ≡ b → (c : Bool) → eqb m mark_eq ≡ c → form_of m ≡ some (form.Operation o)
    go true p b q c r = starts mark_pl (eqb-true m mark_pl p) refl
    go false p true q c r = starts mark_le (eqb-true m mark_le q) refl
    go false p false q true r = starts mark_eq (eqb-true m mark_eq r) refl
    go false p false q false r = let n : operation_of m ≡ option.none = rw (p, q, r, operation_of) in none-some (sym n ∙ e)

module _ (t : List ℕ) (k : ℕ) where
  by_size :
      (m b : ℕ) (ok : Bool) (h : records.Head) → (k + b ≤ length t → ok ≡ true → Reading t k m (Ok tt) h)
      → Reading t k m (shaped t k b ok) (whole t k b ok h)
  by_size m b ok h f = go (leb (k + b) (length t)) refl ok refl
    where
      go :
          (l : Bool) → leb (k + b) (length t) ≡ l → (o : Bool) → ok ≡ o
          → Reading t k m (elim l [ true ↦ elim o [ true ↦ Ok tt | false ↦ Err (OverLimit k) ] | false ↦ Err (NoRecord k) ])
          (elim l [ true ↦ elim o [ true ↦ h | false ↦ over ] | false ↦ absent ])
      go true e true q = f (leb-true (k + b) (length t) e) q
      go true e false q = beyond
      go false e o q = none

  -- a record with c variables and a using list: what it holds if it is whole and within its limits
  by-list :
      (m c : ℕ) (h : records.Head)
      → (k + (3 + c + byte_at t (k + (2 + c))) ≤ length t → byte_at t (k + (2 + c)) ≤ most_listed → Reading t k m (Ok tt) h)
      → Reading t k m (list_shaped t k c)
      (elim (leb (k + (3 + c)) (length t)) [
        | true ↦ whole t k (3 + c + byte_at t (k + (2 + c))) (list_ok t k c (byte_at t (k + (2 + c)))) h
        | false ↦ absent
      ])
  by-list m c h f = go (leb (k + (3 + c)) (length t))
    where
      go :
          (l : Bool)
          → Reading t k m (elim l [ true ↦ shaped t k (3 + c + byte_at t (k + (2 + c))) (list_ok t k c (byte_at t (k + (2 + c)))) | false ↦ Err (NoRecord k) ])
          (elim l [
            | true ↦ whole t k (3 + c + byte_at t (k + (2 + c))) (list_ok t k c (byte_at t (k + (2 + c)))) h
            | false ↦ absent
          ])
      go true =
          by_size m (3 + c + byte_at t (k + (2 + c))) (list_ok t k c (byte_at t (k + (2 + c)))) h
          (λ l o.
          f l
          (leb-true (byte_at t (k + (2 + c))) most_listed
          (and_second (variables_ok t (k + 2) c) _ (and_first _ (variables_ok t (k + (3 + c)) (byte_at t (k + (2 + c)))) o))))
      go false = none

  at_each : (m : ℕ) → m ≡ mark_ea → Reading t k m (list_shaped t k 2) (each_head t k)
  at_each m q = by-list m 2 _ (λ l f. an_each q (byte_at t (k + 4)) refl l f)

  at-guard : (m : ℕ) → m ≡ mark_gu → Reading t k m (list_shaped t k 1) (guard_head t k)
  at-guard m q = by-list m 1 _ (λ l f. a_guard q (byte_at t (k + 3)) refl l f)

  at-truth : (m : ℕ) → m ≡ mark_kb → Reading t k m (truth_shaped t k) (truth_head t k)
  at-truth m q = go (eqb (byte_at t (k + 2)) 0) refl (eqb (byte_at t (k + 2)) 1) refl
    where
      go :
          (a : Bool) → eqb (byte_at t (k + 2)) 0 ≡ a → (b : Bool) → eqb (byte_at t (k + 2)) 1 ≡ b
          → Reading t k m (elim a [ true ↦ shaped t k 3 true | false ↦ elim b [ true ↦ shaped t k 3 true | false ↦ Err (NoRecord k) ] ])
          (elim a [
            | true ↦ whole t k 3 true (single (records.truth k false) 3)
            | false ↦ elim b [ true ↦ whole t k 3 true (single (records.truth k true) 3) | false ↦ absent ]
          ])
      go true e b f =
          by_size m 3 true _ (λ l o. a_truth q false (ap (λ z. eqb z 1) (eqb-true (byte_at t (k + 2)) 0 e)) l)
      go false e true f = by_size m 3 true _ (λ l o. a_truth q true f l)
      go false e false f = none

  -- a record with c variables that fit, and then a using list of j more, by the list's two tests
  module _ (c j : ℕ) (q : j ≡ byte_at t (k + (2 + c))) where
    abbrev list_by : ℕ → Result Unit Refusal
    list_by n = elim (leb (k + (3 + c)) (length t)) [ true ↦ shaped t k (3 + c + n) (list_ok t k c n) | false ↦ Err (NoRecord k) ]

    module _ {u : Unit {0}} (h : leb (k + (3 + c)) (length t) ≡ true) (s : shaped t k (3 + c + j) (variables_ok t (k + 2) c) ≡ Ok u) where
      sized : (leb (k + (3 + c + j)) (length t) ≡ true) × (variables_ok t (k + 2) c ≡ true)
      sized = go (leb (k + (3 + c + j)) (length t)) refl (variables_ok t (k + 2) c) refl s
        where
          go :
              (a : Bool) → leb (k + (3 + c + j)) (length t) ≡ a → (b : Bool) → variables_ok t (k + 2) c ≡ b
              → ◌≡◌ {A = Result Unit Refusal} (elim a [ true ↦ elim b [ true ↦ Ok tt | false ↦ Err (OverLimit k) ] | false ↦ Err (NoRecord k) ]) (Ok u)
              → (leb (k + (3 + c + j)) (length t) ≡ true) × (variables_ok t (k + 2) c ≡ true)
          go true p true q e = (p, q)
          go true p false q e = cc
          go false p b q e = cc

      pub list-within : k + (3 + c) + j ≤ length t
      list-within = let l = leb-true (k + (3 + c + j)) (length t) sized.0 in omega arith

      pub list-many : most_listed < j → Err (OverLimit k) ≡ list_shaped t k c
      list-many f = many ∙ ap list_by q
        where
          many : Err (OverLimit k) ≡ list_by j
          many = rw (h, sized.0, sized.1, lt-leb j most_listed f, list_by, shaped)

      module _ (f : j ≤ most_listed) where
        by-names : (b : Bool) → variables_ok t (k + (3 + c)) j ≡ b → elim b [ true ↦ Ok tt | false ↦ Err (OverLimit k) ] ≡ list_by j
        by-names b g = rw (h, sized.0, sized.1, le-leb j most_listed f, g, list_by, shaped)

        pub list-names : variables_ok t (k + (3 + c)) j ≡ false → Err (OverLimit k) ≡ list_shaped t k c
        list-names g = by-names false g ∙ ap list_by q

        pub list-fits : variables_ok t (k + (3 + c)) j ≡ true → Ok tt ≡ list_shaped t k c
        list-fits g = by-names true g ∙ ap list_by q

  -- the shape of what stands at k, by its form
  abbrev pub shape_by : Option Form → Result Unit Refusal
  shape_by (some f) = shape_of t k f
  shape_by option.none = Err (NoRecord k)

  at-operation : (m : ℕ) (o : Option code.Operation) → operation_of m ≡ o → Reading t k m (shape_by (operation_form o)) (operation_head t k o)
  at-operation m (some o) e = by_size m 4 (variables_ok t (k + 2) 2) _ (λ l f. an_operation o e l)
  at-operation m option.none e = none

  -- what stands at k
  pub reading : Reading t k (mark_at t k) (shape_by (form_of (mark_at t k))) (head_at t k)
  unfolding head_at
  reading =
      go
      (eqb (mark_at t k) mark_vr) refl
      (eqb (mark_at t k) mark_lt) refl
      (eqb (mark_at t k) mark_kn) refl
      (eqb (mark_at t k) mark_kb) refl
      (eqb (mark_at t k) mark_io) refl
      (eqb (mark_at t k) mark_no) refl
      (eqb (mark_at t k) mark_sm) refl
      (eqb (mark_at t k) mark_ea) refl
      (eqb (mark_at t k) mark_gu) refl
    where
      go :
          (b0 : Bool) → eqb (mark_at t k) mark_vr ≡ b0
          → (b1 : Bool) → eqb (mark_at t k) mark_lt ≡ b1
          → (b2 : Bool) → eqb (mark_at t k) mark_kn ≡ b2
          → (b3 : Bool) → eqb (mark_at t k) mark_kb ≡ b3
          → (b4 : Bool) → eqb (mark_at t k) mark_io ≡ b4
          → (b5 : Bool) → eqb (mark_at t k) mark_no ≡ b5
          → (b6 : Bool) → eqb (mark_at t k) mark_sm ≡ b6
          → (b7 : Bool) → eqb (mark_at t k) mark_ea ≡ b7
          → (b8 : Bool) → eqb (mark_at t k) mark_gu ≡ b8
          → Reading t k (mark_at t k) (shape_by (form_of (mark_at t k))) (head_at t k)
      go true e0 b1 e1 b2 e2 b3 e3 b4 e4 b5 e5 b6 e6 b7 e7 b8 e8 =
          rw (e0, form_of, head_at)
          (by_size (mark_at t k) 3 (variables_ok t (k + 2) 1) _ (λ h o. a_var (eqb-true (mark_at t k) mark_vr e0) h))
      go false e0 true e1 b2 e2 b3 e3 b4 e4 b5 e5 b6 e6 b7 e7 b8 e8 =
          rw (e0, e1, form_of, head_at)
          (by_size (mark_at t k) 3 (variables_ok t (k + 2) 1) _ (λ h o. a_let (eqb-true (mark_at t k) mark_lt e1) h))
      go false e0 false e1 true e2 b3 e3 b4 e4 b5 e5 b6 e6 b7 e7 b8 e8 =
          rw (e0, e1, e2, form_of, head_at)
          (by_size (mark_at t k) 6 true _ (λ h o. a_const (eqb-true (mark_at t k) mark_kn e2) h))
      go false e0 false e1 false e2 true e3 b4 e4 b5 e5 b6 e6 b7 e7 b8 e8 =
          rw (e0, e1, e2, e3, form_of, head_at)
          (at-truth (mark_at t k) (eqb-true (mark_at t k) mark_kb e3))
      go false e0 false e1 false e2 false e3 true e4 b5 e5 b6 e6 b7 e7 b8 e8 =
          rw (e0, e1, e2, e3, e4, form_of, head_at)
          (by_size (mark_at t k) 3 (variables_ok t (k + 2) 1) _ (λ h o. an_iota (eqb-true (mark_at t k) mark_io e4) h))
      go false e0 false e1 false e2 false e3 false e4 true e5 b6 e6 b7 e7 b8 e8 =
          rw (e0, e1, e2, e3, e4, e5, form_of, head_at)
          (by_size (mark_at t k) 3 (variables_ok t (k + 2) 1) _ (λ h o. a_negation (eqb-true (mark_at t k) mark_no e5) h))
      go false e0 false e1 false e2 false e3 false e4 false e5 true e6 b7 e7 b8 e8 =
          rw (e0, e1, e2, e3, e4, e5, e6, form_of, head_at)
          (by_size (mark_at t k) 3 (variables_ok t (k + 2) 1) _ (λ h o. a_sum (eqb-true (mark_at t k) mark_sm e6) h))
      go false e0 false e1 false e2 false e3 false e4 false e5 false e6 true e7 b8 e8 =
          rw (e0, e1, e2, e3, e4, e5, e6, e7, form_of, head_at)
          (at_each (mark_at t k) (eqb-true (mark_at t k) mark_ea e7))
      go false e0 false e1 false e2 false e3 false e4 false e5 false e6 false e7 true e8 =
          rw (e0, e1, e2, e3, e4, e5, e6, e7, e8, form_of, head_at)
          (at-guard (mark_at t k) (eqb-true (mark_at t k) mark_gu e8))
      go false e0 false e1 false e2 false e3 false e4 false e5 false e6 false e7 false e8 =
          rw (e0, e1, e2, e3, e4, e5, e6, e7, e8, form_of, head_at)
          (at-operation (mark_at t k) (operation_of (mark_at t k)) refl)

  -- what a record's shape says of its head
  abbrev Kind : Result Unit Refusal → records.Head → Type 0
  Kind (Ok u) h = Unit {0}
  Kind (Err r) h = Err r ≡ head_of k h

  kind : {m : ℕ} {s : Result Unit Refusal} {h : records.Head} → Reading t k m s h → Kind s h
  kind none = refl
  kind beyond = refl
  kind (a_var q l) = tt
  kind (a_let q l) = tt
  kind (a_const q l) = tt
  kind (a_truth q c e l) = tt
  kind (an_iota q l) = tt
  kind (an_operation o e l) = tt
  kind (a_negation q l) = tt
  kind (a_sum q l) = tt
  kind (an_each q j e l f) = tt
  kind (a_guard q j e l f) = tt

  -- what a form promises of a whole record: its fields, and how many bytes it has at least
  abbrev pub promised : Form → Head
  promised form.Var = Var (variable_at t (k + 2))
  promised form.Let = Let (variable_at t (k + 2))
  promised form.Const = Const (int_at t (k + 2))
  promised form.Truth = Truth (eqb (byte_at t (k + 2)) 1)
  promised form.Iota = Iota (variable_at t (k + 2))
  promised (form.Operation o) = Operation o (variable_at t (k + 2)) (variable_at t (k + 3))
  promised form.Negation = Negation (variable_at t (k + 2))
  promised form.Sum = Sum (variable_at t (k + 2))
  promised form.Each = Each (variable_at t (k + 2)) (variable_at t (k + 3)) (byte_at t (k + 4))
  promised form.Guard = Guard (variable_at t (k + 2)) (byte_at t (k + 3))

  abbrev Kept : Option Form → records.Head → Type 0
  Kept (some f) h = Ok (promised f) ≡ head_of k h
  Kept option.none h = Unit {0}

  keeps : {m n : ℕ} (h : records.Head) → m ≡ n → Kept (form_of n) h → Kept (form_of m) h
  keeps h q = subst (λ z. Kept (form_of z) h) (sym q)

  kept : {m : ℕ} {h : records.Head} → Reading t k m (Ok tt) h → Kept (form_of m) h
  kept {h = h} (a_var q l) = keeps h q refl
  kept {h = h} (a_let q l) = keeps h q refl
  kept {h = h} (a_const q l) = keeps h q refl
  kept {h = h} (a_truth q c e l) = keeps h q (ap (λ z. Ok (Truth z)) e)
  kept {h = h} (an_iota q l) = keeps h q refl
  kept {m = m} {h = h} (an_operation o e l) = subst (λ z. Kept z h) (sym (operation-form m o e)) refl
  kept {h = h} (a_negation q l) = keeps h q refl
  kept {h = h} (a_sum q l) = keeps h q refl
  kept {h = h} (an_each q j e l f) =
      keeps h q (ap (λ z. Ok (Each (variable_at t (k + 2)) (variable_at t (k + 3)) z)) (sym e ∙ sym (length-variables t (k + 5) j)))
  kept {h = h} (a_guard q j e l f) =
      keeps h q (ap (λ z. Ok (Guard (variable_at t (k + 2)) z)) (sym e ∙ sym (length-variables t (k + 4) j)))

  module _ {m : ℕ} (p : m ≡ mark_at t k) where
    reading-of : (o : Option Form) → form_of m ≡ o → (s : Result Unit Refusal) → s ≡ shape_by o → Reading t k m s (head_at t k)
    reading-of o e s q =
        subst (λ z. Reading t k m z (head_at t k)) (sym (q ∙ ap shape_by (sym e)))
        (subst (λ z. Reading t k z (shape_by (form_of z)) (head_at t k)) (sym p) reading)

    -- no expression's mark, or a shape that is refused
    pub no-form : form_of m ≡ option.none → Err (NoRecord k) ≡ head_of k (head_at t k)
    no-form e = kind (reading-of option.none e (Err (NoRecord k)) refl)

    pub misshapen : (f : Form) → form_of m ≡ some f → (r : Refusal) → Err r ≡ shape_of t k f → Err r ≡ head_of k (head_at t k)
    misshapen f e r q = kind (reading-of (some f) e (Err r) q)

  -- a record that is whole and within its limits, by its form
  pub fitting :
      {f g : Form} → f ≡ g → form_of (mark_at t k) ≡ some f → shape_of t k f ≡ Ok tt → Ok (promised g) ≡ head_of k (head_at t k)
  fitting {f} {g} p e q =
      ap (λ z. Ok (promised z)) (sym p) ∙ subst (λ z. Kept z (head_at t k)) e (kept (reading-of refl (some f) e (Ok tt) (sym q)))

  -- what the fields of a head say of it, for whoever called `head_at`
  abbrev pub Known : Head → records.Head → Type 0
  Known (Var x) h = (h ≡ single (records.var k x) 3) × (k + 3 ≤ length t)
  Known (Let x) h = (h ≡ letting x) × (k + 3 ≤ length t)
  Known (Const z) h = (h ≡ single (records.const k z) 6) × (k + 6 ≤ length t)
  Known (Truth c) h = (h ≡ single (records.truth k c) 3) × (k + 3 ≤ length t)
  Known (Iota x) h = (h ≡ single (records.iota k x) 3) × (k + 3 ≤ length t)
  Known (Operation o x y) h = (h ≡ single (records.operation k o x y) 4) × (k + 4 ≤ length t)
  Known (Negation x) h = (h ≡ single (records.negation k x) 3) × (k + 3 ≤ length t)
  Known (Sum x) h = (h ≡ single (records.sum k x) 3) × (k + 3 ≤ length t)
  Known (Each x y j) h = (h ≡ eaching x y (variables_at t (k + 5) j) (5 + j)) × (k + (5 + j) ≤ length t) × (j ≤ most_listed)
  Known (Guard g j) h = (h ≡ guarding g (variables_at t (k + 4) j) (4 + j)) × (k + (4 + j) ≤ length t) × (j ≤ most_listed)

  -- and what a refusal says
  abbrev pub Unknown : Refusal → records.Head → Type 0
  Unknown r h = ((r ≡ NoRecord k) × (h ≡ absent)) ⊎ ((r ≡ OverLimit k) × (h ≡ over))

  abbrev Told : Result Head Refusal → records.Head → Type 0
  Told (Ok f) h = Known f h
  Told (Err r) h = Unknown r h

  known : {m : ℕ} {s : Result Unit Refusal} {h : records.Head} → Reading t k m s h → Told (head_of k h) h
  known none = inl (refl, refl)
  known beyond = inr (refl, refl)
  known (a_var q l) = (refl, l)
  known (a_let q l) = (refl, l)
  known (a_const q l) = (refl, l)
  known (a_truth q c e l) = (refl, l)
  known (an_iota q l) = (refl, l)
  known (an_operation o e l) = (refl, l)
  known (a_negation q l) = (refl, l)
  known (a_sum q l) = (refl, l)
  known (an_each q j e l f) =
      subst
      (λ n.
      Known (Each (variable_at t (k + 2)) (variable_at t (k + 3)) n)
      (eaching (variable_at t (k + 2)) (variable_at t (k + 3)) (variables_at t (k + 5) j) (5 + j)))
      (sym (length-variables t (k + 5) j)) (refl, l, f)
  known (a_guard q j e l f) =
      subst
      (λ n. Known (Guard (variable_at t (k + 2)) n) (guarding (variable_at t (k + 2)) (variables_at t (k + 4) j) (4 + j)))
      (sym (length-variables t (k + 4) j)) (refl, l, f)

  -- at each constructor r of the code's heads this says which head stands at k
  pub told : (r : Head) → Ok r ≡ head_of k (head_at t k) → Known r (head_at t k)
  told r e = subst (λ z. Told z (head_at t k)) (sym e) (known reading)

  pub untold : (r : Refusal) → Err r ≡ head_of k (head_at t k) → Unknown r (head_at t k)
  untold r e = subst (λ z. Told z (head_at t k)) (sym e) (known reading)
