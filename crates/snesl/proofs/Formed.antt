-- Where a formula is read and its expression is checked, its bytes are Formed (specs/Formed.antt): what the walks over a checked formula's bytes rest on.
use Prim.Native.Nat.{ℕ, zero, suc, ◌+◌, ◌≤◌, ◌<◌}
use native.Mathlib.Omega.{arith}
use mathlib.Core.Bool.{Bool, true, false, ◌&&◌, not}
use mathlib.Core.List.{List, [], ◌∷◌}
use mathlib.Core.Option.{Option, some, none}
use mathlib.Core.Path.{◌≡◌, refl, sym, ap, transport, ◌∙◌}
use borrow.Author.Tests.{leb-true, eqb-true}
use lib.Dec.{eqb, ltb, leb}
use lib.IntN.{ℤ}
use lib.ListN.{length}
use Rattle.snesl.specs.declared.code.Operation.{Operation}
use Rattle.snesl.specs.declared.code.Variable.{Variable}
use Rattle.snesl.specs.declared.refusal.Refusal.{Refusal}
use Rattle.snesl.specs.declared.refusal.Refusal.TheVariants.{TooLong, NoRecord, OverLimit, TooMany, Unbound, WrongType}
use Rattle.snesl.specs.Limits.{most_bytes, most_inputs, most_records, most_nesting, most_listed, most_depth}
use Rattle.snesl.specs.Values.{ValueType, scalar, braces, int, bool, depth_of, result_of}
use Rattle.snesl.specs.Terms as terms
use Rattle.snesl.specs.Terms.{◌∋◌, Term, any_type, listed_types, All, ∅, ◌▹◌}
use Rattle.snesl.specs.Records.{Raw, var, bind, const, truth, iota, operation, negation, sum, each, guard, Head, absent, over, single, letting, eaching, guarding, whole, operation_of, operation_head, head_at}
use Rattle.snesl.specs.Records.{byte_at, mark_at, variable_at, variables_at, variables_ok, int_at, mark_vr, mark_lt, mark_kn, mark_kb, mark_io, mark_no, mark_sm, mark_ea, mark_gu}
use Rattle.snesl.specs.Records.{Scanned, scanned, then_scan, too_deep, counted, scan, Input, Declared, declared, inputs_at, Front, front, expression_after, inputs_then, front_of, formula_end, read_formula, Texts, texts, texts_at, texts_then, JobRead, job, job_end, read_job, Span}
use Rattle.snesl.specs.Checking.{Name, Found, missing, found, find, is_bound, as_scalar, as_int, as_bool, as_ints, Sequence, no_sequence, sequence, as_sequence, names, usable, NamedScalars, listed_scalars, listed_names, pointers, NamedListing, listed_any, any_names, any_pointers}
use Rattle.snesl.specs.Checking.{Typed, typed, demand, typed_if, typed_sequence, typed_then, check, turned, context, input_names, repeated, check_inputs, check_formula}
use Rattle.snesl.specs.Formed.{Formed, formed-var, formed-bind, formed-const, formed-truth, formed-iota, formed-operation, formed-negation, formed-sum, formed-each, formed-guard}

-- What head_at can answer at k: a record with no expression behind it has its offset as its place, and its bytes, like those of LT, EA and GU, are there.
data Proper (t : List ℕ) (k : ℕ) : Head → Type 0 where
  proper-absent : Proper t k absent
  proper-over : Proper t k over
  proper-var : {x : Variable} → k + 3 ≤ length t → Proper t k (single (var k x) 3)
  proper-const : {z : ℤ} → k + 6 ≤ length t → Proper t k (single (const k z) 6)
  proper-truth : {c : Bool} → k + 3 ≤ length t → Proper t k (single (truth k c) 3)
  proper-iota : {x : Variable} → k + 3 ≤ length t → Proper t k (single (iota k x) 3)
  proper-operation : {o : Operation} {x y : Variable} → k + 4 ≤ length t → Proper t k (single (operation k o x y) 4)
  proper-negation : {x : Variable} → k + 3 ≤ length t → Proper t k (single (negation k x) 3)
  proper-sum : {x : Variable} → k + 3 ≤ length t → Proper t k (single (sum k x) 3)
  proper-letting : {x : Variable} → k + 3 ≤ length t → Proper t k (letting x)
  proper-eaching : {x y : Variable} {us : List Variable} {b : ℕ} → k + b ≤ length t → Proper t k (eaching x y us b)
  proper-guarding : {g : Variable} {us : List Variable} {b : ℕ} → k + b ≤ length t → Proper t k (guarding g us b)

module _ (t : List ℕ) (k : ℕ) where
  either : (b : Bool) (h g : Head) → Proper t k h → Proper t k g → Proper t k (elim b [ true ↦ h | false ↦ g ])
  either true h g p q = p
  either false h g p q = q

  entire : (b : ℕ) (ok : Bool) (h : Head) → (k + b ≤ length t → Proper t k h) → Proper t k (whole t k b ok h)
  entire b ok h p = go (leb (k + b) (length t)) refl
    where
      go : (c : Bool) → leb (k + b) (length t) ≡ c → Proper t k (elim c [ true ↦ elim ok [ true ↦ h | false ↦ over ] | false ↦ absent ])
      go true e = either ok h over (p (leb-true _ _ e)) proper-over
      go false e = proper-absent

  operated : (o : Option Operation) → Proper t k (operation_head t k o)
  operated none = proper-absent
  operated (some o) = entire 4 (variables_ok t (k + 2) 2) (single (operation k o (variable_at t (k + 2)) (variable_at t (k + 3))) 4) proper-operation

  proper : Proper t k (head_at t k)
  unfolding head_at
  proper =
      let m = mark_at t k in
      let x = variable_at t (k + 2) in
      let y = variable_at t (k + 3) in
      let j = byte_at t (k + 4) in
      let i = byte_at t (k + 3) in
      let one = variables_ok t (k + 2) 1 in
      let two = variables_ok t (k + 2) 2 in
      either (eqb m mark_vr) _ _ (entire 3 one (single (var k x) 3) proper-var)
      (either (eqb m mark_lt) _ _ (entire 3 one (letting x) proper-letting)
      (either (eqb m mark_kn) _ _ (entire 6 true (single (const k (int_at t (k + 2))) 6) proper-const)
      (either (eqb m mark_kb) _ _
      (either (eqb (byte_at t (k + 2)) 0) _ _
      (entire 3 true (single (truth k false) 3) proper-truth)
      (either (eqb (byte_at t (k + 2)) 1) _ _ (entire 3 true (single (truth k true) 3) proper-truth) proper-absent))
      (either (eqb m mark_io) _ _ (entire 3 one (single (iota k x) 3) proper-iota)
      (either (eqb m mark_no) _ _ (entire 3 one (single (negation k x) 3) proper-negation)
      (either (eqb m mark_sm) _ _ (entire 3 one (single (sum k x) 3) proper-sum)
      (either (eqb m mark_ea) _ _
      (either (leb (k + 5) (length t)) _ _
      (entire (5 + j) (two && leb j most_listed && variables_ok t (k + 5) j)
      (eaching x y (variables_at t (k + 5) j) (5 + j))
      proper-eaching)
      proper-absent)
      (either (eqb m mark_gu) _ _
      (either (leb (k + 4) (length t)) _ _
      (entire (4 + i) (one && leb i most_listed && variables_ok t (k + 4) i)
      (guarding x (variables_at t (k + 4) i) (4 + i))
      proper-guarding)
      proper-absent)
      (operated (operation_of m))))))))))

-- Bytes that spell e and end at `next`, if checking e finds a typed expression.
abbrev Told : (t : List ℕ) (levels k : ℕ) {Γ : List ValueType} → All Name Γ → (next : ℕ) → Typed Γ → Type 0
Told t levels k scope next (Typed.refused r) = Unit
Told t levels k {Γ} scope next (typed τ e) = Formed t levels k Γ scope τ e next

record Spelt (t : List ℕ) (levels k : ℕ) {Γ : List ValueType} (scope : All Name Γ) (next : ℕ) (r : Typed Γ) : Type 0 where
  told : Told t levels k scope next r

module _ {t : List ℕ} {levels k : ℕ} {Γ : List ValueType} {scope : All Name Γ} {next : ℕ} where
  given : {r : Typed Γ} {τ : ValueType} {e : Term Γ τ} → Spelt t levels k scope next r → r ≡ typed τ e → Formed t levels k Γ scope τ e next
  given s q = (transport (λ i. Spelt t levels k scope next (q i)) s).told

  moved : {m : ℕ} {e f : Raw} → e ≡ f → m ≡ next → Spelt t levels k scope m (check scope e) → Spelt t levels k scope next (check scope f)
  moved p q s = transport (λ i. Spelt t levels k scope (q i) (check scope (p i))) s

  -- through each of checking's steps
  demanded : (b : Bool) (why : Refusal) (r : Typed Γ) → (b ≡ true → Spelt t levels k scope next r) → Spelt t levels k scope next (demand b why r)
  demanded true why r s = s refl
  demanded false why r s = record { told = tt }

  optional : {A : Type 0} (p : ℕ) (o : Option A) (f : A → Typed Γ)
      → ((a : A) → o ≡ some a → Spelt t levels k scope next (f a))
      → Spelt t levels k scope next (typed_if p o f)
  optional p none f s = record { told = tt }
  optional p (some a) f s = s a refl

  sequential : (p : ℕ) (o : Sequence Γ) (f : (υ : ValueType) → Γ ∋ braces υ → Typed Γ)
      → ((υ : ValueType) (x : Γ ∋ braces υ) → o ≡ sequence υ x → Spelt t levels k scope next (f υ x))
      → Spelt t levels k scope next (typed_sequence p o f)
  sequential p no_sequence f s = record { told = tt }
  sequential p (sequence υ x) f s = s υ x refl

  after : {Δ : List ValueType} (o : Typed Δ) (f : (τ : ValueType) → Term Δ τ → Typed Γ)
      → ((τ : ValueType) (e : Term Δ τ) → o ≡ typed τ e → Spelt t levels k scope next (f τ e))
      → Spelt t levels k scope next (typed_then o f)
  after (Typed.refused r) f s = record { told = tt }
  after (typed τ e) f s = s τ e refl

module _ (t : List ℕ) {l k : ℕ} {Γ : List ValueType} (scope : All Name Γ) where
  spelt-var : {x : Variable} → head_at t k ≡ single (var k x) 3 → Spelt t (suc l) k scope (k + 3) (check scope (var k x))
  unfolding check
  spelt-var {x} h = go (find x scope) refl
    where
      go : (f : Found Γ) → find x scope ≡ f
          → Spelt t (suc l) k scope (k + 3)
          (elim f [ missing ↦ Typed.refused (Unbound k) | found τ v ↦ typed τ (terms.var v) ])
      go missing e = record { told = tt }
      go (found τ v) e = record { told = formed-var h e }

  spelt-const : {z : ℤ} → head_at t k ≡ single (const k z) 6 → Spelt t (suc l) k scope (k + 6) (check scope (const k z))
  unfolding check
  spelt-const h = record { told = formed-const h }

  spelt-truth : {c : Bool} → head_at t k ≡ single (truth k c) 3 → Spelt t (suc l) k scope (k + 3) (check scope (truth k c))
  unfolding check
  spelt-truth h = record { told = formed-truth h }

  spelt-iota : {x : Variable} → head_at t k ≡ single (iota k x) 3 → Spelt t (suc l) k scope (k + 3) (check scope (iota k x))
  unfolding check
  spelt-iota {x} h =
      let made : (Γ ∋ int) → Typed Γ = λ v. typed (braces int) (terms.iota v) in
      demanded (is_bound (find x scope)) (Unbound k) (typed_if k (as_int (as_scalar (find x scope))) made)
      (λ b. optional k (as_int (as_scalar (find x scope))) made (λ v q. record { told = formed-iota h q }))

  spelt-operation : {o : Operation} {x y : Variable} → head_at t k ≡ single (operation k o x y) 4 → Spelt t (suc l) k scope (k + 4) (check scope (operation k o x y))
  unfolding check
  spelt-operation {o} {x} {y} h =
      let made : (Γ ∋ int) → (Γ ∋ int) → Typed Γ = λ v w. typed (scalar (result_of o)) (terms.operation o v w) in
      let second : (Γ ∋ int) → Typed Γ = λ v. typed_if k (as_int (as_scalar (find y scope))) (made v) in
      demanded (is_bound (find x scope) && is_bound (find y scope)) (Unbound k) (typed_if k (as_int (as_scalar (find x scope))) second)
      (λ b.
      optional k (as_int (as_scalar (find x scope))) second
      (λ v q. optional k (as_int (as_scalar (find y scope))) (made v) (λ w r. record { told = formed-operation h q r })))

  spelt-negation : {x : Variable} → head_at t k ≡ single (negation k x) 3 → Spelt t (suc l) k scope (k + 3) (check scope (negation k x))
  unfolding check
  spelt-negation {x} h =
      let made : (Γ ∋ bool) → Typed Γ = λ v. typed bool (terms.negation v) in
      let truth = as_bool (as_scalar (find x scope)) in
      demanded (is_bound (find x scope)) (Unbound k) (typed_if k truth made)
      (λ b. optional k truth made (λ v q. record { told = formed-negation h q }))

  spelt-sum : {x : Variable} → head_at t k ≡ single (sum k x) 3 → Spelt t (suc l) k scope (k + 3) (check scope (sum k x))
  unfolding check
  spelt-sum {x} h =
      let made : (Γ ∋ braces int) → Typed Γ = λ v. typed int (terms.sum v) in
      let ints = as_ints (as_sequence (find x scope)) in
      demanded (is_bound (find x scope)) (Unbound k) (typed_if k ints made)
      (λ b. optional k ints made (λ v q. record { told = formed-sum h q }))

  spelt-bind : {k₁ k₂ : ℕ} {x : Variable} (e₁ e₂ : Raw) → head_at t k ≡ letting x
      → Spelt t l (k + 3) scope k₁ (check scope e₁)
      → ((υ : ValueType) → Spelt t l k₁ {Γ = υ ∷ Γ} (x ▹ scope) k₂ (check (x ▹ scope) e₂))
      → Spelt t (suc l) k scope k₂ (check scope (bind k x e₁ e₂))
  unfolding check
  spelt-bind {x = x} e₁ e₂ h s₁ s₂ =
      let whole : (υ : ValueType) → Term Γ υ → (τ : ValueType) → Term (υ ∷ Γ) τ → Typed Γ = λ υ f₁ τ f₂. typed τ (terms.bind f₁ f₂) in
      let second : (υ : ValueType) → Term Γ υ → Typed Γ = λ υ f₁. typed_then (check (x ▹ scope) e₂) (whole υ f₁) in
      after (check scope e₁) second
      (λ υ f₁ q₁.
      after (check (x ▹ scope) e₂) (whole υ f₁)
      (λ τ f₂ q₂. record { told = formed-bind h (given s₁ q₁) (given (s₂ υ) q₂) }))

  spelt-each : {b next : ℕ} {x y : Variable} {us : List Variable} (e : Raw) → head_at t k ≡ eaching x y us b
      → ((υ : ValueType) (ls : NamedScalars Γ) → Spelt t l (k + b) {Γ = υ ∷ listed_types (any_type (pointers ls))} (x ▹ listed_names ls) next (check (x ▹ listed_names ls) e))
      → Spelt t (suc l) k scope next (check scope (each k x y us e))
  unfolding check
  spelt-each {x = x} {y = y} {us = us} e h s =
      let shut : (υ : ValueType) → (Γ ∋ braces υ) → (ls : NamedScalars Γ) → (τ : ValueType) → Term (υ ∷ listed_types (any_type (pointers ls))) τ → Typed Γ =
      λ υ v ls τ f. typed (braces τ) (terms.each v (pointers ls) f) in
      let whole : (υ : ValueType) → (Γ ∋ braces υ) → (ls : NamedScalars Γ) → (τ : ValueType) → Term (υ ∷ listed_types (any_type (pointers ls))) τ → Typed Γ =
      λ υ v ls τ f. demand (ltb (depth_of τ) most_depth) (WrongType k) (shut υ v ls τ f) in
      let body : (υ : ValueType) → (Γ ∋ braces υ) → NamedScalars Γ → Typed Γ = λ υ v ls. typed_then (check (x ▹ listed_names ls) e) (whole υ v ls) in
      let over : (υ : ValueType) → (Γ ∋ braces υ) → Typed Γ = λ υ v. typed_if k (listed_scalars scope us) (body υ v) in
      demanded (is_bound (find y scope) && (usable scope us && not (names x us))) (Unbound k) (typed_sequence k (as_sequence (find y scope)) over)
      (λ b.
      sequential k (as_sequence (find y scope)) over
      (λ υ v qv.
      optional k (listed_scalars scope us) (body υ v)
      (λ ls ql.
      after (check (x ▹ listed_names ls) e) (whole υ v ls)
      (λ τ f qf.
      demanded (ltb (depth_of τ) most_depth) (WrongType k) (shut υ v ls τ f)
      (λ lt. record { told = formed-each h qv ql (given (s υ ls) qf) lt })))))

  spelt-guard : {b next : ℕ} {g : Variable} {us : List Variable} (e : Raw) → head_at t k ≡ guarding g us b
      → ((ls : NamedListing Γ) → Spelt t l (k + b) {Γ = listed_types (any_pointers ls)} (any_names ls) next (check (any_names ls) e))
      → Spelt t (suc l) k scope next (check scope (guard k g us e))
  unfolding check
  spelt-guard {g = g} {us = us} e h s =
      let shut : (Γ ∋ bool) → (ls : NamedListing Γ) → (τ : ValueType) → Term (listed_types (any_pointers ls)) τ → Typed Γ =
      λ v ls τ f. typed (braces τ) (terms.guard v (any_pointers ls) f) in
      let whole : (Γ ∋ bool) → (ls : NamedListing Γ) → (τ : ValueType) → Term (listed_types (any_pointers ls)) τ → Typed Γ =
      λ v ls τ f. demand (ltb (depth_of τ) most_depth) (WrongType k) (shut v ls τ f) in
      let body : (Γ ∋ bool) → NamedListing Γ → Typed Γ = λ v ls. typed_then (check (any_names ls) e) (whole v ls) in
      let over : (Γ ∋ bool) → Typed Γ = λ v. typed_if k (listed_any scope us) (body v) in
      demanded (is_bound (find g scope) && usable scope us) (Unbound k) (typed_if k (as_bool (as_scalar (find g scope))) over)
      (λ b.
      optional k (as_bool (as_scalar (find g scope))) over
      (λ v qv.
      optional k (listed_any scope us) (body v)
      (λ ls ql.
      after (check (any_names ls) e) (whole v ls)
      (λ τ f qf.
      demanded (ltb (depth_of τ) most_depth) (WrongType k) (shut v ls τ f)
      (λ lt. record { told = formed-guard h qv ql (given (s ls) qf) lt })))))

-- one more record was allowed
uncounted : (k n : ℕ) (s : Scanned) {e : Raw} {next m : ℕ} → counted k n s ≡ scanned e next m → s ≡ scanned e next m
uncounted k n s {e} {next} {m} = go (ltb n most_records)
  where
    go : (b : Bool) → elim b [ true ↦ s | false ↦ Scanned.refused (TooMany k) ] ≡ scanned e next m → s ≡ scanned e next m
    go true q = q
    go false q = let z : ◌≡◌ {A = ℕ} 0 1 = cc in absurd (omega arith)

-- a scan that goes on behind another
data Onward (s : Scanned) (f : Raw → ℕ → ℕ → Scanned) (r : Scanned) : Type 0 where
  onward : (e : Raw) (k n : ℕ) → s ≡ scanned e k n → f e k n ≡ r → Onward s f r

scanned_then : (s : Scanned) (f : Raw → ℕ → ℕ → Scanned) {e : Raw} {next m : ℕ}
    → then_scan s f ≡ scanned e next m
    → Onward s f (scanned e next m)
scanned_then (Scanned.refused r) f q = let z : ◌≡◌ {A = ℕ} 0 1 = cc in absurd (omega arith)
scanned_then (scanned e k n) f q = onward e k n refl q

too_deep-never : (k : ℕ) (h : Head) {e : Raw} {next m : ℕ} → too_deep k h ≡ scanned e next m → ⊥
too_deep-never k absent q = let z : ◌≡◌ {A = ℕ} 0 1 = cc in omega arith
too_deep-never k over q = let z : ◌≡◌ {A = ℕ} 0 1 = cc in omega arith
too_deep-never k (single e b) q = let z : ◌≡◌ {A = ℕ} 0 1 = cc in omega arith
too_deep-never k (letting x) q = let z : ◌≡◌ {A = ℕ} 0 1 = cc in omega arith
too_deep-never k (eaching x y us b) q = let z : ◌≡◌ {A = ℕ} 0 1 = cc in omega arith
too_deep-never k (guarding g us b) q = let z : ◌≡◌ {A = ℕ} 0 1 = cc in omega arith

-- what `scan` does with the record at k
abbrev scan_head : (levels : ℕ) → List ℕ → (k n : ℕ) → Head → Scanned
scan_head levels t k n h =
    elim h [
      | absent ↦ Scanned.refused (NoRecord k)
      | over ↦ Scanned.refused (OverLimit k)
      | single e b ↦ counted k n (scanned e (k + b) (n + 1))
      | letting x ↦
          counted k n
          (then_scan (scan levels t (k + 3) (n + 1))
          (λ e₁ k₁ n₁. then_scan (scan levels t k₁ n₁) (λ e₂ k₂ n₂. scanned (bind k x e₁ e₂) k₂ n₂)))
      | eaching x y us b ↦
          counted k n (then_scan (scan levels t (k + b) (n + 1)) (λ e k₁ n₁. scanned (each k x y us e) k₁ n₁))
      | guarding g us b ↦
          counted k n (then_scan (scan levels t (k + b) (n + 1)) (λ e k₁ n₁. scanned (guard k g us e) k₁ n₁))
    ]

scan-zero : (t : List ℕ) (k n : ℕ) → scan zero t k n ≡ too_deep k (head_at t k)
unfolding scan
scan-zero t k n = refl

scan-suc : (levels : ℕ) (t : List ℕ) (k n : ℕ) → scan (suc levels) t k n ≡ scan_head levels t k n (head_at t k)
unfolding scan
scan-suc levels t k n = refl

-- What is read at every place, under every scope, with so many nestings left, is spelt.
record Reads (t : List ℕ) (levels : ℕ) : Type 0 where
  reads : (k n : ℕ) {Γ : List ValueType} (scope : All Name Γ) {e : Raw} {next m : ℕ}
      → scan levels t k n ≡ scanned e next m
      → Spelt t levels k scope next (check scope e)

module _ (t : List ℕ) (l : ℕ) (ih : Reads t l) (k n : ℕ) {Γ : List ValueType} (scope : All Name Γ) {e : Raw} {next m : ℕ} where
  -- a record with no expression behind it
  alone : (f : Raw) (b : ℕ)
      → scan_head l t k n (single f b) ≡ scanned e next m
      → Spelt t (suc l) k scope (k + b) (check scope f)
      → Spelt t (suc l) k scope next (check scope e)
  alone f b q s =
      let found = uncounted k n (scanned f (k + b) (n + 1)) q in
      moved (cc) (cc) s

  lets : (x : Variable) → head_at t k ≡ letting x
      → scan_head l t k n (letting x) ≡ scanned e next m
      → Spelt t (suc l) k scope next (check scope e)
  lets x h q = go₁ (scanned_then _ _ (uncounted k n _ q))
    where
      go₂ : (e₁ : Raw) (k₁ n₁ : ℕ) → scan l t (k + 3) (n + 1) ≡ scanned e₁ k₁ n₁
          → Onward (scan l t k₁ n₁) (λ e₂ k₂ n₂. scanned (bind k x e₁ e₂) k₂ n₂) (scanned e next m)
          → Spelt t (suc l) k scope next (check scope e)
      go₂ e₁ k₁ n₁ q₁ (onward e₂ k₂ n₂ q₂ z) =
          moved (cc) (cc) (spelt-bind t scope e₁ e₂ h (ih.reads (k + 3) (n + 1) scope q₁) (λ υ. ih.reads k₁ n₁ (x ▹ scope) q₂))

      go₁ : Onward (scan l t (k + 3) (n + 1)) (λ e₁ k₁ n₁. then_scan (scan l t k₁ n₁) (λ e₂ k₂ n₂. scanned (bind k x e₁ e₂) k₂ n₂)) (scanned e next m)
          → Spelt t (suc l) k scope next (check scope e)
      go₁ (onward e₁ k₁ n₁ q₁ z) = go₂ e₁ k₁ n₁ q₁ (scanned_then (scan l t k₁ n₁) (λ e₂ k₂ n₂. scanned (bind k x e₁ e₂) k₂ n₂) z)

  eaches : (x y : Variable) (us : List Variable) (b : ℕ) → head_at t k ≡ eaching x y us b
      → scan_head l t k n (eaching x y us b) ≡ scanned e next m
      → Spelt t (suc l) k scope next (check scope e)
  eaches x y us b h q = go (scanned_then _ _ (uncounted k n _ q))
    where
      go : Onward (scan l t (k + b) (n + 1)) (λ e₁ k₁ n₁. scanned (each k x y us e₁) k₁ n₁) (scanned e next m)
          → Spelt t (suc l) k scope next (check scope e)
      go (onward e₁ k₁ n₁ q₁ z) =
          moved (cc) (cc) (spelt-each t scope e₁ h (λ υ ls. ih.reads (k + b) (n + 1) (x ▹ listed_names ls) q₁))

  guards : (g : Variable) (us : List Variable) (b : ℕ) → head_at t k ≡ guarding g us b
      → scan_head l t k n (guarding g us b) ≡ scanned e next m
      → Spelt t (suc l) k scope next (check scope e)
  guards g us b h q = go (scanned_then _ _ (uncounted k n _ q))
    where
      go : Onward (scan l t (k + b) (n + 1)) (λ e₁ k₁ n₁. scanned (guard k g us e₁) k₁ n₁) (scanned e next m)
          → Spelt t (suc l) k scope next (check scope e)
      go (onward e₁ k₁ n₁ q₁ z) = moved (cc) (cc) (spelt-guard t scope e₁ h (λ ls. ih.reads (k + b) (n + 1) (any_names ls) q₁))

  headed : (h : Head) → head_at t k ≡ h → Proper t k h → scan_head l t k n h ≡ scanned e next m → Spelt t (suc l) k scope next (check scope e)
  headed _ h proper-absent q = let z : ◌≡◌ {A = ℕ} 0 1 = cc in absurd (omega arith)
  headed _ h proper-over q = let z : ◌≡◌ {A = ℕ} 0 1 = cc in absurd (omega arith)
  headed _ h (proper-var w) q = alone _ _ q (spelt-var t scope h)
  headed _ h (proper-const w) q = alone _ _ q (spelt-const t scope h)
  headed _ h (proper-iota w) q = alone _ _ q (spelt-iota t scope h)
  headed _ h (proper-truth w) q = alone _ _ q (spelt-truth t scope h)
  headed _ h (proper-operation w) q = alone _ _ q (spelt-operation t scope h)
  headed _ h (proper-negation w) q = alone _ _ q (spelt-negation t scope h)
  headed _ h (proper-sum w) q = alone _ _ q (spelt-sum t scope h)
  headed _ h (proper-letting w) q = lets _ h q
  headed _ h (proper-eaching w) q = eaches _ _ _ _ h q
  headed _ h (proper-guarding w) q = guards _ _ _ h q

-- what is read and checked is formed, at whatever nesting
reading : (t : List ℕ) (levels : ℕ) → Reads t levels
reading t zero = record { reads = λ k n scope q. absurd (too_deep-never k (head_at t k) (sym (scan-zero t k n) ∙ q)) }
reading t (suc l) =
    let ih = reading t l in
    record { reads = λ k n scope q. headed t l ih k n scope (head_at t k) refl (proper t k) (sym (scan-suc l t k n) ∙ q) }

pub formed : (t : List ℕ) (levels k n : ℕ) {Γ : List ValueType} (scope : All Name Γ) {e : Raw} {next m : ℕ} {τ : ValueType} {f : Term Γ τ}
    → scan levels t k n ≡ scanned e next m
    → check scope e ≡ typed τ f
    → Formed t levels k Γ scope τ f next
formed t levels k n scope read checked = given ((reading t levels).reads k n scope read) checked

-- The bytes of a formed expression lie within the text, and there is at least one.
pub record Spans (t : List ℕ) (k next : ℕ) : Type 0 where
  pub within : next ≤ length t
  pub some : k < next

-- how far a record reaches
abbrev reach : ℕ → Head → ℕ
reach k absent = 0
reach k over = 0
reach k (single e b) = k + b
reach k (letting x) = k + 3
reach k (eaching x y us b) = k + b
reach k (guarding g us b) = k + b

reach-within : {t : List ℕ} {k : ℕ} {h : Head} → Proper t k h → reach k h ≤ length t
reach-within proper-absent = omega arith
reach-within proper-over = omega arith
reach-within (proper-var w) = w
reach-within (proper-const w) = w
reach-within (proper-iota w) = w
reach-within (proper-truth w) = w
reach-within (proper-operation w) = w
reach-within (proper-negation w) = w
reach-within (proper-sum w) = w
reach-within (proper-letting w) = w
reach-within (proper-eaching w) = w
reach-within (proper-guarding w) = w

headed-within : (t : List ℕ) (k : ℕ) {h : Head} → head_at t k ≡ h → reach k h ≤ length t
headed-within t k q = transport (λ i. reach k (q i) ≤ length t) (reach-within (proper t k))

pub spans : {t : List ℕ} {levels k : ℕ} {Γ : List ValueType} {scope : All Name Γ} {τ : ValueType} {e : Term Γ τ} {next : ℕ}
    → Formed t levels k Γ scope τ e next
    → Spans t k next
spans {t} {k = k} (formed-var h f) = record { within = headed-within t k h; some = omega arith }
spans {t} {k = k} (formed-const h) = record { within = headed-within t k h; some = omega arith }
spans {t} {k = k} (formed-iota h f) = record { within = headed-within t k h; some = omega arith }
spans {t} {k = k} (formed-truth h) = record { within = headed-within t k h; some = omega arith }
spans {t} {k = k} (formed-operation h f g) = record { within = headed-within t k h; some = omega arith }
spans {t} {k = k} (formed-negation h f) = record { within = headed-within t k h; some = omega arith }
spans {t} {k = k} (formed-sum h f) = record { within = headed-within t k h; some = omega arith }
spans {t} {k = k} (formed-bind h f g) =
    let s = spans f in
    let r = spans g in
    record { within = r.within; some = omega arith }
spans {t} {k = k} (formed-each h v ls f lt) =
    let s = spans f in
    record { within = s.within; some = omega arith }
spans {t} {k = k} (formed-guard h v ls f lt) =
    let s = spans f in
    record { within = s.within; some = omega arith }

-- what reading a formula at the start of some bytes has found
pub record FrontRead (t : List ℕ) (is : List Input) (k : ℕ) (e : Raw) (next : ℕ) : Type 0 where
  pub short : length t ≤ most_bytes
  pub inputs : inputs_at most_inputs t 0 ≡ declared is k
  pub records : ℕ
  pub expression : scan (suc most_nesting) t k 0 ≡ scanned e next records

module _ (t : List ℕ) {is : List Input} {k : ℕ} {e : Raw} {next : ℕ} where
  pub front_read : front_of t ≡ front is k e next → FrontRead t is k e next
  unfolding front_of
  front_read = go (leb (length t) most_bytes) refl
    where
      scans : (is' : List Input) (k' : ℕ) (s : Scanned) → length t ≤ most_bytes
          → inputs_at most_inputs t 0 ≡ declared is' k'
          → scan (suc most_nesting) t k' 0 ≡ s
          → expression_after is' k' s ≡ front is k e next
          → FrontRead t is k e next
      scans is' k' (Scanned.refused r) short qi qs q = let z : ◌≡◌ {A = ℕ} 0 1 = cc in absurd (omega arith)
      scans is' k' (scanned e' next' n) short qi qs q =
          let same : k' ≡ k = cc in
          record { short = short; inputs = cc; records = n; expression = ap (λ j. scan (suc most_nesting) t j 0) (sym same) ∙ cc }

      declares : (ds : Declared) → length t ≤ most_bytes → inputs_at most_inputs t 0 ≡ ds → inputs_then t ds ≡ front is k e next → FrontRead t is k e next
      declares (Declared.refused r) short qi q = let z : ◌≡◌ {A = ℕ} 0 1 = cc in absurd (omega arith)
      declares (declared is' k') short qi q = scans is' k' (scan (suc most_nesting) t k' 0) short qi refl q

      go : (b : Bool) → leb (length t) most_bytes ≡ b
          → elim b [ true ↦ inputs_then t (inputs_at most_inputs t 0) | false ↦ Front.refused TooLong ] ≡ front is k e next
          → FrontRead t is k e next
      go true short q = declares (inputs_at most_inputs t 0) (leb-true _ _ short) refl q
      go false short q = let z : ◌≡◌ {A = ℕ} 0 1 = cc in absurd (omega arith)

-- a formula's front part, and nothing follows it
pub record FormulaRead (t : List ℕ) (is : List Input) (k : ℕ) (e : Raw) (next : ℕ) : Type 0 where
  pub read : FrontRead t is k e next
  pub end : next ≡ length t

module _ (t : List ℕ) {is : List Input} {k : ℕ} {e : Raw} {next : ℕ} where
  pub formula-read : read_formula t ≡ front is k e next → FormulaRead t is k e next
  formula-read = fronts (front_of t) refl
    where
      ends : (is' : List Input) (k' : ℕ) (e' : Raw) (next' : ℕ) (b : Bool) → front_of t ≡ front is' k' e' next' → eqb next' (length t) ≡ b
          → elim b [ true ↦ front is' k' e' next' | false ↦ Front.refused (NoRecord next') ] ≡ front is k e next
          → FormulaRead t is k e next
      ends is' k' e' next' true qf qb q =
          let same : next' ≡ next = cc in
          record { read = front_read t (qf ∙ q); end = sym same ∙ eqb-true next' (length t) qb }
      ends is' k' e' next' false qf qb q = let z : ◌≡◌ {A = ℕ} 0 1 = cc in absurd (omega arith)

      fronts : (f : Front) → front_of t ≡ f → formula_end t f ≡ front is k e next → FormulaRead t is k e next
      fronts (Front.refused r) qf q = let z : ◌≡◌ {A = ℕ} 0 1 = cc in absurd (omega arith)
      fronts (front is' k' e' next') qf q = ends is' k' e' next' (eqb next' (length t)) qf refl q

  pub job_read : {ss : List Span} → read_job t ≡ job is k e next ss → FrontRead t is k e next
  job_read {ss} = fronts (front_of t) refl
    where
      ends : (is' : List Input) (k' : ℕ) (e' : Raw) (next' end : ℕ) (ss' : List Span) (b : Bool) → front_of t ≡ front is' k' e' next'
          → elim b [ true ↦ job is' k' e' next' ss' | false ↦ JobRead.refused (NoRecord end) ] ≡ job is k e next ss
          → FrontRead t is k e next
      ends is' k' e' next' end ss' true qf q =
          let a : is' ≡ is = cc in
          let b : k' ≡ k = cc in
          let c : e' ≡ e = cc in
          let d : next' ≡ next = cc in
          front_read t (qf ∙ (λ i. front (a i) (b i) (c i) (d i)))
      ends is' k' e' next' end ss' false qf q = let z : ◌≡◌ {A = ℕ} 0 1 = cc in absurd (omega arith)

      spelled : (is' : List Input) (k' : ℕ) (e' : Raw) (next' : ℕ) (x : Texts) → front_of t ≡ front is' k' e' next'
          → texts_then t is' k' e' next' x ≡ job is k e next ss
          → FrontRead t is k e next
      spelled is' k' e' next' (Texts.refused r) qf q = let z : ◌≡◌ {A = ℕ} 0 1 = cc in absurd (omega arith)
      spelled is' k' e' next' (texts ss' end) qf q = ends is' k' e' next' end ss' (eqb end (length t)) qf q

      fronts : (f : Front) → front_of t ≡ f → job_end t f ≡ job is k e next ss → FrontRead t is k e next
      fronts (Front.refused r) qf q = let z : ◌≡◌ {A = ℕ} 0 1 = cc in absurd (omega arith)
      fronts (front is' k' e' next') qf q = spelled is' k' e' next' (texts_at (length is') t next') qf q

-- the inputs' names are told apart before the expression is walked
module _ (is : List Input) (e : Raw) {τ : ValueType} {f : Term (context is) τ} where
  pub checked-inputs : check_formula is e ≡ typed τ f → (repeated [] is ≡ none) × (check (turned ∅ (input_names is)) e ≡ typed τ f)
  checked-inputs = go (repeated [] is) refl
    where
      go : (o : Option ℕ) → repeated [] is ≡ o → check_inputs o (check (turned ∅ (input_names is)) e) ≡ typed τ f
          → (repeated [] is ≡ none) × (check (turned ∅ (input_names is)) e ≡ typed τ f)
      go none r q = (r, q)
      go (some p) r q = let z : ◌≡◌ {A = ℕ} 0 1 = cc in absurd (omega arith)

-- A formula's expression that is read and checked, as its bytes have it.
pub record FormulaFormed (t : List ℕ) (is : List Input) (k : ℕ) {τ : ValueType} (f : Term (context is) τ) (next : ℕ) : Type 0 where
  pub formed : Formed t (suc most_nesting) k (context is) (turned ∅ (input_names is)) τ f next
  pub within : next ≤ length t
  pub short : length t ≤ most_bytes
  pub apart : repeated [] is ≡ none

module _ (t : List ℕ) {is : List Input} {k : ℕ} {e : Raw} {next : ℕ} {τ : ValueType} {f : Term (context is) τ} where
  front-formed : FrontRead t is k e next → check_formula is e ≡ typed τ f → FormulaFormed t is k f next
  front-formed r q =
      let both = checked-inputs is e q in
      let w = formed t (suc most_nesting) k 0 (turned ∅ (input_names is)) r.expression both.1 in
      record { formed = w; within = (spans w).within; short = r.short; apart = both.0 }

  pub formula-formed : read_formula t ≡ front is k e next → check_formula is e ≡ typed τ f → FormulaFormed t is k f next
  formula-formed r q = front-formed (formula-read t r).read q

  pub job-formed : {ss : List Span} → read_job t ≡ job is k e next ss → check_formula is e ≡ typed τ f → FormulaFormed t is k f next
  job-formed r q = front-formed (job_read t r) q
