-- Reading refuses by 1 to 4 only, and checking by 5 and 6: so what is refused before anything runs is never taken for an answer of the run.
use Prim.Native.Nat.{ℕ, zero, suc, ◌+◌}
use native.Mathlib.Omega.{arith}
use mathlib.Core.Bool.{Bool, true, false, ◌&&◌, not}
use mathlib.Core.List.{List, []}
use mathlib.Core.Option.{Option, some, none}
use mathlib.Core.Path.{◌≡◌, refl, subst}
use lib.Dec.{eqb, ltb, leb}
use lib.IntN.{ℤ}
use lib.ListN.{length}
use Rattle.snesl.specs.declared.refusal.Refusal.{Refusal}
use Rattle.snesl.specs.declared.refusal.Refusal.TheVariants.{TooLong, NoRecord, OverLimit, TooMany, Unbound, WrongType, NoValueText}
use Rattle.snesl.specs.Limits.{most_bytes, most_inputs, most_records, most_nesting, last_variable, most_depth}
use Rattle.snesl.specs.declared.code.Base.{Base}
use Rattle.snesl.specs.Values.{ValueType, scalar, braces, int, bool, depth_of, result_of}
use Rattle.snesl.specs.Terms as terms
use Rattle.snesl.specs.Terms.{◌∋◌, Term, All, ∅, ◌▹◌}
use Rattle.snesl.specs.Records
use Rattle.snesl.specs.Records.{Raw, Head, absent, over, single, letting, eaching, guarding, head_at, byte_at, mark_at, mark_va, Scanned, scanned, then_scan, too_deep, counted, scan, Input, input_base, Declared, declared, input_first, input_at, input_ok, inputs_at, Span, Texts, texts, span_first, span_at, texts_at, expression_after, inputs_then, front_of, JobRead, job, texts_then, job_end, read_job}
use Rattle.snesl.specs.Outcome.{streams_refused}
use Rattle.snesl.specs.Checking
use Rattle.snesl.specs.Checking.{Name, Found, missing, found, find, is_bound, as_scalar, as_int, as_bool, as_ints, Sequence, no_sequence, sequence, as_sequence, names, usable, listed_scalars, listed_names, pointers, listed_any, any_names, any_pointers, Typed, typed, demand, typed_if, typed_sequence, typed_then, check, turned, context, input_names, repeated, check_inputs, check_formula}

-- 1 to 7
pub data Early : Refusal → Type 0 where
  early-long : Early TooLong
  early-record : {p : ℕ} → Early (NoRecord p)
  early-limit : {p : ℕ} → Early (OverLimit p)
  early-many : {p : ℕ} → Early (TooMany p)
  early-unbound : {p : ℕ} → Early (Unbound p)
  early-type : {p : ℕ} → Early (WrongType p)
  early-text : {p : ℕ} → Early (NoValueText p)

-- nothing is written then
pub early-keeps : (old : List ℤ) {r : Refusal} → Early r → streams_refused old r ≡ old
early-keeps old early-long = refl
early-keeps old early-record = refl
early-keeps old early-limit = refl
early-keeps old early-many = refl
early-keeps old early-unbound = refl
early-keeps old early-type = refl
early-keeps old early-text = refl

-- what holds either way holds of what a test chooses
chosen : {A : Type 0} (P : A → Type 0) (b : Bool) {x y : A} → P x → P y → P (elim b [ true ↦ x | false ↦ y ])
chosen P true h g = h
chosen P false h g = g

-- an expression
data Scans : Scanned → Type 0 where
  scans-refused : {r : Refusal} → Early r → Scans (Records.Scanned.refused r)
  scans-on : {e : Raw} {k n : ℕ} → Scans (scanned e k n)

scans-then : {s : Scanned} {f : Raw → ℕ → ℕ → Scanned} → Scans s → ((e : Raw) (k n : ℕ) → Scans (f e k n)) → Scans (then_scan s f)
scans-then (scans-refused early) rest = scans-refused early
scans-then (scans-on {e} {k} {n}) rest = rest e k n

scans-counted : (k n : ℕ) (s : Scanned) → Scans s → Scans (counted k n s)
scans-counted k n s h = chosen Scans (ltb n most_records) h (scans-refused early-many)

scans-deep : (k : ℕ) (h : Head) → Scans (too_deep k h)
scans-deep k absent = scans-refused early-record
scans-deep k over = scans-refused early-limit
scans-deep k (single e b) = scans-refused early-many
scans-deep k (letting x) = scans-refused early-many
scans-deep k (eaching x y us b) = scans-refused early-many
scans-deep k (guarding g us b) = scans-refused early-many

scans : (levels : ℕ) (t : List ℕ) (k n : ℕ) → Scans (scan levels t k n)
unfolding scan
scans zero t k n = scans-deep k (head_at t k)
scans (suc levels) t k n = go (scans levels t) (head_at t k) refl
  where
    go : ((k n : ℕ) → Scans (scan levels t k n)) → (h : Head) → head_at t k ≡ h → Scans (scan (suc levels) t k n)
    go below absent e = rw (e, scan) (scans-refused early-record)
    go below over e = rw (e, scan) (scans-refused early-limit)
    go below (single f b) e = rw (e, scan) (scans-counted k n _ scans-on)
    go below (letting x) e =
        rw (e, scan)
        (scans-counted k n _
        (scans-then (below (k + 3) (n + 1)) (λ e₁ k₁ n₁. scans-then (below k₁ n₁) (λ e₂ k₂ n₂. scans-on))))
    go below (eaching x y us b) e =
        rw (e, scan) (scans-counted k n _ (scans-then (below (k + b) (n + 1)) (λ f k₁ n₁. scans-on)))
    go below (guarding g us b) e =
        rw (e, scan) (scans-counted k n _ (scans-then (below (k + b) (n + 1)) (λ f k₁ n₁. scans-on)))

-- the inputs
data Declares : Declared → Type 0 where
  declares-refused : {r : Refusal} → Early r → Declares (Records.Declared.refused r)
  declares-on : {is : List Input} {k : ℕ} → Declares (declared is k)

declares-first : (i : Input) {d : Declared} → Declares d → Declares (input_first i d)
declares-first i (declares-refused early) = declares-refused early
declares-first i declares-on = declares-on

declares-ok : (t : List ℕ) (k : ℕ) {d : Declared} → Declares d → Declares (input_ok t k d)
declares-ok t k h =
    chosen Declares (leb (k + 4) (length t))
    (chosen Declares (leb (byte_at t (k + 2)) last_variable && leb (byte_at t (k + 3)) most_depth) h (declares-refused early-limit))
    (declares-refused early-record)

-- either base's record is read on, and any other ends the inputs
declares-marked : (k : ℕ) (m : Option Base) (next : Base → Declared) → ((b : Base) → Declares (next b))
    → Declares (elim m [ some b ↦ next b | none ↦ declared [] k ])
declares-marked k (some b) next h = h b
declares-marked k none next h = declares-on

declares : (left : ℕ) (t : List ℕ) (k : ℕ) → Declares (inputs_at left t k)
unfolding inputs_at
declares zero t k =
    declares-marked k (input_base (mark_at t k)) (λ b. input_ok t k (Records.Declared.refused (TooMany k))) (λ b. declares-ok t k (declares-refused early-many))
declares (suc left) t k =
    declares-marked k (input_base (mark_at t k)) (λ b. input_ok t k (input_first (input_at t k b) (inputs_at left t (k + 4))))
    (λ b. declares-ok t k (declares-first (input_at t k b) (declares left t (k + 4))))

-- the inputs' texts
data Finds : Texts → Type 0 where
  finds-refused : {r : Refusal} → Early r → Finds (Records.Texts.refused r)
  finds-on : {ss : List Span} {k : ℕ} → Finds (texts ss k)

finds-first : (s : Span) {f : Texts} → Finds f → Finds (span_first s f)
finds-first s (finds-refused early) = finds-refused early
finds-first s finds-on = finds-on

finds : (n : ℕ) (t : List ℕ) (k : ℕ) → Finds (texts_at n t k)
unfolding texts_at
finds zero t k = finds-on
finds (suc n) t k =
    chosen Finds (eqb (mark_at t k) mark_va && (leb (k + 4) (length t) && leb (k + 4 + (span_at t k).bytes) (length t)))
    (finds-first (span_at t k) (finds n t (k + 4 + (span_at t k).bytes)))
    (finds-refused early-record)

-- the job
data Reads : JobRead → Type 0 where
  reads-refused : {r : Refusal} → Early r → Reads (Records.JobRead.refused r)
  reads_on : {is : List Input} {k : ℕ} {e : Raw} {next : ℕ} {ss : List Span} → Reads (job is k e next ss)

reads-texts : (t : List ℕ) (is : List Input) (k : ℕ) (e : Raw) (next : ℕ) {f : Texts} → Finds f → Reads (texts_then t is k e next f)
reads-texts t is k e next (finds-refused early) = reads-refused early
reads-texts t is k e next (finds-on {k = end}) = chosen Reads (eqb end (length t)) reads_on (reads-refused early-record)

reads-expression : (t : List ℕ) (is : List Input) (k : ℕ) {s : Scanned} → Scans s → Reads (job_end t (expression_after is k s))
reads-expression t is k (scans-refused early) = reads-refused early
reads-expression t is k (scans-on {e} {k = next}) = reads-texts t is k e next (finds (length is) t next)

reads-inputs : (t : List ℕ) {d : Declared} → Declares d → Reads (job_end t (inputs_then t d))
reads-inputs t (declares-refused early) = reads-refused early
reads-inputs t (declares-on {is} {k}) = reads-expression t is k (scans (suc most_nesting) t k 0)

reads : (t : List ℕ) → Reads (read_job t)
unfolding front_of
reads t =
    chosen (λ f. Reads (job_end t f)) (leb (length t) most_bytes) (reads-inputs t (declares most_inputs t 0)) (reads-refused early-long)

pub reading-refuses-early : (t : List ℕ) {r : Refusal} → read_job t ≡ Records.JobRead.refused r → Early r
reading-refuses-early t {r} e = of (reads t) e
  where
    of : {j : JobRead} → Reads j → j ≡ Records.JobRead.refused r → Early r
    of (reads-refused {r = q} early) h = let same : q ≡ r = cc in subst Early same early
    of reads_on h = let z : ◌≡◌ {A = ℕ} 0 1 = cc in absurd (omega arith)

-- the types
data Types {Γ : List ValueType} : Typed Γ → Type 0 where
  types-refused : {r : Refusal} → Early r → Types (Checking.Typed.refused r)
  types-on : {τ : ValueType} {e : Term Γ τ} → Types (typed τ e)

module _ {Γ : List ValueType} where
  types-demand : {r : Refusal} (b : Bool) {y : Typed Γ} → Early r → Types y → Types (demand b r y)
  types-demand true early h = h
  types-demand false early h = types-refused early

  types-if : {A : Type 0} (p : ℕ) (o : Option A) {f : A → Typed Γ} → ((a : A) → Types (f a)) → Types (typed_if p o f)
  types-if p none h = types-refused early-type
  types-if p (some a) h = h a

  types-sequence : (p : ℕ) (s : Sequence Γ) {f : (υ : ValueType) → Γ ∋ braces υ → Typed Γ} → ((υ : ValueType) (x : Γ ∋ braces υ) → Types (f υ x)) → Types (typed_sequence p s f)
  types-sequence p no_sequence h = types-refused early-type
  types-sequence p (sequence υ x) h = h υ x

  types-then : {Δ : List ValueType} {y : Typed Δ} {f : (τ : ValueType) → Term Δ τ → Typed Γ} → Types y → ((τ : ValueType) (e : Term Δ τ) → Types (f τ e)) → Types (typed_then y f)
  types-then (types-refused early) h = types-refused early
  types-then (types-on {τ} {e}) h = h τ e

types : {Γ : List ValueType} (scope : All Name Γ) (e : Raw) → Types (check scope e)
unfolding check
types scope (Records.Raw.var p x) = go (find x scope) refl
  where
    go : (f : Found _) → find x scope ≡ f → Types (check scope (Records.Raw.var p x))
    go missing e = rw (e, check) (types-refused early-unbound)
    go (found τ v) e = rw (e, check) types-on
types scope (Records.Raw.bind p x e₁ e₂) = types-then (types scope e₁) (λ υ t₁. types-then (types (x ▹ scope) e₂) (λ τ t₂. types-on))
types scope (Records.Raw.const p z) = types-on
types scope (Records.Raw.truth p c) = types-on
types scope (Records.Raw.iota p x) =
    types-demand (is_bound (find x scope)) (early-unbound {p = p})
    (types-if p (as_int (as_scalar (find x scope))) {f = λ v. typed (braces int) (terms.iota v)} (λ v. types-on))
types scope (Records.Raw.operation p o x y) =
    types-demand (is_bound (find x scope) && is_bound (find y scope)) (early-unbound {p = p})
    (types-if p (as_int (as_scalar (find x scope)))
    {f = λ v. typed_if p (as_int (as_scalar (find y scope))) (λ w. typed (scalar (result_of o)) (terms.operation o v w))}
    (λ v. types-if p (as_int (as_scalar (find y scope))) (λ w. types-on)))
types scope (Records.Raw.negation p x) =
    types-demand (is_bound (find x scope)) (early-unbound {p = p})
    (types-if p (as_bool (as_scalar (find x scope))) {f = λ v. typed bool (terms.negation v)} (λ v. types-on))
types scope (Records.Raw.sum p x) =
    types-demand (is_bound (find x scope)) (early-unbound {p = p})
    (types-if p (as_ints (as_sequence (find x scope))) {f = λ v. typed int (terms.sum v)} (λ v. types-on))
types {Γ} scope (Records.Raw.each p x y us e) =
    types-demand (is_bound (find y scope) && (usable scope us && not (names x us))) (early-unbound {p = p})
    (types-sequence p (as_sequence (find y scope))
    (λ υ v.
    types-if p (listed_scalars scope us)
    (λ l.
    types-then (types (◌▹◌ {τ = υ} x (listed_names l)) e)
    (λ τ t. types-demand (ltb (depth_of τ) most_depth) (early-type {p = p}) (types-on {τ = braces τ} {e = terms.each v (pointers l) t})))))
types scope (Records.Raw.guard p g us e) =
    types-demand (is_bound (find g scope) && usable scope us) (early-unbound {p = p})
    (types-if p (as_bool (as_scalar (find g scope)))
    (λ v.
    types-if p (listed_any scope us)
    (λ l.
    types-then (types (any_names l) e)
    (λ τ t. types-demand (ltb (depth_of τ) most_depth) (early-type {p = p}) (types-on {τ = braces τ} {e = terms.guard v (any_pointers l) t})))))

types-inputs : {Γ : List ValueType} (o : Option ℕ) {y : Typed Γ} → Types y → Types (check_inputs o y)
types-inputs none h = h
types-inputs (some p) h = types-refused early-unbound

pub checking-refuses-early : (is : List Input) (e : Raw) {r : Refusal} → check_formula is e ≡ Checking.Typed.refused r → Early r
checking-refuses-early is e {r} h = of (types-inputs (repeated [] is) (types (turned ∅ (input_names is)) e)) h
  where
    of : {y : Typed (context is)} → Types y → y ≡ Checking.Typed.refused r → Early r
    of (types-refused {r = q} early) k = let same : q ≡ r = cc in subst Early same early
    of types-on k = let z : ◌≡◌ {A = ℕ} 0 1 = cc in absurd (omega arith)
