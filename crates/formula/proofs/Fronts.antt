-- A formula and a job as the readers put them together: from what was found of the inputs, of the expression and of the texts.
use Prim.Native.Nat.{ℕ, suc, ◌≤◌, ◌<◌}
use mathlib.Core.Bool.{Bool, true, false}
use mathlib.Core.List.{List}
use mathlib.Core.Path.{◌≡◌, refl, sym, ap, ◌∙◌}
use lib.Dec.{eqb}
use lib.ListN.{length}
use borrow.Author.Tests.{le-leb, lt-leb, eqb-true, eq-eqb, ne_eqb}
use Rattle.std.specs.Prelude.{Result, Ok, Err}
use Rattle.snesl.specs.declared.limits.Formula.{Formula}
use Rattle.snesl.specs.declared.limits.Job.{Job}
use Rattle.snesl.specs.declared.refusal.Refusal.{Refusal}
use Rattle.snesl.specs.declared.refusal.Refusal.TheVariants.{TooLong, NoRecord}
use Rattle.snesl.specs.Limits.{most_bytes, most_inputs, most_nesting}
use Rattle.snesl.specs.Records as records
use Rattle.snesl.specs.Records.{Front, front, refused, inputs_then, expression_after, inputs_at, front_of, formula_end, read_formula, texts_at, texts_then, job_end, read_job}
use Rattle.formula.specs.declared.read.Scanned.{Scanned}
use Rattle.formula.specs.declared.read.Declared.{Declared}
use Rattle.formula.specs.Reading.{scanned_of, declared_of, texts_of, formula_of, ended, job_of}

-- a step that goes on where it is not refused
abbrev pub go_on : {A B : Type 0} → Result A Refusal → (A → Result B Refusal) → Result B Refusal
go_on (Ok x) f = f x
go_on (Err r) f = Err r

module _ (t : List ℕ) where
  abbrev found : Declared → Scanned → Formula
  found d s = record { inputs = d.inputs; expression = d.end; end = s.end }

  abbrev scanned : Declared → Result Formula Refusal
  scanned d = go_on (scanned_of (records.scan (suc most_nesting) t d.end 0)) (λ s. Ok (found d s))

  expression-ends :
      (is : List records.Input) (k : ℕ) (s : records.Scanned)
      → formula_of (expression_after is k s) ≡ go_on (scanned_of s) (λ z. Ok (found (record { inputs = length is; end = k }) z))
  expression-ends is k (records.refused r) = refl
  expression-ends is k (records.scanned e next n) = refl

  inputs_end : (d : records.Declared) → formula_of (inputs_then t d) ≡ go_on (declared_of d) scanned
  inputs_end (records.refused r) = refl
  inputs_end (records.declared is k) = expression-ends is k (records.scan (suc most_nesting) t k 0)

  pub too_long : most_bytes < length t → Err TooLong ≡ formula_of (front_of t)
  unfolding front_of
  too_long h = rw (lt-leb (length t) most_bytes h, front_of)

  -- a formula of few enough bytes
  module _ (h : length t ≤ most_bytes) {d : Result Declared Refusal} (p : d ≡ declared_of (inputs_at most_inputs t 0)) where
    pub front-after : go_on d scanned ≡ formula_of (front_of t)
    unfolding front_of
    front-after = rw (le-leb (length t) most_bytes h, front_of) (ap (λ z. go_on z scanned) p ∙ sym (inputs_end (inputs_at most_inputs t 0)))

    pub undeclared : {r : Refusal} → d ≡ Err r → Err r ≡ formula_of (front_of t)
    undeclared q = ap (λ z. go_on z scanned) (sym q) ∙ front-after

    module _ {e : Declared} (q : d ≡ Ok e) {s : Result Scanned Refusal} (u : s ≡ scanned_of (records.scan (suc most_nesting) t e.end 0)) where
      pub front-ended : go_on s (λ z. Ok (found e z)) ≡ formula_of (front_of t)
      front-ended = ap (λ z. go_on z (λ y. Ok (found e y))) u ∙ (ap (λ z. go_on z scanned) (sym q) ∙ front-after)

      pub unscanned : {r : Refusal} → s ≡ Err r → Err r ≡ formula_of (front_of t)
      unscanned v = ap (λ z. go_on z (λ y. Ok (found e y))) (sym v) ∙ front-ended

      pub all-scanned : {x : Scanned} → s ≡ Ok x → Ok (found e x) ≡ formula_of (front_of t)
      all-scanned v = ap (λ z. go_on z (λ y. Ok (found e y))) (sym v) ∙ front-ended

  -- nothing behind the expression
  abbrev alone : Formula → Result Formula Refusal
  alone f = go_on (ended t f.end) (λ u. Ok f)

  formula-ends : (f : Front) → formula_of (formula_end t f) ≡ go_on (formula_of f) alone
  formula-ends (refused r) = refl
  formula-ends (front is k e next) = go (eqb next (length t))
    where
      go :
          (b : Bool)
          → formula_of (elim b [ true ↦ front is k e next | false ↦ refused (NoRecord next) ])
          ≡ go_on (elim b as (λ z. Result Unit Refusal) [ true ↦ Ok tt | false ↦ Err (NoRecord next) ])
          (λ u. Ok (record { inputs = length is; expression = k; end = next }))
      go true = refl
      go false = refl

  module _ {r : Result Formula Refusal} (p : r ≡ formula_of (front_of t)) where
    pub read-alone : go_on r alone ≡ formula_of (read_formula t)
    read-alone = ap (λ z. go_on z alone) p ∙ sym (formula-ends (front_of t))

    pub unread : {f : Refusal} → r ≡ Err f → Err f ≡ formula_of (read_formula t)
    unread q = ap (λ z. go_on z alone) (sym q) ∙ read-alone

    module _ {f : Formula} (q : r ≡ Ok f) {u : Result Unit Refusal} (e : u ≡ ended t f.end) where
      alone-by : go_on u (λ z. Ok f) ≡ formula_of (read_formula t)
      alone-by = ap (λ z. go_on z (λ y. Ok f)) e ∙ (ap (λ z. go_on z alone) (sym q) ∙ read-alone)

      pub formula-left : {g : Refusal} → u ≡ Err g → Err g ≡ formula_of (read_formula t)
      formula-left v = ap (λ z. go_on z (λ y. Ok f)) (sym v) ∙ alone-by

      pub formula-whole : {w : Unit {0}} → u ≡ Ok w → Ok f ≡ formula_of (read_formula t)
      formula-whole v = ap (λ z. go_on z (λ y. Ok f)) (sym v) ∙ alone-by

  -- a formula's own end is the bytes', or not
  pub all_read : (f : Formula) → f.end ≡ length t → Ok f ≡ go_on (Ok f) alone
  all_read f e = rw (eq-eqb f.end (length t) e, go_on)

  pub left_over : (f : Formula) → (f.end ≡ length t → ⊥) → Err (NoRecord f.end) ≡ go_on (Ok f) alone
  left_over f n = rw (ne_eqb f.end (length t) n, go_on)

  -- the texts behind the expression, and nothing behind them
  abbrev job_by : Formula → ℕ → Result Job Refusal
  job_by f end = go_on (ended t end) (λ u. Ok (record { formula = f; end = end }))

  abbrev supplied : Formula → Result Job Refusal
  supplied f = go_on (texts_of (texts_at f.inputs t f.end)) (job_by f)

  texts-end :
      (is : List records.Input) (k : ℕ) (e : records.Raw) (next : ℕ) (x : records.Texts)
      → job_of t (texts_then t is k e next x) ≡ go_on (texts_of x) (job_by (record { inputs = length is; expression = k; end = next }))
  texts-end is k e next (records.refused r) = refl
  texts-end is k e next (records.texts ss end) = go (eqb end (length t)) refl
    where
      go :
          (b : Bool) → eqb end (length t) ≡ b
          → job_of t (elim b [ true ↦ records.job is k e next ss | false ↦ records.refused (NoRecord end) ])
          ≡ go_on (elim b as (λ z. Result Unit Refusal) [ true ↦ Ok tt | false ↦ Err (NoRecord end) ])
          (λ u. Ok (record { formula = record { inputs = length is; expression = k; end = next }; end = end }))
      go true p =
          ap (λ z. Ok (record { formula = record { inputs = length is; expression = k; end = next }; end = z })) (sym (eqb-true end (length t) p))
      go false p = refl

  pub all-texts : (f : Formula) (end : ℕ) → end ≡ length t → Ok (record { formula = f; end = end }) ≡ go_on (Ok end) (job_by f)
  all-texts f end e = rw (eq-eqb end (length t) e, go_on)

  pub more_bytes : (f : Formula) (end : ℕ) → (end ≡ length t → ⊥) → Err (NoRecord end) ≡ go_on (Ok end) (job_by f)
  more_bytes f end n = rw (ne_eqb end (length t) n, go_on)

  job-ends : (f : Front) → job_of t (job_end t f) ≡ go_on (formula_of f) supplied
  job-ends (refused r) = refl
  job-ends (front is k e next) = texts-end is k e next (texts_at (length is) t next)

  module _ {r : Result Formula Refusal} (p : r ≡ formula_of (front_of t)) where
    pub read-supplied : go_on r supplied ≡ job_of t (read_job t)
    read-supplied = ap (λ z. go_on z supplied) p ∙ sym (job-ends (front_of t))

    pub no-formula : {f : Refusal} → r ≡ Err f → Err f ≡ job_of t (read_job t)
    no-formula q = ap (λ z. go_on z supplied) (sym q) ∙ read-supplied

    module _ {f : Formula} (q : r ≡ Ok f) {x : Result ℕ Refusal} (v : x ≡ texts_of (texts_at f.inputs t f.end)) where
      texted : go_on x (job_by f) ≡ job_of t (read_job t)
      texted = ap (λ z. go_on z (job_by f)) v ∙ (ap (λ z. go_on z supplied) (sym q) ∙ read-supplied)

      pub no-texts : {g : Refusal} → x ≡ Err g → Err g ≡ job_of t (read_job t)
      no-texts w = ap (λ z. go_on z (job_by f)) (sym w) ∙ texted

      module _ {end : ℕ} (w : x ≡ Ok end) {u : Result Unit Refusal} (e : u ≡ ended t end) where
        ended-by : go_on u (λ z. Ok (record { formula = f; end = end })) ≡ job_of t (read_job t)
        ended-by = ap (λ z. go_on z (λ y. Ok (record { formula = f; end = end }))) e ∙ (ap (λ z. go_on z (job_by f)) (sym w) ∙ texted)

        pub job-left : {g : Refusal} → u ≡ Err g → Err g ≡ job_of t (read_job t)
        job-left y = ap (λ z. go_on z (λ a. Ok (record { formula = f; end = end }))) (sym y) ∙ ended-by

        pub job-whole : {a : Unit {0}} → u ≡ Ok a → Ok (record { formula = f; end = end }) ≡ job_of t (read_job t)
        job-whole y = ap (λ z. go_on z (λ a. Ok (record { formula = f; end = end }))) (sym y) ∙ ended-by
