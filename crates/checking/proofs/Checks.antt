-- The check of a formula that was read, from its parts: the inputs that were entered and the expression that was walked.
use Prim.Native.Nat.{ℕ, suc, ◌+◌, ◌*◌, ◌≤◌}
use mathlib.Core.Bool.{Bool, true, false}
use mathlib.Core.List.{List}
use mathlib.Core.Path.{◌≡◌, refl, sym, ap, ◌∙◌}
use native.Mathlib.Omega.{arith}
use lib.Dec.{eqb, leb}
use lib.ListN.{length, drop}
use Rattle.snesl.specs.declared.limits.Formula.{Formula}
use Rattle.snesl.specs.declared.limits.Job.{Job}
use Rattle.snesl.specs.declared.refusal.Refusal.{Refusal}
use Rattle.snesl.specs.declared.refusal.Refusal.TheVariants.{TooLong, NoRecord}
use Rattle.snesl.specs.Limits.{most_bytes, most_inputs, most_nesting, most_listed}
use Rattle.snesl.specs.Records as records
use Rattle.snesl.specs.Records.{Raw, Input, Front, front, front_of, inputs_at, inputs_then, expression_after, scan, scanned, formula_end, read_formula, texts_at, texts_then, job_end, read_job}
use Rattle.std.proofs.Common.{Result, Ok, Err}
use Rattle.scopes.specs.declared.scope.Binding.{Binding}
use Rattle.checking.specs.declared.check.Judged.{Judged}
use Rattle.checking.specs.declared.check.Judging.{Judging}
use Rattle.formula.specs.Reading.{formula_of, job_of}
use Rattle.checking.specs.Checks.{check_front, judge_front, entered_by, Declares, Top, Enters, judge, judging_of, Judgeable, Judges}
use Rattle.checking.proofs.Entering.{few, whole}
use Rattle.checking.proofs.Walks.{was-refused, was-found}
use Rattle.checking.proofs.Judging.{entry_then, formula-is, type_only, type-of-front}

-- the parts of a formula that was read
record Parts (t : List ℕ) (f : Formula) : Type 0 where
  inputs : List Input
  expression : Raw
  after : ℕ
  read : front_of t ≡ front inputs f.expression expression f.end
  declares : inputs_at most_inputs t 0 ≡ records.declared inputs f.expression
  count : f.inputs ≡ length inputs
  scans : scan (suc most_nesting) t f.expression 0 ≡ scanned expression f.end after

module _ (t : List ℕ) (f : Formula) (p : Ok f ≡ formula_of (front_of t)) where
  parts : Parts t f
  unfolding front_of
  parts = go (leb (length t) most_bytes) refl p
    where
      inner :
          (is : List Input) (k : ℕ) → inputs_at most_inputs t 0 ≡ records.declared is k
          → (s : records.Scanned) → scan (suc most_nesting) t k 0 ≡ s → front_of t ≡ expression_after is k s
          → Ok f ≡ formula_of (expression_after is k s) → Parts t f
      inner is k d (records.refused r) e w q = let z : ◌≡◌ {A = ℕ} 0 1 = cc in absurd (omega arith)
      inner is k d (scanned x next n) e w q =
          let same : f ≡ record { inputs = length is; expression = k; end = next } = cc in
          let start : k ≡ f.expression = ap (λ (z : Formula). z.expression) (sym same) in
          let end : next ≡ f.end = ap (λ (z : Formula). z.end) (sym same) in
          record {
            inputs = is;
            expression = x;
            after = n;
            read = w ∙ λ i. front is (start i) x (end i);
            declares = d ∙ ap (records.declared is) start;
            count = ap (λ (z : Formula). z.inputs) same;
            scans = ap (λ z. scan (suc most_nesting) t z 0) (sym start) ∙ (e ∙ ap (λ z. scanned x z n) end);
          }

      outer :
          (d : records.Declared) → inputs_at most_inputs t 0 ≡ d → front_of t ≡ inputs_then t d → Ok f ≡ formula_of (inputs_then t d)
          → Parts t f
      outer (records.refused r) e w q = let z : ◌≡◌ {A = ℕ} 0 1 = cc in absurd (omega arith)
      outer (records.declared is k) e w q = inner is k e (scan (suc most_nesting) t k 0) refl w q

      go :
          (b : Bool) → leb (length t) most_bytes ≡ b
          → Ok f
          ≡ formula_of (elim b [ true ↦ inputs_then t (inputs_at most_inputs t 0) | false ↦ records.refused TooLong ])
          → Parts t f
      go true e q = outer (inputs_at most_inputs t 0) refl (rw (e, front_of)) q
      go false e q = let z : ◌≡◌ {A = ℕ} 0 1 = cc in absurd (omega arith)

  pub declared-here : Declares t f.inputs
  declared-here = record { list = parts.inputs; next = f.expression; read = parts.declares; count = parts.count }

  pub few-inputs : f.inputs ≤ most_inputs
  few-inputs = omega (arith, parts.count, few t f.expression most_inputs 0 parts.inputs parts.declares)

  -- the whole check is the entry of the inputs and then the expression's
  judged-whole : (entry_then (entered_by (inputs_at most_inputs t 0)) (λ w. judge w parts.expression)) ≡ judge_front (front_of t)
  judged-whole =
      ap (λ z. (entry_then (entered_by z) (λ w. judge w parts.expression))) parts.declares
      ∙ (formula-is parts.inputs parts.expression ∙ ap judge_front (sym parts.read))

  pub entry-refused :
      (env : List Binding) (r : Refusal) → Enters (entered_by (inputs_at most_inputs t 0)) f.inputs env (Err r) → Err r ≡ judge_front (front_of t)
  entry-refused env r h = ap Err h.2 ∙ (ap (λ z. (entry_then z (λ w. judge w parts.expression))) (sym h.1) ∙ judged-whole)

  module _ {env : List Binding} {sp : ℕ} (h : Top (entered_by (inputs_at most_inputs t 0)) f.inputs env sp) (l : length env ≡ most_inputs + most_nesting * (1 + most_listed)) where
    pub walk-asked : Judgeable t f.expression (suc most_nesting) env sp (most_inputs + most_nesting * (1 + most_listed))
    walk-asked =
        record {
          count = 0;
          expression = parts.expression;
          next = f.end;
          after = parts.after;
          read = parts.scans;
          shallow = omega arith;
          room = omega (arith, h.at, few-inputs);
          order = omega (arith, h.at);
          high = omega arith;
        }

    module _
        {new : List Binding} {r : Result Judging Refusal}
        (v : Judges t f.expression (suc most_nesting) env sp (most_inputs + most_nesting * (1 + most_listed)) new r) where
      answered : r ≡ judging_of f.end (judge (drop sp env) parts.expression)
      unfolding walk-asked
      answered = v.answer walk-asked ∙ ap (λ z. judging_of f.end (judge z parts.expression)) (whole sp env _ l)

      is-checked : judge (drop sp env) parts.expression ≡ judge_front (front_of t)
      is-checked = ap (λ z. entry_then z (λ w. judge w parts.expression)) (sym h.bindings) ∙ judged-whole

      pub walk_refused : (q : Refusal) → r ≡ Err q → Err q ≡ judge_front (front_of t)
      walk_refused q e = sym (was-refused f.end (judge (drop sp env) parts.expression) (sym e ∙ answered)) ∙ is-checked

      pub walk-found : (j : Judging) → r ≡ Ok j → Ok (record { found = j.found; words = j.words }) ≡ judge_front (front_of t)
      walk-found j e = sym (was-found f.end (judge (drop sp env) parts.expression) (sym e ∙ answered)).1 ∙ is-checked

-- a formula that is read as a whole is the front of its bytes
module _ (t : List ℕ) where
  pub front_read : (f : Formula) → Ok f ≡ formula_of (read_formula t) → (Ok f ≡ formula_of (front_of t)) × (check_front (front_of t) ≡ check_front (read_formula t))
  front_read f e = go (front_of t) e
    where
      go : (x : Front) → Ok f ≡ formula_of (formula_end t x) → (Ok f ≡ formula_of x) × (check_front x ≡ check_front (formula_end t x))
      go (records.refused r) q = (q, refl)
      go (front is k x next) q = last (eqb next (length t)) q
        where
          last :
              (b : Bool) → Ok f ≡ formula_of (elim b [ true ↦ front is k x next | false ↦ records.refused (NoRecord next) ])
              → (Ok f ≡ formula_of (front is k x next))
              × (check_front (front is k x next) ≡ check_front (elim b [ true ↦ front is k x next | false ↦ records.refused (NoRecord next) ]))
          last true q = (q, refl)
          last false q = let z : ◌≡◌ {A = ℕ} 0 1 = cc in absurd (omega arith)

  pub front-checked : (f : Formula) → Ok f ≡ formula_of (read_formula t) → {r : Result Judged Refusal} → r ≡ judge_front (front_of t) → type_only r ≡ check_front (read_formula t)
  front-checked f e q = ap type_only q ∙ (type-of-front (front_of t) ∙ (front_read f e).1)

  pub refused-read : (r : Refusal) → Err r ≡ formula_of (read_formula t) → Err r ≡ check_front (read_formula t)
  refused-read r e = go (read_formula t) e
    where
      go : (x : Front) → Err r ≡ formula_of x → Err r ≡ check_front x
      go (records.refused f) q = cc
      go (front is k x next) q = let z : ◌≡◌ {A = ℕ} 0 1 = cc in absurd (omega arith)

  -- and so is the formula of a job that is read
  pub front-job : (j : Job) → Ok j ≡ job_of t (read_job t) → Ok j.formula ≡ formula_of (front_of t)
  front-job j e = go (front_of t) e
    where
      go : (x : Front) → Ok j ≡ job_of t (job_end t x) → Ok j.formula ≡ formula_of x
      go (records.refused r) q = let z : ◌≡◌ {A = ℕ} 0 1 = cc in absurd (omega arith)
      go (front is k x next) q = texts-read (texts_at (length is) t next) q
        where
          texts-read :
              (y : records.Texts) → Ok j ≡ job_of t (texts_then t is k x next y)
              → Ok j.formula ≡ formula_of (front is k x next)
          texts-read (records.refused r) q = let z : ◌≡◌ {A = ℕ} 0 1 = cc in absurd (omega arith)
          texts-read (records.texts ss end) q = last (eqb end (length t)) q
            where
              last :
                  (b : Bool) → Ok j ≡ job_of t (elim b [ true ↦ records.job is k x next ss | false ↦ records.refused (NoRecord end) ])
                  → Ok j.formula ≡ formula_of (front is k x next)
              last true q =
                  let same : j ≡ record { formula = record { inputs = length is; expression = k; end = next }; end = length t } = cc in
                  ap (λ (z : Job). Ok z.formula) same
              last false q = let z : ◌≡◌ {A = ℕ} 0 1 = cc in absurd (omega arith)
