-- Refusals 1 to 7 step by step, and what the job's outcome is where one of them is met or none.
use Prim.Native.Nat.{ℕ, ◌≤◌}
use mathlib.Core.Bool.{Bool, true, false}
use mathlib.Core.List.{List}
use mathlib.Core.Path.{◌≡◌, refl, sym, ap, subst, ◌∙◌}
use native.Mathlib.Omega.{arith}
use lib.Dec.{eqb}
use lib.IntN.{ℤ}
use lib.ListN.{length}
use Rattle.laws.proofs.Never.{never}
use Rattle.snesl.specs.declared.limits.Formula.{Formula}
use Rattle.snesl.specs.declared.limits.Job.{Job}
use Rattle.snesl.specs.declared.refusal.Refusal.{Refusal}
use Rattle.snesl.specs.declared.refusal.Refusal.TheVariants.{NoRecord, NoValueText}
use Rattle.snesl.specs.Limits.{used_of}
use Rattle.snesl.specs.Values.{ValueType, base_of}
use Rattle.snesl.specs.Terms.{Term}
use Rattle.snesl.specs.Records as records
use Rattle.snesl.specs.Records.{Raw, Input, Span, JobRead, job, read_job, Front, front, front_of, job_end, texts_then, texts_at}
use Rattle.snesl.specs.Checking as checking
use Rattle.snesl.specs.Checking.{Typed, typed, context, input_types, check_formula}
use Rattle.snesl.specs.Inputs.{Values, wrong, right, input_values}
use Rattle.snesl.specs.Outcome.{refusal, outcome_read, outcome_typed, valued, outcome, streams_refused}
use Rattle.snesl.proofs.Formed.{job-formed}
use Rattle.snesl.proofs.Jobs.EarlyRefusals.{early-keeps, reading-refuses-early, checking-refuses-early}
use Rattle.formula.specs.Reading.{formula_of, job_of}
use Rattle.scopes.specs.Types.{told}
use Rattle.checking.specs.Checks.{judged_of, judge_front}
use Rattle.checking.specs.declared.check.Judged.{Judged}
use Rattle.environment.specs.Needs.{words}
use Rattle.leaves.specs.Places.{shallow-none, most_words}
use Rattle.runner.proofs.Measures.{words-most}
use Rattle.inputs.specs.Supply.{Read, texts_of, tallied}
use Rattle.inputs.proofs.Supplying.{inputs-supplied, inputs-few}
use Rattle.sheet.specs.declared.admission.Task.{Task}
use Rattle.std.specs.Prelude.{Result, Ok, Err}
use Rattle.sheet.specs.Admission.{admission_valued, admission_typed, admission_read, admission, counts_typed, counts_read, admission_counts}
use Rattle.sheet.specs.Runs as runs
use Rattle.sheet.proofs.Needing.{inputs-shallow}

-- ---- step by step

module _ (t : List ℕ) where
  pub refused-read : (r : Refusal) → Err r ≡ job_of t (read_job t) → Err r ≡ admission t
  refused-read r e = go (read_job t) e
    where
      go : (j : JobRead) → Err r ≡ job_of t j → Err r ≡ admission_read t j
      go (records.JobRead.refused s) q = let same : r ≡ s = cc in ap Err same
      go (job is k e next ss) q = never (cc)

  pub kept_read : (r : Refusal) → Err r ≡ job_of t (read_job t) → (cs : List ℕ) → cs ≡ admission_counts t cs
  kept_read r e cs = go (read_job t) e
    where
      go : (j : JobRead) → Err r ≡ job_of t j → cs ≡ counts_read t j cs
      go (records.JobRead.refused s) q = refl
      go (job is k e next ss) q = never (cc)

  pub job-found : (j : Job) → Ok j ≡ job_of t (read_job t) → Read t j.formula
  job-found j e = go (read_job t) refl e
    where
      go : (x : JobRead) → read_job t ≡ x → Ok j ≡ job_of t x → Read t j.formula
      go (records.JobRead.refused s) p q = never (cc)
      go (job is k e next ss) p q =
          let same : j ≡ record { formula = record { inputs = length is; expression = k; end = next }; end = length t } = cc in
          record {
            inputs = is;
            expression = k;
            raw = e;
            next = next;
            spans = ss;
            read = p;
            formula = ap (λ (z : Job). z.formula) same;
          }

  -- the front of a job
  front_of_lem : (is : List Input) (k : ℕ) (e : Raw) (next : ℕ) (ss : List Span) → read_job t ≡ job is k e next ss → front_of t ≡ front is k e next
  front_of_lem is k e next ss = fronts (front_of t) refl
    where
      last : (is' : List Input) (k' : ℕ) (e' : Raw) (next' end : ℕ) (ss' : List Span) (b : Bool) → front_of t ≡ front is' k' e' next'
          → elim b [ true ↦ job is' k' e' next' ss' | false ↦ records.JobRead.refused (NoRecord end) ] ≡ job is k e next ss
          → front_of t ≡ front is k e next
      last is' k' e' next' end ss' true p q =
          let a : is' ≡ is = cc in
          let b : k' ≡ k = cc in
          let c : e' ≡ e = cc in
          let d : next' ≡ next = cc in
          p ∙ (λ i. front (a i) (b i) (c i) (d i))
      last is' k' e' next' end ss' false p q = never (cc)

      all : (is' : List Input) (k' : ℕ) (e' : Raw) (next' : ℕ) (x : records.Texts) → front_of t ≡ front is' k' e' next'
          → texts_then t is' k' e' next' x ≡ job is k e next ss
          → front_of t ≡ front is k e next
      all is' k' e' next' (records.Texts.refused r) p q = never (cc)
      all is' k' e' next' (records.texts ss' end) p q = last is' k' e' next' end ss' (eqb end (length t)) p q

      fronts : (f : Front) → front_of t ≡ f → job_end t f ≡ job is k e next ss → front_of t ≡ front is k e next
      fronts (records.Front.refused r) p q = never (cc)
      fronts (front is' k' e' next') p q = all is' k' e' next' (texts_at (length is') t next') p q

  module _ {f : Formula} (g : Read t f) where
    the-front : front_of t ≡ front g.inputs g.expression g.raw g.next
    the-front = front_of_lem g.inputs g.expression g.raw g.next g.spans g.read

    pub front-found : Ok f ≡ formula_of (front_of t)
    front-found = ap Ok g.formula ∙ sym (ap formula_of the-front)

    admission-is : admission t ≡ admission_typed t f g.inputs g.spans (check_formula g.inputs g.raw)
    admission-is =
        ap (admission_read t) g.read
        ∙ ap (λ (h : Formula). admission_typed t h g.inputs g.spans (check_formula g.inputs g.raw)) (sym g.formula)

    pub refused-typed : (r : Refusal) → Err r ≡ judge_front (front_of t) → Err r ≡ admission t
    refused-typed r e = go (check_formula g.inputs g.raw) (e ∙ ap judge_front the-front) ∙ sym admission-is
      where
        go : (y : Typed (context g.inputs)) → Err r ≡ judged_of y → Err r ≡ admission_typed t f g.inputs g.spans y
        go (checking.Typed.refused s) q = let same : r ≡ s = cc in ap Err same
        go (typed τ e) q = never (cc)

    counts-are : (cs : List ℕ) → admission_counts t cs ≡ counts_typed t g.inputs g.spans (check_formula g.inputs g.raw) cs
    counts-are cs = ap (λ (j : JobRead). counts_read t j cs) g.read

    pub kept-typed : (r : Refusal) → Err r ≡ judge_front (front_of t) → (cs : List ℕ) → cs ≡ admission_counts t cs
    kept-typed r e cs = go (check_formula g.inputs g.raw) (e ∙ ap judge_front the-front) ∙ sym (counts-are cs)
      where
        go : (y : Typed (context g.inputs)) → Err r ≡ judged_of y → cs ≡ counts_typed t g.inputs g.spans y cs
        go (checking.Typed.refused s) q = refl
        go (typed τ e) q = never (cc)

    module _ (j : Judged) (e : Ok j ≡ judge_front (front_of t)) where
      abbrev pub task : Task
      task = record { formula = f; base = j.found.base; words = j.words }

      pub tallied-all : (cs : List ℕ) → tallied t g.inputs g.spans cs ≡ admission_counts t cs
      tallied-all cs = go (check_formula g.inputs g.raw) (e ∙ ap judge_front the-front) ∙ sym (counts-are cs)
        where
          go : (y : Typed (context g.inputs)) → Ok j ≡ judged_of y → tallied t g.inputs g.spans cs ≡ counts_typed t g.inputs g.spans y cs
          go (checking.Typed.refused s) q = never (cc)
          go (typed τ e) q = refl

      valued-is : admission t ≡ admission_valued task (input_values t g.inputs g.spans)
      valued-is = admission-is ∙ go (check_formula g.inputs g.raw) (e ∙ ap judge_front the-front)
        where
          go : (y : Typed (context g.inputs)) → Ok j ≡ judged_of y
              → admission_typed t f g.inputs g.spans y ≡ admission_valued task (input_values t g.inputs g.spans)
          go (checking.Typed.refused s) q = never (cc)
          go (typed τ e) q =
              let same : record { found = told τ; words = words e } ≡ j = cc in
              λ i. admission_valued (record { formula = f; base = (same i).found.base; words = (same i).words }) (input_values t g.inputs g.spans)

      pub refused-valued : (r : Refusal) → Err r ≡ texts_of (input_values t g.inputs g.spans) → Err r ≡ admission t
      refused-valued r q = go (input_values t g.inputs g.spans) q ∙ sym valued-is
        where
          go : (v : Values (input_types g.inputs)) → Err r ≡ texts_of v → Err r ≡ admission_valued task v
          go (wrong k) q = let same : r ≡ NoValueText k = cc in ap Err same
          go (right vs) q = never (cc)

      pub admitted : Ok tt ≡ texts_of (input_values t g.inputs g.spans) → Ok task ≡ admission t
      admitted q = go (input_values t g.inputs g.spans) q ∙ sym valued-is
        where
          go : (v : Values (input_types g.inputs)) → Ok tt ≡ texts_of v → Ok task ≡ admission_valued task v
          go (wrong k) q = never (cc)
          go (right vs) q = refl

-- ---- the outcome

-- the words that an admitted job needs are enough for it, and no more than the most
abbrev pub Enough : List ℕ → Task → Type 0
Enough t a = runs.Admitted t a (runs.need_of a) × (runs.need_of a ≤ most_words)

-- a refusal that writes nothing
pub record Turned (t : List ℕ) (r : Refusal) : Type 0 where
  pub comes : (lent answer_lent : ℕ) → outcome t lent answer_lent ≡ refusal r
  pub keeps : (old : List ℤ) → streams_refused old r ≡ old

module _ (t : List ℕ) where
  -- by the way to the admission
  abbrev Says : Result Task Refusal → Type 0
  Says (Err r) = Turned t r
  Says (Ok a) = Enough t a

  says : Says (admission t)
  says = read (read_job t) refl
    where
      values : (is : List Input) (k : ℕ) (e : Raw) (next : ℕ) (ss : List Span) → read_job t ≡ job is k e next ss
          → (τ : ValueType) (u : Term (context is) τ) → check_formula is e ≡ typed τ u
          → (v : Values (input_types is)) → input_values t is ss ≡ v
          → Says (admission_valued (record { formula = record { inputs = length is; expression = k; end = next }; base = base_of τ; words = words u }) v)
      values is k e next ss r τ u c (wrong p) h =
          record {
            comes =
                λ lent answer_lent.
                ap (outcome_read t (used_of lent) answer_lent) r
                ∙ ap (outcome_typed t (used_of lent) answer_lent is ss) c
                ∙ ap (valued (used_of lent) answer_lent is u) h;
            keeps = λ old. refl;
          }
      values is k e next ss r τ u c (right vs) h =
          let found : Read t (record { inputs = length is; expression = k; end = next }) =
          record { inputs = is; expression = k; raw = e; next = next; spans = ss; read = r; formula = refl } in
          let most = words-most (job-formed t r c).formed (inputs-shallow (inputs-supplied found) shallow-none) in (
            record {
              accepted =
                  record {
                    inputs = is;
                    expression = k;
                    raw = e;
                    next = next;
                    spans = ss;
                    type = τ;
                    term = u;
                    given = vs;
                    read = r;
                    checked = c;
                    valued = h;
                  };
              formula = refl;
              base = refl;
              room = omega arith;
            },
            omega (arith, most, inputs-few found),
          )

      types : (is : List Input) (k : ℕ) (e : Raw) (next : ℕ) (ss : List Span) → read_job t ≡ job is k e next ss
          → (y : Typed (context is)) → check_formula is e ≡ y
          → Says (admission_typed t (record { inputs = length is; expression = k; end = next }) is ss y)
      types is k e next ss r (checking.Typed.refused why) c =
          record {
            comes = λ lent answer_lent. ap (outcome_read t (used_of lent) answer_lent) r ∙ ap (outcome_typed t (used_of lent) answer_lent is ss) c;
            keeps = λ old. early-keeps old (checking-refuses-early is e c);
          }
      types is k e next ss r (typed τ u) c = values is k e next ss r τ u c (input_values t is ss) refl

      read : (j : JobRead) → read_job t ≡ j → Says (admission_read t j)
      read (records.JobRead.refused why) r =
          record {
            comes = λ lent answer_lent. ap (outcome_read t (used_of lent) answer_lent) r;
            keeps = λ old. early-keeps old (reading-refuses-early t r);
          }
      read (job is k e next ss) r = types is k e next ss r (check_formula is e) refl

  pub turned : (r : Refusal) → Err r ≡ admission t → Turned t r
  turned r e = subst Says (sym e) says

  pub taken_in : (a : Task) → Ok a ≡ admission t → Enough t a
  taken_in a e = subst Says (sym e) says
