-- Refusals 1 to 7 (01): what the run makes of a job before anything is written.
use Rattle.std.specs.Prelude.{ℕ, List, length, Result, Ok, Err}
use Rattle.snesl.specs.declared.limits.Formula.{Formula}
use Rattle.snesl.specs.declared.refusal.Refusal.{Refusal}
use Rattle.snesl.specs.declared.refusal.Refusal.TheVariants.{NoValueText}
use Rattle.snesl.specs.Values.{ValueType, base_of}
use Rattle.snesl.specs.Records as records
use Rattle.snesl.specs.Checking as checking
use Rattle.snesl.specs.Inputs.{Values, wrong, right, input_values}
use Rattle.environment.specs.Needs.{words}
use Rattle.inputs.specs.Supply.{tallied}
use Rattle.sheet.specs.declared.admission.Task.{Task}

-- 7
abbrev pub admission_valued : {τs : List ValueType} → Task → Values τs → Result Task Refusal
admission_valued a (wrong p) = Err (NoValueText p)
admission_valued a (right vs) = Ok a

-- 5 and 6
abbrev pub admission_typed : List ℕ → Formula → (is : List records.Input) → List records.Span → checking.Typed (checking.context is) → Result Task Refusal
admission_typed t f is ss (checking.Typed.refused r) = Err r
admission_typed t f is ss (checking.typed τ e) = admission_valued (record { formula = f; base = base_of τ; words = words e }) (input_values t is ss)

-- 1 to 4
abbrev pub admission_read : List ℕ → records.JobRead → Result Task Refusal
admission_read t (records.JobRead.refused r) = Err r
admission_read t (records.job is k e next ss) =
    admission_typed t (record { inputs = length is; expression = k; end = next }) is ss (checking.check_formula is e)

abbrev pub admission : List ℕ → Result Task Refusal
admission t = admission_read t (records.read_job t)

-- ---- the counts of the inputs' texts, which are read where none of 1 to 6 is met

abbrev pub counts_typed : List ℕ → (is : List records.Input) → List records.Span → checking.Typed (checking.context is) → List ℕ → List ℕ
counts_typed t is ss (checking.Typed.refused r) counts = counts
counts_typed t is ss (checking.typed τ e) counts = tallied t is ss counts

abbrev pub counts_read : List ℕ → records.JobRead → List ℕ → List ℕ
counts_read t (records.JobRead.refused r) counts = counts
counts_read t (records.job is k e next ss) counts = counts_typed t is ss (checking.check_formula is e) counts

abbrev pub admission_counts : List ℕ → List ℕ → List ℕ
admission_counts t counts = counts_read t (records.read_job t) counts
