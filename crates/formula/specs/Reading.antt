-- What the readers answer of what snesl's definitions read: positions and counts, since the records stay in the bytes.
use Rattle.std.specs.Prelude.{ℕ, ◌+◌, Bool, true, false, ◌&&◌, List, eqb, ltb, leb, length, Option, Some, None, Result, Ok, Err}
use Rattle.snesl.specs.declared.limits.Formula.{Formula}
use Rattle.snesl.specs.declared.limits.Job.{Job}
use Rattle.snesl.specs.declared.refusal.Refusal.{Refusal}
use Rattle.snesl.specs.declared.refusal.Refusal.TheVariants.{NoRecord, OverLimit, TooMany}
use Rattle.snesl.specs.Limits.{most_records, most_depth, last_variable}
use Rattle.snesl.specs.Records as records
use Rattle.snesl.specs.Records.{mark_at, mark_va, byte_at, span_at}
use Rattle.formula.specs.declared.read.Asks.{Asks}
use Rattle.formula.specs.declared.read.Asks.TheVariants as asks
use Rattle.formula.specs.declared.read.Scanned.{Scanned}
use Rattle.formula.specs.declared.read.Declared.{Declared}
use Rattle.formula.specs.Declarations.{is_input}

-- what the record at k asks of a scan, and where it ends
abbrev pub asked_of : (k : ℕ) → records.Head → Result Asks Refusal
asked_of k records.absent = Err (NoRecord k)
asked_of k records.over = Err (OverLimit k)
asked_of k (records.single e b) = Ok (asks.Leaf (k + b))
asked_of k (records.letting x) = Ok (asks.Let (k + 3))
asked_of k (records.eaching x y us b) = Ok (asks.Nested (k + b))
asked_of k (records.guarding g us b) = Ok (asks.Nested (k + b))

-- one more record at k, unless there are as many records or nestings as are allowed
abbrev pub admitted : (levels k n : ℕ) → Result Unit Refusal
admitted levels k n = elim (ltb 0 levels && ltb n most_records) [ true ↦ Ok tt | false ↦ Err (TooMany k) ]

abbrev pub scanned_of : records.Scanned → Result Scanned Refusal
scanned_of (records.refused r) = Err r
scanned_of (records.scanned e k n) = Ok (record { end = k; records = n })

-- the place of an input record at k
unfoldable pub entry_at : List ℕ → (k : ℕ) → Result Bool Refusal
entry_at t k =
    elim (is_input (mark_at t k)) [
      | true ↦
          elim (leb (k + 4) (length t)) [
            | true ↦ elim (leb (byte_at t (k + 2)) last_variable && leb (byte_at t (k + 3)) most_depth) [ true ↦ Ok true | false ↦ Err (OverLimit k) ]
            | false ↦ Err (NoRecord k)
          ]
      | false ↦ Ok false
    ]

-- how many inputs, and the position behind them
abbrev pub declared_of : records.Declared → Result Declared Refusal
declared_of (records.refused r) = Err r
declared_of (records.declared is k) = Ok (record { inputs = length is; end = k })

-- the position behind the VA record at k
unfoldable pub text_at : List ℕ → ℕ → Option ℕ
text_at t k =
    elim (eqb (mark_at t k) mark_va && (leb (k + 4) (length t) && leb (k + 4 + (span_at t k).bytes) (length t)))
    [ true ↦ Some (k + 4 + (span_at t k).bytes) | false ↦ None ]

-- the position behind the texts
abbrev pub texts_of : records.Texts → Result ℕ Refusal
texts_of (records.refused r) = Err r
texts_of (records.texts ss k) = Ok k

-- nothing stands behind what ends there
abbrev pub ended : List ℕ → (end : ℕ) → Result Unit Refusal
ended t end = elim (eqb end (length t)) [ true ↦ Ok tt | false ↦ Err (NoRecord end) ]

abbrev pub formula_of : records.Front → Result Formula Refusal
formula_of (records.refused r) = Err r
formula_of (records.front is k e next) = Ok (record { inputs = length is; expression = k; end = next })

-- nothing stands behind a job's texts, so they end where its bytes t do
abbrev pub job_of : List ℕ → records.JobRead → Result Job Refusal
job_of t (records.refused r) = Err r
job_of t (records.job is k e next ss) =
    Ok (record { formula = record { inputs = length is; expression = k; end = next }; end = length t })
