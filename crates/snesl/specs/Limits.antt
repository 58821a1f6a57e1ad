-- 01, "The formula and the job": the limits. src/limits.rt proves its constants equal to these.
use Rattle.std.specs.Prelude.{ℕ, min}
use Rattle.snesl.specs.declared.limits.Formula.{Formula}
use Rattle.snesl.specs.declared.limits.FormulaLimits.{FormulaLimits}
use Rattle.snesl.specs.declared.limits.Job.{Job}
use Rattle.snesl.specs.declared.limits.Buffer.{Buffer}

-- a job or a formula
abbrev pub most_bytes : ℕ
most_bytes = 65536

abbrev pub most_inputs : ℕ
most_inputs = 16

-- expression records
abbrev pub most_records : ℕ
most_records = 256

-- LT, EA and GU records round another
abbrev pub most_nesting : ℕ
most_nesting = 64

-- variables in a using list
abbrev pub most_listed : ℕ
most_listed = 8

-- a type's depth
abbrev pub most_depth : ℕ
most_depth = 8

abbrev pub last_variable : ℕ
last_variable = 63

-- the used part of a stream buffer
abbrev pub most_elements : ℕ
most_elements = 16384

-- all of it where fewer are lent
abbrev pub used_of : (lent : ℕ) → ℕ
used_of lent = min lent most_elements

abbrev pub formula_limits : FormulaLimits
formula_limits =
    record {
      bytes = most_bytes;
      inputs = most_inputs;
      records = most_records;
      nesting = most_nesting;
      listed = most_listed;
      depth = most_depth;
      variable = last_variable;
    }

abbrev pub no_formula : Formula
no_formula = record { inputs = 0; expression = 0; end = 0 }

abbrev pub no_job : Job
no_job = record { formula = no_formula; end = 0 }

abbrev pub no_streams : Buffer
no_streams = record { streams = 0; room = 0 }
