-- The inputs of a job that was read: what each input's record and its VA record say, and whether all texts are values.
use Rattle.std.specs.Prelude.{Result, Ok, Err, ℕ, suc, ◌*◌, ◌≤◌, List, [], ◌∷◌, ◌++◌, map, ◌≡◌, length, take, drop}
use Rattle.std.proofs.Math.Option.{Option, some, none}
use Rattle.snesl.specs.declared.limits.Formula.{Formula}
use Rattle.snesl.specs.Limits.{most_inputs, most_depth}
use Rattle.snesl.specs.Terms.{All, ∅, ◌▹◌}
use Rattle.snesl.specs.Values.{ValueType, depth_of, Val}
use Rattle.snesl.specs.Streams.{len}
use Rattle.snesl.specs.Text.{value_of}
use Rattle.snesl.specs.Finder.{span_of}
use Rattle.snesl.specs.Records.{Raw, Input, Span, job, read_job}
use Rattle.snesl.specs.Checking.{input_type, input_types}
use Rattle.snesl.specs.Inputs.{Values, wrong, right, input_values}
use Rattle.valuetext.specs.Storing.{value_store, counts_after}
use Rattle.snesl.specs.declared.refusal.Refusal.{Refusal}
use Rattle.snesl.specs.declared.refusal.Refusal.TheVariants.{NoValueText}

-- these bytes are a job's, and its formula is this one
pub record Read (t : List ℕ) (f : Formula) : Type 0 where
  pub inputs : List Input
  pub expression : ℕ
  pub raw : Raw
  pub next : ℕ
  pub spans : List Span
  pub read : read_job t ≡ job inputs expression raw next spans
  pub formula : f ≡ record { inputs = length inputs; expression = expression; end = next }

-- 7 over all inputs
abbrev pub texts_of : {τs : List ValueType} → Values τs → Result Unit Refusal
texts_of (wrong p) = Err (NoValueText p)
texts_of (right vs) = Ok tt

-- how many counts are kept for an input: one for each level of the deepest value
abbrev pub per_input : ℕ
per_input = suc most_depth

-- a text that is a value keeps its counts, and the others follow
abbrev pub tally_first : (τ : ValueType) → Option (Val τ) → List ℕ → (List ℕ → List ℕ) → List ℕ
tally_first τ none counts others = counts
tally_first τ (some v) counts others = take per_input counts ++ others (drop per_input counts)

-- the counts of these inputs' texts, up to the first that is none of its type
unfoldable pub tallied : (job : List ℕ) → (is : List Input) → List Span → (counts : List ℕ) → List ℕ
tallied t [] ss counts = counts
tallied t (i ∷ is) [] counts = counts
tallied t (i ∷ is) (s ∷ ss) counts =
    tally_first (input_type i) (value_of (input_type i) (span_of t s)) (counts_after i.base i.depth (span_of t s) counts) (tallied t is ss)

-- a job all of whose texts are values
pub record Valued (t : List ℕ) (f : Formula) : Type 0 where
  pub job : Read t f
  pub given : All Val (input_types job.inputs)
  pub values : input_values t job.inputs job.spans ≡ right given

-- the counts of all values, in order
unfoldable pub Tallies : {τs : List ValueType} → All Val τs → (counts : List ℕ) → Type 0
Tallies ∅ counts = Unit
Tallies (◌▹◌ {τ = τ} v vs) counts = (take (suc (depth_of τ)) counts ≡ map len (value_store τ v)) × Tallies vs (drop per_input counts)

-- they are kept for a job whose texts are values
pub record Counted (t : List ℕ) (counts : List ℕ) : Type 0 where
  pub long : per_input * most_inputs ≤ length counts
  pub tallies : {f : Formula} (g : Valued t f) → Tallies g.given counts
