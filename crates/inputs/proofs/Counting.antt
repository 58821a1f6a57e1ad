-- The counts that are kept of texts that are all values are those of the values' streams.
use Prim.Native.Nat.{ℕ, suc, ◌+◌, ◌*◌, ◌-◌, ◌≤◌}
use mathlib.Core.List.{List, [], ◌∷◌, ◌++◌, map}
use mathlib.Core.Option.{Option}
use mathlib.Core.Path.{◌≡◌, sym, ap, ap₂, subst, ◌∙◌}
use native.Mathlib.Omega.{arith}
use lib.ListN.{length, take, drop, length-append, length-drop}
use lib.Seq.{length-take-le, take-append-le, take-take, take_at, drop_at}
use Rattle.snesl.specs.declared.limits.Formula.{Formula}
use Rattle.snesl.specs.Limits.{most_inputs, most_depth}
use Rattle.snesl.specs.declared.code.Base.{Base}
use Rattle.snesl.specs.Values.{type_of, Val}
use Rattle.snesl.specs.Terms.{All, ∅, ◌▹◌}
use Rattle.snesl.specs.Streams.{len}
use Rattle.snesl.specs.Text.{value_of}
use Rattle.snesl.specs.Finder.{span_of}
use Rattle.snesl.specs.Records.{byte_at, Input, input_at, Span, span_at}
use Rattle.snesl.specs.Checking.{input_types}
use Rattle.snesl.specs.Inputs.{right, input_values}
use Rattle.snesl.proofs.Types.{depth-of-type}
use Rattle.formula.specs.Declarations.{base_at}
use Rattle.valuetext.specs.Storing.{value_store, counts_if}
use Rattle.valuetext.proofs.Represented.{lens-length}
use Rattle.inputs.specs.Supply.{Read, per_input, tallied, Tallies, Counted}
use Rattle.inputs.proofs.Supplying.{type_at, Supplied, supplied-none, supplied-more, inputs-supplied, inputs-few}
use Rattle.inputs.proofs.Checking.{first-tallied}
use Rattle.inputs.proofs.AllLoaded.{values-apart}

-- a value's counts in front of others
abbrev new : (β : Base) (d : ℕ) → Val (type_of β d) → List ℕ → List ℕ
new β d v cs = map len (value_store (type_of β d) v) ++ drop (suc d) cs

-- nine places are its own
module _ (β : Base) (d : ℕ) (v : Val (type_of β d)) (cs : List ℕ) (rest : List ℕ → List ℕ) (shallow : d ≤ most_depth) (long : per_input ≤ length cs) where
  new-long : length (new β d v cs) ≡ length cs
  new-long = length-append (map len (value_store (type_of β d) v)) (drop (suc d) cs) ∙ omega (arith, lens-length β d (v ∷ []), length-drop (suc d) cs)

  own-long : length (take per_input (new β d v cs)) ≡ per_input
  own-long = length-take-le per_input (new β d v cs) (omega (arith, new-long))

  own : take (suc d) (take per_input (new β d v cs) ++ rest (drop per_input (new β d v cs))) ≡ map len (value_store (type_of β d) v)
  own =
      take-append-le (suc d) (take per_input (new β d v cs)) (rest (drop per_input (new β d v cs))) (omega (arith, own-long))
      ∙ take-take (suc d) per_input (new β d v cs) (omega arith)
      ∙ take_at (map len (value_store (type_of β d) v)) (drop (suc d) cs) (suc d) (lens-length β d (v ∷ []))

  others : drop per_input (take per_input (new β d v cs) ++ rest (drop per_input (new β d v cs))) ≡ rest (drop per_input (new β d v cs))
  others = drop_at (take per_input (new β d v cs)) (rest (drop per_input (new β d v cs))) per_input own-long

tallies-of : (t : List ℕ) {left at k : ℕ} {is : List Input} {ss : List Span} → Supplied t left at k is ss → (vs : All Val (input_types is))
    → input_values t is ss ≡ right vs → (cs : List ℕ) → per_input * left ≤ length cs → Tallies vs (tallied t is ss cs)
unfolding tallied Tallies input_values
tallies-of t supplied-none ∅ e cs h = tt
tallies-of t (supplied-more {n = m} {at = at} {k = k} {is = is} {ss = ss} f s g r) (v ▹ vs) e cs h =
    let both = values-apart (type_at t at) (k + 4 - 4) (value_of (type_at t at) (span_of t (span_at t k))) (input_values t is ss) v vs e in
    let long : per_input ≤ length cs = omega arith in
    let kept = ap (λ (o : Option (Val (type_at t at))). counts_if (base_at t at) (byte_at t (at + 3)) o cs) both.0 in
    let all : tallied t (input_at t at (base_at t at) ∷ is) (span_at t k ∷ ss) cs
    ≡ take per_input (new (base_at t at) (byte_at t (at + 3)) v cs) ++ tallied t is ss (drop per_input (new (base_at t at) (byte_at t (at + 3)) v cs)) =
    first-tallied t at k is ss cs v both.0 ∙ ap (λ (x : List ℕ). take per_input x ++ tallied t is ss (drop per_input x)) kept in
    let rest-long : per_input * m ≤ length (drop per_input (new (base_at t at) (byte_at t (at + 3)) v cs)) =
    omega (arith, length-drop per_input (new (base_at t at) (byte_at t (at + 3)) v cs), new-long (base_at t at) (byte_at t (at + 3)) v cs (tallied t is ss) s long) in (
      ap (λ (n : ℕ). take (suc n) (tallied t (input_at t at (base_at t at) ∷ is) (span_at t k ∷ ss) cs)) (depth-of-type (base_at t at) (byte_at t (at + 3)))
          ∙ ap (take (suc (byte_at t (at + 3)))) all ∙ own (base_at t at) (byte_at t (at + 3)) v cs (tallied t is ss) s long,
      subst (Tallies vs) (sym (ap (drop per_input) all ∙ others (base_at t at) (byte_at t (at + 3)) v cs (tallied t is ss) s long))
          (tallies-of t r vs both.1 (drop per_input (new (base_at t at) (byte_at t (at + 3)) v cs)) rest-long),
    )

-- what was read of a job is one
same_read : {t : List ℕ} {f f' : Formula} (g : Read t f) (h : Read t f') → (g.inputs ≡ h.inputs) × (g.spans ≡ h.spans)
same_read g h =
    let e = sym g.read ∙ h.read in
    let a : g.inputs ≡ h.inputs = cc in
    let b : g.spans ≡ h.spans = cc in
    (a, b)

pub counted-all : {t : List ℕ} {f : Formula} (g : Read t f) (cs₀ : List ℕ) {cs : List ℕ} → cs ≡ tallied t g.inputs g.spans cs₀
    → per_input * most_inputs ≤ length cs₀ → length cs ≡ length cs₀ → Counted t cs
counted-all {t} g cs₀ {cs} e h l =
    record {
      long = omega arith;
      tallies =
          λ v.
          let same = same_read g v.job in
          let all : tallied t v.job.inputs v.job.spans cs₀ ≡ cs = sym (e ∙ ap₂ (λ (x : List Input) (y : List Span). tallied t x y cs₀) same.0 same.1) in
          let few = inputs-few v.job in
          subst (Tallies v.given) all
          (tallies-of t (inputs-supplied v.job) v.given v.values cs₀ (omega arith));
    }
