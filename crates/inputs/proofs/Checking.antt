-- Refusal 7 and the counts input by input: what is left to be told of all inputs is what is left of those that follow.
use Prim.Native.Nat.{ℕ, ◌+◌, ◌*◌, ◌-◌, ◌≤◌, ◌<◌}
use mathlib.Core.Bool.{Bool, true, false}
use mathlib.Core.List.{List, [], ◌∷◌, ◌++◌, append_assoc, append-nil}
use mathlib.Core.Option.{Option, some, none}
use mathlib.Core.Path.{◌≡◌, refl, sym, ap, ap₂, subst, ◌∙◌}
use native.Mathlib.Omega.{arith}
use lib.Dec.{leb}
use lib.ListN.{length, take, drop, length-drop, drop_of_length-le, take-append-drop}
use lib.Seq.{length-take-le, take-append-add, drop-append-add}
use Rattle.snesl.specs.Limits.{most_depth, most_elements}
use Rattle.snesl.specs.Streams.{room}
use Rattle.snesl.specs.declared.code.Base.{Base}
use Rattle.snesl.specs.Values.{ValueType, type_of, Val}
use Rattle.snesl.specs.Text.{value_of}
use Rattle.snesl.specs.Finder.{span_of}
use Rattle.snesl.specs.Records.{byte_at, Input, input_at, Span, span_at}
use Rattle.snesl.specs.Inputs.{Values, wrong, right, value_first, input_values}
use Rattle.decimals.specs.Numbers.{pick}
use Rattle.decimals.proofs.Parts.{rest_of}
use Rattle.formula.specs.Declarations.{input_place, base_at}
use Rattle.valuetext.specs.Storing.{value_store, measured, measured_if, counts_after}
use Rattle.valuetext.specs.declared.storing.Unmeasured.{Unmeasured}
use Rattle.valuetext.specs.declared.storing.Unmeasured.TheVariants.{NoValue, Over}
use Rattle.snesl.specs.declared.refusal.Refusal.TheVariants.{NoValueText}
use Rattle.std.specs.Prelude.{Result, Ok, Err}
use Rattle.inputs.specs.Supply.{texts_of, per_input, tally_first, tallied}
use Rattle.inputs.proofs.Supplying.{type_at, Supplied, supplied-none, supplied-more}

-- `left` inputs of these, from number i on, are still to be told of, their texts from k on; the counts of those before are kept
pub record Telling (t : List ℕ) (is : List Input) (ss : List Span) (cs₀ : List ℕ) (left i k : ℕ) (cs : List ℕ) : Type 0 where
  pub inputs : List Input
  pub spans : List Span
  pub supplied : Supplied t left (input_place i) k inputs spans
  pub same : texts_of (input_values t is ss) ≡ texts_of (input_values t inputs spans)
  pub tally : tallied t is ss cs₀ ≡ take (per_input * i) cs ++ tallied t inputs spans (drop (per_input * i) cs)
  pub space : per_input * i + per_input * left ≤ length cs

pub tells : {t : List ℕ} {is : List Input} {ss : List Span} {n k : ℕ} {cs : List ℕ} → Supplied t n 0 k is ss → per_input * n ≤ length cs
    → Telling t is ss cs (n - 0) 0 k cs
tells {t} {is} {ss} {n} {k} s h =
    let all : n ≡ n - 0 = omega arith in
    record { inputs = is; spans = ss; supplied = subst (λ (m : ℕ). Supplied t m 0 k is ss) all s; same = refl; tally = refl; space = omega arith }

-- the bounds of the next input's records
pub record Bounds (t : List ℕ) (at k : ℕ) : Type 0 where
  pub input : at + 4 ≤ length t
  pub shallow : byte_at t (at + 3) ≤ most_depth
  pub text : k + 4 + (span_at t k).bytes ≤ length t

-- its text, as it is lent
abbrev pub text_from : List ℕ → (k next : ℕ) → List ℕ
text_from t k next = take (next - (k + 4)) (drop (k + 4) t)

pub text-span : (t : List ℕ) (k next : ℕ) → next ≡ k + 4 + (span_at t k).bytes → text_from t k next ≡ span_of t (span_at t k)
text-span t k next e =
    let n : next - (k + 4) ≡ (span_at t k).bytes = omega (arith, e) in
    ap (λ (m : ℕ). take m (drop (k + 4) t)) n

-- what measuring a text says of its value
none-measured : (τ : ValueType) (t : List ℕ) → Err NoValue ≡ measured τ t → value_of τ t ≡ none
none-measured τ t = go (value_of τ t)
  where
    pick_some : (b : Bool) (n : ℕ) → Err NoValue ≡ pick b (Ok n) (Err Over) → ◌≡◌ {A = ℕ} 0 1
    pick_some true n e = cc
    pick_some false n e = cc

    go : (o : Option (Val τ)) → Err NoValue ≡ measured_if τ o → o ≡ none
    go none e = refl
    go (some v) e = absurd (let z : ◌≡◌ {A = ℕ} 0 1 = pick_some (leb (room (value_store τ v)) most_elements) (room (value_store τ v)) e in omega arith)

pub some-measured : (τ : ValueType) (t : List ℕ) (m : Result ℕ Unmeasured) → m ≡ measured τ t → (m ≡ Err NoValue → ⊥) → (v : Val τ) × (value_of τ t ≡ some v)
some-measured τ t m = go (value_of τ t) refl
  where
    go : (o : Option (Val τ)) → value_of τ t ≡ o → m ≡ measured_if τ o → (m ≡ Err NoValue → ⊥) → (v : Val τ) × (value_of τ t ≡ some v)
    go none p e f = absurd (f e)
    go (some v) p e f = (v, p)

-- the first input's value, and the others'
first-none : (t : List ℕ) (at k : ℕ) (is : List Input) (ss : List Span) → value_of (type_at t at) (span_of t (span_at t k)) ≡ none
    → texts_of (input_values t (input_at t at (base_at t at) ∷ is) (span_at t k ∷ ss)) ≡ Err (NoValueText k)
unfolding input_values
first-none t at k is ss e =
    let p : k + 4 - 4 ≡ k = omega arith in
    rw e (ap (λ (q : ℕ). Err (NoValueText q)) p)

others-tell : (τ : ValueType) {τs : List ValueType} (p : ℕ) (v : Val τ) (vs : Values τs) → texts_of (value_first {τ = τ} p (some v) vs) ≡ texts_of vs
others-tell τ p v (wrong q) = refl
others-tell τ p v (right vs) = refl

first_some : (t : List ℕ) (at k : ℕ) (is : List Input) (ss : List Span) (v : Val (type_at t at))
    → value_of (type_at t at) (span_of t (span_at t k)) ≡ some v
    → texts_of (input_values t (input_at t at (base_at t at) ∷ is) (span_at t k ∷ ss)) ≡ texts_of (input_values t is ss)
unfolding input_values
first_some t at k is ss v e =
    ap (λ (o : Option (Val (type_at t at))). texts_of (value_first {τ = type_at t at} (k + 4 - 4) o (input_values t is ss))) e
    ∙ others-tell (type_at t at) (k + 4 - 4) v (input_values t is ss)

-- the counts of the first input, and the others'
pub first-tallied : (t : List ℕ) (at k : ℕ) (is : List Input) (ss : List Span) (cs : List ℕ) (v : Val (type_at t at))
    → value_of (type_at t at) (span_of t (span_at t k)) ≡ some v
    → tallied t (input_at t at (base_at t at) ∷ is) (span_at t k ∷ ss) cs
    ≡ take per_input (counts_after (base_at t at) (byte_at t (at + 3)) (span_of t (span_at t k)) cs)
    ++ tallied t is ss (drop per_input (counts_after (base_at t at) (byte_at t (at + 3)) (span_of t (span_at t k)) cs))
unfolding tallied
first-tallied t at k is ss cs v e =
    ap
    (λ (o : Option (Val (type_at t at))).
    tally_first (type_at t at) o (counts_after (base_at t at) (byte_at t (at + 3)) (span_of t (span_at t k)) cs) (tallied t is ss))
    e

first-untallied : (t : List ℕ) (at k : ℕ) (is : List Input) (ss : List Span) (cs : List ℕ)
    → value_of (type_at t at) (span_of t (span_at t k)) ≡ none
    → tallied t (input_at t at (base_at t at) ∷ is) (span_at t k ∷ ss) cs ≡ counts_after (base_at t at) (byte_at t (at + 3)) (span_of t (span_at t k)) cs
unfolding tallied
first-untallied t at k is ss cs e =
    ap
    (λ (o : Option (Val (type_at t at))).
    tally_first (type_at t at) o (counts_after (base_at t at) (byte_at t (at + 3)) (span_of t (span_at t k)) cs) (tallied t is ss))
    e

-- the counts from input i on, as they are lent
abbrev pub counts_from : List ℕ → (i : ℕ) → List ℕ
counts_from counts i = take (length counts - per_input * i) (drop (per_input * i) counts)

-- and as they come back
pub counts-back : (β : Base) (d : ℕ) (text cs : List ℕ) (i : ℕ) {new : List ℕ} → new ≡ counts_after β d text (counts_from cs i)
    → take (per_input * i) cs ++ (new ++ drop (length cs - per_input * i) (drop (per_input * i) cs))
    ≡ take (per_input * i) cs ++ counts_after β d text (drop (per_input * i) cs)
counts-back β d text cs i {new} e =
    let long : length (drop (per_input * i) cs) ≤ length cs - per_input * i = omega (arith, length-drop (per_input * i) cs) in
    let none_left : drop (length cs - per_input * i) (drop (per_input * i) cs) ≡ [] = drop_of_length-le (drop (per_input * i) cs) long in
    ap (λ (x : List ℕ). take (per_input * i) cs ++ x)
    (ap (λ (x : List ℕ). new ++ x) none_left ∙ append-nil new ∙ e ∙ ap (counts_after β d text) (rest_of cs (per_input * i)))

-- some counts in front of others, cut behind nine more
module _ (cs new : List ℕ) (i : ℕ) (h : per_input * i ≤ length cs) where
  front_long : length (take (per_input * i) cs) ≡ per_input * i
  front_long = length-take-le (per_input * i) cs h

  front-more : take (per_input * (i + 1)) (take (per_input * i) cs ++ new) ≡ take (per_input * i) cs ++ take per_input new
  front-more =
      let p : per_input * (i + 1) ≡ length (take (per_input * i) cs) + per_input = omega (arith, front_long) in
      ap (λ (n : ℕ). take n (take (per_input * i) cs ++ new)) p ∙ take-append-add (take (per_input * i) cs) new per_input

  rest_more : drop (per_input * (i + 1)) (take (per_input * i) cs ++ new) ≡ drop per_input new
  rest_more =
      let p : per_input * (i + 1) ≡ length (take (per_input * i) cs) + per_input = omega (arith, front_long) in
      ap (λ (n : ℕ). drop n (take (per_input * i) cs ++ new)) p ∙ drop-append-add (take (per_input * i) cs) new per_input

module _ {t : List ℕ} {is : List Input} {ss : List Span} {cs₀ : List ℕ} {n i k : ℕ} {cs : List ℕ} (h : Telling t is ss cs₀ (n - i) i k cs) (l : i < n) where
  pub bounds : Bounds t (input_place i) k
  bounds = go h.supplied refl
    where
      go : {m : ℕ} {js : List Input} {us : List Span} → Supplied t m (input_place i) k js us → m ≡ n - i → Bounds t (input_place i) k
      go supplied-none e = absurd (omega arith)
      go (supplied-more f s g r) e = record { input = f; shallow = s; text = g }

  -- its counts are put behind those that are kept
  module _ (next : ℕ) (e : next ≡ k + 4 + (span_at t k).bytes) {β : Base} (as-based : β ≡ base_at t (input_place i)) {d : ℕ}
      (as-declared : d ≡ byte_at t (input_place i + 3)) {cs' : List ℕ}
      (c : cs' ≡ take (per_input * i) cs ++ counts_after β d (text_from t k next) (drop (per_input * i) cs)) where
    counted : cs' ≡ take (per_input * i) cs ++ counts_after (base_at t (input_place i)) (byte_at t (input_place i + 3)) (span_of t (span_at t k)) (drop (per_input * i) cs)
    counted =
        c
        ∙ ap₂ (λ (z : Base) (x : ℕ). take (per_input * i) cs ++ counts_after z x (text_from t k next) (drop (per_input * i) cs)) as-based as-declared
        ∙ ap
        (λ (y : List ℕ). take (per_input * i) cs ++ counts_after (base_at t (input_place i)) (byte_at t (input_place i + 3)) y (drop (per_input * i) cs))
        (text-span t k next e)

    as-typed : type_of β d ≡ type_at t (input_place i)
    as-typed = ap₂ type_of as-based as-declared

    pub told-bad : Err NoValue ≡ measured (type_of β d) (text_from t k next) → (Err (NoValueText k) ≡ texts_of (input_values t is ss)) × (cs' ≡ tallied t is ss cs₀)
    told-bad m = go h.supplied h.same h.tally refl
      where
        nothing : value_of (type_at t (input_place i)) (span_of t (span_at t k)) ≡ none
        nothing =
            none-measured (type_at t (input_place i)) (span_of t (span_at t k))
            (m ∙ ap₂ measured as-typed (text-span t k next e))

        go : {m : ℕ} {js : List Input} {us : List Span} → Supplied t m (input_place i) k js us
            → texts_of (input_values t is ss) ≡ texts_of (input_values t js us)
            → tallied t is ss cs₀ ≡ take (per_input * i) cs ++ tallied t js us (drop (per_input * i) cs)
            → m ≡ n - i
            → (Err (NoValueText k) ≡ texts_of (input_values t is ss)) × (cs' ≡ tallied t is ss cs₀)
        go supplied-none q u z = absurd (omega arith)
        go (supplied-more {is = js} {ss = us} f s g r) q u z = (
          sym (q ∙ first-none t (input_place i) k js us nothing),
          counted
              ∙ ap (λ (x : List ℕ). take (per_input * i) cs ++ x) (sym (first-untallied t (input_place i) k js us (drop (per_input * i) cs) nothing))
              ∙ sym u,
        )

    pub told-on : (m : Result ℕ Unmeasured) → m ≡ measured (type_of β d) (text_from t k next) → (m ≡ Err NoValue → ⊥) → length cs' ≡ length cs
        → Telling t is ss cs₀ (n - (i + 1)) (i + 1) next cs'
    told-on m p f long = go h.supplied h.same h.tally refl
      where
        something : (v : Val (type_at t (input_place i))) × (value_of (type_at t (input_place i)) (span_of t (span_at t k)) ≡ some v)
        something =
            some-measured (type_at t (input_place i)) (span_of t (span_at t k)) m
            (p ∙ ap₂ measured as-typed (text-span t k next e)) f

        new : List ℕ
        new = counts_after (base_at t (input_place i)) (byte_at t (input_place i + 3)) (span_of t (span_at t k)) (drop (per_input * i) cs)

        go : {m : ℕ} {js : List Input} {us : List Span} → Supplied t m (input_place i) k js us
            → texts_of (input_values t is ss) ≡ texts_of (input_values t js us)
            → tallied t is ss cs₀ ≡ take (per_input * i) cs ++ tallied t js us (drop (per_input * i) cs)
            → m ≡ n - i
            → Telling t is ss cs₀ (n - (i + 1)) (i + 1) next cs'
        go supplied-none q u z = absurd (omega arith)
        go (supplied-more {n = m} {is = js} {ss = us} _ _ _ r) q u z =
            let less : m ≡ n - (i + 1) = omega arith in
            let at : input_place i + 4 ≡ input_place (i + 1) = omega arith in
            let low : per_input * i ≤ length cs = omega (arith, h.space) in
            record {
              inputs = js;
              spans = us;
              supplied =
                  subst (λ (j : ℕ). Supplied t j (input_place (i + 1)) next js us) less
                  (subst (λ (j : ℕ). Supplied t m j next js us) at (subst (λ (j : ℕ). Supplied t m (input_place i + 4) j js us) (sym e) r));
              same = q ∙ first_some t (input_place i) k js us something.0 something.1;
              tally =
                  u
                  ∙ ap (λ (x : List ℕ). take (per_input * i) cs ++ x)
                  (first-tallied t (input_place i) k js us (drop (per_input * i) cs) something.0 something.1)
                  ∙ sym (append_assoc (take (per_input * i) cs) (take per_input new) (tallied t js us (drop per_input new)))
                  ∙ ap₂ (λ (x y : List ℕ). x ++ tallied t js us y) (sym (front-more cs new i low)) (sym (rest_more cs new i low))
                  ∙ ap (λ (x : List ℕ). take (per_input * (i + 1)) x ++ tallied t js us (drop (per_input * (i + 1)) x)) (sym counted);
              space = omega (arith, h.space);
            }

pub told-all : {t : List ℕ} {is : List Input} {ss : List Span} {cs₀ : List ℕ} {left i k : ℕ} {cs : List ℕ} → Telling t is ss cs₀ left i k cs → left ≤ 0
    → (Ok tt ≡ texts_of (input_values t is ss)) × (cs ≡ tallied t is ss cs₀)
unfolding input_values tallied
told-all {t} {is} {ss} {cs₀} {left} {i} {k} {cs} h l = go h.supplied h.same h.tally l
  where
    go : {n at : ℕ} {js : List Input} {us : List Span} → Supplied t n at k js us
        → texts_of (input_values t is ss) ≡ texts_of (input_values t js us)
        → tallied t is ss cs₀ ≡ take (per_input * i) cs ++ tallied t js us (drop (per_input * i) cs)
        → n ≤ 0
        → (Ok tt ≡ texts_of (input_values t is ss)) × (cs ≡ tallied t is ss cs₀)
    go supplied-none q u l = (sym q, sym (u ∙ take-append-drop (per_input * i) cs))
    go (supplied-more f s g r) q u l = absurd (omega arith)
