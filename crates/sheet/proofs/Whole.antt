-- The whole run keeps the demands: where the job is refused by 1 to 7 nothing is written; else its execution keeps them on the used part of the stream
-- buffer, and so on the whole of it.
use Prim.Native.Nat.{ℕ, ◌≤◌}
use mathlib.Core.Bool.{Bool, true, false}
use mathlib.Core.List.{List, [], ◌++◌, append_assoc, append-nil}
use mathlib.Core.Option.{Option, some, none}
use mathlib.Core.Path.{◌≡◌, refl, sym, ap, ◌∙◌}
use native.Mathlib.Omega.{arith}
use lib.Dec.{leb}
use lib.IntN.{ℤ, pos}
use lib.ListN.{length, take, drop, replicate, length-append, length-drop, length-replicate, take-append-drop, drop_of_length-le}
use lib.Seq.{drop-append-le}
use Rattle.snesl.specs.declared.refusal.Refusal.{Refusal}
use Rattle.snesl.specs.declared.refusal.Refusal.TheVariants.{TooLong, NoRecord, OverLimit, TooMany, Unbound, WrongType, NoValueText, NoValue, NoRoom, NoAnswerRoom, NoRepresentation}
use Rattle.snesl.specs.Limits.{most_elements, used_of}
use Rattle.snesl.specs.Terms.{Term, All, ∅}
use Rattle.snesl.specs.Values.{ValueType, Val}
use Rattle.snesl.specs.Trees.{IdTree}
use Rattle.snesl.specs.Machine.{State, unfitting, below_zero, out_of_range, full, Result, went, stopped, run, holding}
use Rattle.snesl.specs.Translation.{code, tree}
use Rattle.snesl.specs.Records.{Input, read_job}
use Rattle.snesl.specs.Checking.{context, input_types, turned}
use Rattle.snesl.specs.Inputs.{input_trees, input_start, input_over}
use Rattle.snesl.specs.Outcome.{Outcome, refusal, value, answer_text, answered, finished, loaded, executed, outcome_read, outcome, zeroed, streams_refused, streams_after, answer_after}
use Rattle.snesl.specs.Demands.{declines, Demands}
use Rattle.snesl.proofs.Jobs.Course.{outcome-executed}
use Rattle.laws.specs.Parts.{cleared}
use Rattle.sheet.specs.declared.admission.Task.{Task}
use Rattle.std.specs.Prelude.{Result as Returned, Err}
use Rattle.sheet.specs.declared.Counts.{Counts}
use Rattle.sheet.specs.Runs.{ran_of, told, Exact, Admitted, execution, Performs, spoiled_from, used_after}
use Rattle.sheet.proofs.Admitting.{Turned}
use Rattle.sheet.proofs.OneAnswer.{demanded, exacted}
use Rattle.sheet.proofs.Performing.{settled}

-- ---- a refusal of an execution leaves zeros

abbrev Late : Outcome → Type 0
Late (refusal r) = (old : List ℤ) → streams_refused old r ≡ zeroed old
Late (value text work steps room held) = Unit {0}

late-answered : (lent : ℕ) (text : List ℕ) (m : State) → Late (answered lent text m)
late-answered lent text m = go (leb (length text) lent) refl
  where
    go : (b : Bool) → leb (length text) lent ≡ b → Late (answered lent text m)
    go true p = rw (p, answered) tt
    go false p = rw (p, answered) (λ old. refl)

late-finished : (τ : ValueType) (lent : ℕ) (t : IdTree τ) (x : Result) → Late (finished τ lent t x)
late-finished τ lent t (stopped (unfitting k) s) = λ old. refl
late-finished τ lent t (stopped (below_zero k) s) = λ old. refl
late-finished τ lent t (stopped (out_of_range k) s) = λ old. refl
late-finished τ lent t (stopped full s) = λ old. refl
late-finished τ lent t (went m) = late-answered lent (answer_text τ t m.store) m

late-executed : {τ : ValueType} (cap lent : ℕ) (is : List Input) (e : Term (context is) τ) (vs : All Val (input_types is)) (o : Option ℕ) → Late (executed cap lent is e vs o)
late-executed cap lent is e vs (some s) = λ old. refl
late-executed {τ} cap lent is e vs none =
    let δ = turned ∅ (input_trees 0 (input_types is)) in
    late-finished τ lent (tree e δ (input_start (input_types is))) (run (holding cap) (code e δ (input_start (input_types is))) 1 (loaded vs))

-- ---- executed on a buffer that is used whole

stored : (buf buf' : List ℤ) → length buf ≡ used_of (length buf) → (o : Outcome) → Late o → buf' ≡ used_after buf o → buf' ≡ streams_after buf o
stored buf buf' u (refusal r) late e =
    let none_left : drop (length buf) buf ≡ [] = drop_of_length-le buf {i = length buf} (omega arith) in
    e
    ∙ sym (append-nil (replicate (length buf) (pos 0)))
    ∙ ap (λ (l : List ℤ). replicate (length buf) (pos 0) ++ l) (sym none_left)
    ∙ ap (λ (k : ℕ). replicate k (pos 0) ++ drop k buf) u
    ∙ sym (late buf)
stored buf buf' u (value text work steps room held) late e = e

module _ {t : List ℕ} {a : Task} {enough : ℕ} (g : Admitted t a enough) {buf buf₁ buf₂ : List ℤ} (short : length buf ≤ most_elements) where
  pub kept-used : {answer answer' : List ℕ} {r : Returned Counts Refusal} {from : ℕ} → Performs (execution g (length buf) (length answer)) buf buf₁ answer answer' r
      → length buf₁ ≡ length buf → from ≡ spoiled_from r (length buf₁) → buf₂ ≡ cleared (pos 0) from buf₁
      → Demands t buf buf₂ answer answer' (told r)
  kept-used {answer} {answer'} {r} p long spoiled clear =
      let x = settled p long spoiled clear in
      let whole : length buf ≡ used_of (length buf) = omega arith in
      let o : outcome t (length buf) (length answer) ≡ execution g (length buf) (length answer) =
      outcome-executed g.accepted (length buf) (length answer) ∙ ap (λ (k : ℕ). execution g k (length answer)) (sym whole) in
      let late = late-executed (length buf) (length answer) g.accepted.inputs g.accepted.term g.accepted.given (input_over (length buf) 0 0 g.accepted.given) in
      demanded record {
        says = x.shows.says ∙ sym (ap ran_of o);
        streams-are = stored buf buf₂ whole (execution g (length buf) (length answer)) late x.used ∙ sym (ap (streams_after buf) o);
        answer-is = x.shows.answer-is ∙ sym (ap (answer_after answer) o);
      }

-- ---- the used part, put back into the whole buffer

module _ (streams front : List ℤ) (used : ℕ) (u : used ≡ used_of (length streams)) (n : length (take used streams) ≡ used)
    (same : length front ≡ length (take used streams)) where
  put_back : (held : List ℤ) → front ≡ held ++ drop (length held) (take used streams) → front ++ drop used streams ≡ held ++ drop (length held) streams
  put_back held e =
      let short : length held ≤ length (take used streams) =
      omega (arith, ap length e, length-append held (drop (length held) (take used streams)), length-drop (length held) (take used streams)) in
      let back : drop (length held) (take used streams) ++ drop used streams ≡ drop (length held) streams =
      sym (drop-append-le (length held) (take used streams) (drop used streams) short)
      ∙ ap (drop (length held)) (take-append-drop used streams) in
      ap (λ (l : List ℤ). l ++ drop used streams) e
      ∙ (append_assoc held (drop (length held) (take used streams)) (drop used streams) ∙ ap (λ (l : List ℤ). held ++ l) back)

  left : front ≡ take used streams → front ++ drop used streams ≡ streams
  left e = ap (λ (l : List ℤ). l ++ drop used streams) e ∙ take-append-drop used streams

  wiped : front ≡ zeroed (take used streams) → front ++ drop used streams ≡ zeroed streams
  wiped e =
      let all : used_of (length (take used streams)) ≡ used = omega arith in
      let zeros : List ℤ = replicate used (pos 0) in
      let cut : front ≡ replicate used (pos 0) ++ drop (length (replicate used (pos 0))) (take used streams) =
      e ∙ ap (λ (k : ℕ). replicate k (pos 0) ++ drop k (take used streams)) all
      ∙ ap (λ (k : ℕ). replicate used (pos 0) ++ drop k (take used streams)) (sym (length-replicate used (pos 0))) in
      put_back (replicate used (pos 0)) cut
      ∙ ap (λ (k : ℕ). replicate used (pos 0) ++ drop k streams) (length-replicate used (pos 0))
      ∙ ap (λ (k : ℕ). replicate k (pos 0) ++ drop k streams) u

  put : (o : Outcome) → front ≡ streams_after (take used streams) o → front ++ drop used streams ≡ streams_after streams o
  put (refusal TooLong) e = left e
  put (refusal (NoRecord p)) e = left e
  put (refusal (OverLimit p)) e = left e
  put (refusal (TooMany p)) e = left e
  put (refusal (Unbound p)) e = left e
  put (refusal (WrongType p)) e = left e
  put (refusal (NoValueText p)) e = left e
  put (refusal (NoValue p)) e = wiped e
  put (refusal (NoRoom p)) e = wiped e
  put (refusal (NoAnswerRoom p)) e = wiped e
  put (refusal (NoRepresentation p)) e = left e
  put (value text work steps room held) e = put_back held e

  pub kept_whole : {t answer answer' : List ℕ} (r : Returned Counts Refusal) → Demands t (take used streams) front answer answer' (told r)
      → Demands t streams (front ++ drop used streams) answer answer' (told r)
  kept_whole {t} {answer} r d =
      let x = exacted r d in
      let cap : used_of (length (take used streams)) ≡ used_of (length streams) = omega arith in
      let o : outcome t (length (take used streams)) (length answer) ≡ outcome t (length streams) (length answer) =
      ap (λ (k : ℕ). outcome_read t k (length answer) (read_job t)) cap in
      demanded record {
        says = x.says ∙ ap ran_of o;
        streams-are = put (outcome t (length (take used streams)) (length answer)) x.streams-are ∙ ap (streams_after streams) o;
        answer-is = x.answer-is ∙ ap (answer_after answer) o;
      }

-- ---- refused by 1 to 7

pub kept-untouched : {t : List ℕ} (r : Refusal) (streams : List ℤ) (answer : List ℕ) → Turned t r → Demands t streams streams answer answer (declines r)
kept-untouched {t} r streams answer h =
    let o = h.comes (length streams) (length answer) in
    let x : Exact t streams streams answer answer (Err r) =
    record {
      says = sym (ap ran_of o);
      streams-are = sym (h.keeps streams) ∙ sym (ap (streams_after streams) o);
      answer-is = sym (ap (answer_after answer) o);
    } in
    demanded x
