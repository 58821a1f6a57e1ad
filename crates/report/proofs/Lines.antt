-- The lines piece by piece, and what the run leaves of the part of the answer buffer that was lent to it.
use Prim.Native.Nat.{ℕ, ◌+◌, ◌≤◌, ◌<◌, ◌^◌}
use mathlib.Core.List.{List, [], ◌++◌, append_assoc, append-nil}
use mathlib.Core.Path.{◌≡◌, sym, ap, subst, ◌∙◌}
use native.Mathlib.Omega.{arith}
use lib.IntN.{ℤ}
use lib.ListN.{length, take, drop, length-append, length-drop, take-append-drop}
use lib.Seq.{drop-append-le, take_at, length-take-le}
use Rattle.snesl.specs.declared.refusal.Refusal.{Refusal}
use Rattle.snesl.specs.Ascii.{ascii}
use Rattle.snesl.specs.Text.{show_number}
use Rattle.snesl.specs.Report.{refusal_line, run_lines, room_line, steps_line, work_line}
use Rattle.snesl.specs.Outcome.{Outcome, refusal, value, outcome, streams_after, answer_after}
use Rattle.sheet.specs.declared.Counts.{Counts}
use Rattle.std.specs.Prelude.{Result, Ok, Err}
use Rattle.sheet.specs.Runs.{ran_of, Exact}
use Rattle.decimals.specs.Writing.{Writes}
use Rattle.decimals.proofs.NumberWriting.{at-most-20}
use Rattle.decimals.proofs.Stores.{writes_then}
use Rattle.report.specs.Printing.{answer_lent, outcome_over, count_line, value_lines, Prints}

-- ---- the lines

pub count-written : (name : List ℕ) (n : ℕ) → n < 2 ^ 64 → {t₀ t₁ t₂ t₃ : List ℕ} {at a b c : ℕ}
    → Writes t₀ t₁ at name a
    → Writes t₁ t₂ a (show_number n) b
    → Writes t₂ t₃ b (ascii "\n") c
    → Writes t₀ t₃ at (count_line name n) c × (c ≤ at + (length name + 21))
count-written name n h w₁ w₂ w₃ =
    (writes_then w₁ (writes_then w₂ w₃), omega (arith, at-most-20 n h, w₁.count, w₂.count, w₃.count))

pub value_written : (text : List ℕ) (work steps room : ℕ) {t₀ t₁ t₂ t₃ t₄ t₅ t₆ : List ℕ} {a b c d e f : ℕ}
    → Writes t₀ t₁ 0 (ascii "value ") a
    → Writes t₁ t₂ a text b
    → Writes t₂ t₃ b (ascii "\n") c
    → Writes t₃ t₄ c (work_line work) d × (d ≤ c + 26)
    → Writes t₄ t₅ d (steps_line steps) e × (e ≤ d + 27)
    → Writes t₅ t₆ e (room_line room) f × (f ≤ e + 26)
    → Writes t₀ t₆ 0 (value_lines text work steps room) f × (f ≤ length text + 86)
value_written text work steps room {t₅ = t₅} {t₆ = t₆} {e = e} {f = f} w₁ w₂ w₃ (w₄, l₄) (w₅, l₅) (w₆, l₆) =
    let last : Writes t₅ t₆ e (room_line room ++ []) f = subst (λ w. Writes t₅ t₆ e w f) (sym (append-nil (room_line room))) w₆ in (
      writes_then (writes_then w₁ (writes_then w₂ w₃)) (writes_then w₄ (writes_then w₅ last)),
      omega (arith, w₁.count, w₂.count, w₃.count),
    )

-- ---- an outcome from what was answered

refused-is : (o : Outcome) {r : Refusal} → Err r ≡ ran_of o → o ≡ refusal r
refused-is (refusal q) e = cc
refused-is (value text work steps room held) e = let z : ◌≡◌ {A = ℕ} 0 1 = cc in absurd (omega arith)

record ValueIs (o : Outcome) (k : Counts) : Type 0 where
  text : List ℕ
  held : List ℤ
  is : o ≡ value text k.work k.steps k.room held
  long : k.text ≡ length text

value-is : (o : Outcome) {k : Counts} → Ok k ≡ ran_of o → ValueIs o k
value-is (refusal q) e = let z : ◌≡◌ {A = ℕ} 0 1 = cc in absurd (omega arith)
value-is (value text work steps room held) {k} e =
    let p : k ≡ record { text = length text; work = work; steps = steps; room = room } = cc in
    record {
      text = text;
      held = held;
      is = λ i. value text (sym p i).work (sym p i).steps (sym p i).room held;
      long = ap (λ (c : Counts). c.text) p;
    }

-- ---- the lent part, put back

module _ (answer front : List ℕ) (lent : ℕ) (same : length front ≡ length (take lent answer)) where
  put_back : (o : Outcome) → front ≡ answer_after (take lent answer) o → front ++ drop lent answer ≡ answer_after answer o
  put_back (refusal r) e = ap (λ (l : List ℕ). l ++ drop lent answer) e ∙ take-append-drop lent answer
  put_back (value text work steps room held) e =
      let short : length text ≤ length (take lent answer) =
      omega (arith, ap length e, length-append text (drop (length text) (take lent answer)), length-drop (length text) (take lent answer)) in
      let back : drop (length text) (take lent answer) ++ drop lent answer ≡ drop (length text) answer =
      sym (drop-append-le (length text) (take lent answer) (drop lent answer) short)
      ∙ ap (drop (length text)) (take-append-drop lent answer) in
      ap (λ (l : List ℕ). l ++ drop lent answer) e
      ∙ (append_assoc text (drop (length text) (take lent answer)) (drop lent answer) ∙ ap (λ (l : List ℕ). text ++ l) back)

module _ {job : List ℕ} {streams streams' : List ℤ} {front : List ℕ} {ran : Result Counts Refusal} (answer : List ℕ) (lent : ℕ) (all : lent ≡ answer_lent (length answer))
    (same : length front ≡ length (take lent answer)) (x : Exact job streams streams' (take lent answer) front ran) where
  lent_length : length (take lent answer) ≡ answer_lent (length answer)
  lent_length = length-take-le lent answer (omega arith) ∙ all

  outcome-is : outcome job (length streams) (length (take lent answer)) ≡ outcome_over job streams answer
  outcome-is = ap (outcome job (length streams)) lent_length

  says : ran ≡ ran_of (outcome_over job streams answer)
  says = x.says ∙ ap ran_of outcome-is

  streams-left : streams' ≡ streams_after streams (outcome_over job streams answer)
  streams-left = x.streams-are ∙ ap (streams_after streams) outcome-is

  front-is : front ≡ answer_after (take lent answer) (outcome_over job streams answer)
  front-is = x.answer-is ∙ ap (answer_after (take lent answer)) outcome-is

  answer-left : front ++ drop lent answer ≡ answer_after answer (outcome_over job streams answer)
  answer-left = put_back answer front lent same (outcome_over job streams answer) front-is

  pub refused : {r : Refusal} {text text' : List ℕ} {n : ℕ} → ran ≡ Err r → Writes text text' 0 (refusal_line r) n × (n ≤ 53)
      → Prints job streams streams' answer (front ++ drop lent answer) text text' n
  refused {text = text} {text'} {n} e (w, l) =
      record {
        lines = subst (λ o. Writes text text' 0 (run_lines o) n) (sym (refused-is (outcome_over job streams answer) (sym e ∙ says))) w;
        streams-are = streams-left;
        answer-is = answer-left;
        short = omega arith;
      }

  module _ {k : Counts} (e : ran ≡ Ok k) where
    known : ValueIs (outcome_over job streams answer) k
    known = value-is (outcome_over job streams answer) (sym e ∙ says)

    answer-text : front ++ drop lent answer ≡ known.text ++ drop (length known.text) answer
    answer-text = answer-left ∙ ap (answer_after answer) known.is

    text-lent : known.text ++ drop (length known.text) (take lent answer) ≡ front
    text-lent = sym (front-is ∙ ap (answer_after (take lent answer)) known.is)

    text-fits : length known.text ≤ answer_lent (length answer)
    text-fits =
        omega (
          arith,
          ap length text-lent,
          same,
          lent_length,
          length-append known.text (drop (length known.text) (take lent answer)),
          length-drop (length known.text) (take lent answer),
        )

    pub text-within : k.text ≤ length (front ++ drop lent answer)
    text-within = omega (arith, known.long, ap length answer-text, length-append known.text (drop (length known.text) answer))

    text-is : take k.text (front ++ drop lent answer) ≡ known.text
    text-is =
        ap (take k.text) answer-text
        ∙ take_at known.text (drop (length known.text) answer) k.text (sym known.long)

    pub text-short : length (take k.text (front ++ drop lent answer)) ≤ 65536
    text-short = omega (arith, ap length text-is, text-fits)

    pub valued : {text text' : List ℕ} {n : ℕ}
        → Writes text text' 0 (value_lines (take k.text (front ++ drop lent answer)) k.work k.steps k.room) n × (n ≤ length (take k.text (front ++ drop lent answer)) + 86)
        → Prints job streams streams' answer (front ++ drop lent answer) text text' n
    valued {text} {text'} {n} (w, l) =
        record {
          lines =
              subst (λ o. Writes text text' 0 (run_lines o) n) (sym known.is)
              (subst (λ t. Writes text text' 0 (value_lines t k.work k.steps k.room) n) text-is w);
          streams-are = streams-left;
          answer-is = answer-left;
          short = omega (arith, ap length text-is, text-fits);
        }
