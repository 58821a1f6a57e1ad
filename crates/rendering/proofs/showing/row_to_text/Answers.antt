-- The row's places, whether it fits, how long its text is, and the text.
use Rattle.std.proofs.Common.{◌≡◌, ℕ, Result, refl, ap, rules, Ok, Err, sym, ◌∙◌, arith}
use Rattle.std.specs.Result.{MatchResult, IsErrAnd}
use Rattle.snesl.specs.declared.refusal.Refusal.{Refusal}
use Rattle.std.proofs.lemmas.Result.{err_from_is_err_and}
use Rattle.snesl.specs.declared.refusal.Refusal.TheVariants.{NoRepresentation}
use Rattle.rendering.proofs.RenderingSteps.{row-places, row-stands, row-long, row_written, row-misfit}
use Rattle.rendering.proofs.showing.row_to_text.Goals as goal

pub starts-requires : goal.starts-requires
starts-requires c = record {
  places_bound = omega (arith, c.requires.levels, c.requires.shallow);
  counts_bound = omega (arith, c.requires.all-lent, c.requires.few);
}

pub first_misfit-requires : goal.first_misfit-requires
first_misfit-requires c = row-places c.requires c.starts.new.places c.starts.auto.places c.starts.ensures.by_index

-- an error that was mapped, traced back
mapped : {out : Result Unit Refusal} {P : ℕ → Refusal → Type 0} → ((j : ℕ) (why : Refusal) → P j why → why ≡ NoRepresentation j) → (r : Result Unit ℕ)
    → MatchResult r (λ x. out ≡ Ok x) (λ e. IsErrAnd out (P e)) → (why : Refusal) → out ≡ Err why → (j : ℕ) × (r ≡ Err j) × (why ≡ NoRepresentation j)
mapped k (Ok x) m why e = absurd (cc)
mapped {out} k (Err j) m why e =
    let w = err_from_is_err_and out m in
    (j, refl, (cc (w.1)) ∙ k j w.0 w.2)

pub returns-in_err-map_err : goal.returns-in_err-map_err
returns-in_err-map_err c =
    let level = mapped (λ j why p. search rules) c.first_misfit.result c.map_err.ensures.cases c.in_err-map_err.field-0.0 c.in_err-map_err.was in
    let both = row-misfit c.args.elements.now c.args.base c.args.answer.now c.requires (sym level.1 ∙ c.first_misfit.ensures) in
    let refused : c.from_residual.result ≡ Err c.in_err-map_err.field-0.0 = search rules in
    record { value = refused ∙ ap Err level.2 ∙ both.0; answer_after = both.1 }

pub value_text-bytes-requires : goal.value_text-bytes-requires
value_text-bytes-requires c =
    let fits : c.first_misfit.result ≡ Ok tt = grind arith in
    row-stands c.args.elements.now c.args.base c.args.answer.now c.requires (sym fits ∙ c.first_misfit.ensures) c.starts.new.places c.starts.auto.places c.starts.ensures.by_index

pub returns-then-bytes-answer : goal.returns-then-bytes-answer
returns-then-bytes-answer c =
    let fits : c.first_misfit.result ≡ Ok tt = grind arith in
    let both = row-long c.args.elements.now c.args.base c.args.answer.now c.requires (sym fits ∙ c.first_misfit.ensures) c.starts.new.places c.starts.auto.places c.starts.ensures.by_index c.value_text-bytes.ensures c.if-bytes-answer.true in
    record { value = both.0; answer_after = both.1 }

pub value_text-requires : goal.value_text-requires
value_text-requires c =
    let fits : c.first_misfit.result ≡ Ok tt = grind arith in
    row-stands c.args.elements.now c.args.base c.args.answer.now c.requires (sym fits ∙ c.first_misfit.ensures) c.starts.new.places c.starts.auto.places c.starts.ensures.by_index

pub returns : goal.returns
returns c =
    let fits : c.first_misfit.result ≡ Ok tt = grind arith in
    let both = row_written c.args.elements.now c.args.base c.args.answer.now c.requires (sym fits ∙ c.first_misfit.ensures) c.starts.new.places c.starts.auto.places c.starts.ensures.by_index c.value_text-bytes.ensures c.if-bytes-answer.false c.value_text.ensures in
    record { value = both.0; answer_after = both.1 }
