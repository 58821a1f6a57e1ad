-- The two halves of the contract of `run` say the same, each by itself: `exact` by the outcome, `demands` by the source rules. So each leaves one answer
-- and one content of each buffer (01, "How far each contract goes").
use Prim.Native.Nat.{ℕ}
use mathlib.Core.List.{List}
use mathlib.Core.Path.{◌≡◌, refl, sym, ap, ◌∙◌, transport}
use lib.IntN.{ℤ}
use lib.ListN.{length}
use Rattle.laws.proofs.Never.{never}
use Rattle.snesl.specs.Outcome.{Outcome, refusal, value, outcome}
use Rattle.snesl.specs.Demands.{told_of, Demands}
use Rattle.snesl.proofs.Jobs.Demands.{demands}
use Rattle.snesl.proofs.Jobs.OneAnswer as one
use Rattle.std.specs.Prelude.{Result, Ok, Err}
use Rattle.snesl.specs.declared.refusal.Refusal.{Refusal}
use Rattle.sheet.specs.declared.Counts.{Counts}
use Rattle.sheet.specs.Runs.{ran_of, told, Exact}

told-ran : (o : Outcome) → told_of o ≡ told (ran_of o)
told-ran (refusal r) = refl
told-ran (value text work steps room held) = refl

-- an answer is known by what is told
ran-told : (r : Result Counts Refusal) (o : Outcome) → told r ≡ told_of o → r ≡ ran_of o
ran-told (Err r) (refusal s) e = cc
ran-told (Err r) (value text work steps room held) e = never (cc)
ran-told (Ok c) (refusal s) e = never (cc)
ran-told (Ok c) (value text work steps room held) e =
    let bytes : c.text ≡ length text = cc in
    let worked : c.work ≡ work = cc in
    let stepped : c.steps ≡ steps = cc in
    let roomed : c.room ≡ room = cc in
    λ i. Ok (record { text = bytes i; work = worked i; steps = stepped i; room = roomed i })

module _ {t : List ℕ} {streams streams' : List ℤ} {answer answer' : List ℕ} where
  pub demanded : {r : Result Counts Refusal} → Exact t streams streams' answer answer' r → Demands t streams streams' answer answer' (told r)
  demanded {r} x =
      let o = outcome t (length streams) (length answer) in
      let says : told_of o ≡ told r = told-ran o ∙ sym (ap told x.says) in
      transport (λ i. Demands t streams (sym x.streams-are i) answer (sym x.answer-is i) (says i)) (demands t streams answer)

  pub exacted : (r : Result Counts Refusal) → Demands t streams streams' answer answer' (told r) → Exact t streams streams' answer answer' r
  exacted r d =
      let f = one.demands-determine d in
      record { says = ran-told r (outcome t (length streams) (length answer)) f.says; streams-are = f.streams-are; answer-is = f.answer-is }

pub one_answer_lem : {t : List ℕ} {streams streams₁ streams₂ : List ℤ} {answer answer₁ answer₂ : List ℕ} {r₁ r₂ : Result Counts Refusal}
    → Exact t streams streams₁ answer answer₁ r₁
    → Exact t streams streams₂ answer answer₂ r₂
    → (r₁ ≡ r₂) × (streams₁ ≡ streams₂) × (answer₁ ≡ answer₂)
one_answer_lem a b = (a.says ∙ sym b.says, a.streams-are ∙ sym b.streams-are, a.answer-is ∙ sym b.answer-is)
