-- The demands leave one answer and one content of each buffer: those of the outcome. So two calls that keep them for one job, lent the same, agree.
use Prim.Native.Nat.{ℕ, ◌≤◌}
use native.Mathlib.Omega.{arith}
use mathlib.Core.List.{List, ◌++◌}
use mathlib.Core.Logic.{◌⊎◌, inl, inr}
use mathlib.Core.Option.{some, none}
use mathlib.Core.Path.{◌≡◌, refl, sym, ap, ◌∙◌, subst}
use borrow.Author.Tests.{le-leb, lt-leb}
use lib.IntN.{ℤ}
use lib.ListN.{length, drop}
use Rattle.laws.proofs.Options.{none-some}
use Rattle.snesl.specs.declared.refusal.Refusal.{Refusal}
use Rattle.snesl.specs.declared.refusal.Refusal.TheVariants.{TooLong, NoRecord, OverLimit, TooMany, Unbound, WrongType, NoValueText, NoValue, NoRoom, NoAnswerRoom, NoRepresentation}
use Rattle.snesl.specs.Limits.{used_of}
use Rattle.snesl.specs.Refusals.{number}
use Rattle.snesl.specs.Values.{Val}
use Rattle.snesl.specs.Evaluation.{eval}
use Rattle.snesl.specs.Charges.{charge, reached, count_true}
use Rattle.snesl.specs.Streams.{contents, room}
use Rattle.snesl.specs.Machine.{State, Result, went}
use Rattle.snesl.specs.Agreement.{iota-negative, no_number}
use Rattle.snesl.specs.Text.{show}
use Rattle.snesl.specs.Outcome.{Outcome, refusal, value, outcome_read, outcome_typed, valued, executed, answered, finished, outcome, streams_refused, streams_after, answer_after}
use Rattle.snesl.specs.Demands.{Told, shows, declines, told_of, Accepted, environment, result_tree, Comes, TurnedAway, unread, untyped, unvalued, Stops, valueless, crowded, filled, unshown, Demands, turned-away, stops, keeps}
use Rattle.snesl.proofs.Jobs.Course.{outcome-executed}
use Rattle.snesl.proofs.Jobs.Demands.{stops-clear}
use Rattle.snesl.proofs.Jobs.Ending.{went-text, went-right, Ending, short, shown, ending}

-- what is told and left is what an outcome says
pub record Follows (o : Outcome) (streams streams' : List ℤ) (answer answer' : List ℕ) (r : Told) : Type 0 where
  pub says : r ≡ told_of o
  pub streams-are : streams' ≡ streams_after streams o
  pub answer-is : answer' ≡ answer_after answer o

-- ---- which outcome

away : {t : List ℕ} {r : Refusal} (lent answer_lent : ℕ) → TurnedAway t r → outcome t lent answer_lent ≡ refusal r
away {t} lent answer_lent (unread e) = ap (outcome_read t (used_of lent) answer_lent) e
away {t} lent answer_lent (untyped {is = is} {ss = ss} e c) =
    ap (outcome_read t (used_of lent) answer_lent) e ∙ ap (outcome_typed t (used_of lent) answer_lent is ss) c
away {t} lent answer_lent (unvalued {is = is} {ss = ss} {f = f} e c v) =
    ap (outcome_read t (used_of lent) answer_lent) e
    ∙ ap (outcome_typed t (used_of lent) answer_lent is ss) c
    ∙ ap (valued (used_of lent) answer_lent is f) v

module _ {t : List ℕ} (a : Accepted t) (lent answer_lent : ℕ) where
  comes-out : {r : Result} → Comes a (used_of lent) r → outcome t lent answer_lent ≡ finished a.type answer_lent (result_tree a) r
  comes-out c =
      outcome-executed a lent answer_lent
      ∙ ap (executed (used_of lent) answer_lent a.inputs a.term a.given) c.loads
      ∙ ap (finished a.type answer_lent (result_tree a)) c.runs

  -- a run that went through, with the value that the rules give
  went-out : {v : Val a.type} {m : State} → eval a.term (environment a) ≡ some v → Comes a (used_of lent) (went m)
      → (outcome t lent answer_lent ≡ answered answer_lent (show a.type v) m)
      × (m.work ≡ charge a.term (environment a))
      × (m.steps ≡ count_true (reached a.term (environment a)))
  went-out {v} {m} e c =
      let w = went-right a (used_of lent) answer_lent c in
      let same : w.0 ≡ v = cc in (
        comes-out c ∙ went-text a (used_of lent) answer_lent w.2 ∙ ap (λ u. answered answer_lent (show a.type u) m) same,
        omega (arith, w.2.work),
        omega (arith, w.2.steps),
      )

  stopped-out : {r : Refusal} → Stops a (used_of lent) answer_lent r → outcome t lent answer_lent ≡ refusal r
  stopped-out (valueless e iota-negative c) = comes-out c
  stopped-out (valueless e no_number c) = comes-out c
  stopped-out (crowded e) = outcome-executed a lent answer_lent ∙ ap (executed (used_of lent) answer_lent a.inputs a.term a.given) e
  stopped-out (filled c) = comes-out c
  stopped-out (unshown {v = v} {m = m} e c longer) = (went-out e c).0 ∙ rw (lt-leb _ _ longer, answered)

-- 1 to 7 leave the stream buffer as it was
low_keeps : (old : List ℤ) (r : Refusal) → number r ≤ 7 → old ≡ streams_refused old r
low_keeps old TooLong h = refl
low_keeps old (NoRecord p) h = refl
low_keeps old (OverLimit p) h = refl
low_keeps old (TooMany p) h = refl
low_keeps old (Unbound p) h = refl
low_keeps old (WrongType p) h = refl
low_keeps old (NoValueText p) h = refl
low_keeps old (NoValue p) h = absurd (omega arith)
low_keeps old (NoRoom p) h = absurd (omega arith)
low_keeps old (NoAnswerRoom p) h = absurd (omega arith)
low_keeps old (NoRepresentation p) h = refl

-- ---- what follows

pub demands-determine : {t : List ℕ} {streams streams' : List ℤ} {answer answer' : List ℕ} {r : Told} → Demands t streams streams' answer answer' r
    → Follows (outcome t (length streams) (length answer)) streams streams' answer answer' r
demands-determine {t} {streams} {streams'} {answer} {answer'} (turned-away {r = r} h low s k) =
    subst (λ o. Follows o streams streams' answer answer' (declines r)) (sym (away (length streams) (length answer) h))
    record { says = refl; streams-are = s ∙ low_keeps streams r low; answer-is = k }
demands-determine {t} {streams} {streams'} {answer} {answer'} (stops {r = r} a h s k) =
    subst (λ o. Follows o streams streams' answer answer' (declines r)) (sym (stopped-out a (length streams) (length answer) h))
    record { says = refl; streams-are = s ∙ stops-clear streams h; answer-is = k }
demands-determine {t} {streams} {streams'} {answer} {answer'} (keeps {bytes} {work} {steps} {taken} a k) =
    let m = k.machine in
    let text = show a.type k.right.result in
    let long : length text ≤ length answer = omega (arith, k.right.long, k.right.fits) in
    let w = went-out a (length streams) (length answer) k.right.evaluated k.comes in
    let worked : work ≡ m.work = k.charged.charged ∙ sym w.1 in
    let stepped : steps ≡ m.steps = k.charged.stepped ∙ sym w.2 in
    let fits : answered (length answer) text m ≡ value text m.work m.steps (room m.store) (contents m.store) = rw (le-leb _ _ long, answered) in
    subst (λ o. Follows o streams streams' answer answer' (shows bytes work steps taken)) (sym (w.0 ∙ fits))
    record {
      says = λ i. shows (k.right.long i) (worked i) (stepped i) (k.roomed.counted i);
      streams-are = k.roomed.stands ∙ ap (λ n. contents m.store ++ drop n streams) k.roomed.counted;
      answer-is = k.right.shown ∙ ap (λ n. text ++ drop n answer) k.right.long;
    }

pub one_answer_lem : {t : List ℕ} {streams streams₁ streams₂ : List ℤ} {answer answer₁ answer₂ : List ℕ} {r₁ r₂ : Told}
    → Demands t streams streams₁ answer answer₁ r₁
    → Demands t streams streams₂ answer answer₂ r₂
    → (r₁ ≡ r₂) × (streams₁ ≡ streams₂) × (answer₁ ≡ answer₂)
one_answer_lem p q =
    let a = demands-determine p in
    let b = demands-determine q in
    (a.says ∙ sym b.says, a.streams-are ∙ sym b.streams-are, a.answer-is ∙ sym b.answer-is)

-- where the rules give no value it is 8, or 9 before it
pub no-value-shows : {t : List ℕ} {streams streams' : List ℤ} {answer answer' : List ℕ} {r : Told} (a : Accepted t)
    → Demands t streams streams' answer answer' r
    → eval a.term (environment a) ≡ none
    → (s : ℕ) × ((r ≡ declines (NoValue s)) ⊎ (r ≡ declines (NoRoom s)))
no-value-shows {t} {streams} {answer = answer} {r = r} a p e =
    go (ending a (length streams) (length answer)) (demands-determine p).says
  where
    go : {o : Outcome} → Ending a (used_of (length streams)) (length answer) o → r ≡ told_of o
        → (s : ℕ) × ((r ≡ declines (NoValue s)) ⊎ (r ≡ declines (NoRoom s)))
    go (short (valueless {s = s} _ rule c)) q = (s, inl q)
    go (short (crowded {s = s} _)) q = (s, inr q)
    go (short (filled {s = s} c)) q = (s, inr q)
    go (short (unshown some-value c longer)) q = none-some (sym e ∙ some-value)
    go (shown some-value fits c w roomy) q = none-some (sym e ∙ some-value)
