-- The course of a job: it is refused by 1 to 7, or it is accepted, and then its outcome is that of executing its code behind its inputs.
use Prim.Native.Nat.{ℕ}
use mathlib.Core.List.{List}
use mathlib.Core.Path.{◌≡◌, refl, ◌∙◌, ap}
use Rattle.snesl.specs.declared.refusal.Refusal.{Refusal}
use Rattle.snesl.specs.Limits.{used_of}
use Rattle.snesl.specs.Values.{ValueType}
use Rattle.snesl.specs.Terms.{Term}
use Rattle.snesl.specs.Records
use Rattle.snesl.specs.Records.{Raw, Input, Span, JobRead, job, read_job}
use Rattle.snesl.specs.Checking
use Rattle.snesl.specs.Checking.{Typed, typed, context, input_types, check_formula}
use Rattle.snesl.specs.Inputs.{Values, wrong, right, input_values, input_over}
use Rattle.snesl.specs.Outcome.{refusal, outcome_read, outcome_typed, valued, executed, outcome}
use Rattle.snesl.specs.Demands.{Accepted, TurnedAway, unread, untyped, unvalued}
use Rattle.snesl.proofs.Jobs.EarlyRefusals.{Early, early-text, reading-refuses-early, checking-refuses-early}

-- the outcome of an accepted job
pub outcome-executed : {t : List ℕ} (a : Accepted t) (lent answer_lent : ℕ)
    → outcome t lent answer_lent ≡ executed (used_of lent) answer_lent a.inputs a.term a.given (input_over (used_of lent) 0 0 a.given)
outcome-executed {t} a lent answer_lent =
    ap (outcome_read t (used_of lent) answer_lent) a.read
    ∙ ap (outcome_typed t (used_of lent) answer_lent a.inputs a.spans) a.checked
    ∙ ap (valued (used_of lent) answer_lent a.inputs a.term) a.valued

pub data Course (t : List ℕ) (lent answer_lent : ℕ) : Type 0 where
  refused-early : {r : Refusal} → TurnedAway t r → Early r → outcome t lent answer_lent ≡ refusal r → Course t lent answer_lent
  accepted : Accepted t → Course t lent answer_lent

pub course : (t : List ℕ) (lent answer_lent : ℕ) → Course t lent answer_lent
course t lent answer_lent = read (read_job t) refl
  where
    texts : (is : List Input) (k : ℕ) (e : Raw) (next : ℕ) (ss : List Span) → read_job t ≡ job is k e next ss
        → (τ : ValueType) (f : Term (context is) τ) → check_formula is e ≡ typed τ f
        → (vs : Values (input_types is)) → input_values t is ss ≡ vs
        → Course t lent answer_lent
    texts is k e next ss r τ f c (wrong p) h =
        refused-early (unvalued r c h) (early-text {p = p})
        (ap (outcome_read t (used_of lent) answer_lent) r
        ∙ ap (outcome_typed t (used_of lent) answer_lent is ss) c
        ∙ ap (valued (used_of lent) answer_lent is f) h)
    texts is k e next ss r τ f c (right vs) h =
        accepted record {
          inputs = is;
          expression = k;
          raw = e;
          next = next;
          spans = ss;
          type = τ;
          term = f;
          given = vs;
          read = r;
          checked = c;
          valued = h;
        }

    types : (is : List Input) (k : ℕ) (e : Raw) (next : ℕ) (ss : List Span) → read_job t ≡ job is k e next ss
        → (y : Typed (context is)) → check_formula is e ≡ y
        → Course t lent answer_lent
    types is k e next ss r (Checking.Typed.refused why) c =
        refused-early (untyped r c) (checking-refuses-early is e c)
        (ap (outcome_read t (used_of lent) answer_lent) r ∙ ap (outcome_typed t (used_of lent) answer_lent is ss) c)
    types is k e next ss r (typed τ f) c = texts is k e next ss r τ f c (input_values t is ss) refl

    read : (j : JobRead) → read_job t ≡ j → Course t lent answer_lent
    read (Records.JobRead.refused why) r = refused-early (unread r) (reading-refuses-early t r) (ap (outcome_read t (used_of lent) answer_lent) r)
    read (job is k e next ss) r = types is k e next ss r (check_formula is e) refl
