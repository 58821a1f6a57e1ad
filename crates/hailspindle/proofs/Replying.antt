-- An answer of `list` or `run` that is known: the reply is then known too, and what `run` keeps is kept.
use Prim.Native.Nat.{ℕ}
use mathlib.Core.List.{List, [], ◌∷◌}
use mathlib.Core.Path.{◌≡◌, refl, ap, subst, ◌∙◌}
use lib.IntN.{ℤ}
use lib.ListN.{length}
use Rattle.laws.proofs.Never.{never}
use Rattle.snesl.specs.declared.refusal.Refusal.{Refusal}
use Rattle.snesl.specs.Listing as listing
use Rattle.snesl.specs.Refusals as refusals
use Rattle.snesl.specs.Outcome.{Outcome, refusal, value, outcome}
use Rattle.snesl.specs.Demands.{shows, declines, told_of, Demands}
use Rattle.snesl.proofs.Jobs.OneAnswer.{demands-determine}
use Rattle.lister.specs.Lists.{listed_answer}
use Rattle.sheet.specs.Runs.{told}
use Rattle.sheet.specs.declared.Counts.{Counts}
use Rattle.std.specs.Prelude.{Result, Ok, Err}
use Rattle.hailspindle.specs.Replies.{Reply, refuses, noted, counted_reply, list_reply}
use Rattle.hailspindle.specs.Runs.{run_reply, told_reply, Exact, Keeps}

pub list_replied : (l : listing.Listed) → counted_reply (listed_answer l) ≡ list_reply l
list_replied (listing.unlisted r) = refl
list_replied (listing.listed text) = refl

-- ---- a run: what it keeps is kept by its number and figures, and `exact` says no more than that

module _ {t : List ℕ} {streams streams' : List ℤ} {answer answer' figures figures' : List ℕ} {r : Result Counts Refusal}
    (d : Demands t streams streams' answer answer' (told r)) where
  pub refused-keeps : {n : ℕ} (x : Refusal) → r ≡ Err x → n ≡ refusals.number x
      → figures' ≡ noted (refuses 3 x).figures figures
      → Keeps t streams streams' answer answer' figures figures' n
  refused-keeps x e n f =
      record {
        told = declines x;
        demands = subst (λ (r : Result Counts Refusal). Demands t streams streams' answer answer' (told r)) e d;
        numbered = n;
        noted-down = f;
      }

  pub valued-keeps : (c : Counts) → r ≡ Ok c → figures' ≡ noted (c.text ∷ c.work ∷ c.steps ∷ c.room ∷ []) figures
      → Keeps t streams streams' answer answer' figures figures' 0
  valued-keeps c e f =
      record {
        told = shows c.text c.work c.steps c.room;
        demands = subst (λ (r : Result Counts Refusal). Demands t streams streams' answer answer' (told r)) e d;
        numbered = refl;
        noted-down = f;
      }

told-replies : (o : Outcome) → told_reply (told_of o) ≡ run_reply o
told-replies (refusal r) = refl
told-replies (value text work steps room held) = refl

pub keeps-exactly : {t : List ℕ} {streams streams' : List ℤ} {answer answer' figures figures' : List ℕ} {n : ℕ}
    → Keeps t streams streams' answer answer' figures figures' n
    → Exact t streams streams' answer answer' figures figures' n
keeps-exactly {t} {streams} {answer = answer} {figures = figures} k =
    let f = demands-determine k.demands in
    let replied = ap told_reply f.says ∙ told-replies (outcome t (length streams) (length answer)) in
    record {
      says = k.numbered ∙ ap (λ (a : Reply). a.number) replied;
      figures-are = k.noted-down ∙ ap (λ (a : Reply). noted a.figures figures) replied;
      streams-are = f.streams-are;
      answer-is = f.answer-is;
    }
