-- What a record asks, by what `head_at` said of it.
use Rattle.std.proofs.Common.{ℕ, ◌≡◌, ap, sym, ◌∙◌, List}
use Rattle.std.specs.Prelude.{Result, Ok, Err}
use mathlib.Core.Logic.{inl, inr}
use Rattle.snesl.specs.declared.refusal.Refusal.{Refusal}
use Rattle.snesl.specs.Records.{head_at}
use Rattle.records.specs.declared.head.Head.{Head}
use Rattle.records.specs.Heads.{head_of}
use Rattle.records.proofs.Heads.{Known, Unknown, told, untold}
use Rattle.formula.specs.Reading.{asked_of}

module _ (t : List ℕ) (k : ℕ) {r : Result Head Refusal} (p : r ≡ head_of k (head_at t k)) where
  pub asks : {f h : Head} → r ≡ Ok f → f ≡ h → Known t k h (head_at t k)
  asks {f} {h} q e = told t k h (sym (q ∙ ap Ok e) ∙ p)

  pub refuses : {f : Refusal} → r ≡ Err f → Err f ≡ asked_of k (head_at t k)
  refuses {f} q = go (untold t k f (sym q ∙ p))
    where
      go : Unknown t k f (head_at t k) → Err f ≡ asked_of k (head_at t k)
      go (inl (e, h)) = ap Err e ∙ ap (asked_of k) (sym h)
      go (inr (e, h)) = ap Err e ∙ ap (asked_of k) (sym h)
