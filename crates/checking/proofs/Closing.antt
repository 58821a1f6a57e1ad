-- A let and a comprehension when the last expression inside is done: their answers, and how many words they can come to.
use Rattle.std.proofs.Common.{◌≡◌, ℕ, ◌+◌, ◌≤◌, ◌<◌, Result, Ok, Err, ap, arith}
use native.Mathlib.Nat.{max-le}
use Rattle.snesl.specs.declared.refusal.Refusal.{Refusal}
use Rattle.scopes.specs.declared.types.ValueType.{ValueType}
use Rattle.checking.specs.declared.check.Judged.{Judged}
use Rattle.checking.specs.declared.check.Judging.{Judging}
use Rattle.checking.specs.Checks.{then_typed, bound, judging_of, bound_in, nesting_bound}

-- ---- the answers, where the last expression inside has one

pub bound_of :
    (m : ℕ) (first : Judging) (a : Result Judged Refusal) {second : Judging}
    → Ok second ≡ judging_of m a → Ok (bound_in first second) ≡ judging_of m (then_typed a (bound first.found first.words))
bound_of m first (Err r) e = cc
bound_of m first (Ok j) {second} e =
    let same : second ≡ record { next = m; found = j.found; words = j.words } = cc in
    ap (λ s. Ok (bound_in first s)) same

module _ (m : ℕ) (f : ValueType → ℕ → Result Judged Refusal) where
  pub body-of :
      (a : Result Judged Refusal) {body : Judging} → Ok body ≡ judging_of m a
      → judging_of body.next (f body.found body.words) ≡ judging_of m (then_typed a f)
  body-of (Err r) e = cc
  body-of (Ok j) {body} e =
      let same : body ≡ record { next = m; found = j.found; words = j.words } = cc in
      ap (λ (s : Judging). judging_of s.next (f s.found s.words)) same

-- ---- no more words than so many for each nesting

pub bound-few : (first second : Judging) {b : ℕ} → first.found.depth < 256 → first.words ≤ b → second.words ≤ b → (bound_in first second).words ≤ nesting_bound + b
bound-few first second h i l = max-le (omega arith) (omega arith)
