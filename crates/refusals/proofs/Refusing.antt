-- The line of a refusal, piece by piece: 13 bytes of words and two numbers of at most 20 digits.
use Prim.Native.Nat.{ℕ, ◌≤◌, ◌<◌, ◌^◌}
use native.Mathlib.Omega.{arith}
use mathlib.Core.List.{List}
use mathlib.Core.Path.{◌≡◌, subst}
use Rattle.snesl.specs.declared.refusal.Refusal.{Refusal}
use Rattle.snesl.specs.Ascii.{ascii}
use Rattle.snesl.specs.Text.{show_number}
use Rattle.snesl.specs.Refusals.{number, place}
use Rattle.snesl.specs.Report.{refusal_line}
use Rattle.decimals.specs.Writing.{Writes}
use Rattle.decimals.proofs.Stores.{writes_then}
use Rattle.decimals.proofs.NumberWriting.{at-most-20}

pub refusal-written : (r : Refusal) {n m : ℕ} {t₀ t₁ t₂ t₃ t₄ t₅ : List ℕ} {a b c d e : ℕ}
    → n ≡ number r
    → m ≡ place r
    → n < 2 ^ 64
    → m < 2 ^ 64
    → Writes t₀ t₁ 0 (ascii "refused ") a
    → Writes t₁ t₂ a (show_number n) b
    → Writes t₂ t₃ b (ascii " at ") c
    → Writes t₃ t₄ c (show_number m) d
    → Writes t₄ t₅ d (ascii "\n") e
    → Writes t₀ t₅ 0 (refusal_line r) e × (e ≤ 53)
refusal-written r {n} {m} {t₁ = t₁} {t₂ = t₂} {t₃ = t₃} {t₄ = t₄} {a = a} {b = b} {c = c} {d = d} en em ln lm w₁ w₂ w₃ w₄ w₅ = (
  writes_then w₁
      (writes_then (subst (λ k. Writes t₁ t₂ a (show_number k) b) en w₂)
      (writes_then w₃ (writes_then (subst (λ k. Writes t₃ t₄ c (show_number k) d) em w₄) w₅))),
  omega (arith, w₁.count, w₂.count, w₃.count, w₄.count, w₅.count, at-most-20 n ln, at-most-20 m lm),
)
