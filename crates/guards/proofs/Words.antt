-- Words written one over another on a stack, seen from a place on.
use Prim.Native.Nat.{ℕ, zero, suc, ◌+◌, ◌-◌, ◌≤◌}
use mathlib.Core.List.{List, [], ◌∷◌, ◌++◌, append_assoc}
use mathlib.Core.Logic.{◌⊎◌, inl, inr}
use mathlib.Core.Path.{◌≡◌, sym, ◌∙◌, ap, ap₂}
use native.Mathlib.Nat.{zero-add, suc-add}
use native.Mathlib.Omega.{arith}
use lib.ListN.{length, take, drop, length-append, length-drop}
use lib.Seq.{drop-append-le, drop-drop, take-nil, take-take, length-take-le}
use Rattle.laws.specs.Parts.{part, written}
use Rattle.laws.proofs.Parts.{same-part}
use Rattle.environment.proofs.Stack.{drop-above, part-drop, below-written, above-written, from-written}

module _ {A : Type 0} where
  take-drop : (at n : ℕ) (l : List A) → drop at (take (at + n) l) ≡ take n (drop at l)
  take-drop zero n l = rw zero-add
  take-drop (suc a) n [] = rw (suc-add, take-nil)
  take-drop (suc a) n (x ∷ l) = rw suc-add (take-drop a n l)

  parted : (at : ℕ) (w l : List A) → written at w l ≡ take at l ++ (w ++ drop (at + length w) l)
  unfolding written
  parted at w l = append_assoc (take at l) w (drop (at + length w) l)

  -- a write above a place, from there on
  pub written_from : (k at : ℕ) (w l : List A) → k ≤ at → at + length w ≤ length l → drop k (written at w l) ≡ written (at - k) w (drop k l)
  written_from k at w l h f =
      let up : k + (at - k) ≡ at = omega arith in
      let long : length (take at l) ≡ at = length-take-le at l (omega arith) in
      let front : drop k (take at l) ≡ take (at - k) (drop k l) = ap (λ i. drop k (take i l)) (sym up) ∙ take-drop k (at - k) l in
      let place : at + length w ≡ k + (at - k + length w) = omega arith in
      let back : drop (at + length w) l ≡ drop (at - k + length w) (drop k l) = ap (λ i. drop i l) place ∙ sym (drop-drop (at - k + length w) k l) in
      ap (drop k) (parted at w l)
      ∙ (drop-append-le k (take at l) (w ++ drop (at + length w) l) (omega (arith, long))
      ∙ (ap₂ (λ u v. u ++ (w ++ v)) front back ∙ sym (parted (at - k) w (drop k l))))

  -- a write over a write
  pub written_over : (at : ℕ) (u v l : List A) → length u ≡ length v → at + length v ≤ length l → written at u (written at v l) ≡ written at u l
  written_over at u v l e h =
      parted at u (written at v l)
      ∙ (ap₂ (λ a b. a ++ (u ++ b)) (below-written l at v h) (above-written l at v h (at + length u) (omega arith)) ∙ sym (parted at u l))

  -- a write just below a write
  pub written_below : (at : ℕ) (u v l : List A) → at + length u + length v ≤ length l → written at u (written (at + length u) v l) ≡ written at (u ++ v) l
  written_below at u v l h =
      let l' : List A = written (at + length u) v l in
      let low : take at l' ≡ take at l =
      sym (take-take at (at + length u) l' (omega arith)) ∙ (ap (take at) (below-written l (at + length u) v h) ∙ take-take at (at + length u) l (omega arith)) in
      let far : at + length u + length v ≡ at + length (u ++ v) = omega (arith, length-append u v) in
      parted at u l'
      ∙ (ap₂ (λ a b. a ++ (u ++ b)) low (from-written l (at + length u) v h ∙ ap (λ i. v ++ drop i l) far)
      ∙ (ap (λ r. take at l ++ r) (sym (append_assoc u v (drop (at + length (u ++ v)) l))) ∙ sym (parted at (u ++ v) l)))

  -- what a write leaves beside it
  pub beside-written : (at : ℕ) (w l : List A) (q n : ℕ) → at + length w ≤ length l → (q + n ≤ at) ⊎ (at + length w ≤ q) → part q n (written at w l) ≡ part q n l
  beside-written at w l q n h (inl e) = same-part at (written at w l) l q n (below-written l at w h) e
  beside-written at w l q n h (inr e) = part-drop (written at w l) l q n (above-written l at w h q e)

  -- the same where only what stands from a place on is known
  pub beside : (low at : ℕ) (w l l' : List A) (q n : ℕ) → drop low l' ≡ drop low (written at w l) → low ≤ q → at + length w ≤ length l
      → (q + n ≤ at) ⊎ (at + length w ≤ q) → part q n l' ≡ part q n l
  beside low at w l l' q n e h f s = part-drop l' (written at w l) q n (drop-above l' (written at w l) low q e h) ∙ beside-written at w l q n f s

  -- a part over itself
  pub itself : (at n : ℕ) (l : List A) → at + n ≤ length l → l ≡ written at (part at n l) l
  unfolding part
  itself at n l h =
      let long : length (take n (drop at l)) ≡ n = length-take-le n (drop at l) (omega (arith, length-drop at l)) in
      sym
      (parted at (take n (drop at l)) l
      ∙ (ap (λ i. take at l ++ (take n (drop at l) ++ drop (at + i) l)) long
      ∙ (ap (λ r. take at l ++ (take n (drop at l) ++ r)) (sym (drop-drop n at l))
      ∙ (ap (λ r. take at l ++ r) (lib.ListN.take-append-drop n (drop at l)) ∙ lib.ListN.take-append-drop at l))))

  -- One level's words and then those of its items, twice: from `low` on only these are new.
  pub level-words : (low at : ℕ) (w₀ w p env env₁ env₂ env₃ : List A)
      → low ≤ at → length w₀ ≡ length w → at + length w + length p ≤ length env
      → length env₁ ≡ length env → length env₂ ≡ length env
      → drop low env₁ ≡ drop low (written (at + length w) p env)
      → drop low env₂ ≡ drop low (written at w₀ env₁)
      → drop low env₃ ≡ drop low (written at w env₂)
      → drop low env₃ ≡ drop low (written at (w ++ p) env)
  level-words low at w₀ w p env env₁ env₂ env₃ h e f l₁ l₂ a b c =
      let far : at - low + length w ≡ at + length w - low = omega arith in
      let rest : at - low + length w + length p ≤ length (drop low env) = omega (arith, length-drop low env) in
      let both : length (w ++ p) ≡ length w + length p = length-append w p in
      let once : drop low env₁ ≡ written (at - low + length w) p (drop low env) =
      a ∙ (written_from low (at + length w) p env (omega arith) (omega arith) ∙ ap (λ i. written i p (drop low env)) (sym far)) in
      let twice : drop low env₂ ≡ written (at - low) w₀ (drop low env₁) = b ∙ written_from low at w₀ env₁ h (omega arith) in
      let long : length (drop low env₁) ≡ length (drop low env) = length-drop low env₁ ∙ (ap (λ i. i - low) l₁ ∙ sym (length-drop low env)) in
      c
      ∙ (written_from low at w env₂ h (omega arith)
      ∙ (ap (written (at - low) w) twice
      ∙ (written_over (at - low) w w₀ (drop low env₁) (sym e) (omega arith)
      ∙ (ap (written (at - low) w) once
      ∙ (written_below (at - low) w p (drop low env) rest ∙ sym (written_from low at (w ++ p) env h (omega arith)))))))
