-- A part of a buffer that was lent, as a run of stores into the buffer: what a call wrote into it, and what `fill` did.
use Prim.Native.Nat.{ℕ, ◌+◌, ◌≤◌}
use mathlib.Core.List.{List, ◌++◌, append_assoc}
use mathlib.Core.Path.{◌≡◌, sym, ◌∙◌, ap}
use native.Mathlib.Omega.{arith}
use borrow.Rule.Slice.PartMut.{mid_of, put_mid}
use lib.ListN.{length, take, drop, replicate, length-replicate, length-take, length-drop}
use lib.Seq.{drop-drop, sets, sets-eq}

module _ {A : Type 0} (l : List A) (at k n : ℕ) (same : k ≡ n) (room : at + n ≤ length l) where
  pub lent-written : (vs : List A) → length vs ≡ n → put_mid at k l vs ≡ sets l at vs
  lent-written vs e =
      let m : k ≡ length vs = same ∙ sym e in
      let h : at + length vs ≤ length l = omega arith in
      ap (λ r. take at l ++ (vs ++ r)) (drop-drop k at l ∙ ap (λ j. drop (at + j) l) m)
      ∙ sym (append_assoc (take at l) vs (drop (at + length vs) l))
      ∙ sym (sets-eq vs l at h)

  pub lent-filled : (z : A) (new : List A) → new ≡ replicate (length (mid_of at k l)) z → put_mid at k l new ≡ sets l at (replicate n z)
  lent-filled z new e =
      let long : length (take k (drop at l)) ≡ n = simp (length-take, length-drop) (omega arith) in
      let f : new ≡ replicate n z = e ∙ ap (λ m. replicate m z) long in
      ap (put_mid at k l) f ∙ lent-written (replicate n z) (length-replicate n z)
