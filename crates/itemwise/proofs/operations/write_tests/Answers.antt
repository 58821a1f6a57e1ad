-- `operations::write_tests`: a turn stores the first of the results that are still to come.
use Rattle.std.proofs.Common.{ℕ, ◌+◌, ◌<◌, ◌≡◌, Bool, true, false, List, map, ℤ, pos, length, drop, get_or, set, sym, ap, ◌∙◌, arith, rules, add-one, drop-cons}
use Rattle.std.proofs.lemmas.List.Edits.{sets}
use Rattle.std.specs.Int.{w32}
use mir.Facts.{to_z-of_z}
use mir.Val.{SFits, to_z, of_z, bool_byte}
use Rattle.std.proofs.lemmas.Grind.{common_steps}
use Rattle.snesl.specs.Streams.{bit}
use Rattle.snesl.specs.Transducers.{pairwise}
use Rattle.itemwise.specs.Tests.{Computes}
use Rattle.itemwise.proofs.operations.write_tests.Goals as goal

bit-stored : (b : Bool) {v : ℤ} → v ≡ pos (bool_byte b) → to_z w32 (of_z w32 v) ≡ bit b
bit-stored false e = ap (λ z. to_z w32 (of_z w32 z)) e
bit-stored true e = ap (λ z. to_z w32 (of_z w32 z)) e

module _ (f : ℤ → ℤ → Bool) (xs ys out : List ℤ) (i : ℕ) where
  turn : {v : ℤ} → i < length xs → i < length ys → v ≡ bit (f (get_or xs i (pos 0)) (get_or ys i (pos 0))) →
      sets (set out i v) (i + 1) (map bit (pairwise f (drop (i + 1) xs) (drop (i + 1) ys))) ≡ sets out i (map bit (pairwise f (drop i xs) (drop i ys)))
  unfolding pairwise
  turn hx hy e =
      (λ k. sets (set out i (e k)) (add-one i k) (map bit (pairwise f (drop (add-one i k) xs) (drop (add-one i k) ys))))
      ∙ sym (λ k. sets out i (map bit (pairwise f (drop-cons xs i (pos 0) hx k) (drop-cons ys i (pos 0) hy k))))

stored : (post : ℤ → ℤ → Bool → Type 0) (f : ℤ → ℤ → Bool) (x y : ℤ) (b : Bool) {v : ℤ} → Computes post f → SFits w32 x → SFits w32 y →
    post (to_z w32 (of_z w32 x)) (to_z w32 (of_z w32 y)) b → v ≡ pos (bool_byte b) → to_z w32 (of_z w32 v) ≡ bit (f x y)
stored post f x y b h fx fy p e = bit-stored b e ∙ ap bit (h x y b fx fy (rw (to_z-of_z fx, to_z-of_z fy) at p))

pub loop-i-preserved : goal.loop-i-preserved
loop-i-preserved g c =
    λ f h.
    let xs = c.args.xs.now in
    let ys = c.args.ys.now in
    let i = c.loop-i.i in
    let fx : SFits w32 (get_or c.args.xs.now c.loop-i.i (pos 0)) = search rules in
    let fy : SFits w32 (get_or c.args.ys.now c.loop-i.i (pos 0)) = search rules in
    turn f xs ys c.loop-i.out i c.loop-i-test.true (omega (arith, c.requires.room, c.loop-i-test.true))
    (stored _ f (get_or xs i (pos 0)) (get_or ys i (pos 0)) c.test.result h fx fy c.test.ensures c.from.ensures)
    ∙ c.loop-i.invariant f h

pub returns : goal.returns
unfolding pairwise
returns g c = λ f h. let r = c.loop-i.invariant f h in grind (arith, common_steps, r)
