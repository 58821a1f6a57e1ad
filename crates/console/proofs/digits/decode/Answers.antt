-- One byte more: those before it and those behind it stay.
use mathlib.Core.Bool.{Bool, true, false}
use mathlib.Core.List.{List}
use mathlib.Core.Path.{◌≡◌, refl, sym, subst, ◌∙◌}
use Prim.Native.Nat.{ℕ, ◌+◌, ◌<◌}
use native.Mathlib.Omega.{arith}
use borrow.Author.Tests.{eqb-true, eqb-false}
use lib.Dec.{eqb}
use lib.ListN.{length, get_or, set}
use lib.Seq.{get_or-set_same, get_or-set_other}
use Rattle.std.proofs.lemmas.Grind.{common_steps}
use Rattle.console.proofs.digits.decode.Goals as goal

one_more : (f : ℕ → ℕ) (l : List ℕ) (i x : ℕ) → x ≡ f i → ((j : ℕ) → j < i → get_or l j 0 ≡ f j) → i < length l
    → (j : ℕ) → j < i + 1 → get_or (set l i x) j 0 ≡ f j
one_more f l i x e h k j m = go (eqb j i) refl
  where
    go : (b : Bool) → eqb j i ≡ b → get_or (set l i x) j 0 ≡ f j
    go true q = subst (λ (y : ℕ). get_or (set l i x) y 0 ≡ f y) (sym (eqb-true j i q)) (get_or-set_same l i x 0 k ∙ e)
    go false q = get_or-set_other l i j x 0 (eqb-false j i q) ∙ h j (omega (arith, eqb-false j i q))

pub loop-i-preserved : goal.loop-i-preserved
loop-i-preserved c = record {
  long = grind (arith, common_steps, c.loop-i.invariant.long);
  decoded = one_more _ c.loop-i.out c.loop-i.i _ (omega (arith, c.digit.ensures.value, c.digit-in-loop-i.ensures.value)) c.loop-i.invariant.decoded (omega (arith, c.loop-i.invariant.long, c.loop-i-test.true, c.min-n.ensures));
  rest = grind (arith, common_steps, c.loop-i.invariant.rest);
}
