-- Whole numbers with a sign: what `read_int` makes of digits.
use Rattle.std.proofs.Common.{◌≡◌, ℕ, suc, ◌+◌, ◌<◌, ◌≤◌, Bool, true, false, ◌&&◌, ltb, leb, List, [], ◌∷◌, length, get_or, drop, ℤ, arith, length-drop, w32, SFits, to_z}
use Rattle.std.specs.Prelude.{Some}
use Rattle.std.proofs.lemmas.Grind.{common_steps}
use mathlib.Core.Option.{some}
use Rattle.snesl.specs.Text.{digits, read_int}
use Rattle.decimals.specs.Numbers.{digits_at, int_at}

pub digits-inside : (k : ℕ) (t : List ℕ) → digits k t ≤ k + length t
unfolding digits
digits-inside k [] = omega arith
digits-inside k (b ∷ t) = go (leb 48 b && ltb b 58) (digits-inside (suc k) t)
  where
    go : (c : Bool) → digits (suc k) t ≤ suc k + length t → elim c [ true ↦ digits (suc k) t | false ↦ k ] ≤ k + suc (length t)
    go true h = omega arith
    go false h = omega arith

pub plain_int : (t : List ℕ) {n k : ℕ} → (get_or t 0 0 ≡ 45 → ⊥) → digits_at t ≡ Some (n, k) → n < 2147483648 → int_at t ≡ Some (to_z w32 n, k)
plain_int t {n} {k} h e l = grind (arith, common_steps)

-- ---- an int that is read

pub record IntRead (t : List ℕ) (z : ℤ) (k : ℕ) : Type 0 where
  pub some_bytes : 1 ≤ k
  pub inside : k ≤ length t
  pub fits : SFits w32 z

pub int-read : (t : List ℕ) (z : ℤ) (k : ℕ) → read_int t ≡ some (z, k) → IntRead t z k
int-read t z k e =
    let i : digits 0 t ≤ 0 + length t = digits-inside 0 t in
    let j : digits 0 (drop 1 t) ≤ 0 + length (drop 1 t) = digits-inside 0 (drop 1 t) in
    record { some_bytes = grind (arith, common_steps); inside = grind (arith, common_steps, length-drop); fits = grind (arith, common_steps) }
