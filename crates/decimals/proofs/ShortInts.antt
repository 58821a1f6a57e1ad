-- The loop that reads up to ten digits, no zero in front: the first i make n, and nine make less than 10 ^ 9, which is in range.
use Rattle.std.proofs.Common.{◌≡◌, ℕ, false, ◌+◌, ◌*◌, ◌^◌, ◌<◌, ◌≤◌, List, get_or, subst, pow-suc, add-one, arith, w32, to_z}
use Rattle.std.specs.Prelude.{Some}
use Rattle.std.proofs.lemmas.Grind.{common_steps}
use native.Mathlib.Nat.{pow-le-pow_right}
use Rattle.snesl.specs.Text.{is_digit}
use Rattle.decimals.specs.Numbers.{digit_at, int_at}
use Rattle.decimals.proofs.NumberText.{IsDigit, is_digit_lem, Reading, reading-start, reading-on, reading-end}
use Rattle.decimals.proofs.IntText.{plain_int}

pub record Short (t : List ℕ) (n i : ℕ) : Type 0 where
  pub reading : Reading t n i
  pub first : 49 ≤ get_or t 0 0
  pub below : n < 10 ^ i

module _ {t : List ℕ} {n i : ℕ} (a : Short t n i) where
  pub short-small : i ≤ 9 → n < 1000000000
  short-small h = let p : 10 ^ i ≤ 10 ^ 9 = pow-le-pow_right (omega arith) h in omega (arith, a.below)

  pub short_on : {d : ℕ} → IsDigit t i d → Short t (n * 10 + d) (i + 1)
  short_on {d} h =
      let p : 10 ^ (i + 1) ≡ 10 ^ i * 10 = rw add-one (pow-suc 10 i) in
      record { reading = reading-on a.reading h; first = a.first; below = omega (arith, a.below, h.small) }

  pub short-end : 1 ≤ i → i ≤ 9 → is_digit (get_or t i 0) ≡ false → int_at t ≡ Some (to_z w32 n, i)
  short-end some few h =
      let s : n < 1000000000 = short-small few in
      plain_int t (λ e. omega (arith, a.first)) (reading-end a.reading h (λ z. omega arith) (omega arith) (λ m z. omega (arith, a.first))) (omega arith)

-- the first digit is the byte less '0'
pub short-first : (t : List ℕ) {n : ℕ} → n + 48 ≡ get_or t 0 0 → 1 ≤ n → n ≤ 9 → Short t n 1
short-first t {n} e some few =
    let z : 0 * 10 + n ≡ n = omega arith in
    let first : 49 ≤ get_or t 0 0 = omega arith in
    let d : Some n ≡ digit_at t 0 = grind (arith, common_steps) in
    subst (λ (m : ℕ). Short t m 1) z (short_on (record { reading = reading-start t; first = first; below = omega arith }) (is_digit_lem t 0 n d))
