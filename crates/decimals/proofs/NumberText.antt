-- Laws of snesl's digits: reading one digit on, and the digits of a number from the last one on.
use Rattle.std.proofs.Common.{◌≡◌, ℕ, zero, suc, ◌+◌, ◌-◌, ◌*◌, ◌<◌, ◌≤◌, Bool, true, false, ◌&&◌, ltb, leb, List, [], ◌∷◌, length, get_or, drop, sym, refl, ap, ◌∙◌, le_refl, add-one, arith, ltb-true, le-ltb, lt-ltb, eq-eqb, ne_eqb, le-leb}
use Rattle.std.specs.Prelude.{Option, Some, None}
use Rattle.std.proofs.lemmas.Grind.{common_steps}
use borrow.Author.Tests.{lt-leb}
use Rattle.snesl.specs.Text.{is_digit, digits, number_from, well_digited}
use Rattle.decimals.specs.Numbers.{pick, digit_at, digits_at}

-- ---- one byte

pub digit-within : (b : ℕ) → 48 ≤ b → b ≤ 57 → is_digit b ≡ true
digit-within b h k = let p : b < 58 = omega arith in rw (le-leb 48 b h, lt-ltb b 58 p)

-- a digit lies within the text, and below '9' + 1
pub record IsDigit (t : List ℕ) (i d : ℕ) : Type 0 where
  pub test : is_digit (get_or t i 0) ≡ true
  pub value : d ≡ get_or t i 0 - 48
  pub inside : i < length t
  pub small : d ≤ 9

inside_of : (t : List ℕ) (i : ℕ) → is_digit (get_or t i 0) ≡ true → i < length t
inside_of [] zero h = cc
inside_of [] (suc i) h = cc
inside_of (b ∷ t) zero h = omega arith
inside_of (b ∷ t) (suc i) h = let p : i < length t = inside_of t i h in omega arith

small_of : (b : ℕ) → is_digit b ≡ true → b - 48 ≤ 9
small_of b h = go (leb 48 b) (ltb b 58) refl h
  where
    go : (p q : Bool) → ltb b 58 ≡ q → (p && q) ≡ true → b - 48 ≤ 9
    go true true e h' = let l : b < 58 = ltb-true b 58 e in omega arith
    go true false e h' = cc
    go false q e h' = cc

pub is_digit_lem : (t : List ℕ) (i d : ℕ) → Some d ≡ digit_at t i → IsDigit t i d
is_digit_lem t i d e = go (is_digit (get_or t i 0)) refl e
  where
    go : (c : Bool) → is_digit (get_or t i 0) ≡ c → Some d ≡ pick c (Some (get_or t i 0 - 48)) None → IsDigit t i d
    go true h e' =
        let v : d ≡ get_or t i 0 - 48 = cc in
        record { test = h; value = v; inside = inside_of t i h; small = omega (arith, small_of (get_or t i 0) h) }
    go false h e' = cc

pub is-end : (t : List ℕ) (i : ℕ) → None ≡ digit_at t i → is_digit (get_or t i 0) ≡ false
is-end t i e = go (is_digit (get_or t i 0)) refl e
  where
    go : (c : Bool) → is_digit (get_or t i 0) ≡ c → None ≡ pick c (Some (get_or t i 0 - 48)) None → is_digit (get_or t i 0) ≡ false
    go true h e' = cc
    go false h e' = h

-- ---- reading

pub digits-on : (k i : ℕ) (t : List ℕ) → is_digit (get_or t i 0) ≡ true → digits k (drop i t) ≡ digits (k + 1) (drop (i + 1) t)
unfolding digits
digits-on k zero [] h = cc
digits-on k (suc i) [] h = cc
digits-on k zero (b ∷ t) h = rw (h, digits) (rw add-one)
digits-on k (suc i) (b ∷ t) h = rw (add-one (suc i)) (digits-on k i t h ∙ rw (add-one i))

pub number-on : (n i : ℕ) (t : List ℕ) → is_digit (get_or t i 0) ≡ true → number_from n (drop i t) ≡ number_from (n * 10 + (get_or t i 0 - 48)) (drop (i + 1) t)
unfolding number_from
number-on n zero [] h = cc
number-on n (suc i) [] h = cc
number-on n zero (b ∷ t) h = rw (h, number_from)
number-on n (suc i) (b ∷ t) h = rw (add-one (suc i)) (number-on n i t h ∙ rw (add-one i))

pub digits-end : (k i : ℕ) (t : List ℕ) → is_digit (get_or t i 0) ≡ false → digits k (drop i t) ≡ k
unfolding digits
digits-end k zero [] h = refl
digits-end k (suc i) [] h = refl
digits-end k zero (b ∷ t) h = rw (h, digits)
digits-end k (suc i) (b ∷ t) h = digits-end k i t h

pub number-end : (n i : ℕ) (t : List ℕ) → is_digit (get_or t i 0) ≡ false → number_from n (drop i t) ≡ n
unfolding number_from
number-end n zero [] h = refl
number-end n (suc i) [] h = refl
number-end n zero (b ∷ t) h = rw (h, number_from)
number-end n (suc i) (b ∷ t) h = number-end n i t h

pub number-least : (n : ℕ) (t : List ℕ) → n ≤ number_from n t
unfolding number_from
number-least n [] = le_refl n
number-least n (b ∷ t) = go (is_digit b) (number-least (n * 10 + (b - 48)) t)
  where
    go : (c : Bool) → n * 10 + (b - 48) ≤ number_from (n * 10 + (b - 48)) t → n ≤ elim c [ true ↦ number_from (n * 10 + (b - 48)) t | false ↦ n ]
    go true h = omega arith
    go false h = le_refl n

-- ---- the loop that reads digits: n is the number of the first i

pub record Reading (t : List ℕ) (n i : ℕ) : Type 0 where
  pub count : digits 0 t ≡ digits i (drop i t)
  pub number : number_from 0 t ≡ number_from n (drop i t)
  pub inside : i ≤ length t

pub reading-start : (t : List ℕ) → Reading t 0 0
reading-start t = record { count = refl; number = refl; inside = omega arith }

module _ {t : List ℕ} {n i : ℕ} (a : Reading t n i) where
  pub reading-on : {d : ℕ} → IsDigit t i d → Reading t (n * 10 + d) (i + 1)
  reading-on {d} h =
      record {
        count = a.count ∙ digits-on i i t h.test;
        number = a.number ∙ number-on n i t h.test ∙ ap (λ (e : ℕ). number_from (n * 10 + e) (drop (i + 1) t)) (sym h.value);
        inside = omega (arith, h.inside);
      }

  pub reading-over : {d : ℕ} → IsDigit t i d → 2147483648 < n * 10 + d → digits_at t ≡ None
  reading-over {d} h o =
      let e : number_from 0 t ≡ number_from (n * 10 + d) (drop (i + 1) t) =
      a.number ∙ number-on n i t h.test ∙ ap (λ (e : ℕ). number_from (n * 10 + e) (drop (i + 1) t)) (sym h.value) in
      let l : 2147483648 < number_from 0 t = omega (arith, e, number-least (n * 10 + d) (drop (i + 1) t)) in
      go (well_digited t) (lt-leb (number_from 0 t) 2147483648 l)
    where
      go : (c : Bool) {q : Bool} → q ≡ false → pick {A = Option (ℕ × ℕ)} c (pick q (Some (number_from 0 t, digits 0 t)) None) None ≡ None
      go true e = rw e
      go false e = refl

  module _ (h : is_digit (get_or t i 0) ≡ false) where
    counted : digits 0 t ≡ i
    counted = a.count ∙ digits-end i i t h

    numbered : number_from 0 t ≡ n
    numbered = a.number ∙ number-end n i t h

    in-range : n ≤ 2147483648 → leb (number_from 0 t) 2147483648 ≡ true
    in-range small = le-leb (number_from 0 t) 2147483648 (omega (arith, numbered))

    pub reading-none : i ≡ 0 → digits_at t ≡ None
    reading-none e = rw (le-ltb 0 (digits 0 t) (omega (arith, counted)))

    module _ (some : (i ≡ 0) → ⊥) where
      pub reading-leading : 1 < i → get_or t 0 0 ≡ 48 → digits_at t ≡ None
      reading-leading more z =
          rw (
            lt-ltb 0 (digits 0 t) (omega (arith, counted)),
            ne_eqb (digits 0 t) 1 (omega (arith, counted)),
            eq-eqb (get_or t 0 0) 48 z,
          )

      pub reading-end : n ≤ 2147483648 → (1 < i → get_or t 0 0 ≡ 48 → ⊥) → digits_at t ≡ Some (n, i)
      reading-end small z = grind (arith, common_steps, counted, numbered)
