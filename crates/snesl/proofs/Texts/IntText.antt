-- The text of an int, for any test of which ints to take: reading and showing undo one another.
use Prim.Native.Nat.{ℕ, zero, suc, ◌+◌, ◌≤◌, ◌<◌}
use native.Mathlib.Omega.{arith}
use mathlib.Core.Bool.{Bool, true, false}
use mathlib.Core.List.{List, ◌∷◌, ◌++◌}
use mathlib.Core.Option.{Option, some, none}
use mathlib.Core.Path.{◌≡◌, refl, sym, ap, subst, ◌∙◌}
use borrow.Author.Tests.{ne_eqb, eqb-true}
use lib.Dec.{eqb}
use lib.IntN.{ℤ, pos, negsuc}
use lib.ListN.{length, get_or, drop}
use Rattle.laws.proofs.Lists.{drop-read}
use Rattle.laws.proofs.Options.{none-some}
use Rattle.snesl.specs.Text.{minus, close_brace, show_number, show_int, digits, number_from, well_digited, negated, ranged, read_int}
use Rattle.snesl.proofs.Texts.Reading.{Begun, Complete, Sound}
use Rattle.snesl.proofs.Texts.Decimals.{Proper, proper-one, proper-more, proper-number, number-of-digits, digits-of-number, digit-bounds, Begins, begins-properly, cut-number}

-- an answer, if a test is passed
abbrev provided : Bool → Option (ℤ × ℕ) → Option (ℤ × ℕ)
provided true o = o
provided false o = none

-- `read_int`, with the test of range left open
abbrev pub int_by : (ℕ → Option ℤ → Option (ℤ × ℕ)) → List ℕ → Option (ℤ × ℕ)
int_by accept t =
    elim (eqb (get_or t 0 0) minus) [
      | true ↦ provided (well_digited (drop 1 t)) (accept (1 + digits 0 (drop 1 t)) (negated (number_from 0 (drop 1 t))))
      | false ↦ provided (well_digited t) (accept (digits 0 t) (some (pos (number_from 0 t))))
    ]

pub read-int : (t : List ℕ) → read_int t ≡ int_by ranged t
read-int t = go (eqb (get_or t 0 0) minus) (well_digited (drop 1 t)) (well_digited t)
  where
    signed : Option (ℤ × ℕ)
    signed = ranged (1 + digits 0 (drop 1 t)) (negated (number_from 0 (drop 1 t)))

    unsigned : Option (ℤ × ℕ)
    unsigned = ranged (digits 0 t) (some (pos (number_from 0 t)))

    go : (b c d : Bool)
        → ◌≡◌ {A = Option (ℤ × ℕ)}
        (elim b [ true ↦ elim c [ true ↦ signed | false ↦ none ] | false ↦ elim d [ true ↦ unsigned | false ↦ none ] ])
        (elim b [ true ↦ provided c signed | false ↦ provided d unsigned ])
    go true true d = refl
    go true false d = refl
    go false c true = refl
    go false c false = refl

-- it looks for a minus, and then for a number
module _ (accept : ℕ → Option ℤ → Option (ℤ × ℕ)) (t : List ℕ) where
  with-minus : eqb (get_or t 0 0) minus ≡ true
      → int_by accept t ≡ provided (well_digited (drop 1 t)) (accept (1 + digits 0 (drop 1 t)) (negated (number_from 0 (drop 1 t))))
  with-minus e = rw (e, int_by)

  without-minus : eqb (get_or t 0 0) minus ≡ false → int_by accept t ≡ provided (well_digited t) (accept (digits 0 t) (some (pos (number_from 0 t))))
  without-minus e = rw (e, int_by)

-- a number's text begins with a digit
first-digit : {s : List ℕ} → Proper s → (rest : List ℕ) → (48 ≤ get_or (s ++ rest) 0 0) × (get_or (s ++ rest) 0 0 < 58)
first-digit (proper-one {b = b} d) rest = digit-bounds b d
first-digit (proper-more {b = b} d other s) rest = digit-bounds b d

-- an int's text begins with no brace
pub int-opens : (z : ℤ) (rest : List ℕ) → get_or (show_int z ++ rest) 0 0 ≡ close_brace → ⊥
int-opens (pos n) rest h = let d = first-digit (proper-number n) rest in omega arith
int-opens (negsuc n) rest h = omega arith

module _ (Fine : ℤ → Type 0) (accept : ℕ → Option ℤ → Option (ℤ × ℕ))
    (nothing : (k : ℕ) → accept k none ≡ none)
    (taken : (k : ℕ) (z : ℤ) → Fine z → accept k (some z) ≡ some (z, k))
    (tested : (k : ℕ) (z v : ℤ) (n : ℕ) → accept k (some z) ≡ some (v, n) → (z ≡ v) × (k ≡ n) × Fine z) where
  pub int-complete : Complete (int_by accept) show_int Fine
  int-complete (pos n) ok rest h =
      let s : List ℕ = show_number n in
      let b = begins-properly (proper-number n) rest h in
      let d = first-digit (proper-number n) rest in
      let plain : eqb (get_or (s ++ rest) 0 0) minus ≡ false = ne_eqb (get_or (s ++ rest) 0 0) minus (omega arith) in
      without-minus accept (s ++ rest) plain
      ∙ ap (λ w. provided w (accept (digits 0 (s ++ rest)) (some (pos (number_from 0 (s ++ rest)))))) b.0
      ∙ (λ i. accept (b.1.count i) (some (pos ((b.1.number ∙ number-of-digits n) i))))
      ∙ taken (length s) (pos n) ok
  int-complete (negsuc n) ok rest h =
      let s : List ℕ = show_number (suc n) in
      let b = begins-properly (proper-number (suc n)) rest h in
      let size : 1 + digits 0 (s ++ rest) ≡ suc (length s) = omega (arith, b.1.count) in
      ap (λ w. provided w (accept (1 + digits 0 (s ++ rest)) (negated (number_from 0 (s ++ rest))))) b.0
      ∙ (λ i. accept (size i) (negated ((b.1.number ∙ number-of-digits (suc n)) i)))
      ∙ taken (suc (length s)) (negsuc n) ok

  -- what was read behind a minus, and without one
  signed : (u : List ℕ) (v : ℤ) (n : ℕ) → well_digited u ≡ true → accept (1 + digits 0 u) (negated (number_from 0 u)) ≡ some (v, n)
      → Begun show_int Fine (minus ∷ u) v n
  signed u v n w h = let c = cut-number u w in go (number_from 0 u) refl c.front c.rest c.proper c.whole c.reads
    where
      go : (m : ℕ) → number_from 0 u ≡ m → (s rest : List ℕ) → Proper s → u ≡ s ++ rest → Begins u s → Begun show_int Fine (minus ∷ u) v n
      go zero e s rest p whole b =
          none-some (sym (nothing (1 + digits 0 u)) ∙ ap (λ m. accept (1 + digits 0 u) (negated m)) (sym e) ∙ h)
      go (suc m) e s rest p whole b =
          let (same, k, ok) = tested (1 + digits 0 u) (negsuc m) v n (ap (λ m. accept (1 + digits 0 u) (negated m)) (sym e) ∙ h) in
          let d : show_number (suc m) ≡ s = ap show_number (sym e ∙ b.number) ∙ digits-of-number p in
          subst (λ z. Begun show_int Fine (minus ∷ u) z n) same
          (record {
            rest = rest;
            text = ap (λ l. minus ∷ l) (whole ∙ ap (λ l. l ++ rest) (sym d));
            bytes = omega (arith, b.count, ap length d);
            fine = ok;
          })

  unsigned : (t : List ℕ) (v : ℤ) (n : ℕ) → well_digited t ≡ true → accept (digits 0 t) (some (pos (number_from 0 t))) ≡ some (v, n)
      → Begun show_int Fine t v n
  unsigned t v n w h =
      let c = cut-number t w in
      let (same, k, ok) = tested (digits 0 t) (pos (number_from 0 t)) v n h in
      let d : show_number (number_from 0 t) ≡ c.front = ap show_number c.reads.number ∙ digits-of-number c.proper in
      subst (λ z. Begun show_int Fine t z n) same
      (record {
        rest = c.rest;
        text = c.whole ∙ ap (λ l. l ++ c.rest) (sym d);
        bytes = omega (arith, c.reads.count, ap length d);
        fine = ok;
      })

  -- what is read after a test passed
  passed : (b : Bool) (o : Option (ℤ × ℕ)) (r : ℤ × ℕ) → provided b o ≡ some r → (b ≡ true) × (o ≡ some r)
  passed true o r h = (refl, h)
  passed false o r h = none-some h

  pub int-sound : Sound (int_by accept) show_int Fine
  int-sound t v n h = go (eqb (get_or t 0 0) minus) refl
    where
      go : (b : Bool) → eqb (get_or t 0 0) minus ≡ b → Begun show_int Fine t v n
      go true e =
          let p = passed (well_digited (drop 1 t)) (accept (1 + digits 0 (drop 1 t)) (negated (number_from 0 (drop 1 t)))) (v, n) (sym (with-minus accept t e) ∙ h) in
          let there : t ≡ minus ∷ drop 1 t = drop-read t 0 0 minus (eqb-true (get_or t 0 0) minus e) (omega arith) in
          subst (λ l. Begun show_int Fine l v n) (sym there) (signed (drop 1 t) v n p.0 p.1)
      go false e =
          let p = passed (well_digited t) (accept (digits 0 t) (some (pos (number_from 0 t)))) (v, n) (sym (without-minus accept t e) ∙ h) in
          unsigned t v n p.0 p.1
