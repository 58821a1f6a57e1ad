-- A number's digits from the last one on: how `write_number` goes through them, and that 20 are enough.
use Rattle.std.proofs.Common.{◌≡◌, ℕ, zero, suc, ◌+◌, ◌-◌, ◌*◌, ◌/◌, ◌%◌, ◌^◌, ◌<◌, ◌≤◌, Bool, true, false, ltb, List, [], ◌∷◌, ◌++◌, length, set, sym, refl, ap, ◌∙◌, append_assoc, append-nil, arith, length-append, ltb-false, ltb-true, le-ltb, lt-ltb}
use lib.Seq.{sets, length-sets}
use Rattle.snesl.specs.Text.{digits_then, show_number}
use Rattle.snesl.proofs.Texts.Decimals.{enough}
use Rattle.decimals.proofs.Stores.{set_front}
use Rattle.decimals.specs.Writing.{Writes}

-- what follows the digits is kept
then_append : (f n : ℕ) (rest : List ℕ) → digits_then f n rest ≡ digits_then f n [] ++ rest
unfolding digits_then
then_append zero n rest = refl
then_append (suc f) n rest = go (ltb n 10) (then_append f (n / 10) ((48 + n % 10) ∷ rest)) (then_append f (n / 10) ((48 + n % 10) ∷ []))
  where
    go : (b : Bool)
        → digits_then f (n / 10) ((48 + n % 10) ∷ rest) ≡ digits_then f (n / 10) [] ++ (48 + n % 10) ∷ rest
        → digits_then f (n / 10) ((48 + n % 10) ∷ []) ≡ digits_then f (n / 10) [] ++ (48 + n % 10) ∷ []
        → elim b [ true ↦ (48 + n) ∷ rest | false ↦ digits_then f (n / 10) ((48 + n % 10) ∷ rest) ]
        ≡ (elim b [ true ↦ (48 + n) ∷ [] | false ↦ digits_then f (n / 10) ((48 + n % 10) ∷ []) ]) ++ rest
    go true p q = refl
    go false p q = p ∙ sym (append_assoc (digits_then f (n / 10) []) ((48 + n % 10) ∷ []) rest) ∙ ap (λ (l : List ℕ). l ++ rest) (sym q)

pub show-small : (n : ℕ) → n < 10 → show_number n ≡ (48 + n % 10) ∷ []
unfolding digits_then
show-small zero h = refl
show-small (suc k) h = let e : suc k % 10 ≡ suc k = omega arith in rw (e, lt-ltb (suc k) 10 h, digits_then)

pub show-more : (n : ℕ) → 10 ≤ n → show_number n ≡ show_number (n / 10) ++ (48 + n % 10) ∷ []
unfolding digits_then
show-more zero h = absurd (omega arith)
show-more (suc k) h =
    (rw (le-ltb (suc k) 10 h, digits_then))
    ∙ enough k (suc k / 10) (suc k / 10) ((48 + suc k % 10) ∷ []) (omega arith) (omega arith)
    ∙ then_append (suc k / 10) (suc k / 10) ((48 + suc k % 10) ∷ [])

-- ---- how many digits

tens : ℕ → ℕ
tens zero = 10
tens (suc k) = tens k * 10

show-length : (n : ℕ) → 10 ≤ n → length (show_number n) ≡ length (show_number (n / 10)) + 1
show-length n h = ap length (show-more n h) ∙ length-append (show_number (n / 10)) ((48 + n % 10) ∷ [])

small-length : (n : ℕ) → n < 10 → length (show_number n) ≡ 1
small-length n h = ap length (show-small n h)

below-tens : (k n : ℕ) → n < tens k → length (show_number n) ≤ suc k
unfolding tens
below-tens zero n h = omega (arith, small-length n h)
below-tens (suc k) n h = go (ltb n 10) refl (below-tens k (n / 10))
  where
    go : (b : Bool) → ltb n 10 ≡ b → (n / 10 < tens k → length (show_number (n / 10)) ≤ suc k) → length (show_number n) ≤ suc (suc k)
    go true e r = omega (arith, small-length n (ltb-true n 10 e))
    go false e r = omega (arith, show-length n (ltb-false n 10 e), r (omega arith))

pub at-most-20 : (n : ℕ) → n < 2 ^ 64 → length (show_number n) ≤ 20
unfolding tens
at-most-20 n h = below-tens 19 n (omega arith)

pub shown : (n : ℕ) → 1 ≤ length (show_number n)
shown n = go (ltb n 10) refl
  where
    go : (b : Bool) → ltb n 10 ≡ b → 1 ≤ length (show_number n)
    go true e = omega (arith, small-length n (ltb-true n 10 e))
    go false e = omega (arith, show-length n (ltb-false n 10 e))

-- ---- the loop that counts them: k - 1 digits are gone, and m is what is left

pub record Counting (n m k : ℕ) : Type 0 where
  pub left : length (show_number m) + k ≡ length (show_number n) + 1
  pub most : length (show_number n) ≤ 20
  pub some : 1 ≤ length (show_number m)

pub counting-start : (n : ℕ) → n < 2 ^ 64 → Counting n n 1
counting-start n h = record { left = refl; most = at-most-20 n h; some = shown n }

module _ {n m k : ℕ} (a : Counting n m k) where
  pub counting-on : 10 ≤ m → Counting n (m / 10) (k + 1)
  counting-on h = record { left = omega (arith, show-length m h, a.left); most = a.most; some = shown (m / 10) }

  pub counting-end : m < 10 → k ≡ length (show_number n)
  counting-end h = omega (arith, small-length m h, a.left)

-- ---- the last k digits, and the loop that writes them: those before p are still to be written, and make m

unfoldable pub last_digits : ℕ → ℕ → List ℕ
last_digits zero n = []
last_digits (suc k) n = last_digits k (n / 10) ++ (48 + n % 10) ∷ []

one-digit : (n : ℕ) → n < 10 → show_number n ≡ last_digits (length (show_number n)) n
unfolding last_digits
one-digit n h = show-small n h ∙ ap (λ (k : ℕ). last_digits k n) (sym (small-length n h))

all_digits : (f n : ℕ) → n ≤ f → show_number n ≡ last_digits (length (show_number n)) n
unfolding last_digits
all_digits zero n h = one-digit n (omega arith)
all_digits (suc f) n h = go (ltb n 10) refl (all_digits f (n / 10))
  where
    go : (b : Bool) → ltb n 10 ≡ b → (n / 10 ≤ f → show_number (n / 10) ≡ last_digits (length (show_number (n / 10))) (n / 10))
        → show_number n ≡ last_digits (length (show_number n)) n
    go true e r = one-digit n (ltb-true n 10 e)
    go false e r =
        let l : 10 ≤ n = ltb-false n 10 e in
        let s : length (show_number n) ≡ suc (length (show_number (n / 10))) = omega (arith, show-length n l) in
        show-more n l
        ∙ ap (λ (t : List ℕ). t ++ (48 + n % 10) ∷ []) (r (omega arith))
        ∙ ap (λ (k : ℕ). last_digits k n) (sym s)

pub record Digiting (old buf : List ℕ) (at n p m : ℕ) : Type 0 where
  pub rest : List ℕ
  pub content : buf ≡ sets old p rest
  pub whole : show_number n ≡ last_digits (p - at) m ++ rest
  pub above : at ≤ p

pub digiting-start : (old : List ℕ) (at n end : ℕ) → end ≡ at + length (show_number n) → Digiting old old at n end n
digiting-start old at n end e =
    let d : end - at ≡ length (show_number n) = omega arith in
    record {
      rest = [];
      content = refl;
      whole = all_digits n n (omega arith) ∙ ap (λ (k : ℕ). last_digits k n) (sym d) ∙ sym (append-nil (last_digits (end - at) n));
      above = omega arith;
    }

module _ {old buf : List ℕ} {at n p m : ℕ} (a : Digiting old buf at n p m) where
  pub digiting-on : {new : List ℕ} {next : ℕ} → at < p → Writes buf new (p - 1) ((48 + m % 10) ∷ []) next → Digiting old new at n (p - 1) (m / 10)
  unfolding last_digits
  digiting-on h w =
      let e : p ≡ suc (p - 1) = omega arith in
      let d : p - at ≡ suc (p - 1 - at) = omega arith in
      record {
        rest = (48 + m % 10) ∷ a.rest;
        content =
            w.content
            ∙ ap (λ (l : List ℕ). set l (p - 1) (48 + m % 10)) (a.content ∙ ap (λ (k : ℕ). sets old k a.rest) e)
            ∙ set_front old (p - 1) (48 + m % 10) a.rest;
        whole =
            a.whole
            ∙ ap (λ (k : ℕ). last_digits k m ++ a.rest) d
            ∙ append_assoc (last_digits (p - 1 - at) (m / 10)) ((48 + m % 10) ∷ []) a.rest;
        above = omega arith;
      }

  pub digiting-length : length buf ≡ length old
  digiting-length = ap length a.content ∙ length-sets old p a.rest

  pub digiting-end : (end : ℕ) → p ≤ at → end ≡ at + length (show_number n) → Writes old buf at (show_number n) end
  unfolding last_digits
  digiting-end end h e =
      let d : p - at ≡ 0 = omega (arith, a.above) in
      let q : p ≡ at = omega (arith, a.above) in
      let r : show_number n ≡ a.rest = a.whole ∙ ap (λ (k : ℕ). last_digits k m ++ a.rest) d in
      record { content = a.content ∙ ap (λ (k : ℕ). sets old k a.rest) q ∙ ap (sets old at) (sym r); count = e }
