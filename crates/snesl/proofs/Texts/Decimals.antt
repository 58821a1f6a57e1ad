-- Decimal digits: a number's digits make that number, and digits without a leading zero are the digits of the number that they make.
use Prim.Native.Nat.{ℕ, zero, suc, ◌+◌, ◌*◌, ◌/◌, ◌%◌, ◌-◌, ◌≤◌, ◌<◌}
use native.Mathlib.Omega.{arith}
use mathlib.Core.Bool.{Bool, true, false, ◌||◌, not, or-true}
use mathlib.Core.List.{List, [], ◌∷◌, ◌++◌, append-nil}
use mathlib.Core.Path.{◌≡◌, refl, sym, ap, ◌∙◌}
use borrow.Author.Tests.{lt-ltb, le-ltb, ltb-true, ltb-false, le-leb, leb-true, ne_eqb, eqb-false, not-true}
use lib.Dec.{eqb, ltb, leb}
use lib.ListN.{length, get_or}
use Rattle.laws.proofs.Tests.{both_true, second-true}
use Rattle.snesl.specs.Text.{digit0, digits_then, show_number, is_digit, digits, number_from, well_digited}

digit-in : (b : ℕ) → 48 ≤ b → b < 58 → is_digit b ≡ true
digit-in b l h = rw (le-leb 48 b l) (lt-ltb b 58 h)

pub digit-bounds : (b : ℕ) → is_digit b ≡ true → (48 ≤ b) × (b < 58)
digit-bounds b h = let t = both_true (leb 48 b) (ltb b 58) h in (leb-true 48 b t.0, ltb-true b 58 t.1)

pub data Digits : List ℕ → Type 0 where
  digits-none : Digits []
  digits_more : {b : ℕ} {bs : List ℕ} → is_digit b ≡ true → Digits bs → Digits (b ∷ bs)

-- what reads digits reads on through them, and stops behind them
digits-digit : (k b : ℕ) (bs : List ℕ) → is_digit b ≡ true → digits k (b ∷ bs) ≡ digits (suc k) bs
unfolding digits
digits-digit k b bs h = rw (h, digits)

digits-through : {s : List ℕ} → Digits s → (k : ℕ) (rest : List ℕ) → digits k (s ++ rest) ≡ digits (k + length s) rest
digits-through digits-none k rest = ap (λ n. digits n rest) (omega arith)
digits-through (digits_more {b = b} {bs = bs} h s) k rest =
    digits-digit k b (bs ++ rest) h ∙ digits-through s (suc k) rest ∙ ap (λ n. digits n rest) (omega arith)

digits-stop : (k : ℕ) (rest : List ℕ) → is_digit (get_or rest 0 0) ≡ false → digits k rest ≡ k
unfolding digits
digits-stop k [] h = refl
digits-stop k (b ∷ bs) h = rw (h, digits)

number-digit : (n b : ℕ) (bs : List ℕ) → is_digit b ≡ true → number_from n (b ∷ bs) ≡ number_from (n * 10 + (b - digit0)) bs
unfolding number_from
number-digit n b bs h = rw (h, number_from)

number-through : {s : List ℕ} → Digits s → (n : ℕ) (rest : List ℕ) → number_from n (s ++ rest) ≡ number_from (number_from n s) rest
unfolding number_from
number-through digits-none n rest = refl
number-through (digits_more {b = b} {bs = bs} h s) n rest =
    number-digit n b (bs ++ rest) h
    ∙ number-through s (n * 10 + (b - digit0)) rest
    ∙ ap (λ m. number_from m rest) (sym (number-digit n b bs h))

number-stop : (n : ℕ) (rest : List ℕ) → is_digit (get_or rest 0 0) ≡ false → number_from n rest ≡ n
unfolding number_from
number-stop n [] h = refl
number-stop n (b ∷ bs) h = rw (h, number_from)

-- the clauses of `digits_then`
one-digit : (f n : ℕ) (rest : List ℕ) → n < 10 → digits_then (suc f) n rest ≡ (digit0 + n) ∷ rest
unfolding digits_then
one-digit f n rest h = rw (lt-ltb n 10 h, digits_then)

more-digits : (f n : ℕ) (rest : List ℕ) → 10 ≤ n → digits_then (suc f) n rest ≡ digits_then f (n / 10) ((digit0 + n % 10) ∷ rest)
unfolding digits_then
more-digits f n rest h = rw (le-ltb n 10 h, digits_then)

-- either way, by the number
fewer-or-more : (n : ℕ) {X : Type 0} → (n < 10 → X) → (10 ≤ n → X) → X
fewer-or-more n {X} f g = go (ltb n 10) refl
  where
    go : (b : Bool) → ltb n 10 ≡ b → X
    go true e = f (ltb-true n 10 e)
    go false e = g (ltb-false n 10 e)

-- the bound on the number of digits is no matter as long as it is enough, and n is enough for n
pub enough : (f g n : ℕ) (rest : List ℕ) → n ≤ f → n ≤ g → digits_then f n rest ≡ digits_then g n rest
unfolding digits_then
enough zero zero n rest h k = refl
enough zero (suc g) zero rest h k = refl
enough zero (suc g) (suc n) rest h k = absurd (omega arith)
enough (suc f) zero zero rest h k = refl
enough (suc f) zero (suc n) rest h k = absurd (omega arith)
enough (suc f) (suc g) n rest h k = fewer-or-more n
    (λ l. one-digit f n rest l ∙ sym (one-digit g n rest l))
    (λ m. more-digits f n rest m ∙ enough f g (n / 10) ((digit0 + n % 10) ∷ rest) (omega arith) (omega arith) ∙ sym (more-digits g n rest m))

-- digits without a leading zero
pub data Proper : List ℕ → Type 0 where
  proper-one : {b : ℕ} → is_digit b ≡ true → Proper (b ∷ [])
  proper-more : {b : ℕ} {bs : List ℕ} → is_digit b ≡ true → (b ≡ digit0 → ⊥) → Digits bs → Proper (b ∷ bs)

proper-then : (f n : ℕ) (rest : List ℕ) → 0 < n → n ≤ f → Digits rest → Proper (digits_then f n rest)
proper-then zero n rest p h s = absurd (omega arith)
proper-then (suc f) n rest p h s = fewer-or-more n
    (λ l. rw (one-digit f n rest l) (proper-more {b = digit0 + n} (digit-in (digit0 + n) (omega arith) (omega arith)) (omega arith) s))
    (λ m. rw (more-digits f n rest m)
    (proper-then f (n / 10) ((digit0 + n % 10) ∷ rest) (omega arith) (omega arith)
    (digits_more (digit-in (digit0 + n % 10) (omega arith) (omega arith)) s)))

-- a number's digits
pub proper-number : (n : ℕ) → Proper (show_number n)
unfolding digits_then
proper-number zero = proper-one refl
proper-number (suc n) = proper-then (suc n) (suc n) [] (omega arith) (omega arith) digits-none

number-then : (f n : ℕ) (rest : List ℕ) → n ≤ f → number_from 0 (digits_then f n rest) ≡ number_from n rest
unfolding digits_then
number-then zero zero rest h = number-digit 0 48 rest refl
number-then zero (suc n) rest h = absurd (omega arith)
number-then (suc f) n rest h = fewer-or-more n
    (λ l. ap (number_from 0) (one-digit f n rest l)
    ∙ number-digit 0 (digit0 + n) rest (digit-in (digit0 + n) (omega arith) (omega arith))
    ∙ ap (λ m. number_from m rest) (omega arith))
    (λ m. ap (number_from 0) (more-digits f n rest m)
    ∙ number-then f (n / 10) ((digit0 + n % 10) ∷ rest) (omega arith)
    ∙ number-digit (n / 10) (digit0 + n % 10) rest (digit-in (digit0 + n % 10) (omega arith) (omega arith))
    ∙ ap (λ m. number_from m rest) (omega arith))

-- make that number
pub number-of-digits : (n : ℕ) → number_from 0 (show_number n) ≡ n
unfolding number_from
number-of-digits n = number-then n n [] (omega arith)

digits-behind : {s : List ℕ} → Digits s → (a : ℕ) (rest : List ℕ) (f g : ℕ) → 0 < a → number_from a s ≤ f → a ≤ g
    → digits_then f (number_from a s) rest ≡ digits_then g a (s ++ rest)
unfolding number_from
digits-behind digits-none a rest f g p h k = enough f g a rest h k
digits-behind (digits_more {b = b} {bs = bs} d s) a rest f g p h k =
    let bounds = digit-bounds b d in
    let n : ℕ = a * 10 + (b - digit0) in
    let e : number_from a (b ∷ bs) ≡ number_from n bs = number-digit a b bs d in
    let before : n / 10 ≡ a = omega arith in
    let last : digit0 + n % 10 ≡ b = omega arith in
    ap (λ m. digits_then f m rest) e
    ∙ digits-behind s n rest f (suc n) (omega arith) (omega arith) (omega arith)
    ∙ more-digits n n (bs ++ rest) (omega arith)
    ∙ (λ i. digits_then n (before i) (last i ∷ (bs ++ rest)))
    ∙ enough n g a (b ∷ (bs ++ rest)) (omega arith) k

-- digits without a leading zero are those of the number that they make
pub digits-of-number : {s : List ℕ} → Proper s → show_number (number_from 0 s) ≡ s
unfolding number_from
digits-of-number (proper-one {b = b} d) =
    let bounds = digit-bounds b d in
    let n : ℕ = 0 * 10 + (b - digit0) in
    let last : digit0 + n ≡ b = omega arith in
    ap show_number (number-digit 0 b [] d)
    ∙ enough n (suc n) n [] (omega arith) (omega arith)
    ∙ one-digit n n [] (omega arith)
    ∙ ap (λ c. c ∷ []) last
digits-of-number (proper-more {b = b} {bs = bs} d other s) =
    let bounds = digit-bounds b d in
    let n : ℕ = 0 * 10 + (b - digit0) in
    let last : digit0 + n ≡ b = omega arith in
    ap show_number (number-digit 0 b bs d)
    ∙ digits-behind s n [] (number_from n bs) (suc n) (omega arith) (omega arith) (omega arith)
    ∙ one-digit n n (bs ++ []) (omega arith)
    ∙ (λ i. last i ∷ append-nil bs i)

digits-proper : {s : List ℕ} → Proper s → Digits s
digits-proper (proper-one d) = digits_more d digits-none
digits-proper (proper-more d other s) = digits_more d s

-- what a reader of a number finds in a text that begins with the digits s and goes on with none
pub record Begins (t s : List ℕ) : Type 0 where
  pub count : digits 0 t ≡ length s
  pub number : number_from 0 t ≡ number_from 0 s

begins : {s : List ℕ} → Digits s → (rest : List ℕ) → is_digit (get_or rest 0 0) ≡ false → Begins (s ++ rest) s
begins {s} d rest h =
    record {
      count = digits-through d 0 rest ∙ digits-stop (0 + length s) rest h ∙ omega arith;
      number = number-through d 0 rest ∙ number-stop (number_from 0 s) rest h;
    }

pub begins-properly : {s : List ℕ} → Proper s → (rest : List ℕ) → is_digit (get_or rest 0 0) ≡ false → (well_digited (s ++ rest) ≡ true) × Begins (s ++ rest) s
begins-properly {s} p rest h = let b = begins (digits-proper p) rest h in (well p b.count, b)
  where
    well : {u : List ℕ} → Proper u → digits 0 (u ++ rest) ≡ length u → well_digited (u ++ rest) ≡ true
    well (proper-one d) c = rw c
    well (proper-more {b = a} {bs = bs} d other l) c =
        rw (c, lt-ltb 0 (suc (length bs)) (omega arith), ne_eqb a digit0 other, or-true)

-- every text begins with some digits, perhaps none, and goes on with none
pub record Cut (t : List ℕ) : Type 0 where
  pub front : List ℕ
  pub rest : List ℕ
  pub in_front : Digits front
  pub whole : t ≡ front ++ rest
  pub behind : is_digit (get_or rest 0 0) ≡ false

cut : (t : List ℕ) → Cut t
cut [] = record { front = []; rest = []; in_front = digits-none; whole = refl; behind = refl }
cut (b ∷ bs) = go (is_digit b) refl (cut bs)
  where
    go : (c : Bool) → is_digit b ≡ c → Cut bs → Cut (b ∷ bs)
    go true e r =
        record {
          front = b ∷ r.front;
          rest = r.rest;
          in_front = digits_more e r.in_front;
          whole = ap (λ l. b ∷ l) r.whole;
          behind = r.behind;
        }
    go false e r = record { front = []; rest = b ∷ bs; in_front = digits-none; whole = refl; behind = e }

-- where a reader takes them for a number's, they have no leading zero
pub record CutNumber (t : List ℕ) : Type 0 where
  pub front : List ℕ
  pub rest : List ℕ
  pub proper : Proper front
  pub whole : t ≡ front ++ rest
  pub reads : Begins t front

pub cut-number : (t : List ℕ) → well_digited t ≡ true → CutNumber t
cut-number t h = let c = cut t in go c.front c.rest c.in_front c.whole c.behind
  where
    go : (front rest : List ℕ) → Digits front → t ≡ front ++ rest → is_digit (get_or rest 0 0) ≡ false → CutNumber t
    go [] rest d w b =
        let count : digits 0 t ≡ 0 = rw w (begins d rest b).count in
        let some-digits = ltb-true 0 (digits 0 t) (both_true (ltb 0 (digits 0 t)) (eqb (digits 0 t) 1 || not (eqb (get_or t 0 0) digit0)) h).0 in
        absurd (omega arith)
    go (a ∷ []) rest (digits_more e d) w b = record { front = a ∷ []; rest = rest; proper = proper-one e; whole = w; reads = rw w (begins (digits_more e d) rest b) }
    go (a ∷ c ∷ s) rest (digits_more e d) w b =
        let reads : Begins t (a ∷ c ∷ s) = rw w (begins (digits_more e d) rest b) in
        let tests = both_true (ltb 0 (digits 0 t)) (eqb (digits 0 t) 1 || not (eqb (get_or t 0 0) digit0)) h in
        let many : eqb (digits 0 t) 1 ≡ false = ne_eqb (digits 0 t) 1 (omega arith) in
        let leading : get_or t 0 0 ≡ a = ap (λ l. get_or l 0 0) w in
        let unlike = not-true (eqb (get_or t 0 0) digit0) (second-true (eqb (digits 0 t) 1) (not (eqb (get_or t 0 0) digit0)) tests.1 many) in
        record {
          front = a ∷ c ∷ s;
          rest = rest;
          proper = proper-more e (λ z. eqb-false (get_or t 0 0) digit0 unlike (leading ∙ z)) d;
          whole = w;
          reads = reads;
        }
