-- Streams with one item for each unit: what `fit::lengths` answered, and what the transducers make of the items at a place.
use Rattle.std.proofs.Common.{◌≡◌, ℕ, zero, suc, ◌+◌, ◌<◌, ◌≤◌, min, Bool, true, false, ◌&&◌, eqb, List, [], ◌∷◌, ◌++◌, map, length, get_or, drop, replicate, ℤ, pos, negsuc, nat_abs, ◌+ℤ◌, Result, Ok, Err, refl, sym, ◌∙◌, ap, arith, add-one, drop-cons}
use Rattle.std.proofs.Math.Option.{some, none}
use borrow.Author.Tests.{eqb-true, le-ltb, ltb-true}
use lib.Dec.{T}
use lib.ListN.{drop_of_length-le}
use lib.Signed.{lt_z, non_neg}
use mir.Facts.{to_z-of_z}
use mir.Syntax.{w32}
use mir.Val.{SFits, to_z, of_z}
use Rattle.laws.proofs.Never.{never}
use Rattle.snesl.specs.Streams.{bit}
use Rattle.snesl.specs.Charges.{count_true}
use Rattle.snesl.specs.Transducers.{length_misfit, pluses, pairwise, kept, unary, first_negative}
use Rattle.streams.specs.Walks.{told}
use Rattle.streams.specs.declared.output.Failure.{Failure}
use Rattle.streams.specs.declared.output.Failure.TheVariants.{Unfit}

-- streams that fit
pub record Fit (n l m : ℕ) : Type 0 where
  pub whole : length_misfit n l m ≡ none
  pub first : l ≡ n
  pub second : m ≡ n

pub fit : (n l m : ℕ) {u : Unit {0}} → ◌≡◌ {A = Result (Unit {0}) Failure} (Ok u) (told Unfit (length_misfit n l m)) → Fit n l m
fit n l m {u} q = go (eqb l n) (eqb m n) refl refl
  where
    go : (s t : Bool) → eqb l n ≡ s → eqb m n ≡ t → Fit n l m
    go true true a b =
        record { whole = λ i. elim (a i && b i) [ true ↦ none | false ↦ some (min n (min l m)) ]; first = eqb-true l n a; second = eqb-true m n b }
    go true false a b =
        let z : ◌≡◌ {A = Result (Unit {0}) Failure} (Ok u) (Err (Unfit (min n (min l m)))) =
        q ∙ (λ i. told Unfit (elim (a i && b i) [ true ↦ none | false ↦ some (min n (min l m)) ])) in
        never (cc)
    go false t a b =
        let z : ◌≡◌ {A = Result (Unit {0}) Failure} (Ok u) (Err (Unfit (min n (min l m)))) =
        q ∙ (λ i. told Unfit (elim (a i && eqb m n) [ true ↦ none | false ↦ some (min n (min l m)) ])) in
        never (cc)

-- the item at which a walk stands, and what it has still before it
pub next : (zs : List ℤ) (i : ℕ) → i < length zs → drop i zs ≡ get_or zs i (pos 0) ∷ drop (i + 1) zs
next zs i h = drop-cons zs i (pos 0) h ∙ sym (ap (λ k. get_or zs i (pos 0) ∷ drop k zs) (add-one i))

-- ---- MapTwo+

pub pluses-at : (xs ys : List ℤ) (i : ℕ) → i < length xs → i < length ys →
    pluses i (drop i xs) (drop i ys) ≡ (i, get_or xs i (pos 0) +ℤ get_or ys i (pos 0)) ∷ pluses (i + 1) (drop (i + 1) xs) (drop (i + 1) ys)
unfolding pluses
pluses-at xs ys i h k =
    (λ m. pluses i (next xs i h m) (next ys i k m))
    ∙ sym (ap (λ m. (i, get_or xs i (pos 0) +ℤ get_or ys i (pos 0)) ∷ pluses m (drop (i + 1) xs) (drop (i + 1) ys)) (add-one i))

pub pluses-over : (xs ys : List ℤ) (i : ℕ) → length xs ≤ i → pluses i (drop i xs) (drop i ys) ≡ []
unfolding pluses
pluses-over xs ys i h = ap (λ us. pluses i us (drop i ys)) (drop_of_length-le xs h)

pub pluses-long : (n k : ℕ) (xs ys : List ℤ) → length xs ≡ n → length ys ≡ n → length (pluses k xs ys) ≡ n
unfolding pluses
pluses-long n k [] ys p q = p
pluses-long n k (x ∷ xs) [] p q = q
pluses-long n k (x ∷ xs) (y ∷ ys) p q =
    let e : length xs ≡ length ys = omega arith in
    ap suc (pluses-long (length xs) (suc k) xs ys refl (sym e)) ∙ p

-- ---- comparisons

module _ (f : ℤ → ℤ → Bool) where
  pub tests-next : (x y : ℤ) (xs ys : List ℤ) → map bit (pairwise f (x ∷ xs) (y ∷ ys)) ≡ bit (f x y) ∷ map bit (pairwise f xs ys)
  unfolding pairwise
  tests-next x y xs ys = refl

  pub tests-end : (ys : List ℤ) → map bit (pairwise f [] ys) ≡ []
  unfolding pairwise
  tests-end ys = refl

pub tests-long : (f : ℤ → ℤ → Bool) (n : ℕ) (xs ys : List ℤ) → length xs ≡ n → length ys ≡ n → length (pairwise f xs ys) ≡ n
unfolding pairwise
tests-long f n [] ys p q = p
tests-long f n (x ∷ xs) [] p q = q
tests-long f n (x ∷ xs) (y ∷ ys) p q =
    let e : length xs ≡ length ys = omega arith in
    ap suc (tests-long f (length xs) xs ys refl (sym e)) ∙ p

-- ---- Pack

module _ (x : ℤ) (cs : List Bool) (xs : List ℤ) {c : Bool} where
  pub kept-not : c ≡ false → kept (c ∷ cs) (x ∷ xs) ≡ kept cs xs
  unfolding kept
  kept-not e = rw e

  pub kept_here : c ≡ true → kept (c ∷ cs) (x ∷ xs) ≡ x ∷ kept cs xs
  unfolding kept
  kept_here e = rw e

pub kept-end : (xs : List ℤ) → kept [] xs ≡ []
unfolding kept
kept-end xs = refl

module _ (cs : List Bool) {c : Bool} where
  pub count-not : c ≡ false → count_true (c ∷ cs) ≡ count_true cs
  unfolding count_true
  count-not e = rw e

  pub count-here : c ≡ true → count_true (c ∷ cs) ≡ count_true cs + 1
  unfolding count_true
  count-here e = rw e

pub count-end : count_true [] ≡ 0
unfolding count_true
count-end = refl

pub kept-long : (cs : List Bool) (xs : List ℤ) → length cs ≡ length xs → length (kept cs xs) ≡ count_true cs
unfolding kept count_true
kept-long [] xs e = refl
kept-long (c ∷ cs) [] e = absurd (omega arith)
kept-long (false ∷ cs) (x ∷ xs) e = kept-long cs xs (omega arith)
kept-long (true ∷ cs) (x ∷ xs) e = ap suc (kept-long cs xs (omega arith)) ∙ omega arith

-- ---- ToFlags

pub negative-here : (k : ℕ) (z : ℤ) (zs : List ℤ) → lt_z z (pos 0) ≡ true → first_negative k (z ∷ zs) ≡ some k
unfolding first_negative
negative-here k (pos m) zs e = absurd (omega (arith, ltb-true m 0 e))
negative-here k (negsuc m) zs e = refl

pub negative-not : (k : ℕ) (z : ℤ) (zs : List ℤ) → lt_z z (pos 0) ≡ false → first_negative k (z ∷ zs) ≡ first_negative (k + 1) zs
unfolding first_negative
negative-not k (pos m) zs e = rw add-one
negative-not k (negsuc m) zs e = never (cc)

-- by its place
pub negative-at : (zs : List ℤ) (i : ℕ) → i < length zs → lt_z (get_or zs i (pos 0)) (pos 0) ≡ true → first_negative i (drop i zs) ≡ some i
negative-at zs i h e = ap (first_negative i) (next zs i h) ∙ negative-here i (get_or zs i (pos 0)) (drop (i + 1) zs) e

pub not-negative-at : (zs : List ℤ) (i : ℕ) → i < length zs → lt_z (get_or zs i (pos 0)) (pos 0) ≡ false
    → first_negative i (drop i zs) ≡ first_negative (i + 1) (drop (i + 1) zs)
not-negative-at zs i h e = ap (first_negative i) (next zs i h) ∙ negative-not i (get_or zs i (pos 0)) (drop (i + 1) zs) e

pub natural-here : (zs : List ℤ) (i : ℕ) → i < length zs → first_negative i (drop i zs) ≡ none → lt_z (get_or zs i (pos 0)) (pos 0) ≡ false
unfolding first_negative
natural-here zs i h e = go (get_or zs i (pos 0)) (sym (ap (first_negative i) (next zs i h)) ∙ e)
  where
    go : (z : ℤ) → first_negative i (z ∷ drop (i + 1) zs) ≡ none → lt_z z (pos 0) ≡ false
    go (pos m) f = le-ltb m 0 (omega arith)
    go (negsuc m) f = never (cc)

pub negative-over : (zs : List ℤ) (i : ℕ) → length zs ≤ i → first_negative i (drop i zs) ≡ none
unfolding first_negative
negative-over zs i h = ap (first_negative i) (drop_of_length-le zs h)

-- a number of them that is not negative
pub nonnegative : (z : ℤ) → lt_z z (pos 0) ≡ false → (pos (nat_abs z) ≡ z) × T (non_neg z)
nonnegative (pos m) e = (refl, tt)
nonnegative (negsuc m) e = never (cc)

-- an item that is not negative, as code has it
pub natural : (z : ℤ) → SFits w32 z → lt_z z (pos 0) ≡ false → pos (nat_abs (to_z w32 (of_z w32 z))) ≡ z
natural (pos m) f e = ap (λ y. pos (nat_abs y)) (to_z-of_z f)
natural (negsuc m) f e = never (cc)

pub unary-over : (zs : List ℤ) (i : ℕ) → length zs ≤ i → unary (drop i zs) ≡ []
unfolding unary
unary-over zs i h = ap unary (drop_of_length-le zs h)

pub unary-next : (m : ℕ) (zs : List ℤ) → map bit (unary (pos m ∷ zs)) ≡ map bit (replicate m false ++ true ∷ []) ++ map bit (unary zs)
unfolding unary
unary-next m zs = go m
  where
    go : (k : ℕ) → map bit (replicate k false ++ true ∷ unary zs) ≡ map bit (replicate k false ++ true ∷ []) ++ map bit (unary zs)
    go zero = refl
    go (suc k) = ap (λ l. pos 0 ∷ l) (go k)

pub unary-long : (m : ℕ) (zs : List ℤ) → length (unary (pos m ∷ zs)) ≡ m + 1 + length (unary zs)
unfolding unary
unary-long m zs = go m
  where
    go : (k : ℕ) → length (replicate k false ++ true ∷ unary zs) ≡ k + 1 + length (unary zs)
    go zero = omega arith
    go (suc k) = ap suc (go k) ∙ omega arith

pub unary-at : (zs : List ℤ) (i m : ℕ) → i < length zs → pos m ≡ get_or zs i (pos 0) →
    (map bit (unary (drop i zs)) ≡ map bit (replicate m false ++ true ∷ []) ++ map bit (unary (drop (i + 1) zs)))
    × (length (unary (drop i zs)) ≡ m + 1 + length (unary (drop (i + 1) zs)))
unary-at zs i m h e =
    let at : drop i zs ≡ pos m ∷ drop (i + 1) zs = next zs i h ∙ sym (ap (λ z. z ∷ drop (i + 1) zs) e) in
    (ap (λ l. map bit (unary l)) at ∙ unary-next m (drop (i + 1) zs), ap (λ l. length (unary l)) at ∙ unary-long m (drop (i + 1) zs))
