-- The next segment of streams that fit, k of n segments being done: how many F's it has, what it takes, and that the rest fits too. And how long
-- the outputs are.
use Prim.Native.Nat.{ℕ, zero, suc, ◌+◌, ◌-◌, ◌≤◌, ◌<◌}
use mathlib.Core.List.{List, [], ◌∷◌}
use mathlib.Core.Option.{none}
use mathlib.Core.Path.{◌≡◌, sym, ◌∙◌, ap}
use native.Mathlib.Numerals.{add-one}
use native.Mathlib.Omega.{arith}
use lib.IntN.{ℤ, pos}
use lib.ListN.{length, take, drop, get_or, replicate, length-append, length-drop, length-replicate}
use lib.Seq.{drop-cons, drop-drop}
use Rattle.snesl.specs.Transducers.{Feed, each_f, each_t, flag_of, misfit, spread, sums}
use Rattle.flags.specs.Segments.{leading}
use Rattle.flags.proofs.Clauses.{spread_end, sums-end}
use Rattle.flags.proofs.Fronts as fronts
use Rattle.flags.proofs.Fronts.{Front, taken, front-leading, front-within, front-spread, front-sums, used-up}

-- the first segment off the flags, and its items off theirs
pub record Cut (bs xs : List ℤ) (count : ℕ) (bs' these xs' : List ℤ) : Type 0 where
  pub is : count ≡ leading flag_of bs
  pub rest : bs' ≡ drop (suc count) bs
  pub front : these ≡ take count xs
  pub back : xs' ≡ drop count xs

pub cut : {bs xs bs' these xs' : List ℤ} {count : ℕ} → count ≡ leading flag_of bs → bs' ≡ drop (leading flag_of bs + 1) bs → these ≡ take count xs → xs' ≡ drop count xs →
    Cut bs xs count bs' these xs'
cut {bs} {xs} {bs'} {these} {xs'} {count} e r f b =
    let m : leading flag_of bs + 1 ≡ suc count = omega arith in
    record { is = e; rest = r ∙ ap (λ x. drop x bs) m; front = f; back = b }

pub record Segment (feed : Feed) (k n count : ℕ) (bs xs : List ℤ) : Type 0 where
  pub front : Front flag_of bs count
  pub flags : count < length bs
  pub items : taken feed count ≤ length xs
  pub rest : misfit flag_of feed (k + 1) (n - (k + 1)) (drop (suc count) bs) (drop (taken feed count) xs) ≡ none

module _ (feed : Feed) (k n : ℕ) (bs xs : List ℤ) (lt : k < n) (fit : misfit flag_of feed k (n - k) bs xs ≡ none) where
  first : (count : ℕ) × (count ≡ leading flag_of bs) × Segment feed k n count bs xs
  first =
      let m : n - k ≡ suc (n - suc k) = omega arith in
      let s = fronts.ends flag_of feed k (n - suc k) bs xs (ap (λ x. misfit flag_of feed k x bs xs) (sym m) ∙ fit) in
      let e1 : suc k ≡ k + 1 = omega arith in
      let e2 : n - suc k ≡ n - (k + 1) = omega arith in (
        s.count,
        sym (front-leading flag_of s.front),
        record {
          front = s.front;
          flags = front-within flag_of s.front;
          items = s.items;
          rest = (λ x. misfit flag_of feed (sym e1 x) (sym e2 x) (drop (suc s.count) bs) (drop (taken feed s.count) xs)) ∙ s.rest;
        },
      )

  -- its T is there
  pub ends-within : leading flag_of bs < length bs
  ends-within = let f = first in omega (arith, f.1, f.2.flags)

  pub segment : (count : ℕ) → count ≡ leading flag_of bs → Segment feed k n count bs xs
  segment count e = let f = first in let same : f.0 ≡ count = f.1 ∙ sym e in rw (sym same) f.2

  -- and so are its items
  pub items-within : (count : ℕ) → count ≡ leading flag_of bs → taken feed count ≤ length xs
  items-within count e = (segment count e).items

-- all segments are done
pub finished : (feed : Feed) (bs xs : List ℤ) (k n : ℕ) → n ≤ k → misfit flag_of feed k (n - k) bs xs ≡ none → bs ≡ []
finished feed bs xs k n h fit =
    let e : 0 ≡ n - k = omega arith in
    (used-up flag_of feed k bs xs (ap (λ m. misfit flag_of feed k m bs xs) e ∙ fit)).0

-- ---- a walk over items of which there is one for each segment, at item i

module _ (items bs : List ℤ) (i : ℕ) (fit : misfit flag_of each_t i (length items - i) bs (drop i items) ≡ none) where
  pub items-over : length items ≤ i → bs ≡ []
  items-over end = finished each_t bs (drop i items) i (length items) end fit

  module _ (lt : i < length items) where
    pub next-item : drop i items ≡ get_or items i (pos 0) ∷ drop (i + 1) items
    next-item = drop-cons items i (pos 0) lt ∙ ap (λ m. get_or items i (pos 0) ∷ drop m items) (sym (add-one i))

    pub next-within : leading flag_of bs < length bs
    next-within = ends-within each_t i (length items) bs (drop i items) lt fit

    module _ {bs' : List ℤ} {count : ℕ} (e : count ≡ leading flag_of bs) (r : bs' ≡ drop (leading flag_of bs + 1) bs) where
      pub here : Segment each_t i (length items) count bs (drop i items)
      here = segment each_t i (length items) bs (drop i items) lt fit count e

      pub next-front : Front flag_of bs count
      next-front = here.front

      pub next-rest : bs' ≡ drop (suc count) bs
      next-rest = let m : leading flag_of bs + 1 ≡ suc count = omega arith in r ∙ ap (λ x. drop x bs) m

      pub next-fits : misfit flag_of each_t (i + 1) (length items - (i + 1)) bs' (drop (i + 1) items) ≡ none
      next-fits = (λ q. misfit flag_of each_t (i + 1) (length items - (i + 1)) (next-rest q) (sym (drop-drop 1 i items) q)) ∙ here.rest

-- there is an item for each segment
pub items-long : (m k : ℕ) (bs xs : List ℤ) → misfit flag_of each_t k m bs xs ≡ none → length xs ≡ m
items-long zero k bs xs fit = ap length (used-up flag_of each_t k bs xs fit).1
items-long (suc m) k bs xs fit =
    let s = fronts.ends flag_of each_t k m bs xs fit in
    let l : length (drop 1 xs) ≡ length xs - 1 = length-drop 1 xs in
    omega (arith, s.items, items-long m (suc k) (drop (suc s.count) bs) (drop 1 xs) s.rest)

-- ---- how long the outputs are

pub spread-long : (m k : ℕ) (bs xs : List ℤ) → misfit flag_of each_t k m bs xs ≡ none → length (spread flag_of bs xs) + m ≡ length bs
spread-long zero k bs xs fit =
    let e : bs ≡ [] = (used-up flag_of each_t k bs xs fit).0 in
    rw e (ap (λ l. length l + 0) (spread_end flag_of xs))
spread-long (suc m) k bs [] fit = let s = fronts.ends flag_of each_t k m bs [] fit in absurd (omega (arith, s.items))
spread-long (suc m) k bs (x ∷ xs) fit =
    let s = fronts.ends flag_of each_t k m bs (x ∷ xs) fit in
    let l : length (spread flag_of bs (x ∷ xs)) ≡ length (replicate s.count x) + length (spread flag_of (drop (suc s.count) bs) xs) =
    ap length (front-spread flag_of s.front x xs) ∙ length-append (replicate s.count x) (spread flag_of (drop (suc s.count) bs) xs) in
    let r : length (replicate s.count x) ≡ s.count = length-replicate s.count x in
    let d : length (drop (suc s.count) bs) ≡ length bs - suc s.count = length-drop (suc s.count) bs in
    omega (arith, front-within flag_of s.front, spread-long m (suc k) (drop (suc s.count) bs) xs s.rest)

pub sums-long : (m k : ℕ) (t : ℤ) (bs xs : List ℤ) → misfit flag_of each_f k m bs xs ≡ none → length (sums flag_of k t bs xs) ≡ m
sums-long zero k t bs xs fit =
    let e : bs ≡ [] = (used-up flag_of each_f k bs xs fit).0 in
    rw e (ap length (sums-end flag_of k t xs))
sums-long (suc m) k t bs xs fit =
    let s = fronts.ends flag_of each_f k m bs xs fit in
    ap length (front-sums flag_of s.front k t xs s.items)
    ∙ ap suc (sums-long m (suc k) (pos 0) (drop (suc s.count) bs) (drop s.count xs) s.rest)
