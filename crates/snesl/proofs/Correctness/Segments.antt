-- What the transducers without arithmetic make of flags that are the segments of some lists: nothing is left over or missing, Usum counts
-- the items, Distr gives each segment's item to each item of the segment, and UPack keeps whole segments. An empty list is a segment too: a T alone.
use Prim.Native.Nat.{ℕ, zero, suc, ◌+◌, ◌≤◌}
use native.Mathlib.Omega.{arith}
use mathlib.Core.Path.{◌≡◌, refl, ap, ◌∙◌}
use mathlib.Core.Bool.{Bool, true, false}
use mathlib.Core.List.{List, [], ◌∷◌, ◌++◌, map}
use mathlib.Core.Option.{some, none}
use lib.IntN.{ℤ}
use lib.ListN.{length, replicate, drop, length-append, length-replicate, length-drop}
use Rattle.laws.proofs.Lists.{map-const}
use Rattle.snesl.specs.Evaluation.{one_if}
use Rattle.snesl.specs.Transducers.{alone, each_f, each_t, misfit, count_f, spread, kept, kept_segments, unitary}
use Rattle.snesl.specs.Representation.{concat, segments}

-- k F's and a T before further flags
abbrev pub segment : ℕ → List Bool → List Bool
segment k bs = replicate k false ++ true ∷ bs

-- a segment's flags alone
misfit-alone-segment : (k n m : ℕ) (bs : List Bool)
    → misfit some {B = ℤ} alone k (suc n) (segment m bs) [] ≡ misfit some {B = ℤ} alone (suc k) n bs []
unfolding misfit
misfit-alone-segment k n zero bs = refl
misfit-alone-segment k n (suc m) bs = misfit-alone-segment k n m bs

count_f-segment : (m : ℕ) (bs : List Bool) → count_f some (segment m bs) ≡ m + count_f some bs
unfolding count_f
count_f-segment zero bs = omega arith
count_f-segment (suc m) bs = omega (arith, count_f-segment m bs)

module _ {A : Type 0} where
  pub length-segments : (ls : List (List A)) → length (segments ls) ≡ length (concat ls) + length ls
  unfolding segments concat
  length-segments [] = refl
  length-segments (l ∷ ls) =
      omega (
        arith,
        length-append (replicate (length l) false) (true ∷ segments ls),
        length-replicate (length l) false,
        length-append l (concat ls),
        length-segments ls,
      )

  pub segments-fit-alone : (ls : List (List A)) (k : ℕ) → misfit some {B = ℤ} alone k (length ls) (segments ls) [] ≡ none
  unfolding misfit segments
  segments-fit-alone [] k = refl
  segments-fit-alone (l ∷ ls) k = misfit-alone-segment k (length ls) (length l) (segments ls) ∙ segments-fit-alone ls (suc k)

  -- a segment's flags beside the one item that it is to have
  misfit-one-segment : (k n m : ℕ) (bs : List Bool) (x : A) (xs : List A)
      → misfit some each_t k (suc n) (segment m bs) (x ∷ xs) ≡ misfit some each_t (suc k) n bs xs
  unfolding misfit
  misfit-one-segment k n zero bs x xs = refl
  misfit-one-segment k n (suc m) bs x xs = misfit-one-segment k n m bs x xs

  spread-segment : (m : ℕ) (bs : List Bool) (x : A) (xs : List A)
      → spread some (segment m bs) (x ∷ xs) ≡ replicate m x ++ spread some bs xs
  unfolding spread
  spread-segment zero bs x xs = refl
  spread-segment (suc m) bs x xs = ap (λ l. x ∷ l) (spread-segment m bs x xs)

  pub count_f-segments : (ls : List (List A)) → count_f some (segments ls) ≡ length (concat ls)
  unfolding count_f segments concat
  count_f-segments [] = refl
  count_f-segments (l ∷ ls) =
      omega (arith, count_f-segment (length l) (segments ls), count_f-segments ls, length-append l (concat ls))

-- a segment's flags beside as many items
misfit-items-segment : {B : Type 0} (k n m : ℕ) (bs : List Bool) (xs : List B)
    → m ≤ length xs
    → misfit some each_f k (suc n) (segment m bs) xs ≡ misfit some each_f (suc k) n bs (drop m xs)
unfolding misfit
misfit-items-segment k n zero bs xs h = refl
misfit-items-segment k n (suc m) bs [] h = absurd (omega arith)
misfit-items-segment k n (suc m) bs (x ∷ xs) h = misfit-items-segment k n m bs xs (omega arith)

pub segments-fit-items : {A B : Type 0} (ls : List (List A)) (xs : List B) (k : ℕ)
    → length xs ≡ length (concat ls)
    → misfit some each_f k (length ls) (segments ls) xs ≡ none
unfolding misfit segments concat
segments-fit-items [] [] k h = refl
segments-fit-items [] (x ∷ xs) k h = absurd (omega arith)
segments-fit-items (l ∷ ls) xs k h =
    let long : length xs ≡ length l + length (concat ls) = h ∙ length-append l (concat ls) in
    misfit-items-segment k (length ls) (length l) (segments ls) xs (omega arith)
    ∙ segments-fit-items ls (drop (length l) xs) (suc k) (omega (arith, length-drop (length l) xs))

-- Each R has some items (f) and one value (g): beside the items' segments the values fit, and each item gets its R's value.
module _ {R A B : Type 0} (f : R → List A) (g : R → B) where
  pub segments-fit-one : (rs : List R) (k : ℕ) → misfit some each_t k (length rs) (segments (map f rs)) (map g rs) ≡ none
  unfolding misfit segments
  segments-fit-one [] k = refl
  segments-fit-one (r ∷ rs) k =
      misfit-one-segment k (length rs) (length (f r)) (segments (map f rs)) (g r) (map g rs) ∙ segments-fit-one rs (suc k)

  pub spread-segments : (rs : List R) → spread some (segments (map f rs)) (map g rs) ≡ concat (map (λ r. map (λ v. g r) (f r)) rs)
  unfolding spread segments concat
  spread-segments [] = refl
  spread-segments (r ∷ rs) =
      spread-segment (length (f r)) (segments (map f rs)) (g r) (map g rs)
      ∙ rw (spread-segments rs, map-const (g r) (f r))

-- UPack keeps a segment whole or not at all
kept-segment : (m : ℕ) (cs bs : List Bool) → kept_segments some (true ∷ cs) (segment m bs) ≡ segment m (kept_segments some cs bs)
unfolding kept_segments
kept-segment zero cs bs = refl
kept-segment (suc m) cs bs = ap (λ l. false ∷ l) (kept-segment m cs bs)

left-segment : (m : ℕ) (cs bs : List Bool) → kept_segments some (false ∷ cs) (segment m bs) ≡ kept_segments some cs bs
unfolding kept_segments
left-segment zero cs bs = refl
left-segment (suc m) cs bs = left-segment m cs bs

-- Each R has a bool (f) and a value (h): what the bools keep, of lists their segments too; and the units that B2u makes of the bools.
module _ {R A : Type 0} (f : R → Bool) (h : R → A) where
  pub kept-each : (rs : List R) → kept (map f rs) (map h rs) ≡ concat (map (λ r. one_if (f r) (h r)) rs)
  unfolding kept concat
  kept-each [] = refl
  kept-each (r ∷ rs) = go (f r) (kept-each rs)
    where
      go : (c : Bool) → kept (map f rs) (map h rs) ≡ concat (map (λ r. one_if (f r) (h r)) rs)
          → kept (c ∷ map f rs) (h r ∷ map h rs) ≡ one_if c (h r) ++ concat (map (λ r. one_if (f r) (h r)) rs)
      go false e = e
      go true e = ap (λ l. h r ∷ l) e

  pub unitary-segments : (rs : List R) → unitary (map f rs) ≡ segments (map (λ r. one_if (f r) (h r)) rs)
  unfolding unitary segments
  unitary-segments [] = refl
  unitary-segments (r ∷ rs) = go (f r) (unitary-segments rs)
    where
      go : (c : Bool) → unitary (map f rs) ≡ segments (map (λ r. one_if (f r) (h r)) rs)
          → unitary (c ∷ map f rs) ≡ segment (length (one_if c (h r))) (segments (map (λ r. one_if (f r) (h r)) rs))
      go false e = ap (λ l. true ∷ l) e
      go true e = ap (λ l. false ∷ true ∷ l) e

pub kept-segments : {R A : Type 0} (f : R → Bool) (h : R → List A) (rs : List R)
    → kept_segments some (map f rs) (segments (map h rs)) ≡ segments (concat (map (λ r. one_if (f r) (h r)) rs))
unfolding kept_segments segments concat
kept-segments f h [] = refl
kept-segments f h (r ∷ rs) = go (f r) (kept-segments f h rs)
  where
    go : (c : Bool) → kept_segments some (map f rs) (segments (map h rs)) ≡ segments (concat (map (λ r. one_if (f r) (h r)) rs))
        → kept_segments some (c ∷ map f rs) (segment (length (h r)) (segments (map h rs))) ≡ segments (one_if c (h r) ++ concat (map (λ r. one_if (f r) (h r)) rs))
    go false e = left-segment (length (h r)) (map f rs) (segments (map h rs)) ∙ e
    go true e = kept-segment (length (h r)) (map f rs) (segments (map h rs)) ∙ ap (segment (length (h r))) e
