-- The definitions over a flag stream, flag by flag, over any way to read a flag: each law is one clause.
use Prim.Native.Nat.{ℕ, zero, suc}
use mathlib.Core.Bool.{Bool, true, false}
use mathlib.Core.List.{List, [], ◌∷◌}
use mathlib.Core.Option.{Option, some, none}
use mathlib.Core.Path.{◌≡◌, refl}
use lib.IntN.{ℤ, pos, ◌+ℤ◌}
use Rattle.snesl.specs.Transducers.{Feed, takes, fed, misfit, count_f, spread, scans, sums, only_if, kept_segments}
use Rattle.flags.specs.Segments.{leading, wholes}

module _ {A : Type 0} (flag : A → Option Bool) where
  -- ---- whether streams fit

  module _ {B : Type 0} (feed : Feed) (k m : ℕ) (b : A) (bs : List A) (xs : List B) where
    -- an F goes on within the segment, a T to the next one
    pub misfit-false : {ys : List B} → flag b ≡ some false → fed (takes feed false) xs ≡ some ys →
        misfit flag feed k (suc m) (b ∷ bs) xs ≡ misfit flag feed k (suc m) bs ys
    unfolding misfit
    misfit-false p q = rw (misfit, p, q)

    pub misfit-true : {ys : List B} → flag b ≡ some true → fed (takes feed true) xs ≡ some ys →
        misfit flag feed k (suc m) (b ∷ bs) xs ≡ misfit flag feed (suc k) m bs ys
    unfolding misfit
    misfit-true p q = rw (misfit, p, q)

    -- a flag too many, no flag, a flag that lacks its item
    pub misfit-over : misfit flag feed k 0 (b ∷ bs) xs ≡ some k
    unfolding misfit
    misfit-over = refl

  pub misfit-no-flag : {B : Type 0} (feed : Feed) (k m : ℕ) (b : A) (bs : List A) (xs : List B) → flag b ≡ none → misfit flag feed k m (b ∷ bs) xs ≡ some k
  unfolding misfit
  misfit-no-flag feed k zero b bs xs p = refl
  misfit-no-flag feed k (suc m) b bs xs p = rw (misfit, p)

  pub misfit-lacks : {B : Type 0} (feed : Feed) (k m : ℕ) (b : A) (bs : List A) (xs : List B) (c : Bool) → flag b ≡ some c → fed (takes feed c) xs ≡ none →
      misfit flag feed k m (b ∷ bs) xs ≡ some k
  unfolding misfit
  misfit-lacks feed k zero b bs xs c p q = refl
  misfit-lacks feed k (suc m) b bs xs c p q = rw (misfit, p, q)

  -- the end of the flags: a segment is due, an item is left, all is used up
  pub misfit-due : {B : Type 0} (feed : Feed) (k m : ℕ) (xs : List B) → misfit flag feed k (suc m) [] xs ≡ some k
  unfolding misfit
  misfit-due feed k m xs = refl

  pub misfit-left : {B : Type 0} (feed : Feed) (k m : ℕ) (x : B) (xs : List B) → misfit flag feed k m [] (x ∷ xs) ≡ some k
  unfolding misfit
  misfit-left feed k zero x xs = refl
  misfit-left feed k (suc m) x xs = refl

  pub misfit-none : (B : Type 0) (feed : Feed) (k : ℕ) → misfit flag {B = B} feed k 0 [] [] ≡ none
  unfolding misfit
  misfit-none B feed k = refl

  module _ (b : A) (bs : List A) where
    -- ---- segments

    pub leading-false : flag b ≡ some false → leading flag (b ∷ bs) ≡ suc (leading flag bs)
    unfolding leading
    leading-false p = rw (leading, p)

    pub leading-true : flag b ≡ some true → leading flag (b ∷ bs) ≡ 0
    unfolding leading
    leading-true p = rw (leading, p)

    pub leading-none : flag b ≡ none → leading flag (b ∷ bs) ≡ 0
    unfolding leading
    leading-none p = rw (leading, p)

    module _ (k : ℕ) where
      pub wholes-false : (w : Bool) → flag b ≡ some false → wholes flag k w (b ∷ bs) ≡ wholes flag k true bs
      unfolding wholes
      wholes-false true p = rw (wholes, p)
      wholes-false false p = rw (wholes, p)

      pub wholes-true : (w : Bool) → flag b ≡ some true → wholes flag k w (b ∷ bs) ≡ wholes flag (suc k) false bs
      unfolding wholes
      wholes-true true p = rw (wholes, p)
      wholes-true false p = rw (wholes, p)

      pub wholes-none : (w : Bool) → flag b ≡ none → wholes flag k w (b ∷ bs) ≡ none
      unfolding wholes
      wholes-none true p = rw (wholes, p)
      wholes-none false p = rw (wholes, p)

    -- ---- outputs

    pub count_f-false : flag b ≡ some false → count_f flag (b ∷ bs) ≡ suc (count_f flag bs)
    unfolding count_f
    count_f-false p = rw (count_f, p)

    pub count_f-true : flag b ≡ some true → count_f flag (b ∷ bs) ≡ count_f flag bs
    unfolding count_f
    count_f-true p = rw (count_f, p)

    pub spread-false : {B : Type 0} (x : B) (xs : List B) → flag b ≡ some false → spread flag (b ∷ bs) (x ∷ xs) ≡ x ∷ spread flag bs (x ∷ xs)
    unfolding spread
    spread-false x xs p = rw (spread, p)

    pub spread-true : {B : Type 0} (x : B) (xs : List B) → flag b ≡ some true → spread flag (b ∷ bs) (x ∷ xs) ≡ spread flag bs xs
    unfolding spread
    spread-true x xs p = rw (spread, p)

    pub scans-false : (start : ℤ) (k : ℕ) (t x : ℤ) (xs : List ℤ) → flag b ≡ some false →
        scans flag start k t (b ∷ bs) (x ∷ xs) ≡ (k, t) ∷ scans flag start k (t +ℤ x) bs xs
    unfolding scans
    scans-false start k t x xs p = rw (scans, p)

    pub scans-true : (start : ℤ) (k : ℕ) (t : ℤ) (xs : List ℤ) → flag b ≡ some true →
        scans flag start k t (b ∷ bs) xs ≡ scans flag start (suc k) start bs xs
    unfolding scans
    scans-true start k t xs p = rw (scans, p)

    pub sums-false : (k : ℕ) (t x : ℤ) (xs : List ℤ) → flag b ≡ some false → sums flag k t (b ∷ bs) (x ∷ xs) ≡ sums flag k (t +ℤ x) bs xs
    unfolding sums
    sums-false k t x xs p = rw (sums, p)

    pub sums-true : (k : ℕ) (t : ℤ) (xs : List ℤ) → flag b ≡ some true → sums flag k t (b ∷ bs) xs ≡ (k, t) ∷ sums flag (suc k) (pos 0) bs xs
    unfolding sums
    sums-true k t xs p = rw (sums, p)

    pub kept-false : (c : Bool) (cs : List Bool) → flag b ≡ some false → kept_segments flag (c ∷ cs) (b ∷ bs) ≡ only_if c false (kept_segments flag (c ∷ cs) bs)
    unfolding kept_segments
    kept-false c cs p = rw (kept_segments, p)

    pub kept-true : (c : Bool) (cs : List Bool) → flag b ≡ some true → kept_segments flag (c ∷ cs) (b ∷ bs) ≡ only_if c true (kept_segments flag cs bs)
    unfolding kept_segments
    kept-true c cs p = rw (kept_segments, p)

  pub leading_end : leading flag [] ≡ 0
  unfolding leading
  leading_end = refl

  pub wholes-end : (k : ℕ) → wholes flag k false [] ≡ some k
  unfolding wholes
  wholes-end k = refl

  pub wholes-within : (k : ℕ) → wholes flag k true [] ≡ none
  unfolding wholes
  wholes-within k = refl

  pub count_f-end : count_f flag [] ≡ 0
  unfolding count_f
  count_f-end = refl

  pub spread_end : {B : Type 0} (xs : List B) → spread flag [] xs ≡ []
  unfolding spread
  spread_end xs = refl

  pub scans-end : (start : ℤ) (k : ℕ) (t : ℤ) (xs : List ℤ) → scans flag start k t [] xs ≡ []
  unfolding scans
  scans-end start k t xs = refl

  pub sums-end : (k : ℕ) (t : ℤ) (xs : List ℤ) → sums flag k t [] xs ≡ []
  unfolding sums
  sums-end k t xs = refl

  pub kept-end : (cs : List Bool) → kept_segments flag cs [] ≡ []
  unfolding kept_segments
  kept-end cs = refl
