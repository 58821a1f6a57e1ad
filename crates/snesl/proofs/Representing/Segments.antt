-- Flags that are segments, each some F's and a T (002, 1.4): which flags fit, and that to cut items along them and to lay the pieces end to end undo one
-- another. Said over any items, and over any way to write a flag: as a Bool, or as 0 and 1 in a buffer.
use Prim.Native.Nat.{ℕ, zero, suc, ◌+◌}
use native.Mathlib.Omega.{arith}
use mathlib.Core.Bool.{Bool, true, false}
use mathlib.Core.List.{List, [], ◌∷◌, ◌++◌, map, map-append, append-nil, append_assoc}
use mathlib.Core.Option.{Option, some, none}
use mathlib.Core.Path.{◌≡◌, refl, sym, ap, ◌∙◌}
use lib.ListN.{length, replicate, length-append}
use Rattle.laws.proofs.Options.{none-some}
use Rattle.snesl.specs.Transducers.{misfit, count_f, alone}
use Rattle.snesl.specs.Representation.{concat, segments, regroup}

module _ {A : Type 0} (flag : A → Option Bool) where
  -- the clauses of what reads flags, at a flag that is known
  count-F : (b : A) (bs : List A) → flag b ≡ some false → count_f flag (b ∷ bs) ≡ suc (count_f flag bs)
  unfolding count_f
  count-F b bs e = rw (e, count_f)

  count-T : (b : A) (bs : List A) → flag b ≡ some true → count_f flag (b ∷ bs) ≡ count_f flag bs
  unfolding count_f
  count-T b bs e = rw (e, count_f)

  module _ {B : Type 0} where
    regroup-F : (b : A) (bs : List A) (sofar : List B) (x : B) (xs : List B) → flag b ≡ some false
        → regroup flag sofar (b ∷ bs) (x ∷ xs) ≡ regroup flag (sofar ++ x ∷ []) bs xs
    unfolding regroup
    regroup-F b bs sofar x xs e = rw (e, regroup)

    regroup-T : (b : A) (bs : List A) (sofar xs : List B) → flag b ≡ some true
        → regroup flag sofar (b ∷ bs) xs ≡ sofar ∷ regroup flag [] bs xs
    unfolding regroup
    regroup-T b bs sofar xs e = rw (e, regroup)

    misfit-F : (k n : ℕ) (b : A) (bs : List A) (xs : List B) → flag b ≡ some false
        → misfit flag alone k (suc n) (b ∷ bs) xs ≡ misfit flag alone k (suc n) bs xs
    unfolding misfit
    misfit-F k n b bs xs e = rw (e, misfit)

    misfit-T : (k n : ℕ) (b : A) (bs : List A) (xs : List B) → flag b ≡ some true
        → misfit flag alone k (suc n) (b ∷ bs) xs ≡ misfit flag alone (suc k) n bs xs
    unfolding misfit
    misfit-T k n b bs xs e = rw (e, misfit)

    misfit-none : (k n : ℕ) (b : A) (bs : List A) (xs : List B) → flag b ≡ none
        → misfit flag alone k (suc n) (b ∷ bs) xs ≡ some k
    unfolding misfit
    misfit-none k n b bs xs e = rw (e, misfit)

  -- flags that are n segments and nothing else
  pub data Segmented : ℕ → List A → Type 0 where
    segmented-end : Segmented 0 []
    segmented-F : {n : ℕ} {b : A} {bs : List A} → flag b ≡ some false → Segmented (suc n) bs → Segmented (suc n) (b ∷ bs)
    segmented-T : {n : ℕ} {b : A} {bs : List A} → flag b ≡ some true → Segmented n bs → Segmented (suc n) (b ∷ bs)

  -- that is what no misfit means
  pub segmented : (B : Type 0) (k n : ℕ) (bs : List A) → misfit flag {B = B} alone k n bs [] ≡ none → Segmented n bs
  unfolding misfit
  segmented B k zero [] h = segmented-end
  segmented B k zero (b ∷ bs) h = none-some (sym h)
  segmented B k (suc n) [] h = none-some (sym h)
  segmented B k (suc n) (b ∷ bs) h = go (flag b) refl (λ j m. segmented B j m bs)
    where
      go : (c : Option Bool) → flag b ≡ c → ((j m : ℕ) → misfit flag {B = B} alone j m bs [] ≡ none → Segmented m bs)
          → Segmented (suc n) (b ∷ bs)
      go none e deeper = none-some (sym h ∙ misfit-none k n b bs [] e)
      go (some false) e deeper = segmented-F e (deeper k (suc n) (sym (misfit-F k n b bs [] e) ∙ h))
      go (some true) e deeper = segmented-T e (deeper (suc k) n (sym (misfit-T k n b bs [] e) ∙ h))

  pub fits : (B : Type 0) (k : ℕ) {n : ℕ} {bs : List A} → Segmented n bs → misfit flag {B = B} alone k n bs [] ≡ none
  unfolding misfit
  fits B k segmented-end = refl
  fits B k (segmented-F {n = n} {b = b} {bs = bs} e s) = misfit-F k n b bs [] e ∙ fits B k s
  fits B k (segmented-T {n = n} {b = b} {bs = bs} e s) = misfit-T k n b bs [] e ∙ fits B (suc k) s

  module _ {B : Type 0} where
    -- as many pieces as segments
    pub length-regroup : {n : ℕ} {bs : List A} → Segmented n bs → (sofar xs : List B) → length xs ≡ count_f flag bs
        → length (regroup flag sofar bs xs) ≡ n
    unfolding regroup
    length-regroup segmented-end sofar xs h = refl
    length-regroup (segmented-F {b = b} {bs = bs} e s) sofar [] h = let z : 0 ≡ suc (count_f flag bs) = h ∙ count-F b bs e in absurd (omega arith)
    length-regroup (segmented-F {b = b} {bs = bs} e s) sofar (x ∷ xs) h =
        let l : length xs ≡ count_f flag bs = omega (arith, count-F b bs e) in
        ap length (regroup-F b bs sofar x xs e) ∙ length-regroup s (sofar ++ x ∷ []) xs l
    length-regroup (segmented-T {b = b} {bs = bs} e s) sofar xs h =
        ap length (regroup-T b bs sofar xs e) ∙ ap suc (length-regroup s [] xs (h ∙ count-T b bs e))

    -- laid end to end, the pieces are the items; where there is no segment left, none has been begun
    pub concat-regroup : {n : ℕ} {bs : List A} → Segmented n bs → (sofar xs : List B) → length xs ≡ count_f flag bs → (n ≡ 0 → sofar ≡ [])
        → concat (regroup flag sofar bs xs) ≡ sofar ++ xs
    unfolding regroup concat count_f
    concat-regroup segmented-end sofar [] h begun = rw (begun refl)
    concat-regroup segmented-end sofar (x ∷ xs) h begun = absurd (omega arith)
    concat-regroup (segmented-F {b = b} {bs = bs} e s) sofar [] h begun = let z : 0 ≡ suc (count_f flag bs) = h ∙ count-F b bs e in absurd (omega arith)
    concat-regroup (segmented-F {b = b} {bs = bs} e s) sofar (x ∷ xs) h begun =
        let l : length xs ≡ count_f flag bs = omega (arith, count-F b bs e) in
        ap concat (regroup-F b bs sofar x xs e) ∙ concat-regroup s (sofar ++ x ∷ []) xs l (λ z. absurd (omega arith)) ∙ append_assoc sofar (x ∷ []) xs
    concat-regroup (segmented-T {b = b} {bs = bs} e s) sofar xs h begun =
        ap concat (regroup-T b bs sofar xs e) ∙ ap (λ r. sofar ++ r) (concat-regroup s [] xs (h ∙ count-T b bs e) (λ z. refl))

  module _ (mark : Bool → A) where
    module _ (marked : (b : Bool) → flag (mark b) ≡ some b) where
      one-segment : (m : ℕ) (fs : List Bool) {n : ℕ} → Segmented n (map mark fs) → Segmented (suc n) (map mark (replicate m false ++ true ∷ fs))
      one-segment zero fs s = segmented-T (marked true) s
      one-segment (suc m) fs s = segmented-F (marked false) (one-segment m fs s)

      -- n sequences' flags are n segments
      pub segmented-segments : {B : Type 0} (ls : List (List B)) → Segmented (length ls) (map mark (segments ls))
      unfolding segments
      segmented-segments [] = segmented-end
      segmented-segments (l ∷ ls) = one-segment (length l) (segments ls) (segmented-segments ls)

      count-segment : (m : ℕ) (fs : List Bool) → count_f flag (map mark (replicate m false ++ true ∷ fs)) ≡ m + count_f flag (map mark fs)
      count-segment zero fs = count-T (mark true) (map mark fs) (marked true) ∙ omega arith
      count-segment (suc m) fs = count-F (mark false) (map mark (replicate m false ++ true ∷ fs)) (marked false) ∙ omega (arith, count-segment m fs)

      -- with an F for each item
      pub count-segments : {B : Type 0} (ls : List (List B)) → count_f flag (map mark (segments ls)) ≡ length (concat ls)
      unfolding segments concat count_f
      count-segments [] = refl
      count-segments (l ∷ ls) = count-segment (length l) (segments ls) ∙ omega (arith, count-segments ls, length-append l (concat ls))

      regroup-segment : {B : Type 0} (sofar l : List B) (fs : List Bool) (xs : List B)
          → regroup flag sofar (map mark (replicate (length l) false ++ true ∷ fs)) (l ++ xs) ≡ (sofar ++ l) ∷ regroup flag [] (map mark fs) xs
      regroup-segment sofar [] fs xs = regroup-T (mark true) (map mark fs) sofar xs (marked true) ∙ rw append-nil
      regroup-segment sofar (x ∷ l) fs xs =
          regroup-F (mark false) (map mark (replicate (length l) false ++ true ∷ fs)) sofar x (l ++ xs) (marked false)
          ∙ regroup-segment (sofar ++ x ∷ []) l fs xs
          ∙ rw append_assoc

      -- sequences cut along their own flags are themselves
      pub regroup-segments : {B : Type 0} (ls : List (List B)) → regroup flag [] (map mark (segments ls)) (concat ls) ≡ ls
      unfolding segments concat regroup
      regroup-segments [] = refl
      regroup-segments (l ∷ ls) = regroup-segment [] l (segments ls) (concat ls) ∙ ap (λ r. l ∷ r) (regroup-segments ls)

    module _ (read : (a : A) (b : Bool) → flag a ≡ some b → mark b ≡ a) where
      longer : {B : Type 0} (l : List B) (x : B) (bs : List A)
          → map mark (replicate (length (l ++ x ∷ [])) false) ++ bs ≡ map mark (replicate (length l) false) ++ mark false ∷ bs
      longer [] x bs = refl
      longer (y ∷ l) x bs = ap (λ r. mark false ∷ r) (longer l x bs)

      -- the pieces' flags are the flags
      pub segments-regroup : {B : Type 0} {n : ℕ} {bs : List A} → Segmented n bs → (sofar xs : List B) → length xs ≡ count_f flag bs → (n ≡ 0 → sofar ≡ [])
          → map mark (segments (regroup flag sofar bs xs)) ≡ map mark (replicate (length sofar) false) ++ bs
      unfolding regroup segments
      segments-regroup segmented-end sofar xs h begun = rw (begun refl)
      segments-regroup (segmented-F {b = b} {bs = bs} e s) sofar [] h begun = let z : 0 ≡ suc (count_f flag bs) = h ∙ count-F b bs e in absurd (omega arith)
      segments-regroup (segmented-F {b = b} {bs = bs} e s) sofar (x ∷ xs) h begun =
          let l : length xs ≡ count_f flag bs = omega (arith, count-F b bs e) in
          ap (λ r. map mark (segments r)) (regroup-F b bs sofar x xs e)
          ∙ segments-regroup s (sofar ++ x ∷ []) xs l (λ z. absurd (omega arith))
          ∙ longer sofar x bs
          ∙ ap (λ a. map mark (replicate (length sofar) false) ++ a ∷ bs) (read b false e)
      segments-regroup (segmented-T {b = b} {bs = bs} e s) sofar xs h begun =
          ap (λ r. map mark (segments r)) (regroup-T b bs sofar xs e)
          ∙ map-append mark (replicate (length sofar) false) (true ∷ segments (regroup flag [] bs xs))
          ∙ ap (λ r. map mark (replicate (length sofar) false) ++ mark true ∷ r) (segments-regroup s [] xs (h ∙ count-T b bs e) (λ z. refl))
          ∙ ap (λ a. map mark (replicate (length sofar) false) ++ a ∷ bs) (read b true e)
