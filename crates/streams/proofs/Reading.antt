-- Flags that are read by another name: snesl's transducers read a stream of Bools by `some`, and these walks read a buffer's 0 and 1 by `flag_of`. What they say of
-- `map g bs` is what they say of bs, wherever g's image reads as bs does. Stated once over g; `bit` is the one that is used. And how a bool is read.
use Prim.Native.Nat.{ℕ, zero, suc, ◌<◌, ◌^◌}
use mathlib.Core.Bool.{Bool, true, false}
use mathlib.Core.List.{List, [], ◌∷◌, map, tail}
use mathlib.Core.Option.{Option, some, none}
use mathlib.Core.Path.{◌≡◌, refl, sym, ◌∙◌, ap, fun_ext}
use lib.IntN.{ℤ, pos, negsuc, ◌+ℤ◌}
use lib.Signed.{mag}
use mir.Syntax.{w32}
use mir.Val.{to_z, of_z}
use Rattle.laws.proofs.Whole.{read}
use Rattle.snesl.specs.Streams.{bit}
use Rattle.snesl.specs.Transducers.{Feed, takes, fed, first, bool_of, flag_of, misfit, count_f, spread, scans, sums, only_if, kept_segments}

-- all that a transducer asks of a flag stream
pub record Same {A B : Type 0} (flag : A → Option Bool) (us : List A) (flag' : B → Option Bool) (bs : List B) : Type 1 where
  pub misfits : {C : Type 0} (f : Feed) (k n : ℕ) (xs : List C) → misfit flag f k n us xs ≡ misfit flag' f k n bs xs
  pub counts : count_f flag us ≡ count_f flag' bs
  pub spreads : {C : Type 0} (xs : List C) → spread flag us xs ≡ spread flag' bs xs
  pub scanned : (start : ℤ) (k : ℕ) (t : ℤ) (xs : List ℤ) → scans flag start k t us xs ≡ scans flag' start k t bs xs
  pub summed : (k : ℕ) (t : ℤ) (xs : List ℤ) → sums flag k t us xs ≡ sums flag' k t bs xs
  pub keeps : (cs : List Bool) → kept_segments flag cs us ≡ kept_segments flag' cs bs

module _ {A B : Type 0} (flag : A → Option Bool) (g : B → A) where
  misfit-map : (C : Type 0) (f : Feed) (bs : List B) (k n : ℕ) (xs : List C) → misfit flag f k n (map g bs) xs ≡ misfit (λ b. flag (g b)) f k n bs xs
  unfolding misfit
  misfit-map C f [] k zero [] = refl
  misfit-map C f [] k zero (x ∷ xs) = refl
  misfit-map C f [] k (suc n) xs = refl
  misfit-map C f (b ∷ bs) k zero xs = refl
  misfit-map C f (b ∷ bs) k (suc n) xs =
      λ i.
      elim (flag (g b)) [
        | none ↦ some k
        | some c ↦
            elim (fed (takes f c) xs)
            [ none ↦ some k | some ys ↦ elim c [ false ↦ misfit-map C f bs k (suc n) ys i | true ↦ misfit-map C f bs (suc k) n ys i ] ]
      ]

  count_f-map : (bs : List B) → count_f flag (map g bs) ≡ count_f (λ b. flag (g b)) bs
  unfolding count_f
  count_f-map [] = refl
  count_f-map (b ∷ bs) =
      λ i. elim (flag (g b)) [ none ↦ count_f-map bs i | some c ↦ elim c [ false ↦ suc (count_f-map bs i) | true ↦ count_f-map bs i ] ]

  spread-map : (C : Type 0) (bs : List B) (xs : List C) → spread flag (map g bs) xs ≡ spread (λ b. flag (g b)) bs xs
  unfolding spread
  spread-map C [] xs = refl
  spread-map C (b ∷ bs) [] = refl
  spread-map C (b ∷ bs) (x ∷ xs) =
      λ i.
      elim (flag (g b))
      [ none ↦ [] | some c ↦ elim c [ false ↦ x ∷ spread-map C bs (x ∷ xs) i | true ↦ spread-map C bs xs i ] ]

  scans-map : (start : ℤ) (bs : List B) (k : ℕ) (t : ℤ) (xs : List ℤ) → scans flag start k t (map g bs) xs ≡ scans (λ b. flag (g b)) start k t bs xs
  unfolding scans
  scans-map start [] k t xs = refl
  scans-map start (b ∷ bs) k t xs =
      λ i.
      elim (flag (g b)) [
        | none ↦ []
        | some c ↦
            elim c
            [ false ↦ (k, t) ∷ scans-map start bs k (t +ℤ first xs) (tail xs) i | true ↦ scans-map start bs (suc k) start xs i ]
      ]

  sums-map : (bs : List B) (k : ℕ) (t : ℤ) (xs : List ℤ) → sums flag k t (map g bs) xs ≡ sums (λ b. flag (g b)) k t bs xs
  unfolding sums
  sums-map [] k t xs = refl
  sums-map (b ∷ bs) k t xs =
      λ i.
      elim (flag (g b)) [
        | none ↦ []
        | some c ↦
            elim c [ false ↦ sums-map bs k (t +ℤ first xs) (tail xs) i | true ↦ (k, t) ∷ sums-map bs (suc k) (pos 0) xs i ]
      ]

  kept_map : (bs : List B) (cs : List Bool) → kept_segments flag cs (map g bs) ≡ kept_segments (λ b. flag (g b)) cs bs
  unfolding kept_segments
  kept_map [] cs = refl
  kept_map (b ∷ bs) [] = refl
  kept_map (b ∷ bs) (c ∷ cs) =
      λ i.
      elim (flag (g b))
      [ none ↦ [] | some t ↦ only_if c t (elim t [ false ↦ kept_map bs (c ∷ cs) i | true ↦ kept_map bs cs i ]) ]

  -- g's image reads as flag' reads
  pub same : (flag' : B → Option Bool) (bs : List B) → ((b : B) → flag (g b) ≡ flag' b) → Same flag (map g bs) flag' bs
  same flag' bs h =
      let e : (λ b. flag (g b)) ≡ flag' = fun_ext h in
      record {
        misfits = λ {C} f k n xs. misfit-map C f bs k n xs ∙ ap (λ r. misfit r f k n bs xs) e;
        counts = count_f-map bs ∙ ap (λ r. count_f r bs) e;
        spreads = λ {C} xs. spread-map C bs xs ∙ ap (λ r. spread r bs xs) e;
        scanned = λ start k t xs. scans-map start bs k t xs ∙ ap (λ r. scans r start k t bs xs) e;
        summed = λ k t xs. sums-map bs k t xs ∙ ap (λ r. sums r k t bs xs) e;
        keeps = λ cs. kept_map bs cs ∙ ap (λ r. kept_segments r cs bs) e;
      }

bit-reads : (b : Bool) → flag_of (bit b) ≡ some b
bit-reads false = refl
bit-reads true = refl

pub on-bits : (bs : List Bool) → Same flag_of (map bit bs) some bs
on-bits bs = same flag_of bit some bs bit-reads

-- ---- a bool in a buffer: 0 is F, and all else is T

pub zero-bool : (z : ℤ) → mag z < 2 ^ 31 → of_z w32 z ≡ 0 → bool_of z ≡ false
zero-bool z h e = ap bool_of (sym (read z h) ∙ ap (to_z w32) e)

pub other-bool : (z : ℤ) → (of_z w32 z ≡ 0 → ⊥) → bool_of z ≡ true
other-bool (pos zero) f = absurd (f refl)
other-bool (pos (suc n)) f = refl
other-bool (negsuc n) f = refl

-- a bool that is stored
pub bit-read : (c : Bool) → to_z w32 (of_z w32 (bit c)) ≡ bit c
bit-read false = refl
bit-read true = refl
