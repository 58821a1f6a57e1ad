-- Bools as they stand in a stream buffer, F as 0 and T as 1: read back they are what they were, and what a transducer makes of bools it makes of
-- these numbers. So B2u is ToFlags on them, and Distr and Pack carry on either alike.
use Prim.Native.Nat.{ℕ, zero, suc}
use mathlib.Core.Bool.{Bool, true, false}
use mathlib.Core.List.{List, [], ◌∷◌, map}
use mathlib.Core.Option.{Option, some, none}
use mathlib.Core.Path.{◌≡◌, refl, sym, ◌∙◌, ap}
use lib.ListN.{length-map}
use Rattle.snesl.specs.Streams.{bit}
use Rattle.snesl.specs.Transducers.{bool_of, Feed, takes, fed, misfit, spread, kept, first_negative, unary, unitary, to_flags, b2u}

pub bool-bit : (c : Bool) → bool_of (bit c) ≡ c
bool-bit false = refl
bool-bit true = refl

pub bools-bits : (cs : List Bool) → map bool_of (map bit cs) ≡ cs
bools-bits [] = refl
bools-bits (false ∷ cs) = ap (λ l. false ∷ l) (bools-bits cs)
bools-bits (true ∷ cs) = ap (λ l. true ∷ l) (bools-bits cs)

-- none is negative
pub bits-nonnegative : (k : ℕ) (cs : List Bool) → first_negative k (map bit cs) ≡ none
unfolding first_negative
bits-nonnegative k [] = refl
bits-nonnegative k (false ∷ cs) = bits-nonnegative (suc k) cs
bits-nonnegative k (true ∷ cs) = bits-nonnegative (suc k) cs

pub unary-bits : (cs : List Bool) → unary (map bit cs) ≡ unitary cs
unfolding unary unitary
unary-bits [] = refl
unary-bits (false ∷ cs) = ap (λ l. true ∷ l) (unary-bits cs)
unary-bits (true ∷ cs) = ap (λ l. false ∷ true ∷ l) (unary-bits cs)

-- B2u is ToFlags on 0 and 1
pub to_flags-bits : (n : ℕ) (cs : List Bool) → to_flags n (map bit cs) ≡ b2u n cs
to_flags-bits n cs = rw (length-map cs bit, bits-nonnegative 0 cs, unary-bits cs)

-- Flags decide what is taken and where it goes: what the items are does not matter.
module _ {A : Type 0} (flag : A → Option Bool) {B C : Type 0} (f : B → C) where
  -- after an F the segment goes on, after a T the next one begins
  abbrev after : {D : Type 0} → Feed → (k n : ℕ) → List A → Bool → List D → Option ℕ
  after feed k n bs false ys = misfit flag feed k (suc n) bs ys
  after feed k n bs true ys = misfit flag feed (suc k) n bs ys

  misfit-flag : {D : Type 0} (feed : Feed) (k n : ℕ) (b : A) (bs : List A) (xs : List D) (c : Bool) → flag b ≡ some c
      → misfit flag feed k (suc n) (b ∷ bs) xs ≡ elim (fed (takes feed c) xs) [ none ↦ some k | some ys ↦ after feed k n bs c ys ]
  unfolding misfit
  misfit-flag feed k n b bs xs false p = rw (misfit, p)
  misfit-flag feed k n b bs xs true p = rw (misfit, p)

  fed-map : (w : Bool) (k : ℕ) (xs : List B) (g : List B → Option ℕ) (h : List C → Option ℕ) → ((ys : List B) → h (map f ys) ≡ g ys)
      → ◌≡◌ {A = Option ℕ} (elim (fed w (map f xs)) [ none ↦ some k | some ys ↦ h ys ]) (elim (fed w xs) [ none ↦ some k | some ys ↦ g ys ])
  fed-map false k xs g h same = same xs
  fed-map true k [] g h same = refl
  fed-map true k (x ∷ xs) g h same = same xs

  pub misfit-map : (feed : Feed) (k n : ℕ) (bs : List A) (xs : List B) → misfit flag feed k n bs (map f xs) ≡ misfit flag feed k n bs xs
  unfolding misfit
  misfit-map feed k zero [] [] = refl
  misfit-map feed k zero [] (x ∷ xs) = refl
  misfit-map feed k zero (b ∷ bs) xs = refl
  misfit-map feed k (suc n) [] xs = refl
  misfit-map feed k (suc n) (b ∷ bs) xs =
      go (flag b) refl (λ ys. misfit-map feed k (suc n) bs ys) (λ ys. misfit-map feed (suc k) n bs ys)
    where
      go : (o : Option Bool) → flag b ≡ o
          → ((ys : List B) → misfit flag feed k (suc n) bs (map f ys) ≡ misfit flag feed k (suc n) bs ys)
          → ((ys : List B) → misfit flag feed (suc k) n bs (map f ys) ≡ misfit flag feed (suc k) n bs ys)
          → misfit flag feed k (suc n) (b ∷ bs) (map f xs) ≡ misfit flag feed k (suc n) (b ∷ bs) xs
      go none p same next = rw (misfit, p)
      go (some false) p same next =
          misfit-flag feed k n b bs (map f xs) false p
          ∙ fed-map (takes feed false) k xs (after feed k n bs false) (after feed k n bs false) same
          ∙ sym (misfit-flag feed k n b bs xs false p)
      go (some true) p same next =
          misfit-flag feed k n b bs (map f xs) true p
          ∙ fed-map (takes feed true) k xs (after feed k n bs true) (after feed k n bs true) next
          ∙ sym (misfit-flag feed k n b bs xs true p)

  pub spread-map : (bs : List A) (xs : List B) → spread flag bs (map f xs) ≡ map f (spread flag bs xs)
  unfolding spread
  spread-map [] xs = refl
  spread-map (b ∷ bs) [] = refl
  spread-map (b ∷ bs) (x ∷ xs) = go (flag b) refl (spread-map bs (x ∷ xs)) (spread-map bs xs)
    where
      go : (o : Option Bool) → flag b ≡ o
          → spread flag bs (map f (x ∷ xs)) ≡ map f (spread flag bs (x ∷ xs))
          → spread flag bs (map f xs) ≡ map f (spread flag bs xs)
          → spread flag (b ∷ bs) (f x ∷ map f xs) ≡ map f (spread flag (b ∷ bs) (x ∷ xs))
      go none p same next = rw (spread, p)
      go (some false) p same next = rw (spread, p) (ap (λ l. f x ∷ l) same)
      go (some true) p same next = rw (spread, p) next

pub kept_map : {B C : Type 0} (f : B → C) (cs : List Bool) (xs : List B) → kept cs (map f xs) ≡ map f (kept cs xs)
unfolding kept
kept_map f [] xs = refl
kept_map f (c ∷ cs) [] = refl
kept_map f (false ∷ cs) (x ∷ xs) = kept_map f cs xs
kept_map f (true ∷ cs) (x ∷ xs) = ap (λ l. f x ∷ l) (kept_map f cs xs)
