-- An ascending list is determined by its members: what is written in ascending order may be found in any order.
use Prim.Native.Nat.{ℕ, ◌<◌}
use native.Mathlib.Omega.{arith}
use mathlib.Core.List.Memᴰ
use mathlib.Core.List.{List, ◌∷◌}
use mathlib.Core.Logic.{⊎_elim}
use mathlib.Core.Path.{◌≡◌, refl, sym, ap₂}
use Rattle.snesl.specs.Programs.{Within, ascending}
use Rattle.snesl.proofs.Compiled.Members.{◌∈◌, Ascends, none, next, of-ascending, to-ascending, ascending-ascends}

-- the first of two ascending lists with the same members
first-same : {s t : ℕ} {ss ts : List ℕ}
    → ((u : ℕ) → u ∈ ss → s < u)
    → ((u : ℕ) → u ∈ ts → t < u)
    → s ∈ (t ∷ ts)
    → t ∈ (s ∷ ss)
    → s ≡ t
first-same {s} {t} low high m n =
    ⊎_elim (λ e. e) (λ k. ⊎_elim (λ e. sym e) (λ j. absurd (never (high s k) (low t j))) (Memᴰ.cases_cons n)) (Memᴰ.cases_cons m)
  where
    never : t < s → s < t → ⊥
    never a b = omega arith

-- and what follows it
rest-within : {s t : ℕ} {ss ts : List ℕ} → ((u : ℕ) → u ∈ ss → s < u) → s ≡ t → Within (s ∷ ss) (t ∷ ts) → Within ss ts
rest-within {s} {t} {ss} {ts} low e w u m = ⊎_elim same (λ k. k) (Memᴰ.cases_cons (w u (Memᴰ.tail m)))
  where
    same : u ≡ t → u ∈ ts
    same q = let l = low u m in absurd (omega arith)

pub ascends_same : {ss ts : List ℕ} → Ascends ss → Ascends ts → Within ss ts → Within ts ss → ss ≡ ts
ascends_same none none a b = refl
ascends_same none (next {s = t} high more) a b = absurd (Memᴰ.not-nil (b t (Memᴰ.head refl)))
ascends_same (next {s = s} low rest) none a b = absurd (Memᴰ.not-nil (a s (Memᴰ.head refl)))
ascends_same (next {s = s} {ss = ss} low rest) (next {s = t} {ss = ts} high more) a b =
    let e = first-same low high (a s (Memᴰ.head refl)) (b t (Memᴰ.head refl)) in
    ap₂ ◌∷◌ e (ascends_same rest more (rest-within low e a) (rest-within high (sym e) b))

-- lists of the same members ascend to the same list
pub ascending-same : (ss ts : List ℕ) → Within ss ts → Within ts ss → ascending ss ≡ ascending ts
ascending-same ss ts a b =
    ascends_same (ascending-ascends ss) (ascending-ascends ts)
    (λ u m. to-ascending ts (a u (of-ascending ss m)))
    (λ u m. to-ascending ss (b u (of-ascending ts m)))
