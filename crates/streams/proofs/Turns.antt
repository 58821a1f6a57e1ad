-- One turn of a walk over flags: what a flag does to the streams that are still to come, at k done of n segments and j taken of the items, over any way to read a flag.
use Prim.Native.Nat.{ℕ, suc, ◌+◌, ◌-◌, ◌≤◌, ◌<◌}
use mathlib.Core.Bool.{Bool, true, false}
use mathlib.Core.List.{List, [], ◌∷◌}
use mathlib.Core.Option.{Option, some, none}
use mathlib.Core.Path.{◌≡◌, refl, sym, ◌∙◌, ap}
use native.Mathlib.Omega.{arith}
use borrow.Author.Tests.{ltb-true, ltb-false}
use lib.Dec.{ltb}
use lib.ListN.{length, drop}
use Rattle.std.specs.Prelude as rust
use Rattle.laws.proofs.Never.{never}
use Rattle.snesl.specs.Transducers.{Feed, takes, fed, misfit}
use Rattle.flags.specs.Flags.{found}
use Rattle.flags.proofs.Clauses as clause
use Rattle.streams.specs.Walks.{steps, taking}
use Rattle.streams.specs.declared.fit.Turn.{Turn}

pub same-turn : {a b : Turn} → rust.Some a ≡ rust.Some b → (a.taken ≡ b.taken) × (a.ended ≡ b.ended)
same-turn {a} {b} e = let same : a ≡ b = cc in (ap (λ (t : Turn). t.taken) same, ap (λ (t : Turn). t.ended) same)

-- what an F or a T takes of the items that are left
feeds : {B : Type 0} (t : Bool) (j l : ℕ) (xs : List B) (e : ℕ) (x : Turn) → j + length xs ≡ l → taking t (ltb j l) e ≡ rust.Some x →
    (fed t xs ≡ some (drop x.taken xs)) × (j + x.taken ≤ l) × (x.ended ≡ e)
feeds false j l xs e x h p = let s = same-turn p in (ap (λ m. some (drop m xs)) s.0, omega (arith, s.0), sym s.1)
feeds {B} true j l xs e x h p = go (ltb j l) refl xs h
  where
    go : (b : Bool) → ltb j l ≡ b → (ys : List B) → j + length ys ≡ l → (fed true ys ≡ some (drop x.taken ys)) × (j + x.taken ≤ l) × (x.ended ≡ e)
    go false q ys g = let z : rust.None ≡ rust.Some x = ap (λ b. taking true b e) (sym q) ∙ p in never (cc)
    go true q [] g = absurd (omega (arith, ltb-true j l q))
    go true q (y ∷ ys) g =
        let s = same-turn (ap (λ b. taking true b e) (sym q) ∙ p) in
        (ap (λ m. some (drop m (y ∷ ys))) s.0, omega (arith, s.0), sym s.1)

starves : {B : Type 0} (t : Bool) (j l : ℕ) (xs : List B) (e : ℕ) → j + length xs ≡ l → taking t (ltb j l) e ≡ rust.None → fed t xs ≡ none
starves false j l xs e h p = never (cc)
starves true j l [] e h p = refl
starves true j l (x ∷ xs) e h p = go (ltb j l) refl
  where
    go : (b : Bool) → ltb j l ≡ b → fed true (x ∷ xs) ≡ none
    go true q = let z : rust.Some _ ≡ rust.None = ap (λ b. taking true b e) (sym q) ∙ p in never (cc)
    go false q = absurd (omega (arith, ltb-false j l q))

module _ {A : Type 0} (flag : A → Option Bool) {B : Type 0} (feed : Feed) (k n j l : ℕ) (b : A) (bs : List A) (xs : List B) (left : j + length xs ≡ l) where
  abbrev answer : Option Bool → (due : Bool) → rust.Option Turn
  answer o due = steps (found o) due (ltb j l) (takes feed false) (takes feed true)

  pub goes_on : (x : Turn) → answer (flag b) (ltb k n) ≡ rust.Some x →
      (misfit flag feed k (n - k) (b ∷ bs) xs ≡ misfit flag feed (k + x.ended) (n - (k + x.ended)) bs (drop x.taken xs)) × (j + x.taken ≤ l) × (k + x.ended ≤ n)
  goes_on x p = go (flag b) refl (ltb k n) refl
    where
      onwards : (c : Bool) (d : ℕ) → flag b ≡ some c → k < n → taking (takes feed c) (ltb j l) d ≡ rust.Some x →
          ((ys : List B) → fed (takes feed c) xs ≡ some ys → misfit flag feed k (n - k) (b ∷ bs) xs ≡ misfit flag feed (k + d) (n - (k + d)) bs ys) → k + d ≤ n →
          (misfit flag feed k (n - k) (b ∷ bs) xs ≡ misfit flag feed (k + x.ended) (n - (k + x.ended)) bs (drop x.taken xs)) × (j + x.taken ≤ l) × (k + x.ended ≤ n)
      onwards c d q lt s f h =
          let w = feeds (takes feed c) j l xs d x left s in
          let same : d ≡ x.ended = sym w.2 in
          (f (drop x.taken xs) w.0 ∙ ap (λ m. misfit flag feed (k + m) (n - (k + m)) bs (drop x.taken xs)) same, w.1, omega arith)

      by-false : flag b ≡ some false → k < n → (ys : List B) → fed (takes feed false) xs ≡ some ys →
          misfit flag feed k (n - k) (b ∷ bs) xs ≡ misfit flag feed (k + 0) (n - (k + 0)) bs ys
      by-false q lt ys f =
          let z : n - k ≡ suc (n - suc k) = omega arith in
          let y : suc (n - suc k) ≡ n - (k + 0) = omega arith in
          let v : k ≡ k + 0 = omega arith in
          ap (λ m. misfit flag feed k m (b ∷ bs) xs) z ∙ clause.misfit-false flag feed k (n - suc k) b bs xs q f ∙ (λ i. misfit flag feed (v i) (y i) bs ys)

      by-true : flag b ≡ some true → k < n → (ys : List B) → fed (takes feed true) xs ≡ some ys →
          misfit flag feed k (n - k) (b ∷ bs) xs ≡ misfit flag feed (k + 1) (n - (k + 1)) bs ys
      by-true q lt ys f =
          let z : n - k ≡ suc (n - suc k) = omega arith in
          let y : n - suc k ≡ n - (k + 1) = omega arith in
          let v : suc k ≡ k + 1 = omega arith in
          ap (λ m. misfit flag feed k m (b ∷ bs) xs) z ∙ clause.misfit-true flag feed k (n - suc k) b bs xs q f ∙ (λ i. misfit flag feed (v i) (y i) bs ys)

      go : (o : Option Bool) → flag b ≡ o → (due : Bool) → ltb k n ≡ due →
          (misfit flag feed k (n - k) (b ∷ bs) xs ≡ misfit flag feed (k + x.ended) (n - (k + x.ended)) bs (drop x.taken xs)) × (j + x.taken ≤ l) × (k + x.ended ≤ n)
      go o q false r = let z : rust.None ≡ rust.Some x = ap (answer (flag b)) (sym r) ∙ p in never (cc)
      go none q true r = let z : rust.None ≡ rust.Some x = sym (λ i. answer (q i) (r i)) ∙ p in never (cc)
      go (some false) q true r =
          let lt : k < n = ltb-true k n r in
          onwards false 0 q lt (sym (λ i. answer (q i) (r i)) ∙ p) (by-false q lt) (omega arith)
      go (some true) q true r =
          let lt : k < n = ltb-true k n r in
          onwards true 1 q lt (sym (λ i. answer (q i) (r i)) ∙ p) (by-true q lt) (omega arith)

  pub stops : answer (flag b) (ltb k n) ≡ rust.None → misfit flag feed k (n - k) (b ∷ bs) xs ≡ some k
  stops p = go (flag b) refl (ltb k n) refl
    where
      go : (o : Option Bool) → flag b ≡ o → (due : Bool) → ltb k n ≡ due → misfit flag feed k (n - k) (b ∷ bs) xs ≡ some k
      go o q false r =
          let ge : n ≤ k = ltb-false k n r in
          let z : n - k ≡ 0 = omega arith in
          ap (λ m. misfit flag feed k m (b ∷ bs) xs) z ∙ clause.misfit-over flag feed k 0 b bs xs
      go none q true r = clause.misfit-no-flag flag feed k (n - k) b bs xs q
      go (some false) q true r =
          clause.misfit-lacks flag feed k (n - k) b bs xs false q (starves (takes feed false) j l xs 0 left (sym (λ i. answer (q i) (r i)) ∙ p))
      go (some true) q true r =
          clause.misfit-lacks flag feed k (n - k) b bs xs true q (starves (takes feed true) j l xs 1 left (sym (λ i. answer (q i) (r i)) ∙ p))

-- ---- the end of the flags

module _ {A : Type 0} (flag : A → Option Bool) {B : Type 0} (feed : Feed) (k n : ℕ) (xs : List B) where
  pub end-due : k < n → misfit flag feed k (n - k) [] xs ≡ some k
  end-due h = let z : n - k ≡ suc (n - suc k) = omega arith in ap (λ m. misfit flag feed k m [] xs) z ∙ clause.misfit-due flag feed k (n - suc k) xs

  pub end-left : 0 < length xs → misfit flag feed k (n - k) [] xs ≡ some k
  end-left h = go xs h
    where
      go : (ys : List B) → 0 < length ys → misfit flag feed k (n - k) [] ys ≡ some k
      go [] g = absurd (omega arith)
      go (y ∷ ys) g = clause.misfit-left flag feed k (n - k) y ys

  pub end_fits : n ≤ k → length xs ≤ 0 → misfit flag feed k (n - k) [] xs ≡ none
  end_fits h l = go xs l
    where
      go : (ys : List B) → length ys ≤ 0 → misfit flag feed k (n - k) [] ys ≡ none
      go [] g = let z : n - k ≡ 0 = omega arith in ap (λ m. misfit flag {B = B} feed k m [] []) z ∙ clause.misfit-none flag B feed k
      go (y ∷ ys) g = absurd (omega arith)
