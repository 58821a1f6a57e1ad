-- Ascending order by repeated search: the least id from lo on comes next, and behind it those from the id after it on; where there is none, nothing is left.
use Prim.Native.Nat.{ℕ, ◌+◌, ◌≤◌, ◌<◌}
use native.Mathlib.Omega.{arith}
use native.Mathlib.Decide.{dec_le, dec_lt}
use mathlib.Core.Bool.{Bool, true, false, ◌&&◌}
use mathlib.Core.List.Memᴰ
use mathlib.Core.List.{List, [], ◌∷◌}
use mathlib.Core.Logic.{◌⊎◌, inl, inr, ⊎_elim}
use mathlib.Core.Path.{◌≡◌, refl, sym, ap, ap₂, ◌∙◌, subst}
use borrow.Author.Tests.{le-leb, lt-ltb, leb-true, ltb-true}
use lib.Dec.{ltb, leb}
use Rattle.snesl.specs.Programs.{ascending}
use Rattle.snesl.proofs.Compiled.Members.{◌∈◌, next, of-ascending, to-ascending, ascending-ascends}
use Rattle.snesl.proofs.Compiled.Ascending.{ascends_same}
use Rattle.sink.specs.Between.{lesser, least}
use Rattle.sink.specs.Between.{between}
use Rattle.sink.proofs.Lesser.{lesser-in, lesser-high, lesser-low}

-- the members of `between`
and_both : (a b : Bool) → (a && b) ≡ true → (a ≡ true) × (b ≡ true)
and_both true true e = (refl, refl)
and_both true false e = let z : ◌≡◌ {A = ℕ} 0 1 = cc in absurd (omega arith)
and_both false b e = let z : ◌≡◌ {A = ℕ} 0 1 = cc in absurd (omega arith)

pub of-between : {u : ℕ} (lo hi : ℕ) (us : List ℕ) → u ∈ between lo hi us → (u ∈ us) × (lo ≤ u) × (u < hi)
unfolding between
of-between lo hi [] h = absurd (Memᴰ.not-nil h)
of-between {u} lo hi (v ∷ us) h = go (of-between lo hi us) (leb lo v && ltb v hi) refl h
  where
    here : (leb lo v && ltb v hi) ≡ true → u ≡ v → (u ∈ (v ∷ us)) × (lo ≤ u) × (u < hi)
    here e q =
        let both = and_both (leb lo v) (ltb v hi) e in
        let l = leb-true lo v both.0 in
        let h = ltb-true v hi both.1 in
        (Memᴰ.head q, omega arith, omega arith)

    go : (u ∈ between lo hi us → (u ∈ us) × (lo ≤ u) × (u < hi)) → (b : Bool) → (leb lo v && ltb v hi) ≡ b
        → u ∈ elim b [ true ↦ v ∷ between lo hi us | false ↦ between lo hi us ]
        → (u ∈ (v ∷ us)) × (lo ≤ u) × (u < hi)
    go below true e m =
        ⊎_elim (here e) (λ k. let r = below k in (Memᴰ.tail r.0, r.1, r.2)) (Memᴰ.cases_cons m)
    go below false e m = let r = below m in (Memᴰ.tail r.0, r.1, r.2)

pub to-between : {u : ℕ} (lo hi : ℕ) (us : List ℕ) → u ∈ us → lo ≤ u → u < hi → u ∈ between lo hi us
unfolding between
to-between lo hi [] h l g = absurd (Memᴰ.not-nil h)
to-between {u} lo hi (v ∷ us) h l g = go (λ m. to-between lo hi us m l g) (leb lo v && ltb v hi) refl (Memᴰ.cases_cons h)
  where
    go : (u ∈ us → u ∈ between lo hi us) → (b : Bool) → (leb lo v && ltb v hi) ≡ b → (u ≡ v) ⊎ (u ∈ us)
        → u ∈ elim b [ true ↦ v ∷ between lo hi us | false ↦ between lo hi us ]
    go below true e (inl q) = Memᴰ.head q
    go below true e (inr m) = Memᴰ.tail (below m)
    go below false e (inl q) =
        let a : lo ≤ v = omega arith in
        let b : v < hi = omega arith in
        let t : true ≡ false = sym (ap₂ ◌&&◌ (le-leb lo v a) (lt-ltb v hi b)) ∙ e in
        let z : ◌≡◌ {A = ℕ} 0 1 = cc in
        absurd (omega arith)
    go below false e (inr m) = below m

-- what a search finds: no id from lo on is below it, and it is the bound or one of those
pub record Least (lo best : ℕ) (us : List ℕ) (r : ℕ) : Type 0 where
  pub bound : r ≤ best
  pub lower : (u : ℕ) → u ∈ us → lo ≤ u → r ≤ u
  pub found : (r ≡ best) ⊎ ((r ∈ us) × (lo ≤ r) × (r < best))

-- one id more in front
ahead : {lo best u : ℕ} {us : List ℕ} {m r : ℕ}
    → m ≤ best
    → (lo ≤ u → m ≤ u)
    → (m ≡ best) ⊎ ((m ≡ u) × (lo ≤ m) × (m < best))
    → Least lo m us r
    → Least lo best (u ∷ us) r
ahead {lo} {best} {u} {us} {m} {r} le low from l =
    record {
      bound = omega (arith, l.bound);
      lower = λ v k g. ⊎_elim (λ e. first v e g) (λ j. l.lower v j g) (Memᴰ.cases_cons k);
      found = ⊎_elim (λ e. ⊎_elim (λ q. inl (e ∙ q)) (λ q. inr (Memᴰ.head (e ∙ q.0), omega (arith, e, q.1), omega (arith, e, q.2))) from)
          (λ j. inr (Memᴰ.tail j.0, j.1, omega (arith, j.2))) l.found;
    }
  where
    first : (v : ℕ) → v ≡ u → lo ≤ v → r ≤ v
    first v e g = let k = low (omega arith) in omega (arith, l.bound)

pub least-is : (lo best : ℕ) (us : List ℕ) → Least lo best us (least lo best us)
unfolding least
least-is lo best [] = record { bound = omega arith; lower = λ u m. absurd (Memᴰ.not-nil m); found = inl refl }
least-is lo best (u ∷ us) = go (least-is lo (lesser lo best u) us) (dec_le lo u) (dec_lt u best)
  where
    at : (m : ℕ) → m ≡ lesser lo best u → Least lo (lesser lo best u) us (least lo (lesser lo best u) us) → Least lo m us (least lo (lesser lo best u) us)
    at m e l = subst (λ k. Least lo k us (least lo (lesser lo best u) us)) (sym e) l

    go : Least lo (lesser lo best u) us (least lo (lesser lo best u) us) → Dec (lo ≤ u) → Dec (u < best) → Least lo best (u ∷ us) (least lo (lesser lo best u) us)
    go l (yes h) (yes g) = ahead {m = u} (omega arith) (λ k. omega arith) (inr (refl, h, g)) (at u (lesser-in lo best u h g) l)
    go l (yes h) (no g) =
        let b : best ≤ u = omega arith in
        ahead {m = best} (omega arith) (λ k. b) (inl refl) (at best (lesser-high lo best u h b) l)
    go l (no h) g =
        let b : u < lo = omega arith in
        ahead {m = best} (omega arith) (λ k. omega arith) (inl refl) (at best (lesser-low lo best u b) l)

module _ {lo hi : ℕ} (us : List ℕ) {r : ℕ} (l : Least lo hi us r) where
  -- none is left
  pub ascended : r ≡ hi → ascending (between lo hi us) ≡ []
  unfolding ascending
  ascended e = ap ascending (none (between lo hi us) (λ u m. of-between lo hi us m))
    where
      none : (vs : List ℕ) → ((u : ℕ) → u ∈ vs → (u ∈ us) × (lo ≤ u) × (u < hi)) → vs ≡ []
      none [] f = refl
      none (v ∷ vs) f =
          let h = f v (Memᴰ.head refl) in
          let g = l.lower v h.0 h.1 in
          absurd (omega (arith, h.2))

  -- the next one
  pub ascends-on : r < hi → ascending (between lo hi us) ≡ r ∷ ascending (between (r + 1) hi us)
  ascends-on h =
      ascends_same (ascending-ascends (between lo hi us))
      (next (λ u m. above (of-between (r + 1) hi us (of-ascending (between (r + 1) hi us) m))) (ascending-ascends (between (r + 1) hi us)))
      (λ u m. onward u (of-between lo hi us (of-ascending (between lo hi us) m)) (dec_lt r u))
      (λ u m. ⊎_elim (λ e. subst (λ v. v ∈ ascending (between lo hi us)) (sym e) here) (λ k. back u (of-between (r + 1) hi us (of-ascending (between (r + 1) hi us) k)))
      (Memᴰ.cases_cons m))
    where
      above : {u : ℕ} → (u ∈ us) × (r + 1 ≤ u) × (u < hi) → r < u
      above k = omega (arith, k.1)

      member : (r ≡ hi) ⊎ ((r ∈ us) × (lo ≤ r) × (r < hi)) → (r ∈ us) × (lo ≤ r) × (r < hi)
      member (inl e) = absurd (omega arith)
      member (inr m) = m

      here : r ∈ ascending (between lo hi us)
      here = let m = member l.found in to-ascending (between lo hi us) (to-between lo hi us m.0 m.1 m.2)

      onward : (u : ℕ) → (u ∈ us) × (lo ≤ u) × (u < hi) → Dec (r < u) → u ∈ (r ∷ ascending (between (r + 1) hi us))
      onward u k (yes g) = Memᴰ.tail (to-ascending (between (r + 1) hi us) (to-between (r + 1) hi us k.0 (omega arith) k.2))
      onward u k (no g) =
          let b = l.lower u k.0 k.1 in
          let e : u ≡ r = omega arith in
          Memᴰ.head e

      back : (u : ℕ) → (u ∈ us) × (r + 1 ≤ u) × (u < hi) → u ∈ ascending (between lo hi us)
      back u k =
          let m = member l.found in
          to-ascending (between lo hi us) (to-between lo hi us k.0 (omega (arith, k.1, m.1)) k.2)

-- what a function that searches has found
pub least-of : {lo hi s : ℕ} (us : List ℕ) → s ≡ least lo hi us → Least lo hi us s
least-of {lo} {hi} us e = subst (Least lo hi us) (sym e) (least-is lo hi us)

pub least-last : {lo hi s : ℕ} {us : List ℕ} → Least lo hi us s → hi ≤ s → s ≡ hi
least-last l h = omega (arith, l.bound)
