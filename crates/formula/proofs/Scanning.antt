-- The scan of an expression, one record at a time: what the record at k asks, and what the whole scan is then.
use Prim.Native.Nat.{ℕ, zero, suc, ◌+◌, ◌-◌, ◌≤◌, ◌<◌}
use mathlib.Core.Bool.{Bool, true, false, ◌&&◌}
use mathlib.Core.List.{List}
use mathlib.Core.Path.{◌≡◌, refl, sym, ap, subst, ◌∙◌}
use native.Mathlib.Omega.{arith}
use lib.Dec.{ltb}
use borrow.Author.Tests.{ltb-true, ltb-false}
use Rattle.std.specs.Prelude.{Result, Ok, Err}
use Rattle.snesl.specs.declared.code.Variable.{Variable}
use Rattle.snesl.specs.declared.refusal.Refusal.{Refusal}
use Rattle.snesl.specs.declared.refusal.Refusal.TheVariants.{NoRecord, OverLimit, TooMany}
use Rattle.snesl.specs.Limits.{most_records}
use Rattle.snesl.specs.Records as records
use Rattle.snesl.specs.Records.{Raw, bind, each, guard, refused, scanned, head_at, absent, over, single, letting, eaching, guarding, scan, then_scan, too_deep, counted}
use Rattle.formula.specs.declared.read.Asks.{Asks}
use Rattle.formula.specs.declared.read.Asks.TheVariants.{Leaf, Let, Nested}
use Rattle.formula.specs.declared.read.Scanned.{Scanned}
use Rattle.formula.specs.Reading.{asked_of, admitted, scanned_of}

-- a scan that goes on after another ends where the other does
then-end : (s : records.Scanned) (f : Raw → Raw) → scanned_of (then_scan s (λ e k n. scanned (f e) k n)) ≡ scanned_of s
then-end (refused r) f = refl
then-end (scanned e k n) f = refl

module _ (t : List ℕ) (k n : ℕ) where
  -- two expressions from m on: a refusal of the first is the whole's, and else the whole ends where the second does
  pub record Both (levels m : ℕ) (s : records.Scanned) : Type 0 where
    pub first : (r : Refusal) → scanned_of (scan levels t m (n + 1)) ≡ Err r → scanned_of s ≡ Err r
    pub second : (x : Scanned) → scanned_of (scan levels t m (n + 1)) ≡ Ok x → scanned_of s ≡ scanned_of (scan levels t x.end x.records)

  both_at : {l l' m : ℕ} {s : records.Scanned} → l ≡ l' → Both l m s → Both l' m s
  both_at {m = m} {s = s} e b = subst (λ z. Both z m s) e b

  -- the whole scan by what its first record asks and by whether there is room for it
  abbrev pub After : (levels : ℕ) → Result Asks Refusal → Result Unit Refusal → records.Scanned → Type 0
  After levels (Err r) g s = scanned_of s ≡ Err r
  After levels (Ok a) (Err r) s = scanned_of s ≡ Err r
  After levels (Ok (Leaf m)) (Ok u) s = (n < most_records) × (scanned_of s ≡ Ok (record { end = m; records = n + 1 }))
  After levels (Ok (Let m)) (Ok u) s = (n < most_records) × (0 < levels) × Both (levels - 1) m s
  After levels (Ok (Nested m)) (Ok u) s = (n < most_records) × (0 < levels) × (scanned_of s ≡ scanned_of (scan (levels - 1) t m (n + 1)))

  module _ (levels : ℕ) (x : Variable) where
    both :
        (m : ℕ)
        → Both levels m
        (then_scan (scan levels t m (n + 1))
        (λ e₁ k₁ n₁. then_scan (scan levels t k₁ n₁) (λ e₂ k₂ n₂. scanned (bind k x e₁ e₂) k₂ n₂)))
    both m = record { first = λ r. one (scan levels t m (n + 1)) r; second = λ y. two (scan levels t m (n + 1)) y }
      where
        one :
            (s : records.Scanned) (r : Refusal) → scanned_of s ≡ Err r
            → scanned_of (then_scan s (λ e₁ k₁ n₁. then_scan (scan levels t k₁ n₁) (λ e₂ k₂ n₂. scanned (bind k x e₁ e₂) k₂ n₂))) ≡ Err r
        one (refused r') r e = e
        one (scanned e₁ k₁ n₁) r e = cc

        two :
            (s : records.Scanned) (y : Scanned) → scanned_of s ≡ Ok y
            → scanned_of (then_scan s (λ e₁ k₁ n₁. then_scan (scan levels t k₁ n₁) (λ e₂ k₂ n₂. scanned (bind k x e₁ e₂) k₂ n₂)))
            ≡ scanned_of (scan levels t y.end y.records)
        two (refused r) y e = cc
        two (scanned e₁ k₁ n₁) y e =
            let p : ◌≡◌ {A = Scanned} (record { end = k₁; records = n₁ }) y = cc in
            then-end (scan levels t k₁ n₁) (bind k x e₁) ∙ ap (λ (z : Scanned). scanned_of (scan levels t z.end z.records)) p

  none_left : (h : records.Head) → After 0 (asked_of k h) (admitted 0 k n) (too_deep k h)
  none_left absent = refl
  none_left over = refl
  none_left (single e b) = refl
  none_left (letting x) = refl
  none_left (eaching x y us b) = refl
  none_left (guarding g us b) = refl

  one_more :
      (levels : ℕ) (a : Asks) (s : records.Scanned) → (n < most_records → After (suc levels) (Ok a) (Ok tt) s)
      → After (suc levels) (Ok a) (admitted (suc levels) k n) (counted k n s)
  one_more levels a s f = go (ltb 0 (suc levels)) refl (ltb n most_records) refl
    where
      full : (a : Asks) → After (suc levels) (Ok a) (Err (TooMany k)) (refused (TooMany k))
      full (Leaf m) = refl
      full (Let m) = refl
      full (Nested m) = refl

      go :
          (l : Bool) → ltb 0 (suc levels) ≡ l → (b : Bool) → ltb n most_records ≡ b
          → After (suc levels) (Ok a) (elim (l && b) [ true ↦ Ok tt | false ↦ Err (TooMany k) ]) (elim b [ true ↦ s | false ↦ refused (TooMany k) ])
      go true e true q = f (ltb-true n most_records q)
      go true e false q = full a
      go false e b q = absurd (le-absurd (ltb-false 0 (suc levels) e))
        where
          le-absurd : suc levels ≤ 0 → ⊥
          le-absurd h = omega arith

  -- the scan from its first record on
  pub after : (levels : ℕ) → After levels (asked_of k (head_at t k)) (admitted levels k n) (scan levels t k n)
  unfolding scan
  after zero = none_left (head_at t k)
  after (suc l) = go (head_at t k)
    where
      same : l ≡ suc l - 1
      same = omega arith

      -- a record with one expression behind it, whatever it makes of that
      nested :
          (f : Raw → Raw) (b : ℕ)
          → After (suc l) (Ok (Nested (k + b))) (admitted (suc l) k n)
          (counted k n (then_scan (scan l t (k + b) (n + 1)) (λ e k₁ n₁. scanned (f e) k₁ n₁)))
      nested f b =
          one_more l (Nested (k + b)) _
          (λ i. (i, omega arith, then-end (scan l t (k + b) (n + 1)) f ∙ ap (λ z. scanned_of (scan z t (k + b) (n + 1))) same))

      go :
          (h : records.Head)
          → After (suc l) (asked_of k h) (admitted (suc l) k n)
          (elim h [
            | absent ↦ refused (NoRecord k)
            | over ↦ refused (OverLimit k)
            | single e b ↦ counted k n (scanned e (k + b) (n + 1))
            | letting x ↦
                counted k n
                (then_scan (scan l t (k + 3) (n + 1))
                (λ e₁ k₁ n₁. then_scan (scan l t k₁ n₁) (λ e₂ k₂ n₂. scanned (bind k x e₁ e₂) k₂ n₂)))
            | eaching x y us b ↦
                counted k n (then_scan (scan l t (k + b) (n + 1)) (λ e k₁ n₁. scanned (each k x y us e) k₁ n₁))
            | guarding g us b ↦
                counted k n (then_scan (scan l t (k + b) (n + 1)) (λ e k₁ n₁. scanned (guard k g us e) k₁ n₁))
          ])
      go absent = refl
      go over = refl
      go (single e b) = one_more l (Leaf (k + b)) _ (λ i. (i, refl))
      go (letting x) =
          one_more l (Let (k + 3)) _ (λ i. (i, omega arith, both_at same (both l x (k + 3))))
      go (eaching x y us b) = nested (each k x y us) b
      go (guarding g us b) = nested (guard k g us) b

  -- the same of answers that are equal to these
  pub scan-by :
      (levels : ℕ) {a b : Result Asks Refusal} {g h : Result Unit Refusal} → b ≡ asked_of k (head_at t k) → b ≡ a → h ≡ admitted levels k n → h ≡ g
      → After levels a g (scan levels t k n)
  scan-by levels {a} {b} {g} p q r s =
      subst (λ z. After levels z g (scan levels t k n)) (sym p ∙ q)
      (subst (λ z. After levels (asked_of k (head_at t k)) z (scan levels t k n)) (sym r ∙ s) (after levels))

  -- and where the first record is refused, whether or not there is room
  pub scan-unasked :
      (levels : ℕ) {b : Result Asks Refusal} {r : Refusal} → b ≡ asked_of k (head_at t k) → b ≡ Err r → Err r ≡ scanned_of (scan levels t k n)
  scan-unasked levels {r = r} p q = sym (subst (λ z. After levels z (admitted levels k n) (scan levels t k n)) (sym p ∙ q) (after levels))

  pub scan-full :
      (levels : ℕ) {a : Asks} {b : Result Asks Refusal} {h : Result Unit Refusal} {r : Refusal}
      → b ≡ asked_of k (head_at t k) → b ≡ Ok a → h ≡ admitted levels k n → h ≡ Err r → Err r ≡ scanned_of (scan levels t k n)
  scan-full levels {r = r} p q f s = sym (scan-by levels p q f s)
