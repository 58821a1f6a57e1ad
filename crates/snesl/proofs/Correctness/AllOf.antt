-- Several evaluations at once: when all have a value, which values, and that lists of lists may be evaluated flat.
use Prim.Native.Nat.{ℕ, suc}
use native.Mathlib.Omega.{arith}
use mathlib.Core.Path.{◌≡◌, refl, ap, sym, subst}
use mathlib.Core.List.{List, [], ◌∷◌, ◌++◌, map}
use mathlib.Core.Option.{Option, some, none}
use lib.ListN.{length}
use Rattle.snesl.specs.Evaluation.{and_then, all_of}
use Rattle.snesl.specs.Representation.{concat, segments}

-- f has the value b at each place
pub data Each {A B : Type 0} (f : A → Option B) : List A → List B → Type 0 where
  each_nil : Each f [] []
  each-cons : {a : A} {b : B} {l : List A} {r : List B} → f a ≡ some b → Each f l r → Each f (a ∷ l) (b ∷ r)

module _ {A B : Type 0} (f : A → Option B) where
  pub each_of : (l : List A) {r : List B} → all_of f l ≡ some r → Each f l r
  unfolding all_of
  each_of [] {r} h = subst (λ (r : List B). Each f [] r) (cc) each_nil
  each_of (x ∷ l) {r} h = go (f x) refl (all_of f l) refl h (λ s q. each_of l q)
    where
      go : (o : Option B)
          → f x ≡ o
          → (os : Option (List B))
          → all_of f l ≡ os
          → and_then o (λ b. and_then os (λ bs. some (b ∷ bs))) ≡ some r
          → ((s : List B) → all_of f l ≡ some s → Each f l s)
          → Each f (x ∷ l) r
      go none p os q h ih = let z : ◌≡◌ {A = ℕ} 0 1 = cc in absurd (omega arith)
      go (some b) p none q h ih = let z : ◌≡◌ {A = ℕ} 0 1 = cc in absurd (omega arith)
      go (some b) p (some bs) q h ih = subst (λ (r : List B). Each f (x ∷ l) r) (cc) (each-cons p (ih bs q))

  pub each-length : {l : List A} {r : List B} → Each f l r → length r ≡ length l
  each-length each_nil = refl
  each-length (each-cons p h) = ap suc (each-length h)

  pub all_of-map : {C : Type 0} (g : C → A) (l : List C) → all_of f (map g l) ≡ all_of (λ c. f (g c)) l
  unfolding all_of
  all_of-map g [] = refl
  all_of-map g (x ∷ l) = rw (all_of-map g l)

pub all_of-some : {A B : Type 0} (g : A → B) (l : List A) → all_of (λ a. some (g a)) l ≡ some (map g l)
unfolding all_of
all_of-some g [] = refl
all_of-some g (x ∷ l) = rw (all_of-some g l)

-- A list of lists evaluated list by list, and flat: both have values or neither, and the values' segments are the lists'.
pub data Flattened {A B : Type 0} (ls : List (List A)) : Option (List (List B)) → Option (List B) → Type 0 where
  flat : {rs : List (List B)} → segments rs ≡ segments ls → Flattened ls (some rs) (some (concat rs))
  neither : Flattened ls none none

module _ {A B : Type 0} (f : A → Option B) where
  all_of-append : (l r : List A) → all_of f (l ++ r) ≡ and_then (all_of f l) (λ bs. and_then (all_of f r) (λ cs. some (bs ++ cs)))
  unfolding all_of
  all_of-append [] r = sym (some-again (all_of f r))
    where
      some-again : (o : Option (List B)) → and_then o (λ cs. some cs) ≡ o
      some-again none = refl
      some-again (some c) = refl
  all_of-append (x ∷ l) r = rw (all_of-append l r) (regroup (f x) (all_of f l) (all_of f r))
    where
      regroup : (a : Option B) (o p : Option (List B))
          → and_then a (λ b. and_then (and_then o (λ bs. and_then p (λ cs. some (bs ++ cs)))) (λ ds. some (b ∷ ds)))
          ≡ and_then (and_then a (λ b. and_then o (λ bs. some (b ∷ bs)))) (λ bs. and_then p (λ cs. some (bs ++ cs)))
      regroup none o p = refl
      regroup (some b) none p = refl
      regroup (some b) (some bs) none = refl
      regroup (some b) (some bs) (some cs) = refl

  pub flattened : (ls : List (List A)) → Flattened ls (all_of (all_of f) ls) (all_of f (concat ls))
  unfolding all_of concat segments
  flattened [] = flat refl
  flattened (l ∷ ls) =
      subst (λ o. Flattened (l ∷ ls) (all_of (all_of f) (l ∷ ls)) o) (sym (all_of-append l (concat ls)))
      (go (all_of f l) (all_of (all_of f) ls) (all_of f (concat ls)) refl (flattened ls))
    where
      go : (o : Option (List B)) (os : Option (List (List B))) (p : Option (List B))
          → all_of f l ≡ o
          → Flattened ls os p
          → Flattened (l ∷ ls) (and_then o (λ b. and_then os (λ bs. some (b ∷ bs)))) (and_then o (λ bs. and_then p (λ cs. some (bs ++ cs))))
      go none os p q h = neither
      go (some b) none none q neither = neither
      go (some b) none (some cs) q h = elim h [ ]
      go (some b) (some rs) none q h = elim h [ ]
      go (some b) (some rs) (some cs) q (flat h) =
          flat {rs = b ∷ rs} (rw (each-length f (each_of f l q), h))
