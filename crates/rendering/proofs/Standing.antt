-- Streams that stand in a buffer, read from their cursors on: what stands at a cursor, what is left behind some of the values, and that they are one
-- list of values only.
use Prim.Native.Nat.{ℕ, zero, suc, ◌+◌, ◌<◌}
use mathlib.Core.Bool.{Bool, true, false}
use mathlib.Core.List.{List, [], ◌∷◌, ◌++◌, map}
use mathlib.Core.Path.{◌≡◌, refl, sym, ap, ap₂, ◌∙◌, subst}
use native.Mathlib.Numerals.{add-one}
use native.Mathlib.Omega.{arith}
use borrow.Author.Tests.{ltb-true, ltb-false}
use lib.Dec.{ltb}
use lib.IntN.{ℤ, pos}
use lib.ListN.{length, get_or, set, take, drop, replicate, length-append, length-replicate, drop_of_length-le}
use lib.Seq.{drop-cons, take-take, take-append_seam, get_or-set_same, get_or-set_other}
use native.Mathlib.Nat.{add-zero}
use Rattle.snesl.specs.declared.code.Base.{Base}
use Rattle.snesl.specs.declared.code.Base.TheVariants as base
use Rattle.snesl.specs.Values.{type_of, Element, Val}
use Rattle.snesl.specs.Streams.{bit}
use Rattle.snesl.specs.Representation.{concat, segments}
use Rattle.snesl.proofs.Representing.Elements.{length-elements, elements-append}
use Rattle.valuetext.specs.Laying.{cells, advance}
use Rattle.valuetext.specs.Reading.{cell}
use Rattle.rendering.specs.Standing.{StandsAt, Stands}
use Rattle.valuetext.proofs.Laying.{cells-more, concat-append, bits-append, bits-length, length-advance}

-- ---- elements at a place

stands-inside : (b : List ℤ) (c : ℕ) (z : ℤ) (zs : List ℤ) → StandsAt b c (z ∷ zs) → c < length b
stands-inside b c z zs s = go (ltb c (length b)) refl
  where
    go : (t : Bool) → ltb c (length b) ≡ t → c < length b
    go true e = ltb-true c (length b) e
    go false e =
        let n : drop c b ≡ [] = drop_of_length-le b (ltb-false c (length b) e) in
        let x : ◌≡◌ {A = List ℤ} [] (z ∷ zs) = subst (λ (l : List ℤ). take (length (z ∷ zs)) l ≡ z ∷ zs) n s in
        let y : ◌≡◌ {A = ℕ} 0 1 = cc in
        absurd (omega arith)

-- the first of them, and those behind it
pub record Head (b : List ℤ) (c : ℕ) (z : ℤ) (zs : List ℤ) : Type 0 where
  pub inside : c < length b
  pub is : get_or b c (pos 0) ≡ z
  pub behind : StandsAt b (c + 1) zs

pub stands-head : (b : List ℤ) (c : ℕ) (z : ℤ) (zs : List ℤ) → StandsAt b c (z ∷ zs) → Head b c z zs
stands-head b c z zs s =
    let h : c < length b = stands-inside b c z zs s in
    let e : get_or b c (pos 0) ∷ take (length zs) (drop (suc c) b) ≡ z ∷ zs =
    subst (λ (l : List ℤ). take (length (z ∷ zs)) l ≡ z ∷ zs) (drop-cons b c (pos 0) h) s in
    let p : get_or b c (pos 0) ≡ z = cc in
    let q : take (length zs) (drop (suc c) b) ≡ zs = cc in
    record { inside = h; is = p; behind = ap (λ (j : ℕ). take (length zs) (drop j b)) (add-one c) ∙ q }

pub stands-front : (b : List ℤ) (c : ℕ) (xs ys : List ℤ) → StandsAt b c (xs ++ ys) → StandsAt b c xs
stands-front b c xs ys s =
    sym (take-take (length xs) (length (xs ++ ys)) (drop c b) (omega (arith, length-append xs ys)))
    ∙ ap (take (length xs)) s
    ∙ take-append_seam xs ys

pub stands-behind : (b : List ℤ) (c : ℕ) (xs ys : List ℤ) → StandsAt b c (xs ++ ys) → StandsAt b (c + length xs) ys
stands-behind b c [] ys s = ap (λ (j : ℕ). take (length ys) (drop j b)) (add-zero c) ∙ s
stands-behind b c (x ∷ xs) ys s =
    let e : c + suc (length xs) ≡ c + 1 + length xs = omega arith in
    ap (λ (j : ℕ). take (length ys) (drop j b)) e ∙ stands-behind b (c + 1) xs ys (stands-head b c x (xs ++ ys) s).behind

-- ---- streams of values

pub stands_set : (β : Base) (d i x : ℕ) (b : List ℤ) (cs : List ℕ) (vs : List (Val (type_of β d))) → d < i → Stands β d b cs vs → Stands β d b (set cs i x) vs
unfolding Stands
stands_set β zero i x b cs vs h s = subst (λ (c : ℕ). StandsAt b c (cells β vs)) (sym (get_or-set_other cs i 0 x 0 (λ e. omega arith))) s
stands_set β (suc d) i x b cs vs h s = (
  stands_set β d i x b cs (concat vs) (omega arith) s.0,
  subst (λ (c : ℕ). StandsAt b c (map bit (segments vs))) (sym (get_or-set_other cs i (suc d) x 0 (λ e. omega arith))) s.1,
)

-- what stands behind some of them
pub stands_on : (β : Base) (d : ℕ) (b : List ℤ) (cs : List ℕ) (vs ws : List (Val (type_of β d))) → d < length cs → Stands β d b cs (vs ++ ws) → Stands β d b (advance β d cs vs) ws
unfolding Stands advance
stands_on β zero b cs vs ws h s =
    let g : get_or (set cs 0 (get_or cs 0 0 + length vs)) 0 0 ≡ get_or cs 0 0 + length (cells β vs) =
    get_or-set_same cs 0 (get_or cs 0 0 + length vs) 0 h ∙ ap (λ (n : ℕ). get_or cs 0 0 + n) (sym (length-elements β vs)) in
    subst (λ (c : ℕ). StandsAt b c (cells β ws)) (sym g)
    (stands-behind b (get_or cs 0 0) (cells β vs) (cells β ws) (subst (StandsAt b (get_or cs 0 0)) (elements-append β vs ws) s))
stands_on β (suc d) b cs vs ws h s =
    let a : List ℕ = advance β d cs (concat vs) in
    let y : ℕ = get_or cs (suc d) 0 + length (segments vs) in
    let g : get_or (set a (suc d) y) (suc d) 0 ≡ get_or cs (suc d) 0 + length (map bit (segments vs)) =
    get_or-set_same a (suc d) y 0 (subst (λ (n : ℕ). suc d < n) (sym (length-advance β d cs (concat vs))) h)
    ∙ ap (λ (n : ℕ). get_or cs (suc d) 0 + n) (sym (bits-length vs)) in (
      stands_set β d (suc d) y b a (concat ws) (omega arith)
          (stands_on β d b cs (concat vs) (concat ws) (omega arith) (subst (Stands β d b cs) (concat-append vs ws) s.0)),
      subst (λ (c : ℕ). StandsAt b c (map bit (segments ws))) (sym g)
          (stands-behind b (get_or cs (suc d) 0) (map bit (segments vs)) (map bit (segments ws))
          (subst (StandsAt b (get_or cs (suc d) 0)) (bits-append vs ws) s.1)),
    )

-- ---- a list's own flags

-- the flags of a list of n items, and what follows
pub own-flags : {A : Type 0} (v : List A) (vs : List (List A)) → map bit (segments (v ∷ vs)) ≡ replicate (length v) (pos 0) ++ pos 1 ∷ map bit (segments vs)
unfolding segments
own-flags v vs = go (length v)
  where
    go : (n : ℕ) → map bit (replicate n false ++ true ∷ segments vs) ≡ replicate n (pos 0) ++ pos 1 ∷ map bit (segments vs)
    go zero = refl
    go (suc n) = ap (λ (l : List ℤ). pos 0 ∷ l) (go n)

pub flag-item : (b : List ℤ) (c n j : ℕ) (s : List ℤ) → StandsAt b c (replicate n (pos 0) ++ pos 1 ∷ s) → j < n
    → (c + j < length b) × (get_or b (c + j) (pos 0) ≡ pos 0)
flag-item b c zero j s h l = absurd (omega arith)
flag-item b c (suc n) zero s h l =
    let k : Head b c (pos 0) (replicate n (pos 0) ++ pos 1 ∷ s) = stands-head b c (pos 0) (replicate n (pos 0) ++ pos 1 ∷ s) h in
    (omega (arith, k.inside), ap (λ (i : ℕ). get_or b i (pos 0)) (add-zero c) ∙ k.is)
flag-item b c (suc n) (suc j) s h l =
    let e : c + 1 + j ≡ c + suc j = omega arith in
    subst (λ (i : ℕ). (i < length b) × (get_or b i (pos 0) ≡ pos 0)) e
    (flag-item b (c + 1) n j s (stands-head b c (pos 0) (replicate n (pos 0) ++ pos 1 ∷ s) h).behind (omega arith))

pub flag-end : (b : List ℤ) (c n : ℕ) (s : List ℤ) → StandsAt b c (replicate n (pos 0) ++ pos 1 ∷ s)
    → (c + n < length b) × (get_or b (c + n) (pos 0) ≡ pos 1)
flag-end b c n s h =
    let p : StandsAt b (c + length (replicate n (pos 0))) (pos 1 ∷ s) = stands-behind b c (replicate n (pos 0)) (pos 1 ∷ s) h in
    let k : Head b (c + n) (pos 1) s =
    stands-head b (c + n) (pos 1) s (subst (λ (m : ℕ). StandsAt b (c + m) (pos 1 ∷ s)) (length-replicate n (pos 0)) p) in
    (k.inside, k.is)

same_count : (b : List ℤ) (c n m : ℕ) (s t : List ℤ) → StandsAt b c (replicate n (pos 0) ++ pos 1 ∷ s)
    → StandsAt b c (replicate m (pos 0) ++ pos 1 ∷ t) → n ≡ m
same_count b c n m s t p q = go (ltb n m) refl (ltb m n) refl
  where
    clash : (i : ℕ) → get_or b i (pos 0) ≡ pos 0 → get_or b i (pos 0) ≡ pos 1 → ⊥
    clash i x y = let z : ◌≡◌ {A = ℕ} 0 1 = cc in omega arith

    go : (x : Bool) → ltb n m ≡ x → (y : Bool) → ltb m n ≡ y → n ≡ m
    go true e y f = absurd (clash (c + n) (flag-item b c m n t q (ltb-true n m e)).1 (flag-end b c n s p).1)
    go false e true f = absurd (clash (c + m) (flag-item b c n m s p (ltb-true m n f)).1 (flag-end b c m t q).1)
    go false e false f = omega (arith, ltb-false n m e, ltb-false m n f)

-- ---- a scalar's element

pub scalar-head : (β : Base) (b : List ℤ) (c : ℕ) (v : Element β) (vs : List (Element β)) → StandsAt b c (cells β (v ∷ vs)) → Head b c (cell β v) (cells β vs)
scalar-head β b c v vs s = stands-head b c (cell β v) (cells β vs) (subst (StandsAt b c) (cells-more β v vs) s)

cell-injective : (β : Base) (v w : Element β) → cell β v ≡ cell β w → v ≡ w
cell-injective base.Int v w e = e
cell-injective base.Bool false false e = refl
cell-injective base.Bool false true e = let z : ◌≡◌ {A = ℕ} 0 1 = cc in absurd (omega arith)
cell-injective base.Bool true false e = let z : ◌≡◌ {A = ℕ} 0 1 = cc in absurd (omega arith)
cell-injective base.Bool true true e = refl

-- ---- one value only

module _ (β : Base) (d : ℕ) (b : List ℤ)
    (one : (cs : List ℕ) (v : Val (type_of β d)) (vs : List (Val (type_of β d))) (w : Val (type_of β d)) (ws : List (Val (type_of β d))) → d < length cs → Stands β d b cs (v ∷ vs) → Stands β d b cs (w ∷ ws) → v ≡ w) where
  same-items : (cs : List ℕ) (xs us ys ws : List (Val (type_of β d))) → d < length cs → length xs ≡ length ys → Stands β d b cs (xs ++ us) → Stands β d b cs (ys ++ ws) → xs ≡ ys
  same-items cs [] us [] ws h e p q = refl
  same-items cs [] us (y ∷ ys) ws h e p q = absurd (omega arith)
  same-items cs (x ∷ xs) us [] ws h e p q = absurd (omega arith)
  same-items cs (x ∷ xs) us (y ∷ ys) ws h e p q =
      let s : x ≡ y = one cs x (xs ++ us) y (ys ++ ws) h p q in
      let l : d < length (advance β d cs (x ∷ [])) = subst (λ (n : ℕ). d < n) (sym (length-advance β d cs (x ∷ []))) h in
      let r : Stands β d b (advance β d cs (x ∷ [])) (ys ++ ws) =
      subst (λ (z : Val (type_of β d)). Stands β d b (advance β d cs (z ∷ [])) (ys ++ ws)) (sym s) (stands_on β d b cs (y ∷ []) (ys ++ ws) h q) in
      ap₂ (λ (z : Val (type_of β d)) (zs : List (Val (type_of β d))). z ∷ zs) s
      (same-items (advance β d cs (x ∷ [])) xs us ys ws l (omega arith) (stands_on β d b cs (x ∷ []) (xs ++ us) h p) r)

pub one_value : (β : Base) (d : ℕ) (b : List ℤ) (cs : List ℕ) (v : Val (type_of β d)) (vs : List (Val (type_of β d))) (w : Val (type_of β d)) (ws : List (Val (type_of β d))) → d < length cs
    → Stands β d b cs (v ∷ vs) → Stands β d b cs (w ∷ ws) → v ≡ w
unfolding Stands concat
one_value β zero b cs v vs w ws h p q =
    cell-injective β v w (sym (scalar-head β b (get_or cs 0 0) v vs p).is ∙ (scalar-head β b (get_or cs 0 0) w ws q).is)
one_value β (suc d) b cs v vs w ws h p q =
    let n : length v ≡ length w =
    same_count b (get_or cs (suc d) 0) (length v) (length w) (map bit (segments vs)) (map bit (segments ws))
    (subst (StandsAt b (get_or cs (suc d) 0)) (own-flags v vs) p.1)
    (subst (StandsAt b (get_or cs (suc d) 0)) (own-flags w ws) q.1) in
    same-items β d b (one_value β d b) cs v (concat vs) w (concat ws) (omega arith) n p.0 q.0
