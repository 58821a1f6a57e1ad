-- Const, ToFlags, B2u, MapTwo, MapOneNot and Pack: a block takes one item of each input.
use Prim.Native.Nat.{ℕ, zero, suc}
use mathlib.Core.Bool.{Bool, true, false, not}
use mathlib.Core.List.{List, [], ◌∷◌, ◌++◌, map}
use mathlib.Core.Option.{Option, some, none}
use mathlib.Core.Path.{◌≡◌, refl, sym, ap, ◌∙◌, subst, transport}
use native.Mathlib.Omega.{arith}
use lib.IntN.{ℤ, pos, negsuc, ◌+ℤ◌}
use lib.Signed.{le_z}
use lib.ListN.{length, replicate}
use Rattle.laws.proofs.Never.{never}
use Rattle.snesl.specs.declared.code.Base.{Base}
use Rattle.snesl.specs.declared.code.Base.TheVariants as base
use Rattle.snesl.specs.declared.code.Operation.{Operation}
use Rattle.snesl.specs.declared.code.Operation.TheVariants.{Plus, LessEqual, Equal}
use Rattle.snesl.specs.Values.{Element, in_range, equal_z}
use Rattle.snesl.specs.Streams.{ints, bools, flags, data_of}
use Rattle.snesl.specs.Transducers.{first_outside, first_negative, unary, unitary, only_if, kept, pluses, pairwise}
use Rattle.rules.specs.Xducers.{const, const_bool, to_flags, b2u, map_two, map_one_not, pack, Operates, operates-plus, operates-less_equal, operates-equal, joined-ints, joined-bools, joined-flags, joined-none, joined-more}
use Rattle.rules.specs.Xducers.{Unary, unary-none, unary-more, Keeps, keeps-T, keeps-F, block-const, block-const_bool, block-to_flags, block-b2u, block-map_two, block-map_one_not, block-pack, Loops, x-loop, x-term}
use Rattle.rules.proofs.Xducers.Loops.{data-same, joined-data}

pub ints-same : {xs ys : List ℤ} → ints xs ≡ ints ys → xs ≡ ys
ints-same q = cc

pub bools-same : {bs cs : List Bool} → bools bs ≡ bools cs → bs ≡ cs
bools-same q = cc

pub flags-same : {bs cs : List Bool} → flags bs ≡ flags cs → bs ≡ cs
flags-same q = cc

pub first-same : {A : Type 0} {a b : A} {l m : List A} → ◌≡◌ {A = List A} (a ∷ l) (b ∷ m) → a ≡ b
first-same q = cc

pub tail-same : {A : Type 0} {a b : A} {l m : List A} → ◌≡◌ {A = List A} (a ∷ l) (b ∷ m) → l ≡ m
tail-same q = cc

-- ---- Const

pub const-made : (z : ℤ) (n : ℕ) → Loops (const z) n [] (ints (replicate n z))
const-made z zero = x-term base.Int refl refl
const-made z (suc n) = x-loop block-const (const-made z n) joined-none (joined-ints refl)

pub const-gives : {z : ℤ} {n : ℕ} {zs : List ℤ} → Loops (const z) n [] (ints zs) → zs ≡ replicate n z
const-gives {z} (x-loop block-const l joined-none (joined-ints q)) = q ∙ ap (λ l. z ∷ l) (const-gives l)
const-gives (x-term b p q) = ints-same q

pub const_bool-made : (c : Bool) (n : ℕ) → Loops (const_bool c) n [] (bools (replicate n c))
const_bool-made c zero = x-term base.Int refl refl
const_bool-made c (suc n) = x-loop block-const_bool (const_bool-made c n) joined-none (joined-bools refl)

pub const_bool-gives : {c : Bool} {n : ℕ} {cs : List Bool} → Loops (const_bool c) n [] (bools cs) → cs ≡ replicate n c
const_bool-gives {c} (x-loop block-const_bool l joined-none (joined-bools q)) = q ∙ ap (λ l. c ∷ l) (const_bool-gives l)
const_bool-gives (x-term b p q) = bools-same q

-- ---- ToFlags

unary-made : (n : ℕ) → Unary n (replicate n false ++ true ∷ [])
unary-made zero = unary-none
unary-made (suc n) = unary-more (unary-made n)

unary-then : {n : ℕ} {bs : List Bool} → Unary n bs → (cs : List Bool) → bs ++ cs ≡ replicate n false ++ true ∷ cs
unary-then unary-none cs = refl
unary-then (unary-more h) cs = ap (λ l. false ∷ l) (unary-then h cs)

pub to_flags-made : (n k : ℕ) (zs : List ℤ) → length zs ≡ n → first_negative k zs ≡ none → Loops to_flags n (ints zs ∷ []) (flags (unary zs))
unfolding first_negative unary
to_flags-made zero k [] l q = x-term base.Int refl refl
to_flags-made zero k (z ∷ zs) l q = never (cc)
to_flags-made (suc n) k [] l q = never (cc)
to_flags-made (suc n) k (pos m ∷ zs) l q =
    let below : length zs ≡ n = omega arith in
    x-loop (block-to_flags (unary-made m)) (to_flags-made n (suc k) zs below q) (joined-more (joined-ints refl) joined-none)
    (joined-flags (sym (unary-then (unary-made m) (unary zs))))
to_flags-made (suc n) k (negsuc m ∷ zs) l q = never (cc)

-- what the rules say of items that are taken one by one
pub data ToFlags (n k : ℕ) (zs : List ℤ) (bs : List Bool) : Type 0 where
  to-flags : length zs ≡ n → first_negative k zs ≡ none → bs ≡ unary zs → ToFlags n k zs bs

to_flags-more : {n k m : ℕ} {zs : List ℤ} {bs cs ds : List Bool} → Unary m bs → ds ≡ bs ++ cs → ToFlags n (suc k) zs cs → ToFlags (suc n) k (pos m ∷ zs) ds
unfolding first_negative unary
to_flags-more {m = m} {bs = bs} {cs = cs} u p (to-flags l q r) =
    to-flags (omega arith) q (p ∙ unary-then u cs ∙ ap (λ l. replicate m false ++ true ∷ l) r)

pub to_flags-gives : {n : ℕ} (k : ℕ) {zs : List ℤ} {bs : List Bool} → Loops to_flags n (ints zs ∷ []) (flags bs) → ToFlags n k zs bs
unfolding first_negative unary
to_flags-gives k {bs = ds} (x-loop {n = n} (block-to_flags {n = m} {bs = bs} u) l (joined-more (joined-ints p) joined-none) (joined-flags q)) =
    subst (λ zs. ToFlags (suc n) k zs ds) (sym p) (to_flags-more u q (to_flags-gives (suc k) l))
to_flags-gives k {zs} {bs} (x-term b p q) =
    let e : zs ≡ [] = ints-same (first-same p) in
    subst (λ zs. ToFlags 0 k zs bs) (sym e) (to-flags refl refl (flags-same q))

-- ---- B2u and MapOneNot

b2u-unary : (c : Bool) → Unary (elim c [ true ↦ 1 | false ↦ 0 ]) (only_if c false (true ∷ []))
b2u-unary true = unary-more unary-none
b2u-unary false = unary-none

unary-b2u : (c : Bool) {bs : List Bool} → Unary (elim c [ true ↦ 1 | false ↦ 0 ]) bs → (cs : List Bool) → bs ++ cs ≡ only_if c false (true ∷ cs)
unary-b2u true u cs = unary-then u cs
unary-b2u false u cs = unary-then u cs

-- n items, and what is made of them
pub data Bools (f : List Bool → List Bool) (n : ℕ) (cs bs : List Bool) : Type 0 where
  of-bools : length cs ≡ n → bs ≡ f cs → Bools f n cs bs

pub b2u-made : (n : ℕ) (cs : List Bool) → length cs ≡ n → Loops b2u n (bools cs ∷ []) (flags (unitary cs))
unfolding unitary
b2u-made zero [] l = x-term base.Int refl refl
b2u-made zero (c ∷ cs) l = never (cc)
b2u-made (suc n) [] l = never (cc)
b2u-made (suc n) (c ∷ cs) l =
    x-loop (block-b2u (b2u-unary c)) (b2u-made n cs (omega arith)) (joined-more (joined-bools refl) joined-none) (joined-flags (sym (unary-b2u c (b2u-unary c) (unitary cs))))

b2u-more : {n : ℕ} {c : Bool} {cs bs ds fs : List Bool} → Unary (elim c [ true ↦ 1 | false ↦ 0 ]) bs → fs ≡ bs ++ ds → Bools unitary n cs ds → Bools unitary (suc n) (c ∷ cs) fs
unfolding unitary
b2u-more {c = c} {ds = ds} u p (of-bools l r) = of-bools (omega arith) (p ∙ unary-b2u c u ds ∙ ap (λ l. only_if c false (true ∷ l)) r)

pub b2u-gives : {n : ℕ} {cs bs : List Bool} → Loops b2u n (bools cs ∷ []) (flags bs) → Bools unitary n cs bs
unfolding unitary
b2u-gives {bs = bs} (x-loop {n = n} (block-b2u u) l (joined-more (joined-bools p) joined-none) (joined-flags q)) =
    subst (λ cs. Bools unitary (suc n) cs bs) (sym p) (b2u-more u q (b2u-gives l))
b2u-gives {cs = cs} {bs = bs} (x-term b p q) =
    let e : cs ≡ [] = bools-same (first-same p) in
    subst (λ cs. Bools unitary 0 cs bs) (sym e) (of-bools refl (flags-same q))

pub not_made : (n : ℕ) (cs : List Bool) → length cs ≡ n → Loops map_one_not n (bools cs ∷ []) (bools (map not cs))
not_made zero [] l = x-term base.Int refl refl
not_made zero (c ∷ cs) l = never (cc)
not_made (suc n) [] l = never (cc)
not_made (suc n) (c ∷ cs) l = x-loop (block-map_one_not refl) (not_made n cs (omega arith)) (joined-more (joined-bools refl) joined-none) (joined-bools refl)

not_more : {n : ℕ} {c d : Bool} {cs ds fs : List Bool} → d ≡ not c → fs ≡ d ∷ ds → Bools (map not) n cs ds → Bools (map not) (suc n) (c ∷ cs) fs
not_more e p (of-bools l r) = of-bools (omega arith) (p ∙ (λ i. e i ∷ r i))

pub not_gives : {n : ℕ} {cs bs : List Bool} → Loops map_one_not n (bools cs ∷ []) (bools bs) → Bools (map not) n cs bs
not_gives {bs = bs} (x-loop {n = n} (block-map_one_not e) l (joined-more (joined-bools p) joined-none) (joined-bools q)) =
    subst (λ cs. Bools (map not) (suc n) cs bs) (sym p) (not_more e q (not_gives l))
not_gives {cs = cs} {bs = bs} (x-term b p q) =
    let e : cs ≡ [] = bools-same (first-same p) in
    subst (λ cs. Bools (map not) 0 cs bs) (sym e) (of-bools refl (bools-same q))

-- ---- MapTwo

pub data MapTwo (n k : ℕ) (xs ys zs : List ℤ) : Type 0 where
  map-two : length xs ≡ n → length ys ≡ n → first_outside (pluses k xs ys) ≡ none → zs ≡ map (λ r. r.1) (pluses k xs ys) → MapTwo n k xs ys zs

pub inside-first : (z : ℤ) (k : ℕ) (rs : List (ℕ × ℤ)) → in_range z ≡ true → first_outside ((k, z) ∷ rs) ≡ first_outside rs
unfolding first_outside
inside-first z k rs q = rw (q, first_outside)

-- a list whose results are all in range
pub first-inside : (z : ℤ) (k : ℕ) (rs : List (ℕ × ℤ)) → first_outside ((k, z) ∷ rs) ≡ none → (in_range z ≡ true) × (first_outside rs ≡ none)
unfolding first_outside
first-inside z k rs = go (in_range z) refl
  where
    go : (b : Bool) → in_range z ≡ b → ◌≡◌ {A = Option ℕ} (elim b [ true ↦ first_outside rs | false ↦ some k ]) none → (in_range z ≡ true) × (first_outside rs ≡ none)
    go true q r = (q, r)
    go false q r = never (cc)

pub map_two-made : (n k : ℕ) (xs ys : List ℤ) → length xs ≡ n → length ys ≡ n → first_outside (pluses k xs ys) ≡ none
    → Loops (map_two Plus) n (ints xs ∷ ints ys ∷ []) (ints (map (λ r. r.1) (pluses k xs ys)))
unfolding pluses
map_two-made zero k [] [] l m q = x-term base.Int refl refl
map_two-made zero k [] (y ∷ ys) l m q = never (cc)
map_two-made zero k (x ∷ xs) ys l m q = never (cc)
map_two-made (suc n) k [] ys l m q = never (cc)
map_two-made (suc n) k (x ∷ xs) [] l m q = never (cc)
map_two-made (suc n) k (x ∷ xs) (y ∷ ys) l m q =
    let (r, rest) = first-inside (x +ℤ y) k (pluses (suc k) xs ys) q in
    x-loop (block-map_two (operates-plus refl r)) (map_two-made n (suc k) xs ys (omega arith) (omega arith) rest)
    (joined-more (joined-ints refl) (joined-more (joined-ints refl) joined-none)) (joined-ints refl)

map_two-more : {n k : ℕ} {x y z : ℤ} {xs ys zs : List ℤ} → z ≡ x +ℤ y → in_range z ≡ true → MapTwo n (suc k) xs ys zs → MapTwo (suc n) k (x ∷ xs) (y ∷ ys) (z ∷ zs)
unfolding pluses
map_two-more {k = k} {x} {y} {z} {xs} {ys} {zs} p r (map-two l m q e) =
    map-two (omega arith) (omega arith) (inside-first (x +ℤ y) k (pluses (suc k) xs ys) (ap in_range (sym p) ∙ r) ∙ q) (λ i. p i ∷ e i)

pub map_two-gives : {n : ℕ} (k : ℕ) {xs ys zs : List ℤ} → Loops (map_two Plus) n (ints xs ∷ ints ys ∷ []) (ints zs) → MapTwo n k xs ys zs
unfolding pluses first_outside
map_two-gives k (x-loop {n = n} (block-map_two (operates-plus e r)) l (joined-more (joined-ints p) (joined-more (joined-ints q) joined-none)) (joined-ints s)) =
    let h = map_two-more e r (map_two-gives (suc k) l) in
    transport (λ i. MapTwo (suc n) k (sym p i) (sym q i) (sym s i)) h
map_two-gives k {xs} {ys} {zs} (x-term b p q) =
    let ex : [] ≡ xs = sym (ints-same (first-same p)) in
    let ey : [] ≡ ys = sym (ints-same (first-same (tail-same p))) in
    let ez : [] ≡ zs = sym (ints-same q) in
    transport (λ i. MapTwo 0 k (ex i) (ey i) (ez i)) (map-two refl refl refl refl)

-- the comparisons
pub data Compared (f : ℤ → ℤ → Bool) (n : ℕ) (xs ys : List ℤ) (cs : List Bool) : Type 0 where
  compared : length xs ≡ n → length ys ≡ n → cs ≡ pairwise f xs ys → Compared f n xs ys cs

-- o compares by f: what its rule says of two ints
pub record Compares (o : Operation) (f : ℤ → ℤ → Bool) : Type 0 where
  pub makes : (x y : ℤ) → Operates o x y (bools (f x y ∷ []))
  pub gave : (x y : ℤ) (cs : List Bool) → Operates o x y (bools cs) → cs ≡ f x y ∷ []
  pub ended : (xs ys : List ℤ) (cs : List Bool) → Loops (map_two o) 0 (ints xs ∷ ints ys ∷ []) (bools cs) → (xs ≡ []) × (ys ≡ []) × (cs ≡ [])
  pub ends : Loops (map_two o) 0 (ints [] ∷ ints [] ∷ []) (bools [])

pub less_equal : Compares LessEqual le_z
less_equal = record { makes = λ x y. operates-less_equal refl; gave = gave; ended = ended; ends = x-term base.Int refl refl }
  where
    gave : (x y : ℤ) (cs : List Bool) → Operates LessEqual x y (bools cs) → cs ≡ le_z x y ∷ []
    gave x y cs (operates-less_equal e) = ap (λ c. c ∷ []) e

    ended : (xs ys : List ℤ) (cs : List Bool) → Loops (map_two LessEqual) 0 (ints xs ∷ ints ys ∷ []) (bools cs) → (xs ≡ []) × (ys ≡ []) × (cs ≡ [])
    ended xs ys cs (x-term b p q) = (ints-same (first-same p), ints-same (first-same (tail-same p)), bools-same q)

pub equal : Compares Equal equal_z
equal = record { makes = λ x y. operates-equal refl; gave = gave; ended = ended; ends = x-term base.Int refl refl }
  where
    gave : (x y : ℤ) (cs : List Bool) → Operates Equal x y (bools cs) → cs ≡ equal_z x y ∷ []
    gave x y cs (operates-equal e) = ap (λ c. c ∷ []) e

    ended : (xs ys : List ℤ) (cs : List Bool) → Loops (map_two Equal) 0 (ints xs ∷ ints ys ∷ []) (bools cs) → (xs ≡ []) × (ys ≡ []) × (cs ≡ [])
    ended xs ys cs (x-term b p q) = (ints-same (first-same p), ints-same (first-same (tail-same p)), bools-same q)

module _ {o : Operation} {f : ℤ → ℤ → Bool} (w : Compares o f) where
  pub compare-made : (n : ℕ) (xs ys : List ℤ) → length xs ≡ n → length ys ≡ n → Loops (map_two o) n (ints xs ∷ ints ys ∷ []) (bools (pairwise f xs ys))
  unfolding pairwise
  compare-made zero [] [] l m = w.ends
  compare-made zero [] (y ∷ ys) l m = never (cc)
  compare-made zero (x ∷ xs) ys l m = never (cc)
  compare-made (suc n) [] ys l m = never (cc)
  compare-made (suc n) (x ∷ xs) [] l m = never (cc)
  compare-made (suc n) (x ∷ xs) (y ∷ ys) l m =
      x-loop (block-map_two (w.makes x y)) (compare-made n xs ys (omega arith) (omega arith))
      (joined-more (joined-ints refl) (joined-more (joined-ints refl) joined-none)) (joined-bools refl)

  compare-more : {n : ℕ} {x y : ℤ} {xs ys : List ℤ} {cs ds fs : List Bool} → Operates o x y (bools cs) → fs ≡ cs ++ ds → Compared f n xs ys ds → Compared f (suc n) (x ∷ xs) (y ∷ ys) fs
  unfolding pairwise
  compare-more {x = x} {y = y} {cs = cs} {ds = ds} h p (compared l m r) =
      let e = w.gave x y cs h in
      compared (omega arith) (omega arith) (p ∙ (λ i. e i ++ r i))

  pub compare-gives : (n : ℕ) {xs ys : List ℤ} {cs : List Bool} → Loops (map_two o) n (ints xs ∷ ints ys ∷ []) (bools cs) → Compared f n xs ys cs
  unfolding pairwise
  compare-gives zero {xs} {ys} {cs} l =
      let (p, q, r) = w.ended xs ys cs l in
      transport (λ i. Compared f 0 (sym p i) (sym q i) (sym r i)) (compared refl refl refl)
  compare-gives (suc n) (x-loop (block-map_two h) l (joined-more (joined-ints p) (joined-more (joined-ints q) joined-none)) (joined-bools s)) =
      transport (λ i. Compared f (suc n) (sym p i) (sym q i) (sym s i)) (compare-more h refl (compare-gives n l))

-- ---- Pack

pub data Packed (b : Base) (n : ℕ) (cs : List Bool) (xs zs : List (Element b)) : Type 0 where
  packed : length cs ≡ n → length xs ≡ n → zs ≡ kept cs xs → Packed b n cs xs zs

pub keeps : {A : Type 0} (c : Bool) (l : List A) → Keeps c l (elim c [ true ↦ l | false ↦ [] ])
keeps true l = keeps-T
keeps false l = keeps-F

pub keeps-one : {A : Type 0} {c : Bool} {x : A} {zs : List A} → Keeps c (x ∷ []) zs → (l : List A) → zs ++ l ≡ only_if c x l
keeps-one keeps-T l = refl
keeps-one keeps-F l = refl

pack-end : (b : Base) → Loops pack 0 (bools [] ∷ data_of b [] ∷ []) (data_of b [])
pack-end base.Int = x-term base.Int refl refl
pack-end base.Bool = x-term base.Bool refl refl

pub pack_made : (b : Base) (n : ℕ) (cs : List Bool) (xs : List (Element b)) → length cs ≡ n → length xs ≡ n → Loops pack n (bools cs ∷ data_of b xs ∷ []) (data_of b (kept cs xs))
unfolding kept
pack_made b zero [] xs l m = let e = none_left xs m in subst (λ xs. Loops pack 0 (bools [] ∷ data_of b xs ∷ []) (data_of b [])) (sym e) (pack-end b)
  where
    none_left : {A : Type 0} (xs : List A) → length xs ≡ 0 → xs ≡ []
    none_left [] m = refl
    none_left (x ∷ xs) m = never (cc)
pack_made b zero (c ∷ cs) xs l m = never (cc)
pack_made b (suc n) [] xs l m = never (cc)
pack_made b (suc n) (c ∷ cs) [] l m = never (cc)
pack_made b (suc n) (c ∷ cs) (x ∷ xs) l m =
    x-loop (block-pack b (keeps c (x ∷ [])) refl refl) (pack_made b n cs xs (omega arith) (omega arith))
    (joined-more (joined-bools refl) (joined-more (joined-data b (x ∷ []) xs (x ∷ xs) refl) joined-none))
    (joined-data b (elim c [ true ↦ x ∷ [] | false ↦ [] ]) (kept cs xs) (only_if c x (kept cs xs)) (sym (keeps-one (keeps c (x ∷ [])) (kept cs xs))))

-- the streams of a block and those of the rest
data PackParts (b : Base) (n : ℕ) (cs : List Bool) (xs zs : List (Element b)) : Type 0 where
  pack-parts : (c : Bool) (x : Element b) (cs₂ : List Bool) (xs₂ zs₁ zs₂ : List (Element b))
      → Keeps c (x ∷ []) zs₁
      → Loops pack n (bools cs₂ ∷ data_of b xs₂ ∷ []) (data_of b zs₂)
      → cs ≡ c ∷ cs₂
      → xs ≡ x ∷ xs₂
      → zs ≡ zs₁ ++ zs₂
      → PackParts b n cs xs zs

pack-split : (b : Base) {n : ℕ} {cs : List Bool} (xs zs : List (Element b)) → Loops pack (suc n) (bools cs ∷ data_of b xs ∷ []) (data_of b zs) → PackParts b n cs xs zs
pack-split base.Int xs zs (x-loop (block-pack base.Int {c = c} {n = n} {ns = ns} h e f) l (joined-more (joined-bools {cs = cs₂} p) (joined-more (joined-ints {ys = xs₂} q) joined-none)) (joined-ints {ys = zs₂} r)) =
    let g = data-same base.Int _ (n ∷ []) e in
    let d = data-same base.Int _ ns f in
    pack-parts c n cs₂ xs₂ ns zs₂ h l p (q ∙ ap (λ l. l ++ xs₂) g) (r ∙ ap (λ l. l ++ zs₂) d)
pack-split base.Int xs zs (x-loop (block-pack base.Bool h e f) l (joined-more (joined-bools p) (joined-more (joined-ints q) joined-none)) r) = never (cc)
pack-split base.Bool xs zs (x-loop (block-pack base.Int h e f) l (joined-more (joined-bools p) (joined-more (joined-bools q) joined-none)) r) = never (cc)
pack-split base.Bool xs zs (x-loop (block-pack base.Bool {c = c} {n = n} {ns = ns} h e f) l (joined-more (joined-bools {cs = cs₂} p) (joined-more (joined-bools {cs = xs₂} q) joined-none)) (joined-bools {cs = zs₂} r)) =
    let g = data-same base.Bool _ (n ∷ []) e in
    let d = data-same base.Bool _ ns f in
    pack-parts c n cs₂ xs₂ ns zs₂ h l p (q ∙ ap (λ l. l ++ xs₂) g) (r ∙ ap (λ l. l ++ zs₂) d)

pack-ended : (b : Base) {cs : List Bool} (xs zs : List (Element b)) → Loops pack 0 (bools cs ∷ data_of b xs ∷ []) (data_of b zs) → (cs ≡ []) × (xs ≡ []) × (zs ≡ [])
pack-ended base.Int xs zs (x-term base.Int p q) = (bools-same (first-same p), ints-same (first-same (tail-same p)), ints-same q)
pack-ended base.Int xs zs (x-term base.Bool p q) = never (cc)
pack-ended base.Bool xs zs (x-term base.Int p q) = never (cc)
pack-ended base.Bool xs zs (x-term base.Bool p q) = (bools-same (first-same p), bools-same (first-same (tail-same p)), bools-same q)

pub pack-gives : (b : Base) (n : ℕ) (cs : List Bool) (xs zs : List (Element b)) → Loops pack n (bools cs ∷ data_of b xs ∷ []) (data_of b zs) → Packed b n cs xs zs
unfolding kept
pack-gives b zero cs xs zs l =
    let (p, q, r) = pack-ended b xs zs l in
    transport (λ i. Packed b 0 (sym p i) (sym q i) (sym r i)) (packed refl refl refl)
pack-gives b (suc n) cs xs zs l = go (pack-split b xs zs l) (pack-gives b n)
  where
    one_more_lem : {c : Bool} {x : Element b} {cs₂ : List Bool} {xs₂ zs₁ zs₂ : List (Element b)} → Keeps c (x ∷ []) zs₁ → Packed b n cs₂ xs₂ zs₂ → Packed b (suc n) (c ∷ cs₂) (x ∷ xs₂) (zs₁ ++ zs₂)
    one_more_lem {c} {x} {zs₂ = zs₂} h (packed p q r) = packed (omega arith) (omega arith) (keeps-one h zs₂ ∙ ap (only_if c x) r)

    go : PackParts b n cs xs zs → ((cs : List Bool) (xs zs : List (Element b)) → Loops pack n (bools cs ∷ data_of b xs ∷ []) (data_of b zs) → Packed b n cs xs zs) → Packed b (suc n) cs xs zs
    go (pack-parts c x cs₂ xs₂ zs₁ zs₂ h l p q r) below = transport (λ i. Packed b (suc n) (sym p i) (sym q i) (sym r i)) (one_more_lem h (below cs₂ xs₂ zs₂ l))
