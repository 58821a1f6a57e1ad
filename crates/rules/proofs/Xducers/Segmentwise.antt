-- Usum, Distr, ScanPlus, SumPlus and UPack: a block takes a segment of flags, some F's and a T, and what its flags take of the stream beside them.
use Prim.Native.Nat.{ℕ, zero, suc, ◌+◌}
use native.Mathlib.Omega.{arith}
use mathlib.Core.Bool.{Bool, true, false}
use mathlib.Core.List.{List, [], ◌∷◌, ◌++◌, map}
use mathlib.Core.Option.{some, none}
use mathlib.Core.Path.{◌≡◌, refl, sym, ap, ◌∙◌, subst}
use lib.IntN.{ℤ, pos, ◌+ℤ◌}
use Rattle.laws.proofs.Never.{never}
use Rattle.snesl.specs.declared.code.Base.{Base}
use Rattle.snesl.specs.declared.code.Base.TheVariants as base
use Rattle.snesl.specs.Values.{Element, in_range}
use Rattle.snesl.specs.Streams.{Stream, ints, bools, flags, units, data_of}
use Rattle.snesl.specs.Transducers.{Feed, alone, each_f, each_t, misfit, count_f, spread, scans, sums, kept_segments, first_outside}
use Rattle.rules.specs.Xducers.{Xducer, usum, scan_plus, distr, sum_plus, upack, joined-ints, joined-bools, joined-flags, joined-units, joined-none, joined-more, Summed, summed-F, summed-T, Block, block-usum-F, block-usum-T}
use Rattle.rules.specs.Xducers.{block-scan-F, block-scan-T, Spread, spread-F, spread-T, block-distr, block-sum, Unary, unary-none, unary-more, Keeps, keeps-T, keeps-F, block-upack, Loops, x-loop, x-term}
use Rattle.rules.proofs.Xducers.Loops.{data-same, Parted, parted, parts, whole}
use Rattle.rules.proofs.Xducers.Itemwise.{keeps, keeps-one, ints-same, bools-same, flags-same, first-same, tail-same, inside-first, first-inside}

-- the streams of no units at all
ended : {bs : List Bool} {xs : List ℤ} → ◌≡◌ {A = List Stream} (flags bs ∷ ints xs ∷ []) (flags [] ∷ ints [] ∷ []) → (bs ≡ []) × (xs ≡ [])
ended q = (flags-same (first-same q), ints-same (first-same (tail-same q)))

-- Where streams fit n units: none left, or a block and what follows.
module _ (c : Base) {ψ : Xducer} (end : Loops ψ 0 (flags [] ∷ data_of c [] ∷ []) (data_of c [])) (f : Feed) where
  finish : (n k : ℕ) (bs : List Bool) (xs zs : List (Element c))
      → misfit some f k n bs xs ≡ none
      → (bs ≡ [] → xs ≡ [] → zs ≡ [])
      → ((m : ℕ) → n ≡ suc m → Parted c ψ ψ m bs xs zs)
      → Loops ψ n (flags bs ∷ data_of c xs ∷ []) (data_of c zs)
  unfolding misfit
  finish zero k [] [] zs q nil more = subst (λ zs. Loops ψ 0 (flags [] ∷ data_of c [] ∷ []) (data_of c zs)) (sym (nil refl refl)) end
  finish zero k [] (x ∷ xs) zs q nil more = never (cc)
  finish zero k (b ∷ bs) xs zs q nil more = never (cc)
  finish (suc m) k bs xs zs q nil more = whole c xs zs (more m refl)

-- ---- Distr

no-misfit : {A : Type 0} (f : Feed) (k : ℕ) {bs : List Bool} {xs : List A} → bs ≡ [] → xs ≡ [] → misfit some f k 0 bs xs ≡ none
unfolding misfit
no-misfit f k p q = λ i. misfit some f k 0 (p i) (q i)

no-spread : {A : Type 0} {bs : List Bool} {xs : List A} → bs ≡ [] → xs ≡ [] → spread some bs xs ≡ []
unfolding spread
no-spread p q = λ i. spread some (p i) (q i)

spread-block : {A : Type 0} {x : A} {bs : List Bool} {zs : List A}
    → Spread x bs zs
    → (cs : List Bool) (ys : List A) (k n : ℕ)
    → (misfit some each_t k (suc n) (bs ++ cs) (x ∷ ys) ≡ misfit some each_t (suc k) n cs ys) × (spread some (bs ++ cs) (x ∷ ys) ≡ zs ++ spread some cs ys)
unfolding misfit spread
spread-block {x = x} (spread-F b) cs ys k n = let (p, q) = spread-block b cs ys k n in (p, ap (λ l. x ∷ l) q)
spread-block spread-T cs ys k n = (refl, refl)

-- a block of Distr on data of a base
data DistrBlock (c : Base) (bs : List Bool) (xs zs : List (Element c)) : Type 0 where
  distr-one : (x : Element c) → Spread x bs zs → xs ≡ x ∷ [] → DistrBlock c bs xs zs

module _ {bs : List Bool} where
  distr-block : (c : Base) (xs zs : List (Element c)) → Block distr (flags bs ∷ data_of c xs ∷ []) (data_of c zs) → DistrBlock c bs xs zs
  distr-block base.Int xs zs (block-distr base.Int {n = n} {ns = ns} s p q) = distr-one n (subst (Spread n bs) (sym (data-same base.Int zs ns q)) s) (data-same base.Int xs (n ∷ []) p)
  distr-block base.Int xs zs (block-distr base.Bool s p q) = never (cc)
  distr-block base.Bool xs zs (block-distr base.Int s p q) = never (cc)
  distr-block base.Bool xs zs (block-distr base.Bool {n = n} {ns = ns} s p q) = distr-one n (subst (Spread n bs) (sym (data-same base.Bool zs ns q)) s) (data-same base.Bool xs (n ∷ []) p)

distr-ended : (c : Base) {bs : List Bool} (xs zs : List (Element c)) → Loops distr 0 (flags bs ∷ data_of c xs ∷ []) (data_of c zs) → (bs ≡ []) × (xs ≡ []) × (zs ≡ [])
distr-ended base.Int xs zs (x-term base.Int p q) = (flags-same (first-same p), ints-same (first-same (tail-same p)), ints-same q)
distr-ended base.Int xs zs (x-term base.Bool p q) = never (cc)
distr-ended base.Bool xs zs (x-term base.Int p q) = never (cc)
distr-ended base.Bool xs zs (x-term base.Bool p q) = (flags-same (first-same p), bools-same (first-same (tail-same p)), bools-same q)

distr-gives-more : (c : Base) {n : ℕ} (k : ℕ) {bs : List Bool} (xs zs : List (Element c))
    → ((bs : List Bool) (xs zs : List (Element c)) → Loops distr n (flags bs ∷ data_of c xs ∷ []) (data_of c zs) → (misfit some each_t (suc k) n bs xs ≡ none) × (zs ≡ spread some bs xs))
    → Parted c distr distr n bs xs zs
    → (misfit some each_t k (suc n) bs xs ≡ none) × (zs ≡ spread some bs xs)
distr-gives-more c {n} k {bs} xs zs below (parted {bs₁ = bs₁} {bs₂ = bs₂} xs₁ xs₂ zs₁ zs₂ b l p q r) = go (distr-block c xs₁ zs₁ b)
  where
    go : DistrBlock c bs₁ xs₁ zs₁ → (misfit some each_t k (suc n) bs xs ≡ none) × (zs ≡ spread some bs xs)
    go (distr-one x s e) =
        let (fit, out) = below bs₂ xs₂ zs₂ l in
        let (one, two) = spread-block s bs₂ xs₂ k n in
        let h : xs ≡ x ∷ xs₂ = q ∙ ap (λ l. l ++ xs₂) e in
        ((λ i. misfit some each_t k (suc n) (p i) (h i)) ∙ one ∙ fit, r ∙ ap (λ l. zs₁ ++ l) out ∙ sym two ∙ (λ i. spread some (sym p i) (sym h i)))

pub distr-gives : (c : Base) (n k : ℕ) {bs : List Bool} (xs zs : List (Element c))
    → Loops distr n (flags bs ∷ data_of c xs ∷ []) (data_of c zs)
    → (misfit some each_t k n bs xs ≡ none) × (zs ≡ spread some bs xs)
distr-gives c zero k xs zs l = let (e, f, g) = distr-ended c xs zs l in (no-misfit each_t k e f, g ∙ sym (no-spread e f))
distr-gives c (suc n) k xs zs l = distr-gives-more c k xs zs (λ bs xs zs l. distr-gives c n (suc k) xs zs l) (parts c xs zs l)

-- a block of Distr has one item, which may stand at one more F
distr-more : (c : Base) {n : ℕ} {bs : List Bool} (xs : List (Element c))
    → Parted c distr distr n bs xs (spread some bs xs)
    → Parted c distr distr n (false ∷ bs) xs (spread some (false ∷ bs) xs)
unfolding spread
distr-more c {n} {bs} xs (parted {bs₁ = bs₁} xs₁ xs₂ zs₁ zs₂ b l p q r) = go (distr-block c xs₁ zs₁ b)
  where
    go : DistrBlock c bs₁ xs₁ zs₁ → Parted c distr distr n (false ∷ bs) xs (spread some (false ∷ bs) xs)
    go (distr-one x s e) =
        let h : xs ≡ x ∷ xs₂ = q ∙ ap (λ l. l ++ xs₂) e in
        parted (x ∷ []) xs₂ (x ∷ zs₁) zs₂ (block-distr c (spread-F s) refl refl) l (ap (λ l. false ∷ l) p) h
        (ap (spread some (false ∷ bs)) h ∙ ap (λ l. x ∷ l) (ap (spread some bs) (sym h) ∙ r))

distr-end : (c : Base) → Loops distr 0 (flags [] ∷ data_of c [] ∷ []) (data_of c [])
distr-end base.Int = x-term base.Int refl refl
distr-end base.Bool = x-term base.Bool refl refl

distr-parted : (c : Base) (bs : List Bool) (n k : ℕ) (xs : List (Element c)) → misfit some each_t k (suc n) bs xs ≡ none → Parted c distr distr n bs xs (spread some bs xs)
unfolding misfit spread
distr-parted c [] n k xs q = never (cc)
distr-parted c (true ∷ bs) n k [] q = never (cc)
distr-parted c (true ∷ bs) n k (x ∷ xs) q =
    parted (x ∷ []) xs [] (spread some bs xs) (block-distr c spread-T refl refl)
    (finish c (distr-end c) each_t n (suc k) bs xs (spread some bs xs) q no-spread
    (λ m e. distr-parted c bs m (suc k) xs (subst (λ n. misfit some each_t (suc k) n bs xs ≡ none) e q)))
    refl refl refl
distr-parted c (false ∷ bs) n k xs q = distr-more c xs (distr-parted c bs n k xs q)

pub distr-made : (c : Base) (n k : ℕ) (bs : List Bool) (xs : List (Element c)) → misfit some each_t k n bs xs ≡ none → Loops distr n (flags bs ∷ data_of c xs ∷ []) (data_of c (spread some bs xs))
distr-made c n k bs xs q =
    finish c (distr-end c) each_t n k bs xs (spread some bs xs) q no-spread
    (λ m e. distr-parted c bs m k xs (subst (λ n. misfit some each_t k n bs xs ≡ none) e q))

-- ---- ScanPlus

abbrev results : List (ℕ × ℤ) → List ℤ
results rs = map (λ r. r.1) rs

module _ (start : ℤ) where
  scan-block : {sofar : ℤ} {bs : List Bool} {xs zs : List ℤ}
      → Block (scan_plus sofar) (flags bs ∷ ints xs ∷ []) (ints zs)
      → (cs : List Bool) (ys : List ℤ) (k n : ℕ)
      → (misfit some each_f k (suc n) (bs ++ cs) (xs ++ ys) ≡ misfit some each_f (suc k) n cs ys)
      × (first_outside (scans some start k sofar (bs ++ cs) (xs ++ ys)) ≡ first_outside (scans some start (suc k) start cs ys))
      × (results (scans some start k sofar (bs ++ cs) (xs ++ ys)) ≡ zs ++ results (scans some start (suc k) start cs ys))
  unfolding misfit scans
  scan-block {sofar} (block-scan-F {n₁ = next} {n = x} {bs = bs} {xs = xs} r e b) cs ys k n =
      let (p, q, s) = scan-block b cs ys k n in
      let same : scans some start k (sofar +ℤ x) (bs ++ cs) (xs ++ ys) ≡ scans some start k next (bs ++ cs) (xs ++ ys) =
      ap (λ z. scans some start k z (bs ++ cs) (xs ++ ys)) (sym e) in
      (p, inside-first sofar k _ r ∙ ap first_outside same ∙ q, ap (λ l. sofar ∷ l) (ap results same ∙ s))
  scan-block block-scan-T cs ys k n = (refl, refl, refl)

  no-scans : (k : ℕ) (sofar : ℤ) {bs : List Bool} {xs : List ℤ} → bs ≡ [] → xs ≡ [] → scans some start k sofar bs xs ≡ []
  unfolding scans
  no-scans k sofar p q = λ i. scans some start k sofar (p i) (q i)

  pub scan-gives : {n : ℕ} (k : ℕ) {bs : List Bool} {xs zs : List ℤ}
      → Loops (scan_plus start) n (flags bs ∷ ints xs ∷ []) (ints zs)
      → (misfit some each_f k n bs xs ≡ none) × (first_outside (scans some start k start bs xs) ≡ none) × (zs ≡ results (scans some start k start bs xs))
  unfolding first_outside
  scan-gives k (x-loop {n = n} b l (joined-more (joined-flags {cs = bs₂} p) (joined-more (joined-ints {ys = xs₂} q) joined-none)) (joined-ints {xs = us} r)) =
      let (fit, within, out) = scan-gives (suc k) l in
      let (one, two, three) = scan-block b bs₂ xs₂ k n in (
        (λ i. misfit some each_f k (suc n) (p i) (q i)) ∙ one ∙ fit,
        (λ i. first_outside (scans some start k start (p i) (q i))) ∙ two ∙ within,
        r ∙ ap (λ l. us ++ l) out ∙ sym three ∙ (λ i. results (scans some start k start (sym p i) (sym q i))),
      )
  scan-gives k (x-term b p q) =
      let (e, f) = ended p in
      (no-misfit each_f k e f, ap first_outside (no-scans k start e f), ints-same q ∙ sym (ap results (no-scans k start e f)))

  scan-more : {sofar x : ℤ} {n : ℕ} {bs : List Bool} {xs zs : List ℤ}
      → in_range sofar ≡ true
      → Parted base.Int (scan_plus (sofar +ℤ x)) (scan_plus start) n bs xs zs
      → Parted base.Int (scan_plus sofar) (scan_plus start) n (false ∷ bs) (x ∷ xs) (sofar ∷ zs)
  scan-more {sofar} {x} inside (parted xs₁ xs₂ zs₁ zs₂ b l p q r) = parted _ xs₂ _ zs₂ (block-scan-F inside refl b) l (ap (λ l. false ∷ l) p) (ap (λ l. x ∷ l) q) (ap (λ l. sofar ∷ l) r)

  scan-parted : (bs : List Bool) (n k : ℕ) (sofar : ℤ) (xs : List ℤ)
      → misfit some each_f k (suc n) bs xs ≡ none
      → first_outside (scans some start k sofar bs xs) ≡ none
      → Parted base.Int (scan_plus sofar) (scan_plus start) n bs xs (results (scans some start k sofar bs xs))
  unfolding misfit scans
  scan-parted [] n k sofar xs q o = never (cc)
  scan-parted (true ∷ bs) n k sofar xs q o =
      parted [] xs [] _ block-scan-T
      (finish base.Int (x-term base.Int refl refl) each_f n (suc k) bs xs (results (scans some start (suc k) start bs xs)) q (λ e f. ap results (no-scans (suc k) start e f))
      (λ m e. scan-parted bs m (suc k) start xs (subst (λ n. misfit some each_f (suc k) n bs xs ≡ none) e q) o))
      refl refl refl
  scan-parted (false ∷ bs) n k sofar [] q o = never (cc)
  scan-parted (false ∷ bs) n k sofar (x ∷ xs) q o =
      let (inside, rest) = first-inside sofar k (scans some start k (sofar +ℤ x) bs xs) o in
      scan-more inside (scan-parted bs n k (sofar +ℤ x) xs q rest)

  pub scan-made : (n k : ℕ) (bs : List Bool) (xs : List ℤ)
      → misfit some each_f k n bs xs ≡ none
      → first_outside (scans some start k start bs xs) ≡ none
      → Loops (scan_plus start) n (flags bs ∷ ints xs ∷ []) (ints (results (scans some start k start bs xs)))
  scan-made n k bs xs q o =
      finish base.Int (x-term base.Int refl refl) each_f n k bs xs (results (scans some start k start bs xs)) q (λ e f. ap results (no-scans k start e f))
      (λ m e. scan-parted bs m k start xs (subst (λ n. misfit some each_f k n bs xs ≡ none) e q) o)

-- ---- SumPlus

sum-block : {sofar z : ℤ} {bs : List Bool} {xs : List ℤ}
    → Summed sofar bs xs z
    → (cs : List Bool) (ys : List ℤ) (k n : ℕ)
    → (misfit some each_f k (suc n) (bs ++ cs) (xs ++ ys) ≡ misfit some each_f (suc k) n cs ys)
    × (sums some k sofar (bs ++ cs) (xs ++ ys) ≡ (k, z) ∷ sums some (suc k) (pos 0) cs ys)
unfolding misfit sums
sum-block (summed-F {bs = bs} {xs = xs} e b) cs ys k n = let (p, q) = sum-block b cs ys k n in (p, ap (λ z. sums some k z (bs ++ cs) (xs ++ ys)) (sym e) ∙ q)
sum-block summed-T cs ys k n = (refl, refl)

no-sums : (k : ℕ) (sofar : ℤ) {bs : List Bool} {xs : List ℤ} → bs ≡ [] → xs ≡ [] → sums some k sofar bs xs ≡ []
unfolding sums
no-sums k sofar p q = λ i. sums some k sofar (p i) (q i)

pub sum-gives : {n : ℕ} (k : ℕ) {bs : List Bool} {xs zs : List ℤ}
    → Loops sum_plus n (flags bs ∷ ints xs ∷ []) (ints zs)
    → (misfit some each_f k n bs xs ≡ none) × (first_outside (sums some k (pos 0) bs xs) ≡ none) × (zs ≡ results (sums some k (pos 0) bs xs))
unfolding first_outside
sum-gives k (x-loop {n = n} (block-sum {n = z} b inside) l (joined-more (joined-flags {cs = bs₂} p) (joined-more (joined-ints {ys = xs₂} q) joined-none)) (joined-ints r)) =
    let (fit, within, out) = sum-gives (suc k) l in
    let (one, two) = sum-block b bs₂ xs₂ k n in
    let all = (λ i. sums some k (pos 0) (p i) (q i)) ∙ two in
    ((λ i. misfit some each_f k (suc n) (p i) (q i)) ∙ one ∙ fit, ap first_outside all ∙ inside-first z k (sums some (suc k) (pos 0) bs₂ xs₂) inside ∙ within, r ∙ ap (λ l. z ∷ l) out ∙ sym (ap results all))
sum-gives k (x-term b p q) =
    let (e, f) = ended p in
    (no-misfit each_f k e f, ap first_outside (no-sums k (pos 0) e f), ints-same q ∙ sym (ap results (no-sums k (pos 0) e f)))

-- a segment under way, then n units
data Summing (sofar : ℤ) (n : ℕ) (bs : List Bool) (xs zs : List ℤ) : Type 0 where
  summing : {z : ℤ} {bs₁ bs₂ : List Bool} {xs₁ xs₂ zs₂ : List ℤ}
      → Summed sofar bs₁ xs₁ z
      → in_range z ≡ true
      → Loops sum_plus n (flags bs₂ ∷ ints xs₂ ∷ []) (ints zs₂)
      → bs ≡ bs₁ ++ bs₂
      → xs ≡ xs₁ ++ xs₂
      → zs ≡ z ∷ zs₂
      → Summing sofar n bs xs zs

sum_more : {sofar x : ℤ} {n : ℕ} {bs : List Bool} {xs zs : List ℤ} → Summing (sofar +ℤ x) n bs xs zs → Summing sofar n (false ∷ bs) (x ∷ xs) zs
sum_more {x = x} (summing b inside l p q r) = summing (summed-F refl b) inside l (ap (λ l. false ∷ l) p) (ap (λ l. x ∷ l) q) r

sum-start : {n : ℕ} {bs : List Bool} {xs zs : List ℤ} → Summing (pos 0) n bs xs zs → Parted base.Int sum_plus sum_plus n bs xs zs
sum-start (summing b inside l p q r) = parted _ _ _ _ (block-sum b inside) l p q r

sum-parted : (bs : List Bool) (n k : ℕ) (sofar : ℤ) (xs : List ℤ)
    → misfit some each_f k (suc n) bs xs ≡ none
    → first_outside (sums some k sofar bs xs) ≡ none
    → Summing sofar n bs xs (results (sums some k sofar bs xs))
unfolding misfit sums
sum-parted [] n k sofar xs q o = never (cc)
sum-parted (true ∷ bs) n k sofar xs q o =
    let (inside, rest) = first-inside sofar k (sums some (suc k) (pos 0) bs xs) o in
    summing summed-T inside
    (finish base.Int (x-term base.Int refl refl) each_f n (suc k) bs xs (results (sums some (suc k) (pos 0) bs xs)) q (λ e f. ap results (no-sums (suc k) (pos 0) e f))
    (λ m e. sum-start (sum-parted bs m (suc k) (pos 0) xs (subst (λ n. misfit some each_f (suc k) n bs xs ≡ none) e q) rest)))
    refl refl refl
sum-parted (false ∷ bs) n k sofar [] q o = never (cc)
sum-parted (false ∷ bs) n k sofar (x ∷ xs) q o = sum_more (sum-parted bs n k (sofar +ℤ x) xs q o)

pub sum-made : (n k : ℕ) (bs : List Bool) (xs : List ℤ)
    → misfit some each_f k n bs xs ≡ none
    → first_outside (sums some k (pos 0) bs xs) ≡ none
    → Loops sum_plus n (flags bs ∷ ints xs ∷ []) (ints (results (sums some k (pos 0) bs xs)))
sum-made n k bs xs q o =
    finish base.Int (x-term base.Int refl refl) each_f n k bs xs (results (sums some k (pos 0) bs xs)) q (λ e f. ap results (no-sums k (pos 0) e f))
    (λ m e. sum-start (sum-parted bs m k (pos 0) xs (subst (λ n. misfit some each_f k n bs xs ≡ none) e q) o))

-- ---- Usum, which takes flags alone

usum-block : {bs : List Bool} {l : ℕ}
    → Block usum (flags bs ∷ []) (units l)
    → (cs : List Bool) (k n : ℕ)
    → (misfit some {B = ℤ} alone k (suc n) (bs ++ cs) [] ≡ misfit some {B = ℤ} alone (suc k) n cs []) × (count_f some (bs ++ cs) ≡ l + count_f some cs)
unfolding misfit count_f
usum-block (block-usum-F b) cs k n = let (p, q) = usum-block b cs k n in (p, omega (arith, q))
usum-block block-usum-T cs k n = (refl, omega arith)

units-same : {n m : ℕ} → units n ≡ units m → n ≡ m
units-same q = cc

pub usum-gives : {n : ℕ} (k : ℕ) {bs : List Bool} {m : ℕ}
    → Loops usum n (flags bs ∷ []) (units m)
    → (misfit some {B = ℤ} alone k n bs [] ≡ none) × (m ≡ count_f some bs)
unfolding count_f
usum-gives k {bs} {m} (x-loop {n = n} b l (joined-more (joined-flags {cs = bs₂} p) joined-none) (joined-units r)) =
    let (fit, out) = usum-gives (suc k) l in
    let (one, two) = usum-block b bs₂ k n in
    let all : count_f some bs ≡ m = ap (count_f some) p ∙ two ∙ omega (arith, out, r) in
    (ap (λ l. misfit some {B = ℤ} alone k (suc n) l []) p ∙ one ∙ fit, sym all)
usum-gives k (x-term b p q) = let e = flags-same (first-same p) in (no-misfit {A = ℤ} alone k e refl, units-same q ∙ sym (ap (count_f some) e))

-- a block and n units
data Counted (n : ℕ) (bs : List Bool) (m : ℕ) : Type 0 where
  counted : {l m₂ : ℕ} {bs₁ bs₂ : List Bool} → Block usum (flags bs₁ ∷ []) (units l) → Loops usum n (flags bs₂ ∷ []) (units m₂) → bs ≡ bs₁ ++ bs₂ → m ≡ l + m₂ → Counted n bs m

usum-whole : {n m : ℕ} {bs : List Bool} → Counted n bs m → Loops usum (suc n) (flags bs ∷ []) (units m)
usum-whole (counted b l p q) = x-loop b l (joined-more (joined-flags p) joined-none) (joined-units q)

usum-more : {n m : ℕ} {bs : List Bool} → Counted n bs m → Counted n (false ∷ bs) (suc m)
usum-more (counted b l p q) = counted (block-usum-F b) l (ap (λ l. false ∷ l) p) (omega (arith, q))

usum-finish : (n k : ℕ) (bs : List Bool)
    → misfit some {B = ℤ} alone k n bs [] ≡ none
    → ((m : ℕ) → n ≡ suc m → Counted m bs (count_f some bs))
    → Loops usum n (flags bs ∷ []) (units (count_f some bs))
unfolding misfit count_f
usum-finish zero k [] q more = x-term base.Int refl refl
usum-finish zero k (b ∷ bs) q more = never (cc)
usum-finish (suc m) k bs q more = usum-whole (more m refl)

usum-parted : (bs : List Bool) (n k : ℕ) → misfit some {B = ℤ} alone k (suc n) bs [] ≡ none → Counted n bs (count_f some bs)
unfolding misfit count_f
usum-parted [] n k q = never (cc)
usum-parted (true ∷ bs) n k q =
    counted block-usum-T
    (usum-finish n (suc k) bs q (λ m e. usum-parted bs m (suc k) (subst (λ n. misfit some {B = ℤ} alone (suc k) n bs [] ≡ none) e q)))
    refl (omega arith)
usum-parted (false ∷ bs) n k q = usum-more (usum-parted bs n k q)

pub usum-made : (n k : ℕ) (bs : List Bool) → misfit some {B = ℤ} alone k n bs [] ≡ none → Loops usum n (flags bs ∷ []) (units (count_f some bs))
usum-made n k bs q = usum-finish n k bs q (λ m e. usum-parted bs m k (subst (λ n. misfit some {B = ℤ} alone k n bs [] ≡ none) e q))

-- ---- UPack, which takes a bool for each segment of flags

-- a block and n units
data Upacked (n : ℕ) (cs bs ds : List Bool) : Type 0 where
  upacked : {m : ℕ} {c : Bool} {cs₂ bs₁ bs₂ ds₁ ds₂ : List Bool}
      → Unary m bs₁
      → Keeps c bs₁ ds₁
      → Loops upack n (bools cs₂ ∷ flags bs₂ ∷ []) (flags ds₂)
      → cs ≡ c ∷ cs₂
      → bs ≡ bs₁ ++ bs₂
      → ds ≡ ds₁ ++ ds₂
      → Upacked n cs bs ds

upack-whole : {n : ℕ} {cs bs ds : List Bool} → Upacked n cs bs ds → Loops upack (suc n) (bools cs ∷ flags bs ∷ []) (flags ds)
upack-whole (upacked u k l p q r) = x-loop (block-upack u k) l (joined-more (joined-bools p) (joined-more (joined-flags q) joined-none)) (joined-flags r)

upack-finish : (n k : ℕ) (cs bs : List Bool)
    → misfit some each_t k n bs cs ≡ none
    → ((m : ℕ) → n ≡ suc m → Upacked m cs bs (kept_segments some cs bs))
    → Loops upack n (bools cs ∷ flags bs ∷ []) (flags (kept_segments some cs bs))
unfolding misfit kept_segments
upack-finish zero k [] [] q more = x-term base.Int refl refl
upack-finish zero k (c ∷ cs) [] q more = never (cc)
upack-finish zero k cs (b ∷ bs) q more = never (cc)
upack-finish (suc m) k cs bs q more = upack-whole (more m refl)

-- one F more in the first segment
upack-more : {n : ℕ} {cs bs : List Bool} → Upacked n cs bs (kept_segments some cs bs) → Upacked n cs (false ∷ bs) (kept_segments some cs (false ∷ bs))
unfolding kept_segments
upack-more {n} {cs} {bs} (upacked {c = true} {cs₂ = cs₂} u keeps-T l p q r) =
    upacked (unary-more u) keeps-T l p (ap (λ l. false ∷ l) q) (ap (λ cs. kept_segments some cs (false ∷ bs)) p ∙ ap (λ l. false ∷ l) (ap (λ cs. kept_segments some cs bs) (sym p) ∙ r))
upack-more {n} {cs} {bs} (upacked {c = false} {cs₂ = cs₂} u keeps-F l p q r) =
    upacked (unary-more u) keeps-F l p (ap (λ l. false ∷ l) q) (ap (λ cs. kept_segments some cs (false ∷ bs)) p ∙ ap (λ cs. kept_segments some cs bs) (sym p) ∙ r)

upack-parted : (bs : List Bool) (n k : ℕ) (cs : List Bool) → misfit some each_t k (suc n) bs cs ≡ none → Upacked n cs bs (kept_segments some cs bs)
unfolding misfit kept_segments
upack-parted [] n k cs q = never (cc)
upack-parted (true ∷ bs) n k [] q = never (cc)
upack-parted (true ∷ bs) n k (c ∷ cs) q =
    upacked unary-none (keeps c (true ∷ []))
    (upack-finish n (suc k) cs bs q (λ m e. upack-parted bs m (suc k) cs (subst (λ n. misfit some each_t (suc k) n bs cs ≡ none) e q)))
    refl refl (sym (keeps-one (keeps c (true ∷ [])) (kept_segments some cs bs)))
upack-parted (false ∷ bs) n k cs q = upack-more (upack-parted bs n k cs q)

pub upack-made : (n k : ℕ) (cs bs : List Bool) → misfit some each_t k n bs cs ≡ none → Loops upack n (bools cs ∷ flags bs ∷ []) (flags (kept_segments some cs bs))
upack-made n k cs bs q = upack-finish n k cs bs q (λ m e. upack-parted bs m k cs (subst (λ n. misfit some each_t k n bs cs ≡ none) e q))

upack-block : {m : ℕ} {bs : List Bool}
    → Unary m bs
    → (c : Bool) (cs ds : List Bool) (k n : ℕ)
    → (misfit some each_t k (suc n) (bs ++ ds) (c ∷ cs) ≡ misfit some each_t (suc k) n ds cs)
    × (kept_segments some (c ∷ cs) (bs ++ ds) ≡ elim c [ true ↦ bs | false ↦ [] ] ++ kept_segments some cs ds)
unfolding misfit kept_segments
upack-block unary-none true cs ds k n = (refl, refl)
upack-block unary-none false cs ds k n = (refl, refl)
upack-block (unary-more u) true cs ds k n = let (p, q) = upack-block u true cs ds k n in (p, ap (λ l. false ∷ l) q)
upack-block (unary-more u) false cs ds k n = upack-block u false cs ds k n

keeps-once : {c : Bool} {l m : List Bool} → Keeps c l m → m ≡ elim c [ true ↦ l | false ↦ [] ]
keeps-once keeps-T = refl
keeps-once keeps-F = refl

pub upack-gives : {n : ℕ} (k : ℕ) {cs bs ds : List Bool}
    → Loops upack n (bools cs ∷ flags bs ∷ []) (flags ds)
    → (misfit some each_t k n bs cs ≡ none) × (ds ≡ kept_segments some cs bs)
unfolding kept_segments
upack-gives k (x-loop {n = n} (block-upack {c = c} u h) l (joined-more (joined-bools {cs = cs₂} p) (joined-more (joined-flags {cs = bs₂} q) joined-none)) (joined-flags r)) =
    let (fit, out) = upack-gives (suc k) l in
    let (one, two) = upack-block u c cs₂ bs₂ k n in
    let e = keeps-once h in
    ((λ i. misfit some each_t k (suc n) (q i) (p i)) ∙ one ∙ fit, r ∙ (λ i. e i ++ out i) ∙ sym two ∙ (λ i. kept_segments some (sym p i) (sym q i)))
upack-gives k {cs} {bs} {ds} (x-term b p q) =
    let e = bools-same (first-same p) in
    let f = flags-same (first-same (tail-same p)) in
    (no-misfit each_t k f e, flags-same q ∙ (λ i. kept_segments some (sym e i) (sym f i)))
