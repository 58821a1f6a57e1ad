-- A flag stream that fits, a segment at a time, over any way to read a flag: where its first segment ends, and what each transducer does with that segment.
use Prim.Native.Nat.{ℕ, zero, suc, ◌+◌, ◌-◌, ◌≤◌, ◌<◌}
use mathlib.Core.Bool.{Bool, true, false}
use mathlib.Core.List.{List, [], ◌∷◌, ◌++◌, map}
use mathlib.Core.Option.{Option, some, none}
use mathlib.Core.Path.{◌≡◌, refl, sym, ◌∙◌, ap}
use native.Mathlib.Omega.{arith}
use lib.IntN.{ℤ, pos, ◌+ℤ◌}
use lib.ListN.{length, take, drop, replicate, length-drop}
use Rattle.laws.proofs.Never.{never}
use Rattle.snesl.specs.Transducers.{Feed, alone, each_f, each_t, takes, fed, misfit, count_f, spread, scans, sums, kept_segments}
use Rattle.flags.specs.Segments.{leading, wholes, total_from, running}
use Rattle.flags.proofs.Clauses as clause

-- what a segment of e F's takes of the stream beside it
abbrev pub taken : Feed → ℕ → ℕ
taken alone e = 0
taken each_f e = e
taken each_t e = 1

same_some : {a b : ℕ} → ◌≡◌ {A = Option ℕ} (some a) (some b) → a ≡ b
same_some e = cc

module _ {A : Type 0} (flag : A → Option Bool) where
  -- e F's and a T stand in front
  pub data Front : List A → ℕ → Type 0 where
    at-end : {b : A} {bs : List A} → flag b ≡ some true → Front (b ∷ bs) 0
    before-end : {b : A} {bs : List A} {e : ℕ} → flag b ≡ some false → Front bs e → Front (b ∷ bs) (suc e)

  pub front-leading : {bs : List A} {e : ℕ} → Front bs e → leading flag bs ≡ e
  front-leading (at-end p) = clause.leading-true flag _ _ p
  front-leading (before-end p f) = clause.leading-false flag _ _ p ∙ ap suc (front-leading f)

  pub front-within : {bs : List A} {e : ℕ} → Front bs e → e < length bs
  front-within (at-end p) = omega arith
  front-within (before-end p f) = omega (arith, front-within f)

  -- ---- what each transducer does with it

  pub front-spread : {B : Type 0} {bs : List A} {e : ℕ} → Front bs e → (x : B) (xs : List B) →
      spread flag bs (x ∷ xs) ≡ replicate e x ++ spread flag (drop (suc e) bs) xs
  front-spread (at-end p) x xs = clause.spread-true flag _ _ x xs p
  front-spread (before-end p f) x xs = clause.spread-false flag _ _ x xs p ∙ ap (λ l. x ∷ l) (front-spread f x xs)

  pub front-sums : {bs : List A} {e : ℕ} → Front bs e → (k : ℕ) (t : ℤ) (xs : List ℤ) → e ≤ length xs →
      sums flag k t bs xs ≡ (k, total_from t (take e xs)) ∷ sums flag (suc k) (pos 0) (drop (suc e) bs) (drop e xs)
  unfolding total_from
  front-sums (at-end p) k t xs h = clause.sums-true flag _ _ k t xs p
  front-sums (before-end p f) k t [] h = absurd (omega arith)
  front-sums (before-end p f) k t (x ∷ xs) h = clause.sums-false flag _ _ k t x xs p ∙ front-sums f k (t +ℤ x) xs (omega arith)

  pub front-scans : {bs : List A} {e : ℕ} → Front bs e → (start : ℤ) (k : ℕ) (t : ℤ) (xs : List ℤ) → e ≤ length xs →
      scans flag start k t bs xs ≡ map (λ z. (k, z)) (running t (take e xs)) ++ scans flag start (suc k) start (drop (suc e) bs) (drop e xs)
  unfolding running
  front-scans (at-end p) start k t xs h = clause.scans-true flag _ _ start k t xs p
  front-scans (before-end p f) start k t [] h = absurd (omega arith)
  front-scans (before-end p f) start k t (x ∷ xs) h =
      clause.scans-false flag _ _ start k t x xs p ∙ ap (λ l. (k, t) ∷ l) (front-scans f start k (t +ℤ x) xs (omega arith))

  pub front_kept : {bs : List A} {e : ℕ} → Front bs e → (cs : List Bool) →
      kept_segments flag (true ∷ cs) bs ≡ (replicate e false ++ true ∷ []) ++ kept_segments flag cs (drop (suc e) bs)
  front_kept (at-end p) cs = clause.kept-true flag _ _ true cs p
  front_kept (before-end p f) cs = clause.kept-false flag _ _ true cs p ∙ ap (λ l. false ∷ l) (front_kept f cs)

  pub front-left-out : {bs : List A} {e : ℕ} → Front bs e → (cs : List Bool) → kept_segments flag (false ∷ cs) bs ≡ kept_segments flag cs (drop (suc e) bs)
  front-left-out (at-end p) cs = clause.kept-true flag _ _ false cs p
  front-left-out (before-end p f) cs = clause.kept-false flag _ _ false cs p ∙ front-left-out f cs

  -- ---- the first segment of streams that fit

  pub record Ends {B : Type 0} (feed : Feed) (k m : ℕ) (bs : List A) (xs : List B) : Type 0 where
    pub count : ℕ
    pub front : Front bs count
    pub items : taken feed count ≤ length xs
    pub rest : misfit flag feed (suc k) m (drop (suc count) bs) (drop (taken feed count) xs) ≡ none

  -- a flag that does not end it
  ends-false : {B : Type 0} (feed : Feed) (k m : ℕ) (b : A) (bs : List A) (xs ys : List B) → flag b ≡ some false → fed (takes feed false) xs ≡ some ys →
      Ends feed k m bs ys → Ends feed k m (b ∷ bs) xs
  ends-false alone k m b bs xs ys p q h =
      let same : xs ≡ ys = cc in
      rw same (record { count = suc h.count; front = before-end p h.front; items = h.items; rest = h.rest })
  ends-false each_f k m b bs [] ys p q h = never (cc)
  ends-false each_f k m b bs (x ∷ xs) ys p q h =
      let same : xs ≡ ys = cc in
      rw same (record { count = suc h.count; front = before-end p h.front; items = omega (arith, h.items); rest = h.rest })
  ends-false each_t k m b bs xs ys p q h =
      let same : xs ≡ ys = cc in
      rw same (record { count = suc h.count; front = before-end p h.front; items = h.items; rest = h.rest })

  -- the T
  ends-true : {B : Type 0} (feed : Feed) (k m : ℕ) (b : A) (bs : List A) (xs : List B) → flag b ≡ some true → misfit flag feed k (suc m) (b ∷ bs) xs ≡ none →
      Ends feed k m (b ∷ bs) xs
  ends-true alone k m b bs xs p h =
      record { count = 0; front = at-end p; items = omega arith; rest = sym (clause.misfit-true flag alone k m b bs xs p refl) ∙ h }
  ends-true each_f k m b bs xs p h =
      record { count = 0; front = at-end p; items = omega arith; rest = sym (clause.misfit-true flag each_f k m b bs xs p refl) ∙ h }
  ends-true each_t k m b bs [] p h = let e = sym (clause.misfit-lacks flag each_t k (suc m) b bs [] true p refl) ∙ h in never (cc)
  ends-true each_t k m b bs (x ∷ xs) p h =
      record { count = 0; front = at-end p; items = omega arith; rest = sym (clause.misfit-true flag each_t k m b bs (x ∷ xs) p refl) ∙ h }

  pub ends : {B : Type 0} (feed : Feed) (k m : ℕ) (bs : List A) (xs : List B) → misfit flag feed k (suc m) bs xs ≡ none → Ends feed k m bs xs
  ends feed k m [] xs h = let e = sym (clause.misfit-due flag feed k m xs) ∙ h in never (cc)
  ends {B} feed k m (b ∷ bs) xs h = go (flag b) refl (λ ys. ends feed k m bs ys)
    where
      onwards : ((ys : List B) → misfit flag feed k (suc m) bs ys ≡ none → Ends feed k m bs ys) → flag b ≡ some false → (o : Option (List B)) →
          fed (takes feed false) xs ≡ o → Ends feed k m (b ∷ bs) xs
      onwards ih p none q = let e = sym (clause.misfit-lacks flag feed k (suc m) b bs xs false p q) ∙ h in never (cc)
      onwards ih p (some ys) q = ends-false feed k m b bs xs ys p q (ih ys (sym (clause.misfit-false flag feed k m b bs xs p q) ∙ h))

      go : (c : Option Bool) → flag b ≡ c → ((ys : List B) → misfit flag feed k (suc m) bs ys ≡ none → Ends feed k m bs ys) → Ends feed k m (b ∷ bs) xs
      go none p ih = let e = sym (clause.misfit-no-flag flag feed k (suc m) b bs xs p) ∙ h in never (cc)
      go (some false) p ih = onwards ih p (fed (takes feed false) xs) refl
      go (some true) p ih = ends-true feed k m b bs xs p h

  -- no segment is left
  pub used-up : {B : Type 0} (feed : Feed) (k : ℕ) (bs : List A) (xs : List B) → misfit flag feed k 0 bs xs ≡ none → (bs ≡ []) × (xs ≡ [])
  used-up feed k [] [] h = (refl, refl)
  used-up feed k [] (x ∷ xs) h = let e = sym (clause.misfit-left flag feed k 0 x xs) ∙ h in never (cc)
  used-up feed k (b ∷ bs) xs h = let e = sym (clause.misfit-over flag feed k 0 b bs xs) ∙ h in never (cc)

  -- ---- how many F's there are

  front-counts : {bs : List A} {e : ℕ} → Front bs e → count_f flag bs ≡ e + count_f flag (drop (suc e) bs)
  front-counts (at-end p) = clause.count_f-true flag _ _ p ∙ omega arith
  front-counts (before-end p f) = clause.count_f-false flag _ _ p ∙ ap suc (front-counts f) ∙ omega arith

  front-wholes : {bs : List A} {e : ℕ} → Front bs e → (k : ℕ) (w : Bool) → wholes flag k w bs ≡ wholes flag (suc k) false (drop (suc e) bs)
  front-wholes (at-end p) k w = clause.wholes-true flag _ _ k w p
  front-wholes (before-end p f) k w = clause.wholes-false flag _ _ k w p ∙ front-wholes f k true

  pub fits_count : {B : Type 0} (feed : Feed) (m k : ℕ) (bs : List A) (xs : List B) → misfit flag feed k m bs xs ≡ none → count_f flag bs + m ≡ length bs
  fits_count feed zero k bs xs h =
      let e : bs ≡ [] = (used-up feed k bs xs h).0 in
      rw e (ap (λ c. c + 0) (clause.count_f-end flag))
  fits_count feed (suc m) k bs xs h =
      let s = ends feed k m bs xs h in
      let counts : count_f flag bs ≡ s.count + count_f flag (drop (suc s.count) bs) = front-counts s.front in
      let within : s.count < length bs = front-within s.front in
      let ih : count_f flag (drop (suc s.count) bs) + m ≡ length (drop (suc s.count) bs) =
      fits_count feed m (suc k) (drop (suc s.count) bs) (drop (taken feed s.count) xs) s.rest in
      let l : length (drop (suc s.count) bs) ≡ length bs - suc s.count = length-drop (suc s.count) bs in
      omega arith

  -- ---- flags that are whole segments

  whole-more : (k : ℕ) (w : Bool) (bs : List A) (n : ℕ) → wholes flag k w bs ≡ some n → (k ≤ n) × (w ≡ true → k < n)
  whole-more k false [] n h = let e : k ≡ n = same_some (sym (clause.wholes-end flag k) ∙ h) in (omega arith, λ p. never (cc))
  whole-more k true [] n h = let e = sym (clause.wholes-within flag k) ∙ h in never (cc)
  whole-more k w (b ∷ bs) n h = go (flag b) refl (whole-more k true bs n) (whole-more (suc k) false bs n)
    where
      go : (c : Option Bool) → flag b ≡ c → (wholes flag k true bs ≡ some n → (k ≤ n) × (true ≡ true → k < n)) →
          (wholes flag (suc k) false bs ≡ some n → (suc k ≤ n) × (false ≡ true → suc k < n)) → (k ≤ n) × (w ≡ true → k < n)
      go none p f g = let e = sym (clause.wholes-none flag b bs k w p) ∙ h in never (cc)
      go (some false) p f g =
          let s = f (sym (clause.wholes-false flag b bs k w p) ∙ h) in
          (s.0, λ q. s.1 refl)
      go (some true) p f g =
          let s : suc k ≤ n = (g (sym (clause.wholes-true flag b bs k w p) ∙ h)).0 in
          (omega arith, λ q. omega arith)

  -- so many items as the flags take of the stream beside them
  abbrev pub wanted : Feed → (segments : ℕ) → List A → ℕ
  wanted alone n bs = 0
  wanted each_f n bs = count_f flag bs
  wanted each_t n bs = n

  -- what is left beside them, behind a flag
  after-false : {B : Type 0} (feed : Feed) (m : ℕ) (b : A) (bs : List A) (xs : List B) → flag b ≡ some false → length xs ≡ wanted feed m (b ∷ bs) →
      (ys : List B) × (fed (takes feed false) xs ≡ some ys) × (length ys ≡ wanted feed m bs)
  after-false alone m b bs xs p l = (xs, refl, l)
  after-false each_f m b bs [] p l = let e : 0 ≡ suc (count_f flag bs) = l ∙ clause.count_f-false flag b bs p in absurd (omega arith)
  after-false each_f m b bs (x ∷ xs) p l = let e : suc (length xs) ≡ suc (count_f flag bs) = l ∙ clause.count_f-false flag b bs p in (xs, refl, omega arith)
  after-false each_t m b bs xs p l = (xs, refl, l)

  after-true : {B : Type 0} (feed : Feed) (m : ℕ) (b : A) (bs : List A) (xs : List B) → flag b ≡ some true → length xs ≡ wanted feed (suc m) (b ∷ bs) →
      (ys : List B) × (fed (takes feed true) xs ≡ some ys) × (length ys ≡ wanted feed m bs)
  after-true alone m b bs xs p l = (xs, refl, l)
  after-true each_f m b bs xs p l = (xs, refl, l ∙ clause.count_f-true flag b bs p)
  after-true each_t m b bs [] p l = absurd (omega arith)
  after-true each_t m b bs (x ∷ xs) p l = (xs, refl, omega arith)

  nothing-wanted : {B : Type 0} (feed : Feed) (xs : List B) → length xs ≡ wanted feed 0 [] → xs ≡ []
  nothing-wanted feed [] l = refl
  nothing-wanted alone (x ∷ xs) l = absurd (omega arith)
  nothing-wanted each_f (x ∷ xs) l = let e : suc (length xs) ≡ 0 = l ∙ clause.count_f-end flag in absurd (omega arith)
  nothing-wanted each_t (x ∷ xs) l = absurd (omega arith)

  -- with so many items beside them, they fit
  pub whole-fits : {B : Type 0} (feed : Feed) (k : ℕ) (w : Bool) (bs : List A) (n : ℕ) (xs : List B) → wholes flag k w bs ≡ some n →
      length xs ≡ wanted feed (n - k) bs → misfit flag feed k (n - k) bs xs ≡ none
  whole-fits feed k true [] n xs h l = let e = sym (clause.wholes-within flag k) ∙ h in never (cc)
  whole-fits {B} feed k false [] n xs h l =
      let e : k ≡ n = same_some (sym (clause.wholes-end flag k) ∙ h) in
      let z : n - k ≡ 0 = omega arith in
      let nothing : xs ≡ [] = nothing-wanted feed xs (l ∙ ap (λ m. wanted feed m []) z) in
      (λ i. misfit flag feed k (z i) [] (nothing i)) ∙ clause.misfit-none flag B feed k
  whole-fits {B} feed k w (b ∷ bs) n xs h l = go (flag b) refl (λ ys. whole-fits feed k true bs n ys) (λ ys. whole-fits feed (suc k) false bs n ys)
    where
      go : (c : Option Bool) → flag b ≡ c →
          ((ys : List B) → wholes flag k true bs ≡ some n → length ys ≡ wanted feed (n - k) bs → misfit flag feed k (n - k) bs ys ≡ none) →
          ((ys : List B) → wholes flag (suc k) false bs ≡ some n → length ys ≡ wanted feed (n - suc k) bs → misfit flag feed (suc k) (n - suc k) bs ys ≡ none) →
          misfit flag feed k (n - k) (b ∷ bs) xs ≡ none
      go none p f g = let e = sym (clause.wholes-none flag b bs k w p) ∙ h in never (cc)
      go (some false) p f g =
          let q : wholes flag k true bs ≡ some n = sym (clause.wholes-false flag b bs k w p) ∙ h in
          let more : k < n = (whole-more k true bs n q).1 refl in
          let e : n - k ≡ suc (n - suc k) = omega arith in
          let s = after-false feed (n - k) b bs xs p l in
          ap (λ m. misfit flag feed k m (b ∷ bs) xs) e
          ∙ clause.misfit-false flag feed k (n - suc k) b bs xs p s.1
          ∙ ap (λ m. misfit flag feed k m bs s.0) (sym e)
          ∙ f s.0 q s.2
      go (some true) p f g =
          let q : wholes flag (suc k) false bs ≡ some n = sym (clause.wholes-true flag b bs k w p) ∙ h in
          let more : suc k ≤ n = (whole-more (suc k) false bs n q).0 in
          let e : n - k ≡ suc (n - suc k) = omega arith in
          let s = after-true feed (n - suc k) b bs xs p (l ∙ ap (λ m. wanted feed m (b ∷ bs)) e) in
          ap (λ m. misfit flag feed k m (b ∷ bs) xs) e ∙ clause.misfit-true flag feed k (n - suc k) b bs xs p s.1 ∙ g s.0 q s.2

  -- and flags that fit are whole segments
  pub fits_whole : (m k : ℕ) (bs : List A) → misfit flag {B = ℤ} alone k m bs [] ≡ none → wholes flag k false bs ≡ some (k + m)
  fits_whole zero k bs h =
      let e : bs ≡ [] = (used-up alone k bs [] h).0 in
      let z : k ≡ k + 0 = omega arith in
      ap (wholes flag k false) e ∙ clause.wholes-end flag k ∙ ap some z
  fits_whole (suc m) k bs h =
      let s = ends alone k m bs [] h in
      let z : suc k + m ≡ k + suc m = omega arith in
      front-wholes s.front k false ∙ fits_whole m (suc k) (drop (suc s.count) bs) s.rest ∙ ap some z
