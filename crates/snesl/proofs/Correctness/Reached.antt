-- Steps: which definitions at least one of several evaluations reaches, put together as the code is.
use Prim.Native.Nat.{ℕ, zero, suc, ◌+◌}
use native.Mathlib.Omega.{arith}
use native.Mathlib.Nat.{zero-add}
use mathlib.Core.Path.{◌≡◌, refl, ap, ap₂, ◌∙◌, sym, subst}
use mathlib.Core.Bool.{Bool, true, false, ◌||◌}
use mathlib.Core.List.{List, [], ◌∷◌, ◌++◌, map, map-map, append-nil, zip_with}
use mathlib.Core.Option.{Option, some, none}
use lib.Dec.{ltb}
use lib.ListN.{length, replicate, length-append, length-replicate, replicate-append-replicate}
use borrow.Author.Tests.{lt-ltb}
use Rattle.snesl.specs.declared.code.Base.{Base}
use Rattle.snesl.specs.declared.code.Operation.{Operation}
use Rattle.snesl.specs.Values.{ValueType, scalar, braces, int, bool, depth_of, Element, Val}
use Rattle.snesl.specs.Terms.{◌∋◌, Term, var, bind, const, iota, operation, negation, sum, each, guard, Listing, Scalars, any_type, listed_types, All, ◌▹◌, lookup, listed}
use Rattle.snesl.specs.Evaluation.{one_if, eval}
use Rattle.snesl.specs.Translation.{pack_size, packs_size, size}
use Rattle.snesl.specs.Charges.{times, either, any_of, pack_reached, packs_reached, reached, count_true, steps_of}
use Rattle.snesl.specs.Representation.{concat}
use Rattle.snesl.proofs.Correctness.AllOf.{Each, each_nil, each-cons}
use Rattle.snesl.proofs.Correctness.Exact.{counts_of, length-counting}
use Rattle.snesl.proofs.Correctness.Environments.{bound, inside, inside_all, passed, passed_all}

-- Marks at places, joined place by place.
length-either : (bs cs : List Bool) → length bs ≡ length cs → length (either bs cs) ≡ length cs
unfolding either
length-either [] cs h = refl
length-either (b ∷ bs) [] h = h
length-either (b ∷ bs) (c ∷ cs) h = ap suc (length-either bs cs (omega arith))

either-nowhere : (bs : List Bool) (n : ℕ) → length bs ≡ n → either bs (replicate n false) ≡ bs
unfolding either
either-nowhere [] zero h = refl
either-nowhere [] (suc n) h = absurd (omega arith)
either-nowhere (b ∷ bs) zero h = refl
either-nowhere (true ∷ bs) (suc n) h = ap (λ l. true ∷ l) (either-nowhere bs n (omega arith))
either-nowhere (false ∷ bs) (suc n) h = ap (λ l. false ∷ l) (either-nowhere bs n (omega arith))

nowhere-either : (bs : List Bool) → either (replicate (length bs) false) bs ≡ bs
unfolding either
nowhere-either [] = refl
nowhere-either (b ∷ bs) = ap (λ l. b ∷ l) (nowhere-either bs)

or_assoc : (a b c : Bool) → ((a || b) || c) ≡ (a || (b || c))
or_assoc true b c = refl
or_assoc false b c = refl

either-assoc : (l bs cs : List Bool) → either (either l bs) cs ≡ either l (either bs cs)
unfolding either
either-assoc [] bs cs = refl
either-assoc (a ∷ l) [] cs = refl
either-assoc (a ∷ l) (b ∷ bs) [] = refl
either-assoc (a ∷ l) (b ∷ bs) (c ∷ cs) = ap₂ (λ x t. x ∷ t) (or_assoc a b c) (either-assoc l bs cs)

either-append : (bs cs bs' cs' : List Bool) → length bs ≡ length cs → either (bs ++ bs') (cs ++ cs') ≡ either bs cs ++ either bs' cs'
unfolding either
either-append [] [] bs' cs' h = refl
either-append [] (c ∷ cs) bs' cs' h = absurd (omega arith)
either-append (b ∷ bs) [] bs' cs' h = absurd (omega arith)
either-append (b ∷ bs) (c ∷ cs) bs' cs' h = ap (λ l. (b || c) ∷ l) (either-append bs cs bs' cs' (omega arith))

either-everywhere : (n : ℕ) (bs cs : List Bool) → either (replicate n true ++ bs) (replicate n true ++ cs) ≡ replicate n true ++ either bs cs
unfolding either
either-everywhere zero bs cs = refl
either-everywhere (suc n) bs cs = ap (λ l. true ∷ l) (either-everywhere n bs cs)

pub count_true-append : (bs cs : List Bool) → count_true (bs ++ cs) ≡ count_true bs + count_true cs
unfolding count_true
count_true-append [] cs = omega arith
count_true-append (true ∷ bs) cs = omega (arith, count_true-append bs cs)
count_true-append (false ∷ bs) cs = count_true-append bs cs

pub count_true-everywhere : (n : ℕ) → count_true (replicate n true) ≡ n
unfolding count_true
count_true-everywhere zero = refl
count_true-everywhere (suc n) = omega (arith, count_true-everywhere n)

pub count_true-nowhere : (n : ℕ) → count_true (replicate n false) ≡ 0
unfolding count_true
count_true-nowhere zero = refl
count_true-nowhere (suc n) = count_true-nowhere n

-- marks at n places each
module _ {R : Type 0} (n : ℕ) (f : R → List Bool) (sized : (r : R) → length (f r) ≡ n) where
  length-any_of : (rs : List R) → length (any_of n (map f rs)) ≡ n
  unfolding any_of
  length-any_of [] = length-replicate n false
  length-any_of (r ∷ rs) = length-either (f r) (any_of n (map f rs)) (sized r ∙ sym (length-any_of rs)) ∙ length-any_of rs

  any_of-append : (l r : List R) → any_of n (map f (l ++ r)) ≡ either (any_of n (map f l)) (any_of n (map f r))
  unfolding any_of
  any_of-append [] r =
      sym (subst (λ k. either (replicate k false) (any_of n (map f r)) ≡ any_of n (map f r)) (length-any_of r) (nowhere-either (any_of n (map f r))))
  any_of-append (x ∷ l) r = ap (either (f x)) (any_of-append l r) ∙ sym (either-assoc (f x) (any_of n (map f l)) (any_of n (map f r)))

-- two lists of marks, one after the other
module _ {R : Type 0} (n k : ℕ) (f g : R → List Bool) (sized : (r : R) → length (f r) ≡ n) where
  any_of-both : (rs : List R) → any_of (n + k) (map (λ r. f r ++ g r) rs) ≡ any_of n (map f rs) ++ any_of k (map g rs)
  unfolding any_of
  any_of-both [] = sym (replicate-append-replicate n k false)
  any_of-both (r ∷ rs) =
      ap (either (f r ++ g r)) (any_of-both rs)
      ∙ either-append (f r) (any_of n (map f rs)) (g r) (any_of k (map g rs)) (sized r ∙ sym (length-any_of n f sized rs))

-- marks of lists, list by list and flat
module _ {R A : Type 0} (n : ℕ) (f : A → List Bool) (sized : (a : A) → length (f a) ≡ n) (l : R → List A) where
  any_of-flat : (rs : List R) → any_of n (map (λ r. any_of n (map f (l r))) rs) ≡ any_of n (map f (concat (map l rs)))
  unfolding any_of concat
  any_of-flat [] = refl
  any_of-flat (r ∷ rs) = ap (either (any_of n (map f (l r)))) (any_of-flat rs) ∙ sym (any_of-append n f sized (l r) (concat (map l rs)))

-- the marks of packing
length-pack_reached : (τ : ValueType) (v : Val τ) → length (pack_reached τ v) ≡ pack_size (depth_of τ)
unfolding pack_reached pack_size
length-pack_reached (scalar b) v = refl
length-pack_reached (braces τ) vs = omega (arith, length-any_of (pack_size (depth_of τ)) (λ v. pack_reached τ v) (λ v. length-pack_reached τ v) vs)

length-packs_reached : {Γ : List ValueType} (us : Listing Γ) (ρ : All Val Γ) → length (packs_reached us ρ) ≡ packs_size us
unfolding packs_reached packs_size
length-packs_reached [] ρ = refl
length-packs_reached (u ∷ us) ρ =
    length-append (pack_reached u.0 (lookup u.1 ρ)) (packs_reached us ρ)
    ∙ ap₂ ◌+◌ (length-pack_reached u.0 (lookup u.1 ρ)) (length-packs_reached us ρ)

pub length-reached : {Γ : List ValueType} {τ : ValueType} (e : Term Γ τ) (ρ : All Val Γ) → length (reached e ρ) ≡ size e
unfolding reached size
length-reached (var x) ρ = refl
length-reached (bind {υ = υ} e₁ e₂) ρ =
    length-append (reached e₁ ρ) (elim (eval e₁ ρ) [ none ↦ replicate (size e₂) false | some v ↦ reached e₂ (v ▹ ρ) ])
    ∙ ap₂ (λ a b. a + b) (length-reached e₁ ρ) (rest (eval e₁ ρ) (λ v. length-reached e₂ (v ▹ ρ)))
  where
    rest : (o : Option (Val υ)) → ((v : Val υ) → length (reached e₂ (v ▹ ρ)) ≡ size e₂)
        → length {A = Bool} (elim o [ none ↦ replicate (size e₂) false | some v ↦ reached e₂ (v ▹ ρ) ]) ≡ size e₂
    rest none h = length-replicate (size e₂) false
    rest (some v) h = h v
length-reached (const b e) ρ = refl
length-reached (iota x) ρ = refl
length-reached (operation o x y) ρ = refl
length-reached (negation x) ρ = refl
length-reached (sum x) ρ = refl
length-reached (each y us e) ρ =
    let marks = any_of (size e) (map (λ v. reached e (v ▹ listed (any_type us) ρ)) (lookup y ρ)) in
    omega (
      arith,
      length-append (replicate (length us) true) marks,
      length-replicate (length us) true,
      length-any_of (size e) (λ v. reached e (v ▹ listed (any_type us) ρ)) (λ v. length-reached e (v ▹ listed (any_type us) ρ)) (lookup y ρ),
    )
length-reached (guard g us e) ρ =
    let marks = any_of (size e) (map (λ ρ'. reached e ρ') (one_if (lookup g ρ) (listed us ρ))) in
    omega (
      arith,
      length-append (packs_reached us ρ) marks,
      length-packs_reached us ρ,
      length-any_of (size e) (λ ρ'. reached e ρ') (λ ρ'. length-reached e ρ') (one_if (lookup g ρ) (listed us ρ)),
    )

-- a term's marks in several environments
abbrev pub marks : {Γ : List ValueType} {τ : ValueType} → Term Γ τ → List (All Val Γ) → List Bool
marks e ρs = any_of (size e) (map (reached e) ρs)

module _ {Γ : List ValueType} {τ : ValueType} (e : Term Γ τ) where
  pub steps-none : steps_of e [] ≡ 0
  unfolding any_of
  steps-none = count_true-nowhere (size e)

  pub steps-one : (ρ : All Val Γ) → steps_of e (ρ ∷ []) ≡ count_true (reached e ρ)
  unfolding any_of
  steps-one ρ = ap count_true (either-nowhere (reached e ρ) (size e) (length-reached e ρ))

  length-marks : (ρs : List (All Val Γ)) → length (marks e ρs) ≡ size e
  length-marks ρs = length-any_of (size e) (reached e) (λ ρ. length-reached e ρ) ρs

-- marks that are the same in every environment
same-marks : {R : Type 0} (bs : List Bool) → either bs bs ≡ bs → (r : R) (rs : List R) → any_of (length bs) (map (λ r. bs) (r ∷ rs)) ≡ bs
unfolding any_of
same-marks bs h r [] = either-nowhere bs (length bs) refl
same-marks bs h r (r' ∷ rs) = ap (either bs) (same-marks bs h r' rs) ∙ h

module _ {Γ : List ValueType} where
  pub steps-var : {τ : ValueType} (x : Γ ∋ τ) (ρs : List (All Val Γ)) → steps_of (var x) ρs ≡ 0
  unfolding any_of reached size either count_true
  steps-var x [] = refl
  steps-var x (ρ ∷ ρs) = steps-var x ρs

  pub steps-const : (b : Base) (e : Element b) (ρ : All Val Γ) (ρs : List (All Val Γ)) → steps_of (const b e) (ρ ∷ ρs) ≡ 1
  unfolding reached size count_true either
  steps-const b e ρ ρs = ap count_true (same-marks (true ∷ []) refl ρ ρs)

  pub steps-operation : (o : Operation) (x y : Γ ∋ int) (ρ : All Val Γ) (ρs : List (All Val Γ)) → steps_of (operation o x y) (ρ ∷ ρs) ≡ 1
  unfolding reached size count_true either
  steps-operation o x y ρ ρs = ap count_true (same-marks (true ∷ []) refl ρ ρs)

  pub steps-negation : (x : Γ ∋ bool) (ρ : All Val Γ) (ρs : List (All Val Γ)) → steps_of (negation x) (ρ ∷ ρs) ≡ 1
  unfolding reached size count_true either
  steps-negation x ρ ρs = ap count_true (same-marks (true ∷ []) refl ρ ρs)

  pub steps-sum : (x : Γ ∋ braces int) (ρ : All Val Γ) (ρs : List (All Val Γ)) → steps_of (sum x) (ρ ∷ ρs) ≡ 1
  unfolding reached size count_true either
  steps-sum x ρ ρs = ap count_true (same-marks (true ∷ []) refl ρ ρs)

-- a let: its two parts' marks, one after the other
module _ {Γ : List ValueType} {υ τ : ValueType} (e₁ : Term Γ υ) (e₂ : Term (υ ∷ Γ) τ) where
  reached-bind : (ρ : All Val Γ) {v : Val υ} → eval e₁ ρ ≡ some v → reached (bind e₁ e₂) ρ ≡ reached e₁ ρ ++ reached e₂ (v ▹ ρ)
  unfolding reached
  reached-bind ρ p = rw p

  marks-bind : {ρs : List (All Val Γ)} {vs : List (Val υ)} → Each (eval e₁) ρs vs → marks (bind e₁ e₂) ρs ≡ marks e₁ ρs ++ marks e₂ (bound vs ρs)
  unfolding any_of size zip_with
  marks-bind each_nil = sym (replicate-append-replicate (size e₁) (size e₂) false)
  marks-bind (each-cons {a = ρ} {b = v} {l = ρs} {r = vs} p h) =
      ap₂ either (reached-bind ρ p) (marks-bind h)
      ∙ either-append (reached e₁ ρ) (marks e₁ ρs) (reached e₂ (v ▹ ρ)) (marks e₂ (bound vs ρs)) (length-reached e₁ ρ ∙ sym (length-marks e₁ ρs))

  pub steps-bind : {ρs : List (All Val Γ)} {vs : List (Val υ)} → Each (eval e₁) ρs vs → steps_of (bind e₁ e₂) ρs ≡ steps_of e₁ ρs + steps_of e₂ (bound vs ρs)
  steps-bind {ρs} {vs} h = ap count_true (marks-bind h) ∙ count_true-append (marks e₁ ρs) (marks e₂ (bound vs ρs))

-- a comprehension: its own definitions, and then what its items' evaluations reach
module _ {Γ : List ValueType} {υ τ : ValueType} (y : Γ ∋ braces υ) (us : Scalars Γ) (e : Term (υ ∷ _) τ) where
  reached-each : (ρ : All Val Γ) → reached (each y us e) ρ ≡ true ∷ (replicate (length us) true ++ marks e (inside y us ρ))
  unfolding reached
  reached-each ρ = ap (λ l. true ∷ (replicate (length us) true ++ any_of (size e) l)) (sym (map-map (reached e) (λ v. v ▹ listed (any_type us) ρ) (lookup y ρ)))

  marks-each : (ρ : All Val Γ) (ρs : List (All Val Γ))
      → marks (each y us e) (ρ ∷ ρs) ≡ true ∷ (replicate (length us) true ++ marks e (inside_all y us (ρ ∷ ρs)))
  unfolding any_of concat either
  marks-each ρ [] =
      either-nowhere (reached (each y us e) ρ) (size (each y us e)) (length-reached (each y us e) ρ)
      ∙ reached-each ρ
      ∙ ap (λ ρs. true ∷ (replicate (length us) true ++ marks e ρs)) (sym (append-nil (inside y us ρ)))
  marks-each ρ (ρ' ∷ ρs) =
      ap₂ either (reached-each ρ) (marks-each ρ' ρs)
      ∙ ap (λ l. true ∷ l)
      (either-everywhere (length us) (marks e (inside y us ρ)) (marks e (inside_all y us (ρ' ∷ ρs)))
      ∙ ap (λ l. replicate (length us) true ++ l)
      (sym (any_of-append (size e) (reached e) (λ ρ. length-reached e ρ) (inside y us ρ) (inside_all y us (ρ' ∷ ρs)))))

  pub steps-each : (ρ : All Val Γ) (ρs : List (All Val Γ))
      → steps_of (each y us e) (ρ ∷ ρs) ≡ 1 + (length us + steps_of e (inside_all y us (ρ ∷ ρs)))
  unfolding count_true
  steps-each ρ ρs =
      ap count_true (marks-each ρ ρs)
      ∙ omega (
        arith,
        count_true-append (replicate (length us) true) (marks e (inside_all y us (ρ ∷ ρs))),
        count_true-everywhere (length us),
      )

-- the steps of packing some values, under a unit for each
abbrev pub pack_steps : (τ : ValueType) {R : Type 0} → (R → Val τ) → List R → ℕ
pack_steps τ h rs = count_true (any_of (pack_size (depth_of τ)) (map (λ r. pack_reached τ (h r)) rs))

pub steps-packed-none : (τ : ValueType) {R : Type 0} (h : R → Val τ) → pack_steps τ h [] ≡ 0
unfolding any_of
steps-packed-none τ h = count_true-nowhere (pack_size (depth_of τ))

pub steps-packed-scalar : (b : Base) {R : Type 0} (h : R → Element b) (r : R) (rs : List R) → pack_steps (scalar b) h (r ∷ rs) ≡ 1
unfolding pack_reached pack_size count_true either
steps-packed-scalar b h r rs = ap count_true (same-marks (true ∷ []) refl r rs)

pub steps-packed-list : (τ : ValueType) {R : Type 0} (h : R → List (Val τ)) (r : R) (rs : List R)
    → pack_steps (braces τ) h (r ∷ rs) ≡ 3 + pack_steps τ (λ v. v) (concat (map h (r ∷ rs)))
unfolding pack_reached pack_size count_true either
steps-packed-list τ {R} h r rs =
    let n = pack_size (depth_of τ) in
    let three = true ∷ true ∷ true ∷ [] in
    let all = any_of n (map (λ v. pack_reached τ v) (concat (map h (r ∷ rs)))) in
    ap count_true
    (any_of-both 3 n (λ r. three) (λ r. any_of n (map (λ v. pack_reached τ v) (h r))) (λ r. refl) (r ∷ rs)
    ∙ ap₂ (λ l k. l ++ k) (same-marks three refl r rs) (any_of-flat n (λ v. pack_reached τ v) (λ v. length-pack_reached τ v) h (r ∷ rs)))
    ∙ omega (arith, count_true-append three all)

abbrev pub packs_steps : {Γ : List ValueType} → Listing Γ → List (All Val Γ) → ℕ
packs_steps us ρs = count_true (any_of (packs_size us) (map (λ ρ. packs_reached us ρ) ρs))

pub steps-packs-none : {Γ : List ValueType} (ρs : List (All Val Γ)) → packs_steps [] ρs ≡ 0
unfolding packs_reached packs_size any_of either count_true
steps-packs-none [] = refl
steps-packs-none (ρ ∷ ρs) = steps-packs-none ρs

pub steps-packs : {Γ : List ValueType} (u : (τ : ValueType) × (Γ ∋ τ)) (us : Listing Γ) (ρs : List (All Val Γ))
    → packs_steps (u ∷ us) ρs ≡ pack_steps u.0 (lookup u.1) ρs + packs_steps us ρs
unfolding packs_reached packs_size
steps-packs u us ρs =
    let n = pack_size (depth_of u.0) in
    let k = packs_size us in
    ap count_true (any_of-both n k (λ ρ. pack_reached u.0 (lookup u.1 ρ)) (λ ρ. packs_reached us ρ) (λ ρ. length-pack_reached u.0 (lookup u.1 ρ)) ρs)
    ∙ count_true-append (any_of n (map (λ ρ. pack_reached u.0 (lookup u.1 ρ)) ρs)) (any_of k (map (λ ρ. packs_reached us ρ) ρs))

-- a guard: its own definitions, the packing of its listed variables, and then what the evaluations behind it reach
pub steps-guard : {Γ : List ValueType} {τ : ValueType} (g : Γ ∋ bool) (us : Listing Γ) (e : Term (listed_types us) τ) (ρ : All Val Γ) (ρs : List (All Val Γ))
    → steps_of (guard g us e) (ρ ∷ ρs) ≡ 2 + (packs_steps us (ρ ∷ ρs) + steps_of e (passed_all g us (ρ ∷ ρs)))
unfolding reached size count_true either
steps-guard {Γ} g us e ρ ρs =
    let n = packs_size us in
    let two = true ∷ true ∷ [] in
    let body : All Val Γ → List Bool = λ ρ. any_of (size e) (map (λ ρ'. reached e ρ') (passed g us ρ)) in
    let packs = any_of n (map (λ ρ. packs_reached us ρ) (ρ ∷ ρs)) in
    ap count_true
    (any_of-both 2 (n + size e) (λ ρ. two) (λ ρ. packs_reached us ρ ++ body ρ) (λ ρ. refl) (ρ ∷ ρs)
    ∙ ap₂ (λ l k. l ++ k) (same-marks two refl ρ ρs)
    (any_of-both n (size e) (λ ρ. packs_reached us ρ) body (λ ρ. length-packs_reached us ρ) (ρ ∷ ρs)
    ∙ ap (λ l. packs ++ l) (any_of-flat (size e) (λ ρ'. reached e ρ') (λ ρ'. length-reached e ρ') (passed g us) (ρ ∷ ρs))))
    ∙ omega (
      arith,
      count_true-append two (packs ++ marks e (passed_all g us (ρ ∷ ρs))),
      count_true-append packs (marks e (passed_all g us (ρ ∷ ρs))),
    )

-- iota: Const_1 is reached where a number above 0 is among them
some-above : (a b : ℕ) → (ltb 0 a || ltb 0 b) ≡ ltb 0 (a + b)
some-above zero b = rw zero-add
some-above (suc a) b = rw (lt-ltb 0 (suc a) (omega arith), lt-ltb 0 (suc a + b) (omega arith))

module _ {Γ : List ValueType} (x : Γ ∋ int) where
  -- how many items iota has over all environments
  abbrev pub counts : List (All Val Γ) → ℕ
  counts ρs = length (concat (map counts_of (map (lookup x) ρs)))

  pub counts-cons : (ρ : All Val Γ) (ρs : List (All Val Γ)) → counts (ρ ∷ ρs) ≡ times (lookup x ρ) + counts ρs
  unfolding concat
  counts-cons ρ ρs =
      length-append (counts_of (lookup x ρ)) (concat (map counts_of (map (lookup x) ρs)))
      ∙ ap (λ n. n + counts ρs) (length-counting 0 (times (lookup x ρ)))

  marks-iota : (ρ : All Val Γ) (ρs : List (All Val Γ)) → marks (iota x) (ρ ∷ ρs) ≡ true ∷ true ∷ ltb 0 (counts (ρ ∷ ρs)) ∷ true ∷ []
  unfolding any_of reached either size concat
  marks-iota ρ [] =
      ap (λ b. true ∷ true ∷ b ∷ true ∷ []) (some-above (times (lookup x ρ)) 0 ∙ ap (ltb 0) (sym (counts-cons ρ [])))
  marks-iota ρ (ρ' ∷ ρs) =
      ap (either (reached (iota x) ρ)) (marks-iota ρ' ρs)
      ∙ ap (λ b. true ∷ true ∷ b ∷ true ∷ [])
      (some-above (times (lookup x ρ)) (counts (ρ' ∷ ρs)) ∙ ap (ltb 0) (sym (counts-cons ρ (ρ' ∷ ρs))))

  pub steps-iota-none : (ρ : All Val Γ) (ρs : List (All Val Γ)) → counts (ρ ∷ ρs) ≡ 0 → steps_of (iota x) (ρ ∷ ρs) ≡ 3
  unfolding count_true
  steps-iota-none ρ ρs h = ap count_true (marks-iota ρ ρs) ∙ rw h

  pub steps-iota-some : (ρ : All Val Γ) (ρs : List (All Val Γ)) (k : ℕ) → counts (ρ ∷ ρs) ≡ suc k → steps_of (iota x) (ρ ∷ ρs) ≡ 4
  unfolding count_true
  steps-iota-some ρ ρs k h = ap count_true (marks-iota ρ ρs) ∙ rw (h, lt-ltb 0 (suc k) (omega arith))
