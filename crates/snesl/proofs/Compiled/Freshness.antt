-- Which ids the code of a formula uses, defines and hands on. Code uses only ids that its environment names, defines the next ids from where it starts, and
-- names in its result only ids of these two kinds: so what no WithCtrl puts out is never used outside its body.
use Prim.Native.Nat.{ℕ, suc, ◌+◌, ◌<◌, ◌≤◌}
use native.Mathlib.Omega.{arith}
use native.Mathlib.Numerals.{add-one}
use mathlib.Core.List.Memᴰ
use mathlib.Core.List.{List, [], ◌∷◌}
use mathlib.Core.Logic.{◌⊎◌, inl, inr, ⊎_elim}
use mathlib.Core.Path.{◌≡◌, refl, ◌∙◌, ap, ap₂}
use lib.IntN.{pos}
use lib.ListN.{length}
use Rattle.snesl.specs.declared.code.Base.{Base}
use Rattle.snesl.specs.declared.code.Base.TheVariants as base
use Rattle.snesl.specs.declared.code.Transducer.TheVariants.{Const, ToFlags, B2u, Usum, ScanPlus, Distr}
use Rattle.snesl.specs.declared.code.Transducer.{Transducer}
use Rattle.snesl.specs.Transducers.{operands}
use Rattle.snesl.specs.Values.{ValueType, scalar, braces, int, bool, depth_of, Element}
use Rattle.snesl.specs.Terms.{◌∋◌, here, there, Term, var, bind, const, iota, operation, negation, sum, each, guard, Listing, Scalars, any_type, listed_types, All, ◌▹◌, lookup}
use Rattle.snesl.specs.Trees.{Tree, IdTree, leaf, node, inner, outer, root, order}
use Rattle.snesl.specs.Programs.{Program, done, define, with_ctrl, ◌⨾◌, count, without, dv, fv, ascending, among, Within}
use Rattle.snesl.specs.Translation.{id, pack_size, packs_size, size, numbered, within, pack_tree, pack_trees, tree, distrs, controlled, pack_code, pack_codes, constant_of, code}
use Rattle.snesl.specs.Ids.{ids_of, Below}
use Rattle.snesl.proofs.Compiled.Members.{◌∈◌, ◌∉◌, of-without, of-among, to-among, of-ascending, to-ascending}
use Rattle.snesl.proofs.Compiled.Packing.{count-pack, count-packs, defined-pack, packed-ids, free-pack}
use Rattle.snesl.proofs.Compiled.Sequences.{count-seq, of-dv-seq, dv-seq-left, dv-seq-right, of-fv-define, of-fv-seq}

-- a tree's parts are named by it
pub order-inner : {d : ℕ} (t : Tree ℕ (suc d)) → Within (order (inner t)) (order t)
unfolding order inner
order-inner (node t a) u h = Memᴰ.append_left (a ∷ []) h

pub order-outer : {d : ℕ} (t : Tree ℕ (suc d)) → outer t ∈ order t
unfolding order outer
order-outer (node t a) = Memᴰ.append_right (order t) (Memᴰ.head refl)

pub order-root : (t : Tree ℕ 0) → root t ∈ order t
unfolding order root
order-root (leaf a) = Memᴰ.head refl

pub ids-lookup : {Γ : List ValueType} {τ : ValueType} (x : Γ ∋ τ) (δ : All IdTree Γ) → Within (order (lookup x δ)) (ids_of δ)
unfolding ids_of lookup
ids-lookup here (t ▹ δ) u h = Memᴰ.append_left (ids_of δ) h
ids-lookup (there x) (t ▹ δ) u h = Memᴰ.append_right (order t) (ids-lookup x δ u h)

pub ids-root : {Γ : List ValueType} {b : Base} (x : Γ ∋ scalar b) (δ : All IdTree Γ) → root (lookup x δ) ∈ ids_of δ
ids-root x δ = ids-lookup x δ _ (order-root (lookup x δ))

pub ids-outer : {Γ : List ValueType} {υ : ValueType} (y : Γ ∋ braces υ) (δ : All IdTree Γ) → outer (lookup y δ) ∈ ids_of δ
ids-outer y δ = ids-lookup y δ _ (order-outer (lookup y δ))

pub of-ids : {Γ : List ValueType} {u : ℕ} (τ : ValueType) (t : IdTree τ) (δ : All IdTree Γ) → u ∈ ids_of (◌▹◌ {τ = τ} t δ) → (u ∈ order t) ⊎ (u ∈ ids_of δ)
unfolding ids_of
of-ids τ t δ h = Memᴰ.append_cases (order t) h

pub of_node : {d a u : ℕ} (t : Tree ℕ d) → u ∈ order (node t a) → (u ∈ order t) ⊎ (u ≡ a)
unfolding order
of_node t h = ⊎_elim inl (λ m. inr (Memᴰ.eq_of_singleton m)) (Memᴰ.append_cases (order t) h)

pub of-leaf : {a u : ℕ} → u ∈ order (leaf a) → u ≡ a
unfolding order
of-leaf h = Memᴰ.eq_of_singleton h

-- a definition by itself
pub fv-alone : (s : ℕ) (t : Transducer) → Within (fv s (define t done)) (operands t)
unfolding fv without
fv-alone s t u h = ⊎_elim (λ m. m) (λ m. absurd (Memᴰ.not-nil m)) (Memᴰ.append_cases (operands t) h)

-- what a program's first part takes in, if that is a WithCtrl
abbrev pub taken : Program → List ℕ
taken done = []
taken (define t p) = []
taken (with_ctrl outs c ins b p) = ins

-- a WithCtrl in translated code
module _ {d : ℕ} (c s : ℕ) (p : Program) (st : Tree ℕ d) where
  pub takes-free : Within (fv s p) (taken (controlled c s p st))
  takes-free u m = to-ascending (fv s p) m

  pub free-taken : Within (taken (controlled c s p st)) (fv s p)
  free-taken u m = of-ascending (fv s p) m

  pub count-controlled : count (controlled c s p st) ≡ count p
  unfolding count
  count-controlled = omega arith

  pub of-dv-controlled : {u : ℕ} (a : ℕ) → u ∈ dv a (controlled c s p st) → (u ∈ order st) × (u ∈ dv s p)
  unfolding dv
  of-dv-controlled a h =
      ⊎_elim (λ m. of-among (order st) (dv s p) (of-ascending (among (order st) (dv s p)) m)) (λ m. absurd (Memᴰ.not-nil m))
      (Memᴰ.append_cases (ascending (among (order st) (dv s p))) h)

  pub to-dv-controlled : {u : ℕ} (a : ℕ) → u ∈ order st → u ∈ dv s p → u ∈ dv a (controlled c s p st)
  unfolding dv
  to-dv-controlled a h k =
      Memᴰ.append_left [] (to-ascending (among (order st) (dv s p)) (to-among (order st) (dv s p) h k))

  pub of-fv-controlled : {u : ℕ} (a : ℕ) → u ∈ fv a (controlled c s p st) → (u ≡ c) ⊎ (u ∈ fv s p)
  unfolding fv
  of-fv-controlled {u} a h =
      ⊎_elim (λ m. ⊎_elim inl (λ k. inr (free-taken u k)) (Memᴰ.cases_cons m)) (λ m. absurd (Memᴰ.not-nil (of-without [] _ m).0))
      (Memᴰ.append_cases (c ∷ taken (controlled c s p st)) h)

-- the definitions that a comprehension has before its WithCtrl: the new control stream, and a copy of each listed variable
abbrev pub copies : {Γ : List ValueType} → ℕ → Scalars Γ → All IdTree Γ → Program
copies b us δ = distrs b us δ done

abbrev pub front : {Γ : List ValueType} {υ : ValueType} → Γ ∋ braces υ → Scalars Γ → All IdTree Γ → Program
front y us δ = define (Usum (id (outer (lookup y δ)))) (copies (outer (lookup y δ)) us δ)

copies-seq : {Γ : List ValueType} (b : ℕ) (us : Scalars Γ) (δ : All IdTree Γ) (p : Program) → distrs b us δ p ≡ copies b us δ ⨾ p
unfolding distrs ◌⨾◌
copies-seq b [] δ p = refl
copies-seq b (u ∷ us) δ p = ap (define (Distr (id b) (id (root (lookup u.1 δ))))) (copies-seq b us δ p)

count-copies : {Γ : List ValueType} (b : ℕ) (us : Scalars Γ) (δ : All IdTree Γ) → count (copies b us δ) ≡ length us
unfolding distrs count
count-copies b [] δ = refl
count-copies b (u ∷ us) δ = ap suc (count-copies b us δ)

pub dv-copies : {Γ : List ValueType} (a b : ℕ) (us : Scalars Γ) (δ : All IdTree Γ) → dv a (copies b us δ) ≡ ids_of (numbered a us)
unfolding distrs dv ids_of numbered order
dv-copies a b [] δ = refl
dv-copies a b (u ∷ us) δ = ap (λ l. a ∷ l) (dv-copies (suc a) b us δ)

fv-copies : {Γ : List ValueType} (a b : ℕ) (us : Scalars Γ) (δ : All IdTree Γ) → b ∈ ids_of δ → Within (fv a (copies b us δ)) (ids_of δ)
unfolding distrs fv
fv-copies a b [] δ m u h = absurd (Memᴰ.not-nil h)
fv-copies a b (v ∷ us) δ m u h =
    ⊎_elim (λ k. Memᴰ.cast k m)
    (λ k. ⊎_elim (λ r. Memᴰ.cast r (ids-root v.1 δ)) (λ r. fv-copies (suc a) b us δ m u (of-without _ (a ∷ []) r).0) (Memᴰ.cases_cons k))
    (Memᴰ.cases_cons h)

-- the copies' ids are the next ones
pub ids-numbered : {Γ : List ValueType} {u : ℕ} (a : ℕ) (us : Scalars Γ) → u ∈ ids_of (numbered a us) → (a ≤ u) × (u < a + length us)
unfolding ids_of numbered order
ids-numbered a [] h = absurd (Memᴰ.not-nil h)
ids-numbered a (v ∷ us) h =
    ⊎_elim (λ e. (omega arith, omega arith)) (λ m. let r = ids-numbered (suc a) us m in (omega arith, omega arith)) (Memᴰ.cases_cons h)

module _ {Γ : List ValueType} {υ : ValueType} (y : Γ ∋ braces υ) (us : Scalars Γ) (δ : All IdTree Γ) where
  pub count-front : count (front y us δ) ≡ 1 + length us
  unfolding count
  count-front = omega (arith, count-copies (outer (lookup y δ)) us δ)

  pub dv-front : (s : ℕ) → dv s (front y us δ) ≡ s ∷ ids_of (numbered (suc s) us)
  unfolding dv
  dv-front s = ap (λ l. s ∷ l) (dv-copies (suc s) (outer (lookup y δ)) us δ)

  pub of-dv-front : {u : ℕ} (s : ℕ) → u ∈ dv s (front y us δ) → (s ≤ u) × (u < s + (1 + length us))
  of-dv-front s h =
      ⊎_elim (λ e. (omega arith, omega arith)) (λ m. let r = ids-numbered (suc s) us m in (omega arith, omega arith))
      (Memᴰ.cases_cons (rw dv-front at h))

  pub fv-front : (s : ℕ) → Within (fv s (front y us δ)) (ids_of δ)
  unfolding fv
  fv-front s u h =
      ⊎_elim (λ e. Memᴰ.cast e (ids-outer y δ)) (λ m. fv-copies (suc s) _ us δ (ids-outer y δ) u (of-without _ (s ∷ []) m).0) (Memᴰ.cases_cons h)

  pub code-each : {τ : ValueType} (e : Term (υ ∷ listed_types (any_type us)) τ) (s : ℕ)
      → code (each y us e) δ s
      ≡ front y us δ
      ⨾ controlled s (s + (1 + length us)) (code e (within y us δ s) (s + (1 + length us))) (tree e (within y us δ s) (s + (1 + length us)))
  unfolding code ◌⨾◌
  code-each e s = ap (define (Usum (id (outer (lookup y δ))))) (copies-seq (outer (lookup y δ)) us δ _)

-- new flags and the control stream of their F's
abbrev pub flagging : Transducer → ℕ → Program
flagging t s = define t (define (Usum (id s)) done)

module _ (t : Transducer) (s : ℕ) where
  pub count-flagging : count (flagging t s) ≡ 2
  unfolding count
  count-flagging = refl

  pub fv-flagging : Within (fv s (flagging t s)) (operands t)
  fv-flagging u h = ⊎_elim (λ m. m) (λ m. absurd (m.1 (fv-alone (suc s) _ u m.0))) (of-fv-define s t (define (Usum (id s)) done) h)

  pub made-flags : s ∈ dv s (flagging t s)
  unfolding dv
  made-flags = Memᴰ.head refl

  pub made-control : s + 1 ∈ dv s (flagging t s)
  unfolding dv
  made-control = Memᴰ.tail (Memᴰ.head (add-one s))

  pub dv-flagging : {u : ℕ} → u ∈ dv s (flagging t s) → (s ≤ u) × (u < s + 2)
  unfolding dv
  dv-flagging h =
      ⊎_elim (λ e. (omega arith, omega arith)) (λ m. let e = Memᴰ.eq_of_singleton m in (omega arith, omega arith)) (Memᴰ.cases_cons h)

-- iota's code in its three parts: the flags and the control stream of their F's, a 1 for each, and the totals before each
abbrev pub lead : ℕ → ℕ → Program
lead r s = flagging (ToFlags (id r)) s

abbrev pub ones : ℕ → Program
ones s = controlled (s + 1) (s + 2) (define (Const (pos 1)) done) (leaf (s + 2))

abbrev pub totals : ℕ → Program
totals s = define (ScanPlus (pos 0) (id s) (id (s + 2))) done

pub code-iota : {Γ : List ValueType} (x : Γ ∋ int) (δ : All IdTree Γ) (s : ℕ) → code (iota x) δ s ≡ lead (root (lookup x δ)) s ⨾ (ones s ⨾ totals s)
unfolding code ◌⨾◌
code-iota x δ s = refl

pub count-lead : (r s : ℕ) → count (lead r s) ≡ 2
count-lead r s = count-flagging (ToFlags (id r)) s

pub count_ones : (s : ℕ) → count (ones s) ≡ 1
unfolding count
count_ones s = refl

pub dv-ones : {u : ℕ} (a s : ℕ) → u ∈ dv a (ones s) → u ≡ s + 2
dv-ones a s h = of-leaf (of-dv-controlled (s + 1) (s + 2) _ (leaf (s + 2)) a h).0

pub ones-puts-out : (a s : ℕ) → s + 2 ∈ dv a (ones s)
unfolding order dv
ones-puts-out a s = to-dv-controlled (s + 1) (s + 2) (define (Const (pos 1)) done) (leaf (s + 2)) a (Memᴰ.head refl) (Memᴰ.head refl)

-- the listed variables of a guard, packed one after the other
pub defined-packs : {Γ : List ValueType} {u : ℕ} (b : ℕ) (us : Listing Γ) (δ : All IdTree Γ) (s : ℕ) → u ∈ dv s (pack_codes b us δ s) → (s ≤ u) × (u < s + packs_size us)
unfolding pack_codes packs_size
defined-packs {u = u} b [] δ s h = let none : u ∈ [] = unfold dv in h in absurd (Memᴰ.not-nil none)
defined-packs b (v ∷ us) δ s h =
    let n = pack_size (depth_of v.0) in
    ⊎_elim (λ m. let r = defined-pack b (lookup v.1 δ) s m in (omega arith, omega arith))
    (λ m. let r = defined-packs b us δ (s + n) m in (omega arith, omega arith))
    (of-dv-seq s n (pack_code b (lookup v.1 δ) s) (pack_codes b us δ (s + n)) (count-pack b (lookup v.1 δ) s) h)

pub ids-packed : {Γ : List ValueType} {u : ℕ} (b : ℕ) (us : Listing Γ) (δ : All IdTree Γ) (s : ℕ) → u ∈ ids_of (pack_trees us δ s) → u ∈ dv s (pack_codes b us δ s)
unfolding pack_codes pack_trees
ids-packed {u = u} b [] δ s h = let none : u ∈ [] = unfold ids_of in h in absurd (Memᴰ.not-nil none)
ids-packed b (v ∷ us) δ s h =
    let n = pack_size (depth_of v.0) in
    let t = lookup v.1 δ in
    let counted = count-pack b t s in
    ⊎_elim (λ m. dv-seq-left s n (pack_code b t s) (pack_codes b us δ (s + n)) counted (packed-ids b t s m))
    (λ m. dv-seq-right s n (pack_code b t s) (pack_codes b us δ (s + n)) counted (ids-packed b us δ (s + n) m))
    (of-ids v.0 (pack_tree t s) (pack_trees us δ (s + n)) h)

pub free-packs : {Γ : List ValueType} (b : ℕ) (us : Listing Γ) (δ : All IdTree Γ) (s : ℕ) → Within (fv s (pack_codes b us δ s)) (b ∷ ids_of δ)
unfolding pack_codes
free-packs b [] δ s u h = let none : u ∈ [] = unfold fv in h in absurd (Memᴰ.not-nil none)
free-packs b (v ∷ us) δ s u h =
    let n = pack_size (depth_of v.0) in
    let t = lookup v.1 δ in
    ⊎_elim (λ m. ⊎_elim Memᴰ.head (λ k. Memᴰ.tail (ids-lookup v.1 δ u k)) (Memᴰ.cases_cons (free-pack b t s u m)))
    (λ m. free-packs b us δ (s + n) u m.0)
    (of-fv-seq s n (pack_code b t s) (pack_codes b us δ (s + n)) (count-pack b t s) h)

-- the definitions that a guard has before its WithCtrl: its flags, the new control stream, and each listed variable packed
abbrev pub gate : {Γ : List ValueType} → Γ ∋ bool → Listing Γ → All IdTree Γ → ℕ → Program
gate g us δ s = flagging (B2u (id (root (lookup g δ)))) s ⨾ pack_codes (root (lookup g δ)) us δ (s + 2)

module _ {Γ : List ValueType} (g : Γ ∋ bool) (us : Listing Γ) (δ : All IdTree Γ) (s : ℕ) where
  -- the guard's bools, and the packing by them
  abbrev bs : ℕ
  bs = root (lookup g δ)

  abbrev marked : Program
  marked = flagging (B2u (id bs)) s

  abbrev packed : Program
  packed = pack_codes bs us δ (s + 2)

  pub count-gate : count (gate g us δ s) ≡ 2 + packs_size us
  count-gate = count-seq marked packed ∙ ap₂ ◌+◌ (count-flagging (B2u (id bs)) s) (count-packs bs us δ (s + 2))

  pub of-dv-gate : {u : ℕ} → u ∈ dv s (gate g us δ s) → (s ≤ u) × (u < s + (2 + packs_size us))
  of-dv-gate h =
      ⊎_elim (λ m. let r = dv-flagging (B2u (id bs)) s m in (omega arith, omega arith))
      (λ m. let r = defined-packs bs us δ (s + 2) m in (omega arith, omega arith))
      (of-dv-seq s 2 marked packed (count-flagging (B2u (id bs)) s) h)

  pub gate-flags : s ∈ dv s (gate g us δ s)
  gate-flags = dv-seq-left s 2 marked packed (count-flagging (B2u (id bs)) s) (made-flags (B2u (id bs)) s)

  pub gate-control : s + 1 ∈ dv s (gate g us δ s)
  gate-control = dv-seq-left s 2 marked packed (count-flagging (B2u (id bs)) s) (made-control (B2u (id bs)) s)

  pub gate-packed : {u : ℕ} → u ∈ ids_of (pack_trees us δ (s + 2)) → u ∈ dv s (gate g us δ s)
  gate-packed h = dv-seq-right s 2 marked packed (count-flagging (B2u (id bs)) s) (ids-packed bs us δ (s + 2) h)

  pub fv-gate : Within (fv s (gate g us δ s)) (ids_of δ)
  fv-gate u h =
      ⊎_elim (λ m. Memᴰ.cast (Memᴰ.eq_of_singleton (fv-flagging (B2u (id bs)) s u m)) (ids-root g δ))
      (λ m. ⊎_elim (λ e. Memᴰ.cast e (ids-root g δ)) (λ k. k) (Memᴰ.cases_cons (free-packs bs us δ (s + 2) u m.0)))
      (of-fv-seq s 2 marked packed (count-flagging (B2u (id bs)) s) h)

  -- where a guard's body starts
  abbrev pub behind : ℕ
  behind = s + (2 + packs_size us)

  pub code-guard : {τ : ValueType} (e : Term (listed_types us) τ)
      → code (guard g us e) δ s
      ≡ gate g us δ s ⨾ controlled (s + 1) behind (code e (pack_trees us δ (s + 2)) behind) (tree e (pack_trees us δ (s + 2)) behind)
  unfolding code ◌⨾◌
  code-guard e = refl

-- a constant has no operands
pub no-operands : {u : ℕ} (b : Base) (e : Element b) → u ∈ operands (constant_of b e) → ⊥
no-operands base.Int e h = Memᴰ.not-nil h
no-operands base.Bool e h = Memᴰ.not-nil h

-- a formula's code defines as many streams as its size says
pub count_code : {Γ : List ValueType} {τ : ValueType} (e : Term Γ τ) (δ : All IdTree Γ) (s : ℕ) → count (code e δ s) ≡ size e
unfolding code size
count_code (var x) δ s = unfold count in refl
count_code (bind e₁ e₂) δ s =
    count-seq (code e₁ δ s) _ ∙ ap₂ ◌+◌ (count_code e₁ δ s) (count_code e₂ (tree e₁ δ s ▹ δ) (s + size e₁))
count_code (const b e) δ s = unfold count in refl
count_code (iota x) δ s = unfold count ◌⨾◌ in refl
count_code (operation o x y) δ s = unfold count in refl
count_code (negation x) δ s = unfold count in refl
count_code (sum x) δ s = unfold count in refl
count_code (each y us e) δ s =
    let a = s + (1 + length us) in
    let body = code e (within y us δ s) a in
    let h : count (controlled s a body (tree e (within y us δ s) a)) ≡ size e =
    count-controlled s a body _ ∙ count_code e (within y us δ s) a in
    ap count (code-each y us δ e s) ∙ count-seq (front y us δ) _ ∙ omega (arith, count-front y us δ)
count_code (guard g us e) δ s =
    let a = s + (2 + packs_size us) in
    let body = code e (pack_trees us δ (s + 2)) a in
    let h : count (controlled (s + 1) a body (tree e (pack_trees us δ (s + 2)) a)) ≡ size e =
    count-controlled (s + 1) a body _ ∙ count_code e (pack_trees us δ (s + 2)) a in
    ap count (code-guard g us δ s e) ∙ count-seq (gate g us δ s) _ ∙ omega (arith, count-gate g us δ s)

iota-flags : (r s : ℕ) → s ∈ dv s (lead r s ⨾ (ones s ⨾ totals s))
unfolding dv ◌⨾◌
iota-flags r s = Memᴰ.head refl

iota-data : (r s : ℕ) → s + 3 ∈ dv s (lead r s ⨾ (ones s ⨾ totals s))
unfolding dv
iota-data r s =
    dv-seq-right s 2 (lead r s) _ (count-lead r s)
    (dv-seq-right (s + 2) 1 (ones s) (totals s) (count_ones s) (Memᴰ.head (omega arith)))

-- a comprehension's code, for any body: it makes known its control stream, its copies and what the body makes known of the result, and uses what its
-- environment names where the body uses what the body's environment names
module _ {Γ : List ValueType} {υ : ValueType} {d : ℕ} (y : Γ ∋ braces υ) (us : Scalars Γ) (δ : All IdTree Γ) (s : ℕ) (body : Program) (st : Tree ℕ d) where
  abbrev pub inside : Program
  inside = controlled s (s + (1 + length us)) body st

  each-copies : {u : ℕ} → u ∈ ids_of (numbered (suc s) us) → u ∈ dv s (front y us δ ⨾ inside)
  each-copies h = dv-seq-left s _ (front y us δ) inside (count-front y us δ) (rw dv-front (Memᴰ.tail h))

  each-result : {u : ℕ} → u ∈ order st → u ∈ dv (s + (1 + length us)) body → u ∈ dv s (front y us δ ⨾ inside)
  each-result h k =
      dv-seq-right s _ (front y us δ) inside (count-front y us δ) (to-dv-controlled s (s + (1 + length us)) body st _ h k)

  of-dv-each : {u : ℕ} → u ∈ dv s (front y us δ ⨾ inside) → ((s ≤ u) × (u < s + (1 + length us))) ⊎ (u ∈ dv (s + (1 + length us)) body)
  of-dv-each h =
      ⊎_elim (λ m. inl (of-dv-front y us δ s m)) (λ m. inr (of-dv-controlled s (s + (1 + length us)) body st _ m).1)
      (of-dv-seq s _ (front y us δ) inside (count-front y us δ) h)

  fv-each : Within (fv (s + (1 + length us)) body) (ids_of (within y us δ s)) → Within (fv s (front y us δ ⨾ inside)) (ids_of δ)
  fv-each below u h = ⊎_elim (fv-front y us δ s u) (λ m. rest m.0 m.1) (of-fv-seq s _ (front y us δ) inside (count-front y us δ) h)
    where
      rest : u ∈ fv (s + (1 + length us)) inside → u ∉ dv s (front y us δ) → u ∈ ids_of δ
      rest m n =
          ⊎_elim (λ k. absurd (n (rw dv-front (Memᴰ.head k))))
          (λ k.
          ⊎_elim (λ j. ids-lookup y δ u (order-inner (lookup y δ) u j)) (λ j. absurd (n (rw dv-front (Memᴰ.tail j))))
          (of-ids _ (inner (lookup y δ)) (numbered (suc s) us) (below u k)))
          (of-fv-controlled s (s + (1 + length us)) body st _ m)

-- the same of a guard's code
module _ {Γ : List ValueType} {d : ℕ} (g : Γ ∋ bool) (us : Listing Γ) (δ : All IdTree Γ) (s : ℕ) (body : Program) (st : Tree ℕ d) where
  abbrev held : Program
  held = controlled (s + 1) (behind g us δ s) body st

  guard-front : {u : ℕ} → u ∈ dv s (gate g us δ s) → u ∈ dv s (gate g us δ s ⨾ held)
  guard-front h = dv-seq-left s _ (gate g us δ s) held (count-gate g us δ s) h

  guard-result : {u : ℕ} → u ∈ order st → u ∈ dv (behind g us δ s) body → u ∈ dv s (gate g us δ s ⨾ held)
  guard-result h k =
      dv-seq-right s _ (gate g us δ s) held (count-gate g us δ s) (to-dv-controlled (s + 1) (behind g us δ s) body st _ h k)

  of-dv-guard : {u : ℕ} → u ∈ dv s (gate g us δ s ⨾ held) → ((s ≤ u) × (u < behind g us δ s)) ⊎ (u ∈ dv (behind g us δ s) body)
  of-dv-guard h =
      ⊎_elim (λ m. inl (of-dv-gate g us δ s m)) (λ m. inr (of-dv-controlled (s + 1) (behind g us δ s) body st _ m).1)
      (of-dv-seq s _ (gate g us δ s) held (count-gate g us δ s) h)

  fv-guard : Within (fv (behind g us δ s) body) (ids_of (pack_trees us δ (s + 2))) → Within (fv s (gate g us δ s ⨾ held)) (ids_of δ)
  fv-guard below u h = ⊎_elim (fv-gate g us δ s u) (λ m. rest m.0 m.1) (of-fv-seq s _ (gate g us δ s) held (count-gate g us δ s) h)
    where
      rest : u ∈ fv (behind g us δ s) held → u ∉ dv s (gate g us δ s) → u ∈ ids_of δ
      rest m n =
          ⊎_elim (λ k. absurd (n (Memᴰ.cast k (gate-control g us δ s)))) (λ k. absurd (n (gate-packed g us δ s (below u k))))
          (of-fv-controlled (s + 1) (behind g us δ s) body st _ m)

-- the tree of a result names ids that the environment names or that the code makes known
pub result-ids : {Γ : List ValueType} {τ : ValueType} {u : ℕ} (e : Term Γ τ) (δ : All IdTree Γ) (s : ℕ)
    → u ∈ order (tree e δ s)
    → (u ∈ ids_of δ) ⊎ (u ∈ dv s (code e δ s))
unfolding tree
result-ids (var x) δ s h = inl (ids-lookup x δ _ h)
result-ids {u = u} (bind e₁ e₂) δ s h =
    ⊎_elim
    (λ m. ⊎_elim (λ k. ⊎_elim inl (λ j. inr (early j)) (result-ids e₁ δ s k)) inl (of-ids _ (tree e₁ δ s) δ m))
    (λ m. inr (late m))
    (result-ids e₂ (tree e₁ δ s ▹ δ) (s + size e₁) h)
  where
    early : u ∈ dv s (code e₁ δ s) → u ∈ dv s (code (bind e₁ e₂) δ s)
    early j = unfold code in dv-seq-left s (size e₁) (code e₁ δ s) _ (count_code e₁ δ s) j

    late : u ∈ dv (s + size e₁) (code e₂ (tree e₁ δ s ▹ δ) (s + size e₁)) → u ∈ dv s (code (bind e₁ e₂) δ s)
    late j = unfold code in dv-seq-right s (size e₁) (code e₁ δ s) _ (count_code e₁ δ s) j
result-ids (const b e) δ s h = inr (unfold code dv order in h)
result-ids (iota x) δ s h =
    inr
    (rw (code-iota x δ s)
    (⊎_elim (λ m. Memᴰ.cast (of-leaf m) (iota-data _ s)) (λ e. Memᴰ.cast e (iota-flags _ s)) (of_node (leaf (s + 3)) h)))
result-ids (operation o x y) δ s h = inr (unfold code dv order in h)
result-ids (negation x) δ s h = inr (unfold code dv order in h)
result-ids (sum x) δ s h = inr (unfold code dv order in h)
result-ids {u = u} (each {τ = τ} y us e) δ s h =
    rw (code-each y us δ e s)
    (⊎_elim
    (λ m. ⊎_elim outside-body (λ j. inr (each-result y us δ s body st m j)) (result-ids e (within y us δ s) (s + (1 + length us)) m))
    (λ k. inl (Memᴰ.cast k (ids-outer y δ)))
    (of_node (tree e (within y us δ s) (s + (1 + length us))) h))
  where
    body : Program
    body = code e (within y us δ s) (s + (1 + length us))

    st : IdTree τ
    st = tree e (within y us δ s) (s + (1 + length us))

    outside-body : u ∈ ids_of (within y us δ s) → (u ∈ ids_of δ) ⊎ (u ∈ dv s (front y us δ ⨾ inside y us δ s body st))
    outside-body m =
        ⊎_elim (λ k. inl (ids-lookup y δ u (order-inner (lookup y δ) u k))) (λ k. inr (each-copies y us δ s body st k))
        (of-ids _ (inner (lookup y δ)) (numbered (suc s) us) m)
result-ids {u = u} (guard {τ = τ} g us e) δ s h =
    inr
    (rw (code-guard g us δ s e)
    (⊎_elim
    (λ m. ⊎_elim (λ k. guard-front g us δ s body st (gate-packed g us δ s k)) (guard-result g us δ s body st m) (result-ids e (pack_trees us δ (s + 2)) a m))
    (λ k. Memᴰ.cast k (guard-front g us δ s body st (gate-flags g us δ s)))
    (of_node st h)))
  where
    a : ℕ
    a = s + (2 + packs_size us)

    body : Program
    body = code e (pack_trees us δ (s + 2)) a

    st : IdTree τ
    st = tree e (pack_trees us δ (s + 2)) a

-- iota's code uses the stream of its n and nothing else
pub fv-lead : (r s : ℕ) → Within (fv s (lead r s)) (r ∷ [])
fv-lead r s = fv-flagging (ToFlags (id r)) s

pub lead-flags : (r s : ℕ) → s ∈ dv s (lead r s)
lead-flags r s = made-flags (ToFlags (id r)) s

pub lead-control : (r s : ℕ) → s + 1 ∈ dv s (lead r s)
lead-control r s = made-control (ToFlags (id r)) s

pub fv-ones : {u : ℕ} (a s : ℕ) → u ∈ fv a (ones s) → u ≡ s + 1
fv-ones a s h =
    ⊎_elim (λ e. e) (λ m. absurd (Memᴰ.not-nil (fv-alone (s + 2) _ _ m))) (of-fv-controlled (s + 1) (s + 2) _ (leaf (s + 2)) a h)

fv-iota : (r s : ℕ) → Within (fv s (lead r s ⨾ (ones s ⨾ totals s))) (r ∷ [])
fv-iota r s u h = ⊎_elim (fv-lead r s u) (λ m. absurd (later m.0 m.1)) (of-fv-seq s 2 (lead r s) _ (count-lead r s) h)
  where
    last : u ∈ fv (s + 2 + 1) (totals s) → u ∉ dv s (lead r s) → u ∉ dv (s + 2) (ones s) → ⊥
    last m n k =
        ⊎_elim (λ e. n (Memᴰ.cast e (lead-flags r s)))
        (λ j. k (Memᴰ.cast (Memᴰ.eq_of_singleton j) (ones-puts-out (s + 2) s))) (Memᴰ.cases_cons (fv-alone _ _ u m))

    later : u ∈ fv (s + 2) (ones s ⨾ totals s) → u ∉ dv s (lead r s) → ⊥
    later m n =
        ⊎_elim (λ k. n (Memᴰ.cast (fv-ones (s + 2) s k) (lead-control r s))) (λ k. last k.0 n k.1)
        (of-fv-seq (s + 2) 1 (ones s) (totals s) (count_ones s) m)

-- a formula's code uses only ids that its environment names
pub free-ids : {Γ : List ValueType} {τ : ValueType} (e : Term Γ τ) (δ : All IdTree Γ) (s : ℕ) → Within (fv s (code e δ s)) (ids_of δ)
unfolding code
free-ids (var x) δ s u h = let none : u ∈ [] = unfold fv in h in absurd (Memᴰ.not-nil none)
free-ids (bind e₁ e₂) δ s u h =
    ⊎_elim (λ m. free-ids e₁ δ s u m)
    (λ m.
    ⊎_elim (λ k. ⊎_elim (λ j. j) (λ j. absurd (m.1 j)) (result-ids e₁ δ s k)) (λ k. k)
    (of-ids _ (tree e₁ δ s) δ (free-ids e₂ (tree e₁ δ s ▹ δ) (s + size e₁) u m.0)))
    (of-fv-seq s (size e₁) (code e₁ δ s) (code e₂ (tree e₁ δ s ▹ δ) (s + size e₁)) (count_code e₁ δ s) h)
free-ids (const b e) δ s u h = absurd (no-operands b e (fv-alone s (constant_of b e) u h))
free-ids (iota x) δ s u h =
    Memᴰ.cast (Memᴰ.eq_of_singleton (fv-iota (root (lookup x δ)) s u (rw (code-iota x δ s) at h))) (ids-root x δ)
free-ids (operation o x y) δ s u h =
    ⊎_elim (λ e. Memᴰ.cast e (ids-root x δ)) (λ m. Memᴰ.cast (Memᴰ.eq_of_singleton m) (ids-root y δ)) (Memᴰ.cases_cons (fv-alone s _ u h))
free-ids (negation x) δ s u h = Memᴰ.cast (Memᴰ.eq_of_singleton (fv-alone s _ u h)) (ids-root x δ)
free-ids (sum x) δ s u h =
    ⊎_elim (λ e. Memᴰ.cast e (ids-outer x δ))
    (λ m. Memᴰ.cast (Memᴰ.eq_of_singleton m) (ids-lookup x δ _ (order-inner (lookup x δ) _ (order-root (inner (lookup x δ))))))
    (Memᴰ.cases_cons (fv-alone s _ u h))
free-ids (each y us e) δ s u h =
    fv-each y us δ s _ _ (λ v m. free-ids e (within y us δ s) (s + (1 + length us)) v m) u (rw (code-each y us δ e s) at h)
free-ids (guard g us e) δ s u h =
    fv-guard g us δ s _ _ (λ v m. free-ids e (pack_trees us δ (s + 2)) (s + (2 + packs_size us)) v m) u (rw (code-guard g us δ s e) at h)

pub dv-alone : {u : ℕ} (s : ℕ) (t : Transducer) → u ∈ dv s (define t done) → (s ≤ u) × (u < s + 1)
unfolding dv
dv-alone s t h = let e = Memᴰ.eq_of_singleton h in (omega arith, omega arith)

pub dv-lead : {u : ℕ} (r s : ℕ) → u ∈ dv s (lead r s) → (s ≤ u) × (u < s + 2)
dv-lead r s h = dv-flagging (ToFlags (id r)) s h

dv-iota : {u : ℕ} (r s : ℕ) → u ∈ dv s (lead r s ⨾ (ones s ⨾ totals s)) → (s ≤ u) × (u < s + 4)
dv-iota r s h =
    ⊎_elim (λ m. let e = dv-lead r s m in (omega arith, omega arith))
    (λ m.
    ⊎_elim (λ k. let e = dv-ones (s + 2) s k in (omega arith, omega arith)) (λ k. let e = dv-alone (s + 2 + 1) _ k in (omega arith, omega arith))
    (of-dv-seq (s + 2) 1 (ones s) (totals s) (count_ones s) m))
    (of-dv-seq s 2 (lead r s) (ones s ⨾ totals s) (count-lead r s) h)

-- a formula's code defines ids from where it starts, as many as its size says
pub defined-next : {Γ : List ValueType} {τ : ValueType} {u : ℕ} (e : Term Γ τ) (δ : All IdTree Γ) (s : ℕ) → u ∈ dv s (code e δ s) → (s ≤ u) × (u < s + size e)
unfolding code size
defined-next {u = u} (var x) δ s h = let none : u ∈ [] = unfold dv in h in absurd (Memᴰ.not-nil none)
defined-next (bind e₁ e₂) δ s h =
    ⊎_elim (λ m. let r = defined-next e₁ δ s m in (omega arith, omega arith))
    (λ m. let r = defined-next e₂ (tree e₁ δ s ▹ δ) (s + size e₁) m in (omega arith, omega arith))
    (of-dv-seq s (size e₁) (code e₁ δ s) (code e₂ (tree e₁ δ s ▹ δ) (s + size e₁)) (count_code e₁ δ s) h)
defined-next (const b e) δ s h = dv-alone s _ h
defined-next (iota x) δ s h = dv-iota _ s (rw (code-iota x δ s) at h)
defined-next (operation o x y) δ s h = dv-alone s _ h
defined-next (negation x) δ s h = dv-alone s _ h
defined-next (sum x) δ s h = dv-alone s _ h
defined-next (each y us e) δ s h =
    ⊎_elim (λ r. (omega arith, omega arith))
    (λ m. let r = defined-next e (within y us δ s) (s + (1 + length us)) m in (omega arith, omega arith))
    (of-dv-each y us δ s _ _ (rw (code-each y us δ e s) at h))
defined-next (guard g us e) δ s h =
    ⊎_elim (λ r. (omega arith, omega arith))
    (λ m. let r = defined-next e (pack_trees us δ (s + 2)) (s + (2 + packs_size us)) m in (omega arith, omega arith))
    (of-dv-guard g us δ s _ _ (rw (code-guard g us δ s e) at h))

-- so where the environment's ids are given out before s, so are all ids that the code uses
pub free-below : {Γ : List ValueType} {τ : ValueType} {s : ℕ} (e : Term Γ τ) (δ : All IdTree Γ) → Below s (ids_of δ) → Below s (fv s (code e δ s))
free-below {s = s} e δ below u m = below u (free-ids e δ s u m)
