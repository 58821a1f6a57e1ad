-- P-WC-EMP's side condition holds wherever compiled code is run: a body's inputs are streams of its environment, and under an empty control
-- that environment holds no values at all.
use Prim.Native.Nat.{ℕ, suc, ◌+◌}
use native.Mathlib.Omega.{arith}
use mathlib.Core.Path.{◌≡◌, refl, ap, ◌∙◌, subst}
use mathlib.Core.Bool.{Bool}
use mathlib.Core.List.Memᴰ
use mathlib.Core.List.{List, [], ◌∷◌, map, zip_with, Memᴰ}
use mathlib.Core.Option.{Option, some}
use mathlib.Core.Logic.{⊎_elim}
use lib.ListN.{length, length-map}
use Rattle.snesl.specs.declared.code.Transducer.{Transducer}
use Rattle.snesl.specs.declared.code.Transducer.TheVariants.{Distr}
use Rattle.snesl.specs.Values.{ValueType, scalar, braces, int, bool, depth_of, Val}
use Rattle.snesl.specs.Terms.{◌∋◌, Term, var, bind, const, iota, operation, negation, sum, each, guard, Listing, Scalars, any_type, listed_types, All, ◌▹◌, lookup}
use Rattle.snesl.specs.Evaluation.{eval, all_of}
use Rattle.snesl.specs.Streams.{Stream, bools, flags, units, data_of, Store, ◌!◌}
use Rattle.snesl.specs.Trees.{IdTree, leaf, node, order, inner, outer, root}
use Rattle.snesl.specs.Transducers.{apply, made}
use Rattle.snesl.specs.Programs.{Program, done, define, with_ctrl, ◌⨾◌, fv, ascending, without}
use Rattle.snesl.specs.Machine.{State, Result, went, onward, push, step, run, boundless}
use Rattle.snesl.specs.Translation.{pack_size, packs_size, size, pack_trees, tree, pack_code, pack_codes, code, id, distrs, controlled, within}
use Rattle.snesl.specs.Agreement.{Agrees, Ran, ComesTo, ran, halted}
use Rattle.snesl.specs.Representation.{Holds, holds-leaf, holds-node, concat, segments}
use Rattle.snesl.specs.SideCondition.{Empty, Proper, proper-done, proper-define, proper-with_ctrl}
use Rattle.snesl.proofs.Compiled.Members.{of-ascending}
use Rattle.snesl.proofs.Compiled.Packing.{free-pack}
use Rattle.snesl.proofs.Correctness.AllOf.{Each, each-cons, each_of}
use Rattle.snesl.proofs.Correctness.Environments.{bound, length-bound, inside_all, items, passed_all}
use Rattle.snesl.proofs.Correctness.Charged.{chosen, item, paired}
use Rattle.snesl.proofs.Correctness.Grown.{held-data, held-flags, held_inner, agrees-grown}
use Rattle.snesl.proofs.Correctness.Applied.{apply-usum, apply-distr, len-data}
use Rattle.snesl.proofs.Correctness.Inside.{copied}
use Rattle.snesl.proofs.Correctness.Comprehension.{copying, preparing, counted, body-start, body-control, body-agrees}
use Rattle.snesl.proofs.Correctness.Packing as Packing
use Rattle.snesl.proofs.Correctness.Packing.{opened, packing, packing-all}
use Rattle.snesl.proofs.Correctness.Guard as Guard
use Rattle.snesl.proofs.Correctness.Correct.{correct, let-start, let-agrees}
use Rattle.snesl.proofs.Correctness.RunParts.{run_step, step-made, run-sequence}

-- a tree that holds no values names empty streams
holds-empty : {σ : Store} {τ : ValueType} {u : ℕ} {st : IdTree τ} → Holds σ τ st [] → Memᴰ u (order st) → Empty σ u
unfolding order segments concat
holds-empty {σ} (holds-leaf {b = b} {s = s} h) k = rw (Memᴰ.eq_of_singleton k) (record { stream = data_of b []; there-is = h; no-elements = len-data b [] })
holds-empty {σ} {u = u} (holds-node {s = s} {st = st} h k) i = ⊎_elim (λ j. holds-empty k j) last (Memᴰ.append_cases (order st) i)
  where
    last : Memᴰ u (s ∷ []) → Empty σ u
    last j = rw (Memᴰ.eq_of_singleton j) (record { stream = flags []; there-is = h; no-elements = refl })

proper-last : {t : Transducer} {n : ℕ} {m : State} → Proper (define t done) n m
proper-last = proper-define (λ m' h. proper-done)

proper-made : {t : Transducer} {p : Program} {n : ℕ} {m : State} {a : Stream} → apply t n m.store ≡ made a → Proper p n (push t n a m) → Proper (define t p) n m
proper-made {t} {p} {n} {m} {a} h k = proper-define (λ m' e. subst (λ m. Proper p n m) (same m' e) k)
  where
    same : (m' : State) → step boundless t n m ≡ went m' → push t n a m ≡ m'
    same m' e = cc (step-made t n m h)

proper-sequence : {p q : Program} {n : ℕ} {m : State} → Proper p n m → ((m' : State) → run boundless p n m ≡ went m' → Proper q n m') → Proper (p ⨾ q) n m
unfolding ◌⨾◌ run
proper-sequence (proper-done {m = m}) g = g m refl
proper-sequence (proper-define {t = t} {p = p} {n = n} {m = m} f) g =
    proper-define (λ m' e. proper-sequence (f m' e) (λ m'' k. g m'' (run_step t p n m e ∙ k)))
proper-sequence (proper-with_ctrl {outs = outs} {ins = ins} {c = c} {b = b} {p = p} {n = n} {m = m} f h k) g =
    proper-with_ctrl f h
    (λ m' e. proper-sequence (k m' e)
    (λ m'' z. g m''
    (run-sequence boundless (with_ctrl outs c ins b done) p n m ∙ ap (λ r. onward r (run boundless p n)) e ∙ z)))

module _ {Γ : List ValueType} {υ : ValueType} (y : Γ ∋ braces υ) (δ : All IdTree Γ) (ρs : List (All Val Γ)) (p : Program) where
  proper-distrs : (us : Scalars Γ) (m : State) (a : Agrees m.store δ ρs)
      → Proper p (length ρs) (copying y δ ρs p us m a).0
      → Proper (distrs (outer (lookup y δ)) us δ p) (length ρs) m
  unfolding distrs copying
  proper-distrs [] m a k = k
  proper-distrs (u ∷ us) m a k =
      proper-made (apply-distr m.store (lookup y) u.0 (lookup u.1) ρs (outer (lookup y δ)) (root (lookup u.1 δ)) (held-flags (a.holds y)) (held-data (a.holds u.1)))
      (proper-distrs us (push (Distr (id (outer (lookup y δ))) (id (root (lookup u.1 δ)))) (length ρs) (copied y ρs u) m) (agrees-grown (copied y ρs u ∷ []) a) k)

-- what a body takes in are streams of its environment's trees
pub record TakesItsEnvironment : Type 0 where
  pub takes : {Γ : List ValueType} {τ : ValueType} (e : Term Γ τ) (δ : All IdTree Γ) (s u : ℕ)
      → Memᴰ u (ascending (fv s (code e δ s)))
      → (υ : ValueType) × (x : Γ ∋ υ) × Memᴰ u (order (lookup x δ))

-- Proper for every list of environments
abbrev pub Always : {Γ : List ValueType} {τ : ValueType} → Term Γ τ → Type 0
Always {Γ} e =
    (δ : All IdTree Γ) (ρ : All Val Γ) (ρs : List (All Val Γ)) (s : ℕ) (m : State)
    → length m.store ≡ s
    → Agrees m.store δ (ρ ∷ ρs)
    → Proper (code e δ s) (length (ρ ∷ ρs)) m

always-iota : {Γ : List ValueType} (x : Γ ∋ int) → Always (iota x)
unfolding code ◌⨾◌ fv ascending without
always-iota x δ ρ ρs s m first a =
    proper-define (λ m₁ h₁. proper-define (λ m₂ h₂. proper-with_ctrl (λ h u k. absurd (Memᴰ.not-nil k)) (λ j h. proper-last) (λ m' h. proper-last)))

same_units : {o : Option Stream} {i j : ℕ} → o ≡ some (units i) → o ≡ some (units j) → i ≡ j
same_units p q = cc

no-units : {o : Option Stream} {j : ℕ} → o ≡ some (units 0) → o ≡ some (units (suc j)) → ⊥
no-units p q = omega (arith, same_units p q)

module _ {Γ : List ValueType} {τ : ValueType} (its : TakesItsEnvironment) (e : Term Γ τ) (always : Always e) where
  proper-body : (δ : All IdTree Γ) (s c n : ℕ) (outs : List ℕ) (m : State)
      → length m.store ≡ s
      → (ρs : List (All Val Γ))
      → Agrees m.store δ ρs
      → m.store ! c ≡ some (units (length ρs))
      → Proper (with_ctrl outs c (ascending (fv s (code e δ s))) (code e δ s) done) n m
  proper-body δ s c n outs m first [] a h =
      proper-with_ctrl
      (λ z u k. let (b, x, i) = its.takes e δ s u k in holds-empty (a.holds x) i)
      (λ j z. absurd (no-units h z))
      (λ m' z. proper-done)
  proper-body δ s c n outs m first (ρ ∷ ρs) a h =
      proper-with_ctrl
      (λ z u k. absurd (no-units z h))
      (λ j z. subst (λ n. Proper (code e δ s) n m) (same_units h z) (always δ ρ ρs s m first a))
      (λ m' z. proper-done)

module _ {Γ : List ValueType} {υ τ : ValueType} (its : TakesItsEnvironment) (y : Γ ∋ braces υ) (us : Scalars Γ) (e : Term (υ ∷ listed_types (any_type us)) τ) where
  always-each : Always e → Always (each y us e)
  unfolding code
  always-each always δ ρ ρs s m first a =
      let b = outer (lookup y δ) in
      let start = s + (1 + length us) in
      let p = controlled s start (code e (within y us δ s) start) (tree e (within y us δ s) start) in
      let one = counted y us e δ s ρ ρs m in
      let grown : Agrees one.store δ (ρ ∷ ρs) = agrees-grown (units (items y (ρ ∷ ρs)) ∷ []) a in
      let (m', copied) = copying y δ (ρ ∷ ρs) p us one grown in
      let prepared = preparing y us e δ s ρ ρs m p m' a copied in
      proper-made (apply-usum m.store (map (lookup y) (ρ ∷ ρs)) (length (ρ ∷ ρs)) b (length-map (ρ ∷ ρs) (lookup y)) (held-flags (a.holds y)))
      (proper-distrs y δ (ρ ∷ ρs) p us one grown
      (proper-body its e always (within y us δ s) start s (length (ρ ∷ ρs)) _ m' (body-start y us e δ s ρ ρs m m' prepared first) (inside_all y us (ρ ∷ ρs))
      (body-agrees y us e δ s ρ ρs m m' prepared first a)
      (body-control y us e δ s ρ ρs m m' prepared first)))

-- packing: a level's items take in its spread bools and their own streams, all empty where there is no item
module _ (τ : ValueType) {R : Type 0} (f : R → Bool) (h : R → Val τ) (b c n s : ℕ) (outs : List ℕ) (t : IdTree τ) (m : State)
    (below : (r : R) (rs : List R)
    → m.store ! b ≡ some (bools (map f (r ∷ rs)))
    → Holds m.store τ t (map h (r ∷ rs))
    → Proper (pack_code b t s) (length (r ∷ rs)) m) where
  proper-items : (rs : List R)
      → m.store ! b ≡ some (bools (map f rs))
      → m.store ! c ≡ some (units (length rs))
      → Holds m.store τ t (map h rs)
      → Proper (with_ctrl outs c (ascending (fv s (pack_code b t s))) (pack_code b t s) done) n m
  proper-items [] bs us k = proper-with_ctrl (λ z u i. taken u (free-pack b t s u (of-ascending (fv s (pack_code b t s)) i))) (λ j z. absurd (no-units us z)) (λ m' z. proper-done)
    where
      taken : (u : ℕ) → Memᴰ u (b ∷ order t) → Empty m.store u
      taken u i = ⊎_elim (λ e. rw e (record { stream = bools []; there-is = bs; no-elements = refl })) (λ j. holds-empty k j) (Memᴰ.cases_cons i)
  proper-items (r ∷ rs) bs us k =
      proper-with_ctrl (λ z u i. absurd (no-units z us)) (λ j z. subst (λ n. Proper (pack_code b t s) n m) (same_units us z) (below r rs bs k)) (λ m' z. proper-done)

proper-pack : (τ : ValueType) {R : Type 0} (f : R → Bool) (h : R → Val τ) (r : R) (rs : List R) (b : ℕ) (t : IdTree τ) (s : ℕ) (m : State)
    → length m.store ≡ s
    → m.store ! b ≡ some (bools (map f (r ∷ rs)))
    → Holds m.store τ t (map h (r ∷ rs))
    → Proper (pack_code b t s) (length (r ∷ rs)) m
unfolding pack_code outer inner
proper-pack (scalar c) f h r rs b (leaf x) s m first bs k = proper-last
proper-pack (braces τ) f h r rs b (node t l) s m first bs k =
    let one = opened τ f h (r ∷ rs) b l s m in
    let next = Packing.opened-next τ f h (r ∷ rs) b l s m first in
    proper-made (Packing.upacked τ f h (r ∷ rs) b l s m first bs (held-flags k))
    (proper-made (Packing.distributed τ f h (r ∷ rs) b l s m first bs (held-flags k))
    (proper-made (Packing.summed τ f h (r ∷ rs) b l s m first bs (held-flags k))
    (proper-items τ chosen item (s + 1) (s + 2) (length (r ∷ rs)) (s + 3) _ t one (λ p ps bs k. proper-pack τ chosen item p ps (s + 1) t (s + 3) one next bs k)
    (paired f h (r ∷ rs))
    (Packing.opened-bools τ f h (r ∷ rs) b l s m first)
    (Packing.opened-units τ f h (r ∷ rs) b l s m first)
    (Packing.opened-items τ f h (r ∷ rs) b l s m first t (held_inner k)))))

-- a run that is known to end somewhere ends there
same_end : {r : Result} {m m' : State} → r ≡ went m → r ≡ went m' → m ≡ m'
same_end p q = cc

proper-packs : {Γ : List ValueType} (g : Γ ∋ bool) (us : Listing Γ) (δ : All IdTree Γ) (s : ℕ) (ρ : All Val Γ) (ρs : List (All Val Γ)) (m : State)
    → length m.store ≡ s
    → Agrees m.store δ (ρ ∷ ρs)
    → Proper (pack_codes (root (lookup g δ)) us δ s) (length (ρ ∷ ρs)) m
unfolding pack_codes
proper-packs g [] δ s ρ ρs m first a = proper-done
proper-packs g (u ∷ us) δ s ρ ρs m first a =
    let b = root (lookup g δ) in
    let n = pack_size (depth_of u.0) in
    let bs : m.store ! b ≡ some (bools (map (lookup g) (ρ ∷ ρs))) = held-data (a.holds g) in
    let (one, w) = packing u.0 (lookup g) (lookup u.1) ρ ρs b (lookup u.1 δ) s m first bs (a.holds u.1) in
    proper-sequence (proper-pack u.0 (lookup g) (lookup u.1) ρ ρs b (lookup u.1 δ) s m first bs (a.holds u.1))
    (λ m' e.
    subst (λ m. Proper (pack_codes b us δ (s + n)) (length (ρ ∷ ρs)) m) (same_end w.runs e)
    (proper-packs g us δ (s + n) ρ ρs one (Packing.packed-next w first) (rw w.store (agrees-grown w.added a))))

module _ {Γ : List ValueType} {τ : ValueType} (its : TakesItsEnvironment) (g : Γ ∋ bool) (us : Listing Γ) (e : Term (listed_types us) τ) where
  always-guard : Always e → Always (guard g us e)
  unfolding code
  always-guard always δ ρ ρs s m first a =
      let n = length (ρ ∷ ρs) in
      let start = s + (2 + packs_size us) in
      let δ' = pack_trees us δ (s + 2) in
      let p = controlled (s + 1) start (code e δ' start) (tree e δ' start) in
      let one = Guard.counted g us δ s (ρ ∷ ρs) m in
      let next = Guard.counted_next g us δ s (ρ ∷ ρs) m first in
      let grown = Guard.counted-agrees g us δ s (ρ ∷ ρs) m first a in
      let (m', packed) = packing-all g us δ (s + 2) ρ ρs one next grown in
      proper-made (Guard.applied-b2u g us δ s (ρ ∷ ρs) m first a)
      (proper-made (Guard.applied-usum g us δ s (ρ ∷ ρs) m first)
      (proper-sequence (proper-packs g us δ (s + 2) ρ ρs one next grown)
      (λ m'' z.
      subst (λ m. Proper p n m) (same_end packed.runs z)
      (proper-body its e always δ' start (s + 1) n _ m' (Guard.body-start g us e δ s ρ ρs m m' first packed) (passed_all g us (ρ ∷ ρs)) packed.agrees
      (Guard.body-control g us e δ s ρ ρs m m' first packed)))))

-- a run of the first part that went through leaves an environment for the second
module _ {Γ : List ValueType} {υ τ : ValueType} (e₁ : Term Γ υ) (e₂ : Term (υ ∷ Γ) τ) (always : Always e₂) (δ : All IdTree Γ) (ρ : All Val Γ) (ρs : List (All Val Γ)) (s : ℕ) (m : State) where
  proper-second : {o : Option (List (Val υ))} {r : Result} {m' : State}
      → length m.store ≡ s
      → Agrees m.store δ (ρ ∷ ρs)
      → all_of (eval e₁) (ρ ∷ ρs) ≡ o
      → r ≡ went m'
      → ComesTo e₁ δ s (ρ ∷ ρs) m o r
      → Proper (code e₂ (tree e₁ δ s ▹ δ) (s + size e₁)) (length (ρ ∷ ρs)) m'
  unfolding zip_with
  proper-second {m' = m'} first a q e (ran {m' = end} w) =
      subst (λ m. Proper (code e₂ (tree e₁ δ s ▹ δ) (s + size e₁)) (length (ρ ∷ ρs)) m) (cc) (go (each_of (eval e₁) (ρ ∷ ρs) q) w)
    where
      go : {vs : List (Val υ)}
          → Each (eval e₁) (ρ ∷ ρs) vs
          → Ran e₁ δ s (ρ ∷ ρs) m vs end
          → Proper (code e₂ (tree e₁ δ s ▹ δ) (s + size e₁)) (length (ρ ∷ ρs)) end
      go (each-cons {b = v} {r = vs} p h) w =
          subst (λ n. Proper (code e₂ (tree e₁ δ s ▹ δ) (s + size e₁)) n end) (ap suc (length-bound e₁ h))
          (always (tree e₁ δ s ▹ δ) (v ▹ ρ) (bound vs ρs) (s + size e₁) end (let-start e₁ first w) (let-agrees e₁ (each-cons p h) a w))
  proper-second first a q e (halted why low high) = let z : ◌≡◌ {A = ℕ} 0 1 = cc in absurd (omega arith)

pub proper : TakesItsEnvironment → {Γ : List ValueType} {τ : ValueType} (e : Term Γ τ) → Always e
unfolding code
proper its (var x) δ ρ ρs s m first a = proper-done
proper its (bind e₁ e₂) δ ρ ρs s m first a =
    proper-sequence (proper its e₁ δ ρ ρs s m first a)
    (λ m' h. proper-second e₁ e₂ (λ δ ρ ρs s m first a. proper its e₂ δ ρ ρs s m first a) δ ρ ρs s m first a refl h (correct e₁ δ ρ ρs s m first a))
proper its (const b e) δ ρ ρs s m first a = proper-last
proper its (iota x) δ ρ ρs s m first a = always-iota x δ ρ ρs s m first a
proper its (operation o x y) δ ρ ρs s m first a = proper-last
proper its (negation x) δ ρ ρs s m first a = proper-last
proper its (sum x) δ ρ ρs s m first a = proper-last
proper its (each y us e) δ ρ ρs s m first a = always-each its y us e (λ δ ρ ρs s m first a. proper its e δ ρ ρs s m first a) δ ρ ρs s m first a
proper its (guard g us e) δ ρ ρs s m first a = always-guard its g us e (λ δ ρ ρs s m first a. proper its e δ ρ ρs s m first a) δ ρ ρs s m first a
