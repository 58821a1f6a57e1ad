-- A body that is not run: it adds as many streams as its run would, each empty, and its tree holds the results of no environments at all.
use Prim.Native.Nat.{ℕ, suc, ◌+◌}
use native.Mathlib.Omega.{arith}
use mathlib.Core.Path.{◌≡◌, refl, ap, ◌∙◌, sym, subst}
use mathlib.Core.List.{List, [], ◌∷◌, ◌++◌, append_assoc, append-nil}
use mathlib.Core.Option.{some}
use lib.ListN.{length, length-append, length-map}
use lib.Seq.{append_snoc}
use Rattle.laws.proofs.Lists.{get_elem?-append-left, get_elem?-append-seam, get_elem?-append-add}
use Rattle.snesl.specs.declared.code.Base.{Base}
use Rattle.snesl.specs.declared.code.Base.TheVariants as base
use Rattle.snesl.specs.declared.code.Transducer.TheVariants.{Distr, Pack}
use Rattle.snesl.specs.Values.{ValueType, scalar, braces, bool, depth_of, Element, Val, result_of}
use Rattle.snesl.specs.Terms.{◌∋◌, here, there, Term, var, bind, const, iota, operation, negation, sum, each, guard, Listing, Scalars, any_type, listed_types, All, ∅, ◌▹◌, lookup}
use Rattle.snesl.specs.Streams.{ints, flags, units, bare, data_of, data_kind, base_in, Store, ◌!◌}
use Rattle.snesl.specs.Trees.{Tree, IdTree, leaf, node, inner, outer, root}
use Rattle.snesl.specs.Transducers.{empty}
use Rattle.snesl.specs.Programs.{Program, done, define, with_ctrl, ◌⨾◌, count}
use Rattle.snesl.specs.Machine.{skipped}
use Rattle.snesl.specs.Translation.{id, pack_size, packs_size, size, pack_tree, pack_trees, tree, pack_code, pack_codes, constant_of, code, distrs, controlled, within}
use Rattle.snesl.specs.Representation.{Holds, holds-leaf, holds-node, concat, segments}
use Rattle.snesl.specs.Agreement.{Agrees}
use Rattle.snesl.proofs.Compiled.Packing.{count-pack, count-packs}
use Rattle.snesl.proofs.Compiled.Freshness.{count_code}
use Rattle.snesl.proofs.Correctness.Grown.{holds-grown, held-data, held-flags, held_inner, agrees-grown, holds-new, new-stream, old-stream, next-id}
use Rattle.snesl.proofs.Correctness.Inside.{copied, copies, agrees-inside}

-- a sequence: its second part in the store that the first leaves
skipped-sequence : (σ : Store) (p q : Program) → skipped σ (p ⨾ q) ≡ skipped σ p ++ skipped (σ ++ skipped σ p) q
unfolding skipped ◌⨾◌
skipped-sequence σ done q = rw (append-nil σ)
skipped-sequence σ (define t p) q =
    let a = empty σ t in
    ap (λ l. a ∷ l) (skipped-sequence (σ ++ a ∷ []) p q ∙ rw (append_snoc σ a (skipped (σ ++ a ∷ []) p)))
skipped-sequence σ (with_ctrl outs c ins b p) q =
    let l = skipped σ b in
    let r = skipped (σ ++ l) p in
    ap (λ k. l ++ k) (skipped-sequence (σ ++ l) p q)
    ∙ rw (append_assoc σ l r) (sym (append_assoc l r (skipped (σ ++ (l ++ r)) q)))

-- a copy has its variable's kind
bare-data : (b : Base) → bare (data_kind b) ≡ data_of b []
bare-data base.Int = refl
bare-data base.Bool = refl

data-base : (b : Base) (vs : List (Element b)) → base_in (some (data_of b vs)) ≡ b
data-base base.Int vs = refl
data-base base.Bool vs = refl

empty-copy : (σ : Store) (s t : ℕ) (c : Base) (vs : List (Element c)) → σ ! t ≡ some (data_of c vs) → empty σ (Distr (id s) (id t)) ≡ data_of c []
empty-copy σ s t c vs h = ap (λ o. bare (data_kind (base_in o))) h ∙ ap (λ k. bare (data_kind k)) (data-base c vs) ∙ bare-data c

skipped-distrs : {Γ : List ValueType} {υ : ValueType} (y : Γ ∋ braces υ) (b : ℕ) (us : Scalars Γ) (δ : All IdTree Γ) (p : Program) (σ : Store)
    → Agrees σ δ []
    → skipped σ (distrs b us δ p) ≡ copies y [] us ++ skipped (σ ++ copies y [] us) p
unfolding skipped distrs concat
skipped-distrs y b [] δ p σ a = rw (append-nil σ)
skipped-distrs y b (u ∷ us) δ p σ a =
    let c = copied y [] u in
    let e : empty σ (Distr (id b) (id (root (lookup u.1 δ)))) ≡ c = empty-copy σ b (root (lookup u.1 δ)) u.0 [] (held-data (a.holds u.1)) in
    rw e
    (ap (λ l. c ∷ l) (skipped-distrs y b us δ p (σ ++ c ∷ []) (agrees-grown (c ∷ []) a) ∙ rw (append_snoc σ c (copies y [] us))))

length-skipped : (σ : Store) (p : Program) → length (skipped σ p) ≡ count p
unfolding skipped count
length-skipped σ done = refl
length-skipped σ (define t p) = ap suc (length-skipped (σ ++ empty σ t ∷ []) p)
length-skipped σ (with_ctrl outs c ins b p) =
    let l = skipped σ b in
    omega (arith, length-append l (skipped (σ ++ l) p), length-skipped σ b, length-skipped (σ ++ l) p)

pub skipped-size : {Γ : List ValueType} {τ : ValueType} (σ : Store) (e : Term Γ τ) (δ : All IdTree Γ) (s : ℕ) → length (skipped σ (code e δ s)) ≡ size e
skipped-size σ e δ s = length-skipped σ (code e δ s) ∙ count_code e δ s

agrees-empty : {Γ : List ValueType} {υ : ValueType} {σ : Store} {δ : All IdTree Γ} {st : IdTree υ}
    → Holds σ υ st []
    → Agrees σ δ []
    → Agrees σ (◌▹◌ {τ = υ} st δ) []
unfolding lookup
agrees-empty {Γ} {υ} {σ} {δ} {st} h a = record { holds = go }
  where
    go : {τ : ValueType} (x : (υ ∷ Γ) ∋ τ) → Holds σ τ (lookup x (◌▹◌ {τ = υ} st δ)) []
    go here = h
    go (there x) = a.holds x

skipped-each : {Γ : List ValueType} {υ τ : ValueType} (y : Γ ∋ braces υ) (us : Scalars Γ) (e : Term (υ ∷ listed_types (any_type us)) τ) (δ : All IdTree Γ) (s : ℕ)
    (σ : Store)
    → Agrees σ δ []
    → skipped σ (code (each y us e) δ s)
    ≡ (units 0 ∷ copies y [] us) ++ skipped (σ ++ units 0 ∷ copies y [] us) (code e (within y us δ s) (s + (1 + length us)))
unfolding skipped code
skipped-each y us e δ s σ a =
    let i = s + (1 + length us) in
    let b = code e (within y us δ s) i in
    ap (λ l. units 0 ∷ l)
    (skipped-distrs y (outer (lookup y δ)) us δ (controlled s i b (tree e (within y us δ s) i)) (σ ++ units 0 ∷ []) (agrees-grown (units 0 ∷ []) a)
    ∙ ap (λ l. copies y [] us ++ l)
    (append-nil (skipped ((σ ++ units 0 ∷ []) ++ copies y [] us) b) ∙ ap (λ l. skipped l b) (append_snoc σ (units 0) (copies y [] us))))

-- packing that is skipped: the kind of what is packed stays, whatever the bools' stream is
empty-packed : (σ : Store) (s t : ℕ) (c : Base) (vs : List (Element c)) → σ ! t ≡ some (data_of c vs) → empty σ (Pack (id s) (id t)) ≡ data_of c []
empty-packed σ s t c vs h = ap (λ o. bare (data_kind (base_in o))) h ∙ ap (λ k. bare (data_kind k)) (data-base c vs) ∙ bare-data c

pub skipped-pack-size : (τ : ValueType) (b : ℕ) (t : IdTree τ) (s : ℕ) (σ : Store) → length (skipped σ (pack_code b t s)) ≡ pack_size (depth_of τ)
skipped-pack-size τ b t s σ = length-skipped σ (pack_code b t s) ∙ count-pack b t s

-- a level of lists: its flags, whatever the spread bools are, its control, and its items
skipped-level : {d : ℕ} (b : ℕ) (t : Tree ℕ d) (l s : ℕ) (σ : Store)
    → σ ++ skipped σ (pack_code b (node t l) s)
    ≡ ((((σ ++ flags [] ∷ []) ++ empty (σ ++ flags [] ∷ []) (Distr (id l) (id b)) ∷ []) ++ units 0 ∷ [])
    ++ skipped (((σ ++ flags [] ∷ []) ++ empty (σ ++ flags [] ∷ []) (Distr (id l) (id b)) ∷ []) ++ units 0 ∷ []) (pack_code (s + 1) t (s + 3)))
unfolding skipped pack_code
skipped-level b t l s σ = simp (append_assoc, append-nil)

pub skipped-pack : (τ : ValueType) (b : ℕ) (t : IdTree τ) (s : ℕ) (σ : Store)
    → length σ ≡ s
    → Holds σ τ t []
    → Holds (σ ++ skipped σ (pack_code b t s)) τ (pack_tree t s) []
unfolding pack_tree concat segments root outer inner
skipped-pack (scalar c) b (leaf x) s σ h k =
    unfold pack_code skipped in rw (empty-packed σ b x c [] (held-data k)) (holds-new σ c [] h)
skipped-pack (braces τ) b (node t l) s σ h k =
    let one = σ ++ flags [] ∷ [] in
    let q = empty one (Distr (id l) (id b)) in
    let two = one ++ q ∷ [] in
    let three = two ++ units 0 ∷ [] in
    let next : length three ≡ s + 3 = next-id two (units 0) (next-id one q (next-id σ (flags []) h)) ∙ omega arith in
    rw (skipped-level b t l s σ)
    (holds-node (get_elem?-append-left three _ s (old-stream two (units 0) s (old-stream one q s (new-stream σ (flags []) h))))
    (skipped-pack τ (s + 1) t (s + 3) three next (holds-grown (units 0 ∷ []) (holds-grown (q ∷ []) (holds-grown (flags [] ∷ []) (held_inner k))))))

pub no-variables : {σ : Store} (ρs : List (All Val [])) → Agrees σ ∅ ρs
no-variables {σ} ρs = record { holds = λ x. elim x [ ] }

pub skipped-packs : {Γ : List ValueType} (b : ℕ) (us : Listing Γ) (δ : All IdTree Γ) (s : ℕ) (σ : Store)
    → length σ ≡ s
    → Agrees σ δ []
    → Agrees (σ ++ skipped σ (pack_codes b us δ s)) (pack_trees us δ s) []
unfolding pack_codes pack_trees
skipped-packs b [] δ s σ h a = no-variables []
skipped-packs b (u ∷ us) δ s σ h a =
    let t = lookup u.1 δ in
    let l = skipped σ (pack_code b t s) in
    let i = s + pack_size (depth_of u.0) in
    let r = skipped (σ ++ l) (pack_codes b us δ i) in
    rw (skipped-sequence σ (pack_code b t s) (pack_codes b us δ i), ← append_assoc σ l r)
    (agrees-empty (holds-grown r (skipped-pack u.0 b t s σ h (a.holds u.1)))
    (skipped-packs b us δ i (σ ++ l) (omega (arith, length-append σ l, skipped-pack-size u.0 b t s σ)) (agrees-grown l a)))

-- a guard: its flags, its control, the packing, and then its body
skipped-guard : {Γ : List ValueType} {τ : ValueType} (g : Γ ∋ bool) (us : Listing Γ) (e : Term (listed_types us) τ) (δ : All IdTree Γ) (s : ℕ) (σ : Store)
    → let b = root (lookup g δ) in
    let one = (σ ++ flags [] ∷ []) ++ units 0 ∷ [] in
    let two = one ++ skipped one (pack_codes b us δ (s + 2)) in
    σ ++ skipped σ (code (guard g us e) δ s) ≡ two ++ skipped two (code e (pack_trees us δ (s + 2)) (s + (2 + packs_size us)))
unfolding skipped code
skipped-guard g us e δ s σ =
    let a = s + (2 + packs_size us) in
    let δ' = pack_trees us δ (s + 2) in
    rw (skipped-sequence ((σ ++ flags [] ∷ []) ++ units 0 ∷ []) (pack_codes (root (lookup g δ)) us δ (s + 2)) (controlled (s + 1) a (code e δ' a) (tree e δ' a)))
    (simp (append_assoc, append-nil))

empty_constant : (σ : Store) (b : Base) (e : Element b) → empty σ (constant_of b e) ≡ data_of b []
empty_constant σ base.Int e = refl
empty_constant σ base.Bool e = refl

pub skipping : {Γ : List ValueType} {τ : ValueType} (e : Term Γ τ) (δ : All IdTree Γ) (s : ℕ) (σ : Store)
    → length σ ≡ s
    → Agrees σ δ []
    → Holds (σ ++ skipped σ (code e δ s)) τ (tree e δ s) []
unfolding skipped code tree ◌⨾◌ concat segments
skipping (var x) δ s σ h a = holds-grown [] (a.holds x)
skipping (bind e₁ e₂) δ s σ h a =
    let l = skipped σ (code e₁ δ s) in
    let p = code e₂ (tree e₁ δ s ▹ δ) (s + size e₁) in
    rw (skipped-sequence σ (code e₁ δ s) p)
    (rw (append_assoc σ l (skipped (σ ++ l) p)) at
    (skipping e₂ (tree e₁ δ s ▹ δ) (s + size e₁) (σ ++ l)
    (omega (arith, length-append σ l, skipped-size σ e₁ δ s))
    (agrees-empty (skipping e₁ δ s σ h a) (agrees-grown l a))))
skipping (const b e) δ s σ h a = rw (empty_constant σ b e) (holds-new σ b [] h)
skipping (iota x) δ s σ h a =
    let l = flags [] ∷ units 0 ∷ ints [] ∷ ints [] ∷ [] in
    holds-node (subst (λ s. (σ ++ l) ! s ≡ some (flags [])) h (get_elem?-append-seam σ (flags []) (units 0 ∷ ints [] ∷ ints [] ∷ [])))
    (holds-leaf (subst (λ s. (σ ++ l) ! (s + 3) ≡ some (ints [])) h (get_elem?-append-add σ l 3)))
skipping (operation o x y) δ s σ h a = rw (bare-data (result_of o)) (holds-new σ (result_of o) [] h)
skipping (negation x) δ s σ h a = holds-new σ base.Bool [] h
skipping (sum x) δ s σ h a = holds-new σ base.Int [] h
skipping (each y us e) δ s σ h a =
    let l = units 0 ∷ copies y [] us in
    let b = code e (within y us δ s) (s + (1 + length us)) in
    rw (skipped-each y us e δ s σ a)
    (rw (← append_assoc σ l (skipped (σ ++ l) b))
    (holds-node (held-flags (holds-grown _ (holds-grown l (a.holds y))))
    (skipping e (within y us δ s) (s + (1 + length us)) (σ ++ l)
    (omega (arith, length-append σ l, length-map us (copied y [])))
    (agrees-inside y [] us h a))))
skipping (guard g us e) δ s σ h a =
    let b = root (lookup g δ) in
    let one = (σ ++ flags [] ∷ []) ++ units 0 ∷ [] in
    let l = skipped one (pack_codes b us δ (s + 2)) in
    let first : length one ≡ s + 2 = next-id (σ ++ flags [] ∷ []) (units 0) (next-id σ (flags []) h) ∙ omega arith in
    let i = s + (2 + packs_size us) in
    let δ' = pack_trees us δ (s + 2) in
    let next : length (one ++ l) ≡ i = omega (arith, length-append one l, length-skipped one (pack_codes b us δ (s + 2)), count-packs b us δ (s + 2)) in
    rw (skipped-guard g us e δ s σ)
    (holds-node (get_elem?-append-left (one ++ l) _ s (get_elem?-append-left one l s (old-stream (σ ++ flags [] ∷ []) (units 0) s (new-stream σ (flags []) h))))
    (skipping e δ' i (one ++ l) next (skipped-packs b us δ (s + 2) one first (agrees-grown (units 0 ∷ []) (agrees-grown (flags [] ∷ []) a)))))
