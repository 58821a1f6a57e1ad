-- Every id that translated code uses is known where it is used. A WithCtrl hides what it does not put out, so this says that no id is used outside the body
-- that defines it unless it is put out, and that a body uses nothing that its WithCtrl does not take in.
use Prim.Native.Nat.{ℕ, suc, ◌+◌}
use native.Mathlib.Omega.{arith}
use native.Mathlib.Nat.{add-zero}
use mathlib.Core.List.Memᴰ
use mathlib.Core.List.{List, [], ◌∷◌, ◌++◌}
use mathlib.Core.Logic.{⊎_elim}
use mathlib.Core.Path.{◌≡◌, refl, sym, ◌∙◌, ap, subst}
use lib.IntN.{pos}
use lib.ListN.{length}
use Rattle.snesl.specs.declared.code.Transducer.{Transducer}
use Rattle.snesl.specs.declared.code.Transducer.TheVariants.{Const, B2u}
use Rattle.snesl.specs.Transducers.{operands}
use Rattle.snesl.specs.Values.{ValueType, braces, bool, depth_of}
use Rattle.snesl.specs.Terms.{◌∋◌, Term, var, bind, const, iota, operation, negation, sum, each, guard, Listing, Scalars, listed_types, All, ◌▹◌, lookup}
use Rattle.snesl.specs.Trees.{Tree, IdTree, leaf, node, inner, root, order}
use Rattle.snesl.specs.Programs.{Program, done, define, ◌⨾◌, count, dv, fv, Within, Scoped, scoped-done, scoped-define, scoped-with_ctrl}
use Rattle.snesl.specs.Translation.{id, pack_size, packs_size, size, numbered, within, pack_tree, pack_trees, tree, distrs, controlled, pack_code, pack_codes, code}
use Rattle.snesl.specs.Ids.{ids_of}
use Rattle.snesl.proofs.Compiled.Members.{◌∈◌, known, to-without}
use Rattle.snesl.proofs.Compiled.Packing.{count-pack, free-pack}
use Rattle.snesl.proofs.Compiled.Sequences.{of-fv-define, of-fv-with_ctrl}
use Rattle.snesl.proofs.Compiled.Freshness.{takes-free, free-taken, fv-alone, ids-root, ids-outer, ids-lookup, order-inner, order-root, of-ids, dv-front, copies, front, count-front, code-each, code-iota, lead, ones}
use Rattle.snesl.proofs.Compiled.Freshness.{totals, count-lead, count_ones, lead-flags, lead-control, ones-puts-out, count_code, result-ids, free-ids, flagging, count-flagging, gate, count-gate, gate-control, gate-packed, code-guard, no-operands}

-- what is free in a scoped program is known to it
pub scoped-free : {ks : List ℕ} {s : ℕ} {p : Program} → Scoped ks s p → Within (fv s p) ks
scoped-free scoped-done u m = let none : u ∈ [] = unfold fv in m in absurd (Memᴰ.not-nil none)
scoped-free {s = s} (scoped-define {t = t} {p = p} uses w) u m =
    ⊎_elim (uses u)
    (λ k. ⊎_elim (λ e. absurd (k.1 (Memᴰ.head e))) (λ j. j) (Memᴰ.cases_cons (scoped-free w u k.0)))
    (of-fv-define s t p m)
scoped-free {s = s} (scoped-with_ctrl {c = c} {outs = outs} {ins = ins} {b = b} {p = p} uses wb w) u m =
    ⊎_elim (uses u)
    (λ k. ⊎_elim (λ j. absurd (k.1 j)) (λ j. j) (Memᴰ.append_cases outs (scoped-free w u k.0)))
    (of-fv-with_ctrl s c outs ins b p m)

-- and a scoped program is scoped wherever that is known
pub scoped-where : {ks ls : List ℕ} {s : ℕ} {p : Program} → Scoped ks s p → Within (fv s p) ls → Scoped ls s p
unfolding fv
scoped-where scoped-done free = scoped-done
scoped-where {ls = ls} {s = s} (scoped-define {t = t} {p = p} uses w) free =
    scoped-define (λ u m. free u (Memᴰ.append_left _ m)) (scoped-where w rest)
  where
    rest : Within (fv (suc s) p) (s ∷ ls)
    rest u m =
        ⊎_elim (λ k. Memᴰ.head (Memᴰ.eq_of_singleton k))
        (λ k. Memᴰ.tail (free u (Memᴰ.append_right (operands t) (to-without (fv (suc s) p) (s ∷ []) m k))))
        (known u (s ∷ []))
scoped-where {ls = ls} {s = s} (scoped-with_ctrl {c = c} {outs = outs} {ins = ins} {b = b} {p = p} uses wb w) free =
    scoped-with_ctrl (λ u m. free u (Memᴰ.append_left _ m)) wb (scoped-where w rest)
  where
    rest : Within (fv (s + count b) p) (outs ++ ls)
    rest u m =
        ⊎_elim (Memᴰ.append_left ls)
        (λ k. Memᴰ.append_right outs (free u (Memᴰ.append_right (c ∷ ins) (to-without (fv (s + count b) p) outs m k))))
        (known u outs)

pub scoped_more : {ks ls : List ℕ} {s : ℕ} {p : Program} → Scoped ks s p → Within ks ls → Scoped ls s p
scoped_more w more = scoped-where w (λ u m. more u (scoped-free w u m))

-- p1; p2, where p2 starts at a and knows what p1 makes known too
pub scoped-seq : {ks : List ℕ} {s a : ℕ} {p q : Program} → Scoped ks s p → s + count p ≡ a → Scoped (dv s p ++ ks) a q → Scoped ks s (p ⨾ q)
unfolding ◌⨾◌ count dv
scoped-seq {ks} {s} {q = q} scoped-done from v = subst (λ k. Scoped ks k q) (sym from ∙ add-zero s) v
scoped-seq {ks} {s} {a} (scoped-define {p = p} uses w) from v =
    scoped-define uses (scoped-seq w next (scoped_more v moved))
  where
    next : suc s + count p ≡ a
    next = omega arith

    moved : Within ((s ∷ dv (suc s) p) ++ ks) (dv (suc s) p ++ s ∷ ks)
    moved u m =
        ⊎_elim (λ e. Memᴰ.append_right (dv (suc s) p) (Memᴰ.head e))
        (λ k. ⊎_elim (Memᴰ.append_left (s ∷ ks)) (λ j. Memᴰ.append_right (dv (suc s) p) (Memᴰ.tail j)) (Memᴰ.append_cases (dv (suc s) p) k))
        (Memᴰ.cases_cons m)
scoped-seq {ks} {s} {a} (scoped-with_ctrl {outs = outs} {b = b} {p = p} uses wb w) from v =
    scoped-with_ctrl uses wb (scoped-seq w next (scoped_more v moved))
  where
    next : s + count b + count p ≡ a
    next = omega arith

    moved : Within ((outs ++ dv (s + count b) p) ++ ks) (dv (s + count b) p ++ (outs ++ ks))
    moved u m =
        ⊎_elim
        (λ k.
        ⊎_elim (λ j. Memᴰ.append_right (dv (s + count b) p) (Memᴰ.append_left ks j)) (Memᴰ.append_left (outs ++ ks)) (Memᴰ.append_cases outs k))
        (λ k. Memᴰ.append_right (dv (s + count b) p) (Memᴰ.append_right outs k))
        (Memᴰ.append_cases (outs ++ dv (s + count b) p) m)

-- a WithCtrl: its body knows what is free in it
scoped-controlled : {ks ls : List ℕ} {d c s : ℕ} {p : Program} (st : Tree ℕ d) → Scoped ks s p → c ∈ ls → Within (fv s p) ls → Scoped ls s (controlled c s p st)
scoped-controlled {c = c} {s = s} {p = p} st w has free =
    scoped-with_ctrl (λ u m. ⊎_elim (λ e. Memᴰ.cast e has) (λ k. free u (free-taken c s p st u k)) (Memᴰ.cases_cons m))
    (scoped-where w (takes-free c s p st))
    scoped-done

scoped-alone : {ks : List ℕ} {s : ℕ} {t : Transducer} → Within (operands t) ks → Scoped ks s (define t done)
scoped-alone uses = scoped-define uses scoped-done

within-one : {r : ℕ} {ks : List ℕ} → r ∈ ks → Within (r ∷ []) ks
within-one h u m = Memᴰ.cast (Memᴰ.eq_of_singleton m) h

within-two : {q r : ℕ} {ks : List ℕ} → q ∈ ks → r ∈ ks → Within (q ∷ r ∷ []) ks
within-two h k u m = ⊎_elim (λ e. Memᴰ.cast e h) (within-one k u) (Memᴰ.cases_cons m)

scoped-iota : {ks : List ℕ} {r : ℕ} (s : ℕ) → r ∈ ks → Scoped ks s (lead r s ⨾ (ones s ⨾ totals s))
scoped-iota {ks} {r} s h =
    scoped-seq (scoped-define (within-one h) (scoped-alone (within-one (Memᴰ.head refl)))) (ap (λ k. s + k) (count-lead r s))
    (scoped-seq
    (scoped-controlled {ks = []} (leaf (s + 2)) (scoped-alone (λ u m. absurd (Memᴰ.not-nil m))) (Memᴰ.append_left ks (lead-control r s)) none)
    (ap (λ k. s + 2 + k) (count_ones s))
    (scoped-alone
    (within-two (Memᴰ.append_right (dv (s + 2) (ones s)) (Memᴰ.append_left ks (lead-flags r s)))
    (Memᴰ.append_left (dv s (lead r s) ++ ks) (ones-puts-out (s + 2) s)))))
  where
    none : Within (fv (s + 2) (define (Const (pos 1)) done)) (dv s (lead r s) ++ ks)
    none u m = absurd (Memᴰ.not-nil (fv-alone (s + 2) (Const (pos 1)) u m))

scoped-copies : {Γ : List ValueType} {ks : List ℕ} {a b : ℕ} (us : Scalars Γ) (δ : All IdTree Γ) → b ∈ ks → Within (ids_of δ) ks → Scoped ks a (copies b us δ)
unfolding distrs
scoped-copies [] δ h all = scoped-done
scoped-copies (v ∷ us) δ h all =
    scoped-define (within-two h (all _ (ids-root v.1 δ))) (scoped-copies us δ (Memᴰ.tail h) (λ u m. Memᴰ.tail (all u m)))

scoped-front : {Γ : List ValueType} {ks : List ℕ} {υ : ValueType} {s : ℕ} (y : Γ ∋ braces υ) (us : Scalars Γ) (δ : All IdTree Γ) → Within (ids_of δ) ks → Scoped ks s (front y us δ)
scoped-front y us δ all =
    let h = all _ (ids-outer y δ) in
    scoped-define (within-one h) (scoped-copies us δ (Memᴰ.tail h) (λ u m. Memᴰ.tail (all u m)))

scoped-flagging : {ks : List ℕ} (s : ℕ) {t : Transducer} → Within (operands t) ks → Scoped ks s (flagging t s)
scoped-flagging s uses = scoped-define uses (scoped-alone (within-one (Memᴰ.head refl)))

scoped-pack : {d b : ℕ} {ks : List ℕ} (t : Tree ℕ d) (s : ℕ) → b ∈ ks → Within (order t) ks → Scoped ks s (pack_code b t s)
unfolding pack_code order
scoped-pack (leaf x) s h all = scoped-alone (within-two h (all x (Memᴰ.head refl)))
scoped-pack {b = b} {ks = ks} (node t f) s h all =
    scoped-define (within-two h flag)
    (scoped-define (within-two (Memᴰ.tail flag) (Memᴰ.tail h)) (scoped-define (within-one (Memᴰ.tail (Memᴰ.tail flag)))
    (items (scoped-pack {ks = (s + 1) ∷ order t} t (s + 3) (Memᴰ.head refl) (λ u m. Memᴰ.tail m)))))
  where
    flag : f ∈ ks
    flag = all f (Memᴰ.append_right (order t) (Memᴰ.head refl))

    ls : List ℕ
    ls = suc (suc s) ∷ suc s ∷ s ∷ ks

    inner-ids : Within ((s + 1) ∷ order t) ls
    inner-ids u m =
        ⊎_elim (λ e. Memᴰ.tail (Memᴰ.head (omega arith)))
        (λ k. Memᴰ.tail (Memᴰ.tail (Memᴰ.tail (all u (Memᴰ.append_left (f ∷ []) k))))) (Memᴰ.cases_cons m)

    items : Scoped ((s + 1) ∷ order t) (s + 3) (pack_code (s + 1) t (s + 3)) → Scoped ls (suc (suc (suc s))) (controlled (s + 2) (s + 3) (pack_code (s + 1) t (s + 3)) (pack_tree t (s + 3)))
    items w =
        subst (λ k. Scoped ls k (controlled (s + 2) (s + 3) (pack_code (s + 1) t (s + 3)) (pack_tree t (s + 3)))) (omega arith)
        (scoped-controlled (pack_tree t (s + 3)) w (Memᴰ.head (omega arith))
        (λ u m. inner-ids u (free-pack (s + 1) t (s + 3) u m)))

scoped-packs : {Γ : List ValueType} {b : ℕ} {ks : List ℕ} (us : Listing Γ) (δ : All IdTree Γ) (s : ℕ) → b ∈ ks → Within (ids_of δ) ks → Scoped ks s (pack_codes b us δ s)
unfolding pack_codes
scoped-packs [] δ s h all = scoped-done
scoped-packs {b = b} {ks = ks} (v ∷ us) δ s h all =
    let t = lookup v.1 δ in
    let made = dv s (pack_code b t s) in
    scoped-seq (scoped-pack t s h (λ u m. all u (ids-lookup v.1 δ u m))) (ap (λ k. s + k) (count-pack b t s))
    (scoped-packs {ks = made ++ ks} us δ (s + pack_size (depth_of v.0)) (Memᴰ.append_right made h) (λ u m. Memᴰ.append_right made (all u m)))

scoped-gate : {Γ : List ValueType} {ks : List ℕ} (g : Γ ∋ bool) (us : Listing Γ) (δ : All IdTree Γ) (s : ℕ) → Within (ids_of δ) ks → Scoped ks s (gate g us δ s)
scoped-gate g us δ s all =
    let r = root (lookup g δ) in
    let h = all r (ids-root g δ) in
    let made = dv s (flagging (B2u (id r)) s) in
    scoped-seq (scoped-flagging s (within-one h)) (ap (λ k. s + k) (count-flagging (B2u (id r)) s))
    (scoped-packs us δ (s + 2) (Memᴰ.append_right made h) (λ u m. Memᴰ.append_right made (all u m)))

-- for δ ⊢ e ⇒ (p, st): p uses only what is known, where all of δ's ids are known
pub scoped-code : {Γ : List ValueType} {ks : List ℕ} {τ : ValueType} (e : Term Γ τ) (δ : All IdTree Γ) (s : ℕ) → Within (ids_of δ) ks → Scoped ks s (code e δ s)
unfolding code
scoped-code (var x) δ s all = scoped-done
scoped-code {ks = ks} (bind e₁ e₂) δ s all =
    scoped-seq (scoped-code e₁ δ s all) (ap (λ k. s + k) (count_code e₁ δ s))
    (scoped-code e₂ (tree e₁ δ s ▹ δ) (s + size e₁)
    (λ u m.
    ⊎_elim (λ k. ⊎_elim (λ j. Memᴰ.append_right made (all u j)) (Memᴰ.append_left ks) (result-ids e₁ δ s k)) (λ k. Memᴰ.append_right made (all u k))
    (of-ids _ (tree e₁ δ s) δ m)))
  where
    made : List ℕ
    made = dv s (code e₁ δ s)
scoped-code (const b e) δ s all = scoped-alone (λ u m. absurd (no-operands b e m))
scoped-code (iota x) δ s all = rw (code-iota x δ s) (scoped-iota s (all _ (ids-root x δ)))
scoped-code (operation o x y) δ s all = scoped-alone (within-two (all _ (ids-root x δ)) (all _ (ids-root y δ)))
scoped-code (negation x) δ s all = scoped-alone (within-one (all _ (ids-root x δ)))
scoped-code (sum x) δ s all =
    scoped-alone
    (within-two (all _ (ids-outer x δ)) (all _ (ids-lookup x δ _ (order-inner (lookup x δ) _ (order-root (inner (lookup x δ)))))))
scoped-code {ks = ks} (each {τ = τ} y us e) δ s all =
    rw (code-each y us δ e s)
    (scoped-seq (scoped-front y us δ all) (ap (λ k. s + k) (count-front y us δ))
    (scoped-controlled st (scoped-code e (within y us δ s) a inside)
    (Memᴰ.append_left {s = dv s (front y us δ)} ks (rw dv-front (Memᴰ.head refl)))
    (λ u m. inside u (free-ids e (within y us δ s) a u m))))
  where
    a : ℕ
    a = s + (1 + length us)

    st : IdTree τ
    st = tree e (within y us δ s) a

    inside : Within (ids_of (within y us δ s)) (dv s (front y us δ) ++ ks)
    inside u m =
        ⊎_elim (λ k. Memᴰ.append_right (dv s (front y us δ)) (all u (ids-lookup y δ u (order-inner (lookup y δ) u k))))
        (λ k. Memᴰ.append_left {s = dv s (front y us δ)} ks (rw dv-front (Memᴰ.tail k)))
        (of-ids _ (inner (lookup y δ)) (numbered (suc s) us) m)
scoped-code {ks = ks} (guard {τ = τ} g us e) δ s all =
    rw (code-guard g us δ s e)
    (scoped-seq (scoped-gate g us δ s all) (ap (λ k. s + k) (count-gate g us δ s))
    (scoped-controlled st (scoped-code e δ' a inside) (Memᴰ.append_left ks (gate-control g us δ s)) (λ u m. inside u (free-ids e δ' a u m))))
  where
    a : ℕ
    a = s + (2 + packs_size us)

    δ' : All IdTree (listed_types us)
    δ' = pack_trees us δ (s + 2)

    st : IdTree τ
    st = tree e δ' a

    inside : Within (ids_of δ') (dv s (gate g us δ s) ++ ks)
    inside u m = Memᴰ.append_left ks (gate-packed g us δ s m)
