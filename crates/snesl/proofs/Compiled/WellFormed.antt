-- Translated code is well-formed (002, Definition 1.1), for an environment that names only ids given out before. With it 002's rule for p1; p2 and its
-- Lemma 1.2, which show that the definition says what 002 says.
use Prim.Native.Nat.{ℕ, suc, ◌+◌, ◌<◌, ◌≤◌}
use native.Mathlib.Omega.{arith}
use native.Mathlib.Nat.{add-zero}
use mathlib.Core.List.Memᴰ
use mathlib.Core.List.{List, [], ◌∷◌, ◌++◌}
use mathlib.Core.Logic.{◌↔◌, ◌⊎◌, inl, inr, ⊎_elim}
use mathlib.Core.Path.{◌≡◌, refl, sym, ◌∙◌, ap, subst}
use lib.ListN.{length}
use Rattle.snesl.specs.declared.code.Transducer.{Transducer}
use Rattle.snesl.specs.Transducers.{operands}
use Rattle.snesl.specs.Values.{ValueType, braces, bool, depth_of}
use Rattle.snesl.specs.Terms.{◌∋◌, Term, var, bind, const, iota, operation, negation, sum, each, guard, Listing, Scalars, listed_types, All, ◌▹◌, lookup}
use Rattle.snesl.specs.Trees.{Tree, IdTree, leaf, node, inner, root, order}
use Rattle.snesl.specs.Programs.{Program, done, define, with_ctrl, ◌⨾◌, count, without, dv, fv, Within, Apart, WellFormed, well-done, well-define, well-with_ctrl}
use Rattle.snesl.specs.declared.code.Transducer.TheVariants.{B2u}
use Rattle.snesl.specs.Translation.{id, pack_size, packs_size, size, numbered, within, pack_tree, pack_trees, tree, distrs, controlled, pack_code, pack_codes, code}
use Rattle.snesl.specs.Ids.{ids_of, Below}
use Rattle.snesl.proofs.Compiled.Members.{◌∈◌, ◌∉◌, known, of-without, to-without, of-among, of-ascending}
use Rattle.snesl.proofs.Compiled.Packing.{count-pack, defined-pack, free-pack}
use Rattle.snesl.proofs.Compiled.Sequences.{dv-seq-left, dv-from-right, of-dv-from, of-dv-seq, of-fv-define, of-fv-with_ctrl}
use Rattle.snesl.proofs.Compiled.Freshness.{takes-free, free-taken, free-below, count-lead, count_ones, dv-lead, fv-lead, fv-ones, dv-ones, dv-alone, ids-root, ids-outer, ids-lookup, order-inner, order-root, of-ids, ids-numbered, dv-copies, copies, front, count-front, of-dv-front}
use Rattle.snesl.proofs.Compiled.Freshness.{fv-front, code-each, code-iota, lead, ones, totals, of-dv-controlled, count_code, result-ids, defined-next, flagging, count-flagging, fv-flagging, dv-flagging, defined-packs, gate, count-gate, of-dv-gate, fv-gate, gate-packed, code-guard, no-operands}

-- Lemma 1.2: if p is well-formed, then fv(p) ∩ dv(p) = ∅
pub freshness : {s : ℕ} {p : Program} → WellFormed s p → Apart (fv s p) (dv s p)
unfolding dv
freshness well-done u m n = Memᴰ.not-nil n
freshness {s} (well-define {t = t} {p = p} apart w later) u m n =
    ⊎_elim
    (λ k. ⊎_elim (λ e. apart u (Memᴰ.head e) k) (λ j. later u (Memᴰ.append_left (s ∷ []) k) j) (Memᴰ.cases_cons n))
    (λ k. ⊎_elim (λ e. k.1 (Memᴰ.head e)) (λ j. freshness w u k.0 j) (Memᴰ.cases_cons n))
    (of-fv-define s t p m)
freshness {s} (well-with_ctrl {c = c} {outs = outs} {ins = ins} {b = b} {p = p} wb takes puts apart w later) u m n =
    ⊎_elim
    (λ k. ⊎_elim (λ j. apart u k (puts u j)) (λ j. later u (Memᴰ.append_left outs k) j) (Memᴰ.append_cases outs n))
    (λ k. ⊎_elim (λ j. k.1 j) (λ j. freshness w u k.0 j) (Memᴰ.append_cases outs n))
    (of-fv-with_ctrl s c outs ins b p m)

-- a first part that uses os and makes ds known, and a rest that uses fs and makes es known: what the whole uses or makes known is what one of them does
module _ (os ds fs es : List ℕ) where
  abbrev both : List ℕ
  both = (os ++ without fs ds) ++ (ds ++ es)

  of-first : Within (os ++ ds) both
  of-first u m =
      ⊎_elim (λ k. Memᴰ.append_left (ds ++ es) (Memᴰ.append_left (without fs ds) k))
      (λ k. Memᴰ.append_right (os ++ without fs ds) (Memᴰ.append_left es k))
      (Memᴰ.append_cases os m)

  of-rest : Within (fs ++ es) both
  of-rest u m =
      ⊎_elim
      (λ k.
      ⊎_elim (λ j. of-first u (Memᴰ.append_right os j)) (λ j. Memᴰ.append_left (ds ++ es) (Memᴰ.append_right os (to-without fs ds k j)))
      (known u ds))
      (λ k. Memᴰ.append_right (os ++ without fs ds) (Memᴰ.append_right ds k))
      (Memᴰ.append_cases fs m)

  of-both : (u : ℕ) → u ∈ both → (u ∈ (os ++ ds)) ⊎ (u ∈ (fs ++ es))
  of-both u m =
      ⊎_elim
      (λ k. ⊎_elim (λ j. inl (Memᴰ.append_left ds j)) (λ j. inr (Memᴰ.append_left es (of-without fs ds j).0)) (Memᴰ.append_cases os k))
      (λ k. ⊎_elim (λ j. inl (Memᴰ.append_right os j)) (λ j. inr (Memᴰ.append_right fs j)) (Memᴰ.append_cases ds k))
      (Memᴰ.append_cases (os ++ without fs ds) m)

-- 002's rule for p1; p2, where p2 starts at a
pub well-seq : {s a : ℕ} {p q : Program} → WellFormed s p → s + count p ≡ a → WellFormed a q → Apart (fv s p ++ dv s p) (dv a q) → WellFormed s (p ⨾ q)
unfolding ◌⨾◌ count dv fv
well-seq {s} {q = q} well-done from v apart = subst (λ k. WellFormed k q) (sym from ∙ add-zero s) v
well-seq {s} {a} {q = q} (well-define {t = t} {p = p} new w later) from v apart =
    well-define new (well-seq w next v (λ u m n. apart u (of-rest (operands t) (s ∷ []) (fv (suc s) p) (dv (suc s) p) u m) n))
    (λ u m n.
    ⊎_elim (later u m) (apart u (of-first (operands t) (s ∷ []) (fv (suc s) p) (dv (suc s) p) u m))
    (of-dv-from (suc s) p q next n))
  where
    next : suc s + count p ≡ a
    next = omega arith
well-seq {s} {a} {q = q} (well-with_ctrl {c = c} {outs = outs} {ins = ins} {b = b} {p = p} wb takes puts new w later) from v apart =
    well-with_ctrl wb takes puts new
    (well-seq w next v (λ u m n. apart u (of-rest (c ∷ ins) outs (fv (s + count b) p) (dv (s + count b) p) u m) n))
    (λ u m n.
    ⊎_elim (later u m) (apart u (of-first (c ∷ ins) outs (fv (s + count b) p) (dv (s + count b) p) u m))
    (of-dv-from (s + count b) p q next n))
  where
    next : s + count b + count p ≡ a
    next = omega arith

-- and it is the only way to p1; p2: the parts of a well-formed program are well-formed and apart
record Split (s a : ℕ) (p q : Program) : Type 0 where
  front-well : WellFormed s p
  rest-well : WellFormed a q
  parted : Apart (fv s p ++ dv s p) (dv a q)

split-define : {s a : ℕ} {t : Transducer} {p q : Program}
    → suc s + count p ≡ a
    → (WellFormed (suc s) (p ⨾ q) → Split (suc s) a p q)
    → WellFormed s (define t (p ⨾ q))
    → Split s a (define t p) q
unfolding dv fv
split-define {s} {a} {t} {p} {q} next below (well-define new w later) =
    let k = below w in
    record {
      front-well = well-define new k.front-well (λ u m n. later u m (dv-seq-left (suc s) _ p q refl n));
      rest-well = k.rest-well;
      parted =
          λ u m n.
          ⊎_elim (λ j. later u j (dv-from-right (suc s) p q next n)) (λ j. k.parted u j n)
          (of-both (operands t) (s ∷ []) (fv (suc s) p) (dv (suc s) p) u m);
    }

split-with_ctrl : {s a c : ℕ} {outs ins : List ℕ} {b p q : Program}
    → s + count b + count p ≡ a
    → (WellFormed (s + count b) (p ⨾ q) → Split (s + count b) a p q)
    → WellFormed s (with_ctrl outs c ins b (p ⨾ q))
    → Split s a (with_ctrl outs c ins b p) q
unfolding dv fv
split-with_ctrl {s} {a} {c} {outs} {ins} {b} {p} {q} next below (well-with_ctrl wb takes puts new w later) =
    let k = below w in
    record {
      front-well = well-with_ctrl wb takes puts new k.front-well (λ u m n. later u m (dv-seq-left (s + count b) _ p q refl n));
      rest-well = k.rest-well;
      parted =
          λ u m n.
          ⊎_elim (λ j. later u j (dv-from-right (s + count b) p q next n)) (λ j. k.parted u j n)
          (of-both (c ∷ ins) outs (fv (s + count b) p) (dv (s + count b) p) u m);
    }

split : {s a : ℕ} (p q : Program) → s + count p ≡ a → WellFormed s (p ⨾ q) → Split s a p q
unfolding ◌⨾◌ count dv fv
split {s} done q from w =
    record {
      front-well = well-done;
      rest-well = subst (λ k. WellFormed k q) (sym (add-zero s) ∙ from) w;
      parted = λ u m n. Memᴰ.not-nil m;
    }
split {s = s} (define t p) q from w = split-define (omega arith) (split {s = suc s} p q (omega arith)) w
split {s = s} (with_ctrl outs c ins b p) q from w = split-with_ctrl (omega arith) (split {s = s + count b} p q (omega arith)) w

pub well-seq-iff : {s a : ℕ} (p q : Program) → s + count p ≡ a
    → WellFormed s (p ⨾ q) ↔ (WellFormed s p × WellFormed a q × Apart (fv s p ++ dv s p) (dv a q))
well-seq-iff p q from =
    (λ w. let k = split p q from w in (k.front-well, k.rest-well, k.parted), λ h. well-seq h.0 from h.1 h.2)

-- lists that lie on two sides of an id
apart-at : {ss ts : List ℕ} (s : ℕ) → Below s ss → ((u : ℕ) → u ∈ ts → s ≤ u) → Apart ss ts
apart-at s low high u m n = let l = low u m in let h = high u n in omega arith

below-append : {ss ts : List ℕ} {s : ℕ} → Below s ss → Below s ts → Below s (ss ++ ts)
below-append {ss} low high u m = ⊎_elim (low u) (high u) (Memᴰ.append_cases ss m)

below_one : {s r : ℕ} → r < s → Below s (r ∷ [])
below_one low u m = let e = Memᴰ.eq_of_singleton m in omega arith

-- a definition that uses ids given out before it, and before ids given out later
well-first : {s : ℕ} {t : Transducer} {p : Program}
    → Below s (operands t)
    → WellFormed (suc s) p
    → ((u : ℕ) → u ∈ dv (suc s) p → suc s ≤ u)
    → WellFormed s (define t p)
well-first {s} {t} low w high = well-define new w (apart-at (suc s) early high)
  where
    new : Apart (s ∷ []) (operands t)
    new u m n = let e = Memᴰ.eq_of_singleton m in let l = low u n in omega arith

    early : Below (suc s) (operands t ++ s ∷ [])
    early = below-append (λ u k. let l = low u k in omega arith) (below_one (omega arith))

well-alone : {s : ℕ} {t : Transducer} → Below s (operands t) → WellFormed s (define t done)
unfolding dv
well-alone low = well-first low well-done (λ u m. absurd (Memᴰ.not-nil m))

-- a WithCtrl whose control is not of its body's making
well-controlled : {d c s : ℕ} {p : Program} (st : Tree ℕ d) → WellFormed s p → c ∉ dv s p → WellFormed s (controlled c s p st)
unfolding dv
well-controlled {c = c} {s = s} {p = p} st w new =
    well-with_ctrl w (takes-free c s p st) (λ u m. (of-among (order st) (dv s p) (of-ascending _ m)).1)
    (λ u m n. ⊎_elim (λ e. new (Memᴰ.cast (sym e) n)) (λ k. freshness w u (free-taken c s p st u k) n) (Memᴰ.cases_cons m))
    well-done
    (λ u m n. Memᴰ.not-nil n)

-- the parts of iota's code
below_two : {s q r : ℕ} → q < s → r < s → Below s (q ∷ r ∷ [])
below_two low high u m = ⊎_elim (λ e. omega arith) (below_one high u) (Memᴰ.cases_cons m)

well-flagging : {s : ℕ} {t : Transducer} → Below s (operands t) → WellFormed s (flagging t s)
unfolding dv
well-flagging {s = s} low =
    well-first low (well-alone (below_one (omega arith)))
    (λ u m. let e = Memᴰ.eq_of_singleton m in omega arith)

well-lead : {r s : ℕ} → r < s → WellFormed s (lead r s)
well-lead low = well-flagging (below_one low)

well-ones : (s : ℕ) → WellFormed (s + 2) (ones s)
unfolding dv
well-ones s =
    well-controlled (leaf (s + 2)) (well-alone (λ u m. absurd (Memᴰ.not-nil m)))
    (λ m. let e = Memᴰ.eq_of_singleton m in omega arith)

well-totals : (s : ℕ) → WellFormed (s + 3) (totals s)
well-totals s = well-alone (below_two (omega arith) (omega arith))

well-iota : {r s : ℕ} → r < s → WellFormed s (lead r s ⨾ (ones s ⨾ totals s))
well-iota {r} {s} low =
    well-seq (well-lead low) (ap (λ k. s + k) (count-lead r s))
    (well-seq (well-ones s) (ap (λ k. s + 2 + k) (count_ones s) ∙ omega arith) (well-totals s) late)
    early
  where
    late : Apart (fv (s + 2) (ones s) ++ dv (s + 2) (ones s)) (dv (s + 3) (totals s))
    late =
        apart-at (s + 3)
        (below-append (λ u m. let e = fv-ones (s + 2) s m in omega arith) (λ u m. let e = dv-ones (s + 2) s m in omega arith))
        (λ u m. (dv-alone (s + 3) _ m).0)

    high : (u : ℕ) → u ∈ dv (s + 2) (ones s ⨾ totals s) → s + 2 ≤ u
    high u m =
        ⊎_elim (λ k. let e = dv-ones (s + 2) s k in omega arith) (λ k. let e = dv-alone (s + 2 + 1) _ k in omega arith)
        (of-dv-seq (s + 2) 1 (ones s) (totals s) (count_ones s) m)

    early : Apart (fv s (lead r s) ++ dv s (lead r s)) (dv (s + 2) (ones s ⨾ totals s))
    early =
        apart-at (s + 2)
        (below-append (λ u m. let e = Memᴰ.eq_of_singleton (fv-lead r s u m) in omega arith) (λ u m. (dv-lead r s m).1))
        high

-- the front of a comprehension's code
well-copies : {Γ : List ValueType} {a b : ℕ} (us : Scalars Γ) (δ : All IdTree Γ) → b < a → Below a (ids_of δ) → WellFormed a (copies b us δ)
unfolding distrs
well-copies [] δ low below = well-done
well-copies {a = a} {b = b} (v ∷ us) δ low below =
    well-first (below_two low (below _ (ids-root v.1 δ))) (well-copies us δ (omega arith) (λ u m. let l = below u m in omega arith))
    (λ u m. (ids-numbered (suc a) us (rw dv-copies at m)).0)

well-front : {Γ : List ValueType} {υ : ValueType} {s : ℕ} (y : Γ ∋ braces υ) (us : Scalars Γ) (δ : All IdTree Γ) → Below s (ids_of δ) → WellFormed s (front y us δ)
well-front {s = s} y us δ below =
    let low = below _ (ids-outer y δ) in
    well-first (below_one low) (well-copies us δ (omega arith) (λ u m. let l = below u m in omega arith))
    (λ u m. (ids-numbered (suc s) us (rw dv-copies at m)).0)

-- the packing of one value and of each listed variable, where all that they use was given out before
well-pack : {d b s : ℕ} (t : Tree ℕ d) → b < s → Below s (order t) → WellFormed s (pack_code b t s)
unfolding pack_code order dv
well-pack (leaf x) low below = well-alone (below_two low (below x (Memᴰ.head refl)))
well-pack {b = b} {s = s} (node {d = d} t f) low below =
    well-first (below_two low flag)
    (well-first (below_two (omega (arith, flag)) (omega arith)) (well-first (below_one (omega (arith, flag))) (items (well-pack t (omega arith) later)) after-usum) after-distr) after-upack
  where
    flag : f < s
    flag = below f (Memᴰ.append_right (order t) (Memᴰ.head refl))

    p : Program
    p = pack_code (s + 1) t (s + 3)

    later : Below (s + 3) (order t)
    later u m = let l = below u (Memᴰ.append_left (f ∷ []) m) in omega arith

    items : WellFormed (s + 3) p → WellFormed (suc (suc (suc s))) (controlled (s + 2) (s + 3) p (pack_tree t (s + 3)))
    items w =
        subst (λ k. WellFormed k (controlled (s + 2) (s + 3) p (pack_tree t (s + 3)))) (omega arith)
        (well-controlled (pack_tree t (s + 3)) w (λ m. let l = defined-pack (s + 1) t (s + 3) m in omega arith))

    after-usum : (u : ℕ) → u ∈ dv (suc (suc (suc s))) (controlled (s + 2) (s + 3) p (pack_tree t (s + 3))) → suc (suc (suc s)) ≤ u
    after-usum u m = let l = defined-pack (s + 1) t (s + 3) (of-dv-controlled (s + 2) (s + 3) p (pack_tree t (s + 3)) (suc (suc (suc s))) m).1 in omega arith

    after-distr : (u : ℕ) → u ∈ (suc (suc s) ∷ dv (suc (suc (suc s))) (controlled (s + 2) (s + 3) p (pack_tree t (s + 3)))) → suc (suc s) ≤ u
    after-distr u m = ⊎_elim (λ e. omega arith) (λ k. let l = after-usum u k in omega arith) (Memᴰ.cases_cons m)

    after-upack : (u : ℕ) → u ∈ (suc s ∷ suc (suc s) ∷ dv (suc (suc (suc s))) (controlled (s + 2) (s + 3) p (pack_tree t (s + 3)))) → suc s ≤ u
    after-upack u m = ⊎_elim (λ e. omega arith) (λ k. let l = after-distr u k in omega arith) (Memᴰ.cases_cons m)

well-packs : {Γ : List ValueType} {b s : ℕ} (us : Listing Γ) (δ : All IdTree Γ) → b < s → Below s (ids_of δ) → WellFormed s (pack_codes b us δ s)
unfolding pack_codes
well-packs [] δ low below = well-done
well-packs {b = b} {s = s} (v ∷ us) δ low below =
    let n = pack_size (depth_of v.0) in
    let t = lookup v.1 δ in
    well-seq (well-pack t low (λ u m. below u (ids-lookup v.1 δ u m))) (ap (λ k. s + k) (count-pack b t s))
    (well-packs {s = s + n} us δ (omega arith) (λ u m. let l = below u m in omega arith))
    (apart-at (s + n) (below-append (λ u m. ⊎_elim (λ e. omega arith) (λ k. let l = below u (ids-lookup v.1 δ u k) in omega arith) (Memᴰ.cases_cons (free-pack b t s u m))) (λ u m. (defined-pack b t s m).1))
    (λ u m. (defined-packs b us δ (s + n) m).0))

well-gate : {Γ : List ValueType} {s : ℕ} (g : Γ ∋ bool) (us : Listing Γ) (δ : All IdTree Γ) → Below s (ids_of δ) → WellFormed s (gate g us δ s)
well-gate {s = s} g us δ below =
    let r = root (lookup g δ) in
    let low : r < s = below _ (ids-root g δ) in
    well-seq (well-flagging (below_one low)) (ap (λ k. s + k) (count-flagging (B2u (id r)) s))
    (well-packs us δ (omega arith) (λ u m. let l = below u m in omega arith))
    (apart-at (s + 2)
    (below-append (λ u m. let e = Memᴰ.eq_of_singleton (fv-flagging (B2u (id r)) s u m) in omega arith) (λ u m. (dv-flagging (B2u (id r)) s m).1))
    (λ u m. (defined-packs r us δ (s + 2) m).0))

-- the environments that code is translated in name ids given out before
pub below-result : {Γ : List ValueType} {υ : ValueType} {s : ℕ} (e : Term Γ υ) (δ : All IdTree Γ) → Below s (ids_of δ) → Below (s + size e) (ids_of (◌▹◌ {τ = υ} (tree e δ s) δ))
below-result {s = s} e δ below u m =
    ⊎_elim (λ k. ⊎_elim early (λ j. (defined-next e δ s j).1) (result-ids e δ s k)) early (of-ids _ (tree e δ s) δ m)
  where
    early : u ∈ ids_of δ → u < s + size e
    early k = let l = below u k in omega arith

pub below-within : {Γ : List ValueType} {υ : ValueType} {s : ℕ} (y : Γ ∋ braces υ) (us : Scalars Γ) (δ : All IdTree Γ)
    → Below s (ids_of δ)
    → Below (s + (1 + length us)) (ids_of (within y us δ s))
below-within {s = s} y us δ below u m =
    ⊎_elim (λ k. let l = below u (ids-lookup y δ u (order-inner (lookup y δ) u k)) in omega arith)
    (λ k. let l = ids-numbered (suc s) us k in omega arith)
    (of-ids _ (inner (lookup y δ)) (numbered (suc s) us) m)

pub below-packed : {Γ : List ValueType} (g : Γ ∋ bool) (us : Listing Γ) (δ : All IdTree Γ) (s : ℕ) → Below (s + (2 + packs_size us)) (ids_of (pack_trees us δ (s + 2)))
below-packed g us δ s u m = (of-dv-gate g us δ s (gate-packed g us δ s m)).1

-- ⊩ p for δ ⊢ e ⇒ (p, st), with p's ids from s on, and δ's below s
pub well-code : {Γ : List ValueType} {τ : ValueType} {s : ℕ} (e : Term Γ τ) (δ : All IdTree Γ) → Below s (ids_of δ) → WellFormed s (code e δ s)
unfolding code
well-code (var x) δ below = well-done
well-code {s = s} (bind e₁ e₂) δ below =
    well-seq (well-code e₁ δ below) (ap (λ k. s + k) (count_code e₁ δ s)) (well-code e₂ (tree e₁ δ s ▹ δ) (below-result e₁ δ below))
    (apart-at (s + size e₁)
    (below-append (λ u m. let l = free-below e₁ δ below u m in omega arith) (λ u m. (defined-next e₁ δ s m).1))
    (λ u m. (defined-next e₂ (tree e₁ δ s ▹ δ) (s + size e₁) m).0))
well-code (const b e) δ below = well-alone (λ u m. absurd (no-operands b e m))
well-code {s = s} (iota x) δ below = rw (code-iota x δ s) (well-iota (below _ (ids-root x δ)))
well-code (operation o x y) δ below = well-alone (below_two (below _ (ids-root x δ)) (below _ (ids-root y δ)))
well-code (negation x) δ below = well-alone (below_one (below _ (ids-root x δ)))
well-code (sum x) δ below =
    well-alone
    (below_two (below _ (ids-outer x δ)) (below _ (ids-lookup x δ _ (order-inner (lookup x δ) _ (order-root (inner (lookup x δ)))))))
well-code {s = s} (each {τ = τ} y us e) δ below =
    rw (code-each y us δ e s)
    (well-seq (well-front y us δ below) (ap (λ k. s + k) (count-front y us δ))
    (well-controlled st (well-code e (within y us δ s) (below-within y us δ below)) (λ m. let l = defined-next e (within y us δ s) a m in omega arith))
    (apart-at a
    (below-append (λ u m. let l = below u (fv-front y us δ s u m) in omega arith) (λ u m. (of-dv-front y us δ s m).1))
    (λ u m. (defined-next e (within y us δ s) a (of-dv-controlled s a _ st a m).1).0)))
  where
    a : ℕ
    a = s + (1 + length us)

    st : IdTree τ
    st = tree e (within y us δ s) a
well-code {s = s} (guard {τ = τ} g us e) δ below =
    rw (code-guard g us δ s e)
    (well-seq (well-gate g us δ below) (ap (λ k. s + k) (count-gate g us δ s))
    (well-controlled st (well-code e δ' (below-packed g us δ s)) (λ m. let l = defined-next e δ' a m in omega arith))
    (apart-at a
    (below-append (λ u m. let l = below u (fv-gate g us δ s u m) in omega arith) (λ u m. (of-dv-gate g us δ s m).1))
    (λ u m. (defined-next e δ' a (of-dv-controlled (s + 1) a _ st a m).1).0)))
  where
    a : ℕ
    a = s + (2 + packs_size us)

    δ' : All IdTree (listed_types us)
    δ' = pack_trees us δ (s + 2)

    st : IdTree τ
    st = tree e δ' a
