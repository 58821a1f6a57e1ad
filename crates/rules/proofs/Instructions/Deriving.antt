-- What the run does, the rules derive: for a program that is well-formed and scoped, and whose WithCtrls meet P-WC-EMP's side condition.
use Prim.Native.Nat.{ℕ, suc, ◌+◌, ◌≤◌, ◌<◌}
use native.Mathlib.Omega.{arith}
use mathlib.Core.Bool.{Bool, true, false}
use mathlib.Core.List.Memᴰ
use mathlib.Core.List.{List, [], ◌∷◌, ◌++◌}
use mathlib.Core.Logic.{◌⊎◌, inl, inr, ⊎_elim}
use mathlib.Core.Option.{Option, some, none}
use mathlib.Core.Path.{◌≡◌, refl, sym, ap, ◌∙◌, subst}
use borrow.Author.Tests.{eq-eqb, ne_eqb}
use lib.Dec.{eqb}
use lib.ListN.{length, length-append}
use Rattle.laws.proofs.Never.{never}
use Rattle.snesl.specs.declared.code.Base.TheVariants as base
use Rattle.snesl.specs.declared.code.Kind.{Kind}
use Rattle.snesl.specs.declared.code.Transducer.{Transducer}
use Rattle.snesl.specs.Streams.{Stream, ints, bools, flags, units, kind_of, Store, ◌!◌}
use Rattle.snesl.specs.Transducers.{made, apply, operands}
use Rattle.snesl.specs.Programs as programs
use Rattle.snesl.specs.Programs.{Program, done, define, count, member, dv, Within, WellFormed, well-done, well-define, well-with_ctrl, Scoped, scoped-define, scoped-with_ctrl}
use Rattle.snesl.specs.Machine.{State, went, onward, push, skipped, skip, units_of, run, boundless}
use Rattle.snesl.specs.Bounded.{starts}
use Rattle.snesl.specs.SideCondition.{Empty, Proper, proper-define, proper-with_ctrl}
use Rattle.snesl.specs.Ids.{Below}
use Rattle.snesl.proofs.Compiled.Members.{◌∈◌, ◌∉◌, member-true, member-false, known}
use Rattle.snesl.proofs.Correctness.RunParts.{step-made, run-skipped, run-body}
use Rattle.snesl.proofs.Correctness.Grown.{new-stream, next-id}
use Rattle.snesl.proofs.Bounded.Runs.{Ran, ran-done, ran-define, ran-skip, ran-body, ran, run-done, went-length, grows}
use Rattle.rules.specs.Xducers.{Xducer, gives, xducer, Fetches, fetches-none, fetches-more}
use Rattle.rules.specs.Agreement.{Agree, Derived}
use Rattle.rules.specs.Instructions.{Svcode, with_ctrl, Kinds, first_of, when, base_for, gives_for, given_kind, kind_in, kind_at, kinds_in, empty_of, Stores, IsEmpty, Runs, p-empty, p-xducer, p-wc-emp, p-wc-nonemp, p-seq, written}
use Rattle.rules.proofs.Xducers.Exactly.{apply-exactly, apply-fetches}
use Rattle.rules.proofs.Instructions.Stores.{kept, skipped-adds, HasKinds, skipped-kind, covers-kinds}

-- ---- what well-formed code makes known are ids of its own, each of a kind

pub known-between : {s u : ℕ} {p : Program} → WellFormed s p → u ∈ dv s p → (s ≤ u) × (u < s + count p)
unfolding dv count
known-between well-done h = absurd (Memᴰ.not-nil h)
known-between {s} {u} (well-define {p = p} a w b) h = ⊎_elim first (λ m. let (low, high) = known-between w m in (omega arith, omega arith)) (Memᴰ.cases_cons h)
  where
    first : u ≡ s → (s ≤ u) × (u < s + suc (count p))
    first e = (omega arith, omega arith)
known-between {s} {u} (well-with_ctrl {outs = outs} {b = b} {p = p} w i o a v c) h =
    ⊎_elim (λ m. let (low, high) = known-between w (o u m) in (omega arith, omega arith)) (λ m. let (low, high) = known-between v m in (omega arith, omega arith))
    (Memᴰ.append_cases outs h)

no-first : {a b : Option Kind} → a ≡ none → b ≡ none → first_of a b ≡ none
no-first p q = λ i. first_of (p i) (q i)

is_member : {u : ℕ} (outs : List ℕ) → u ∈ outs → member u outs ≡ true
is_member {u} outs h = go (member u outs) refl
  where
    go : (m : Bool) → member u outs ≡ m → m ≡ true
    go true e = refl
    go false e = absurd (member-false outs e h)

no_member : {u : ℕ} (outs : List ℕ) → u ∉ outs → member u outs ≡ false
no_member {u} outs n = go (member u outs) refl
  where
    go : (m : Bool) → member u outs ≡ m → m ≡ false
    go true e = absurd (n (member-true outs e))
    go false e = refl

-- code makes known no other ids
no_kind : (p : Program) (s u : ℕ) (κ : Kinds) → u ∉ dv s p → kind_in κ (written s p) u ≡ none
unfolding dv kind_in written
no_kind done s u κ n = refl
no_kind (define t p) s u κ n =
    no-first (no_kind p (suc s) u _ (λ h. n (Memᴰ.tail h))) (ap (when (given_kind κ (xducer t) (operands t))) (ne_eqb u s (λ e. n (Memᴰ.head e))))
no_kind (programs.with_ctrl outs c ins b p) s u κ n =
    no-first (no_kind p (s + count b) u _ (λ h. n (Memᴰ.append_right outs h))) (not-out (member u outs) refl)
  where
    not-out : (m : Bool) → member u outs ≡ m → when (kind_in κ (written s b) u) m ≡ none
    not-out true e = absurd (n (Memᴰ.append_left _ (member-true outs e)))
    not-out false e = refl

-- two mappings of kinds that know the same of these ids
record BothKnow (ids : List ℕ) (κ κ₂ : Kinds) : Type 0 where
  both : (u : ℕ) → u ∈ ids → (k : Kind) × ((κ u ≡ some k) × (κ₂ u ≡ some k))

both-given : {ids : List ℕ} {κ κ₂ : Kinds} → BothKnow ids κ κ₂ → (ψ : Xducer) (ss : List ℕ) → Within ss ids → (k : Kind) × ((given_kind κ ψ ss ≡ some k) × (given_kind κ₂ ψ ss ≡ some k))
both-given w ψ [] i = (gives base.Int ψ, (refl, refl))
both-given w ψ (s ∷ []) i = (gives base.Int ψ, (refl, refl))
both-given w ψ (s ∷ t ∷ ss) i = let (k, (p, q)) = w.both t (i t (Memᴰ.tail (Memᴰ.head refl))) in (gives (base_for k) ψ, (ap (gives_for ψ) p, ap (gives_for ψ) q))

both-after : {ids outs all : List ℕ} {κ κ₂ κ' κ₂' : Kinds}
    → BothKnow ids κ κ₂
    → BothKnow outs κ' κ₂'
    → ((u : ℕ) → u ∉ outs → (κ' u ≡ none) × (κ₂' u ≡ none))
    → ((u : ℕ) → u ∈ all → (u ∈ outs) ⊎ (u ∈ ids))
    → BothKnow all (λ v. first_of (κ' v) (κ v)) (λ v. first_of (κ₂' v) (κ₂ v))
both-after {ids} {outs} {all} {κ} {κ₂} {κ'} {κ₂'} w v other parts = record { both = λ u h. go u h (known u outs) }
  where
    go : (u : ℕ) → u ∈ all → (u ∈ outs) ⊎ (u ∉ outs) → (k : Kind) × ((first_of (κ' u) (κ u) ≡ some k) × (first_of (κ₂' u) (κ₂ u) ≡ some k))
    go u h (inl m) = let (k, (p, q)) = v.both u m in (k, (ap (λ o. first_of o (κ u)) p, ap (λ o. first_of o (κ₂ u)) q))
    go u h (inr n) =
        let (p, q) = other u n in
        let (k, (r, s)) = ⊎_elim (λ m. absurd (n m)) (w.both u) (parts u h) in
        (k, (ap (λ o. first_of o (κ u)) p ∙ r, ap (λ o. first_of o (κ₂ u)) q ∙ s))

-- of the ids that it makes known
both-known : {s : ℕ} {p : Program} {ids : List ℕ} {κ κ₂ : Kinds} → WellFormed s p → Scoped ids s p → BothKnow ids κ κ₂ → BothKnow (dv s p) (kind_in κ (written s p)) (kind_in κ₂ (written s p))
unfolding dv kind_in written
both-known well-done k w = record { both = λ u h. absurd (Memᴰ.not-nil h) }
both-known {ids = ids} {κ = κ} {κ₂ = κ₂} (well-define {s = s} {t = t} {p = p} a f b) (scoped-define i r) w =
    let one : BothKnow (s ∷ []) (λ v. when (given_kind κ (xducer t) (operands t)) (eqb v s)) (λ v. when (given_kind κ₂ (xducer t) (operands t)) (eqb v s)) =
    record {
      both = λ u h. let (k, (x, y)) = both-given w (xducer t) (operands t) i in let e = eq-eqb u s (Memᴰ.eq_of_singleton h) in
          (k, (ap (when (given_kind κ (xducer t) (operands t))) e ∙ x, ap (when (given_kind κ₂ (xducer t) (operands t))) e ∙ y));
    } in
    let other : (u : ℕ) → u ∉ (s ∷ []) → (when (given_kind κ (xducer t) (operands t)) (eqb u s) ≡ none) × (when (given_kind κ₂ (xducer t) (operands t)) (eqb u s) ≡ none) =
    λ u n. let e = ne_eqb u s (λ q. n (Memᴰ.head q)) in (ap (when (given_kind κ (xducer t) (operands t))) e, ap (when (given_kind κ₂ (xducer t) (operands t))) e) in
    let inside = both-after {all = s ∷ ids} w one other (λ u h. ⊎_elim (λ e. inl (Memᴰ.head e)) inr (Memᴰ.cases_cons h)) in
    both-after one (both-known f r inside) (λ u n. (no_kind p (suc s) u _ n, no_kind p (suc s) u _ n)) (λ u h. ⊎_elim (λ e. inr (Memᴰ.head e)) inl (Memᴰ.cases_cons h))
both-known {ids = ids} {κ = κ} {κ₂ = κ₂} (well-with_ctrl {s = s} {c = c} {outs = outs} {ins = ins} {b = b} {p = p} f i o a v d) (scoped-with_ctrl uses inner rest) w =
    let body = both-known f inner (record { both = λ u h. w.both u (uses u (Memᴰ.tail h)) }) in
    let out : BothKnow outs (λ v. when (kind_in κ (written s b) v) (member v outs)) (λ v. when (kind_in κ₂ (written s b) v) (member v outs)) =
    record {
      both = λ u h. let (k, (x, y)) = body.both u (o u h) in let e = is_member outs h in
          (k, (ap (when (kind_in κ (written s b) u)) e ∙ x, ap (when (kind_in κ₂ (written s b) u)) e ∙ y));
    } in
    let other : (u : ℕ) → u ∉ outs → (when (kind_in κ (written s b) u) (member u outs) ≡ none) × (when (kind_in κ₂ (written s b) u) (member u outs) ≡ none) =
    λ u n. let e = no_member outs n in (ap (when (kind_in κ (written s b) u)) e, ap (when (kind_in κ₂ (written s b) u)) e) in
    let inside = both-after {all = outs ++ ids} w out other (λ u h. Memᴰ.append_cases outs h) in
    both-after out (both-known v rest inside) (λ u n. (no_kind p (s + count b) u _ n, no_kind p (s + count b) u _ n)) (λ u h. ⊎_elim inr inl (Memᴰ.append_cases outs h))

-- ---- stores, changed at one id or at some

put : Stores → ℕ → Stream → Stores
put σ s a u = elim (eqb u s) [ true ↦ some a | false ↦ σ u ]

put-new : (σ : Stores) (s : ℕ) (a : Stream) → put σ s a s ≡ some a
unfolding put
put-new σ s a = rw (eq-eqb s s refl, put)

put-old : (σ : Stores) (s : ℕ) (a : Stream) (u : ℕ) → (u ≡ s → ⊥) → put σ s a u ≡ σ u
unfolding put
put-old σ s a u n = rw (ne_eqb u s n, put)

-- at the ids of a list from the first store, elsewhere from the second
mix : List ℕ → Stores → Stores → Stores
mix outs τ σ u = elim (member u outs) [ true ↦ τ u | false ↦ σ u ]

mix-new : (outs : List ℕ) (τ σ : Stores) (u : ℕ) → u ∈ outs → mix outs τ σ u ≡ τ u
unfolding mix
mix-new outs τ σ u h = go (member u outs) refl
  where
    go : (m : Bool) → member u outs ≡ m → ◌≡◌ {A = Option Stream} (elim m [ true ↦ τ u | false ↦ σ u ]) (τ u)
    go true e = refl
    go false e = absurd (member-false outs e h)

mix-old : (outs : List ℕ) (τ σ : Stores) (u : ℕ) → u ∉ outs → mix outs τ σ u ≡ σ u
unfolding mix
mix-old outs τ σ u h = go (member u outs) refl
  where
    go : (m : Bool) → member u outs ≡ m → ◌≡◌ {A = Option Stream} (elim m [ true ↦ τ u | false ↦ σ u ]) (σ u)
    go true e = absurd (h (member-true outs e))
    go false e = refl

-- ---- a mapping that has what a list has at known ids

fetched : {ids : List ℕ} {σ : Stores} {τ : Store} {ss : List ℕ} {xs : List Stream} → Agree ids σ τ → Within ss ids → Fetches (λ s. τ ! s) ss xs → Fetches σ ss xs
fetched a w fetches-none = fetches-none
fetched a w (fetches-more {s = s} q f) = fetches-more (a.agree s (w s (Memᴰ.head refl)) ∙ q) (fetched a (λ u h. w u (Memᴰ.tail h)) f)

-- what stood in a store before a run of p stays
same-run : (p : Program) (n : ℕ) (m : State) {m' : State} → run boundless p n m ≡ went m' → (u : ℕ) → u < length m.store → m'.store ! u ≡ m.store ! u
same-run p n m e u h =
    let w = grows {p = p} {n = n} {m = m} e starts in
    ap (λ σ. σ ! u) w.split ∙ kept m.store w.rest u h

agree-put : {ids : List ℕ} {σ : Stores} {τ : Store} {s : ℕ} (a : Stream) → length τ ≡ s → Below s ids → Agree ids σ τ → Agree (s ∷ ids) (put σ s a) (τ ++ a ∷ [])
agree-put {ids} {σ} {τ} {s} a l b g = record { agree = λ u h. ⊎_elim (here u) (there u) (Memᴰ.cases_cons h) }
  where
    here : (u : ℕ) → u ≡ s → put σ s a u ≡ (τ ++ a ∷ []) ! u
    here u e = ap (put σ s a) e ∙ put-new σ s a ∙ sym (new-stream τ a l) ∙ ap (λ i. (τ ++ a ∷ []) ! i) (sym e)

    there : (u : ℕ) → u ∈ ids → put σ s a u ≡ (τ ++ a ∷ []) ! u
    there u h =
        let low = b u h in
        put-old σ s a u (λ e. omega arith) ∙ g.agree u h ∙ sym (kept τ (a ∷ []) u (omega arith))

-- after a WithCtrl that puts out what it should
agree-mix : {ids outs : List ℕ} {σ τ : Stores} {old new : Store}
    → Agree ids σ old
    → ((u : ℕ) → u ∈ ids → new ! u ≡ old ! u)
    → ((u : ℕ) → u ∈ outs → τ u ≡ new ! u)
    → Agree (outs ++ ids) (mix outs τ σ) new
agree-mix {ids} {outs} {σ} {τ} {old} {new} g same puts = record { agree = λ u h. ⊎_elim (out u) (λ k. ⊎_elim (out u) (λ n. mix-old outs τ σ u n ∙ g.agree u k ∙ sym (same u k)) (known u outs)) (Memᴰ.append_cases outs h) }
  where
    out : (u : ℕ) → u ∈ outs → mix outs τ σ u ≡ new ! u
    out u h = mix-new outs τ σ u h ∙ puts u h

-- ---- the derivation

units_of_lem : (o : Option Stream) {k : ℕ} → units_of o ≡ some k → o ≡ some (units k)
units_of_lem none q = never (cc)
units_of_lem (some (ints zs)) q = never (cc)
units_of_lem (some (bools cs)) q = never (cc)
units_of_lem (some (flags bs)) q = never (cc)
units_of_lem (some (units n)) {k} q = let e : n ≡ k = cc in ap (λ n. some (units n)) e

derived-done : {s n : ℕ} {ids : List ℕ} {σ : Stores} {m : State} → Agree ids σ m.store → Derived done s n ids σ m
unfolding written dv
derived-done {σ = σ} g = record { stores = σ; runs = p-empty (λ u. refl); made-known = record { agree = λ u h. absurd (Memᴰ.not-nil h) }; still-known = g; kept-below = λ u h. refl }

derived-define : {t : Transducer} {p : Program} {s n : ℕ} {ids : List ℕ} {σ : Stores} (m : State) {m' : State} {a : Stream}
    → length m.store ≡ s
    → apply t n m.store ≡ made a
    → Within (operands t) ids
    → Agree ids σ m.store
    → Derived p (suc s) n (s ∷ ids) (put σ s a) m'
    → Derived (define t p) s n ids σ m'
unfolding written dv
derived-define {t} {p} {s} {n} {ids} {σ} m {m'} {a} l e w g r =
    let (xs, f) = apply-fetches t n m.store e in
    record {
      stores = r.stores;
      runs = p-seq (p-xducer (fetched g w f) ((apply-exactly t n m.store a f).0 e) (put-new σ s a) (put-old σ s a)) r.runs;
      made-known = record { agree = λ u h. ⊎_elim (λ q. r.still-known.agree u (Memᴰ.head q)) (λ k. r.made-known.agree u k) (Memᴰ.cases_cons h) };
      still-known = record { agree = λ u h. r.still-known.agree u (Memᴰ.tail h) };
      kept-below = λ u h. r.kept-below u (omega arith) ∙ put-old σ s a u (λ q. omega arith);
    }

derived-with_ctrl : {outs ins : List ℕ} {c : ℕ} {b p : Program} {s n : ℕ} {ids : List ℕ} {σ : Stores} (τ : Stores) {m' : State}
    → Runs (with_ctrl outs c ins (written s b)) σ n (mix outs τ σ)
    → ((u : ℕ) → u ∈ outs → s ≤ u)
    → Derived p (s + count b) n (outs ++ ids) (mix outs τ σ) m'
    → Derived (programs.with_ctrl outs c ins b p) s n ids σ m'
unfolding written dv
derived-with_ctrl {outs} {b = b} {s = s} {σ = σ} τ h high r =
    record {
      stores = r.stores;
      runs = p-seq h r.runs;
      made-known = record { agree = λ u k. ⊎_elim (λ o. r.still-known.agree u (Memᴰ.append_left _ o)) (λ v. r.made-known.agree u v) (Memᴰ.append_cases outs k) };
      still-known = record { agree = λ u k. r.still-known.agree u (Memᴰ.append_right outs k) };
      kept-below = λ u k. r.kept-below u (omega arith) ∙ mix-old outs τ σ u (λ o. let z = high u o in omega arith);
    }

below_more : {s t : ℕ} {outs ids : List ℕ} → s ≤ t → Below s ids → ((u : ℕ) → u ∈ outs → u < t) → Below t (outs ++ ids)
below_more {outs = outs} le b o u h = ⊎_elim (o u) (λ k. let z = b u k in omega arith) (Memᴰ.append_cases outs h)

empty-too : {ids : List ℕ} {σ : Stores} {τ : Store} {u : ℕ} → Agree ids σ τ → u ∈ ids → Empty τ u → IsEmpty σ u
empty-too {u = u} g h e = record { stream = e.stream; there-is = g.agree u h ∙ e.there-is; no-elements = e.no-elements }

-- the views of a program's three properties
well-rest : {t : Transducer} {p : Program} {s : ℕ} → WellFormed s (define t p) → WellFormed (suc s) p
well-rest (well-define a w b) = w

scoped-parts : {t : Transducer} {p : Program} {s : ℕ} {ids : List ℕ} → Scoped ids s (define t p) → Within (operands t) ids × Scoped (s ∷ ids) (suc s) p
scoped-parts (scoped-define w r) = (w, r)

proper-rest : {t : Transducer} {p : Program} {n : ℕ} {m : State} {a : Stream} → apply t n m.store ≡ made a → Proper (define t p) n m → Proper p n (push t n a m)
proper-rest {t} {n = n} {m = m} {a = a} e (proper-define f) = f (push t n a m) (step-made t n m e)

record WellParts (outs : List ℕ) (b p : Program) (s : ℕ) : Type 0 where
  body : WellFormed s b
  puts : Within outs (dv s b)
  rest : WellFormed (s + count b) p

well-parts : {outs ins : List ℕ} {c : ℕ} {b p : Program} {s : ℕ} → WellFormed s (programs.with_ctrl outs c ins b p) → WellParts outs b p s
well-parts (well-with_ctrl w i o a v d) = record { body = w; puts = o; rest = v }

scoped-three : {outs ins : List ℕ} {c : ℕ} {b p : Program} {s : ℕ} {ids : List ℕ}
    → Scoped ids s (programs.with_ctrl outs c ins b p)
    → Within (c ∷ ins) ids × Scoped ins s b × Scoped (outs ++ ids) (s + count b) p
scoped-three (scoped-with_ctrl w i r) = (w, i, r)

record ProperParts (outs ins : List ℕ) (c : ℕ) (b p : Program) (n : ℕ) (m : State) : Type 0 where
  empties : m.store ! c ≡ some (units 0) → (u : ℕ) → u ∈ ins → Empty m.store u
  body : (j : ℕ) → m.store ! c ≡ some (units (suc j)) → Proper b (suc j) m
  rest : (m' : State) → run boundless (programs.with_ctrl outs c ins b done) n m ≡ went m' → Proper p n m'

proper-parts : {outs ins : List ℕ} {c : ℕ} {b p : Program} {n : ℕ} {m : State} → Proper (programs.with_ctrl outs c ins b p) n m → ProperParts outs ins c b p n m
proper-parts (proper-with_ctrl e b r) = record { empties = e; body = b; rest = r }

-- a control that both stores have
control : {ins ids : List ℕ} {c k : ℕ} {σ : Stores} {τ : Store} → Within (c ∷ ins) ids → Agree ids σ τ → τ ! c ≡ some (units k) → σ c ≡ some (units k)
control {c = c} w g e = g.agree c (w c (Memᴰ.head refl)) ∙ e

-- the mapping of what a skipped body leaves
abbrev blank : Kinds → Svcode → Stores
blank κ p u = empty_of (kind_in κ p u)

-- a list has its own kinds
own-kinds : (τ : Store) → HasKinds (kinds_in (λ v. τ ! v)) τ
own-kinds τ = covers-kinds (record { covers = λ u a q. q })

both-have : {ids ins : List ℕ} (σ : Stores) (τ : Store) → Agree ids σ τ → Within ins ids → ((u : ℕ) → u ∈ ins → Empty τ u) → BothKnow ins (kinds_in σ) (kinds_in (λ v. τ ! v))
both-have σ τ g w e = record { both = λ u h. let x = e u h in (kind_of x.stream, (ap kind_at (g.agree u (w u h) ∙ x.there-is), ap kind_at x.there-is)) }

blank-left : {s : ℕ} {b : Program} {ins : List ℕ} (σ : Stores) (τ : Store)
    → length τ ≡ s
    → WellFormed s b
    → Scoped ins s b
    → BothKnow ins (kinds_in σ) (kinds_in (λ v. τ ! v))
    → (u : ℕ) → u ∈ dv s b → blank (kinds_in σ) (written s b) u ≡ (τ ++ skipped τ b) ! u
blank-left {s} {b} σ τ l w i g u h =
    let (k, (p, q)) = (both-known w i g).both u h in
    ap empty_of p ∙ sym (skipped-kind b (kinds_in (λ v. τ ! v)) τ s u k (own-kinds τ) l q)

below_next : {s : ℕ} {ids : List ℕ} → Below s ids → Below (suc s) (s ∷ ids)
below_next b u h = ⊎_elim (λ e. omega arith) (λ k. let z = b u k in omega arith) (Memᴰ.cases_cons h)

pub derive : {p : Program} {n : ℕ} {m m' : State} (s : ℕ) (ids : List ℕ) (σ : Stores)
    → Ran p n m (went m')
    → WellFormed s p
    → Scoped ids s p
    → Proper p n m
    → length m.store ≡ s
    → Below s ids
    → Agree ids σ m.store
    → Derived p s n ids σ m'
derive s ids σ ran-done w k r l b g = derived-done g
derive s ids σ (ran-define {t = t} {p = p} {n = n} {m = m} {a = a} e v) w k r l b g =
    let (uses, rest) = scoped-parts k in
    let next : length (m.store ++ a ∷ []) ≡ suc s = omega (arith, next-id m.store a l) in
    derived-define m l e uses g
    (derive (suc s) (s ∷ ids) (put σ s a) v (well-rest w) rest (proper-rest {m = m} e r) next (below_next b) (agree-put a l b g))
derive s ids σ (ran-skip {outs = outs} {ins = ins} {b = body} {p = p} {c = c} {n = n} {m = m} e v) w k r l b g =
    let wp = well-parts w in
    let (uses, inner, rest) = scoped-three k in
    let pp = proper-parts r in
    let zero-units = units_of_lem (m.store ! c) e in
    let τ = blank (kinds_in σ) (written s body) in
    let inside = both-have σ m.store g (λ u h. uses u (Memᴰ.tail h)) (pp.empties zero-units) in
    let long : length (m.store ++ skipped m.store body) ≡ s + count body = omega (arith, length-append m.store (skipped m.store body), skipped-adds m.store body, l) in
    derived-with_ctrl τ
    (p-wc-emp (control uses g zero-units) (λ u h. empty-too g (uses u (Memᴰ.tail h)) (pp.empties zero-units u h)) (mix-new outs τ σ) (mix-old outs τ σ))
    (λ u h. (known-between wp.body (wp.puts u h)).0)
    (derive (s + count body) (outs ++ ids) (mix outs τ σ) v wp.rest rest
    (pp.rest (skip body m) (run-skipped boundless outs ins c body done n m zero-units ∙ run-done boundless n (skip body m)))
    long (below_more (omega arith) b (λ u h. (known-between wp.body (wp.puts u h)).1))
    (agree-mix g (λ u h. kept m.store (skipped m.store body) u (omega (arith, b u h, l))) (λ u h. blank-left σ m.store l wp.body inner inside u (wp.puts u h))))
derive s ids σ (ran-body {outs = outs} {ins = ins} {b = body} {p = p} {c = c} {n = n} {j = j} {m = m} {m' = m'} e f v v') w k r l b g =
    let wp = well-parts w in
    let (uses, inner, rest) = scoped-three k in
    let pp = proper-parts r in
    let some-units = units_of_lem (m.store ! c) e in
    let inside = derive s ins σ v wp.body inner (pp.body j some-units) l (λ u h. b u (uses u (Memᴰ.tail h))) (record { agree = λ u h. g.agree u (uses u (Memᴰ.tail h)) }) in
    let τ = inside.stores in
    derived-with_ctrl τ
    (p-wc-nonemp (control uses g some-units) inside.runs (mix-new outs τ σ) (mix-old outs τ σ))
    (λ u h. (known-between wp.body (wp.puts u h)).0)
    (derive (s + count body) (outs ++ ids) (mix outs τ σ) v' wp.rest rest
    (pp.rest m' (run-body boundless outs ins c body done n m some-units ∙ ap (λ r. onward r (run boundless done n)) f ∙ run-done boundless n m'))
    (went-length body (suc j) m f ∙ ap (λ k. k + count body) l) (below_more (omega arith) b (λ u h. (known-between wp.body (wp.puts u h)).1))
    (agree-mix g (λ u h. same-run body (suc j) m f u (omega (arith, b u h, l))) (λ u h. inside.made-known.agree u (wp.puts u h))))

-- the same of a run
pub run-derives : (p : Program) (s n : ℕ) (m m' : State) (ids : List ℕ) (σ : Stores)
    → run boundless p n m ≡ went m'
    → WellFormed s p
    → Scoped ids s p
    → Proper p n m
    → length m.store ≡ s
    → Below s ids
    → Agree ids σ m.store
    → Derived p s n ids σ m'
run-derives p s n m m' ids σ e = derive s ids σ (subst (Ran p n m) e (ran p n m))
