-- How `;` is grouped changes neither what code uses and defines nor how it runs.
use Prim.Native.Nat.{ℕ, suc, ◌+◌}
use mathlib.Core.List.{List, [], ◌∷◌, ◌++◌, append_assoc, append-nil}
use mathlib.Core.Option.{Option, some, none}
use mathlib.Core.Path.{◌≡◌, refl, sym, ap, ◌∙◌}
use Rattle.snesl.specs.declared.code.Kind.{Kind}
use Rattle.snesl.specs.Transducers.{operands}
use Rattle.snesl.specs.Programs as programs
use Rattle.snesl.specs.Programs.{Program, done, define, count, without, member}
use Rattle.snesl.proofs.Compiled.Members.{without-append, without-none, without-twice}
use Rattle.rules.specs.Instructions.{Svcode, nop, assign, with_ctrl, seq, Kinds, first_of, when, kind_in, kinds_in, empty_of, Stores, Runs, p-empty, p-xducer, p-wc-emp, p-wc-nonemp, p-seq, written}
use Rattle.rules.specs.Translation.{dv, fv, regroup}
use Rattle.rules.proofs.Instructions.Running.{of-nop, of-seq}

dv-regroup : (p k : Svcode) → dv (regroup p k) ≡ dv p ++ dv k
unfolding dv regroup
dv-regroup nop k = refl
dv-regroup (assign s ψ ss) k = refl
dv-regroup (with_ctrl outs c ins p) k = refl
dv-regroup (seq p q) k = dv-regroup p (regroup q k) ∙ ap (λ l. dv p ++ l) (dv-regroup q k) ∙ sym (append_assoc (dv p) (dv q) (dv k))

fv-regroup : (p k : Svcode) → fv (regroup p k) ≡ fv p ++ without (fv k) (dv p)
unfolding dv fv regroup
fv-regroup nop k = sym (without-none (fv k))
fv-regroup (assign s ψ ss) k = refl
fv-regroup (with_ctrl outs c ins p) k = refl
fv-regroup (seq p q) k =
    fv-regroup p (regroup q k)
    ∙ ap (λ l. fv p ++ without l (dv p)) (fv-regroup q k)
    ∙ ap (λ l. fv p ++ l) (without-append (fv q) (without (fv k) (dv q)) (dv p) ∙ ap (λ l. without (fv q) (dv p) ++ l) (without-twice (fv k) (dv q) (dv p)))
    ∙ sym (append_assoc (fv p) (without (fv q) (dv p)) (without (fv k) (dv p ++ dv q)))

pub dv-grouped : (p : Svcode) → dv (regroup p nop) ≡ dv p
unfolding dv
dv-grouped p = dv-regroup p nop ∙ append-nil (dv p)

pub fv-grouped : (p : Svcode) → fv (regroup p nop) ≡ fv p
unfolding fv without
fv-grouped p = fv-regroup p nop ∙ append-nil (fv p)

-- a program with its ids written out has the paper's dv and fv
pub dv-written : (s : ℕ) (p : Program) → dv (written s p) ≡ programs.dv s p
unfolding dv written programs.dv
dv-written s done = refl
dv-written s (define t p) = ap (λ l. s ∷ l) (dv-written (suc s) p)
dv-written s (programs.with_ctrl outs c ins b p) = ap (λ l. outs ++ l) (dv-written (s + count b) p)

pub fv-written : (s : ℕ) (p : Program) → fv (written s p) ≡ programs.fv s p
unfolding dv fv written programs.fv
fv-written s done = refl
fv-written s (define t p) = ap (λ l. operands t ++ without l (s ∷ [])) (fv-written (suc s) p)
fv-written s (programs.with_ctrl outs c ins b p) = ap (λ l. (c ∷ ins) ++ without l outs) (fv-written (s + count b) p)

-- ---- running

first-assoc : (a b c : Option Kind) → first_of a (first_of b c) ≡ first_of (first_of a b) c
first-assoc none b c = refl
first-assoc (some k) b c = refl

first-none : (a : Option Kind) → first_of a none ≡ a
first-none none = refl
first-none (some k) = refl

kind-regroup : (κ : Kinds) (p k : Svcode) (u : ℕ) → kind_in κ (regroup p k) u ≡ first_of (kind_in (λ v. first_of (kind_in κ p v) (κ v)) k u) (kind_in κ p u)
unfolding kind_in regroup
kind-regroup κ nop k u = sym (first-none (kind_in κ k u))
kind-regroup κ (assign s ψ ss) k u = refl
kind-regroup κ (with_ctrl outs c ins p) k u =
    λ i.
    first_of (kind_in (λ v. first_of (when (kind-regroup κ p nop v i) (member v outs)) (κ v)) k u) (when (kind-regroup κ p nop u i) (member u outs))
kind-regroup κ (seq p q) k u =
    kind-regroup κ p (regroup q k) u
    ∙ ap (λ o. first_of o (kind_in κ p u)) (kind-regroup (λ v. first_of (kind_in κ p v) (κ v)) q k u)
    ∙ sym (first-assoc (kind_in (λ v. first_of (kind_in (λ w. first_of (kind_in κ p w) (κ w)) q v) (first_of (kind_in κ p v) (κ v))) k u) (kind_in (λ v. first_of (kind_in κ p v) (κ v)) q u) (kind_in κ p u))
    ∙ (λ i. first_of (kind_in (λ v. first-assoc (kind_in (λ w. first_of (kind_in κ p w) (κ w)) q v) (kind_in κ p v) (κ v) i) k u) (first_of (kind_in (λ v. first_of (kind_in κ p v) (κ v)) q u) (kind_in κ p u)))

kind-alone : (κ : Kinds) (p : Svcode) (u : ℕ) → kind_in κ (regroup p nop) u ≡ kind_in κ p u
unfolding kind_in
kind-alone κ p u = kind-regroup κ p nop u

-- a store with the same streams will do as well
same_end : {p : Svcode} {σ σ' σ'' : Stores} {c : ℕ} → Runs p σ c σ'' → ((u : ℕ) → σ' u ≡ σ'' u) → Runs p σ c σ'
same_end (p-empty h) e = p-empty (λ u. e u ∙ h u)
same_end (p-xducer {s = s} f l n o) e = p-xducer f l (e s ∙ n) (λ u h. e u ∙ o u h)
same_end (p-wc-emp c i n o) e = p-wc-emp c i (λ u h. e u ∙ n u h) (λ u h. e u ∙ o u h)
same_end (p-wc-nonemp c r n o) e = p-wc-nonemp c r (λ u h. e u ∙ n u h) (λ u h. e u ∙ o u h)
same_end (p-seq h k) e = p-seq h (same_end k e)

ungroup-with_ctrl : {outs ins : List ℕ} {s : ℕ} {p q : Svcode} {σ σ' : Stores} {c : ℕ}
    → ((u : ℕ) → kind_in (kinds_in σ) q u ≡ kind_in (kinds_in σ) p u)
    → ((σ'' : Stores) (n : ℕ) → Runs q σ n σ'' → Runs p σ n σ'')
    → Runs (with_ctrl outs s ins q) σ c σ'
    → Runs (with_ctrl outs s ins p) σ c σ'
ungroup-with_ctrl kinds body (p-wc-emp c i n o) = p-wc-emp c i (λ u h. n u h ∙ ap empty_of (kinds u)) o
ungroup-with_ctrl kinds body (p-wc-nonemp {n = j} {σ'' = σ''} c r n o) = p-wc-nonemp c (body σ'' (suc j) r) n o

ungroup : (p k : Svcode) {σ σ' : Stores} {c : ℕ} → Runs (regroup p k) σ c σ' → (σ'' : Stores) × Runs p σ c σ'' × Runs k σ'' c σ'
unfolding regroup kind_in
ungroup nop k {σ} h = (σ, p-empty (λ u. refl), h)
ungroup (assign s ψ ss) k h = of-seq h
ungroup (with_ctrl outs c ins p) k {σ} h =
    let (σ'', h₁, h₂) = of-seq h in (
      σ'',
      ungroup-with_ctrl (kind-alone (kinds_in σ) p) (λ τ n r. let (τ₁, r₁, r₂) = ungroup p nop r in same_end r₁ (of-nop r₂)) h₁,
      h₂,
    )
ungroup (seq p q) k h =
    let (σ₁, h₁, h₂) = ungroup p (regroup q k) h in
    let (σ₂, k₁, k₂) = ungroup q k h₂ in
    (σ₂, p-seq h₁ k₁, k₂)

pub ungrouped : (p : Svcode) {σ σ' : Stores} {c : ℕ} → Runs (regroup p nop) σ c σ' → Runs p σ c σ'
ungrouped p h = let (σ'', h₁, h₂) = ungroup p nop h in same_end h₁ (of-nop h₂)
