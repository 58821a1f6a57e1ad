-- p1; p2 (002, 1.2.1): how many streams it defines, which it defines (dv), which it uses (fv), as the paper's equations, and 002's rules for it: programs are
-- written from their first part on, and these laws make up for that.
use Prim.Native.Nat.{ℕ, suc, ◌+◌}
use native.Mathlib.Omega.{arith}
use native.Mathlib.Nat.{add-zero}
use mathlib.Core.List.Memᴰ
use mathlib.Core.List.{List, [], ◌∷◌, ◌++◌, append_assoc}
use mathlib.Core.Logic.{◌⊎◌, inl, inr, ⊎_elim}
use mathlib.Core.Path.{◌≡◌, sym, ◌∙◌, ap}
use Rattle.snesl.specs.declared.code.Transducer.{Transducer}
use Rattle.snesl.specs.Transducers.{operands}
use Rattle.snesl.specs.Programs.{Program, done, define, with_ctrl, ◌⨾◌, count, without, dv, fv}
use Rattle.snesl.proofs.Compiled.Members.{◌∈◌, ◌∉◌, of-without, without-none, without-append, without-twice}

-- what is free in a program is used by its first part, or free in the rest and not made known by the first
pub of-fv-define : {u : ℕ} (s : ℕ) (t : Transducer) (p : Program) → u ∈ fv s (define t p) → (u ∈ operands t) ⊎ ((u ∈ fv (suc s) p) × (u ∉ s ∷ []))
unfolding fv
of-fv-define s t p h = ⊎_elim inl (λ m. inr (of-without (fv (suc s) p) (s ∷ []) m)) (Memᴰ.append_cases (operands t) h)

pub of-fv-with_ctrl : {u : ℕ} (s c : ℕ) (outs ins : List ℕ) (b p : Program)
    → u ∈ fv s (with_ctrl outs c ins b p)
    → (u ∈ (c ∷ ins)) ⊎ ((u ∈ fv (s + count b) p) × (u ∉ outs))
unfolding fv
of-fv-with_ctrl s c outs ins b p h =
    ⊎_elim inl (λ m. inr (of-without (fv (s + count b) p) outs m)) (Memᴰ.append_cases (c ∷ ins) h)

pub count-seq : (p q : Program) → count (p ⨾ q) ≡ count p + count q
unfolding ◌⨾◌ count
count-seq done q = omega arith
count-seq (define t p) q = omega (arith, count-seq p q)
count-seq (with_ctrl outs c ins b p) q = omega (arith, count-seq p q)

-- dv(p1; p2) = dv(p1) ∪ dv(p2)
pub dv-seq : (s : ℕ) (p q : Program) → dv s (p ⨾ q) ≡ dv s p ++ dv (s + count p) q
unfolding ◌⨾◌ count dv
dv-seq s done q = ap (λ k. dv k q) (sym (add-zero s))
dv-seq s (define t p) q = ap (λ l. s ∷ l) (dv-seq (suc s) p q ∙ ap (λ k. dv (suc s) p ++ dv k q) (omega arith))
dv-seq s (with_ctrl outs c ins b p) q =
    ap (λ l. outs ++ l) (dv-seq (s + count b) p q ∙ ap (λ k. dv (s + count b) p ++ dv k q) (omega arith))
    ∙ sym (append_assoc outs _ _)

-- what a first part leaves free, then what the rest leaves free of that
fv-parts : (os ds fs gs es : List ℕ) → os ++ without (fs ++ without gs es) ds ≡ (os ++ without fs ds) ++ without gs (ds ++ es)
fv-parts os ds fs gs es =
    ap (λ l. os ++ l) (without-append fs (without gs es) ds ∙ ap (λ l. without fs ds ++ l) (without-twice gs es ds))
    ∙ sym (append_assoc os _ _)

-- fv(p1; p2) = fv(p1) ∪ (fv(p2) - dv(p1))
pub fv-seq : (s : ℕ) (p q : Program) → fv s (p ⨾ q) ≡ fv s p ++ without (fv (s + count p) q) (dv s p)
unfolding ◌⨾◌ count dv fv
fv-seq s done q = ap (λ k. fv k q) (sym (add-zero s)) ∙ sym (without-none (fv (s + 0) q))
fv-seq s (define t p) q =
    ap (λ l. operands t ++ without l (s ∷ [])) (fv-seq (suc s) p q ∙ ap (λ k. fv (suc s) p ++ without (fv k q) (dv (suc s) p)) (omega arith))
    ∙ fv-parts (operands t) (s ∷ []) (fv (suc s) p) (fv (s + suc (count p)) q) (dv (suc s) p)
fv-seq s (with_ctrl outs c ins b p) q =
    ap (λ l. (c ∷ ins) ++ without l outs) (fv-seq (s + count b) p q ∙ ap (λ k. fv (s + count b) p ++ without (fv k q) (dv (s + count b) p)) (omega arith))
    ∙ fv-parts (c ∷ ins) outs (fv (s + count b) p) (fv (s + (count b + count p)) q) (dv (s + count b) p)

-- the same by members, with where p2 starts
pub of-dv-from : {a u : ℕ} (s : ℕ) (p q : Program) → s + count p ≡ a → u ∈ dv s (p ⨾ q) → (u ∈ dv s p) ⊎ (u ∈ dv a q)
of-dv-from s p q from h = Memᴰ.append_cases (dv s p) (rw (dv-seq, from) at h)

pub dv-from-right : {a u : ℕ} (s : ℕ) (p q : Program) → s + count p ≡ a → u ∈ dv a q → u ∈ dv s (p ⨾ q)
dv-from-right s p q from h = rw (dv-seq, from) (Memᴰ.append_right (dv s p) h)

-- or with the number of streams that p1 defines
module _ (s n : ℕ) (p q : Program) (counted : count p ≡ n) where
  pub of-dv-seq : {u : ℕ} → u ∈ dv s (p ⨾ q) → (u ∈ dv s p) ⊎ (u ∈ dv (s + n) q)
  of-dv-seq = of-dv-from s p q (ap (λ k. s + k) counted)

  pub dv-seq-left : {u : ℕ} → u ∈ dv s p → u ∈ dv s (p ⨾ q)
  dv-seq-left h = rw dv-seq (Memᴰ.append_left _ h)

  pub dv-seq-right : {u : ℕ} → u ∈ dv (s + n) q → u ∈ dv s (p ⨾ q)
  dv-seq-right = dv-from-right s p q (ap (λ k. s + k) counted)

  pub of-fv-seq : {u : ℕ} → u ∈ fv s (p ⨾ q) → (u ∈ fv s p) ⊎ ((u ∈ fv (s + n) q) × (u ∉ dv s p))
  of-fv-seq h =
      ⊎_elim inl (λ m. inr (of-without (fv (s + n) q) (dv s p) m))
      (Memᴰ.append_cases (fv s p) (rw (fv-seq, counted) at h))
