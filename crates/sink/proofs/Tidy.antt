-- Programs that a survey may be made of: by number alone it is told which ids such a program uses from outside, and which of its tree it defines. So both lists
-- of a WithCtrl over it are found without its code at hand.
use Prim.Native.Nat.{ℕ, suc, ◌+◌, ◌≤◌, ◌<◌}
use native.Mathlib.Omega.{arith}
use mathlib.Core.List.Memᴰ
use mathlib.Core.List.{List, [], ◌∷◌, ◌++◌}
use mathlib.Core.Logic.{◌⊎◌, ⊎_elim}
use mathlib.Core.Path.{◌≡◌, subst}
use Rattle.snesl.specs.declared.code.Transducer.{Transducer}
use Rattle.snesl.specs.Transducers.{operands}
use Rattle.snesl.specs.Trees.{Tree, order}
use Rattle.snesl.specs.Programs.{Program, done, define, with_ctrl, ◌⨾◌, count, dv, fv, without, among, ascending, Within}
use Rattle.snesl.specs.Translation.{controlled}
use Rattle.snesl.specs.Ids.{Below}
use Rattle.snesl.proofs.Compiled.Members.{◌∈◌, of-without, to-without, of-among, to-among, of-ascending, to-ascending}
use Rattle.snesl.proofs.Compiled.Ascending.{ascending-same}
use Rattle.sink.specs.Between.{between}
use Rattle.sink.proofs.Least.{of-between, to-between}

-- the operands of a program's definitions, its bodies' included
unfoldable pub uses : Program → List ℕ
uses done = []
uses (define t p) = operands t ++ uses p
uses (with_ctrl outs c ins b p) = uses b ++ uses p

-- A program in which nothing below a is a control, an output or a definition, and every WithCtrl takes in what its body leaves free.
pub data Tidy (a : ℕ) : ℕ → Program → Type 0 where
  tidy-done : {s : ℕ} → Tidy a s done
  tidy-define : {s : ℕ} {t : Transducer} {p : Program} → a ≤ s → Tidy a (suc s) p → Tidy a s (define t p)
  tidy-with_ctrl : {s c : ℕ} {outs : List ℕ} {b p : Program}
      → a ≤ c
      → ((u : ℕ) → u ∈ outs → a ≤ u)
      → Tidy a s b
      → Tidy a (s + count b) p
      → Tidy a s (with_ctrl outs c (ascending (fv s b)) b p)

-- in it the ids below a that are free are those that are used
module _ {a u : ℕ} (low : u < a) where
  pub free-used : {s : ℕ} {p : Program} → Tidy a s p → u ∈ fv s p → u ∈ uses p
  unfolding fv uses
  free-used tidy-done m = m
  free-used (tidy-define {s = s} {t = t} {p = p} l r) m =
      ⊎_elim (λ k. Memᴰ.append_left (uses p) k) (λ k. Memᴰ.append_right (operands t) (free-used r (of-without (fv (suc s) p) (s ∷ []) k).0))
      (Memᴰ.append_cases (operands t) m)
  free-used (tidy-with_ctrl {s = s} {c = c} {outs = outs} {b = b} {p = p} lc lo rb r) m =
      ⊎_elim
      (λ k. ⊎_elim (λ e. absurd (never e)) (λ j. Memᴰ.append_left (uses p) (free-used rb (of-ascending (fv s b) j))) (Memᴰ.cases_cons k))
      (λ k. Memᴰ.append_right (uses b) (free-used r (of-without (fv (s + count b) p) outs k).0))
      (Memᴰ.append_cases (c ∷ ascending (fv s b)) m)
    where
      never : u ≡ c → ⊥
      never e = omega arith

  pub used-free : {s : ℕ} {p : Program} → Tidy a s p → u ∈ uses p → u ∈ fv s p
  unfolding fv uses
  used-free tidy-done m = m
  used-free (tidy-define {s = s} {t = t} {p = p} l r) m =
      ⊎_elim (λ k. Memᴰ.append_left (without (fv (suc s) p) (s ∷ [])) k)
      (λ k. Memᴰ.append_right (operands t) (to-without (fv (suc s) p) (s ∷ []) (used-free r k) (λ j. never (Memᴰ.eq_of_singleton j))))
      (Memᴰ.append_cases (operands t) m)
    where
      never : u ≡ s → ⊥
      never e = omega arith
  used-free (tidy-with_ctrl {s = s} {c = c} {outs = outs} {b = b} {p = p} lc lo rb r) m =
      ⊎_elim
      (λ k. Memᴰ.append_left (without (fv (s + count b) p) outs) (Memᴰ.tail (to-ascending (fv s b) (used-free rb k))))
      (λ k. Memᴰ.append_right (c ∷ ascending (fv s b)) (to-without (fv (s + count b) p) outs (used-free r k) (λ j. never (lo u j))))
      (Memᴰ.append_cases (uses b) m)
    where
      never : a ≤ u → ⊥
      never e = omega arith

-- translated code is tidy
pub tidy-at : {a s s' : ℕ} {p : Program} → s ≡ s' → Tidy a s p → Tidy a s' p
tidy-at {a} {p = p} e = subst (λ s. Tidy a s p) e

pub tidy-seq : {a s s' : ℕ} {p q : Program} → Tidy a s p → s + count p ≡ s' → Tidy a s' q → Tidy a s (p ⨾ q)
unfolding ◌⨾◌ count
tidy-seq tidy-done e r = tidy-at (omega arith) r
tidy-seq (tidy-define l f) e r = tidy-define l (tidy-seq f (omega arith) r)
tidy-seq (tidy-with_ctrl lc lo fb f) e r = tidy-with_ctrl lc lo fb (tidy-seq f (omega arith) r)

pub tidy-alone : {a s : ℕ} (t : Transducer) → a ≤ s → Tidy a s (define t done)
tidy-alone t l = tidy-define l tidy-done

pub tidy-controlled : {a d : ℕ} (c s : ℕ) (p : Program) (st : Tree ℕ d)
    → a ≤ c
    → ((u : ℕ) → u ∈ dv s p → a ≤ u)
    → Tidy a s p
    → Tidy a s (controlled c s p st)
tidy-controlled c s p st l low r =
    tidy-with_ctrl l (λ u m. low u (of-among (order st) (dv s p) (of-ascending (among (order st) (dv s p)) m)).1) r tidy-done

pub dv_one : {u : ℕ} (s : ℕ) (t : Transducer) → u ∈ dv s (define t done) → u ≡ s
unfolding dv
dv_one s t m = Memᴰ.eq_of_singleton m

-- A program from s on with its result's tree: it is tidy, uses from before s only some ids, and its tree names these or what it makes known.
pub record Surveyable (s : ℕ) (p : Program) {d : ℕ} (st : Tree ℕ d) (ids : List ℕ) : Type 0 where
  pub tidy : Tidy s s p
  pub free : Within (fv s p) ids
  pub below : Below s ids
  pub next : (u : ℕ) → u ∈ dv s p → (s ≤ u) × (u < s + count p)
  pub result : (u : ℕ) → u ∈ order st → (u ∈ ids) ⊎ (u ∈ dv s p)

module _ {s d : ℕ} {p : Program} {st : Tree ℕ d} {ids : List ℕ} (y : Surveyable s p st ids) where
  -- what a WithCtrl over it takes in
  pub taken_in : ascending (fv s p) ≡ ascending (between 0 s (uses p))
  taken_in =
      ascending-same (fv s p) (between 0 s (uses p))
      (λ u m. let l = y.below u (y.free u m) in to-between 0 s (uses p) (free-used l y.tidy m) (omega arith) l)
      (λ u m. let r = of-between 0 s (uses p) m in used-free r.2 y.tidy r.0)

  -- it can only be one of those ids
  pub used-known : (u : ℕ) → u ∈ uses p → u < s → u ∈ ids
  used-known u m l = y.free u (used-free l y.tidy m)

  -- what it puts out
  pub put-out : ascending (among (order st) (dv s p)) ≡ ascending (between s (s + count p) (order st))
  put-out =
      ascending-same (among (order st) (dv s p)) (between s (s + count p) (order st))
      (λ u m. let r = of-among (order st) (dv s p) m in let l = y.next u r.1 in to-between s (s + count p) (order st) r.0 l.0 l.1)
      (λ u m.
      let r = of-between s (s + count p) (order st) m in
      to-among (order st) (dv s p) r.0 (⊎_elim (λ k. absurd (never u (y.below u k) r.1)) (λ k. k) (y.result u r.0)))
    where
      never : (u : ℕ) → u < s → s ≤ u → ⊥
      never u a b = omega arith
