-- The boundless run taken apart: how each kind of program goes on, which stores it passes, that the store only grows, that it grows by one stream for each
-- definition, so that an id is a position of the store, and that it never stops with `full`.
use Prim.Native.Nat.{ℕ, zero, suc, ◌+◌, ◌≤◌}
use native.Mathlib.Omega.{arith}
use mathlib.Core.Bool.{Bool, true, false}
use mathlib.Core.List.{List, [], ◌∷◌, ◌++◌, append_assoc, append-nil}
use mathlib.Core.Logic.{◌⊎◌, inl, inr, ⊎_elim}
use mathlib.Core.Option.{Option, some, none}
use mathlib.Core.Path.{◌≡◌, refl, sym, ◌∙◌, ap, subst}
use lib.ListN.{length, take, length-append}
use lib.Seq.{take-append_seam, take-take}
use Rattle.snesl.specs.declared.code.Transducer.{Transducer}
use Rattle.snesl.specs.Streams.{Stream, Store, room, ◌!◌}
use Rattle.snesl.specs.Transducers.{Answer, made, unfit, negative, outside, apply, empty}
use Rattle.snesl.specs.Programs.{Program, done, define, with_ctrl, count}
use Rattle.snesl.specs.Machine.{State, Stop, unfitting, below_zero, out_of_range, full, Result, went, stopped, onward, push, step, skipped, skip, units_of, run, boundless}
use Rattle.snesl.specs.Bounded.{Passes, starts, defines, skips, enters, leaves}

-- σ is how τ begins
pub record Prefix (σ τ : Store) : Type 0 where
  pub rest : Store
  pub split : τ ≡ σ ++ rest

pub prefix-of : {σ τ : Store} → σ ≡ τ → Prefix σ τ
prefix-of {σ} e = record { rest = []; split = sym e ∙ sym (append-nil σ) }

pub prefix-more : (σ τ : Store) → Prefix σ (σ ++ τ)
prefix-more σ τ = record { rest = τ; split = refl }

pub prefix_trans : {ρ σ τ : Store} → Prefix ρ σ → Prefix σ τ → Prefix ρ τ
prefix_trans {ρ} p q = record { rest = p.rest ++ q.rest; split = q.split ∙ ap (λ l. l ++ q.rest) p.split ∙ append_assoc ρ p.rest q.rest }

pub prefix-take : {σ τ : Store} → Prefix σ τ → take (length σ) τ ≡ σ
prefix-take {σ} p = ap (take (length σ)) p.split ∙ take-append_seam σ p.rest

-- one definition: a transducer that answers runs on if there is room; one that doesn't stops in any buffer
module _ (t : Transducer) (n : ℕ) (m : State) where
  pub step-made : {a : Stream} (fits : ℕ → Bool)
      → apply t n m.store ≡ made a
      → step fits t n m ≡ elim (fits (room (m.store ++ a ∷ []))) [ true ↦ went (push t n a m) | false ↦ stopped full (length m.store) ]
  unfolding step
  step-made fits e = rw (e, step)

  data Step : Type 0 where
    answers : (a : Stream) → apply t n m.store ≡ made a → Step
    halts : (why : Stop) → ((why ≡ full) → ⊥) → ((fits : ℕ → Bool) → step fits t n m ≡ stopped why (length m.store)) → Step

  step-view : Step
  unfolding step
  step-view = go (apply t n m.store) refl
    where
      go : (a : Answer) → apply t n m.store ≡ a → Step
      go (made a) e = answers a e
      go (unfit k) e = halts (unfitting k) (λ q. let z : ◌≡◌ {A = ℕ} 0 1 = cc in omega arith) (λ fits. rw (e, step))
      go (negative k) e = halts (below_zero k) (λ q. let z : ◌≡◌ {A = ℕ} 0 1 = cc in omega arith) (λ fits. rw (e, step))
      go (outside k) e = halts (out_of_range k) (λ q. let z : ◌≡◌ {A = ℕ} 0 1 = cc in omega arith) (λ fits. rw (e, step))

-- the clauses of `run`, by what comes of the first part
module _ (fits : ℕ → Bool) (n : ℕ) (m : State) where
  pub run-done : run fits done n m ≡ went m
  unfolding run
  run-done = refl

  pub run-define : {r : Result} (t : Transducer) (p : Program) → step fits t n m ≡ r → run fits (define t p) n m ≡ onward r (run fits p n)
  unfolding run
  run-define t p e = ap (λ r. onward r (run fits p n)) e

  module _ (outs ins : List ℕ) (c : ℕ) (b p : Program) where
    pub run-unfit : units_of (m.store ! c) ≡ none → run fits (with_ctrl outs c ins b p) n m ≡ stopped (unfitting 0) (length m.store)
    unfolding run
    run-unfit e = rw (e, run)

    pub run-skip : units_of (m.store ! c) ≡ some zero → run fits (with_ctrl outs c ins b p) n m ≡ run fits p n (skip b m)
    unfolding run
    run-skip e = rw (e, run)

    pub run-body : {j : ℕ} → units_of (m.store ! c) ≡ some (suc j) → run fits (with_ctrl outs c ins b p) n m ≡ onward (run fits b (suc j) m) (run fits p n)
    unfolding run
    run-body e = rw (e, run)

-- a boundless run, taken apart
pub data Ran : Program → ℕ → State → Result → Type 0 where
  ran-done : {n : ℕ} {m : State} → Ran done n m (went m)
  ran-define : {t : Transducer} {p : Program} {n : ℕ} {m : State} {a : Stream} {r : Result}
      → apply t n m.store ≡ made a
      → Ran p n (push t n a m) r
      → Ran (define t p) n m r
  ran-halt : {t : Transducer} {p : Program} {n : ℕ} {m : State} {why : Stop}
      → ((why ≡ full) → ⊥)
      → ((fits : ℕ → Bool) → step fits t n m ≡ stopped why (length m.store))
      → Ran (define t p) n m (stopped why (length m.store))
  ran-unfit : {outs ins : List ℕ} {b p : Program} {c n : ℕ} {m : State}
      → units_of (m.store ! c) ≡ none
      → Ran (with_ctrl outs c ins b p) n m (stopped (unfitting 0) (length m.store))
  ran-skip : {outs ins : List ℕ} {b p : Program} {c n : ℕ} {m : State} {r : Result}
      → units_of (m.store ! c) ≡ some zero
      → Ran p n (skip b m) r
      → Ran (with_ctrl outs c ins b p) n m r
  ran-body : {outs ins : List ℕ} {b p : Program} {c n j : ℕ} {m m' : State} {r : Result}
      → units_of (m.store ! c) ≡ some (suc j)
      → run boundless b (suc j) m ≡ went m'
      → Ran b (suc j) m (went m')
      → Ran p n m' r
      → Ran (with_ctrl outs c ins b p) n m r
  ran-stuck : {outs ins : List ℕ} {b p : Program} {c n j s : ℕ} {m : State} {why : Stop}
      → units_of (m.store ! c) ≡ some (suc j)
      → run boundless b (suc j) m ≡ stopped why s
      → Ran b (suc j) m (stopped why s)
      → Ran (with_ctrl outs c ins b p) n m (stopped why s)

pub ran : (p : Program) (n : ℕ) (m : State) → Ran p n m (run boundless p n m)
ran done n m = unfold run in ran-done
ran (define t p) n m = go (ran p n) (step-view t n m)
  where
    go : ((m' : State) → Ran p n m' (run boundless p n m')) → Step t n m → Ran (define t p) n m (run boundless (define t p) n m)
    go below (answers a e) = rw (run-define boundless n m t p (step-made t n m boundless e)) (ran-define e (below (push t n a m)))
    go below (halts why new e) = rw (run-define boundless n m t p (e boundless)) (ran-halt new e)
ran (with_ctrl outs c ins b p) n m = go (ran p n) (λ k. ran b k m) (units_of (m.store ! c)) refl
  where
    after : {j : ℕ} → ((m' : State) → Ran p n m' (run boundless p n m')) → units_of (m.store ! c) ≡ some (suc j) → (r : Result) → run boundless b (suc j) m ≡ r
        → Ran b (suc j) m r → Ran (with_ctrl outs c ins b p) n m (onward r (run boundless p n))
    after below e (went m') f w = ran-body e f w (below m')
    after below e (stopped why s) f w = ran-stuck e f w

    go : ((m' : State) → Ran p n m' (run boundless p n m')) → ((k : ℕ) → Ran b k m (run boundless b k m)) → (u : Option ℕ) → units_of (m.store ! c) ≡ u
        → Ran (with_ctrl outs c ins b p) n m (run boundless (with_ctrl outs c ins b p) n m)
    go below body none e = rw (run-unfit boundless n m outs ins c b p e) (ran-unfit e)
    go below body (some zero) e = rw (run-skip boundless n m outs ins c b p e) (ran-skip e (below (skip b m)))
    go below body (some (suc j)) e = rw (run-body boundless n m outs ins c b p e) (after below e (run boundless b (suc j) m) refl (body (suc j)))

-- a boundless run never stops with `full`
ran-never-full : {p : Program} {n s : ℕ} {m : State} {why : Stop} → Ran p n m (stopped why s) → (why ≡ full) → ⊥
ran-never-full (ran-define e w) q = ran-never-full w q
ran-never-full (ran-halt new e) q = new q
ran-never-full (ran-unfit e) q = let z : ◌≡◌ {A = ℕ} 0 1 = cc in omega arith
ran-never-full (ran-skip e w) q = ran-never-full w q
ran-never-full (ran-body e f v w) q = ran-never-full w q
ran-never-full (ran-stuck e f w) q = ran-never-full w q

pub never-full : (p : Program) (n : ℕ) (m : State) {s : ℕ} → run boundless p n m ≡ stopped full s → ⊥
never-full p n m e = ran-never-full (subst (Ran p n m) e (ran p n m)) refl

-- which stores a run passes, by what came of its first part
pub of-done : {n : ℕ} {m : State} {τ : Store} → Passes done n m τ → τ ≡ m.store
of-done starts = refl

pub of-define : {t : Transducer} {p : Program} {n : ℕ} {m m' : State} {τ : Store} → step boundless t n m ≡ went m' → Passes (define t p) n m τ → (τ ≡ m.store) ⊎ Passes p n m' τ
of-define e starts = inl refl
of-define {p = p} {n = n} {m' = m'} {τ = τ} e (defines {m' = m''} f q) =
    let same : m'' ≡ m' = cc in inr (subst (λ k. Passes p n k τ) same q)

pub of-halt : {t : Transducer} {p : Program} {n s : ℕ} {m : State} {why : Stop} {τ : Store} → step boundless t n m ≡ stopped why s → Passes (define t p) n m τ → τ ≡ m.store
of-halt e starts = refl
of-halt e (defines f q) = let z : ◌≡◌ {A = ℕ} 0 1 = cc in absurd (omega arith)

pub of-unfit : {outs ins : List ℕ} {b p : Program} {c n : ℕ} {m : State} {τ : Store} → units_of (m.store ! c) ≡ none → Passes (with_ctrl outs c ins b p) n m τ → τ ≡ m.store
of-unfit e starts = refl
of-unfit e (skips f q) = let z : ◌≡◌ {A = ℕ} 0 1 = cc in absurd (omega arith)
of-unfit e (enters f q) = let z : ◌≡◌ {A = ℕ} 0 1 = cc in absurd (omega arith)
of-unfit e (leaves f g q) = let z : ◌≡◌ {A = ℕ} 0 1 = cc in absurd (omega arith)

pub of-skip : {outs ins : List ℕ} {b p : Program} {c n : ℕ} {m : State} {τ : Store}
    → units_of (m.store ! c) ≡ some zero
    → Passes (with_ctrl outs c ins b p) n m τ
    → (τ ≡ m.store) ⊎ Passes p n (skip b m) τ
of-skip e starts = inl refl
of-skip e (skips f q) = inr q
of-skip e (enters {j = j} f q) = let z : zero ≡ suc j = cc in absurd (omega arith)
of-skip e (leaves {j = j} f g q) = let z : zero ≡ suc j = cc in absurd (omega arith)

pub of-stuck : {outs ins : List ℕ} {b p : Program} {c n : ℕ} {m : State} {τ : Store} {j s : ℕ} {why : Stop}
    → units_of (m.store ! c) ≡ some (suc j)
    → run boundless b (suc j) m ≡ stopped why s
    → Passes (with_ctrl outs c ins b p) n m τ
    → Passes b (suc j) m τ
of-stuck e r starts = starts
of-stuck {j = j} e r (skips f q) = let z : zero ≡ suc j = cc in absurd (omega arith)
of-stuck {b = b} {m = m} {τ = τ} {j = j} e r (enters {j = i} f q) = let same : suc i ≡ suc j = cc in subst (λ k. Passes b k m τ) same q
of-stuck e r (leaves f g q) = let z : ◌≡◌ {A = ℕ} 0 1 = cc in absurd (omega arith)

pub of-body : {outs ins : List ℕ} {b p : Program} {c n : ℕ} {m : State} {τ : Store} {j : ℕ} {m' : State}
    → units_of (m.store ! c) ≡ some (suc j)
    → run boundless b (suc j) m ≡ went m'
    → Passes (with_ctrl outs c ins b p) n m τ
    → Passes b (suc j) m τ ⊎ Passes p n m' τ
of-body e r starts = inl starts
of-body {j = j} e r (skips f q) = let z : zero ≡ suc j = cc in absurd (omega arith)
of-body {b = b} {m = m} {τ = τ} {j = j} e r (enters {j = i} f q) = let same : suc i ≡ suc j = cc in inl (subst (λ k. Passes b k m τ) same q)
of-body {p = p} {n = n} {τ = τ} {m' = m'} e r (leaves {m' = m''} f g q) = let same : m'' ≡ m' = cc in inr (subst (λ k. Passes p n k τ) same q)

-- the store that a run has last: each that it passes is a prefix of it
record Latest (p : Program) (n : ℕ) (m : State) (r : Result) : Type 0 where
  last : Store
  passed : Passes p n m last
  longest : (τ : Store) → Passes p n m τ → Prefix τ last
  ends : (m' : State) → r ≡ went m' → last ≡ m'.store

latest : {p : Program} {n : ℕ} {m : State} {r : Result} → Ran p n m r → Latest p n m r
latest {m = m} ran-done =
    record { last = m.store; passed = starts; longest = λ τ q. prefix-of (of-done q); ends = λ m' e. (cc) }
latest {n = n} {m = m} (ran-define {t = t} {a = a} e w) =
    let l = latest w in
    let go = step-made t n m boundless e in
    record {
      last = l.last;
      passed = defines go l.passed;
      longest =
          λ τ q.
          ⊎_elim (λ same. prefix_trans (prefix-of same) (prefix_trans (prefix-more m.store (a ∷ [])) (l.longest _ starts))) (l.longest τ)
          (of-define go q);
      ends = l.ends;
    }
latest {m = m} (ran-halt new e) =
    record {
      last = m.store;
      passed = starts;
      longest = λ τ q. prefix-of (of-halt (e boundless) q);
      ends = λ m' k. let z : ◌≡◌ {A = ℕ} 0 1 = cc in absurd (omega arith);
    }
latest {m = m} (ran-unfit e) =
    record {
      last = m.store;
      passed = starts;
      longest = λ τ q. prefix-of (of-unfit e q);
      ends = λ m' k. let z : ◌≡◌ {A = ℕ} 0 1 = cc in absurd (omega arith);
    }
latest {m = m} (ran-skip {b = b} e w) =
    let l = latest w in
    record {
      last = l.last;
      passed = skips e l.passed;
      longest =
          λ τ q.
          ⊎_elim (λ same. prefix_trans (prefix-of same) (prefix_trans (prefix-more m.store (skipped m.store b)) (l.longest _ starts))) (l.longest τ)
          (of-skip e q);
      ends = l.ends;
    }
latest {m = m} (ran-body {m' = m'} e f v w) =
    let k = latest v in
    let l = latest w in
    record {
      last = l.last;
      passed = leaves e f l.passed;
      longest =
          λ τ q.
          ⊎_elim (λ j. prefix_trans (k.longest τ j) (prefix_trans (prefix-of (k.ends m' refl)) (l.longest _ starts))) (l.longest τ)
          (of-body e f q);
      ends = l.ends;
    }
latest {m = m} (ran-stuck e f w) =
    let l = latest w in
    record {
      last = l.last;
      passed = enters e l.passed;
      longest = λ τ q. l.longest τ (of-stuck e f q);
      ends = λ m' k. let z : ◌≡◌ {A = ℕ} 0 1 = cc in absurd (omega arith);
    }

-- a run that ends has its last store at its end, and every store that it passes is a prefix of that
pub passes-end : {p : Program} {n : ℕ} {m m' : State} → run boundless p n m ≡ went m' → Passes p n m m'.store
passes-end {p} {n} {m} {m'} e = let l = latest (ran p n m) in subst (Passes p n m) (l.ends m' e) l.passed

pub grows : {p : Program} {n : ℕ} {m m' : State} {τ : Store} → run boundless p n m ≡ went m' → Passes p n m τ → Prefix τ m'.store
grows {p} {n} {m} {m'} {τ} e q = let l = latest (ran p n m) in prefix_trans (l.longest τ q) (prefix-of (l.ends m' e))

-- the store only grows: of two that a run passes, the shorter is a prefix of the longer
pub passed-prefix : {p : Program} {n : ℕ} {m : State} {σ τ : Store} → Passes p n m σ → Passes p n m τ → length σ ≤ length τ → take (length σ) τ ≡ σ
passed-prefix {p} {n} {m} {σ} {τ} i j h =
    let l = latest (ran p n m) in
    ap (take (length σ)) (sym (prefix-take (l.longest τ j)))
    ∙ take-take (length σ) (length τ) l.last h
    ∙ prefix-take (l.longest σ i)

-- each definition, run or skipped, adds one stream: the id that a program's numbering gives a definition is its stream's position
length-skipped : (σ : Store) (p : Program) → length (skipped σ p) ≡ count p
unfolding skipped count
length-skipped σ done = refl
length-skipped σ (define t p) = ap suc (length-skipped (σ ++ empty σ t ∷ []) p)
length-skipped σ (with_ctrl outs c ins b p) =
    let l = skipped σ b in
    omega (arith, length-append l (skipped (σ ++ l) p), length-skipped σ b, length-skipped (σ ++ l) p)

ran-length : {p : Program} {n : ℕ} {m m' : State} → Ran p n m (went m') → length m'.store ≡ length m.store + count p
unfolding count
ran-length ran-done = omega arith
ran-length {m = m} (ran-define {a = a} e w) = let f = length-append m.store (a ∷ []) in let g = ran-length w in omega arith
ran-length {m = m} (ran-skip {b = b} e w) =
    let f = length-append m.store (skipped m.store b) in let g = length-skipped m.store b in let h = ran-length w in omega arith
ran-length (ran-body e f v w) = let g = ran-length v in let h = ran-length w in omega arith

pub went-length : (p : Program) (n : ℕ) (m : State) {m' : State} → run boundless p n m ≡ went m' → length m'.store ≡ length m.store + count p
went-length p n m e = ran-length (subst (Ran p n m) e (ran p n m))
