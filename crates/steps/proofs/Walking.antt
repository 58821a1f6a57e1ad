-- The laws of `walked`: it goes through a program instruction by instruction, whatever the control; what it defines is only added to the store.
use Prim.Native.Nat.{ℕ, zero, suc, ◌+◌}
use mathlib.Core.Bool.{Bool, true, false}
use mathlib.Core.List.{List, [], ◌∷◌, ◌++◌, append_assoc, append-nil}
use mathlib.Core.Option.{Option, some, none}
use mathlib.Core.Path.{◌≡◌, refl, sym, ◌∙◌, ap}
use native.Mathlib.Omega.{arith}
use lib.ListN.{length, length-append}
use Rattle.laws.proofs.Never.{never}
use Rattle.snesl.specs.declared.code.Transducer.{Transducer}
use Rattle.snesl.specs.Streams.{Stream, units, Store, ◌!◌, room}
use Rattle.snesl.specs.Transducers.{Answer, made, unfit, negative, outside, apply, empty}
use Rattle.snesl.specs.Programs.{Program, done, define, with_ctrl, ◌⨾◌, count}
use Rattle.snesl.specs.Machine.{State, full, unfitting, below_zero, out_of_range, Result, went, stopped, onward, push, step, skipped, skip, units_of, run, holding}
use Rattle.steps.specs.Walking.{stepped, walked}

abbrev spent : Store → State → State
spent σ m = record { store = σ; work = m.work; steps = m.steps }

pub onward-onward : (r : Result) (f g : State → Result) → onward (onward r f) g ≡ onward r (λ m. onward (f m) g)
onward-onward (went m) f g = refl
onward-onward (stopped why s) f g = refl

-- what is skipped depends on the store before it by the kinds of its streams alone; here, on the whole of it
skipped-seq : (σ : Store) (p q : Program) → skipped σ (p ⨾ q) ≡ skipped σ p ++ skipped (σ ++ skipped σ p) q
unfolding skipped ◌⨾◌
skipped-seq σ done q = ap (λ τ. skipped τ q) (sym (append-nil σ))
skipped-seq σ (define t p) q =
    let σ' : Store = σ ++ empty σ t ∷ [] in
    ap (λ l. empty σ t ∷ l)
    (skipped-seq σ' p q ∙ ap (λ τ. skipped σ' p ++ skipped τ q) (append_assoc σ (empty σ t ∷ []) (skipped σ' p)))
skipped-seq σ (with_ctrl outs c ins b p) q =
    let σ' : Store = σ ++ skipped σ b in
    ap (λ l. skipped σ b ++ l)
    (skipped-seq σ' p q ∙ ap (λ τ. skipped σ' p ++ skipped τ q) (append_assoc σ (skipped σ b) (skipped σ' p)))
    ∙ sym (append_assoc (skipped σ b) (skipped σ' p) (skipped (σ ++ (skipped σ b ++ skipped σ' p)) q))

skip-more : (σ₁ σ₂ : List Stream) (m : State) → spent (m.store ++ (σ₁ ++ σ₂)) m ≡ spent ((m.store ++ σ₁) ++ σ₂) m
skip-more σ₁ σ₂ m = ap (λ σ. spent σ m) (sym (append_assoc m.store σ₁ σ₂))

onward-split : (r : Result) (f g h : State → Result) → ((m : State) → f m ≡ onward (g m) h) → onward r f ≡ onward (onward r g) h
onward-split (went m) f g h e = e m
onward-split (stopped why s) f g h e = refl

run-seq : (fits : ℕ → Bool) (p q : Program) (n : ℕ) (m : State) → run fits (p ⨾ q) n m ≡ onward (run fits p n m) (run fits q n)
unfolding run ◌⨾◌
run-seq fits done q n m = refl
run-seq fits (define t p) q n m = onward-split (step fits t n m) (run fits (p ⨾ q) n) (run fits p n) (run fits q n) (λ m₁. run-seq fits p q n m₁)
run-seq fits (with_ctrl outs c ins b p) q n m =
    onward-split
    (elim (units_of (m.store ! c)) [
      | none ↦ stopped (unfitting 0) (length m.store)
      | some k ↦ elim k [ zero ↦ went (skip b m) | suc j ↦ run fits b (suc j) m ]
    ])
    (run fits (p ⨾ q) n) (run fits p n) (run fits q n) (λ m₁. run-seq fits p q n m₁)

module _ (cap : ℕ) where
  pub walked-done : (n : ℕ) (m : State) → walked cap n done m ≡ went m
  unfolding walked skipped run
  walked-done zero m = ap (λ σ. went (spent σ m)) (append-nil m.store)
  walked-done (suc n) m = refl

  pub walked-define : (n : ℕ) (t : Transducer) (p : Program) (m : State) → walked cap n (define t p) m ≡ onward (stepped cap n t m) (walked cap n p)
  unfolding walked stepped skipped run
  walked-define zero t p m = ap went (skip-more (empty m.store t ∷ []) (skipped (m.store ++ empty m.store t ∷ []) p) m)
  walked-define (suc n) t p m = refl

  pub walked_seq : (n : ℕ) (p q : Program) (m : State) → walked cap n (p ⨾ q) m ≡ onward (walked cap n p m) (walked cap n q)
  unfolding walked
  walked_seq zero p q m =
      ap (λ l. went (spent (m.store ++ l) m)) (skipped-seq m.store p q)
      ∙ ap went (skip-more (skipped m.store p) (skipped (m.store ++ skipped m.store p) q) m)
  walked_seq (suc n) p q m = run-seq (holding cap) p q (suc n) m

  -- a body under its control, which is empty wherever the control round it is
  pub walked-with : (n k : ℕ) (outs : List ℕ) (c : ℕ) (ins : List ℕ) (b p : Program) (m : State) → m.store ! c ≡ some (units k) → (n ≡ 0 → k ≡ 0)
      → walked cap n (with_ctrl outs c ins b p) m ≡ onward (walked cap k b m) (walked cap n p)
  unfolding walked skipped run
  walked-with zero zero outs c ins b p m e f = ap went (skip-more (skipped m.store b) (skipped (m.store ++ skipped m.store b) p) m)
  walked-with zero (suc k) outs c ins b p m e f = let z : suc k ≡ 0 = f refl in absurd (omega arith)
  walked-with (suc n) zero outs c ins b p m e f = rw e
  walked-with (suc n) (suc k) outs c ins b p m e f = rw e

-- ---- growth

pub record Grown (m : State) (p : Program) (m' : State) : Type 0 where
  pub streams : List Stream
  pub store : m'.store ≡ m.store ++ streams
  pub number : length streams ≡ count p

onward-went : (r : Result) (f : State → Result) (m' : State) → onward r f ≡ went m' → (m : State) × (r ≡ went m) × (f m ≡ went m')
onward-went (went m) f m' e = (m, refl, e)
onward-went (stopped why s) f m' e = never (cc)

grown-then : (m m₁ m' : State) (p q r : Program) → Grown m p m₁ → Grown m₁ q m' → count r ≡ count p + count q → Grown m r m'
grown-then m m₁ m' p q r g h e =
    record {
      streams = g.streams ++ h.streams;
      store =
          h.store ∙ (ap (λ σ. σ ++ h.streams) g.store ∙ append_assoc m.store g.streams h.streams);
      number = length-append g.streams h.streams ∙ omega (arith, g.number, h.number, e);
    }

length-skipped : (σ : Store) (p : Program) → length (skipped σ p) ≡ count p
unfolding skipped count
length-skipped σ done = refl
length-skipped σ (define t p) = ap suc (length-skipped (σ ++ empty σ t ∷ []) p)
length-skipped σ (with_ctrl outs c ins b p) =
    length-append (skipped σ b) (skipped (σ ++ skipped σ b) p) ∙ omega (arith, length-skipped σ b, length-skipped (σ ++ skipped σ b) p)

went_store : (m m' : State) → went m ≡ went m' → m'.store ≡ m.store
went_store m m' e = let q : m' ≡ m = cc in ap (λ s. s.store) q

skip-grown : (p : Program) (m m' : State) → went (skip p m) ≡ went m' → Grown m p m'
skip-grown p m m' e = record { streams = skipped m.store p; store = went_store (skip p m) m' e; number = length-skipped m.store p }

step-grown : (fits : ℕ → Bool) (t : Transducer) (n : ℕ) (m m' : State) → step fits t n m ≡ went m' → Grown m (define t done) m'
unfolding step count
step-grown fits t n m m' e = go (apply t n m.store) e
  where
    room-or : (a : Stream) (b : Bool) → elim b [ true ↦ went (push t n a m) | false ↦ stopped full (length m.store) ] ≡ went m'
        → Grown m (define t done) m'
    room-or a true q = record { streams = a ∷ []; store = went_store (push t n a m) m' q; number = refl }
    room-or a false q = never (cc)

    go : (x : Answer)
        → elim x [
          | made a ↦
              elim (fits (room (m.store ++ a ∷ []))) [ true ↦ went (push t n a m) | false ↦ stopped full (length m.store) ]
          | unfit k ↦ stopped (unfitting k) (length m.store)
          | negative k ↦ stopped (below_zero k) (length m.store)
          | outside k ↦ stopped (out_of_range k) (length m.store)
        ] ≡ went m'
        → Grown m (define t done) m'
    go (made a) q = room-or a (fits (room (m.store ++ a ∷ []))) q
    go (unfit k) q = never (cc)
    go (negative k) q = never (cc)
    go (outside k) q = never (cc)

body-grown : (fits : ℕ → Bool) (b : Program) (m m' : State) (o : Option ℕ)
    → ((j : ℕ) → run fits b (suc j) m ≡ went m' → Grown m b m')
    → elim o [ none ↦ stopped (unfitting 0) (length m.store) | some k ↦ elim k [ zero ↦ went (skip b m) | suc j ↦ run fits b (suc j) m ] ] ≡ went m'
    → Grown m b m'
body-grown fits b m m' none f e = never (cc)
body-grown fits b m m' (some zero) f e = skip-grown b m m' e
body-grown fits b m m' (some (suc j)) f e = f j e

run-grown : (fits : ℕ → Bool) (p : Program) (n : ℕ) (m m' : State) → run fits p n m ≡ went m' → Grown m p m'
unfolding run count
run-grown fits done n m m' e = record { streams = []; store = went_store m m' e ∙ sym (append-nil m.store); number = refl }
run-grown fits (define t p) n m m' e =
    let f = onward-went (step fits t n m) (run fits p n) m' e in
    grown-then m f.0 m' (define t done) p (define t p) (step-grown fits t n m f.0 f.1) (run-grown fits p n f.0 m' f.2) (omega arith)
run-grown fits (with_ctrl outs c ins b p) n m m' e =
    let f = onward-went _ (run fits p n) m' e in
    grown-then m f.0 m' b p (with_ctrl outs c ins b p)
    (body-grown fits b m f.0 (units_of (m.store ! c)) (λ j. run-grown fits b (suc j) m f.0) f.1)
    (run-grown fits p n f.0 m' f.2) refl

pub walked-grown : (cap n : ℕ) (p : Program) (m m' : State) → walked cap n p m ≡ went m' → Grown m p m'
unfolding walked
walked-grown cap zero p m m' e = skip-grown p m m' e
walked-grown cap (suc n) p m m' e = run-grown (holding cap) p (suc n) m m' e

-- one instruction by itself
pub walked_one : (cap n : ℕ) (t : Transducer) (m : State) → walked cap n (define t done) m ≡ stepped cap n t m
walked_one cap n t m = walked-define cap n t done m ∙ go (stepped cap n t m)
  where
    go : (r : Result) → onward r (walked cap n done) ≡ r
    go (went m₁) = walked-done cap n m₁
    go (stopped why s) = refl
