-- What the rules derive, the run does: for a program with its ids written out, from any list of streams that has what the mapping has.
use Prim.Native.Nat.{ℕ, suc, ◌+◌}
use native.Mathlib.Omega.{arith}
use mathlib.Core.Bool.{Bool, true, false}
use mathlib.Core.List.{List, [], ◌∷◌, ◌++◌, Memᴰ}
use mathlib.Core.Logic.{⊎_elim}
use mathlib.Core.Option.{Option, some, none}
use mathlib.Core.Path.{◌≡◌, refl, sym, ap, ◌∙◌}
use borrow.Author.Tests.{eqb-true, eqb-false}
use lib.Dec.{eqb}
use lib.ListN.{length, length-append}
use Rattle.laws.proofs.Options.{none-some}
use Rattle.laws.proofs.Lists.{get_elem?-append-left}
use Rattle.snesl.specs.declared.code.Kind.{Kind}
use Rattle.snesl.specs.declared.code.Transducer.{Transducer}
use Rattle.snesl.specs.Streams.{Stream, units, bare, Store, ◌!◌}
use Rattle.snesl.specs.Transducers.{made, apply, operands}
use Rattle.snesl.specs.Programs as programs
use Rattle.snesl.specs.Programs.{Program, done, define, count}
use Rattle.snesl.specs.Machine.{State, went, onward, push, skipped, skip, run, boundless}
use Rattle.snesl.specs.Bounded.{starts}
use Rattle.snesl.proofs.Compiled.Members.{known}
use Rattle.snesl.proofs.Correctness.RunParts.{run-made, run-skipped, run-body}
use Rattle.snesl.proofs.Correctness.Grown.{new-stream, old-stream, next-id}
use Rattle.snesl.proofs.Bounded.Runs.{run-done, went-length, grows}
use Rattle.rules.specs.Xducers.{xducer}
use Rattle.rules.specs.Agreement.{Covers, Ran}
use Rattle.rules.specs.Instructions.{Svcode, nop, assign, with_ctrl, seq, kind_in, kinds_in, empty_of, Stores, Runs, p-empty, p-xducer, p-wc-emp, p-wc-nonemp, p-seq, written}
use Rattle.rules.proofs.Xducers.Exactly.{apply-exactly}
use Rattle.rules.proofs.Instructions.Stores.{fetched, skipped-adds, skipped-kind, covers-kinds}

-- after a definition
covers-defined : {σ σ' : Stores} {τ : Store} {s : ℕ} {a : Stream}
    → length τ ≡ s
    → Covers σ τ
    → σ' s ≡ some a
    → ((u : ℕ) → (u ≡ s → ⊥) → σ' u ≡ σ u)
    → Covers σ' (τ ++ a ∷ [])
covers-defined {σ} {σ'} {τ} {s} {a} l c e o = record { covers = λ u b q. go u b q (eqb u s) refl }
  where
    go : (u : ℕ) (b : Stream) → σ' u ≡ some b → (t : Bool) → eqb u s ≡ t → (τ ++ a ∷ []) ! u ≡ some b
    go u b q true t =
        let here = eqb-true u s t in
        let same : some a ≡ some b = sym e ∙ ap σ' (sym here) ∙ q in
        ap (λ i. (τ ++ a ∷ []) ! i) here ∙ new-stream τ a l ∙ same
    go u b q false t = old-stream τ a u (c.covers u b (sym (o u (eqb-false u s t)) ∙ q))

-- after a WithCtrl: what it puts out, and what was there
covers-both : {σ σ' : Stores} {τ τ' : Store} (outs : List ℕ)
    → Covers σ τ
    → ((u : ℕ) (a : Stream) → τ ! u ≡ some a → τ' ! u ≡ some a)
    → ((u : ℕ) (a : Stream) → Memᴰ u outs → σ' u ≡ some a → τ' ! u ≡ some a)
    → ((u : ℕ) → (Memᴰ u outs → ⊥) → σ' u ≡ σ u)
    → Covers σ' τ'
covers-both outs c grown new old =
    record { covers = λ u a q. ⊎_elim (λ h. new u a h q) (λ h. grown u a (c.covers u a (sym (old u h) ∙ q))) (known u outs) }

of-empty : (o : Option Kind) {a : Stream} → empty_of o ≡ some a → (k : Kind) × (o ≡ some k) × (bare k ≡ a)
of-empty none q = none-some q
of-empty (some k) q = (k, refl, cc)

pub of-nop : {σ σ' : Stores} {c : ℕ} → Runs nop σ c σ' → (u : ℕ) → σ' u ≡ σ u
of-nop (p-empty h) = h

pub of-seq : {p q : Svcode} {σ σ' : Stores} {c : ℕ} → Runs (seq p q) σ c σ' → (σ'' : Stores) × Runs p σ c σ'' × Runs q σ'' c σ'
of-seq (p-seq {σ'' = σ''} h k) = (σ'', h, k)

-- one definition
module _ (t : Transducer) (s n : ℕ) (m : State) {σ σ' : Stores} where
  define-step : length m.store ≡ s
      → Covers σ m.store
      → Runs (assign s (xducer t) (operands t)) σ n σ'
      → (a : Stream) × (apply t n m.store ≡ made a) × Covers σ' (m.store ++ a ∷ [])
  define-step l c (p-xducer {a = a} f b e o) = (a, (apply-exactly t n m.store a (fetched c f)).1 b, covers-defined l c e o)

-- what a run starts from stays
pub grown-run : (p : Program) (n : ℕ) (m : State) {m' : State} → run boundless p n m ≡ went m' → (u : ℕ) {a : Stream} → m.store ! u ≡ some a → m'.store ! u ≡ some a
grown-run p n m e u q =
    let w = grows {p = p} {n = n} {m = m} e starts in
    ap (λ σ. σ ! u) w.split ∙ get_elem?-append-left m.store w.rest u q

-- one WithCtrl, whose body's rules its run follows
record Stepped (outs ins : List ℕ) (i : ℕ) (b : Program) (s n : ℕ) (m : State) (σ' : Stores) : Type 0 where
  next : State
  steps_on : (p : Program) → run boundless (programs.with_ctrl outs i ins b p) n m ≡ run boundless p n next
  covers : Covers σ' next.store
  start : length next.store ≡ s + count b

module _ (outs ins : List ℕ) (i : ℕ) (b : Program) (s n : ℕ) (m : State) {σ σ' : Stores} (l : length m.store ≡ s) (c : Covers σ m.store) where
  with_ctrl-step : ((j : ℕ) (σ'' : Stores) → Runs (written s b) σ j σ'' → Ran b j m σ'')
      → Runs (with_ctrl outs i ins (written s b)) σ n σ'
      → Stepped outs ins i b s n m σ'
  with_ctrl-step body (p-wc-emp e inside new old) =
      record {
        next = skip b m;
        steps_on = λ p. run-skipped boundless outs ins i b p n m control;
        covers =
            covers-both outs c (λ u a q. get_elem?-append-left m.store (skipped m.store b) u q)
            (λ u a h q. let (k, kind, same) = of-empty (kind_in (kinds_in σ) (written s b) u) (sym (new u h) ∙ q) in skipped-kind b (kinds_in σ) m.store s u k (covers-kinds c) l kind ∙ ap some same)
            old;
        start = omega (arith, length-append m.store (skipped m.store b), skipped-adds m.store b, l);
      }
    where
      control : m.store ! i ≡ some (units 0)
      control = c.covers i (units 0) e
  with_ctrl-step body (p-wc-nonemp {n = j} {σ'' = σ''} e h new old) =
      let r = body (suc j) σ'' h in
      record {
        next = r.after;
        steps_on = λ p. run-body boundless outs ins i b p n m (c.covers i (units (suc j)) e) ∙ ap (λ r. onward r (run boundless p n)) r.ran;
        covers =
            covers-both outs c (λ u a q. grown-run b (suc j) m r.ran u q)
            (λ u a h q. r.covers.covers u a (sym (new u h) ∙ q))
            old;
        start = went-length b (suc j) m r.ran ∙ ap (λ k. k + count b) l;
      }

-- a run that goes on as another does
on-from : {p q : Program} {n : ℕ} {m m₁ : State} {σ' : Stores} → run boundless p n m ≡ run boundless q n m₁ → Ran q n m₁ σ' → Ran p n m σ'
on-from e r = record { after = r.after; ran = e ∙ r.ran; covers = r.covers }

pub running : (p : Program) (s n : ℕ) (m : State) (σ σ' : Stores) → length m.store ≡ s → Covers σ m.store → Runs (written s p) σ n σ' → Ran p n m σ'
unfolding written
running done s n m σ σ' l c h = record { after = m; ran = run-done boundless n m; covers = record { covers = λ u a q. c.covers u a (sym (of-nop h u) ∙ q) } }
running (define t p) s n m σ σ' l c h =
    let (σ₁, h₁, h₂) = of-seq h in
    let (a, e, c₁) = define-step t s n m l c h₁ in
    let next : length (m.store ++ a ∷ []) ≡ suc s = omega (arith, next-id m.store a l) in
    let r = running p (suc s) n (push t n a m) σ₁ σ' next c₁ h₂ in
    on-from (run-made t p n m e) r
running (programs.with_ctrl outs i ins b p) s n m σ σ' l c h =
    let (σ₁, h₁, h₂) = of-seq h in
    let w = with_ctrl-step outs ins i b s n m l c (λ j σ'' k. running b s j m σ σ'' l c k) h₁ in
    let r = running p (s + count b) n w.next σ₁ σ' w.start w.covers h₂ in
    on-from (w.steps_on p) r
