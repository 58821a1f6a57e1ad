-- The bounded run: it does what the boundless run does until that passes a store whose room is above the buffer's, and there stops with `full`, at the id
-- whose stream was too much. So every answer of a bounded run, refusals too, is one fact about the boundless run.
use Prim.Native.Nat.{ℕ, zero, suc, ◌+◌, ◌<◌, ◌≤◌}
use native.Mathlib.Omega.{arith}
use mathlib.Core.Bool.{Bool, true, false}
use mathlib.Core.List.{List, [], ◌∷◌, ◌++◌, append_assoc}
use mathlib.Core.Logic.{◌↔◌, ⊎_elim}
use mathlib.Core.Option.{some}
use mathlib.Core.Path.{◌≡◌, refl, sym, ◌∙◌, ap, subst}
use borrow.Author.Tests.{leb-true, leb-false}
use lib.Dec.{leb}
use lib.ListN.{length, take, drop, length-append, take-append-drop}
use lib.Seq.{take-append_seam, take-take}
use Rattle.snesl.specs.declared.code.Kind.{Kind}
use Rattle.snesl.specs.declared.code.Kind.TheVariants.{Ints, Bools, Flags, Units}
use Rattle.snesl.specs.declared.code.Transducer.{Transducer}
use Rattle.snesl.specs.Streams.{Stream, Store, bare, elements, contents, room, ◌!◌}
use Rattle.snesl.specs.Transducers.{made, apply, signature, carried, empty}
use Rattle.snesl.specs.Programs.{Program, done, define, with_ctrl}
use Rattle.snesl.specs.Machine.{State, Stop, full, Result, went, stopped, onward, push, step, skipped, skip, units_of, run, boundless, holding}
use Rattle.snesl.specs.Bounded.{Passes, starts, defines, skips, enters, leaves}
use Rattle.snesl.proofs.Bounded.Runs.{Prefix, step-made, run-done, run-define, run-unfit, run-skip, run-body, Ran, ran-done, ran-define, ran-halt, ran-unfit, ran-skip, ran-body, ran-stuck, ran, never-full, of-done, of-define, of-halt, of-unfit, of-skip, of-stuck, of-body, passes-end, grows, passed-prefix}

-- room adds up, and a skipped body takes none
contents-append : (σ τ : Store) → contents (σ ++ τ) ≡ contents σ ++ contents τ
unfolding contents
contents-append [] τ = refl
contents-append (a ∷ σ) τ = ap (λ l. elements a ++ l) (contents-append σ τ) ∙ sym (append_assoc (elements a) _ _)

pub room-append : (σ τ : Store) → room (σ ++ τ) ≡ room σ + room τ
room-append σ τ = ap length (contents-append σ τ) ∙ length-append (contents σ) (contents τ)

elements-bare : (k : Kind) → elements (bare k) ≡ []
elements-bare Ints = refl
elements-bare Bools = refl
elements-bare Flags = refl
elements-bare Units = refl

elements-empty : (σ : Store) (t : Transducer) → elements (empty σ t) ≡ []
elements-empty σ t = elements-bare (signature (carried σ t) t).output

pub room-skipped : (σ : Store) (p : Program) → room (skipped σ p) ≡ 0
unfolding skipped contents
room-skipped σ done = refl
room-skipped σ (define t p) = rw (elements-empty σ t) (room-skipped (σ ++ empty σ t ∷ []) p)
room-skipped σ (with_ctrl outs c ins b p) =
    let l = skipped σ b in
    let r = skipped (σ ++ l) p in
    omega (arith, room-append l r, room-skipped σ b, room-skipped (σ ++ l) p)

pub room-skip : (p : Program) (m : State) → room (skip p m).store ≡ room m.store
room-skip p m = omega (arith, room-append m.store (skipped m.store p), room-skipped m.store p)

prefix-room : {σ τ : Store} → Prefix σ τ → room σ ≤ room τ
prefix-room {σ} p = let e = ap room p.split in let f = room-append σ p.rest in omega arith

-- What a buffer of `cap` elements makes of a run: it holds every store that the run passes and nothing changes; or it is full at the first definition
-- that brings the room above it.
data Outcome (cap : ℕ) (p : Program) (n : ℕ) (m : State) : Type 0 where
  holds : run (holding cap) p n m ≡ run boundless p n m → ((τ : Store) → Passes p n m τ → room τ ≤ cap) → Outcome cap p n m
  fills : (s : ℕ) (τ : Store)
      → run (holding cap) p n m ≡ stopped full s
      → Passes p n m τ
      → length τ ≡ s + 1
      → cap < room τ
      → room (take s τ) ≤ cap
      → Outcome cap p n m

held : {cap : ℕ} {σ τ : Store} → room σ ≤ cap → τ ≡ σ → room τ ≤ cap
held h e = rw e h

module _ (cap : ℕ) where
  after-define : {t : Transducer} {p : Program} {n : ℕ} {m : State} {a : Stream} → room m.store ≤ cap → apply t n m.store ≡ made a
      → (b : Bool) → leb (room (m.store ++ a ∷ [])) cap ≡ b
      → (room (m.store ++ a ∷ []) ≤ cap → Outcome cap p n (push t n a m))
      → Outcome cap (define t p) n m
  after-define {t} {p} {n} {m} {a} h e true fit below = go (below (leb-true _ cap fit))
    where
      free : step boundless t n m ≡ went (push t n a m)
      free = step-made t n m boundless e

      bound : step (holding cap) t n m ≡ went (push t n a m)
      bound = step-made t n m (holding cap) e ∙ rw fit

      go : Outcome cap p n (push t n a m) → Outcome cap (define t p) n m
      go (holds same all) =
          holds (run-define (holding cap) n m t p bound ∙ same ∙ sym (run-define boundless n m t p free))
          (λ τ q. ⊎_elim (held h) (all τ) (of-define free q))
      go (fills s τ stop q long over under) = fills s τ (run-define (holding cap) n m t p bound ∙ stop) (defines free q) long over under
  after-define {t} {p} {n} {m} {a} h e false fit below =
      fills (length m.store) (m.store ++ a ∷ []) (run-define (holding cap) n m t p bound) (defines (step-made t n m boundless e) starts)
      (length-append m.store (a ∷ []))
      (leb-false _ cap fit)
      (rw take-append_seam h)
    where
      bound : step (holding cap) t n m ≡ stopped full (length m.store)
      bound = step-made t n m (holding cap) e ∙ rw fit

  module _ {outs ins : List ℕ} {b p : Program} {c n : ℕ} {m : State} (h : room m.store ≤ cap) where
    after-skip : units_of (m.store ! c) ≡ some zero → Outcome cap p n (skip b m) → Outcome cap (with_ctrl outs c ins b p) n m
    after-skip e (holds same all) =
        holds (run-skip (holding cap) n m outs ins c b p e ∙ same ∙ sym (run-skip boundless n m outs ins c b p e))
        (λ τ q. ⊎_elim (held h) (all τ) (of-skip e q))
    after-skip e (fills s τ stop q long over under) =
        fills s τ (run-skip (holding cap) n m outs ins c b p e ∙ stop) (skips e q) long over under

    -- a body that fills the buffer, one that stops in it, and one that ends in it
    in_body : {j s : ℕ} → units_of (m.store ! c) ≡ some (suc j) → (τ : Store)
        → run (holding cap) b (suc j) m ≡ stopped full s
        → Passes b (suc j) m τ
        → length τ ≡ s + 1
        → cap < room τ
        → room (take s τ) ≤ cap
        → Outcome cap (with_ctrl outs c ins b p) n m
    in_body {s = s} e τ stop q long over under =
        fills s τ (run-body (holding cap) n m outs ins c b p e ∙ ap (λ r. onward r (run (holding cap) p n)) stop) (enters e q) long over under

    body-stuck : {j s : ℕ} {why : Stop} → units_of (m.store ! c) ≡ some (suc j) → run boundless b (suc j) m ≡ stopped why s
        → Outcome cap b (suc j) m
        → Outcome cap (with_ctrl outs c ins b p) n m
    body-stuck e f (holds same all) =
        holds
        (run-body (holding cap) n m outs ins c b p e
        ∙ ap (λ r. onward r (run (holding cap) p n)) (same ∙ f)
        ∙ sym (run-body boundless n m outs ins c b p e ∙ ap (λ r. onward r (run boundless p n)) f))
        (λ τ q. all τ (of-stuck e f q))
    body-stuck e f (fills s τ stop q long over under) = in_body e τ stop q long over under

    past-body : {j : ℕ} {m' : State} → units_of (m.store ! c) ≡ some (suc j) → run boundless b (suc j) m ≡ went m'
        → run (holding cap) b (suc j) m ≡ went m'
        → ((τ : Store) → Passes b (suc j) m τ → room τ ≤ cap)
        → Outcome cap p n m'
        → Outcome cap (with_ctrl outs c ins b p) n m
    past-body e f g fits (holds same all) =
        holds
        (run-body (holding cap) n m outs ins c b p e
        ∙ ap (λ r. onward r (run (holding cap) p n)) g
        ∙ same
        ∙ sym (run-body boundless n m outs ins c b p e ∙ ap (λ r. onward r (run boundless p n)) f))
        (λ τ q. ⊎_elim (fits τ) (all τ) (of-body e f q))
    past-body e f g fits (fills s τ stop q long over under) =
        fills s τ (run-body (holding cap) n m outs ins c b p e ∙ ap (λ r. onward r (run (holding cap) p n)) g ∙ stop) (leaves e f q) long over under

    after-body : {j : ℕ} {m' : State} → units_of (m.store ! c) ≡ some (suc j) → run boundless b (suc j) m ≡ went m'
        → Outcome cap b (suc j) m
        → (room m'.store ≤ cap → Outcome cap p n m')
        → Outcome cap (with_ctrl outs c ins b p) n m
    after-body e f (holds same all) below = past-body e f (same ∙ f) all (below (all _ (passes-end f)))
    after-body e f (fills s τ stop q long over under) below = in_body e τ stop q long over under

  outcome : {p : Program} {n : ℕ} {m : State} {r : Result} → Ran p n m r → room m.store ≤ cap → Outcome cap p n m
  outcome {n = n} {m = m} ran-done h = holds (run-done (holding cap) n m ∙ sym (run-done boundless n m)) (λ τ q. held h (of-done q))
  outcome {m = m} (ran-define {a = a} e w) h = after-define h e (leb (room (m.store ++ a ∷ [])) cap) refl (λ k. outcome w k)
  outcome {n = n} {m = m} (ran-halt {t = t} {p = p} new e) h =
      holds (run-define (holding cap) n m t p (e (holding cap)) ∙ sym (run-define boundless n m t p (e boundless)))
      (λ τ q. held h (of-halt (e boundless) q))
  outcome {n = n} {m = m} (ran-unfit {outs} {ins} {b} {p} {c} e) h =
      holds (run-unfit (holding cap) n m outs ins c b p e ∙ sym (run-unfit boundless n m outs ins c b p e)) (λ τ q. held h (of-unfit e q))
  outcome {m = m} (ran-skip {b = b} e w) h = after-skip h e (outcome w (let k = room-skip b m in omega arith))
  outcome (ran-body e f v w) h = after-body h e f (outcome v h) (λ k. outcome w k)
  outcome (ran-stuck e f w) h = body-stuck h e f (outcome w h)

-- part of a store takes at most the room of the whole
room_take : (k : ℕ) (σ : Store) → room (take k σ) ≤ room σ
room_take k σ = prefix-room (record { rest = drop k σ; split = sym (take-append-drop k σ) })

room-before : {p : Program} {n : ℕ} {m : State} {σ τ : Store} (s : ℕ) → Passes p n m σ → Passes p n m τ → length σ ≡ s + 1 → length τ ≤ s → room τ ≤ room (take s σ)
room-before {σ = σ} {τ = τ} s i j long h =
    let e : take (length τ) (take s σ) ≡ τ = take-take (length τ) s σ h ∙ passed-prefix j i (omega arith) in
    let k = room_take (length τ) (take s σ) in
    omega (arith, ap room e)

-- what the bounded run of p under n units from m answers, where m fits the buffer
module _ (cap : ℕ) (p : Program) (n : ℕ) (m : State) (fits : room m.store ≤ cap) where
  comes : Outcome cap p n m
  comes = outcome cap (ran p n m) fits

  -- it ends in m' exactly if the boundless run does and the last room fits
  pub went-iff : (m' : State) → (run (holding cap) p n m ≡ went m') ↔ ((run boundless p n m ≡ went m') × (room m'.store ≤ cap))
  went-iff m' = (λ e. there e comes, λ h. back h.0 h.1 comes)
    where
      there : run (holding cap) p n m ≡ went m' → Outcome cap p n m → (run boundless p n m ≡ went m') × (room m'.store ≤ cap)
      there e (holds same all) = let f = sym same ∙ e in (f, all m'.store (passes-end f))
      there e (fills s τ stop q long over under) = let z : ◌≡◌ {A = ℕ} 0 1 = cc in absurd (omega arith)

      back : run boundless p n m ≡ went m' → room m'.store ≤ cap → Outcome cap p n m → run (holding cap) p n m ≡ went m'
      back e h (holds same all) = same ∙ e
      back e h (fills s τ stop q long over under) = let k = prefix-room (grows e q) in absurd (omega arith)

  -- where it is full at s, the boundless run passes a store whose last stream is s and whose room is above the buffer's, with the room before within it
  pub full_at : {s : ℕ} → run (holding cap) p n m ≡ stopped full s
      → (τ : Store) × Passes p n m τ × (length τ ≡ s + 1) × (cap < room τ) × (room (take s τ) ≤ cap)
  full_at {s} e = go comes
    where
      go : Outcome cap p n m → (τ : Store) × Passes p n m τ × (length τ ≡ s + 1) × (cap < room τ) × (room (take s τ) ≤ cap)
      go (holds same all) = absurd (never-full p n m (sym same ∙ e))
      go (fills k τ stop q long over under) =
          let same : k ≡ s = cc in (τ, q, omega arith, over, subst (λ i. room (take i τ) ≤ cap) same under)

  -- and at no later id than that of any store above the buffer's room
  pub full-if : {τ : Store} → Passes p n m τ → cap < room τ → (s : ℕ) × (run (holding cap) p n m ≡ stopped full s) × (s < length τ)
  full-if {τ} i high = go comes
    where
      go : Outcome cap p n m → (s : ℕ) × (run (holding cap) p n m ≡ stopped full s) × (s < length τ)
      go (holds same all) = let k = all τ i in absurd (omega arith)
      go (fills s σ stop q long over under) =
          let early : length τ ≤ s → ⊥ = (λ h. let k = room-before s q i long h in omega arith) in (s, stop, omega (arith, early))

  -- so it is full at s exactly there
  pub full-iff : (s : ℕ)
      → (run (holding cap) p n m ≡ stopped full s) ↔ ((τ : Store) × Passes p n m τ × (length τ ≡ s + 1) × (cap < room τ) × (room (take s τ) ≤ cap))
  full-iff s = (full_at, λ h. back h (full-if h.1 h.3))
    where
      back : (h : (τ : Store) × Passes p n m τ × (length τ ≡ s + 1) × (cap < room τ) × (room (take s τ) ≤ cap))
          → (k : ℕ) × (run (holding cap) p n m ≡ stopped full k) × (k < length h.0)
          → run (holding cap) p n m ≡ stopped full s
      back h g =
          let f = full_at g.1 in
          let early : g.0 < s → ⊥ = (λ l. let k = room-before s h.1 f.1 h.2 (omega (arith, f.2)) in omega arith) in
          let same : g.0 ≡ s = omega (arith, early) in
          g.1 ∙ ap (stopped full) same

  -- it stops for another reason exactly if the boundless run stops so and no store that this passes is above the buffer's room
  pub stopped-iff : {why : Stop} (s : ℕ) → ((why ≡ full) → ⊥)
      → (run (holding cap) p n m ≡ stopped why s) ↔ ((run boundless p n m ≡ stopped why s) × ((τ : Store) → Passes p n m τ → room τ ≤ cap))
  stopped-iff {why} s other = (λ e. there e comes, λ h. back h.0 h.1 comes)
    where
      there : run (holding cap) p n m ≡ stopped why s → Outcome cap p n m → (run boundless p n m ≡ stopped why s) × ((τ : Store) → Passes p n m τ → room τ ≤ cap)
      there e (holds same all) = (sym same ∙ e, all)
      there e (fills k τ stop q long over under) = let z : why ≡ full = cc in absurd (other z)

      back : run boundless p n m ≡ stopped why s → ((τ : Store) → Passes p n m τ → room τ ≤ cap) → Outcome cap p n m → run (holding cap) p n m ≡ stopped why s
      back e all (holds same _) = same ∙ e
      back e all (fills k τ stop q long over under) = let h = all τ q in absurd (omega arith)
