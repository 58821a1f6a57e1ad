-- Why "what the run does, the rules derive" asks for more than well-formed code: two small programs that are well-formed and run, and have no derivation.
use Prim.Native.Nat.{ℕ, zero, suc}
use native.Mathlib.Omega.{arith}
use mathlib.Core.List.Memᴰ
use mathlib.Core.List.{List, [], ◌∷◌}
use mathlib.Core.Option.{some, none}
use mathlib.Core.Path.{◌≡◌, refl, sym, ap, ◌∙◌}
use lib.IntN.{pos}
use Rattle.laws.proofs.Never.{never}
use Rattle.snesl.specs.declared.code.Transducer.TheVariants.{Const, ToFlags}
use Rattle.snesl.specs.Streams.{Stream, ints, units, len, ◌!◌}
use Rattle.snesl.specs.Translation.{id}
use Rattle.snesl.specs.Programs as programs
use Rattle.snesl.specs.Programs.{Program, done, define, Apart, WellFormed, well-done, well-define, well-with_ctrl}
use Rattle.snesl.specs.Machine.{State, went, run, boundless, step}
use Rattle.snesl.specs.Transducers.{apply, first_negative}
use Rattle.rules.specs.Xducers.{to_flags, fetches-more}
use Rattle.rules.specs.Instructions.{Svcode, with_ctrl, assign, Stores, IsEmpty, Runs, p-xducer, p-wc-emp, p-wc-nonemp, written}
use Rattle.rules.proofs.Instructions.Running.{of-seq}

-- a store as a mapping
abbrev pub mapping : State → Stores
mapping m u = m.store ! u

-- code that uses a stream of a body which its WithCtrl does not put out: it is not scoped
abbrev pub hidden : Program
hidden = programs.with_ctrl [] 0 [] (define (Const (pos 1)) done) (define (ToFlags (id 1)) done)

abbrev pub one_unit : State
one_unit = record { store = units 1 ∷ []; work = 0; steps = 0 }

apart : (s t : ℕ) → (s ≡ t → ⊥) → Apart (s ∷ []) (t ∷ [])
apart s t n u h k = n (sym (Memᴰ.eq_of_singleton h) ∙ Memᴰ.eq_of_singleton k)

pub hidden-is-well-formed : WellFormed 1 hidden
unfolding programs.dv programs.fv programs.without programs.count
hidden-is-well-formed =
    well-with_ctrl {c = 0}
    (well-define {t = Const (pos 1)} (λ u h k. Memᴰ.not-nil k) well-done (λ u h k. Memᴰ.not-nil k))
    (λ u h. h)
    (λ u h. absurd (Memᴰ.not-nil h))
    (apart 0 1 (λ e. omega arith))
    (well-define {t = ToFlags (id 1)} (apart 2 1 (λ e. omega arith)) well-done (λ u h k. Memᴰ.not-nil k))
    (apart 0 2 (λ e. omega arith))

pub hidden-runs : (m' : State) × (run boundless hidden 1 one_unit ≡ went m')
unfolding run step apply first_negative
hidden-runs = (_, refl)

-- the body's stream is in the list, and not in the mapping
no_operand : {σ : Stores} {s n : ℕ} {σ' : Stores} → σ s ≡ none → Runs (assign n to_flags (s ∷ [])) σ 1 σ' → ⊥
no_operand q (p-xducer (fetches-more p f) l n o) = never (cc)

nothing-put-out : {σ σ' : Stores} {ins : List ℕ} {c : ℕ} {p : Svcode} → Runs (with_ctrl [] c ins p) σ 1 σ' → (u : ℕ) → σ' u ≡ σ u
nothing-put-out (p-wc-emp c i n o) u = o u Memᴰ.not-nil
nothing-put-out (p-wc-nonemp c r n o) u = o u Memᴰ.not-nil

pub hidden-has-no-derivation : (σ' : Stores) → Runs (written 1 hidden) (mapping one_unit) 1 σ' → ⊥
unfolding written programs.count
hidden-has-no-derivation σ' h =
    let (σ₁, h₁, h₂) = of-seq h in
    let (σ₂, k₁, k₂) = of-seq h₂ in
    no_operand (nothing-put-out h₁ 1) k₁

-- a WithCtrl that is skipped although a stream that it takes in is not empty: it is not proper
abbrev pub improper : Program
improper = programs.with_ctrl [] 0 (1 ∷ []) done done

abbrev pub no-units : State
no-units = record { store = units 0 ∷ ints (pos 1 ∷ []) ∷ []; work = 0; steps = 0 }

pub improper-is-well-formed : WellFormed 2 improper
unfolding programs.dv programs.fv programs.count
improper-is-well-formed =
    well-with_ctrl well-done (λ u h. absurd (Memᴰ.not-nil h)) (λ u h. absurd (Memᴰ.not-nil h)) (λ u h k. Memᴰ.not-nil k) well-done (λ u h k. Memᴰ.not-nil k)

pub improper-runs : (m' : State) × (run boundless improper 1 no-units ≡ went m')
unfolding run
improper-runs = (_, refl)

not-empty : IsEmpty (mapping no-units) 1 → ⊥
not-empty e = let same : some (ints (pos 1 ∷ [])) ≡ some e.stream = e.there-is in long e.stream same e.no-elements
  where
    long : (a : Stream) → some (ints (pos 1 ∷ [])) ≡ some a → len a ≡ 0 → ⊥
    long a q z = let same : ints (pos 1 ∷ []) ≡ a = cc in let one : 1 ≡ len a = ap len same in omega arith

no-derivation : {σ' : Stores} → Runs (with_ctrl [] 0 (1 ∷ []) (written 2 done)) (mapping no-units) 1 σ' → ⊥
no-derivation (p-wc-emp c i n o) = not-empty (i 1 (Memᴰ.head refl))
no-derivation (p-wc-nonemp {n = j} c r n o) = let z : zero ≡ suc j = cc in omega arith

pub improper-has-no-derivation : (σ' : Stores) → Runs (written 2 improper) (mapping no-units) 1 σ' → ⊥
unfolding written
improper-has-no-derivation σ' h = let (σ₁, h₁, h₂) = of-seq h in no-derivation h₁
