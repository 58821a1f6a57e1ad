-- A guard's flags, with their place below sp, and their units: its first two instructions.
use Prim.Native.Nat.{ℕ, ◌+◌, ◌-◌, ◌≤◌}
use mathlib.Core.Bool.{Bool}
use mathlib.Core.List.{List, [], ◌∷◌, ◌++◌, append_assoc}
use mathlib.Core.Option.{some}
use mathlib.Core.Path.{◌≡◌, sym, ◌∙◌, ap, subst}
use native.Mathlib.Omega.{arith}
use lib.IntN.{ℤ}
use lib.ListN.{length, get_or, length-append}
use Rattle.std.specs.Prelude.{Ok, Err, Result as Returned}
use Rattle.laws.proofs.Never.{never}
use Rattle.laws.specs.Parts.{part}
use Rattle.snesl.specs.declared.code.Base.TheVariants as base
use Rattle.snesl.specs.declared.code.Kind.TheVariants.{Flags}
use Rattle.snesl.specs.declared.code.Transducer.TheVariants.{B2u, Usum}
use Rattle.snesl.specs.declared.refusal.Refusal.{Refusal}
use Rattle.snesl.specs.Streams.{flags, units, len, ◌!◌}
use Rattle.snesl.specs.Programs.{Program, define}
use Rattle.snesl.specs.Machine.{State, onward}
use Rattle.snesl.specs.Translation.{id}
use Rattle.environment.specs.Words.{place_words}
use Rattle.environment.proofs.Stack.{at-written}
use Rattle.sink.specs.declared.state.Walk.{Walk}
use Rattle.sink.specs.Sinks.{Sink, defined}
use Rattle.sink.specs.Sunk.{Sunk}
use Rattle.steps.specs.Walking.{stepped, walked}
use Rattle.steps.specs.Holding.{place, PlacedAt, Stopping}
use Rattle.steps.proofs.Stores.{newest}
use Rattle.steps.proofs.Walking.{walked-define}
use Rattle.steps.proofs.Stepping.{flags_of, units_of_lem}
use Rattle.steps.proofs.Performing.{stopping-as}
use Rattle.leaves.specs.Making.{Makes, Instructed}
use Rattle.leaves.proofs.Operands.{named-there}
use Rattle.leaves.proofs.Growing.{keeps_then, onward-as, onward-stop}
use Rattle.leaves.proofs.Making.{Making, making, stopping}
use Rattle.guards.specs.Packs.{Puts, Placed}
use Rattle.guards.specs.Entering.{Asks, asking, Asked, Answers}
use Rattle.guards.proofs.Growth.{place-later}
use Rattle.guards.proofs.Putting.{Stored, stored, halts}

module _ {bools sp b : ℕ} {m : State} {k : Sink} {env : List ℕ} {buf : List ℤ} {state : Walk} {text : List ℕ} (g : Asks bools sp b m k env buf state text) where
  abbrev z : ℕ
  z = length m.store

  fits : sp - 3 + 3 ≤ length env
  fits = omega (arith, g.room, g.high, g.inside)

  pub b2u-named : get_or env bools 0 ≡ b
  b2u-named = named-there g.placed

  b2u-ready : Puts (B2u (id b)) (record { first = bools; second = bools }) (sp - 3) env buf state text m k
  b2u-ready =
      record {
        makes = record { executable = record { held = g.held; base = base.Int; placed = (g.placed, tt); more = omega (arith, g.few) }; sunk = g.sunk };
        solid = λ e q. never (cc);
        fits = fits;
      }

  pub flags-ready : Puts (B2u (id (get_or env bools 0))) (record { first = bools; second = bools }) (sp - 3) env buf state text m k
  flags-ready = subst (λ i. Puts (B2u (id i)) (record { first = bools; second = bools }) (sp - 3) env buf state text m k) (sym b2u-named) b2u-ready

  start-code : (cap n : ℕ) (p : Program) → walked cap n (asking b z p) m ≡ onward (stepped cap n (B2u (id b)) m) (walked cap n (define (Usum (id z)) p))
  start-code cap n p = walked-define cap n (B2u (id b)) (define (Usum (id z)) p) m

  module _ (n : ℕ) {env₁ : List ℕ} {buf₁ : List ℤ} {state₁ : Walk} {text₁ : List ℕ} {r₁ : Returned ℕ Refusal}
      (w₁ : Placed (length buf) n (B2u (id (get_or env bools 0))) (sp - 3) m k env env₁ buf buf₁ state₁ text₁ r₁) where
    own₁ : Placed (length buf) n (B2u (id b)) (sp - 3) m k env env₁ buf buf₁ state₁ text₁ r₁
    own₁ = subst (λ i. Placed (length buf) n (B2u (id i)) (sp - 3) m k env env₁ buf buf₁ state₁ text₁ r₁) b2u-named w₁

    pub flags-stopped : {q : Refusal} → r₁ ≡ Err q → Answers b sp m k n env env₁ buf buf₁ state₁ text₁ (Err q)
    flags-stopped {q} e =
        record {
          made = λ i f. never (cc);
          stops =
              λ q' f p.
              let same : q ≡ q' = cc in
              subst (Stopping (walked (length buf) n (asking b z p) m)) same
              (stopping-as (start-code (length buf) n p) (onward-stop (walked (length buf) n (define (Usum (id z)) p)) (halts own₁ e)));
        }

    module _ {l : ℕ} (e₁ : r₁ ≡ Ok l) where
      pub so : Stored (length buf) n (B2u (id b)) (sp - 3) m k env env₁ buf buf₁ state₁ text₁
      so = stored own₁ e₁

      next₁ : length so.after.store ≡ z + 1
      next₁ = ap length so.store ∙ length-append m.store (so.stream ∷ [])

      there : so.after.store ! z ≡ some so.stream
      there = ap (λ σ. σ ! z) so.store ∙ newest m.store so.stream

      placed₁ : PlacedAt so.after.store env₁ Flags z (sp - 3)
      placed₁ =
          record {
            stream = so.stream;
            there = there;
            kind = so.kind;
            words = ap (part (sp - 3) 3) so.words ∙ at-written env (sp - 3) (place_words (place so.after.store z)) fits;
          }

      flags-named : get_or env₁ (sp - 3) 0 ≡ z
      flags-named = named-there placed₁

      pub units-ready : Makes (Usum (id (get_or env₁ (sp - 3) 0))) (record { first = sp - 3; second = sp - 3 }) env₁ buf₁ state₁ text₁ so.after (defined (length m.store) (B2u (id b)) k)
      units-ready =
          subst (λ i. Makes (Usum (id i)) (record { first = sp - 3; second = sp - 3 }) env₁ buf₁ state₁ text₁ so.after (defined z (B2u (id b)) k)) (sym flags-named)
          (record { executable = record { held = so.held; base = base.Int; placed = (placed₁, tt); more = omega (arith, g.few, next₁) }; sunk = so.sunk })

      module _ {buf₂ : List ℤ} {state₂ : Walk} {text₂ : List ℕ} {r₂ : Returned ℕ Refusal} (same₁ : length buf₁ ≡ length buf)
          (w₂ : Instructed (stepped (length buf₁) n (Usum (id (get_or env₁ (sp - 3) 0))) so.after) (Usum (id (get_or env₁ (sp - 3) 0))) so.after (defined (length m.store) (B2u (id b)) k) buf₁ buf₂ state₂ text₂ r₂) where
        own₂ : Instructed (stepped (length buf₁) n (Usum (id z)) so.after) (Usum (id z)) so.after (defined z (B2u (id b)) k) buf₁ buf₂ state₂ text₂ r₂
        own₂ =
            subst (λ i. Instructed (stepped (length buf₁) n (Usum (id i)) so.after) (Usum (id i)) so.after (defined z (B2u (id b)) k) buf₁ buf₂ state₂ text₂ r₂) flags-named w₂

        second-code : (p : Program) → walked (length buf) n (asking b z p) m ≡ onward (stepped (length buf₁) n (Usum (id z)) so.after) (walked (length buf) n p)
        second-code p =
            start-code (length buf) n p
            ∙ (onward-as (walked (length buf) n (define (Usum (id z)) p)) so.went_to
            ∙ (walked-define (length buf) n (Usum (id z)) p so.after
            ∙ ap (λ c. onward (stepped c n (Usum (id z)) so.after) (walked (length buf) n p)) (sym same₁)))

        module _ {i : ℕ} (u : Making (length buf₁) n (Usum (id z)) so.after (defined z (B2u (id b)) k) buf₁ buf₂ state₂ text₂ i) where
          units-stored : u.after.store ≡ so.after.store ++ units i ∷ []
          units-stored =
              let v = units_of_lem u.added-to.stream u.added-to.kind in
              u.added-to.store ∙ ap (λ a. so.after.store ++ a ∷ []) (v.1 ∙ ap units (sym (u.long ∙ ap len v.1)))

          bits : (bs : List Bool) × (so.stream ≡ flags bs)
          bits = flags_of so.stream so.kind

          both_stored : u.after.store ≡ m.store ++ (flags bits.0 ∷ units i ∷ [])
          both_stored =
              units-stored
              ∙ (ap (λ σ. σ ++ units i ∷ []) (so.store ∙ ap (λ a. m.store ++ a ∷ []) bits.1) ∙ append_assoc m.store (flags bits.0 ∷ []) (units i ∷ []))

          asked : Asked b sp m k n i env env₁ buf buf₂ state₂ text₂
          asked =
              record {
                after = u.after;
                bits = bits.0;
                store = both_stored;
                quiet = λ q. u.long ∙ ap len (u.added-to.quiet q);
                whole = λ p. second-code p ∙ onward-as (walked (length buf) n p) u.went_to;
                held = u.held;
                sunk = subst (λ s. Sunk (defined s (Usum (id z)) (defined z (B2u (id b)) k)) text₂ state₂.sink) next₁ u.sunk;
                kept = keeps_then so.after.store (units i ∷ []) u.after.store buf buf₁ buf₂ so.kept u.kept units-stored;
                words = so.words ∙ ap (λ q. Rattle.laws.specs.Parts.written (sp - 3) (place_words q) env) (sym (place-later so.after.store (units i ∷ []) z there units-stored));
              }

        pub answers : Answers b sp m k n env env₁ buf buf₂ state₂ text₂ r₂
        answers =
            record {
              made = λ i e. asked (making (length buf₁) n (Usum (id z)) own₂ i e);
              stops =
                  λ q e p.
                  stopping-as (second-code p) (onward-stop (walked (length buf) n p) (stopping (length buf₁) n (Usum (id z)) own₂ q e));
            }
