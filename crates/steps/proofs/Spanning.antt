-- From the places of a transducer's operands on the stack of words to where they stand in the stream buffer.
use Prim.Native.Nat.{ℕ, suc, ◌+◌, ◌≤◌}
use mathlib.Core.List.{List, [], ◌∷◌, map}
use mathlib.Core.Path.{◌≡◌, refl, sym, ◌∙◌, ap}
use native.Mathlib.Omega.{arith}
use lib.ListN.{length, get_or, length-take, length-drop}
use lib.Seq.{take_all}
use Rattle.laws.specs.Parts.{part}
use Rattle.snesl.specs.declared.code.Kind.{Kind}
use Rattle.snesl.specs.declared.code.Kind.TheVariants.{Ints, Bools, Flags, Units}
use Rattle.snesl.specs.declared.code.Base.{Base}
use Rattle.snesl.specs.declared.code.Base.TheVariants as base
use Rattle.snesl.specs.declared.code.Transducer.{Transducer}
use Rattle.snesl.specs.declared.code.Transducer.TheVariants.{Const, ConstBool, ToFlags, B2u, Usum, MapTwo, MapOneNot, ScanPlus, Distr, SumPlus, Pack, UPack}
use Rattle.snesl.specs.Streams.{Store, contents, room}
use Rattle.streams.proofs.Store.{Holds}
use Rattle.snesl.specs.Transducers.{operands, signature}
use Rattle.snesl.specs.Machine.{sum_of}
use Rattle.environment.specs.Words.{Place, place_words}
use Rattle.environment.proofs.Entries.{first-is, second_is}
use Rattle.steps.specs.declared.Operands.{Operands}
use Rattle.steps.specs.Holding.{place, length_of, OperandAt, OperandsAt, Spanned, PlacedAt, Placed, positions}
use Rattle.steps.proofs.Stepping.{ints_of, bools-of, flags_of}
use Rattle.steps.proofs.Stores.{ints-within, bools-within, flags-within}

-- a place's words stand on the stack
pub place-within : (env : List ℕ) (p : ℕ) (a : Place) → part p 3 env ≡ place_words a → p + 3 ≤ length env
unfolding part
place-within env p a e = omega (arith, simp (length-take, length-drop) at (ap length e))

-- no transducer takes units
abbrev Taken : List Kind → Type 0
Taken [] = Unit
Taken (Ints ∷ ks) = Taken ks
Taken (Bools ∷ ks) = Taken ks
Taken (Flags ∷ ks) = Taken ks
Taken (Units ∷ ks) = ⊥

all-taken : (b : Base) (t : Transducer) → Taken (signature b t).inputs
all-taken b (Const z) = tt
all-taken b (ConstBool c) = tt
all-taken b (ToFlags s) = tt
all-taken b (B2u s) = tt
all-taken b (Usum s) = tt
all-taken b (MapTwo o s t) = tt
all-taken b (MapOneNot s) = tt
all-taken b (ScanPlus z s t) = tt
all-taken base.Int (Distr s t) = tt
all-taken base.Bool (Distr s t) = tt
all-taken b (SumPlus s t) = tt
all-taken base.Int (Pack s t) = tt
all-taken base.Bool (Pack s t) = tt
all-taken b (UPack s t) = tt

others : (k : Kind) (ks : List Kind) → Taken (k ∷ ks) → Taken ks
others Ints ks t = t
others Bools ks t = t
others Flags ks t = t
others Units ks t = absurd t

-- an operand lies before the first free element
within : (σ : Store) (k : Kind) (s at n : ℕ) → OperandAt σ k s at n → at + n ≤ room σ
within σ k s at n = go k
  where
    own : Holds (contents σ) σ
    own = record { content = take_all (room σ) (contents σ) (omega arith); fits = omega arith }

    go : (k : Kind) → OperandAt σ k s at n → at + n ≤ room σ
    go Ints o = ints-within own o
    go Bools o = bools-within own o
    go Flags o = flags-within own o
    go Units o = absurd o

module _ (σ : Store) (env : List ℕ) where
  long-is : {k : Kind} {s p : ℕ} → PlacedAt σ env k s p → get_or env (p + 2) 0 ≡ length_of σ s
  long-is {s = s} {p = p} o = second_is env p (place σ s) o.words

  operand : (k : Kind) (ks : List Kind) {s p : ℕ} → Taken (k ∷ ks) → PlacedAt σ env k s p → OperandAt σ k s (get_or env (p + 1) 0) (get_or env (p + 2) 0)
  operand Ints ks {s} {p} t o =
      let i = ints_of o.stream o.kind in
      record {
        content = i.0;
        stream = o.there ∙ ap mathlib.Core.Option.some i.1;
        start = first-is env p (place σ s) o.words;
        long = second_is env p (place σ s) o.words;
      }
  operand Bools ks {s} {p} t o =
      let i = bools-of o.stream o.kind in
      record {
        content = i.0;
        stream = o.there ∙ ap mathlib.Core.Option.some i.1;
        start = first-is env p (place σ s) o.words;
        long = second_is env p (place σ s) o.words;
      }
  operand Flags ks {s} {p} t o =
      let i = flags_of o.stream o.kind in
      record {
        content = i.0;
        stream = o.there ∙ ap mathlib.Core.Option.some i.1;
        start = first-is env p (place σ s) o.words;
        long = second_is env p (place σ s) o.words;
      }
  operand Units ks t o = absurd t

  -- as many spans as are read
  stand-none : (ks : List Kind) (ss ps : List ℕ) (ws : List (ℕ × ℕ)) → Placed σ env ks ss ps → length ss ≡ 0
      → OperandsAt σ ks ss ws × (0 ≡ sum_of (map (length_of σ) ss))
  unfolding sum_of
  stand-none [] [] ps ws o e = (tt, refl)
  stand-none [] (s ∷ ss) ps ws o e = absurd o
  stand-none (k ∷ ks) [] ps ws o e = absurd o
  stand-none (k ∷ ks) (s ∷ ss) ps ws o e = absurd (omega arith)

  stand-one : (ks : List Kind) (ss : List ℕ) (p : ℕ) (ps : List ℕ) (ws : List (ℕ × ℕ)) → Taken ks → Placed σ env ks ss (p ∷ ps) → length ss ≡ 1
      → OperandsAt σ ks ss ((get_or env (p + 1) 0, get_or env (p + 2) 0) ∷ ws) × (get_or env (p + 2) 0 ≡ sum_of (map (length_of σ) ss))
      × (get_or env (p + 1) 0 + get_or env (p + 2) 0 ≤ room σ)
  unfolding sum_of
  stand-one [] [] p ps ws t o e = absurd (omega arith)
  stand-one [] (s ∷ ss) p ps ws t o e = absurd o
  stand-one (k ∷ ks) [] p ps ws t o e = absurd o
  stand-one (k ∷ ks) (s ∷ ss) p ps ws t o e =
      let r = stand-none ks ss ps ws o.1 (omega arith) in
      ((operand k ks t o.0, r.0), omega (arith, long-is o.0, r.1), within σ k s _ _ (operand k ks t o.0))

  one_left : (ks : List Kind) (ss : List ℕ) (q : ℕ) → Placed σ env ks ss (q ∷ []) → (length ss ≡ 0 → ⊥) → length ss ≡ 1
  one_left [] [] q o e = absurd (e refl)
  one_left [] (s ∷ ss) q o e = absurd o
  one_left (k ∷ ks) [] q o e = absurd o
  one_left (k ∷ []) (s ∷ []) q o e = refl
  one_left (k ∷ []) (s ∷ t ∷ ss) q o e = absurd o.1
  one_left (k ∷ l ∷ ks) (s ∷ []) q o e = absurd o.1
  one_left (k ∷ l ∷ ks) (s ∷ t ∷ ss) q o e = absurd o.1

  stand-two : (ks : List Kind) (ss : List ℕ) (p q : ℕ) → Taken ks → Placed σ env ks ss (p ∷ q ∷ []) → (length ss ≡ 0 → ⊥) → (length ss ≡ 1 → ⊥)
      → OperandsAt σ ks ss ((get_or env (p + 1) 0, get_or env (p + 2) 0) ∷ (get_or env (q + 1) 0, get_or env (q + 2) 0) ∷ [])
      × (get_or env (p + 2) 0 + get_or env (q + 2) 0 ≡ sum_of (map (length_of σ) ss))
      × (get_or env (p + 1) 0 + get_or env (p + 2) 0 ≤ room σ)
      × (get_or env (q + 1) 0 + get_or env (q + 2) 0 ≤ room σ)
  unfolding sum_of
  stand-two [] [] p q t o e f = absurd (e refl)
  stand-two [] (s ∷ ss) p q t o e f = absurd o
  stand-two (k ∷ ks) [] p q t o e f = absurd o
  stand-two (k ∷ ks) (s ∷ ss) p q t o e f =
      let r = stand-one ks ss q [] [] (others k ks t) o.1 (one_left ks ss q o.1 (λ z. f (ap suc z))) in
      ((operand k ks t o.0, r.0), omega (arith, long-is o.0, r.1), within σ k s _ _ (operand k ks t o.0), r.2)

  -- the words that are read stand on the stack
  pub first-within : (ks : List Kind) (ss : List ℕ) (p : ℕ) (ps : List ℕ) → Placed σ env ks ss (p ∷ ps) → (length ss ≡ 0 → ⊥) → p + 3 ≤ length env
  first-within [] [] p ps o e = absurd (e refl)
  first-within [] (s ∷ ss) p ps o e = absurd o
  first-within (k ∷ ks) [] p ps o e = absurd o
  first-within (k ∷ ks) (s ∷ ss) p ps o e = place-within env p (place σ s) o.0.words

  pub second-within : (ks : List Kind) (ss : List ℕ) (p q : ℕ) (ps : List ℕ) → Placed σ env ks ss (p ∷ q ∷ ps) → (length ss ≡ 0 → ⊥) → (length ss ≡ 1 → ⊥) → q + 3 ≤ length env
  second-within [] [] p q ps o e f = absurd (e refl)
  second-within [] (s ∷ ss) p q ps o e f = absurd o
  second-within (k ∷ ks) [] p q ps o e f = absurd o
  second-within (k ∷ ks) (s ∷ ss) p q ps o e f = first-within ks ss q ps o.1 (λ z. f (ap suc z))

-- what `read_spans` answers
module _ (σ : Store) (env : List ℕ) (t : Transducer) (at : Operands) (b : Base) (o : Placed σ env (signature b t).inputs (operands t) (positions at)) {n : ℕ} (count : n ≡ length (operands t)) where
  pub spanned-none : n ≡ 0 → Spanned σ t (record { first = record { start = 0; length = 0 }; second = record { start = 0; length = 0 } })
  spanned-none e =
      let r = stand-none σ env (signature b t).inputs (operands t) (positions at) ((0, 0) ∷ (0, 0) ∷ []) o (sym count ∙ e) in
      record { inside = (omega arith, omega arith); base = b; stand = r.0; total = r.1 }

  pub spanned-one : n ≡ 1
      → Spanned σ t (record { first = record { start = get_or env (at.first + 1) 0; length = get_or env (at.first + 2) 0 }; second = record { start = 0; length = 0 } })
  spanned-one e =
      let r = stand-one σ env (signature b t).inputs (operands t) at.first (at.second ∷ []) ((0, 0) ∷ []) (all-taken b t) o (sym count ∙ e) in
      record { inside = (r.2, omega arith); base = b; stand = r.0; total = omega (arith, r.1) }

  pub spanned-two : (n ≡ 0 → ⊥) → (n ≡ 1 → ⊥)
      → Spanned σ t (record { first = record { start = get_or env (at.first + 1) 0; length = get_or env (at.first + 2) 0 }; second = record { start = get_or env (at.second + 1) 0; length = get_or env (at.second + 2) 0 } })
  spanned-two e f =
      let r = stand-two σ env (signature b t).inputs (operands t) at.first at.second (all-taken b t) o (λ z. e (count ∙ z)) (λ z. f (count ∙ z)) in
      record { inside = (r.2, r.3); base = b; stand = r.0; total = r.1 }

  pub reads_first : (n ≡ 0 → ⊥) → at.first + 3 ≤ length env
  reads_first e = first-within σ env (signature b t).inputs (operands t) at.first (at.second ∷ []) o (λ z. e (count ∙ z))

  pub reads_second : (n ≡ 0 → ⊥) → (n ≡ 1 → ⊥) → at.second + 3 ≤ length env
  reads_second e f = second-within σ env (signature b t).inputs (operands t) at.first at.second [] o (λ z. e (count ∙ z)) (λ z. f (count ∙ z))
