-- A store and the buffer that it stands in: what a stream's id, start and elements are once more streams follow, and that a stream's elements stand where its
-- start and its length say.
use Prim.Native.Nat.{ℕ, zero, suc, ◌+◌, ◌≤◌, ◌<◌}
use mathlib.Core.Bool.{Bool}
use mathlib.Core.List.{List, [], ◌∷◌, ◌++◌, append_assoc, append-nil, map}
use mathlib.Core.Option.{some}
use mathlib.Core.Path.{◌≡◌, refl, sym, ◌∙◌, ap}
use native.Mathlib.Omega.{arith}
use native.Mathlib.Nat.{add-zero}
use lib.IntN.{ℤ}
use lib.ListN.{length, take, length-append, length-map, drop, take-append-drop}
use lib.Seq.{take-append-le, take-append_seam}
use Rattle.laws.proofs.Never.{never}
use Rattle.laws.specs.Parts.{part, written}
use Rattle.snesl.specs.declared.code.Base.{Base}
use Rattle.snesl.specs.declared.code.Base.TheVariants as base
use Rattle.snesl.specs.Values.{Element}
use Rattle.snesl.specs.Streams.{Stream, ints, flags, data_of, data_kind, bit, elements, Store, ◌!◌, contents, room}
use Rattle.streams.proofs.Alike.{data-long}
use Rattle.streams.proofs.Store.{Holds, Stands, stands}
use Rattle.steps.specs.Holding.{start_of, length_in, length_of, IntsAt, BoolsAt, FlagsAt, OperandAt}

pub contents-append : (σ τ : Store) → contents (σ ++ τ) ≡ contents σ ++ contents τ
unfolding contents
contents-append [] τ = refl
contents-append (a ∷ σ) τ = ap (λ l. elements a ++ l) (contents-append σ τ) ∙ sym (append_assoc (elements a) (contents σ) (contents τ))

pub contents-one : (a : Stream) → contents (a ∷ []) ≡ elements a
unfolding contents
contents-one a = append-nil (elements a)

pub contents-more : (σ : Store) (a : Stream) → contents (σ ++ a ∷ []) ≡ contents σ ++ elements a
contents-more σ a = contents-append σ (a ∷ []) ∙ ap (λ l. contents σ ++ l) (contents-one a)

pub room-append : (σ τ : Store) → room (σ ++ τ) ≡ room σ + room τ
room-append σ τ = ap length (contents-append σ τ) ∙ length-append (contents σ) (contents τ)

pub room-more : (σ : Store) (a : Stream) → room (σ ++ a ∷ []) ≡ room σ + length (elements a)
room-more σ a = ap length (contents-more σ a) ∙ length-append (contents σ) (elements a)

-- an id that names a stream is below the next one
pub named : (σ : Store) (s : ℕ) (a : Stream) → σ ! s ≡ some a → s < length σ
named [] s a e = never (cc)
named (b ∷ σ) zero a e = omega arith
named (b ∷ σ) (suc s) a e = let h : s < length σ = named σ s a e in omega arith

pub kept : (σ τ : Store) (s : ℕ) (a : Stream) → σ ! s ≡ some a → (σ ++ τ) ! s ≡ some a
kept [] τ s a e = never (cc)
kept (b ∷ σ) τ zero a e = e
kept (b ∷ σ) τ (suc s) a e = kept σ τ s a e

pub newest : (σ : Store) (a : Stream) → (σ ++ a ∷ []) ! length σ ≡ some a
newest [] a = refl
newest (b ∷ σ) a = newest σ a

pub start-kept : (σ τ : Store) (s : ℕ) → s ≤ length σ → start_of (σ ++ τ) s ≡ start_of σ s
start-kept σ τ s h = ap room (take-append-le s σ τ h)

pub start-newest : (σ : Store) (a : Stream) → start_of (σ ++ a ∷ []) (length σ) ≡ room σ
start-newest σ a = ap room (take-append_seam σ (a ∷ []))

-- an operand as the transducers read it, in a buffer that holds the store
module _ {σ : Store} {buf : List ℤ} (h : Holds buf σ) where
  module _ {s at n : ℕ} (o : IntsAt σ s at n) where
    there : Stands σ s (ints o.content) buf
    there = stands h s (ints o.content) o.stream

    ints-long : n ≡ length o.content
    ints-long = o.long ∙ ap length_in o.stream

    pub ints-within : at + n ≤ room σ
    ints-within = omega (arith, ints-long, o.start, there.within)

    pub ints-part : part at n buf ≡ o.content
    ints-part = ap (λ k. part k n buf) o.start ∙ (ap (λ k. part (start_of σ s) k buf) ints-long ∙ there.content)

  module _ {s at n : ℕ} (o : FlagsAt σ s at n) where
    there-too : Stands σ s (flags o.content) buf
    there-too = stands h s (flags o.content) o.stream

    flags_long : n ≡ length (map bit o.content)
    flags_long = o.long ∙ (ap length_in o.stream ∙ sym (length-map o.content bit))

    pub flags-within : at + n ≤ room σ
    flags-within = omega (arith, flags_long, o.start, there-too.within)

    pub flags-part : part at n buf ≡ map bit o.content
    flags-part = ap (λ k. part k n buf) o.start ∙ (ap (λ k. part (start_of σ s) k buf) flags_long ∙ there-too.content)

-- an operand that is data, of either base
pub record DataAt (b : Base) (σ : Store) (s at n : ℕ) : Type 0 where
  pub content : List (Element b)
  pub stream : σ ! s ≡ some (data_of b content)
  pub start : at ≡ start_of σ s
  pub long : n ≡ length_of σ s

abbrev pub data-at : (b : Base) {σ : Store} {s at n : ℕ} → OperandAt σ (data_kind b) s at n → DataAt b σ s at n
data-at base.Int o = record { content = o.content; stream = o.stream; start = o.start; long = o.long }
data-at base.Bool o = record { content = o.content; stream = o.stream; start = o.start; long = o.long }

module _ {σ : Store} {buf : List ℤ} (h : Holds buf σ) where
  module _ (b : Base) {s at n : ℕ} (o : DataAt b σ s at n) where
    data-there : Stands σ s (data_of b o.content) buf
    data-there = stands h s (data_of b o.content) o.stream

    long-data : n ≡ length (elements (data_of b o.content))
    long-data = o.long ∙ (ap length_in o.stream ∙ sym (data-long b o.content))

    pub data-within : at + n ≤ room σ
    data-within = omega (arith, long-data, o.start, data-there.within)

    pub data-part : part at n buf ≡ elements (data_of b o.content)
    data-part = ap (λ k. part k n buf) o.start ∙ (ap (λ k. part (start_of σ s) k buf) long-data ∙ data-there.content)

  module _ {s at n : ℕ} (o : BoolsAt σ s at n) where
    pub bools-within : at + n ≤ room σ
    bools-within = data-within base.Bool (data-at base.Bool o)

    pub bools-part : part at n buf ≡ map bit o.content
    bools-part = data-part base.Bool (data-at base.Bool o)

-- an operand while the store grows, and the newest stream as an operand
module _ {σ : Store} (τ : Store) {s at n : ℕ} where
  pub ints-kept : IntsAt σ s at n → IntsAt (σ ++ τ) s at n
  ints-kept o =
      record {
        content = o.content;
        stream = kept σ τ s (ints o.content) o.stream;
        start = o.start ∙ sym (start-kept σ τ s (omega (arith, named σ s (ints o.content) o.stream)));
        long = o.long ∙ ap length_in (o.stream ∙ sym (kept σ τ s (ints o.content) o.stream));
      }

  pub flags-kept : FlagsAt σ s at n → FlagsAt (σ ++ τ) s at n
  flags-kept o =
      record {
        content = o.content;
        stream = kept σ τ s (flags o.content) o.stream;
        start = o.start ∙ sym (start-kept σ τ s (omega (arith, named σ s (flags o.content) o.stream)));
        long = o.long ∙ ap length_in (o.stream ∙ sym (kept σ τ s (flags o.content) o.stream));
      }

pub newest-ints : (σ : Store) (zs : List ℤ) → IntsAt (σ ++ ints zs ∷ []) (length σ) (room σ) (length zs)
newest-ints σ zs =
    record {
      content = zs;
      stream = newest σ (ints zs);
      start = sym (start-newest σ (ints zs));
      long = sym (ap length_in (newest σ (ints zs)));
    }

pub newest-flags : (σ : Store) (bs : List Bool) → FlagsAt (σ ++ flags bs ∷ []) (length σ) (room σ) (length bs)
newest-flags σ bs =
    record {
      content = bs;
      stream = newest σ (flags bs);
      start = sym (start-newest σ (flags bs));
      long = sym (ap length_in (newest σ (flags bs)));
    }

-- nothing written changes nothing
pub nothing_written : {A : Type 0} (out : ℕ) (l : List A) → l ≡ written out [] l
unfolding written
nothing_written out l =
    sym
    (ap (λ k. k ++ drop (out + 0) l) (append-nil (take out l))
    ∙ (ap (λ k. take out l ++ drop k l) (add-zero out) ∙ take-append-drop out l))
