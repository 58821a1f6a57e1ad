-- Value text to streams (01, "Representation by itself", and refusals 3, 7 and 9 in that order), as a function of the text, the
-- type and what is lent. A type is a base β and a depth d, as code holds it.
use Rattle.std.specs.Prelude.{ℕ, suc, ◌+◌, ◌≤◌, ◌&&◌, List, [], ◌∷◌, ◌++◌, map, ◌≡◌, leb, ltb, ℤ, length, take, drop, Result, Ok, Err}
use Rattle.std.proofs.Math.Option.{Option, some, none}
use Rattle.snesl.specs.declared.code.Base.{Base}
use Rattle.snesl.specs.Values.{ValueType, type_of, Val}
use Rattle.snesl.specs.Streams.{Store, len, contents, room}
use Rattle.snesl.specs.Trees.{order}
use Rattle.snesl.specs.Representation.{represent}
use Rattle.snesl.specs.Text.{value_of}
use Rattle.snesl.specs.Limits.{most_depth, most_elements, used_of}
use Rattle.snesl.specs.declared.refusal.Refusal.{Refusal}
use Rattle.snesl.specs.declared.refusal.Refusal.TheVariants.{OverLimit, NoValueText, NoRoom}
use Rattle.decimals.specs.Numbers.{pick}
use Rattle.valuetext.specs.declared.storing.Unmeasured.{Unmeasured}
use Rattle.valuetext.specs.declared.storing.Unmeasured.TheVariants.{NoValue, Over}

-- the streams of one value, in tree order
abbrev pub value_store : (τ : ValueType) → Val τ → Store
value_store τ v = order (represent τ (v ∷ []))

-- the streams that a text stands for, none if it is no value's
abbrev pub value_store_if : (τ : ValueType) → Option (Val τ) → Store
value_store_if τ none = []
value_store_if τ (some v) = value_store τ v

abbrev pub text_store : (τ : ValueType) → List ℕ → Store
text_store τ t = value_store_if τ (value_of τ t)

abbrev pub text_elements : (τ : ValueType) → List ℕ → List ℤ
text_elements τ t = contents (text_store τ t)

-- ---- the two passes

abbrev pub measured_if : (τ : ValueType) → Option (Val τ) → Result ℕ Unmeasured
measured_if τ none = Err NoValue
measured_if τ (some v) = pick (leb (room (value_store τ v)) most_elements) (Ok (room (value_store τ v))) (Err Over)

abbrev pub measured : (τ : ValueType) → List ℕ → Result ℕ Unmeasured
measured τ t = measured_if τ (value_of τ t)

-- as text to streams refuses it
abbrev pub refusal_of : Unmeasured → Refusal
refusal_of NoValue = NoValueText 0
refusal_of Over = NoRoom 0

-- a value's counts are put in front
abbrev pub counts_if : (β : Base) (d : ℕ) → Option (Val (type_of β d)) → List ℕ → List ℕ
counts_if β d none counts = counts
counts_if β d (some v) counts = map len (value_store (type_of β d) v) ++ drop (suc d) counts

abbrev pub counts_after : (β : Base) (d : ℕ) → List ℕ → List ℕ → List ℕ
counts_after β d t counts = counts_if β d (value_of (type_of β d) t) counts

-- a text that was measured, with room for its streams
pub record Fillable (β : Base) (d : ℕ) (t : List ℕ) (counts : List ℕ) (start lent : ℕ) : Type 0 where
  pub value : Val (type_of β d)
  pub reads : value_of (type_of β d) t ≡ some value
  pub shallow : d ≤ most_depth
  pub counted : take (suc d) counts ≡ map len (value_store (type_of β d) value)
  pub room_for : start + room (value_store (type_of β d) value) ≤ lent

-- ---- the whole

pub record Conversion : Type 0 where
  pub answer : Result ℕ Refusal
  pub elements : List ℤ
  pub lengths : List ℕ

-- refused, nothing is written
abbrev pub refused : Refusal → List ℤ → List ℕ → Conversion
refused why es ls = record { answer = Err why; elements = es; lengths = ls }

-- accepted, only the streams and their lengths are
abbrev pub accepted : Store → List ℤ → List ℕ → Conversion
accepted σ es ls =
    record {
      answer = Ok (room σ);
      elements = contents σ ++ drop (room σ) es;
      lengths = map len σ ++ drop (length σ) ls;
    }

abbrev pub store_if : (β : Base) (d : ℕ) → Option (Val (type_of β d)) → List ℤ → List ℕ → Conversion
store_if β d none es ls = refused (NoValueText 0) es ls
store_if β d (some v) es ls =
    pick (leb (room (value_store (type_of β d) v)) (used_of (length es)) && leb (suc d) (length ls))
    (accepted (value_store (type_of β d) v) es ls)
    (refused (NoRoom 0) es ls)

abbrev pub to_streams : List ℕ → (β : Base) (d : ℕ) → List ℤ → List ℕ → Conversion
to_streams t β d es ls = pick (ltb most_depth d) (refused (OverLimit 0) es ls) (store_if β d (value_of (type_of β d) t) es ls)
