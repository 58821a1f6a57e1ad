-- Streams to value text (01, "Representation by itself", and refusals 3, 11 and 10 in that order), as a function of the streams, their lengths, the type
-- and what is lent. A type is a base β and a depth d, as code holds it.
use Rattle.std.specs.Prelude.{Result, Ok, Err, ℕ, suc, ◌≤◌, ◌<◌, Bool, ◌&&◌, List, [], ◌∷◌, ◌++◌, ◌≡◌, eqb, leb, ltb, ℤ, length, drop}
use Rattle.std.proofs.Math.Option.{Option, some, none}
use Rattle.snesl.specs.declared.code.Base.{Base}
use Rattle.snesl.specs.Values.{ValueType, depth_of, base_of, type_of, Val}
use Rattle.snesl.specs.Machine.{sum_of}
use Rattle.snesl.specs.Representation.{misfit_tree, values, tree_of}
use Rattle.snesl.specs.Text.{show}
use Rattle.snesl.specs.Limits.{most_depth, most_elements}
use Rattle.snesl.specs.declared.refusal.Refusal.{Refusal}
use Rattle.snesl.specs.declared.refusal.Refusal.TheVariants.{OverLimit, NoAnswerRoom, NoRepresentation}
use Rattle.decimals.specs.Numbers.{pick}
use Rattle.rendering.specs.Standing.{Stands}
use Rattle.decimals.specs.Writing.{Writes}

-- ---- a value anywhere in a buffer

-- more elements than a stream buffer will ever have
abbrev pub most_lent : ℕ
most_lent = 1048576

-- the streams of some value stand at these places
pub record ValueStands (β : Base) (d : ℕ) (b : List ℤ) (places : List ℕ) : Type 0 where
  pub value : Val (type_of β d)
  pub stands : Stands β d b places (value ∷ [])
  pub shallow : d ≤ most_depth
  pub levels : d < length places
  pub lent : length b ≤ most_lent

-- whichever value's they are, its text was written from the front on
pub record ShowsValue (β : Base) (d : ℕ) (b : List ℤ) (places : List ℕ) (old new : List ℕ) (next : ℕ) : Type 0 where
  pub written : (v : Val (type_of β d)) → Stands β d b places (v ∷ []) → Writes old new 0 (show (type_of β d) v) next

-- ---- the whole

pub record Rendering : Type 0 where
  pub answer : Result ℕ Refusal
  pub bytes : List ℕ

-- refused, nothing is written
abbrev pub refused_as : Refusal → List ℕ → Rendering
refused_as why old = record { answer = Err why; bytes = old }

-- a text where it fits, and else how long it is
abbrev pub text_in : List ℕ → List ℕ → Rendering
text_in t old =
    pick (leb (length t) (length old))
    (record { answer = Ok (length t); bytes = t ++ drop (length t) old })
    (refused_as (NoAnswerRoom (length t)) old)

-- the text of the one value; fitting streams have no other number of values
abbrev pub one_text : (τ : ValueType) → List (Val τ) → List ℕ → Rendering
one_text τ [] old = refused_as (NoRepresentation (suc (depth_of τ))) old
one_text τ (v ∷ vs) old = text_in (show τ v) old

abbrev pub fitting_text : (τ : ValueType) → Option ℕ → List (Val τ) → List ℕ → Rendering
fitting_text τ none vs old = one_text τ vs old
fitting_text τ (some j) vs old = refused_as (NoRepresentation j) old

abbrev pub row_text : List ℤ → List ℕ → (τ : ValueType) → List ℕ → Rendering
row_text zs ls τ old =
    fitting_text τ (misfit_tree (base_of τ) 1 (tree_of (depth_of τ) ls zs)) (values τ (tree_of (depth_of τ) ls zs)) old

-- d + 1 lengths that add up to what is lent, within the limit
pub record Row (d : ℕ) (lengths : List ℕ) (lent : ℕ) : Type 0 where
  pub shallow : d ≤ most_depth
  pub levels : length lengths ≡ suc d
  pub all-lent : sum_of lengths ≡ lent
  pub few : lent ≤ most_elements

abbrev pub right_lengths : List ℕ → (d lent : ℕ) → Bool
right_lengths ls d lent = eqb (length ls) (suc d) && (eqb (sum_of ls) lent && leb (sum_of ls) most_elements)

abbrev pub to_text : List ℤ → List ℕ → (β : Base) (d : ℕ) → List ℕ → Rendering
to_text zs ls β d old =
    pick (ltb most_depth d)
    (refused_as (OverLimit 0) old)
    (pick (right_lengths ls d (length zs)) (row_text zs ls (type_of β d) old) (refused_as (NoRepresentation (suc d)) old))
