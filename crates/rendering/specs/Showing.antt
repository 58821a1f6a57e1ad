-- What the writers of value text are handed, and what they leave.
use Rattle.std.specs.Prelude.{ℕ, zero, suc, ◌+◌, ◌*◌, ◌≤◌, ◌<◌, ◌^◌, Bool, true, false, List, [], ◌∷◌, ◌≡◌, ℤ, pos, negsuc, length}
use Rattle.snesl.specs.declared.code.Base.{Base}
use Rattle.snesl.specs.declared.code.Base.TheVariants as base
use Rattle.snesl.specs.Values.{type_of, Val}
use Rattle.snesl.specs.Representation.{concat, segments}
use Rattle.snesl.specs.Transducers.{bool_of}
use Rattle.snesl.specs.Text.{letter_f, letter_t, show_int, show_bool, show}
use Rattle.valuetext.specs.Laying.{advance}
use Rattle.rendering.specs.Standing.{Stands}
use Rattle.decimals.specs.Writing.{Writes}

abbrev pub is_stop : ℤ → Bool
is_stop (pos zero) = false
is_stop (pos (suc n)) = true
is_stop (negsuc n) = true

-- the text of an element of this base
abbrev pub scalar_text : Base → ℤ → List ℕ
scalar_text base.Int z = show_int z
scalar_text base.Bool z = show_bool (bool_of z)

-- the letter of a bool's element
abbrev pub letter_for : Bool → ℕ
letter_for false = letter_f
letter_for true = letter_t

abbrev pub letter_of : ℤ → ℕ
letter_of z = letter_for (bool_of z)

-- how many elements the streams of these values have
unfoldable pub size : (β : Base) (d : ℕ) → List (Val (type_of β d)) → ℕ
size β zero vs = length vs
size β (suc d) vs = size β d (concat vs) + length (segments vs)

-- Some value of base β and depth d stands at the cursors. Its text has at most 22 bytes for each of its elements, which does not reach past 32 bits.
pub record Showable (β : Base) (d : ℕ) (b : List ℤ) (cs : List ℕ) (at : ℕ) : Type 0 where
  pub value : Val (type_of β d)
  pub rest : List (Val (type_of β d))
  pub stands : Stands β d b cs (value ∷ rest)
  pub levels : d < length cs
  pub short : at + 22 * size β d (value ∷ []) < 2 ^ 32

-- whichever value stands there, its text was written, and the cursors stand behind it
pub record Shown (β : Base) (d : ℕ) (b : List ℤ) (cs cs' : List ℕ) (old new : List ℕ) (at next : ℕ) : Type 0 where
  pub written : (v : Val (type_of β d)) (vs : List (Val (type_of β d))) → Stands β d b cs (v ∷ vs) → Writes old new at (show (type_of β d) v) next
  pub moved : (v : Val (type_of β d)) (vs : List (Val (type_of β d))) → Stands β d b cs (v ∷ vs) → cs' ≡ advance β d cs (v ∷ [])
  pub bounded : (v : Val (type_of β d)) (vs : List (Val (type_of β d))) → Stands β d b cs (v ∷ vs) → next + 1 ≤ at + 22 * size β d (v ∷ [])
