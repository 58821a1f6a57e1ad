-- What the readers of whole numbers answer, as the definitions of snesl's Text have it.
use Rattle.std.specs.Prelude.{◌≡◌, ℕ, ◌-◌, Bool, true, false, List, ℤ, nat_le, slice_index, Option, Some, None}
use Rattle.std.proofs.Math.Option as math
use Rattle.snesl.specs.Text.{digit0, is_digit, digits, number_from, well_digited, read_int}

abbrev pub pick : {A : Type 0} → Bool → A → A → A
pick true a b = a
pick false a b = b

-- the digit that stands at i
abbrev pub digit_at : List ℕ → ℕ → Option ℕ
digit_at t i = pick (is_digit (slice_index t i)) (Some (slice_index t i - digit0)) None

-- well-formed digits that make at most 2,147,483,648
abbrev pub digits_at : List ℕ → Option (ℕ × ℕ)
digits_at t =
    pick (well_digited t)
    (pick (nat_le (number_from 0 t) 2147483648) (Some (number_from 0 t, digits 0 t)) None)
    None

abbrev pub int_read : math.Option (ℤ × ℕ) → Option (ℤ × ℕ)
int_read math.none = None
int_read (math.some r) = Some r

abbrev pub int_at : List ℕ → Option (ℤ × ℕ)
int_at t = int_read (read_int t)

-- an int that is answered is the one at the front of the text; no int leaves it open
abbrev pub Sure : List ℕ → Option (ℤ × ℕ) → Type 0
Sure t (Some r) = Some r ≡ int_at t
Sure t None = Unit
