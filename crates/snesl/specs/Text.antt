-- Value text (01, "The formula and the job"): a value's text, and reading one. Bytes are ASCII codes.
-- A reader works on the rest of the text from its own first byte, and answers what it read and how many bytes that took.
use Rattle.std.specs.Prelude.{ℕ, zero, suc, ◌+◌, ◌*◌, ◌/◌, ◌%◌, ◌-◌, Bool, true, false, ◌&&◌, ◌||◌, not, List, [], ◌∷◌, ◌++◌, map, eqb, ltb, leb, ℤ, pos, negsuc, length, get_or, drop}
use Rattle.std.proofs.Math.Option.{Option, some, none}
use Rattle.snesl.specs.declared.code.Base.{Base}
use Rattle.snesl.specs.declared.code.Base.TheVariants as base
use Rattle.snesl.specs.Values.{ValueType, scalar, braces, Element, Val, in_range}
use Rattle.snesl.specs.Evaluation.{and_then}

-- '{', '}', ',', '-', '0'
abbrev pub open_brace : ℕ
open_brace = 123

abbrev pub close_brace : ℕ
close_brace = 125

abbrev pub comma : ℕ
comma = 44

abbrev pub minus : ℕ
minus = 45

abbrev pub digit0 : ℕ
digit0 = 48

-- 'F', 'T'
abbrev pub letter_f : ℕ
letter_f = 70

abbrev pub letter_t : ℕ
letter_t = 84

-- the decimal digits of n, in front of what follows; the first argument bounds their number
unfoldable pub digits_then : ℕ → ℕ → List ℕ → List ℕ
digits_then zero n rest = (digit0 + n % 10) ∷ rest
digits_then (suc f) n rest =
    elim (ltb n 10) [ true ↦ (digit0 + n) ∷ rest | false ↦ digits_then f (n / 10) ((digit0 + n % 10) ∷ rest) ]

-- a number without leading zeros
abbrev pub show_number : ℕ → List ℕ
show_number n = digits_then n n []

abbrev pub show_int : ℤ → List ℕ
show_int (pos n) = show_number n
show_int (negsuc n) = minus ∷ show_number (suc n)

-- items joined by commas
unfoldable pub joined : List (List ℕ) → List ℕ
joined [] = []
joined (t ∷ []) = t
joined (t ∷ u ∷ ts) = t ++ comma ∷ joined (u ∷ ts)

-- a value's text
abbrev pub show_bool : Bool → List ℕ
show_bool false = letter_f ∷ []
show_bool true = letter_t ∷ []

abbrev pub show_element : (b : Base) → Element b → List ℕ
show_element base.Int z = show_int z
show_element base.Bool c = show_bool c

unfoldable pub show : (τ : ValueType) → Val τ → List ℕ
show (scalar b) e = show_element b e
show (braces τ) vs = open_brace ∷ (joined (map (show τ) vs) ++ close_brace ∷ [])

abbrev pub is_digit : ℕ → Bool
is_digit b = leb digit0 b && ltb b 58

-- how many digits a text begins with, counted on from k
unfoldable pub digits : ℕ → List ℕ → ℕ
digits k [] = k
digits k (b ∷ bs) = elim (is_digit b) [ true ↦ digits (suc k) bs | false ↦ k ]

-- the number that they make, written behind n
unfoldable pub number_from : ℕ → List ℕ → ℕ
number_from n [] = n
number_from n (b ∷ bs) = elim (is_digit b) [ true ↦ number_from (n * 10 + (b - digit0)) bs | false ↦ n ]

-- some digits, and no leading zero
abbrev pub well_digited : List ℕ → Bool
well_digited t = ltb 0 (digits 0 t) && (eqb (digits 0 t) 1 || not (eqb (get_or t 0 0) digit0))

-- -n for n above 0
abbrev pub negated : ℕ → Option ℤ
negated zero = none
negated (suc n) = some (negsuc n)

-- a whole number in range, with the bytes it takes
abbrev pub ranged : ℕ → Option ℤ → Option (ℤ × ℕ)
ranged k none = none
ranged k (some z) = elim (in_range z) [ true ↦ some (z, k) | false ↦ none ]

-- an int: optional minus, digits, no leading zero, no minus zero, in range; the first byte that is no digit ends it
abbrev pub read_int : List ℕ → Option (ℤ × ℕ)
read_int t =
    elim (eqb (get_or t 0 0) minus) [
      | true ↦
          elim (well_digited (drop 1 t))
          [ true ↦ ranged (1 + digits 0 (drop 1 t)) (negated (number_from 0 (drop 1 t))) | false ↦ none ]
      | false ↦
          elim (well_digited t) [ true ↦ ranged (digits 0 t) (some (pos (number_from 0 t))) | false ↦ none ]
    ]

-- a value put in front of the rest of its list
abbrev pub before : {A : Type 0} → A → Option (List A × ℕ) → Option (List A × ℕ)
before v none = none
before v (some r) = some (v ∷ r.0, r.1)

-- Items from byte k of a list's text on, up to and with its closing brace, and the bytes up to there. Each item has at least a byte and a comma or
-- brace behind it, so the text's length bounds their number.
unfoldable pub read_items : {A : Type 0} → (List ℕ → Option (A × ℕ)) → (most : ℕ) → List ℕ → (k : ℕ) → Option (List A × ℕ)
read_items item zero t k = none
read_items item (suc most) t k =
    and_then (item (drop k t))
    (λ r.
    elim (eqb (get_or t (k + r.1) 0) comma) [
      | true ↦ before r.0 (read_items item most t (k + r.1 + 1))
      | false ↦
          elim (eqb (get_or t (k + r.1) 0) close_brace) [ true ↦ some (r.0 ∷ [], k + r.1 + 1) | false ↦ none ]
    ])

-- a list: an opening brace, and a closing one at once or items up to one
abbrev pub read_list : {A : Type 0} → (List ℕ → Option (A × ℕ)) → List ℕ → Option (List A × ℕ)
read_list item t =
    elim (eqb (get_or t 0 0) open_brace) [
      | true ↦ elim (eqb (get_or t 1 0) close_brace) [ true ↦ some ([], 2) | false ↦ read_items item (length t) t 1 ]
      | false ↦ none
    ]

-- a bool: T or F
abbrev pub read_bool : List ℕ → Option (Bool × ℕ)
read_bool t =
    elim (eqb (get_or t 0 0) letter_t)
    [ true ↦ some (true, 1) | false ↦ elim (eqb (get_or t 0 0) letter_f) [ true ↦ some (false, 1) | false ↦ none ] ]

abbrev pub read_element : (b : Base) → List ℕ → Option (Element b × ℕ)
read_element base.Int t = read_int t
read_element base.Bool t = read_bool t

-- a value of type τ
unfoldable pub read_value : (τ : ValueType) → List ℕ → Option (Val τ × ℕ)
read_value (scalar b) t = read_element b t
read_value (braces τ) t = read_list (read_value τ) t

-- the value of type τ whose text this is, and nothing else
abbrev pub value_of : (τ : ValueType) → List ℕ → Option (Val τ)
value_of τ t = and_then (read_value τ t) (λ r. elim (eqb r.1 (length t)) [ true ↦ some r.0 | false ↦ none ])
