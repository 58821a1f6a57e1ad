-- What the readers of value text answer, and what they do to the elements and the cursors lent, as the value that `read_value` finds has it.
use Rattle.std.specs.Prelude.{ℕ, ◌+◌, ◌≤◌, ◌<◌, ◌^◌, Bool, false, List, [], ◌∷◌, ◌≡◌, eqb, ℤ, length, get_or, Option, Some, None}
use Rattle.std.proofs.Math.Option as math
use Rattle.snesl.specs.declared.code.Base.{Base}
use Rattle.snesl.specs.declared.code.Base.TheVariants as base
use Rattle.snesl.specs.Values.{type_of, Element, Val}
use Rattle.snesl.specs.Streams.{bit}
use Rattle.snesl.specs.Text.{open_brace, close_brace, comma, read_element, read_value}
use Rattle.decimals.specs.Numbers.{pick}
use Rattle.valuetext.specs.Laying.{lay, advance, Apart}
use Rattle.valuetext.specs.declared.reading.Opening.{Opening}
use Rattle.valuetext.specs.declared.reading.Opening.TheVariants.{Empty, Items, No as NoList}
use Rattle.valuetext.specs.declared.reading.After.{After}
use Rattle.valuetext.specs.declared.reading.After.TheVariants.{Comma, Close, Else}

abbrev pub opening_at : List ℕ → Opening
opening_at t = pick (eqb (get_or t 0 0) open_brace) (pick (eqb (get_or t 1 0) close_brace) Empty Items) NoList

abbrev pub after_at : List ℕ → ℕ → After
after_at t k = pick (eqb (get_or t k 0) comma) Comma (pick (eqb (get_or t k 0) close_brace) Close Else)

-- a scalar as the element that it becomes
abbrev pub cell : (β : Base) → Element β → ℤ
cell base.Int z = z
cell base.Bool c = bit c

abbrev pub scalar_read : (β : Base) → math.Option (Element β × ℕ) → Option (ℤ × ℕ)
scalar_read β math.none = None
scalar_read β (math.some r) = Some (cell β r.0, r.1)

-- the scalar at the front of a text
abbrev pub scalar_at : (β : Base) → List ℕ → Option (ℤ × ℕ)
scalar_at β t = scalar_read β (read_element β t)

abbrev pub bool_at : List ℕ → Option (ℤ × ℕ)
bool_at t = scalar_at base.Bool t

-- is it a list of ints?
abbrev pub ints_in : (β : Base) → (d : ℕ) → Bool
ints_in base.Int d = eqb d 1
ints_in base.Bool d = false

-- Either no elements are lent, and the reader only counts; or the text was read before and its streams don't overlap.
pub data Clear (β : Base) (d : ℕ) (t : List ℕ) (b : List ℤ) (cs : List ℕ) : Type 0 where
  measuring : length b ≡ 0 → Clear β d t b cs
  filling : {v : Val (type_of β d)} {k : ℕ} → read_value (type_of β d) t ≡ math.some (v, k) → Apart β d cs (v ∷ []) → Clear β d t b cs

-- what a reader of base β and depth d is handed: a cursor for each level, that can take an element for each byte
pub record Ready (β : Base) (d : ℕ) (t : List ℕ) (b : List ℤ) (cs : List ℕ) : Type 0 where
  pub levels : d < length cs
  pub counts : (i : ℕ) → i ≤ d → get_or cs i 0 + length t < 2 ^ 64
  pub clear : Clear β d t b cs

-- the value that was read, laid at the cursors; no cursor moves by more than the bytes taken
pub record Laid (β : Base) (d : ℕ) (t : List ℕ) (b b' : List ℤ) (cs cs' : List ℕ) (k : ℕ) : Type 0 where
  pub value : Val (type_of β d)
  pub reads : read_value (type_of β d) t ≡ math.some (value, k)
  pub content : b' ≡ lay β d b cs (value ∷ [])
  pub cursors : cs' ≡ advance β d cs (value ∷ [])
  pub inside : k ≤ length t
  pub grown : (i : ℕ) → get_or cs' i 0 ≤ get_or cs i 0 + k

pub data ReadAs (β : Base) (d : ℕ) (t : List ℕ) (b b' : List ℤ) (cs cs' : List ℕ) : Option ℕ → Type 0 where
  read_no : read_value (type_of β d) t ≡ math.none → ReadAs β d t b b' cs cs' None
  read-bytes : {k : ℕ} → Laid β d t b b' cs cs' k → ReadAs β d t b b' cs cs' (Some k)
