-- Texts and streams at the edges, one by one: what the general theorems say of them is also what the definitions compute. Bytes are ASCII codes.
use Prim.Native.Nat.{ℕ}
use mathlib.Core.Bool.{true, false}
use mathlib.Core.List.{List, [], ◌∷◌, ◌++◌}
use mathlib.Core.Option.{some, none}
use mathlib.Core.Path.{◌≡◌, refl}
use lib.IntN.{pos, negsuc}
use Rattle.snesl.specs.declared.code.Base.TheVariants as base
use Rattle.snesl.specs.Values.{braces, int, bool}
use Rattle.snesl.specs.Trees.{leaf, node, order, map_tree, grow}
use Rattle.snesl.specs.Transducers.{misfit, count_f}
use Rattle.snesl.specs.Representation.{concat, segments, represent, streams_of, are_elements, misfit_tree, parts, tree_of}
use Rattle.snesl.specs.Text.{digits, number_from, read_items, read_value, value_of}

-- "01", "-0"
leading-zero : value_of int (48 ∷ 49 ∷ []) ≡ none
unfolding digits number_from read_value
leading-zero = refl

minus-zero : value_of int (45 ∷ 48 ∷ []) ≡ none
unfolding digits number_from read_value
minus-zero = refl

-- "{1,}"
comma-before-brace : value_of (braces int) (123 ∷ 49 ∷ 44 ∷ 125 ∷ []) ≡ none
unfolding digits number_from read_items read_value
comma-before-brace = refl

-- "{{},{}}"
empty-lists : value_of (braces (braces int)) (123 ∷ 123 ∷ 125 ∷ 44 ∷ 123 ∷ 125 ∷ 125 ∷ []) ≡ some ([] ∷ [] ∷ [])
unfolding read_items read_value
empty-lists = refl

-- "-2147483648", "-2147483649"
abbrev least : List ℕ
least = 45 ∷ 50 ∷ 49 ∷ 52 ∷ 55 ∷ 52 ∷ 56 ∷ 51 ∷ 54 ∷ 52 ∷ []

least-int : value_of int (least ++ 56 ∷ []) ≡ some (negsuc 2147483647)
unfolding digits number_from read_value
least-int = refl

below-least-int : value_of int (least ++ 57 ∷ []) ≡ none
unfolding digits number_from read_value
below-least-int = refl

-- "{T,F}", "{t}"; no number is a bool's text
bools-text : value_of (braces bool) (123 ∷ 84 ∷ 44 ∷ 70 ∷ 125 ∷ []) ≡ some (true ∷ false ∷ [])
unfolding read_items read_value
bools-text = refl

small-letter : value_of (braces bool) (123 ∷ 116 ∷ 125 ∷ []) ≡ none
unfolding read_items read_value
small-letter = refl

number-no-bool : value_of bool (49 ∷ []) ≡ none
unfolding read_value
number-no-bool = refl

-- the streams of {{}, {7}}: the empty list has its T
empty-list-streams : streams_of (braces (braces int)) ([] ∷ (pos 7 ∷ []) ∷ []) ≡ (pos 7 ∷ []) ∷ (pos 1 ∷ pos 0 ∷ pos 1 ∷ []) ∷ (pos 0 ∷ pos 0 ∷ pos 1 ∷ []) ∷ []
unfolding concat segments represent order map_tree
empty-list-streams = refl

-- flags whose last segment has no T are no value's
no-last-stop : misfit_tree base.Int 1 (node (leaf (pos 7 ∷ [])) (pos 0 ∷ [])) ≡ some 1
unfolding misfit_tree misfit
no-last-stop = refl

-- the streams of {T, F}: T as 1 and F as 0, and flags beside them; 2 is no bool
bool-streams : streams_of (braces bool) (true ∷ false ∷ []) ≡ (pos 1 ∷ pos 0 ∷ []) ∷ (pos 0 ∷ pos 0 ∷ pos 1 ∷ []) ∷ []
unfolding concat segments represent order map_tree
bool-streams = refl

no_bool : misfit_tree base.Bool 1 (node (leaf (pos 2 ∷ [])) (pos 0 ∷ pos 1 ∷ [])) ≡ some 0
unfolding misfit_tree misfit count_f are_elements
no_bool = refl

-- in a row the data come first and the outermost flags last
outermost-last : tree_of 1 (1 ∷ 2 ∷ []) (pos 7 ∷ pos 0 ∷ pos 1 ∷ []) ≡ node (leaf (pos 7 ∷ [])) (pos 0 ∷ pos 1 ∷ [])
unfolding parts grow
outermost-last = refl
