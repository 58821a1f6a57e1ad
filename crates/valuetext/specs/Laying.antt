-- Streams of values laid into one buffer as a text is read: each level of the tree has a cursor, level 0 the data and level d the outermost flags,
-- and each stream only grows at its cursor. Stores past the buffer's end are none, so that a reader lent no elements only counts.
use Rattle.std.specs.Prelude.{ℕ, zero, suc, ◌+◌, ◌≤◌, List, map, ℤ, length, get_or, set}
use Rattle.std.proofs.lemmas.List.Edits.{sets}
use Rattle.snesl.specs.declared.code.Base.{Base}
use Rattle.snesl.specs.Values.{type_of, Element, Val}
use Rattle.snesl.specs.Streams.{data_of, bit, elements}
use Rattle.snesl.specs.Representation.{concat, segments}

-- scalars as they stand in a buffer
abbrev pub cells : (β : Base) → List (Element β) → List ℤ
cells β es = elements (data_of β es)

-- the buffer after the streams of these values, of base β and depth d
unfoldable pub lay : (β : Base) (d : ℕ) → List ℤ → (cursors : List ℕ) → List (Val (type_of β d)) → List ℤ
lay β zero b cs vs = sets b (get_or cs 0 0) (cells β vs)
lay β (suc d) b cs vs = sets (lay β d b cs (concat vs)) (get_or cs (suc d) 0) (map bit (segments vs))

-- the cursors after them
unfoldable pub advance : (β : Base) (d : ℕ) → (cursors : List ℕ) → List (Val (type_of β d)) → List ℕ
advance β zero cs vs = set cs 0 (get_or cs 0 0 + length vs)
advance β (suc d) cs vs = set (advance β d cs (concat vs)) (suc d) (get_or cs (suc d) 0 + length (segments vs))

-- every level's stream ends at or before m
unfoldable pub Under : (β : Base) (d : ℕ) → (cursors : List ℕ) → List (Val (type_of β d)) → (m : ℕ) → Type 0
Under β zero cs vs m = get_or cs 0 0 + length vs ≤ m
Under β (suc d) cs vs m = Under β d cs (concat vs) m × (get_or cs (suc d) 0 + length (segments vs) ≤ m)

-- no level's stream reaches into a higher level's
unfoldable pub Apart : (β : Base) (d : ℕ) → (cursors : List ℕ) → List (Val (type_of β d)) → Type 0
Apart β zero cs vs = Unit
Apart β (suc d) cs vs = Apart β d cs (concat vs) × Under β d cs (concat vs) (get_or cs (suc d) 0)
