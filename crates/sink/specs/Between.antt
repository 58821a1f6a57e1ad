-- The ids of a list that lie from lo on and below hi, and the least of them: so a list is written in ascending order without being sorted.
use Rattle.std.specs.Prelude.{ℕ, true, false, ◌&&◌, List, [], ◌∷◌, ltb, leb}

unfoldable pub between : (lo hi : ℕ) → List ℕ → List ℕ
between lo hi [] = []
between lo hi (u ∷ us) = elim (leb lo u && ltb u hi) [ true ↦ u ∷ between lo hi us | false ↦ between lo hi us ]

-- u where it lies from lo on and below `best`
abbrev pub lesser : (lo best u : ℕ) → ℕ
lesser lo best u = elim (leb lo u && ltb u best) [ true ↦ u | false ↦ best ]

-- the least id of a list from lo on, or `best` where none is below it
unfoldable pub least : (lo best : ℕ) → List ℕ → ℕ
least lo best [] = best
least lo best (u ∷ us) = least lo (lesser lo best u) us
