-- The pieces of a listing's lines that functions write one by one.
use Rattle.std.specs.Prelude.{ℕ, Bool, true, false, List, [], ◌∷◌, ◌++◌}
use Rattle.snesl.specs.Ascii.{ascii, pieces}
use Rattle.snesl.specs.Text.{comma}
use Rattle.snesl.specs.Listing.{id_text}

-- an id of a list, behind a comma unless it is the first
abbrev pub next_text : (first : Bool) → ℕ → List ℕ
next_text true s = id_text s
next_text false s = comma ∷ id_text s

-- what is left of a list's text, where the first has or hasn't been written
unfoldable pub rest_text : (first : Bool) → List ℕ → List ℕ
rest_text first [] = []
rest_text first (s ∷ ss) = next_text first s ++ rest_text false ss

-- ] := WithCtrl(s3,[
abbrev pub control_text : ℕ → List ℕ
control_text c = pieces (ascii "] := WithCtrl(" ∷ id_text c ∷ ascii ",[" ∷ [])
