-- Quoted text as bytes, so that the documents' lines can be written as they are printed.
use Rattle.std.specs.Prelude.{ℕ, List, [], ◌∷◌, ◌++◌}
use Prim.Native.Char.{code}
use Prim.Native.String.{String, [] as nothing, ◌∷◌ as ◌then◌}

abbrev pub ascii : String → List ℕ
ascii nothing = []
ascii (c then s) = code c ∷ ascii s

-- pieces of text one after another
abbrev pub pieces : List (List ℕ) → List ℕ
pieces [] = []
pieces (p ∷ ps) = p ++ pieces ps
