-- 01's notation for records, as bytes: `IN 5 1, IN 6 0, EA 7 5 1 6, PL 7 6` is pieces (IN 5 1 ∷ IN 6 0 ∷ EA 7 5 (6 ∷ []) ∷ PL 7 6 ∷ []).
use Rattle.std.specs.Prelude.{ℕ, ◌%◌, ◌/◌, List, [], ◌∷◌, ◌++◌, length}
use Prim.Native.String.{String}
use Rattle.snesl.specs.Ascii.{ascii}

abbrev pub IN : (x depth : ℕ) → List ℕ
IN x d = ascii "IN" ++ x ∷ d ∷ []

abbrev pub IB : (x depth : ℕ) → List ℕ
IB x d = ascii "IB" ++ x ∷ d ∷ []

abbrev pub VR : ℕ → List ℕ
VR x = ascii "VR" ++ x ∷ []

abbrev pub LT : ℕ → List ℕ
LT x = ascii "LT" ++ x ∷ []

-- a constant by its four bytes as one number: 4294967295 is -1
abbrev pub KN : ℕ → List ℕ
KN u = ascii "KN" ++ u % 256 ∷ u / 256 % 256 ∷ u / 65536 % 256 ∷ u / 16777216 ∷ []

-- 0 for F, 1 for T
abbrev pub KB : ℕ → List ℕ
KB c = ascii "KB" ++ c ∷ []

abbrev pub IO : ℕ → List ℕ
IO x = ascii "IO" ++ x ∷ []

abbrev pub PL : (x y : ℕ) → List ℕ
PL x y = ascii "PL" ++ x ∷ y ∷ []

abbrev pub LE : (x y : ℕ) → List ℕ
LE x y = ascii "LE" ++ x ∷ y ∷ []

abbrev pub EQ : (x y : ℕ) → List ℕ
EQ x y = ascii "EQ" ++ x ∷ y ∷ []

abbrev pub NO : ℕ → List ℕ
NO x = ascii "NO" ++ x ∷ []

abbrev pub SM : ℕ → List ℕ
SM x = ascii "SM" ++ x ∷ []

abbrev pub EA : (x y : ℕ) → List ℕ → List ℕ
EA x y us = ascii "EA" ++ x ∷ y ∷ length us ∷ us

abbrev pub GU : (g : ℕ) → List ℕ → List ℕ
GU g us = ascii "GU" ++ g ∷ length us ∷ us

abbrev pub VA : String → List ℕ
VA s = ascii "VA" ++ length (ascii s) % 256 ∷ length (ascii s) / 256 ∷ ascii s
