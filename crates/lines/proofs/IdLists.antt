-- A list of ids is written id by id.
use Prim.Native.Nat.{ℕ}
use mathlib.Core.Bool.{Bool, true, false}
use mathlib.Core.List.{List, [], ◌∷◌, ◌++◌, append_assoc, append-nil}
use mathlib.Core.Path.{◌≡◌, refl, sym, ap, ◌∙◌}
use Rattle.snesl.specs.Text.{comma, joined}
use Rattle.snesl.specs.Ascii.{ascii, pieces}
use Rattle.snesl.specs.Listing.{id_text, ids_text, with_ctrl_line}
use Rattle.lines.specs.Pieces.{next_text, rest_text, control_text}

pub ids-text : (ss : List ℕ) → ids_text ss ≡ rest_text true ss
unfolding joined rest_text
ids-text [] = refl
ids-text (s ∷ ss) = go s ss
  where
    go : (s : ℕ) (ss : List ℕ) → ids_text (s ∷ ss) ≡ id_text s ++ rest_text false ss
    go s [] = sym (append-nil (id_text s))
    go s (u ∷ us) = ap (λ l. id_text s ++ comma ∷ l) (go u us)

pub rest-none : (first : Bool) → rest_text first [] ≡ []
unfolding rest_text
rest-none first = refl

pub rest-next : (first : Bool) (s : ℕ) (ss : List ℕ) → rest_text first (s ∷ ss) ≡ next_text first s ++ rest_text false ss
unfolding rest_text
rest-next first s ss = refl

-- a WithCtrl's line by its pieces
three : (a b c d : List ℕ) → a ++ (b ++ (c ++ d)) ≡ pieces (a ∷ b ∷ c ∷ []) ++ d
three a b c d = simp (append_assoc, append-nil)

pub control-line : (outs : List ℕ) (c : ℕ) (ins : List ℕ)
    → with_ctrl_line outs c ins ≡ pieces (ascii "[" ∷ rest_text true outs ∷ control_text c ∷ rest_text true ins ∷ ascii "]) {\n" ∷ [])
control-line outs c ins =
    ap (λ l. pieces (ascii "[" ∷ l ∷ ascii "] := WithCtrl(" ∷ id_text c ∷ ascii ",[" ∷ ids_text ins ∷ ascii "]) {\n" ∷ [])) (ids-text outs)
    ∙ (ap (λ l. pieces (ascii "[" ∷ rest_text true outs ∷ ascii "] := WithCtrl(" ∷ id_text c ∷ ascii ",[" ∷ l ∷ ascii "]) {\n" ∷ [])) (ids-text ins)
    ∙ ap (λ l. ascii "[" ++ (rest_text true outs ++ l))
    (three (ascii "] := WithCtrl(") (id_text c) (ascii ",[") (pieces (rest_text true ins ∷ ascii "]) {\n" ∷ []))))
