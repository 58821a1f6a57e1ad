-- The text of a bool: reading and showing undo one another.
use Prim.Native.Nat.{ℕ}
use native.Mathlib.Omega.{arith}
use mathlib.Core.Bool.{Bool, true, false}
use mathlib.Core.List.{List, ◌∷◌, ◌++◌}
use mathlib.Core.Option.{Option, some, none}
use mathlib.Core.Path.{◌≡◌, refl, sym, subst₂, ◌∙◌}
use borrow.Author.Tests.{eqb-true}
use lib.Dec.{eqb}
use lib.ListN.{length, get_or, drop}
use Rattle.laws.proofs.Lists.{drop-read}
use Rattle.laws.proofs.Options.{none-some, some_pair}
use Rattle.snesl.specs.Text.{close_brace, letter_f, letter_t, show_bool, read_bool}
use Rattle.snesl.proofs.Texts.Reading.{Begun, Sound}

-- a bool's text begins with no brace
pub bool-opens : (c : Bool) (rest : List ℕ) → get_or (show_bool c ++ rest) 0 0 ≡ close_brace → ⊥
bool-opens false rest h = omega arith
bool-opens true rest h = omega arith

-- it is read whatever follows it
pub bool-complete : (c : Bool) (rest : List ℕ) → read_bool (show_bool c ++ rest) ≡ some (c, length (show_bool c))
bool-complete false rest = refl
bool-complete true rest = refl

-- `read_bool`, by its two tests
abbrev lettered : (first second : Bool) → Option (Bool × ℕ)
lettered true second = some (true, 1)
lettered false true = some (false, 1)
lettered false false = none

bool-lettered : (t : List ℕ) → read_bool t ≡ lettered (eqb (get_or t 0 0) letter_t) (eqb (get_or t 0 0) letter_f)
bool-lettered t = go (eqb (get_or t 0 0) letter_t) (eqb (get_or t 0 0) letter_f)
  where
    go : (b c : Bool)
        → ◌≡◌ {A = Option (Bool × ℕ)}
        (elim b [ true ↦ some (true, 1) | false ↦ elim c [ true ↦ some (false, 1) | false ↦ none ] ])
        (lettered b c)
    go true c = refl
    go false true = refl
    go false false = refl

pub bool-sound : Sound read_bool show_bool (λ c. Unit {0})
bool-sound t v n h = go (eqb (get_or t 0 0) letter_t) (eqb (get_or t 0 0) letter_f) refl refl (sym (bool-lettered t) ∙ h)
  where
    begun : (letter : ℕ) → eqb (get_or t 0 0) letter ≡ true → (letter ≡ 0 → ⊥) → t ≡ letter ∷ drop 1 t
    begun letter e p = drop-read t 0 0 letter (eqb-true (get_or t 0 0) letter e) p

    go : (first second : Bool) → eqb (get_or t 0 0) letter_t ≡ first → eqb (get_or t 0 0) letter_f ≡ second
        → lettered first second ≡ some (v, n) → Begun show_bool (λ c. Unit {0}) t v n
    go true second e f r =
        let (are, size) = some_pair true v 1 n r in
        subst₂ (Begun show_bool (λ c. Unit {0}) t) are size
        (record { rest = drop 1 t; text = begun letter_t e (omega arith); bytes = refl; fine = tt })
    go false true e f r =
        let (are, size) = some_pair false v 1 n r in
        subst₂ (Begun show_bool (λ c. Unit {0}) t) are size
        (record { rest = drop 1 t; text = begun letter_f f (omega arith); bytes = refl; fine = tt })
    go false false e f r = none-some r
