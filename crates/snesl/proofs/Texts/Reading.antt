-- What it means that a reader and a way to show things belong together: it reads what is shown and nothing else.
use Prim.Native.Nat.{ℕ}
use mathlib.Core.Bool.{false}
use mathlib.Core.List.{List, ◌++◌}
use mathlib.Core.Option.{Option, some}
use mathlib.Core.Path.{◌≡◌}
use lib.ListN.{length, get_or}
use Rattle.snesl.specs.Text.{is_digit}

-- a text that begins with what shows v, of n bytes
pub record Begun {A : Type 0} (shown : A → List ℕ) (Fine : A → Type 0) (t : List ℕ) (v : A) (n : ℕ) : Type 0 where
  pub rest : List ℕ
  pub text : t ≡ shown v ++ rest
  pub bytes : n ≡ length (shown v)
  pub fine : Fine v

module _ {A : Type 0} (read : List ℕ → Option (A × ℕ)) (shown : A → List ℕ) (Fine : A → Type 0) where
  -- what is shown is read, whatever follows it but a digit
  abbrev pub Complete : Type 0
  Complete = (v : A) → Fine v → (rest : List ℕ) → is_digit (get_or rest 0 0) ≡ false → read (shown v ++ rest) ≡ some (v, length (shown v))

  -- what is read was shown
  abbrev pub Sound : Type 0
  Sound = (t : List ℕ) (v : A) (n : ℕ) → read t ≡ some (v, n) → Begun shown Fine t v n
