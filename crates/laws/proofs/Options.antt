-- Facts on answers that may be missing.
use Prim.Native.Nat.{ℕ}
use native.Mathlib.Omega.{arith}
use mathlib.Core.Option.{Option, some, none}
use mathlib.Core.Path.{◌≡◌, ap}

-- an answer is not both there and missing
pub none-some : {A X : Type 0} {a : A} → ◌≡◌ {A = Option A} none (some a) → X
none-some h = let z : ◌≡◌ {A = ℕ} 0 1 = cc in absurd (omega arith)

-- the two halves of an answer
pub some_pair : {A B : Type 0} (a c : A) (b d : B) → ◌≡◌ {A = Option (A × B)} (some (a, b)) (some (c, d)) → (a ≡ c) × (b ≡ d)
some_pair {A} {B} a c b d h = let e : ◌≡◌ {A = A × B} (a, b) (c, d) = cc in (ap (λ p. p.0) e, ap (λ p. p.1) e)
