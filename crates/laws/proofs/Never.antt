-- What cannot be: `cc` makes 0 ≡ 1 of two constructors that are held to be equal, and from that anything follows.
use Prim.Native.Nat.{ℕ}
use mathlib.Core.Path.{◌≡◌}
use native.Mathlib.Omega.{arith}

pub never : {X : Type 0} → ◌≡◌ {A = ℕ} 0 1 → X
never z = absurd (omega arith)
