-- Differences by themselves, since omega takes every `-` in reach apart.
use Prim.Native.Nat.{ℕ, ◌+◌, ◌-◌, ◌≤◌}
use mathlib.Core.Path.{◌≡◌}
use native.Mathlib.Omega.{arith}

module _ (a b : ℕ) where
  pub up-again : b ≤ a → a - b + b ≡ a
  up-again h = omega arith

  pub back-up : b + 2 ≤ a → a - b - 2 + 2 ≡ a - b
  back-up h = omega arith

  pub fits_below : (l l' : ℕ) → a ≤ l → l' ≡ l → a - b ≤ l'
  fits_below l l' h e = omega arith

  module _ (c : ℕ) where
    pub sub-twice : a - b - c ≤ a
    sub-twice = omega arith

    pub low-enough : b + 2 + c ≤ a → c ≤ a - b - 2
    low-enough h = omega arith

    pub far-below : (d : ℕ) → c + 2 + d ≤ a - 3 - b → a - 3 - b - c - 2 + 3 ≤ a
    far-below d h = omega arith
