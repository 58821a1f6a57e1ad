-- Whether some bytes stand at a position, asked without a sum that could wrap.
use Prim.Native.Nat.{ℕ, ◌+◌, ◌-◌, ◌≤◌, ◌<◌}
use mathlib.Core.Bool.{Bool, true, false}
use mathlib.Core.Path.{◌≡◌, refl, sym}
use native.Mathlib.Omega.{arith}
use lib.Dec.{leb}
use borrow.Author.Tests.{leb-true, leb-false, le-leb, lt-leb}

pub leb-sub : (k s n : ℕ) → s ≤ n → leb k (n - s) ≡ leb (k + s) n
leb-sub k s n h = go (leb k (n - s)) refl
  where
    go : (b : Bool) → leb k (n - s) ≡ b → b ≡ leb (k + s) n
    go true e = let le : k ≤ n - s = leb-true k (n - s) e in sym (le-leb (k + s) n (omega arith))
    go false e = let lt : n - s < k = leb-false k (n - s) e in sym (lt-leb (k + s) n (omega arith))
