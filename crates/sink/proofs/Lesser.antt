-- Which of the two an id leaves.
use Prim.Native.Nat.{ℕ, ◌<◌, ◌≤◌}
use mathlib.Core.Bool.{Bool, true, false, ◌&&◌}
use mathlib.Core.Path.{◌≡◌, refl, ap, ap₂, subst}
use borrow.Author.Tests.{lt-ltb, le-ltb, le-leb, lt-leb}
use lib.Dec.{ltb, leb}
use Rattle.sink.specs.Between.{lesser}

module _ (lo best u : ℕ) where
  lesser-by : {b : Bool} → (leb lo u && ltb u best) ≡ b → elim b [ true ↦ u | false ↦ best ] ≡ lesser lo best u
  lesser-by e = subst (λ (b : Bool). ◌≡◌ {A = ℕ} (elim b [ true ↦ u | false ↦ best ]) (lesser lo best u)) e refl

  pub lesser-in : lo ≤ u → u < best → u ≡ lesser lo best u
  lesser-in h g = lesser-by (ap₂ ◌&&◌ (le-leb lo u h) (lt-ltb u best g))

  pub lesser-high : lo ≤ u → best ≤ u → best ≡ lesser lo best u
  lesser-high h g = lesser-by (ap₂ ◌&&◌ (le-leb lo u h) (le-ltb u best g))

  pub lesser-low : u < lo → best ≡ lesser lo best u
  lesser-low h = lesser-by (ap (λ b. b && ltb u best) (lt-leb lo u h))
