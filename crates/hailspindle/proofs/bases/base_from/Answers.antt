-- The two bytes compute to their bases; any other is the definition's last row.
use Prim.Native.Nat.{ℕ, zero, suc}
use mathlib.Core.Path.{◌≡◌, refl, sym, ap}
use Rattle.std.specs.Prelude.{None}
use Rattle.hailspindle.specs.Bases.{base_from}
use Rattle.hailspindle.proofs.bases.base_from.Goals as goal

none_other : (n : ℕ) → (n ≡ 0 → ⊥) → (n ≡ 1 → ⊥) → None ≡ base_from n
none_other zero f g = absurd (f refl)
none_other (suc zero) f g = absurd (g refl)
none_other (suc (suc n)) f g = refl

pub returns-in-0 : goal.returns-in-0
returns-in-0 c = sym (ap base_from c.in-0.is)

pub returns-in-1 : goal.returns-in-1
returns-in-1 c = sym (ap base_from c.in-1.is)

pub returns-in_default : goal.returns-in_default
returns-in_default c = none_other _ c.in_default.in_default-own.rest.0.1 c.in_default.in_default-own.rest.1
