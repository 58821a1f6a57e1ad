-- How a flag is stored: a 32-bit number is 0, 1 or neither, and so is its flag.
use Prim.Native.Nat.{zero, suc, ◌<◌, ◌^◌}
use mathlib.Core.Bool.{true, false}
use mathlib.Core.Option.{some, none}
use mathlib.Core.Path.{◌≡◌, refl, sym, ◌∙◌, ap}
use mathlib.Core.List.{List, ◌∷◌}
use lib.IntN.{ℤ, pos, negsuc}
use lib.Signed.{mag}
use mir.Syntax.{w32}
use mir.Val.{to_z, of_z}
use Rattle.laws.proofs.Whole.{read}
use Rattle.snesl.specs.Transducers.{flag_of}
use Rattle.flags.specs.Segments.{leading}

pub zero_flag : (z : ℤ) → mag z < 2 ^ 31 → of_z w32 z ≡ 0 → flag_of z ≡ some false
zero_flag z h e = ap flag_of (sym (read z h) ∙ ap (to_z w32) e)

pub one-flag : (z : ℤ) → mag z < 2 ^ 31 → of_z w32 z ≡ 1 → flag_of z ≡ some true
one-flag z h e = ap flag_of (sym (read z h) ∙ ap (to_z w32) e)

pub no_flag : (z : ℤ) → (of_z w32 z ≡ 0 → ⊥) → (of_z w32 z ≡ 1 → ⊥) → flag_of z ≡ none
no_flag (pos zero) f g = absurd (f refl)
no_flag (pos (suc zero)) f g = absurd (g refl)
no_flag (pos (suc (suc n))) f g = refl
no_flag (negsuc n) f g = refl

-- what is not 0 ends the F's
pub other-flag : (z : ℤ) → (of_z w32 z ≡ 0 → ⊥) → (zs : List ℤ) → leading flag_of (z ∷ zs) ≡ 0
unfolding leading
other-flag (pos zero) f zs = absurd (f refl)
other-flag (pos (suc zero)) f zs = refl
other-flag (pos (suc (suc n))) f zs = refl
other-flag (negsuc n) f zs = refl
