-- The range of 32 bits. `mag` is n both for n and for -(n + 1), so the range is one bound.
use Rattle.std.specs.Prelude.{Bool, true, false, ltb, ℤ, pos}
use Rattle.std.specs.Int.Signed.{mag}

abbrev pub fitting : ℤ → Bool
fitting z = ltb (mag z) 2147483648

-- a number that 32 bits hold, and else 0
abbrev pub held_of : ℤ → ℤ
held_of z = elim (fitting z) [ true ↦ z | false ↦ pos 0 ]
