-- A base as a byte: 0 is int, and 1 is bool; any other byte is none.
use Rattle.std.specs.Prelude.{ℕ, zero, suc, Option, Some, None}
use Rattle.snesl.specs.declared.code.Base.{Base}
use Rattle.snesl.specs.declared.code.Base.TheVariants.{Int, Bool}

abbrev pub byte_of : Base → ℕ
byte_of Int = 0
byte_of Bool = 1

abbrev pub base_from : (byte : ℕ) → Option Base
base_from zero = Some Int
base_from (suc zero) = Some Bool
base_from (suc (suc n)) = None
