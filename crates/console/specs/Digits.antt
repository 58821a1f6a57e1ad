-- Bytes written as pairs of hexadecimal digits.
use Rattle.std.specs.Prelude.{ℕ, ◌+◌, ◌-◌, ◌*◌, ◌&&◌, List, if◌then◌else◌, nat_le, slice_index}

-- what a digit counts; anything else counts 0
abbrev pub digit_of : ℕ → ℕ
digit_of c = if nat_le 48 c && nat_le c 57 then c - 48 else if nat_le 97 c && nat_le c 102 then c - 87 else 0

-- the byte that pair number i makes
abbrev pub pair_of : List ℕ → ℕ → ℕ
pair_of digits i = digit_of (slice_index digits (2 * i)) * 16 + digit_of (slice_index digits (2 * i + 1))
