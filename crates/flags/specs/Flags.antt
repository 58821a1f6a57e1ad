-- What the functions that read flags answer, of what the definitions say.
use Rattle.std.specs.Prelude as rust
use Rattle.std.proofs.Math.Option.{Option, some, none}

-- a value that is there or not
abbrev pub found : {A : Type 0} → Option A → rust.Option A
found none = rust.None
found (some a) = rust.Some a
