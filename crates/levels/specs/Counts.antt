-- A total that may pass a limit.
use Rattle.std.specs.Prelude.{ℕ, List, leb, Option, Some, None}
use Rattle.snesl.specs.Machine.{sum_of}
use Rattle.decimals.specs.Numbers.{pick}

abbrev pub total_of : List ℕ → (most : ℕ) → Option ℕ
total_of ns most = pick (leb (sum_of ns) most) (Some (sum_of ns)) None
