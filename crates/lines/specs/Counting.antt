-- A position can be counted on past a text: what every writer asks, so that lent too short a slice it still tells the bytes that are needed.
use Rattle.std.specs.Prelude.{ℕ, ◌+◌, ◌≤◌, ◌^◌, List, length}

pub record Countable (at : ℕ) (text : List ℕ) : Type 0 where
  pub end : at + length text ≤ 2 ^ 31
