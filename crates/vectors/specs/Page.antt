-- A text that is being written: a position of it, while the text is short enough for every position to be counted.
use Rattle.std.specs.Prelude.{ℕ, ◌≤◌, List, length}

abbrev pub Within : ℕ → List ℕ → Type 0
Within at text = at ≤ length text

abbrev pub Page : ℕ → List ℕ → Type 0
Page at text = Within at text × (length text ≤ 8192)
