-- The ids that an environment of translation names, and where they lie: what code may use from outside is among them.
use Rattle.std.specs.Prelude.{ℕ, ◌<◌}
use mathlib.Core.List.{List, [], ◌++◌, Memᴰ}
use Rattle.snesl.specs.Values.{ValueType}
use Rattle.snesl.specs.Terms.{All, ∅, ◌▹◌}
use Rattle.snesl.specs.Trees.{IdTree, order}

-- the ids of all trees of δ
unfoldable pub ids_of : {Γ : List ValueType} → All IdTree Γ → List ℕ
ids_of ∅ = []
ids_of (t ▹ δ) = order t ++ ids_of δ

-- each id of a list was given out before s
abbrev pub Below : ℕ → List ℕ → Type 0
Below s ss = (u : ℕ) → Memᴰ u ss → u < s
