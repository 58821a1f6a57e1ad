-- How many words below sp the walk of an expression takes, the tree of its result among them. Checking works the number out, so that a run or a listing lends
-- itself no more words than its formula needs.
use Rattle.std.specs.Prelude.{ℕ, ◌+◌, ◌*◌, max, List, [], ◌∷◌, length}
use Rattle.snesl.specs.Limits.{most_depth}
use Rattle.snesl.specs.Values.{ValueType, depth_of}
use Rattle.snesl.specs.Terms.{Term, Listing, var, bind, const, iota, operation, negation, sum, each, guard}
use Rattle.environment.specs.Words.{tree_size}

-- a binding of a tree of depth d: its name, its depth, and its tree
abbrev pub binding_size : ℕ → ℕ
binding_size d = tree_size d + 2

-- what stands before a comprehension's body: the flags, a binding for each of j listed scalars, and one for x, of depth c
abbrev pub body_size : (c j : ℕ) → ℕ
body_size c j = 3 + (5 * j + binding_size c)

-- what stands before a guard's body: the flags and a binding for each listed variable; while one is packed, below them, the bools spread over each of its levels
unfoldable pub listed_size : {Γ : List ValueType} → Listing Γ → ℕ
listed_size [] = 0
listed_size (u ∷ us) = binding_size (depth_of u.0) + listed_size us

abbrev pub spread_size : ℕ
spread_size = 3 * most_depth

unfoldable pub words : {Γ : List ValueType} {τ : ValueType} → Term Γ τ → ℕ
words {τ = τ} (var x) = tree_size (depth_of τ)
words (bind {υ = υ} e₁ e₂) = max (words e₁) (binding_size (depth_of υ) + words e₂)
words (const b e) = tree_size 0
words (iota x) = tree_size 1
words (operation o x y) = tree_size 0
words (negation x) = tree_size 0
words (sum x) = tree_size 0
words (each {υ = υ} y us e) = body_size (depth_of υ) (length us) + words e
words (guard g us e) = 3 + (listed_size us + max spread_size (words e))
