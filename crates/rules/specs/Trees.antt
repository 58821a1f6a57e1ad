-- Stream trees (002, 1.3 (1) and 1.4 (3)): of ids, and the streams that a store has at them.
use Rattle.std.specs.Prelude.{ℕ, suc, List, [], ◌∷◌, ◌++◌, ◌≡◌}
use Rattle.std.proofs.Math.Option.{some}
use Rattle.snesl.specs.Values.{ValueType}
use Rattle.snesl.specs.Streams.{Stream}
use Rattle.snesl.specs.Terms.{All}
use Rattle.snesl.specs.Trees.{Tree, IdTree, leaf, node}
use Rattle.snesl.specs.Checking.{Name}
use Rattle.rules.specs.Names.{Env, env_of}
use Rattle.rules.specs.Instructions.{Stores}

-- st ::= s | (st1, s)
pub data STree : Type 0 where
  one : ℕ → STree
  pair : STree → ℕ → STree

-- the ids of a tree
unfoldable pub ids : STree → List ℕ
ids (one s) = s ∷ []
ids (pair st s) = ids st ++ s ∷ []

-- σ(st) = w
pub data Builds (σ : Stores) : STree → (d : ℕ) → Tree Stream d → Type 0 where
  builds-one : {s : ℕ} {a : Stream} → σ s ≡ some a → Builds σ (one s) 0 (leaf a)
  builds-pair : {st : STree} {s d : ℕ} {w : Tree Stream d} {a : Stream} → Builds σ st d w → σ s ≡ some a → Builds σ (pair st s) (suc d) (node w a)

-- a tree of depth d (snesl, specs/Trees.antt) without its depth
unfoldable pub plain_tree : {d : ℕ} → Tree ℕ d → STree
plain_tree (leaf s) = one s
plain_tree (node st s) = pair (plain_tree st) s

-- the δ of names and their trees
abbrev pub trees_of : {Γ : List ValueType} → All Name Γ → All IdTree Γ → Env STree
trees_of scope δ = env_of (λ τ. plain_tree) scope δ
