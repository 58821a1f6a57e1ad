-- What 002's Theorem 1.20 supposes and concludes (1.5.2).
use Rattle.std.specs.Prelude.{ℕ, ◌≤◌, ◌<◌, ◌≡◌}
use Rattle.snesl.specs.declared.code.Variable.{Variable}
use Rattle.snesl.specs.Values.{ValueType, depth_of}
use Rattle.snesl.specs.Ids.{Below}
use Rattle.snesl.specs.Streams.{Stream}
use Rattle.snesl.specs.Trees.{Tree}
use Rattle.rules.specs.Names.{Env, nothing, named}
use Rattle.rules.specs.Values.{Value, HasType}
use Rattle.rules.specs.Representation.{Represents}
use Rattle.rules.specs.Instructions.{Svcode, Stores, Runs}
use Rattle.rules.specs.Trees.{STree, ids, Builds}

-- (iv), (v) and (vi), variable by variable: ρ(x) : Γ(x), the ids of δ(x) lie below s0, and ρ(x) ▷ σ(δ(x))
pub data Suits (σ : Stores) (s₀ : ℕ) : Env ValueType → Env Value → Env STree → Type 0 where
  suits-none : Suits σ s₀ nothing nothing nothing
  suits-more : {Γ : Env ValueType} {ρ : Env Value} {δ : Env STree} {x : Variable} {τ : ValueType} {v : Value} {st : STree} {w : Tree Stream (depth_of τ)}
      → HasType v τ
      → Below s₀ (ids st)
      → Builds σ st (depth_of τ) w
      → Represents τ v w
      → Suits σ s₀ Γ ρ δ
      → Suits σ s₀ (named x τ Γ) (named x v ρ) (named x st δ)

-- (vii) to (xi): the code runs under one unit, the tree of its result holds v, and what stood below s0 stands as it was
pub record Correct (p : Svcode) (σ : Stores) (s₀ s₁ : ℕ) (st : STree) (τ : ValueType) (v : Value) : Type 0 where
  pub stores : Stores
  pub runs : Runs p σ 1 stores
  pub streams : Tree Stream (depth_of τ)
  pub built : Builds stores st (depth_of τ) streams
  pub represents : Represents τ v streams
  pub kept : (u : ℕ) → u < s₀ → stores u ≡ σ u
  pub onward : s₀ ≤ s₁
  pub below : Below s₁ (ids st)
