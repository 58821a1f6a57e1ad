-- The environment of a walk over a checked formula's bytes, as a stack of words. It grows down, so that `drop sp env` is the environment, newest
-- binding first; an entry is the variable, its type's depth, and its tree's streams in tree order, each as three words: its id and two that the walk chooses.
use Rattle.std.specs.Prelude.{ℕ, ◌+◌, ◌*◌, ◌≤◌, List, [], ◌∷◌, ◌++◌, ◌≡◌, length, get_or, drop}
use Rattle.laws.specs.Parts.{part}
use Rattle.snesl.specs.declared.code.Variable.{Variable}
use Rattle.snesl.specs.Values.{ValueType, depth_of}
use Rattle.snesl.specs.Terms.{◌∋◌, All, ∅, ◌▹◌}
use Rattle.snesl.specs.Trees.{Tree, leaf, node}
use Rattle.snesl.specs.Checking.{Name, find, found}

-- a stream as the walk knows it
pub record Place : Type 0 where
  pub id : ℕ
  pub first : ℕ
  pub second : ℕ

abbrev pub place_words : Place → List ℕ
place_words p = p.id ∷ p.first ∷ p.second ∷ []

-- a value's streams as the walk knows them: how many there are is its type's depth, whatever its base
abbrev pub PlaceTree : ValueType → Type 0
PlaceTree τ = Tree Place (depth_of τ)

unfoldable pub tree_words : {d : ℕ} → Tree Place d → List ℕ
tree_words (leaf p) = place_words p
tree_words (node t p) = tree_words t ++ place_words p

-- how many words a tree of depth d takes
abbrev pub tree_size : ℕ → ℕ
tree_size d = 3 * d + 3

unfoldable pub spelled : {Γ : List ValueType} → All Name Γ → All PlaceTree Γ → List ℕ
spelled ∅ ∅ = []
spelled (◌▹◌ {τ = τ} x names) (t ▹ trees) = x.0 ∷ depth_of τ ∷ (tree_words t ++ spelled names trees)

-- From sp on the words spell bindings, and the newest one of x is at `pointer` among them.
pub record Sought (env : List ℕ) (sp : ℕ) (x : Variable) : Type 0 where
  pub context : List ValueType
  pub names : All Name context
  pub trees : All PlaceTree context
  pub rest : List ℕ
  pub type : ValueType
  pub pointer : context ∋ type
  pub spells : drop sp env ≡ spelled names trees ++ rest
  pub finds : find x names ≡ found type pointer

-- At p, not below sp, stands an entry with this tree: its depth at p + 1, its words from p + 2 on.
pub record Entry (env : List ℕ) (sp p : ℕ) {d : ℕ} (t : Tree Place d) : Type 0 where
  pub above : sp ≤ p
  pub within : p + 2 + tree_size d ≤ length env
  pub depth : get_or env (p + 1) 0 ≡ d
  pub words : part (p + 2) (tree_size d) env ≡ tree_words t
