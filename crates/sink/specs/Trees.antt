-- Ids that stand on the stack, each with two words behind it: those of a tree, of which the text can be counted on, and any.
use Rattle.std.specs.Prelude.{ℕ, ◌+◌, ◌*◌, ◌≤◌, true, List, [], ◌++◌, ◌∷◌, ◌≡◌, length}
use Rattle.laws.specs.Parts.{part}
use Rattle.snesl.specs.Trees.{Tree, map_tree}
use Rattle.snesl.specs.Programs.{ascending}
use Rattle.snesl.specs.Listing.{tree_text}
use Rattle.lines.specs.Counting.{Countable}
use Rattle.lines.specs.Pieces.{rest_text}
use Rattle.environment.specs.Words.{Place, place_words, tree_words, tree_size}
use Rattle.sink.specs.Between.{between}

-- where streams are, by their ids
pub record Placing : Type 0 where
  pub place : ℕ → Place
  pub named : (s : ℕ) → (place s).id ≡ s

-- the words of some ids, one after another
unfoldable pub id_words : Placing → List ℕ → List ℕ
id_words p [] = []
id_words p (s ∷ ss) = place_words (p.place s) ++ id_words p ss

pub record TreeAt (env : List ℕ) (q d at : ℕ) : Type 0 where
  pub tree : Tree ℕ d
  pub placing : Placing
  pub words : part q (tree_size d) env ≡ tree_words (map_tree placing.place tree)
  pub within : q + tree_size d ≤ length env
  pub countable : Countable at (tree_text tree)

pub record IdsAt (env : List ℕ) (q count : ℕ) : Type 0 where
  pub ids : List ℕ
  pub placing : Placing
  pub number : length ids ≡ count
  pub words : part q (3 * count) env ≡ id_words placing ids
  pub within : q + 3 * count ≤ length env

pub record OutsAt (env : List ℕ) (q count lo hi at : ℕ) : Type 0 where
  pub held : IdsAt env q count
  pub countable : Countable at (rest_text true (ascending (between lo hi held.ids)))
