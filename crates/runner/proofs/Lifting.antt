-- A result's words, just below where its expression was walked, moved up to just below where they are wanted.
use Prim.Native.Nat.{ℕ, ◌-◌, ◌≤◌}
use mathlib.Core.List.{List, ◌++◌}
use mathlib.Core.Path.{◌≡◌, sym, ◌∙◌, ap}
use native.Mathlib.Omega.{arith}
use lib.ListN.{length, drop}
use Rattle.laws.specs.Parts.{part, written}
use Rattle.snesl.specs.Trees.{Tree, map_tree}
use Rattle.snesl.specs.Machine.{State}
use Rattle.environment.specs.Words.{tree_words, tree_size}
use Rattle.environment.proofs.Stack.{front-is, rest-is, drop-above, lowered}
use Rattle.environment.proofs.Finding.{length-tree}
use Rattle.bodies.proofs.Differences.{up-again}
use Rattle.steps.specs.Holding.{place}

-- a tree's words with what stands behind them, after it was lifted
module _ {d : ℕ} (t : Tree ℕ d) (m : State) (from to : ℕ) (env env' lifted : List ℕ)
    (w : drop (from - tree_size d) env' ≡ tree_words (map_tree (place m.store) t) ++ drop from env) (low : tree_size d ≤ from) where
  words_long : length (tree_words (map_tree (place m.store) t)) ≡ tree_size d
  words_long = length-tree (map_tree (place m.store) t)

  pub behind : drop from env' ≡ drop from env
  behind =
      ap (λ a. drop a env') (sym (up-again from (tree_size d) low))
      ∙ rest-is env' (from - tree_size d) (tree_size d) (tree_words (map_tree (place m.store) t)) (drop from env) w words_long

  pub lifted-words : from ≤ to → to ≤ length env' → lifted ≡ written (to - tree_size d) (part (from - tree_size d) (tree_size d) env') env'
      → drop (to - tree_size d) lifted ≡ tree_words (map_tree (place m.store) t) ++ drop to env
  lifted-words h l e =
      ap (drop (to - tree_size d)) e
      ∙ (ap (λ p. drop (to - tree_size d) (written (to - tree_size d) p env'))
      (front-is env' (from - tree_size d) (tree_size d) (tree_words (map_tree (place m.store) t)) (drop from env) w words_long)
      ∙ (lowered env' to (tree_size d) (tree_words (map_tree (place m.store) t)) words_long (omega arith) l
      ∙ ap (λ r. tree_words (map_tree (place m.store) t) ++ r) (drop-above env' env from to behind h)))
