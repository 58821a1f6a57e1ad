-- The words of streams that stand one after another (crate environment: each stream's id, start and length).
use Rattle.std.specs.Prelude.{ℕ, ◌+◌, List, [], ◌∷◌}

-- streams of these lengths, the first with id s at `start`
unfoldable pub row_words : (s start : ℕ) → (lengths : List ℕ) → List ℕ
row_words s start [] = []
row_words s start (n ∷ ns) = s ∷ start ∷ n ∷ row_words (s + 1) (start + n) ns
