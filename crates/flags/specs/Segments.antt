-- A flag stream by its segments, each some F's and a T (002, 1.2.2), whatever way a flag is read.
use Rattle.std.specs.Prelude.{ℕ, zero, suc, Bool, true, false, List, [], ◌∷◌, ℤ, ◌+ℤ◌}
use Rattle.std.proofs.Math.Option.{Option, some, none}

module _ {A : Type 0} (flag : A → Option Bool) where
  -- how many F's stand in front
  unfoldable pub leading : List A → ℕ
  leading [] = zero
  leading (b ∷ bs) = elim (flag b) [ none ↦ zero | some c ↦ elim c [ false ↦ suc (leading bs) | true ↦ zero ] ]

  -- how many segments there are where k were read before, and one is under way if `within`; none where the last one lacks its T or an element is no flag
  unfoldable pub wholes : (k : ℕ) (within : Bool) → List A → Option ℕ
  wholes k false [] = some k
  wholes k true [] = none
  wholes k within (b ∷ bs) =
      elim (flag b) [ none ↦ none | some c ↦ elim c [ false ↦ wholes k true bs | true ↦ wholes (suc k) false bs ] ]

-- of a segment's items: a total that goes on, and the totals before each of them
unfoldable pub total_from : ℤ → List ℤ → ℤ
total_from t [] = t
total_from t (x ∷ xs) = total_from (t +ℤ x) xs

unfoldable pub running : ℤ → List ℤ → List ℤ
running t [] = []
running t (x ∷ xs) = t ∷ running (t +ℤ x) xs
