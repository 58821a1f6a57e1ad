-- How a survey keeps ids, and where an id stands among some.
use Rattle.std.specs.Prelude.{ℕ, ◌≤◌, List, ◌∷◌, ◌++◌, ◌≡◌, Option, Some, None, length, take, drop}
use Rattle.snesl.specs.Programs.{insert}
use Rattle.sink.specs.declared.state.Kept.{Kept}

-- these ids are kept, and so many can be
pub record Marks (taken : List ℕ) (most : ℕ) (s : Kept) : Type 0 where
  pub rest : List ℕ
  pub ids-are : s.ids.now ≡ taken ++ rest
  pub count-is : s.count ≡ length taken
  pub whole : length s.ids.now ≡ most
  pub kept : length taken ≤ most
  pub small : most ≤ 65536

-- u is one of the ids already; or p of them are less than it, and it comes behind these
pub record Ranks (u : ℕ) (taken : List ℕ) (r : Option ℕ) : Type 0 where
  pub held : r ≡ None → insert u taken ≡ taken
  pub new : (p : ℕ) → r ≡ Some p → (p ≤ length taken) × (insert u taken ≡ take p taken ++ u ∷ drop p taken)
