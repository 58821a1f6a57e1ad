-- Which streams represent a value, as the definitions of snesl's Representation have it.
use Rattle.std.specs.Prelude as rust
use Rattle.std.specs.Prelude.{Result, Ok, Err, ℕ, suc, ◌≤◌, ◌<◌, Bool, ◌&&◌, List, [], ◌≡◌, eqb, ℤ, length, get_or, take}
use Rattle.std.proofs.Math.Option.{Option, some, none}
use Rattle.snesl.specs.declared.code.Base.{Base}
use Rattle.snesl.specs.declared.code.Base.TheVariants as base
use Rattle.snesl.specs.Machine.{sum_of}
use Rattle.snesl.specs.Transducers.{flag_of, misfit, count_f, alone}
use Rattle.snesl.specs.Representation.{are_elements, misfit_tree, tree_of}

-- how many items flags of so many segments have, unless something is wrong with them
abbrev pub fit_for : Option ℕ → ℕ → rust.Option ℕ
fit_for none items = rust.Some items
fit_for (some k) items = rust.None

abbrev pub fit_of : (n : ℕ) → List ℤ → rust.Option ℕ
fit_of n fs = fit_for (misfit flag_of {B = ℤ} alone 0 n fs []) (count_f flag_of fs)

-- the level that doesn't fit, outermost first
abbrev pub fitting_for : Option ℕ → Result Unit ℕ
fitting_for none = Ok tt
fitting_for (some j) = Err j

-- data of n elements of the base
abbrev pub data_fits : Base → (n : ℕ) → List ℤ → Bool
data_fits β n zs = eqb (length zs) n && are_elements β zs

-- each is the element of a bool
abbrev pub bools_fit : List ℤ → Bool
bools_fit zs = are_elements base.Bool zs

abbrev pub fitting_of : (β : Base) (d : ℕ) → (lengths : List ℕ) → List ℤ → Result Unit ℕ
fitting_of β d ls zs = fitting_for (misfit_tree β 1 (tree_of d ls zs))

-- d + 1 streams that make up a row of so many elements, and where each starts
pub record InRow (d lent : ℕ) (lengths places : List ℕ) : Type 0 where
  pub levels : length lengths ≡ suc d
  pub all-lent : sum_of lengths ≡ lent
  pub placed : length lengths ≤ length places
  pub starts : (i : ℕ) → i < suc d → get_or places i 0 ≡ sum_of (take i lengths)
