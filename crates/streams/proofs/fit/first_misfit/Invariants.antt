-- `fit::first_misfit`: at every list of as many items as there are.
use Prim.Native.Nat.{ℕ, ◌-◌, ◌≤◌}
use mathlib.Core.Bool.{Bool, true, false}
use mathlib.Core.List.{List}
use mathlib.Core.Path.{◌≡◌}
use lib.IntN.{ℤ}
use lib.ListN.{length, drop}
use Rattle.snesl.specs.Transducers.{Feed, takes, flag_of, misfit}
use Rattle.streams.proofs.fit.first_misfit.Given as goal

pub record Head (flags : List ℤ) (n items : ℕ) (f t : Bool) (i j k : ℕ) : Type 0 where
  pub few : (j ≤ i) × (k ≤ i)
  pub same : (feed : Feed) → takes feed false ≡ f → takes feed true ≡ t → (xs : List ℤ) → length xs ≡ items →
      (j ≤ items) × (misfit flag_of feed 0 n flags xs ≡ misfit flag_of feed k (n - k) (drop i flags) (drop j xs))

abbrev pub invariant-loop-i : goal.invariant-loop-i
invariant-loop-i l = Head l.flags l.n l.items l.f l.t l.i l.j l.k
