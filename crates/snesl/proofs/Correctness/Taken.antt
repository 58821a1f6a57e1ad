-- What a body takes in are streams of its environment's trees.
use Prim.Native.Nat.{ℕ}
use mathlib.Core.List.Memᴰ
use mathlib.Core.List.{List, Memᴰ}
use mathlib.Core.Logic.{⊎_elim}
use Rattle.snesl.specs.Values.{ValueType}
use Rattle.snesl.specs.Terms.{◌∋◌, here, there, All, ∅, ◌▹◌, lookup}
use Rattle.snesl.specs.Trees.{IdTree, order}
use Rattle.snesl.specs.Programs.{fv}
use Rattle.snesl.specs.Translation.{code}
use Rattle.snesl.specs.Ids.{ids_of}
use Rattle.snesl.proofs.Compiled.Members.{of-ascending}
use Rattle.snesl.proofs.Compiled.Freshness.{of-ids, free-ids}
use Rattle.snesl.proofs.Correctness.EmptyInputs.{TakesItsEnvironment}

of-environment : {Γ : List ValueType} {u : ℕ} (δ : All IdTree Γ) → Memᴰ u (ids_of δ) → (υ : ValueType) × (x : Γ ∋ υ) × Memᴰ u (order (lookup x δ))
unfolding lookup ids_of
of-environment ∅ h = absurd (Memᴰ.not-nil h)
of-environment {Γ} {u} (◌▹◌ {τ = τ} t δ) h =
    ⊎_elim (λ k. (τ, here, k)) (λ k. let (υ, x, i) = of-environment δ k in (υ, there x, i)) (of-ids τ t δ h)

pub takes-its-environment : TakesItsEnvironment
takes-its-environment = record { takes = λ e δ s u k. of-environment δ (free-ids e δ s u (of-ascending (fv s (code e δ s)) k)) }
