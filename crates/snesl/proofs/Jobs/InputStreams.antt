-- A job's inputs stand in the store as its environments say: from id 0 on, the tree of each input holds its value. So what is proved of running code, and of
-- the code itself, holds of a job's code behind its inputs.
use Prim.Native.Nat.{ℕ, zero, suc, ◌+◌}
use native.Mathlib.Omega.{arith}
use mathlib.Core.List.Memᴰ
use mathlib.Core.List.{List, [], ◌∷◌, ◌++◌, map, append_assoc}
use mathlib.Core.Logic.{⊎_elim}
use mathlib.Core.Path.{◌≡◌, refl, sym, ◌∙◌, ap₂}
use lib.ListN.{length, length-append}
use Rattle.snesl.specs.Values.{ValueType, scalar, braces, depth_of, Val}
use Rattle.snesl.specs.Terms.{◌∋◌, here, there, Term, All, ∅, ◌▹◌, lookup}
use Rattle.snesl.specs.Streams.{flags, Store}
use Rattle.snesl.specs.Trees.{IdTree, order}
use Rattle.snesl.specs.Programs.{WellFormed, Scoped}
use Rattle.snesl.specs.Translation.{code}
use Rattle.snesl.specs.Representation.{concat, segments, represent, Holds, holds-node}
use Rattle.snesl.specs.Agreement.{Agrees}
use Rattle.snesl.specs.Ids.{ids_of, Below}
use Rattle.snesl.specs.Checking.{turned_onto, turned}
use Rattle.snesl.specs.Inputs.{input_tree, input_trees, input_start, input_streams}
use Rattle.snesl.proofs.Compiled.Freshness.{of-ids, of_node, of-leaf}
use Rattle.snesl.proofs.Compiled.WellFormed.{well-code}
use Rattle.snesl.proofs.Compiled.Scoped.{scoped-code}
use Rattle.snesl.proofs.Correctness.Grown.{holds-grown, agrees-grown, new-stream, holds-new}
use Rattle.snesl.proofs.Representing.Trees.{length-order}

-- an input takes an id for each of its streams
length-input : (σ : Store) (s : ℕ) (τ : ValueType) (vs : List (Val τ)) → length σ ≡ s → length (σ ++ order (represent τ vs)) ≡ s + suc (depth_of τ)
length-input σ s τ vs first =
    let ts = order (represent τ vs) in omega (arith, first, length-append σ ts, length-order (represent τ vs))

pub length-inputs : {τs : List ValueType} (vs : All Val τs) → length (input_streams vs) ≡ input_start τs
unfolding input_streams input_start
length-inputs ∅ = refl
length-inputs (◌▹◌ {τ = τ} v vs) =
    let t = represent τ (v ∷ []) in length-append (order t) (input_streams vs) ∙ ap₂ ◌+◌ (length-order t) (length-inputs vs)

-- its tree, from the next id on, holds its value
holds-input : (σ : Store) (s : ℕ) (τ : ValueType) (vs : List (Val τ)) → length σ ≡ s → Holds (σ ++ order (represent τ vs)) τ (input_tree s (depth_of τ)) vs
unfolding input_tree represent order
holds-input σ s (scalar b) vs first = holds-new σ b vs first
holds-input σ s (braces τ) vs first =
    let ts = order (represent τ (concat vs)) in
    let outermost = flags (segments vs) in
    rw (sym (append_assoc σ ts (outermost ∷ [])))
    (holds-node (new-stream (σ ++ ts) outermost (length-input σ s τ (concat vs) first))
    (holds-grown (outermost ∷ []) (holds-input σ s τ (concat vs) first)))

agrees-input : {Γ : List ValueType} (σ : Store) (s : ℕ) (τ : ValueType) (v : Val τ) (δ : All IdTree Γ) (ρ : All Val Γ) → length σ ≡ s
    → Agrees σ δ (ρ ∷ [])
    → Agrees (σ ++ order (represent τ (v ∷ []))) (input_tree s (depth_of τ) ▹ δ) (◌▹◌ {τ = τ} v ρ ∷ [])
unfolding lookup
agrees-input {Γ} σ s τ v δ ρ first a = record { holds = go }
  where
    go : {υ : ValueType} (x : (τ ∷ Γ) ∋ υ)
        → Holds (σ ++ order (represent τ (v ∷ []))) υ (lookup x (input_tree s (depth_of τ) ▹ δ)) (map (lookup x) (◌▹◌ {τ = τ} v ρ ∷ []))
    go here = holds-input σ s τ (v ∷ []) first
    go (there x) = holds-grown (order (represent τ (v ∷ []))) (a.holds x)

-- each input in turn, behind a store that agrees with the environments so far
agrees-inputs : {Γ τs : List ValueType} (σ : Store) (s : ℕ) (δ : All IdTree Γ) (ρ : All Val Γ) (vs : All Val τs) → length σ ≡ s
    → Agrees σ δ (ρ ∷ [])
    → Agrees (σ ++ input_streams vs) (turned δ (input_trees s τs)) (turned ρ vs ∷ [])
unfolding input_streams input_trees turned
agrees-inputs σ s δ ρ ∅ first a = agrees-grown [] a
agrees-inputs σ s δ ρ (◌▹◌ {τ = τ} v vs) first a =
    rw (sym (append_assoc σ (order (represent τ (v ∷ []))) (input_streams vs)))
    (agrees-inputs (σ ++ order (represent τ (v ∷ []))) (s + suc (depth_of τ)) (input_tree s (depth_of τ) ▹ δ) (v ▹ ρ) vs (length-input σ s τ (v ∷ []) first)
    (agrees-input σ s τ v δ ρ first a))

nothing-agrees : Agrees [] ∅ (∅ ∷ [])
nothing-agrees = record { holds = go }
  where
    go : {τ : ValueType} (x : [] ∋ τ) → Holds [] τ (lookup {P = IdTree} x ∅) (map (lookup {P = Val} x) (∅ ∷ []))
    go x = elim x [ ]

pub inputs-agree : {τs : List ValueType} (vs : All Val τs) → Agrees (input_streams vs) (turned ∅ (input_trees 0 τs)) (turned ∅ vs ∷ [])
inputs-agree vs = agrees-inputs [] 0 ∅ ∅ vs refl nothing-agrees

-- their ids lie below the first one behind them
below-input : (s d : ℕ) → Below (s + suc d) (order (input_tree s d))
unfolding input_tree
below-input s zero u h = omega (arith, of-leaf h)
below-input s (suc d) u h =
    ⊎_elim (λ k. let low = below-input s d u k in omega arith) (λ e. omega arith) (of_node (input_tree s d) h)

below-inputs : {Γ : List ValueType} (s : ℕ) (δ : All IdTree Γ) (τs : List ValueType) → Below s (ids_of δ)
    → Below (s + input_start τs) (ids_of (turned δ (input_trees s τs)))
unfolding input_trees input_start turned
below-inputs s δ [] below u h = let low = below u h in omega arith
below-inputs s δ (τ ∷ τs) below u h =
    let first : Below (s + suc (depth_of τ)) (ids_of (input_tree s (depth_of τ) ▹ δ)) =
    (λ w k. ⊎_elim (below-input s (depth_of τ) w) (λ m. let low = below w m in omega arith) (of-ids τ (input_tree s (depth_of τ)) δ k)) in
    let low = below-inputs (s + suc (depth_of τ)) (input_tree s (depth_of τ) ▹ δ) τs first u h in
    omega arith

pub inputs-below : (τs : List ValueType) → Below (input_start τs) (ids_of (turned ∅ (input_trees 0 τs)))
unfolding ids_of
inputs-below τs u h = let low = below-inputs 0 ∅ τs (λ w k. absurd (Memᴰ.not-nil k)) u h in omega arith

-- so a job's code is well-formed, and uses only ids that are known
pub job-well-formed : {τ : ValueType} (τs : List ValueType) (e : Term (turned_onto [] τs) τ)
    → WellFormed (input_start τs) (code e (turned ∅ (input_trees 0 τs)) (input_start τs))
job-well-formed τs e = well-code e (turned ∅ (input_trees 0 τs)) (inputs-below τs)

pub job-scoped : {τ : ValueType} (τs : List ValueType) (e : Term (turned_onto [] τs) τ)
    → Scoped (ids_of (turned ∅ (input_trees 0 τs))) (input_start τs) (code e (turned ∅ (input_trees 0 τs)) (input_start τs))
job-scoped τs e = scoped-code e (turned ∅ (input_trees 0 τs)) (input_start τs) (λ u h. h)
