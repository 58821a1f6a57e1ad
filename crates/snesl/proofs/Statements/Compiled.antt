-- What is proved of the code that translation makes, and of a run in a buffer of so many elements.
use Prim.Native.Nat.{ℕ, ◌+◌, ◌≤◌, ◌<◌}
use mathlib.Core.List.{List, Memᴰ}
use mathlib.Core.Logic.{◌⊎◌, ◌↔◌}
use mathlib.Core.Path.{◌≡◌}
use lib.ListN.{length, take}
use Rattle.snesl.specs.Values.{ValueType}
use Rattle.snesl.specs.Terms.{Term, All}
use Rattle.snesl.specs.Streams.{Store, room}
use Rattle.snesl.specs.Trees.{IdTree, order}
use Rattle.snesl.specs.Programs.{Program, dv, fv, Apart, Within, WellFormed, Scoped}
use Rattle.snesl.specs.Machine.{State, full, went, stopped, run, boundless, holding}
use Rattle.snesl.specs.Translation.{size, tree, code}
use Rattle.snesl.specs.Ids.{ids_of, Below}
use Rattle.snesl.specs.Bounded.{Passes}
use Rattle.snesl.proofs.Compiled.Freshness as Freshness
use Rattle.snesl.proofs.Compiled.WellFormed as Well
use Rattle.snesl.proofs.Compiled.Scoped as Known
use Rattle.snesl.proofs.Bounded.Runs as Runs
use Rattle.snesl.proofs.Bounded.Room as Room

-- 002, Definition 1.1: compiled code is well-formed, where the environment names only ids given out before.
pub code-is-well-formed : {Γ : List ValueType} {τ : ValueType} {s : ℕ} (e : Term Γ τ) (δ : All IdTree Γ) → Below s (ids_of δ) → WellFormed s (code e δ s)
code-is-well-formed = Well.well-code

-- 002, Lemma 1.2: what well-formed code defines is fresh.
pub defined-ids-are-fresh : {s : ℕ} {p : Program} → WellFormed s p → Apart (fv s p) (dv s p)
defined-ids-are-fresh = Well.freshness

-- Every id that compiled code uses is known where it is used: of the environment, defined before, or put out by a WithCtrl before.
pub used-ids-are-known : {Γ : List ValueType} {ks : List ℕ} {τ : ValueType} (e : Term Γ τ) (δ : All IdTree Γ) (s : ℕ) → Within (ids_of δ) ks → Scoped ks s (code e δ s)
used-ids-are-known = Known.scoped-code

-- It takes from outside only what its environment names,
pub free-ids-are-the-environment's : {Γ : List ValueType} {τ : ValueType} (e : Term Γ τ) (δ : All IdTree Γ) (s : ℕ) → Within (fv s (code e δ s)) (ids_of δ)
free-ids-are-the-environment's = Freshness.free-ids

-- what it makes known are ids of its own,
pub defined-ids-come-next : {Γ : List ValueType} {τ : ValueType} {u : ℕ} (e : Term Γ τ) (δ : All IdTree Γ) (s : ℕ)
    → Memᴰ u (dv s (code e δ s))
    → (s ≤ u) × (u < s + size e)
defined-ids-come-next = Freshness.defined-next

-- and its result's tree names only ids of the environment or ids that it makes known: an id that no WithCtrl puts out is never used outside its body.
pub result-ids-are-known : {Γ : List ValueType} {τ : ValueType} {u : ℕ} (e : Term Γ τ) (δ : All IdTree Γ) (s : ℕ)
    → Memᴰ u (order (tree e δ s))
    → Memᴰ u (ids_of δ) ⊎ Memᴰ u (dv s (code e δ s))
result-ids-are-known = Freshness.result-ids

-- A run in a buffer of cap elements, from a machine that fits it. It goes through exactly if the boundless run does and the last room fits;
module _ (cap : ℕ) (p : Program) (n : ℕ) (m : State) (fits : room m.store ≤ cap) where
  pub it-ends-if-all-fits : (m' : State) → (run (holding cap) p n m ≡ went m') ↔ ((run boundless p n m ≡ went m') × (room m'.store ≤ cap))
  it-ends-if-all-fits = Room.went-iff cap p n m fits

  -- it is full at the id s exactly if the room really passes cap with that stream, and with none before;
  pub it-is-full-where-room-passes : (s : ℕ)
      → (run (holding cap) p n m ≡ stopped full s)
      ↔ ((τ : Store) × Passes p n m τ × (length τ ≡ s + 1) × (cap < room τ) × (room (take s τ) ≤ cap))
  it-is-full-where-room-passes = Room.full-iff cap p n m fits

-- and the boundless run is never full.
pub boundless-is-never-full : (p : Program) (n : ℕ) (m : State) {s : ℕ} → run boundless p n m ≡ stopped full s → ⊥
boundless-is-never-full = Runs.never-full
