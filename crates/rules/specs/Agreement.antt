-- What the theorems on instructions and translation say, in one place: how a store that is a list and one that is a mapping agree, and what a run and a derivation
-- come to beside each other.
use Rattle.std.specs.Prelude.{ℕ, ◌<◌, ◌≡◌}
use mathlib.Core.List.{List, Memᴰ}
use Rattle.std.proofs.Math.Option.{some}
use Rattle.snesl.specs.Streams.{Stream, Store, ◌!◌}
use Rattle.snesl.specs.Programs as programs
use Rattle.snesl.specs.Programs.{Program}
use Rattle.snesl.specs.Machine.{State, went, run, boundless}
use Rattle.snesl.specs.Records.{Raw}
use Rattle.rules.specs.Names.{Env}
use Rattle.rules.specs.Instructions.{Svcode, nop, Stores, Runs, written}
use Rattle.rules.specs.Trees.{STree}
use Rattle.rules.specs.Translation.{Translates, regroup}

-- where the mapping has a stream, the list has it too
pub record Covers (σ : Stores) (τ : Store) : Type 0 where
  pub covers : (u : ℕ) (a : Stream) → σ u ≡ some a → τ ! u ≡ some a

-- the run ends, with a list that has what the mapping has
pub record Ran (p : Program) (n : ℕ) (m : State) (σ' : Stores) : Type 0 where
  pub after : State
  pub ran : run boundless p n m ≡ went after
  pub covers : Covers σ' after.store

-- at these ids both have the same
pub record Agree (ids : List ℕ) (σ : Stores) (τ : Store) : Type 0 where
  pub agree : (u : ℕ) → Memᴰ u ids → σ u ≡ τ ! u

-- The rules derive a mapping that has what the list at the run's end has, at the ids that were known and at those that p makes known; below s, where p starts,
-- it is as it was.
pub record Derived (p : Program) (s n : ℕ) (ids : List ℕ) (σ : Stores) (m' : State) : Type 0 where
  pub stores : Stores
  pub runs : Runs (written s p) σ n stores
  pub made-known : Agree (programs.dv s p) stores m'.store
  pub still-known : Agree ids stores m'.store
  pub kept-below : (u : ℕ) → u < s → stores u ≡ σ u

-- the rules derive code that, grouped to the right, is the program P with its ids written out
pub record Translated (δ : Env STree) (e : Raw) (s₀ s₁ : ℕ) (st : STree) (P : Program) : Type 0 where
  pub made : Svcode
  pub derives : Translates δ e s₀ s₁ made st
  pub grouped : regroup made nop ≡ written s₀ P

-- two translations that are the same
pub record Same (s s' : ℕ) (p p' : Svcode) (st st' : STree) : Type 0 where
  pub ends : s ≡ s'
  pub code : p ≡ p'
  pub tree : st ≡ st'
