-- What a run of a term's code must come to, for a list of environments at once (002, theorem 1.20, is its case of one environment that has a value).
-- Running under n units is n evaluations side by side: each stream tree holds the n values of its variable, one after the other.
use Rattle.std.specs.Prelude.{ℕ, ◌+◌, ◌≤◌, ◌<◌, List, [], ◌∷◌, ◌++◌, map, ◌≡◌, length}
use Rattle.std.proofs.Math.Option.{Option, some, none}
use Rattle.snesl.specs.Values.{ValueType, Val}
use Rattle.snesl.specs.Terms.{◌∋◌, Term, All, lookup}
use Rattle.snesl.specs.Streams.{Store}
use Rattle.snesl.specs.Machine.{State, Stop, below_zero, out_of_range, Result, went, stopped, sum_of}
use Rattle.snesl.specs.Trees.{IdTree}
use Rattle.snesl.specs.Translation.{size, tree}
use Rattle.snesl.specs.Charges.{charge, reached, count_true, steps_of}
use Rattle.snesl.specs.Representation.{Holds}

-- each variable's tree holds its values in these environments
pub record Agrees (σ : Store) {Γ : List ValueType} (δ : All IdTree Γ) (ρs : List (All Val Γ)) : Type 0 where
  pub holds : {τ : ValueType} (x : Γ ∋ τ) → Holds σ τ (lookup x δ) (map (lookup x) ρs)

-- A run has gone well: from m, whose first free id is s, it came to m'. Its store has e's streams more, e's tree holds the results vs, and the work
-- and the steps spent are those that the evaluations are charged.
pub record Ran {Γ : List ValueType} {τ : ValueType} (e : Term Γ τ) (δ : All IdTree Γ) (s : ℕ) (ρs : List (All Val Γ)) (m : State) (vs : List (Val τ)) (m' : State) : Type 0 where
  pub added : Store
  pub store : m'.store ≡ m.store ++ added
  pub adds : length added ≡ size e
  pub results : Holds m'.store τ (tree e δ s) vs
  pub work : m'.work ≡ m.work + sum_of (map (charge e) ρs)
  pub steps : m'.steps ≡ m.steps + steps_of e ρs

-- the rules have two reasons for no value: iota of a negative, and a result out of range
pub data ByRule : Stop → Type 0 where
  iota-negative : {k : ℕ} → ByRule (below_zero k)
  no_number : {k : ℕ} → ByRule (out_of_range k)

-- What the run of e's code comes to, beside what the rules give for all environments: it goes well if each has a value, and if one has none it stops
-- at an id of e's code for one of the two reasons. So it never meets streams that don't fit.
pub data ComesTo {Γ : List ValueType} {τ : ValueType} (e : Term Γ τ) (δ : All IdTree Γ) (s : ℕ) (ρs : List (All Val Γ)) (m : State) : Option (List (Val τ)) → Result → Type 0 where
  ran : {vs : List (Val τ)} {m' : State} → Ran e δ s ρs m vs m' → ComesTo e δ s ρs m (some vs) (went m')
  halted : {why : Stop} {i : ℕ} → ByRule why → s ≤ i → i < s + size e → ComesTo e δ s ρs m none (stopped why i)

-- The same for one environment ρ, under a control of one unit: 002's theorem with 01's charges.
pub record RanOnce {Γ : List ValueType} {τ : ValueType} (e : Term Γ τ) (δ : All IdTree Γ) (s : ℕ) (ρ : All Val Γ) (m : State) (v : Val τ) (m' : State) : Type 0 where
  pub added : Store
  pub store : m'.store ≡ m.store ++ added
  pub adds : length added ≡ size e
  pub results : Holds m'.store τ (tree e δ s) (v ∷ [])
  pub work : m'.work ≡ m.work + charge e ρ
  pub steps : m'.steps ≡ m.steps + count_true (reached e ρ)

pub data ComesToOnce {Γ : List ValueType} {τ : ValueType} (e : Term Γ τ) (δ : All IdTree Γ) (s : ℕ) (ρ : All Val Γ) (m : State) : Option (Val τ) → Result → Type 0 where
  ran-once : {v : Val τ} {m' : State} → RanOnce e δ s ρ m v m' → ComesToOnce e δ s ρ m (some v) (went m')
  halted-once : {why : Stop} {i : ℕ} → ByRule why → s ≤ i → i < s + size e → ComesToOnce e δ s ρ m none (stopped why i)
