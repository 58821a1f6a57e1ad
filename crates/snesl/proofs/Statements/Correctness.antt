-- What is proved of running a term's code: the values, the work, the steps.
use Prim.Native.Nat.{ℕ, ◌+◌, ◌*◌, ◌≤◌, ◌<◌}
use mathlib.Core.Path.{◌≡◌}
use mathlib.Core.Bool.{Bool, true}
use mathlib.Core.List.{List, [], ◌∷◌, ◌++◌, map}
use mathlib.Core.Option.{some, none}
use lib.IntN.{pos}
use lib.ListN.{length}
use Rattle.snesl.specs.Values.{ValueType, braces, int, bool, Val, in_range}
use Rattle.snesl.specs.Terms.{◌∋◌, Term, guard, Listing, listed_types, All, ∅, ◌▹◌, lookup, listed}
use Rattle.snesl.specs.Evaluation.{one_if, eval, all_of, counting, up_to}
use Rattle.snesl.specs.Streams.{bools, Store, ◌!◌}
use Rattle.snesl.specs.Trees.{IdTree}
use Rattle.snesl.specs.Programs.{count}
use Rattle.snesl.specs.Machine.{State, Stop, went, stopped, skipped, run, boundless, sum_of}
use Rattle.snesl.specs.Translation.{size, tree, pack_code, code}
use Rattle.snesl.specs.Charges.{charge, plain_charge, reached, steps_of}
use Rattle.snesl.specs.Representation.{Holds}
use Rattle.snesl.specs.Agreement.{Agrees, ByRule, ComesTo, RanOnce, ComesToOnce}
use Rattle.snesl.specs.SideCondition.{Proper}
use Rattle.snesl.proofs.Compiled.Freshness.{count_code}
use Rattle.snesl.proofs.Correctness.Exact.{iota-in-range}
use Rattle.snesl.proofs.Correctness.Reached.{length-reached, steps-none}
use Rattle.snesl.proofs.Correctness.Skipping.{skipping, skipped-size}
use Rattle.snesl.proofs.Correctness.Packing.{Packed, packing}
use Rattle.snesl.proofs.Correctness.Correct.{correct}
use Rattle.snesl.proofs.Correctness.OneEnvironment.{correct-once, value-runs, no-value-halts, run-has-value, halt-has-no-value}
use Rattle.snesl.proofs.Correctness.Costs.{charge-bounded, guard-bounded, five_empty, five-is-too-small}
use Rattle.snesl.proofs.Correctness.EmptyInputs.{proper}
use Rattle.snesl.proofs.Correctness.Taken.{takes-its-environment}

-- A term's code defines as many streams as its size says, its bodies' included.
pub code-defines-its-size : {Γ : List ValueType} {τ : ValueType} (e : Term Γ τ) (δ : All IdTree Γ) (s : ℕ) → count (code e δ s) ≡ size e
code-defines-its-size = count_code

-- Correctness, over any list of environments that is not empty, under one unit for each. If the rules give each of them a value, then the run goes
-- through, adds exactly e's streams, e's tree holds the values, work has grown by all the charges and steps by the definitions that one of the evaluations
-- reaches. If they give one of them none, the run stops within e's ids, at a negative iota or a number out of range. It never meets streams that don't fit.
pub correctness : {Γ : List ValueType} {τ : ValueType} (e : Term Γ τ) (δ : All IdTree Γ) (ρ : All Val Γ) (ρs : List (All Val Γ)) (s : ℕ) (m : State)
    → length m.store ≡ s
    → Agrees m.store δ (ρ ∷ ρs)
    → ComesTo e δ s (ρ ∷ ρs) m (all_of (eval e) (ρ ∷ ρs)) (run boundless (code e δ s) (length (ρ ∷ ρs)) m)
correctness = correct

-- Correctness for one environment, under a control of one unit: 002's theorem, with work and steps.
pub correctness-once : {Γ : List ValueType} {τ : ValueType} (e : Term Γ τ) (δ : All IdTree Γ) (s : ℕ) (ρ : All Val Γ) (m : State)
    → length m.store ≡ s
    → Agrees m.store δ (ρ ∷ [])
    → ComesToOnce e δ s ρ m (eval e ρ) (run boundless (code e δ s) 1 m)
correctness-once = correct-once

-- The same read from either side: a value gives a run, no value a stop, and the other way round.
module _ {Γ : List ValueType} {τ : ValueType} (e : Term Γ τ) (δ : All IdTree Γ) (s : ℕ) (ρ : All Val Γ) (m : State)
    (first : length m.store ≡ s) (agrees : Agrees m.store δ (ρ ∷ [])) where
  pub a-value-gives-a-run : {v : Val τ} → eval e ρ ≡ some v → (m' : State) × (run boundless (code e δ s) 1 m ≡ went m') × RanOnce e δ s ρ m v m'
  a-value-gives-a-run h = value-runs h (correct-once e δ s ρ m first agrees)

  pub no-value-gives-a-stop : eval e ρ ≡ none
      → (why : Stop) × (i : ℕ) × (run boundless (code e δ s) 1 m ≡ stopped why i) × ByRule why × (s ≤ i) × (i < s + size e)
  no-value-gives-a-stop h = no-value-halts h (correct-once e δ s ρ m first agrees)

  pub a-run-has-a-value : {m' : State} → run boundless (code e δ s) 1 m ≡ went m' → (v : Val τ) × (eval e ρ ≡ some v) × RanOnce e δ s ρ m v m'
  a-run-has-a-value h = run-has-value h (correct-once e δ s ρ m first agrees)

  pub a-stop-has-no-value : {why : Stop} {i : ℕ} → run boundless (code e δ s) 1 m ≡ stopped why i → (eval e ρ ≡ none) × ByRule why × (s ≤ i) × (i < s + size e)
  a-stop-has-no-value h = halt-has-no-value h (correct-once e δ s ρ m first agrees)

-- A skipped body's tree holds the results of no environments, as its run under no units would leave it.
pub skipped-body-holds-nothing : {Γ : List ValueType} {τ : ValueType} (e : Term Γ τ) (δ : All IdTree Γ) (s : ℕ) (σ : Store)
    → length σ ≡ s
    → Agrees σ δ []
    → Holds (σ ++ skipped σ (code e δ s)) τ (tree e δ s) []
skipped-body-holds-nothing = skipping

-- It takes as many ids as if it were run.
pub skipped-body-has-its-size : {Γ : List ValueType} {τ : ValueType} (σ : Store) (e : Term Γ τ) (δ : All IdTree Γ) (s : ℕ)
    → length (skipped σ (code e δ s)) ≡ size e
skipped-body-has-its-size = skipped-size

-- It counts no steps.
pub skipped-body-counts-nothing : {Γ : List ValueType} {τ : ValueType} (e : Term Γ τ) → steps_of e [] ≡ 0
skipped-body-counts-nothing = steps-none

-- A value packed by a guard's bools (a scalar by Pack, a sequence level by level): from a store whose tree holds the values and whose stream b holds their bools,
-- the code adds the packing's streams, and the packed tree holds the values whose bool is T, in order; work has grown by what packing each is charged, and steps by
-- the definitions that packing one of them reaches.
pub packing-keeps-those-chosen : (τ : ValueType) {R : Type 0} (f : R → Bool) (h : R → Val τ) (r : R) (rs : List R) (b : ℕ) (t : IdTree τ) (s : ℕ) (m : State)
    → length m.store ≡ s
    → m.store ! b ≡ some (bools (map f (r ∷ rs)))
    → Holds m.store τ t (map h (r ∷ rs))
    → (m' : State) × Packed τ f h (r ∷ rs) t s (pack_code b t s) (length (r ∷ rs)) m m'
packing-keeps-those-chosen = packing

-- The charge is at most seven times the plain charge.
pub charge-at-most-sevenfold : {Γ : List ValueType} {τ : ValueType} (e : Term Γ τ) (ρ : All Val Γ) → charge e ρ ≤ 7 * plain_charge e ρ
charge-at-most-sevenfold = charge-bounded

-- A guard by itself, beside its body, is charged at most six times its plain charge;
pub guard-at-most-sixfold : {Γ : List ValueType} {τ : ValueType} (g : Γ ∋ bool) (us : Listing Γ) (e : Term (listed_types us) τ) (ρ : All Val Γ)
    → (own plain : ℕ)
    × (charge (guard g us e) ρ ≡ own + sum_of (map (charge e) (one_if (lookup g ρ) (listed us ρ))))
    × (plain_charge (guard g us e) ρ ≡ plain + sum_of (map (plain_charge e) (one_if (lookup g ρ) (listed us ρ))))
    × (own ≤ 6 * plain)
guard-at-most-sixfold = guard-bounded

-- and six is the smallest such factor: a true guard that lists five empty sequences, with a body that is charged nothing (36 and 7).
pub fivefold-is-too-little-for-a-guard : 5 * plain_charge five_empty (◌▹◌ {τ = bool} true (◌▹◌ {τ = braces int} [] ∅))
    < charge five_empty (◌▹◌ {τ = bool} true (◌▹◌ {τ = braces int} [] ∅))
fivefold-is-too-little-for-a-guard = five-is-too-small

-- Steps have one mark for each definition of the code.
pub marks-for-each-definition : {Γ : List ValueType} {τ : ValueType} (e : Term Γ τ) (ρ : All Val Γ) → length (reached e ρ) ≡ size e
marks-for-each-definition = length-reached

-- iota of a number in range is {0, 1, .., n-1}: that its items must be in range takes nothing from it.
pub iota-of-a-number-in-range : (n : ℕ) → in_range (pos n) ≡ true → up_to (pos n) ≡ some (counting 0 n)
iota-of-a-number-in-range = iota-in-range

-- P-WC-EMP's side condition: wherever compiled code meets a WithCtrl under an empty control, every stream that it takes in is empty too.
pub empty-control-has-empty-inputs : {Γ : List ValueType} {τ : ValueType} (e : Term Γ τ) (δ : All IdTree Γ) (ρ : All Val Γ) (ρs : List (All Val Γ)) (s : ℕ) (m : State)
    → length m.store ≡ s
    → Agrees m.store δ (ρ ∷ ρs)
    → Proper (code e δ s) (length (ρ ∷ ρs)) m
empty-control-has-empty-inputs = proper takes-its-environment
