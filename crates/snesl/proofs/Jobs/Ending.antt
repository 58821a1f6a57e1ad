-- How an accepted job ends: the bounded run of its code against what the rules give for its inputs. Each theorem on a job's outcome reads one of these cases.
use Prim.Native.Nat.{ℕ, ◌≤◌}
use native.Mathlib.Omega.{arith}
use mathlib.Core.Bool.{Bool, true, false}
use mathlib.Core.List.{List, [], ◌∷◌}
use mathlib.Core.Option.{Option, some, none}
use mathlib.Core.Path.{◌≡◌, refl, sym, ◌∙◌, ap}
use borrow.Author.Tests.{leb-true, leb-false}
use lib.Dec.{leb}
use lib.ListN.{length}
use Rattle.snesl.specs.declared.refusal.Refusal.{Refusal}
use Rattle.snesl.specs.declared.refusal.Refusal.TheVariants.{NoValue}
use Rattle.snesl.specs.Limits.{used_of}
use Rattle.snesl.specs.Values.{ValueType, Val}
use Rattle.snesl.specs.Terms.{∅}
use Rattle.snesl.specs.Evaluation.{eval}
use Rattle.snesl.specs.Streams.{Store, ◌!◌, contents, room}
use Rattle.snesl.specs.Trees.{IdTree, map_tree}
use Rattle.snesl.specs.Machine.{State, Stop, unfitting, below_zero, out_of_range, full, Result, went, stopped, run, boundless, holding}
use Rattle.snesl.specs.Representation.{represent, laid, Holds, values}
use Rattle.snesl.specs.Agreement.{RanOnce, ComesToOnce}
use Rattle.snesl.specs.Text.{show}
use Rattle.snesl.specs.Checking.{input_types, turned}
use Rattle.snesl.specs.Inputs.{input_trees, input_start, input_over}
use Rattle.snesl.specs.Outcome.{Outcome, refusal, value, elements_of, text_of_first, answer_text, answered, finished, loaded, executed, outcome}
use Rattle.snesl.specs.Demands.{Accepted, environment, program, result_tree, Comes, Stops, valueless, crowded, filled, unshown}
use Rattle.snesl.proofs.Bounded.Room.{went-iff, stopped-iff}
use Rattle.snesl.proofs.Correctness.OneEnvironment.{correct-once, run-has-value, halt-has-no-value}
use Rattle.snesl.proofs.Representing.Representation.{holds-streams, values-represent}
use Rattle.snesl.proofs.Representing.Trees.{map_tree-map_tree}
use Rattle.snesl.proofs.Jobs.InputStreams.{length-inputs, inputs-agree}
use Rattle.snesl.proofs.Jobs.InputRoom.{none_over}
use Rattle.snesl.proofs.Jobs.Course.{outcome-executed}

-- the elements of a tree's streams are those of the streams that represent the values it holds
pub elements-held : {σ : Store} {τ : ValueType} {st : IdTree τ} {vs : List (Val τ)} → Holds σ τ st vs → map_tree (λ s. elements_of (σ ! s)) st ≡ laid (represent τ vs)
elements-held {σ} {τ} {st} {vs} h =
    sym (map_tree-map_tree elements_of (λ s. σ ! s) st) ∙ ap (map_tree elements_of) (holds-streams h) ∙ map_tree-map_tree elements_of some (represent τ vs)

-- so those values are read from them, and their text is the value's
values-held : {σ : Store} {τ : ValueType} {st : IdTree τ} {vs : List (Val τ)} → Holds σ τ st vs → values τ (map_tree (λ s. elements_of (σ ! s)) st) ≡ vs
values-held {τ = τ} {vs = vs} h = ap (values τ) (elements-held h) ∙ values-represent τ vs

answer-shown : {σ : Store} {τ : ValueType} {st : IdTree τ} {v : Val τ} → Holds σ τ st (v ∷ []) → answer_text τ st σ ≡ show τ v
answer-shown {τ = τ} h = ap (text_of_first τ) (values-held h)

-- the run of an accepted job's code, behind its inputs, goes well and comes to this value
abbrev pub Runs : {t : List ℕ} → (a : Accepted t) → Val a.type → State → Type 0
Runs a v m =
    RanOnce a.term (turned ∅ (input_trees 0 (input_types a.inputs))) (input_start (input_types a.inputs)) (environment a) (loaded a.given) v m

module _ {t : List ℕ} (a : Accepted t) (cap answer_lent : ℕ) where
  pub data Ending : Outcome → Type 0 where
    short : {r : Refusal} → Stops a cap answer_lent r → Ending (refusal r)
    shown : {v : Val a.type} {m : State} → eval a.term (environment a) ≡ some v → length (show a.type v) ≤ answer_lent
        → Comes a cap (went m)
        → Runs a v m
        → room m.store ≤ cap
        → Ending (value (show a.type v) m.work m.steps (room m.store) (contents m.store))

  -- a run that went through has the value's text, which fits or does not
  pub went-text : {v : Val a.type} {m : State} → Runs a v m → finished a.type answer_lent (result_tree a) (went m) ≡ answered answer_lent (show a.type v) m
  went-text {m = m} w = ap (λ text. answered answer_lent text m) (answer-shown w.results)

  went-ends : {v : Val a.type} {m : State} → eval a.term (environment a) ≡ some v
      → Comes a cap (went m)
      → Runs a v m
      → room m.store ≤ cap
      → Ending (finished a.type answer_lent (result_tree a) (went m))
  went-ends {v} {m} e c w h = rw (went-text w) (go (leb (length (show a.type v)) answer_lent) refl)
    where
      go : (b : Bool) → leb (length (show a.type v)) answer_lent ≡ b → Ending (answered answer_lent (show a.type v) m)
      go true q = rw (q, answered) (shown e (leb-true _ _ q) c w h)
      go false q = rw (q, answered) (short (unshown e c (leb-false _ _ q)))

  -- the boundless run is what the rules say
  comes-to : ComesToOnce a.term (turned ∅ (input_trees 0 (input_types a.inputs))) (input_start (input_types a.inputs)) (environment a) (loaded a.given)
      (eval a.term (environment a)) (run boundless (program a) 1 (loaded a.given))
  comes-to = correct-once a.term (turned ∅ (input_trees 0 (input_types a.inputs))) (input_start (input_types a.inputs)) (environment a) (loaded a.given)
      (length-inputs a.given) (inputs-agree a.given)

  -- so a bounded one that goes through has the value that they give
  pub went-right : {m : State} → Comes a cap (went m)
      → (v : Val a.type) × (eval a.term (environment a) ≡ some v) × Runs a v m × (room m.store ≤ cap)
  went-right {m} c =
      let b = (went-iff cap (program a) 1 (loaded a.given) ((none_over cap a.given).0 c.loads) m).0 c.runs in
      let v = run-has-value b.0 comes-to in
      (v.0, v.1, v.2, b.1)

  -- where the inputs fit, the run is a bounded one from a machine that fits
  module _ (fits : input_over cap 0 0 a.given ≡ none) where
    loaded-fits : room (loaded a.given).store ≤ cap
    loaded-fits = (none_over cap a.given).0 fits

    halt-ends : {why : Stop} {s : ℕ} → ((why ≡ full) → ⊥) → run (holding cap) (program a) 1 (loaded a.given) ≡ stopped why s
        → Stops a cap answer_lent (NoValue s)
    halt-ends {s = s} other e =
        let h = halt-has-no-value ((stopped-iff cap (program a) 1 (loaded a.given) loaded-fits s other).0 e).0 comes-to in
        valueless h.0 h.1 record { loads = fits; runs = e }

    run_ends : (r : Result) → run (holding cap) (program a) 1 (loaded a.given) ≡ r → Ending (finished a.type answer_lent (result_tree a) r)
    run_ends (stopped (unfitting k) s) e = short (halt-ends (λ q. let z : ◌≡◌ {A = ℕ} 0 1 = cc in omega arith) e)
    run_ends (stopped (below_zero k) s) e = short (halt-ends (λ q. let z : ◌≡◌ {A = ℕ} 0 1 = cc in omega arith) e)
    run_ends (stopped (out_of_range k) s) e = short (halt-ends (λ q. let z : ◌≡◌ {A = ℕ} 0 1 = cc in omega arith) e)
    run_ends (stopped full s) e = short (filled record { loads = fits; runs = e })
    run_ends (went m) e =
        let c : Comes a cap (went m) = record { loads = fits; runs = e } in
        let w = went-right c in
        went-ends w.1 c w.2 w.3

  execution-ends : Ending (executed cap answer_lent a.inputs a.term a.given (input_over cap 0 0 a.given))
  execution-ends = go (input_over cap 0 0 a.given) refl
    where
      go : (o : Option ℕ) → input_over cap 0 0 a.given ≡ o → Ending (executed cap answer_lent a.inputs a.term a.given o)
      go (some s) e = short (crowded e)
      go none e = run_ends e (run (holding cap) (program a) 1 (loaded a.given)) refl

pub ending : {t : List ℕ} (a : Accepted t) (lent answer_lent : ℕ) → Ending a (used_of lent) answer_lent (outcome t lent answer_lent)
ending a lent answer_lent = rw (outcome-executed a lent answer_lent) (execution-ends a (used_of lent) answer_lent)
