-- The theorem: the code of a term, run under one unit for each of a list of environments, does what the rules say of each of them.
use Prim.Native.Nat.{ℕ, suc, ◌+◌}
use native.Mathlib.Omega.{arith}
use mathlib.Core.Path.{◌≡◌, refl, ap, ◌∙◌, subst}
use mathlib.Core.List.{List, [], ◌∷◌, ◌++◌, append_assoc, zip_with}
use mathlib.Core.Option.{Option, some, none}
use lib.ListN.{length, length-append}
use Rattle.snesl.specs.Values.{ValueType, Val}
use Rattle.snesl.specs.Terms.{Term, var, bind, const, iota, operation, negation, sum, each, guard, All, ◌▹◌}
use Rattle.snesl.specs.Trees.{IdTree}
use Rattle.snesl.specs.Machine.{State, Result, onward, run, boundless}
use Rattle.snesl.specs.Evaluation.{and_then, eval, all_of}
use Rattle.snesl.specs.Translation.{size, tree, code}
use Rattle.snesl.specs.Agreement.{Agrees, Ran, ComesTo, ran, halted}
use Rattle.snesl.proofs.Correctness.AllOf.{Each, each-cons, each_of}
use Rattle.snesl.proofs.Correctness.Environments.{bound, length-bound}
use Rattle.snesl.proofs.Correctness.Charged.{charges-bind}
use Rattle.snesl.proofs.Correctness.Reached.{steps-bind}
use Rattle.snesl.proofs.Correctness.RunParts.{run-sequence}
use Rattle.snesl.proofs.Correctness.Grown.{agrees-grown, agrees-bound}
use Rattle.snesl.proofs.Correctness.Leaves.{Correct, correct-var, correct-const, correct-operation, correct-negation, correct-sum}
use Rattle.snesl.proofs.Correctness.Iota.{correct-iota}
use Rattle.snesl.proofs.Correctness.Comprehension.{correct-each}
use Rattle.snesl.proofs.Correctness.Guard.{correct-guard}

nothing : {A B : Type 0} (o : Option A) → ◌≡◌ {A = Option B} (and_then o (λ a. none)) none
nothing none = refl
nothing (some a) = refl

-- where the first part of a let leaves off, the second starts, and the results are bound
module _ {Γ : List ValueType} {υ : ValueType} (e : Term Γ υ) {δ : All IdTree Γ} {s : ℕ} {ρs : List (All Val Γ)} {m m' : State} {vs : List (Val υ)} where
  pub let-start : length m.store ≡ s → Ran e δ s ρs m vs m' → length m'.store ≡ s + size e
  let-start first w = ap length w.store ∙ omega (arith, length-append m.store w.added, w.adds)

  pub let-agrees : Each (eval e) ρs vs → Agrees m.store δ ρs → Ran e δ s ρs m vs m' → Agrees m'.store (◌▹◌ {τ = υ} (tree e δ s) δ) (bound vs ρs)
  let-agrees h a w = agrees-bound e h w.results (rw w.store (agrees-grown w.added a))

-- a let: its second part runs with the first's results bound
module _ {Γ : List ValueType} {υ τ : ValueType} (e₁ : Term Γ υ) (e₂ : Term (υ ∷ Γ) τ) where
  all_of-bind : (ρs : List (All Val Γ)) → all_of (eval (bind e₁ e₂)) ρs ≡ and_then (all_of (eval e₁) ρs) (λ vs. all_of (eval e₂) (bound vs ρs))
  unfolding all_of eval zip_with
  all_of-bind [] = refl
  all_of-bind (ρ ∷ ρs) = rw (all_of-bind ρs) (go (eval e₁ ρ) (all_of (eval e₁) ρs))
    where
      go : (o : Option (Val υ)) (os : Option (List (Val υ)))
          → and_then (and_then o (λ v. eval e₂ (v ▹ ρ))) (λ w. and_then (and_then os (λ vs. all_of (eval e₂) (bound vs ρs))) (λ ws. some (w ∷ ws)))
          ≡ and_then (and_then o (λ v. and_then os (λ vs. some (v ∷ vs)))) (λ vs. all_of (eval e₂) (bound vs (ρ ∷ ρs)))
      go none os = refl
      go (some v) none = nothing (eval e₂ (v ▹ ρ))
      go (some v) (some vs) = refl

  module _ (δ : All IdTree Γ) (s : ℕ) (ρ : All Val Γ) (ρs : List (All Val Γ)) (m : State) where
    after : {vs : List (Val υ)} {m' : State} {o : Option (List (Val τ))} {r : Result}
        → Each (eval e₁) (ρ ∷ ρs) vs
        → Ran e₁ δ s (ρ ∷ ρs) m vs m'
        → ComesTo e₂ (tree e₁ δ s ▹ δ) (s + size e₁) (bound vs (ρ ∷ ρs)) m' o r
        → ComesTo (bind e₁ e₂) δ s (ρ ∷ ρs) m o r
    unfolding size tree
    after h w (ran {m' = end} z) =
        ran {m' = end} record {
          added = w.added ++ z.added;
          store = z.store ∙ ap (λ σ. σ ++ z.added) w.store ∙ append_assoc m.store w.added z.added;
          adds = omega (arith, length-append w.added z.added, w.adds, z.adds);
          results = z.results;
          work = omega (arith, w.work, z.work, charges-bind e₁ e₂ h);
          steps = omega (arith, w.steps, z.steps, steps-bind e₁ e₂ h);
        }
    after h w (halted {i = i} why low high) = halted {i = i} why (omega arith) (omega arith)

    second : Correct e₂
        → length m.store ≡ s
        → Agrees m.store δ (ρ ∷ ρs)
        → {vs : List (Val υ)} {m' : State}
        → Each (eval e₁) (ρ ∷ ρs) vs
        → Ran e₁ δ s (ρ ∷ ρs) m vs m'
        → ComesTo (bind e₁ e₂) δ s (ρ ∷ ρs) m (all_of (eval e₂) (bound vs (ρ ∷ ρs)))
        (run boundless (code e₂ (tree e₁ δ s ▹ δ) (s + size e₁)) (length (ρ ∷ ρs)) m')
    unfolding zip_with
    second correct first a {m' = m'} (each-cons {b = v} {r = vs} p h) w =
        let δ' : All IdTree (υ ∷ Γ) = tree e₁ δ s ▹ δ in
        let s' = s + size e₁ in
        let all = (v ▹ ρ) ∷ bound {υ = υ} vs ρs in
        after (each-cons p h) w
        (subst (λ n. ComesTo e₂ δ' s' all m' (all_of (eval e₂) all) (run boundless (code e₂ δ' s') n m')) (ap suc (length-bound e₁ h))
        (correct δ' (v ▹ ρ) (bound vs ρs) s' m' (let-start e₁ first w) (let-agrees e₁ (each-cons p h) a w)))

    sequence : Correct e₂
        → length m.store ≡ s
        → Agrees m.store δ (ρ ∷ ρs)
        → {o : Option (List (Val υ))} {r : Result}
        → all_of (eval e₁) (ρ ∷ ρs) ≡ o
        → ComesTo e₁ δ s (ρ ∷ ρs) m o r
        → ComesTo (bind e₁ e₂) δ s (ρ ∷ ρs) m (and_then o (λ vs. all_of (eval e₂) (bound vs (ρ ∷ ρs))))
        (onward r (run boundless (code e₂ (tree e₁ δ s ▹ δ) (s + size e₁)) (length (ρ ∷ ρs))))
    unfolding size
    sequence correct first a q (ran w) = second correct first a (each_of (eval e₁) (ρ ∷ ρs) q) w
    sequence correct first a q (halted {i = i} why low high) = halted {i = i} why low (omega arith)

  correct-bind : Correct e₁ → Correct e₂ → Correct (bind e₁ e₂)
  unfolding code
  correct-bind correct₁ correct₂ δ ρ ρs s m first a =
      rw (all_of-bind (ρ ∷ ρs), run-sequence boundless (code e₁ δ s) (code e₂ (tree e₁ δ s ▹ δ) (s + size e₁)) (length (ρ ∷ ρs)) m)
      (sequence δ s ρ ρs m correct₂ first a refl (correct₁ δ ρ ρs s m first a))

pub correct : {Γ : List ValueType} {τ : ValueType} (e : Term Γ τ) → Correct e
correct (var x) = correct-var x
correct (bind e₁ e₂) = correct-bind e₁ e₂ (correct e₁) (correct e₂)
correct (const b e) = correct-const b e
correct (iota x) = correct-iota x
correct (operation o x y) = correct-operation o x y
correct (negation x) = correct-negation x
correct (sum x) = correct-sum x
correct (each y us e) = correct-each y us e (correct e)
correct (guard g us e) = correct-guard g us e (correct e)
