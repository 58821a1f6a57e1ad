-- Every outcome keeps the demands (specs/Demands.antt), where the call answers and leaves what the outcome says.
use Prim.Native.Nat.{ℕ, zero, suc, ◌+◌, ◌≤◌}
use native.Mathlib.Omega.{arith}
use mathlib.Core.List.{List, [], ◌∷◌, ◌++◌, append_assoc}
use mathlib.Core.Path.{◌≡◌, refl, sym, ap, ◌∙◌, subst}
use lib.IntN.{ℤ}
use lib.ListN.{length, take, drop, length-append}
use lib.Seq.{take-append_seam, drop-append-add}
use Rattle.snesl.specs.declared.refusal.Refusal.{Refusal}
use Rattle.snesl.specs.Limits.{used_of}
use Rattle.snesl.specs.Refusals.{number}
use Rattle.snesl.specs.Values.{ValueType, Val}
use Rattle.snesl.specs.Streams.{elements, Store, ◌!◌, contents, room}
use Rattle.snesl.specs.Trees.{IdTree, map_tree}
use Rattle.snesl.specs.Representation.{represent, laid, Holds}
use Rattle.snesl.specs.Text.{show}
use Rattle.snesl.specs.Outcome.{Outcome, elements_of, outcome, zeroed, streams_refused, streams_after, answer_after}
use Rattle.snesl.specs.Demands.{told_of, Accepted, environment, Stops, valueless, crowded, filled, unshown, standing, Demands, turned-away, stops, keeps}
use Rattle.snesl.proofs.Correctness.Costs.{charge-bounded}
use Rattle.snesl.proofs.Jobs.EarlyRefusals.{Early, early-long, early-record, early-limit, early-many, early-unbound, early-type, early-text, early-keeps}
use Rattle.snesl.proofs.Jobs.Course.{Course, refused-early, accepted, course}
use Rattle.snesl.proofs.Jobs.Ending.{elements-held, Ending, short, shown, ending}

early-number : {r : Refusal} → Early r → number r ≤ 7
early-number early-long = omega arith
early-number early-record = omega arith
early-number early-limit = omega arith
early-number early-many = omega arith
early-number early-unbound = omega arith
early-number early-type = omega arith
early-number early-text = omega arith

-- 8, 9 and 10 leave zeros
pub stops-clear : {t : List ℕ} {a : Accepted t} {cap answer_lent : ℕ} {r : Refusal} (old : List ℤ) → Stops a cap answer_lent r
    → zeroed old ≡ streams_refused old r
stops-clear old (valueless e rule c) = refl
stops-clear old (crowded e) = refl
stops-clear old (filled c) = refl
stops-clear old (unshown e c longer) = refl

-- each stream stands in a buffer that starts with a store's contents where its place is
stands_at : (σ : Store) (rest : List ℤ) (s : ℕ) → standing σ (contents σ ++ rest) s ≡ elements_of (σ ! s)
unfolding contents
stands_at [] rest s = refl
stands_at (a ∷ σ) rest zero = ap (take (length (elements a))) (append_assoc (elements a) (contents σ) rest) ∙ take-append_seam (elements a) (contents σ ++ rest)
stands_at (a ∷ σ) rest (suc s) =
    ap (take (length (elements_of (σ ! s))))
    (ap (λ n. drop n ((elements a ++ contents σ) ++ rest)) (length-append (elements a) (contents (take s σ)))
    ∙ ap (drop (length (elements a) + room (take s σ))) (append_assoc (elements a) (contents σ) rest)
    ∙ drop-append-add (elements a) (contents σ ++ rest) (room (take s σ)))
    ∙ stands_at σ rest s

stands-right : (σ : Store) (rest : List ℤ) {τ : ValueType} {st : IdTree τ} {vs : List (Val τ)} → Holds σ τ st vs
    → map_tree (standing σ (contents σ ++ rest)) st ≡ laid (represent τ vs)
stands-right σ rest {st = st} h = (λ i. map_tree (λ s. stands_at σ rest s i) st) ∙ elements-held h

module _ {t : List ℕ} (a : Accepted t) (streams : List ℤ) (answer : List ℕ) where
  ending-keeps : {o : Outcome} → Ending a (used_of (length streams)) (length answer) o
      → Demands t streams (streams_after streams o) answer (answer_after answer o) (told_of o)
  ending-keeps (short s) = stops a s (sym (stops-clear streams s)) refl
  ending-keeps (shown {v = v} {m = m} e fits c w roomy) =
      keeps {bytes = length (show a.type v)} {work = m.work} {steps = m.steps} {taken = room m.store} a record {
        machine = m;
        comes = c;
        right =
            record {
              result = v;
              evaluated = e;
              long = refl;
              fits = fits;
              shown = refl;
              represented = stands-right m.store (drop (room m.store) streams) w.results;
            };
        charged =
            record {
              charged = omega (arith, w.work);
              bounded = omega (arith, w.work, charge-bounded a.term (environment a));
              stepped = omega (arith, w.steps);
            };
        roomed = record { counted = refl; within = roomy; stands = refl };
      }

abbrev Kept-by : (t : List ℕ) (streams : List ℤ) (answer : List ℕ) → Outcome → Type 0
Kept-by t streams answer o = Demands t streams (streams_after streams o) answer (answer_after answer o) (told_of o)

pub demands : (t : List ℕ) (streams : List ℤ) (answer : List ℕ)
    → Demands t streams (streams_after streams (outcome t (length streams) (length answer))) answer (answer_after answer (outcome t (length streams) (length answer)))
    (told_of (outcome t (length streams) (length answer)))
demands t streams answer = go (course t (length streams) (length answer))
  where
    go : Course t (length streams) (length answer) → Kept-by t streams answer (outcome t (length streams) (length answer))
    go (refused-early away early e) =
        subst (Kept-by t streams answer) (sym e) (turned-away away (early-number early) (early-keeps streams early) refl)
    go (accepted a) = ending-keeps a streams answer (ending a (length streams) (length answer))
