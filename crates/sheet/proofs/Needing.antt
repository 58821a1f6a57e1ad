-- How many words the bindings of a job's inputs take, and that a stack of so many is enough where a shorter one is.
use Prim.Native.Nat.{ℕ, ◌+◌, ◌*◌, ◌≤◌}
use mathlib.Core.List.{List, [], ◌∷◌}
use mathlib.Core.Path.{◌≡◌, ◌∙◌}
use native.Mathlib.Omega.{arith}
use lib.ListN.{length, length-append}
use Rattle.snesl.specs.Values.{ValueType}
use Rattle.snesl.specs.Terms.{All, ∅, ◌▹◌}
use Rattle.snesl.specs.Records.{byte_at, Input, Span}
use Rattle.snesl.specs.Checking.{Name, turned_onto, input_type, input_types}
use Rattle.snesl.proofs.Types.{depth-of-type}
use Rattle.formula.specs.Declarations.{base_at}
use Rattle.environment.specs.Words.{PlaceTree, tree_words, spelled}
use Rattle.environment.proofs.Finding.{length-tree}
use Rattle.leaves.specs.Places.{Shallow, shallow-more}
use Rattle.inputs.specs.Loading.{binding_words}
use Rattle.inputs.proofs.Supplying.{Supplied, supplied-none, supplied-more}
use Rattle.sheet.specs.declared.admission.Task.{Task}
use Rattle.sheet.specs.Runs.{Admitted}

-- inputs that were read are not deeper than is allowed
pub inputs-shallow : {t : List ℕ} {left at k : ℕ} {is : List Input} {ss : List Span} {Γ : List ValueType} → Supplied t left at k is ss → Shallow Γ
    → Shallow (turned_onto Γ (input_types is))
inputs-shallow supplied-none s = s
inputs-shallow {t} (supplied-more {at = at} a deep b others) s =
    inputs-shallow others (shallow-more (omega (arith, deep, depth-of-type (base_at t at) (byte_at t (at + 3)))) s)

pub context-long : (Γ : List ValueType) (is : List Input) → length (turned_onto Γ (input_types is)) ≡ length Γ + length is
context-long Γ [] = omega arith
context-long Γ (i ∷ is) = context-long (input_type i ∷ Γ) is ∙ omega arith

-- a binding takes the most words at most
pub spelled-few : {Γ : List ValueType} (names : All Name Γ) (trees : All PlaceTree Γ) → Shallow Γ → length (spelled names trees) ≤ binding_words * length Γ
unfolding spelled
spelled-few ∅ ∅ s = omega arith
spelled-few (x ▹ names) (t ▹ trees) (shallow-more deep s) =
    omega (arith, length-append (tree_words t) (spelled names trees), length-tree t, deep, spelled-few names trees s)

-- a longer stack
abbrev pub widened : {t : List ℕ} {a : Task} {m n : ℕ} → m ≤ n → Admitted t a m → Admitted t a n
widened le g = record { accepted = g.accepted; formula = g.formula; base = g.base; room = omega (arith, le, g.room) }
