-- The store only grows, so what a tree holds it goes on to hold.
use Prim.Native.Nat.{ℕ, ◌+◌}
use native.Mathlib.Omega.{arith}
use mathlib.Core.Path.{◌≡◌, subst}
use mathlib.Core.List.{List, [], ◌∷◌, ◌++◌, map}
use mathlib.Core.Option.{some}
use lib.ListN.{length, length-append}
use Rattle.laws.proofs.Lists.{get_elem?-append-left, get_elem?-append-seam}
use Rattle.snesl.specs.declared.code.Base.{Base}
use Rattle.snesl.specs.Values.{ValueType, scalar, braces, Element, Val}
use Rattle.snesl.specs.Terms.{◌∋◌, Term, All, ◌▹◌, lookup, here, there}
use Rattle.snesl.specs.Streams.{Stream, flags, data_of, Store, ◌!◌}
use Rattle.snesl.specs.Trees.{IdTree, leaf, inner, outer, root}
use Rattle.snesl.specs.Evaluation.{eval}
use Rattle.snesl.specs.Representation.{concat, segments, Holds, holds-leaf, holds-node}
use Rattle.snesl.specs.Agreement.{Agrees}
use Rattle.snesl.proofs.Correctness.AllOf.{Each}
use Rattle.snesl.proofs.Correctness.Environments.{bound, newest-bound, older-bound}

module _ {σ : Store} where
  pub holds-grown : {τ : ValueType} {st : IdTree τ} {vs : List (Val τ)} (σ' : Store) → Holds σ τ st vs → Holds (σ ++ σ') τ st vs
  holds-grown σ' (holds-leaf {s = s} h) = holds-leaf (get_elem?-append-left σ σ' s h)
  holds-grown σ' (holds-node {s = s} h k) = holds-node (get_elem?-append-left σ σ' s h) (holds-grown σ' k)

  -- what is held, place by place
  pub held-data : {b : Base} {st : IdTree (scalar b)} {vs : List (Element b)} → Holds σ (scalar b) st vs → σ ! root st ≡ some (data_of b vs)
  unfolding root
  held-data (holds-leaf h) = h

  pub held-flags : {τ : ValueType} {st : IdTree (braces τ)} {vs : List (List (Val τ))} → Holds σ (braces τ) st vs → σ ! outer st ≡ some (flags (segments vs))
  unfolding outer
  held-flags (holds-node h k) = h

  pub held_inner : {τ : ValueType} {st : IdTree (braces τ)} {vs : List (List (Val τ))} → Holds σ (braces τ) st vs → Holds σ τ (inner st) (concat vs)
  unfolding inner
  held_inner (holds-node h k) = k

  pub agrees-grown : {Γ : List ValueType} {δ : All IdTree Γ} {ρs : List (All Val Γ)} (σ' : Store) → Agrees σ δ ρs → Agrees (σ ++ σ') δ ρs
  agrees-grown σ' a = record { holds = λ x. holds-grown σ' (a.holds x) }

-- the stream that was just defined
pub new-stream : (σ : Store) (a : Stream) {s : ℕ} → length σ ≡ s → (σ ++ a ∷ []) ! s ≡ some a
new-stream σ a h = subst (λ s. (σ ++ a ∷ []) ! s ≡ some a) h (get_elem?-append-seam σ a [])

pub next-id : (σ : Store) (a : Stream) {s : ℕ} → length σ ≡ s → length (σ ++ a ∷ []) ≡ s + 1
next-id σ a h = omega (arith, length-append σ (a ∷ []))

-- an older one
pub old-stream : (σ : Store) (a : Stream) (s : ℕ) {b : Stream} → σ ! s ≡ some b → (σ ++ a ∷ []) ! s ≡ some b
old-stream σ a s h = get_elem?-append-left σ (a ∷ []) s h

pub holds-new : (σ : Store) {s : ℕ} (b : Base) (vs : List (Element b)) → length σ ≡ s → Holds (σ ++ data_of b vs ∷ []) (scalar b) (leaf s) vs
holds-new σ b vs h = holds-leaf (new-stream σ (data_of b vs) h)

-- with a let's value for each environment
module _ {σ : Store} {Γ : List ValueType} {υ : ValueType} (e : Term Γ υ) {δ : All IdTree Γ} {ρs : List (All Val Γ)} {vs : List (Val υ)} {st : IdTree υ} where
  pub agrees-bound : Each (eval e) ρs vs → Holds σ υ st vs → Agrees σ δ ρs → Agrees σ (◌▹◌ {τ = υ} st δ) (bound vs ρs)
  unfolding lookup
  agrees-bound h k a = record { holds = go }
    where
      go : {τ : ValueType} (x : (υ ∷ Γ) ∋ τ) → Holds σ τ (lookup x (◌▹◌ {τ = υ} st δ)) (map (lookup x) (bound {υ = υ} vs ρs))
      go here = rw (newest-bound e h) k
      go (there x) = rw (older-bound e x h) (a.holds x)
