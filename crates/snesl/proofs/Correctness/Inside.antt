-- The environment of a comprehension's body agrees with the items' environments, all lists' items side by side: x's tree is what y's flags
-- segment, and each listed variable's copy has its value once for each item. With no environments at all it is the skipped body's.
use Prim.Native.Nat.{ℕ, suc}
use native.Mathlib.Omega.{arith}
use native.Mathlib.Numerals.{add-one}
use mathlib.Core.Path.{◌≡◌, refl, ◌∙◌, subst}
use mathlib.Core.List.{List, [], ◌∷◌, ◌++◌, map}
use mathlib.Core.Option.{some}
use lib.ListN.{length, length-map, length-append}
use lib.Seq.{append_snoc}
use Rattle.laws.proofs.Lists.{get_elem?-append-seam}
use Rattle.snesl.specs.declared.code.Base.{Base}
use Rattle.snesl.specs.Values.{ValueType, scalar, braces, Element, Val}
use Rattle.snesl.specs.Terms.{◌∋◌, here, there, Scalars, any_type, listed_types, All, lookup, listed}
use Rattle.snesl.specs.Streams.{Stream, units, data_of, Store, ◌!◌}
use Rattle.snesl.specs.Trees.{IdTree}
use Rattle.snesl.specs.Translation.{numbered, within}
use Rattle.snesl.specs.Representation.{Holds, holds-leaf, concat}
use Rattle.snesl.specs.Agreement.{Agrees}
use Rattle.snesl.proofs.Correctness.Environments.{inside_all, items, item-inside, copy-inside}
use Rattle.snesl.proofs.Correctness.Grown.{holds-grown, held_inner, next-id}

length-each-copied : {R A B : Type 0} (f : R → List A) (g : R → B) (rs : List R)
    → length (concat (map (λ r. map (λ v. g r) (f r)) rs)) ≡ length (concat (map f rs))
unfolding concat
length-each-copied f g [] = refl
length-each-copied f g (r ∷ rs) =
    omega (
      arith,
      length-append (map (λ v. g r) (f r)) (concat (map (λ r. map (λ v. g r) (f r)) rs)),
      length-append (f r) (concat (map f rs)),
      length-map (f r) (λ v. g r),
      length-each-copied f g rs,
    )

module _ {Γ : List ValueType} {υ : ValueType} (y : Γ ∋ braces υ) (ρs : List (All Val Γ)) where
  -- u's value for each item of y
  abbrev pub copy : {b : Base} → Γ ∋ scalar b → List (Element b)
  copy u = concat (map (λ ρ. map (λ v. lookup u ρ) (lookup y ρ)) ρs)

  pub length-copy : {b : Base} (u : Γ ∋ scalar b) → length (copy u) ≡ items y ρs
  length-copy u = length-each-copied (lookup y) (lookup u) ρs

  abbrev pub copied : (b : Base) × (Γ ∋ scalar b) → Stream
  copied u = data_of u.0 (copy u.1)

  abbrev pub copies : Scalars Γ → Store
  copies us = map copied us

  numbered-hold : (us : Scalars Γ) (σ : Store) (s : ℕ)
      → length σ ≡ s
      → {τ : ValueType} (x : listed_types (any_type us) ∋ τ)
      → Holds (σ ++ copies us) τ (lookup x (numbered s us)) (concat (map (λ ρ. map (λ v. lookup x (listed (any_type us) ρ)) (lookup y ρ)) ρs))
  unfolding lookup numbered listed
  numbered-hold [] σ s h {τ = τ} x = elim x [ ]
  numbered-hold (u ∷ us) σ s h here =
      holds-leaf
      (subst (λ s. (σ ++ copied u ∷ copies us) ! s ≡ some (copied u)) h (get_elem?-append-seam σ (copied u) (copies us)))
  numbered-hold (u ∷ us) σ s h (there x) =
      rw (append_snoc σ (copied u) (copies us)) at (numbered-hold us (σ ++ copied u ∷ []) (suc s) (next-id σ (copied u) h ∙ add-one s) x)

  pub agrees-inside : (us : Scalars Γ) {δ : All IdTree Γ} {σ : Store} {s : ℕ}
      → length σ ≡ s
      → Agrees σ δ ρs
      → Agrees (σ ++ units (items y ρs) ∷ copies us) (within y us δ s) (inside_all y us ρs)
  unfolding lookup
  agrees-inside us {δ} {σ} {s} h a = record { holds = go }
    where
      grown : Store
      grown = σ ++ units (items y ρs) ∷ copies us

      go : {τ : ValueType} (x : (υ ∷ listed_types (any_type us)) ∋ τ) → Holds grown τ (lookup x (within y us δ s)) (map (lookup x) (inside_all y us ρs))
      go here = rw (item-inside y us ρs) (holds-grown (units (items y ρs) ∷ copies us) (held_inner (a.holds y)))
      go (there x) =
          rw (copy-inside y us x ρs)
          (rw (append_snoc σ (units (items y ρs)) (copies us)) at
          (numbered-hold us (σ ++ units (items y ρs) ∷ []) (suc s) (next-id σ (units (items y ρs)) h ∙ add-one s) x))
