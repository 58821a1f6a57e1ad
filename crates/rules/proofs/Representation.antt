-- The streams that the rules give a value are those of `represent`, and only values of its type have any.
use mathlib.Core.Bool.{Bool, true, false}
use mathlib.Core.List.{List, [], ◌∷◌, ◌++◌, append-nil}
use mathlib.Core.Logic.{◌↔◌}
use mathlib.Core.Path.{◌≡◌, refl, sym, ap, ◌∙◌, subst}
use lib.ListN.{length, replicate}
use Rattle.snesl.specs.declared.code.Base.TheVariants as base
use Rattle.snesl.specs.Values as types
use Rattle.snesl.specs.Values.{ValueType, scalar, depth_of, Val}
use Rattle.snesl.specs.Streams.{Stream, flags, ◌then◌}
use Rattle.snesl.specs.Trees.{Tree, node, zip_tree}
use Rattle.snesl.specs.Representation.{concat, segments, represent}
use Rattle.snesl.proofs.Representing.Representation.{represent-append, determined}
use Rattle.rules.specs.Values.{Value, Values, braces, item, plains, plain}
use Rattle.rules.specs.Representation.{no_streams, Ends, ends-none, ends_more, Represents, represents-int, represents-bool, represents-braces, RepresentsAll, represents-none, represents-more}
use Rattle.rules.proofs.Values.{plain-once}

no-values : (τ : ValueType) → no_streams τ ≡ represent τ []
unfolding no_streams represent concat segments
no-values (scalar b) = refl
no-values (types.braces τ) = ap (λ t. node t (flags [])) (no-values τ)

ends-plain : {A : Type 0} (f : A → Value) (l : List A) → Ends (plains f l) (replicate (length l) false ++ true ∷ [])
unfolding plains
ends-plain f [] = ends-none
ends-plain f (a ∷ l) = ends_more (ends-plain f l)

ends-once : {vs : Values} {bs cs : List Bool} → Ends vs bs → Ends vs cs → bs ≡ cs
ends-once ends-none ends-none = refl
ends-once (ends_more h) (ends_more k) = ap (λ l. false ∷ l) (ends-once h k)

-- one list's streams
represent-braces : (τ : ValueType) (us : List (Val τ)) → represent (types.braces τ) (us ∷ []) ≡ node (represent τ us) (flags (replicate (length us) false ++ true ∷ []))
unfolding represent concat segments
represent-braces τ us = ap (λ l. node (represent τ l) (flags (replicate (length us) false ++ true ∷ []))) (append-nil us)

-- ---- from the rules

module _ (τ : ValueType) (of_one : (v : Value) (w : Tree Stream (depth_of τ)) → Represents τ v w → (u : Val τ) × (v ≡ plain τ u) × (w ≡ represent τ (u ∷ []))) where
  of-all : {vs : Values} {w : Tree Stream (depth_of τ)} → RepresentsAll τ vs w → (us : List (Val τ)) × (vs ≡ plains (plain τ) us) × (w ≡ represent τ us)
  unfolding plains
  of-all (represents-none q) = ([], refl, q ∙ no-values τ)
  of-all (represents-more h hs q) =
      let (u, p, r) = of_one _ _ h in
      let (us, ps, rs) = of-all hs in
      (u ∷ us, λ i. item (p i) (ps i), q ∙ (λ i. zip_tree ◌then◌ (r i) (rs i)) ∙ sym (represent-append τ (u ∷ []) us))

of_one : (τ : ValueType) (v : Value) (w : Tree Stream (depth_of τ)) → Represents τ v w → (u : Val τ) × (v ≡ plain τ u) × (w ≡ represent τ (u ∷ []))
unfolding plain represent
of_one (scalar base.Int) _ _ (represents-int {n = n}) = (n, refl, refl)
of_one (scalar base.Bool) _ _ (represents-bool {c = c}) = (c, refl, refl)
of_one (types.braces τ) _ _ (represents-braces {bs = bs} h e) =
    let (us, p, q) = of-all τ (λ v w. of_one τ v w) h in
    let r = ends-once (subst (λ vs. Ends vs bs) p e) (ends-plain (plain τ) us) in
    (us, ap braces p, (λ i. node (q i) (flags (r i))) ∙ sym (represent-braces τ us))

-- ---- to the rules

module _ (τ : ValueType) (to_one : (u : Val τ) → Represents τ (plain τ u) (represent τ (u ∷ []))) where
  to-all : (us : List (Val τ)) → RepresentsAll τ (plains (plain τ) us) (represent τ us)
  unfolding plains
  to-all [] = represents-none (sym (no-values τ))
  to-all (u ∷ us) = represents-more (to_one u) (to-all us) (represent-append τ (u ∷ []) us)

to_one : (τ : ValueType) (u : Val τ) → Represents τ (plain τ u) (represent τ (u ∷ []))
unfolding plain represent
to_one (scalar base.Int) u = represents-int
to_one (scalar base.Bool) u = represents-bool
to_one (types.braces τ) us = subst (Represents (types.braces τ) (braces (plains (plain τ) us))) (sym (represent-braces τ us)) (represents-braces (to-all τ (to_one τ) us) (ends-plain (plain τ) us))

-- ---- the theorems

pub represents-exactly : (τ : ValueType) (v : Value) (w : Tree Stream (depth_of τ)) → Represents τ v w ↔ ((u : Val τ) × (v ≡ plain τ u) × (w ≡ represent τ (u ∷ [])))
represents-exactly τ v w = (of_one τ v w, λ (u, p, q). subst (λ v. Represents τ v w) (sym p) (subst (Represents τ (plain τ u)) (sym q) (to_one τ u)))

-- a value has one tree of streams
pub one-tree : (τ : ValueType) (v : Value) (w w' : Tree Stream (depth_of τ)) → Represents τ v w → Represents τ v w' → w ≡ w'
one-tree τ v w w' h k =
    let (u, p, q) = of_one τ v w h in
    let (u', p', q') = of_one τ v w' k in
    q ∙ ap (λ x. represent τ (x ∷ [])) (plain-once τ u u' (sym p ∙ p')) ∙ sym q'

-- 002, Lemma 1.10: a tree of streams is that of one value
pub one_value : (τ : ValueType) (v v' : Value) (w : Tree Stream (depth_of τ)) → Represents τ v w → Represents τ v' w → v ≡ v'
one_value τ v v' w h k =
    let (u, p, q) = of_one τ v w h in
    let (u', p', q') = of_one τ v' w k in
    let same : u ≡ u' = first (determined τ (u ∷ []) (u' ∷ []) (sym q ∙ q')) in
    p ∙ ap (plain τ) same ∙ sym p'
  where
    first : {A : Type 0} {a b : A} → ◌≡◌ {A = List A} (a ∷ []) (b ∷ []) → a ≡ b
    first e = cc
