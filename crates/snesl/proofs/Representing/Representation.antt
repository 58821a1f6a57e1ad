-- Representation loses nothing (002, 1.4 and Lemma 1.10): values become streams that are accepted and give the same values back, and streams that are
-- accepted are the streams of exactly the values that they give back. Over the type, for values side by side.
use Prim.Native.Nat.{ℕ, suc}
use native.Mathlib.Omega.{arith}
use mathlib.Core.Bool.{Bool, true, false, ◌&&◌}
use mathlib.Core.List.{List, [], ◌∷◌, ◌++◌, map, map-append, append_assoc}
use mathlib.Core.Option.{Option, some, none, get_or}
use mathlib.Core.Path.{◌≡◌, refl, sym, ap, ◌∙◌}
use borrow.Author.Tests.{eq-eqb, eqb-true}
use lib.Dec.{eqb}
use lib.IntN.{ℤ}
use lib.ListN.{length, replicate}
use Rattle.laws.proofs.Options.{none-some}
use Rattle.laws.proofs.Tests.{both_true}
use Rattle.snesl.specs.declared.code.Base.{Base}
use Rattle.snesl.specs.Values.{ValueType, scalar, braces, depth_of, base_of, Val}
use Rattle.snesl.specs.Streams.{Stream, flags, units, bit, data_of, elements, Store, ◌!◌, ◌then◌}
use Rattle.snesl.specs.Trees.{Tree, IdTree, leaf, node, inner, outer, root, map_tree, zip_tree}
use Rattle.snesl.specs.Transducers.{flag_of, misfit, count_f, alone}
use Rattle.snesl.specs.Representation.{concat, segments, represent, laid, Holds, holds-leaf, holds-node, are_elements, misfit_tree, regroup, values}
use Rattle.snesl.proofs.Representing.Elements as Elements
use Rattle.snesl.proofs.Representing.Elements.{flag_of-bit, bit-flag_of}
use Rattle.snesl.proofs.Representing.Segments as Segments
use Rattle.snesl.proofs.Representing.Trees.{map_tree-map_tree, map_tree-id}

-- the clauses of `misfit_tree`, where something is known of the outermost stream
misfit_tree-leaf : (b : Base) (n : ℕ) (zs : List ℤ) → length zs ≡ n → are_elements b zs ≡ true → misfit_tree b n (leaf zs) ≡ none
unfolding misfit_tree
misfit_tree-leaf b n zs h e = rw (eq-eqb (length zs) n h, e, misfit_tree)

misfit_tree-node : {d : ℕ} (b : Base) (n : ℕ) (t : Tree (List ℤ) d) (fs : List ℤ) → misfit flag_of {B = ℤ} alone 0 n fs [] ≡ none
    → misfit_tree b n (node t fs) ≡ misfit_tree b (count_f flag_of fs) t
unfolding misfit_tree
misfit_tree-node b n t fs h = rw (h, misfit_tree)

-- values' streams are accepted as so many values
pub accepted : (τ : ValueType) (vs : List (Val τ)) → misfit_tree (base_of τ) (length vs) (laid (represent τ vs)) ≡ none
unfolding represent map_tree
accepted (scalar b) vs =
    misfit_tree-leaf b (length vs) (elements (data_of b vs)) (Elements.length-elements b vs) (Elements.elements-accepted b vs)
accepted (braces τ) vs =
    misfit_tree-node (base_of τ) (length vs) (laid (represent τ (concat vs))) (map bit (segments vs))
    (Segments.fits flag_of ℤ 0 (Segments.segmented-segments flag_of bit flag_of-bit vs))
    ∙ ap (λ n. misfit_tree (base_of τ) n (laid (represent τ (concat vs)))) (Segments.count-segments flag_of bit flag_of-bit vs)
    ∙ accepted τ (concat vs)

-- and give them back
pub values-represent : (τ : ValueType) (vs : List (Val τ)) → values τ (laid (represent τ vs)) ≡ vs
unfolding represent map_tree values
values-represent (scalar b) vs = Elements.scalars-elements b vs
values-represent (braces τ) vs =
    ap (regroup flag_of [] (map bit (segments vs))) (values-represent τ (concat vs))
    ∙ Segments.regroup-segments flag_of bit flag_of-bit vs

-- Lemma 1.10: streams determine the values
pub determined-laid : (τ : ValueType) (vs ws : List (Val τ)) → laid (represent τ vs) ≡ laid (represent τ ws) → vs ≡ ws
determined-laid τ vs ws h = sym (values-represent τ vs) ∙ ap (values τ) h ∙ values-represent τ ws

pub determined : (τ : ValueType) (vs ws : List (Val τ)) → represent τ vs ≡ represent τ ws → vs ≡ ws
determined τ vs ws h = determined-laid τ vs ws (ap laid h)

-- what acceptance says of the outermost stream
accepted-leaf : (b : Base) (n : ℕ) (zs : List ℤ) → misfit_tree b n (leaf zs) ≡ none → (length zs ≡ n) × (are_elements b zs ≡ true)
unfolding misfit_tree
accepted-leaf b n zs h = go (eqb (length zs) n && are_elements b zs) refl
  where
    go : (c : Bool) → (eqb (length zs) n && are_elements b zs) ≡ c → (length zs ≡ n) × (are_elements b zs ≡ true)
    go true e = let tests = both_true (eqb (length zs) n) (are_elements b zs) e in (eqb-true (length zs) n tests.0, tests.1)
    go false e = let w : ◌≡◌ {A = Option ℕ} (some 0) none = rw (e, misfit_tree) at h in none-some (sym w)

accepted-node : {d : ℕ} (b : Base) (n : ℕ) (t : Tree (List ℤ) d) (fs : List ℤ) → misfit_tree b n (node t fs) ≡ none
    → (misfit flag_of {B = ℤ} alone 0 n fs [] ≡ none) × (misfit_tree b (count_f flag_of fs) t ≡ none)
unfolding misfit_tree
accepted-node {d} b n t fs h = go (misfit flag_of {B = ℤ} alone 0 n fs []) refl
  where
    go : (o : Option ℕ) → misfit flag_of {B = ℤ} alone 0 n fs [] ≡ o → (misfit flag_of {B = ℤ} alone 0 n fs [] ≡ none) × (misfit_tree b (count_f flag_of fs) t ≡ none)
    go none e = (e, sym (misfit_tree-node b n t fs e) ∙ h)
    go (some k) e = let w : some (suc d) ≡ none = rw (e, misfit_tree) at h in none-some (sym w)

-- streams that are accepted as n values are the streams of n values, those that they give back
pub represented : (τ : ValueType) (n : ℕ) (t : Tree (List ℤ) (depth_of τ)) → misfit_tree (base_of τ) n t ≡ none
    → (length (values τ t) ≡ n) × (laid (represent τ (values τ t)) ≡ t)
unfolding values represent map_tree
represented (scalar b) n (leaf zs) h =
    let a = accepted-leaf b n zs h in (Elements.length-scalars b zs ∙ a.0, ap leaf (Elements.elements-scalars b zs a.1))
represented (braces τ) n (node t fs) h =
    let a = accepted-node (base_of τ) n t fs h in
    let deeper = represented τ (count_f flag_of fs) t a.1 in
    let s = Segments.segmented flag_of ℤ 0 n fs a.0 in
    let vs : List (Val τ) = values τ t in
    let c : concat (regroup flag_of [] fs vs) ≡ vs = Segments.concat-regroup flag_of s [] vs deeper.0 (λ z. refl) in (
      Segments.length-regroup flag_of s [] vs deeper.0,
      λ i. node ((ap (λ vs. laid (represent τ vs)) c ∙ deeper.1) i) (Segments.segments-regroup flag_of bit bit-flag_of s [] vs deeper.0 (λ z. refl) i),
    )

-- the one value whose streams these are
pub record OneValue (τ : ValueType) (t : Tree (List ℤ) (depth_of τ)) : Type 0 where
  pub value : Val τ
  pub given : values τ t ≡ value ∷ []
  pub streams : laid (represent τ (value ∷ [])) ≡ t
  pub only : (w : Val τ) → laid (represent τ (w ∷ [])) ≡ t → w ≡ value

pub one-represented : (τ : ValueType) (t : Tree (List ℤ) (depth_of τ)) → misfit_tree (base_of τ) 1 t ≡ none → OneValue τ t
one-represented τ t h = go (values τ t) refl (represented τ 1 t h)
  where
    go : (vs : List (Val τ)) → values τ t ≡ vs → (length (values τ t) ≡ 1) × (laid (represent τ (values τ t)) ≡ t) → OneValue τ t
    go [] e r = absurd (omega (arith, ap length e))
    go (v ∷ []) e r =
        let streams : laid (represent τ (v ∷ [])) ≡ t = ap (λ vs. laid (represent τ vs)) (sym e) ∙ r.1 in
        record {
          value = v;
          given = e;
          streams = streams;
          only = λ w same. let one : w ∷ [] ≡ v ∷ [] = determined-laid τ (w ∷ []) (v ∷ []) (same ∙ sym streams) in cc;
        }
    go (v ∷ w ∷ vs) e r = absurd (omega (arith, ap length e))

-- what a tree of ids holds is what the store has at its ids, and the other way round
pub holds-streams : {σ : Store} {τ : ValueType} {st : IdTree τ} {vs : List (Val τ)} → Holds σ τ st vs
    → map_tree (λ s. σ ! s) st ≡ map_tree some (represent τ vs)
unfolding represent map_tree
holds-streams (holds-leaf e) = ap leaf e
holds-streams (holds-node e h) = λ i. node (holds-streams h i) (e i)

pub streams-held : (σ : Store) (τ : ValueType) (st : IdTree τ) (vs : List (Val τ)) → map_tree (λ s. σ ! s) st ≡ map_tree some (represent τ vs)
    → Holds σ τ st vs
unfolding represent map_tree root outer inner
streams-held σ (scalar b) (leaf s) vs h = holds-leaf (ap root h)
streams-held σ (braces τ) (node st s) vs h = holds-node (ap outer h) (streams-held σ τ st (concat vs) (ap inner h))

-- one tree holds the streams of one list of values at most
pub held-once : {σ : Store} {τ : ValueType} {st : IdTree τ} {vs ws : List (Val τ)} → Holds σ τ st vs → Holds σ τ st ws → vs ≡ ws
held-once {σ} {τ} {st} {vs} {ws} h k = determined τ vs ws
    (sym (found (represent τ vs))
    ∙ ap (map_tree (λ o. get_or o (units 0))) (sym (holds-streams h) ∙ holds-streams k)
    ∙ found (represent τ ws))
  where
    found : (t : Tree Stream (depth_of τ)) → map_tree (λ o. get_or o (units 0)) (map_tree some t) ≡ t
    found t = map_tree-map_tree (λ o. get_or o (units 0)) some t ∙ map_tree-id t

-- 002, 1.4 (2): values put together have their streams put together, place by place
concat-append : {A : Type 0} (ls ms : List (List A)) → concat (ls ++ ms) ≡ concat ls ++ concat ms
unfolding concat
concat-append [] ms = refl
concat-append (l ∷ ls) ms = ap (λ r. l ++ r) (concat-append ls ms) ∙ sym (append_assoc l (concat ls) (concat ms))

segments-append : {A : Type 0} (ls ms : List (List A)) → segments (ls ++ ms) ≡ segments ls ++ segments ms
unfolding segments
segments-append [] ms = refl
segments-append (l ∷ ls) ms =
    ap (λ r. replicate (length l) false ++ true ∷ r) (segments-append ls ms)
    ∙ sym (append_assoc (replicate (length l) false) (true ∷ segments ls) (segments ms))

pub represent-append : (τ : ValueType) (vs ws : List (Val τ)) → represent τ (vs ++ ws) ≡ zip_tree ◌then◌ (represent τ vs) (represent τ ws)
unfolding represent zip_tree
represent-append (scalar b) vs ws = ap leaf (Elements.data-append b vs ws)
represent-append (braces τ) vs ws = λ i. node ((ap (represent τ) (concat-append vs ws) ∙ represent-append τ (concat vs) (concat ws)) i) (flags (segments-append vs ws i))

pub laid-append : (τ : ValueType) (vs ws : List (Val τ))
    → laid (represent τ (vs ++ ws)) ≡ zip_tree ◌++◌ (laid (represent τ vs)) (laid (represent τ ws))
unfolding represent zip_tree map_tree
laid-append (scalar b) vs ws = ap leaf (Elements.elements-append b vs ws)
laid-append (braces τ) vs ws = λ i. node
    ((ap (λ us. laid (represent τ us)) (concat-append vs ws) ∙ laid-append τ (concat vs) (concat ws)) i)
    ((ap (map bit) (segments-append vs ws) ∙ map-append bit (segments vs) (segments ws)) i)
