-- Flags tried by how many segments they are, and a row of streams tried level by level from the outermost on.
use Prim.Native.Nat.{ℕ, suc, ◌+◌, ◌-◌, ◌≤◌, ◌<◌, ◌^◌}
use mathlib.Core.Bool.{Bool, true, false, ◌&&◌}
use mathlib.Core.List.{List, [], ◌∷◌, ◌++◌, reverse, reverse-append}
use mathlib.Core.Option.{Option, some, none}
use mathlib.Core.Path.{◌≡◌, refl, sym, ap, ap₂, ◌∙◌}
use native.Mathlib.Numerals.{add-one}
use native.Mathlib.Omega.{arith}
use borrow.Author.Tests.{eq-eqb, ne_eqb}
use lib.IntN.{ℤ, pos}
use lib.ListN.{length, get_or, take, drop, drop_of_length-le}
use lib.Seq.{drop-cons, drop-drop, take-suc, take_all, take-take, length-take-le, get_or-take}
use lib.Signed.{mag}
use mir.Syntax.{w32}
use mir.Val.{of_z}
use Rattle.laws.proofs.Never.{never}
use Rattle.snesl.specs.declared.code.Base.{Base}
use Rattle.snesl.specs.declared.code.Base.TheVariants as base
use Rattle.snesl.specs.Machine.{sum_of}
use Rattle.snesl.specs.Trees.{Tree, leaf, node, grow}
use Rattle.snesl.specs.Transducers.{flag_of, misfit, count_f, alone}
use Rattle.snesl.specs.Representation.{is_flag, are_elements, misfit_tree, parts, tree_of}
use Rattle.flags.specs.Flags.{found}
use Rattle.flags.specs.Segments.{wholes}
use Rattle.flags.proofs.Stored.{zero_flag, one-flag, no_flag}
use Rattle.flags.proofs.Fronts.{fits_count, whole-fits, fits_whole}
use Rattle.rendering.specs.Fitting.{fit_for, fit_of, data_fits, bools_fit, fitting_for, fitting_of, InRow}
use Rattle.std.specs.Prelude as rust
use Rattle.std.specs.Prelude.{Some, None, Ok, Err}
use Rattle.levels.proofs.Counting.{sum-front, sum_less}

-- ---- flags told by how many segments they are

module _ (fs : List ℤ) {ends : rust.Option ℕ} (read : ends ≡ found (wholes flag_of 0 false fs)) where
  -- flags that fit are as many segments as they are to be
  misfits : (n : ℕ) → (ends ≡ Some n → ⊥) → None ≡ fit_of n fs
  misfits n other = go (misfit flag_of {B = ℤ} alone 0 n fs []) refl
    where
      go : (o : Option ℕ) → misfit flag_of {B = ℤ} alone 0 n fs [] ≡ o → None ≡ fit_for o (count_f flag_of fs)
      go none h =
          let z : 0 + n ≡ n = omega arith in
          absurd (other (read ∙ ap found (fits_whole flag_of n 0 fs h) ∙ ap Some z))
      go (some k) h = refl

  pub fit-ragged : ends ≡ None → (n : ℕ) → None ≡ fit_of n fs
  fit-ragged ragged n = misfits n (λ e. never (cc))

  module _ {m : ℕ} (whole : ends ≡ Some m) where
    pub fit-other : (n : ℕ) → (m ≡ n → ⊥) → None ≡ fit_of n fs
    fit-other n other = misfits n (λ e. other (cc))

    is_whole : wholes flag_of 0 false fs ≡ some m
    is_whole = go (wholes flag_of 0 false fs) read
      where
        go : (o : Option ℕ) → ends ≡ found o → o ≡ some m
        go none e = never (cc)
        go (some k) e = cc

    fits : misfit flag_of {B = ℤ} alone 0 m fs [] ≡ none
    fits =
        let e : m - 0 ≡ m = omega arith in
        ap (λ (k : ℕ). misfit flag_of {B = ℤ} alone 0 k fs []) (sym e) ∙ whole-fits flag_of alone 0 false fs m [] is_whole refl

    counts : count_f flag_of fs + m ≡ length fs
    counts = fits_count flag_of alone m 0 fs [] fits

    pub fit-fewer : m ≤ length fs
    fit-fewer = omega (arith, counts)

    pub fit-items : (n : ℕ) → m ≡ n → Some (length fs - m) ≡ fit_of n fs
    fit-items n right =
        let e : length fs - m ≡ count_f flag_of fs = omega (arith, counts) in
        ap Some e ∙ sym (ap (λ (o : Option ℕ). fit_for o (count_f flag_of fs)) fits) ∙ ap (λ (k : ℕ). fit_of k fs) right

-- ---- data tried element by element

-- the elements before i are bools
pub record Tried (zs : List ℤ) (i : ℕ) : Type 0 where
  pub whole : bools_fit zs ≡ bools_fit (drop i zs)

pub tried-start : (zs : List ℤ) → Tried zs 0
tried-start zs = record { whole = refl }

module _ {zs : List ℤ} {i : ℕ} (a : Tried zs i) where
  module _ (h : i < length zs) where
    tried-next : bools_fit zs ≡ (is_flag (flag_of (get_or zs i (pos 0))) && bools_fit (drop (i + 1) zs))
    unfolding are_elements
    tried-next =
        a.whole
        ∙ ap bools_fit (drop-cons zs i (pos 0) h)
        ∙ ap (λ (k : ℕ). is_flag (flag_of (get_or zs i (pos 0))) && bools_fit (drop k zs)) (sym (add-one i))

    tried-bool : (c : Bool) → flag_of (get_or zs i (pos 0)) ≡ some c → Tried zs (i + 1)
    tried-bool c e = record { whole = tried-next ∙ ap (λ (o : Option Bool). is_flag o && bools_fit (drop (i + 1) zs)) e }

    pub tried-zero : mag (get_or zs i (pos 0)) < 2 ^ 31 → of_z w32 (get_or zs i (pos 0)) ≡ 0 → Tried zs (i + 1)
    tried-zero k e = tried-bool false (zero_flag (get_or zs i (pos 0)) k e)

    pub tried-one : mag (get_or zs i (pos 0)) < 2 ^ 31 → of_z w32 (get_or zs i (pos 0)) ≡ 1 → Tried zs (i + 1)
    tried-one k e = tried-bool true (one-flag (get_or zs i (pos 0)) k e)

    pub tried-neither : (of_z w32 (get_or zs i (pos 0)) ≡ 0 → ⊥) → (of_z w32 (get_or zs i (pos 0)) ≡ 1 → ⊥) → false ≡ bools_fit zs
    tried-neither f g =
        sym (tried-next ∙ ap (λ (o : Option Bool). is_flag o && bools_fit (drop (i + 1) zs)) (no_flag (get_or zs i (pos 0)) f g))

  pub tried-end : length zs ≤ i → true ≡ bools_fit zs
  unfolding are_elements
  tried-end h = sym (a.whole ∙ ap bools_fit (drop_of_length-le zs h))

module _ (zs : List ℤ) (n : ℕ) where
  pub fit-lacks : (β : Base) → (length zs ≡ n → ⊥) → false ≡ data_fits β n zs
  fit-lacks β e = sym (ap (λ (b : Bool). b && are_elements β zs) (ne_eqb (length zs) n e))

  fit-elements : (β : Base) → length zs ≡ n → data_fits β n zs ≡ are_elements β zs
  fit-elements β e = ap (λ (b : Bool). b && are_elements β zs) (eq-eqb (length zs) n e)

  -- any number is an int
  all-ints : (zs : List ℤ) → are_elements base.Int zs ≡ true
  unfolding are_elements
  all-ints [] = refl
  all-ints (z ∷ zs) = all-ints zs

  pub fit-ints : {β : Base} → length zs ≡ n → β ≡ base.Int → true ≡ data_fits β n zs
  fit-ints {β} e p = sym (fit-elements β e ∙ ap (λ (x : Base). are_elements x zs) p ∙ all-ints zs)

  pub fit-bools : {β : Base} {b : Bool} → length zs ≡ n → β ≡ base.Bool → b ≡ bools_fit zs → b ≡ data_fits β n zs
  fit-bools {β} e p q = q ∙ ap (λ (x : Base). are_elements x zs) (sym p) ∙ sym (fit-elements β e)

-- ---- the levels of a row

parts_more : (ms : List ℕ) (n : ℕ) (zs : List ℤ) → parts (ms ++ n ∷ []) zs ≡ parts ms zs ++ take n (drop (sum_of ms) zs) ∷ []
unfolding parts sum_of
parts_more [] n zs = refl
parts_more (m ∷ ms) n zs =
    ap (λ (l : List (List ℤ)). take m zs ∷ l)
    (parts_more ms n (drop m zs) ∙ ap (λ (l : List ℤ). parts ms (drop m zs) ++ take n l ∷ []) (drop-drop (sum_of ms) m zs))

-- the last of d + 2
split-last : (ls : List ℕ) (d : ℕ) → length ls ≡ suc (suc d) → ls ≡ take (suc d) ls ++ get_or ls (suc d) 0 ∷ []
split-last ls d e = sym (take_all (suc (suc d)) ls (omega arith)) ∙ take-suc ls (suc d) 0 (omega arith)

-- the stream at a level
pub level : (ls : List ℕ) (zs : List ℤ) (i : ℕ) → List ℤ
level ls zs i = take (get_or ls i 0) (drop (sum_of (take i ls)) zs)

tree-more : (d : ℕ) (ls : List ℕ) (zs : List ℤ) → length ls ≡ suc (suc d)
    → tree_of (suc d) ls zs ≡ node (tree_of d (take (suc d) ls) zs) (level ls zs (suc d))
unfolding grow level
tree-more d ls zs e =
    ap (λ (l : List ℕ). grow [] (suc d) (reverse (parts l zs))) (split-last ls d e)
    ∙ ap (λ (l : List (List ℤ)). grow [] (suc d) (reverse l)) (parts_more (take (suc d) ls) (get_or ls (suc d) 0) zs)
    ∙ ap (grow [] (suc d)) (reverse-append (parts (take (suc d) ls) zs) (level ls zs (suc d) ∷ []))

level-front : (ls : List ℕ) (zs : List ℤ) (i n : ℕ) → i < n → level (take n ls) zs i ≡ level ls zs i
unfolding level
level-front ls zs i n h =
    ap₂ (λ (m : ℕ) (l : List ℕ). take m (drop (sum_of l) zs)) (get_or-take n ls i 0 h) (take-take i n ls (omega arith))

tree-level : (l : ℕ) (ls : List ℕ) (zs : List ℤ) → suc (suc l) ≤ length ls
    → tree_of (suc l) (take (suc (suc l)) ls) zs ≡ node (tree_of l (take (suc l) ls) zs) (level ls zs (suc l))
tree-level l ls zs h =
    tree-more l (take (suc (suc l)) ls) zs (length-take-le (suc (suc l)) ls h)
    ∙ ap₂ (λ (x : List ℕ) (y : List ℤ). node (tree_of l x zs) y)
    (take-take (suc l) (suc (suc l)) ls (omega arith))
    (level-front ls zs (suc l) (suc (suc l)) (omega arith))

module _ (β : Base) {d : ℕ} (n : ℕ) (t : Tree (List ℤ) d) (fs : List ℤ) where
  tree-fits : {items : ℕ} → Some items ≡ fit_of n fs → misfit_tree β n (node t fs) ≡ misfit_tree β items t
  unfolding misfit_tree
  tree-fits {items} e = go (misfit flag_of {B = ℤ} alone 0 n fs []) refl e
    where
      go : (o : Option ℕ) → misfit flag_of {B = ℤ} alone 0 n fs [] ≡ o → Some items ≡ fit_for o (count_f flag_of fs) → misfit_tree β n (node t fs) ≡ misfit_tree β items t
      go none h e' = let p : count_f flag_of fs ≡ items = cc in rw (h, misfit_tree) (ap (λ (m : ℕ). misfit_tree β m t) p)
      go (some k) h e' = let x : ◌≡◌ {A = ℕ} 0 1 = cc in absurd (omega arith)

  tree-misfits : None ≡ fit_of n fs → misfit_tree β n (node t fs) ≡ some (suc d)
  unfolding misfit_tree
  tree-misfits e = go (misfit flag_of {B = ℤ} alone 0 n fs []) refl e
    where
      go : (o : Option ℕ) → misfit flag_of {B = ℤ} alone 0 n fs [] ≡ o → None ≡ fit_for o (count_f flag_of fs) → misfit_tree β n (node t fs) ≡ some (suc d)
      go none h e' = let x : ◌≡◌ {A = ℕ} 0 1 = cc in absurd (omega arith)
      go (some k) h e' = rw (h, misfit_tree)

leaf-told : (β : Base) (n : ℕ) (zs : List ℤ) (fits : Bool) → fits ≡ data_fits β n zs
    → misfit_tree β n (leaf zs) ≡ elim fits [ true ↦ none | false ↦ some 0 ]
unfolding misfit_tree
leaf-told β n zs fits e =
    ap (λ (b : Bool). elim b as (λ (_ : Bool). Option ℕ) [ true ↦ none | false ↦ some 0 ]) (sym e)

tree-leaf : (ls : List ℕ) (zs : List ℤ) → 1 ≤ length ls → tree_of 0 (take 1 ls) zs ≡ leaf (level ls zs 0)
unfolding grow parts level sum_of
tree-leaf [] zs h = absurd (omega arith)
tree-leaf (m ∷ ls) zs h = refl

-- what is wrong with the levels up to lv, as n values
fittingless : (β : Base) (n lv : ℕ) → List ℕ → List ℤ → Option ℕ
fittingless β n lv ls zs = misfit_tree β n (tree_of lv (take (suc lv) ls) zs)

-- the levels above lv fit, and lv is to be n values
pub record Trial (β : Base) (d : ℕ) (ls : List ℕ) (zs : List ℤ) (n lv : ℕ) : Type 0 where
  pub whole : misfit_tree β 1 (tree_of d ls zs) ≡ misfit_tree β n (tree_of lv (take (suc lv) ls) zs)
  pub inside : lv ≤ d

pub trial-start : (β : Base) (d : ℕ) (ls : List ℕ) (zs : List ℤ) → length ls ≡ suc d → Trial β d ls zs 1 d
trial-start β d ls zs e =
    record { whole = ap (λ (l : List ℕ). misfit_tree β 1 (tree_of d l zs)) (sym (take_all (suc d) ls (omega arith))); inside = omega arith }

module _ {d : ℕ} {ls ps : List ℕ} (zs : List ℤ) (r : InRow d (length zs) ls ps) where
  within : (lv : ℕ) → lv ≤ d → sum_of (take lv ls) + get_or ls lv 0 ≤ length zs
  within lv h =
      omega (
        arith,
        sum-front lv ls (omega (arith, r.levels)),
        sum_less (lv + 1) (suc d) ls (omega arith),
        ap sum_of (take_all (suc d) ls (omega (arith, r.levels))),
        r.all-lent,
      )

  pub place_inside : (lv : ℕ) → lv ≤ d → (lv < length ps) × (lv < length ls) × (get_or ps lv 0 + get_or ls lv 0 ≤ length zs)
  place_inside lv h =
      (omega (arith, r.placed, r.levels), omega (arith, r.levels), omega (arith, r.starts lv (omega arith), within lv h))

  part-level : (lv : ℕ) → lv ≤ d → take (get_or ps lv 0 + get_or ls lv 0 - get_or ps lv 0) (drop (get_or ps lv 0) zs) ≡ level ls zs lv
  unfolding level
  part-level lv h =
      let e : get_or ps lv 0 + get_or ls lv 0 - get_or ps lv 0 ≡ get_or ls lv 0 = omega arith in
      ap₂ (λ (m s : ℕ). take m (drop s zs)) e (r.starts lv (omega arith))

  module _ {β : Base} {n lv : ℕ} (a : Trial β d ls zs n lv) where
    module _ (l : 0 < lv) where
      deeper : lv ≡ suc (lv - 1)
      deeper = omega arith

      opened : misfit_tree β 1 (tree_of d ls zs) ≡ misfit_tree β n (node (tree_of (lv - 1) (take (suc (lv - 1)) ls) zs) (level ls zs (suc (lv - 1))))
      unfolding fittingless
      opened =
          a.whole
          ∙ ap (λ (x : ℕ). fittingless β n x ls zs) deeper
          ∙ ap (misfit_tree β n) (tree-level (lv - 1) ls zs (omega (arith, r.levels, a.inside)))

      part_of : take (get_or ps lv 0 + get_or ls lv 0 - get_or ps lv 0) (drop (get_or ps lv 0) zs) ≡ level ls zs (suc (lv - 1))
      part_of = part-level lv a.inside ∙ ap (level ls zs) deeper

      pub trial_on : {items : ℕ} → Some items ≡ fit_of n (take (get_or ps lv 0 + get_or ls lv 0 - get_or ps lv 0) (drop (get_or ps lv 0) zs))
          → Trial β d ls zs items (lv - 1)
      trial_on e =
          record {
            whole =
                opened
                ∙ tree-fits β n (tree_of (lv - 1) (take (suc (lv - 1)) ls) zs) (level ls zs (suc (lv - 1))) (e ∙ ap (fit_of n) part_of);
            inside = omega (arith, a.inside);
          }

      pub trial-misfit : None ≡ fit_of n (take (get_or ps lv 0 + get_or ls lv 0 - get_or ps lv 0) (drop (get_or ps lv 0) zs))
          → Err lv ≡ fitting_of β d ls zs
      trial-misfit e =
          sym
          (ap fitting_for
          (opened
          ∙ tree-misfits β n (tree_of (lv - 1) (take (suc (lv - 1)) ls) zs) (level ls zs (suc (lv - 1))) (e ∙ ap (fit_of n) part_of)
          ∙ ap some (sym deeper)))

    -- the data
    module _ (l : lv ≤ 0) where
      at-data : misfit_tree β 1 (tree_of d ls zs) ≡ misfit_tree β n (leaf (level ls zs 0))
      unfolding fittingless
      at-data =
          let z : lv ≡ 0 = omega arith in
          a.whole ∙ ap (λ (x : ℕ). fittingless β n x ls zs) z ∙ ap (misfit_tree β n) (tree-leaf ls zs (omega (arith, r.levels)))

      data-told : (fits : Bool) → fits ≡ data_fits β n (take (get_or ls 0 0) zs) → fitting_of β d ls zs ≡ fitting_for (elim fits [ true ↦ none | false ↦ some 0 ])
      unfolding level sum_of
      data-told fits e = ap fitting_for (at-data ∙ leaf-told β n (take (get_or ls 0 0) zs) fits e)

      pub trial-fits : true ≡ data_fits β n (take (get_or ls 0 0) zs) → Ok tt ≡ fitting_of β d ls zs
      trial-fits e = sym (data-told true e)

      pub trial-data : false ≡ data_fits β n (take (get_or ls 0 0) zs) → Err 0 ≡ fitting_of β d ls zs
      trial-data e = sym (data-told false e)
