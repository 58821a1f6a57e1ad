-- From what the writers leave to streams to text: a value's streams in a row stand at the row's places, and the answers in the order of the document.
use Prim.Native.Nat.{ℕ, zero, suc, ◌+◌, ◌≤◌, ◌<◌, ◌^◌}
use mathlib.Core.Bool.{Bool, true, false}
use mathlib.Core.List.{List, [], ◌∷◌, ◌++◌, map, map-append, append-nil}
use mathlib.Core.Option.{Option, some, none}
use mathlib.Core.Path.{◌≡◌, refl, sym, ap, ap₂, ◌∙◌, subst}
use native.Mathlib.Omega.{arith}
use borrow.Author.Tests.{le-leb, lt-leb, le-ltb}
use lib.Dec.{leb}
use lib.IntN.{ℤ}
use lib.ListN.{length, get_or, take, drop, length-map, get_or-append}
use lib.Seq.{sets-eq, take_all, get_or-take, length-take-le}
use Rattle.snesl.specs.declared.code.Base.{Base}
use Rattle.snesl.specs.Values.{depth_of, base_of, type_of, Val}
use Rattle.snesl.specs.Streams.{Store, elements, len, bit, flags, contents}
use Rattle.snesl.specs.Trees.{order}
use Rattle.snesl.specs.Machine.{sum_of}
use Rattle.snesl.specs.Representation.{concat, segments, represent, streams_of, misfit_tree, values, tree_of}
use Rattle.snesl.specs.Text.{show}
use Rattle.snesl.specs.Limits.{most_depth}
use Rattle.snesl.specs.declared.refusal.Refusal.TheVariants.{OverLimit, NoAnswerRoom, NoRepresentation}
use Rattle.snesl.proofs.Representing.StreamRows.{streams-again, value-streams}
use Rattle.snesl.proofs.Representing.Elements.{length-elements}
use Rattle.snesl.proofs.Types.{depth-of-type, base-of-type}
use Rattle.decimals.specs.Numbers.{pick}
use Rattle.valuetext.specs.Laying.{cells}
use Rattle.rendering.specs.Standing.{StandsAt, Stands}
use Rattle.rendering.specs.Showing.{Showable, Shown}
use Rattle.rendering.specs.Fitting.{fitting_for, fitting_of, InRow}
use Rattle.rendering.specs.Rendering.{ValueStands, ShowsValue, refused_as, text_in, fitting_text, row_text, Row, right_lengths, to_text}
use Rattle.std.specs.Prelude.{Ok, Err}
use Rattle.valuetext.proofs.Represented.{length-data, streams, streams-more, contents-more, Placed, placed}
use Rattle.rendering.proofs.Standing.{stands-front, stands-behind}
use Rattle.rendering.proofs.TextLength.{size_small}

-- ---- a value anywhere in a buffer

-- cursors that start alike
stands_alike : (β : Base) (d : ℕ) (b : List ℤ) (cs es : List ℕ) (vs : List (Val (type_of β d))) → ((i : ℕ) → i ≤ d → get_or cs i 0 ≡ get_or es i 0) → Stands β d b cs vs → Stands β d b es vs
unfolding Stands
stands_alike β zero b cs es vs h s = subst (λ (c : ℕ). StandsAt b c (cells β vs)) (h 0 (omega arith)) s
stands_alike β (suc d) b cs es vs h s = (
  stands_alike β d b cs es (concat vs) (λ i k. h i (omega arith)) s.0,
  subst (λ (c : ℕ). StandsAt b c (map bit (segments vs))) (h (suc d) (omega arith)) s.1,
)

copied : (d : ℕ) (from rest : List ℕ) → d < length from → (i : ℕ) → i ≤ d → get_or from i 0 ≡ get_or (take (d + 1) from ++ rest) i 0
copied d from rest h i k =
    sym
    (get_or-append (take (d + 1) from) rest 0 i (omega (arith, length-take-le (d + 1) from (omega arith)))
    ∙ get_or-take (d + 1) from i 0 (omega arith))

module _ {β : Base} {d : ℕ} {b : List ℤ} {places : List ℕ} (a : ValueStands β d b places) {cs : List ℕ} (rest : List ℕ) (e : cs ≡ take (d + 1) places ++ rest) where
  stands-copied : (v : Val (type_of β d)) → Stands β d b places (v ∷ []) → Stands β d b cs (v ∷ [])
  stands-copied v s =
      subst (λ (l : List ℕ). Stands β d b l (v ∷ [])) (sym e)
      (stands_alike β d b places (take (d + 1) places ++ rest) (v ∷ []) (copied d places rest a.levels) s)

  pub value-showable : length cs ≡ 9 → Showable β d b cs 0
  value-showable l =
      record {
        value = a.value;
        rest = [];
        stands = stands-copied a.value a.stands;
        levels = omega (arith, a.shallow);
        short = omega (arith, size_small β d b places (a.value ∷ []) a.stands a.shallow a.lent);
      }

  pub value-shown : {cs' old new : List ℕ} {next : ℕ} → Shown β d b cs cs' old new 0 next → ShowsValue β d b places old new next
  value-shown s = record { written = λ v t. s.written v [] (stands-copied v t) }

-- ---- streams in a row

contents-concat : (σ : Store) → concat (map elements σ) ≡ contents σ
unfolding concat contents
contents-concat [] = refl
contents-concat (a ∷ σ) = ap (λ (l : List ℤ). elements a ++ l) (contents-concat σ)

lens_same : (β : Base) (d : ℕ) (vs : List (Val (type_of β d))) → map length (map elements (streams β d vs)) ≡ map len (streams β d vs)
unfolding represent order
lens_same β zero vs = ap (λ (n : ℕ). n ∷ []) (length-elements β vs ∙ sym (length-data β vs))
lens_same β (suc d) vs =
    ap (λ (l : Store). map length (map elements l)) (streams-more β d vs)
    ∙ ap (map length) (map-append elements (streams β d (concat vs)) (flags (segments vs) ∷ []))
    ∙ map-append length (map elements (streams β d (concat vs))) (map bit (segments vs) ∷ [])
    ∙ ap₂ (λ (l : List ℕ) (n : ℕ). l ++ n ∷ []) (lens_same β d (concat vs)) (length-map (segments vs) bit)
    ∙ sym (map-append len (streams β d (concat vs)) (flags (segments vs) ∷ []))
    ∙ ap (map len) (sym (streams-more β d vs))

-- a value's streams in a row, as the store of its text has them
pub row-contents : (β : Base) (d : ℕ) (v : Val (type_of β d)) → contents (streams β d (v ∷ [])) ≡ concat (streams_of (type_of β d) v)
row-contents β d v = sym (contents-concat (streams β d (v ∷ []))) ∙ ap concat (sym (value-streams (type_of β d) v))

pub row-lengths : (β : Base) (d : ℕ) (v : Val (type_of β d)) → map len (streams β d (v ∷ [])) ≡ map length (streams_of (type_of β d) v)
row-lengths β d v = sym (lens_same β d (v ∷ [])) ∙ ap (map length) (sym (value-streams (type_of β d) v))

stands-row : (β : Base) (d a : ℕ) (b : List ℤ) (cs : List ℕ) (vs : List (Val (type_of β d))) → Placed β d a cs vs → StandsAt b a (contents (streams β d vs)) → Stands β d b cs vs
unfolding Placed Stands represent order contents
stands-row β zero a b cs vs p s =
    subst (λ (c : ℕ). StandsAt b c (cells β vs)) (sym p) (subst (StandsAt b a) (append-nil (cells β vs)) s)
stands-row β (suc d) a b cs vs p s =
    let t : StandsAt b a (contents (streams β d (concat vs)) ++ map bit (segments vs)) = subst (StandsAt b a) (contents-more β d vs) s in (
      stands-row β d a b cs (concat vs) p.0 (stands-front b a (contents (streams β d (concat vs))) (map bit (segments vs)) t),
      subst (λ (c : ℕ). StandsAt b c (map bit (segments vs))) (sym p.1) (stands-behind b a (contents (streams β d (concat vs))) (map bit (segments vs)) t),
    )

-- the value of a row that fits, and its streams at the row's places
pub record RowValue (β : Base) (d : ℕ) (zs : List ℤ) (ls places : List ℕ) : Type 0 where
  pub value : Val (type_of β d)
  pub given : values (type_of β d) (tree_of (depth_of (type_of β d)) ls zs) ≡ value ∷ []
  pub stands : Stands β d zs places (value ∷ [])

pub row-value : (β : Base) (d : ℕ) (zs : List ℤ) (ls places : List ℕ) → length ls ≡ suc d → sum_of ls ≡ length zs → misfit_tree (base_of (type_of β d)) 1 (tree_of (depth_of (type_of β d)) ls zs) ≡ none
    → ((i : ℕ) → i < d + 1 → get_or places i 0 ≡ 0 + sum_of (take i ls)) → RowValue β d zs ls places
row-value β d zs ls places k t m p =
    let w : (v : Val (type_of β d)) × (values (type_of β d) (tree_of (depth_of (type_of β d)) ls zs) ≡ v ∷ []) × (concat (streams_of (type_of β d) v) ≡ zs) × (map length (streams_of (type_of β d) v) ≡ ls) =
    streams-again (type_of β d) ls zs (k ∙ ap suc (sym (depth-of-type β d))) t m in
    let v : Val (type_of β d) = w.0 in
    let c : contents (streams β d (v ∷ [])) ≡ zs = row-contents β d v ∙ w.2 in
    let n : map len (streams β d (v ∷ [])) ≡ ls = row-lengths β d v ∙ w.3 in
    let q : Placed β d 0 places (v ∷ []) =
    placed β d 0 places (v ∷ []) (λ i h. p i (omega arith) ∙ ap (λ (l : List ℕ). 0 + sum_of (take i l)) (sym n)) in
    record {
      value = v;
      given = w.1;
      stands =
          stands-row β d 0 zs places (v ∷ []) q
          (subst (λ (l : List ℤ). take (length l) zs ≡ l) (sym c) (take_all (length zs) zs (omega arith)));
    }

-- ---- a row

-- streams of a base and a depth are tried as those of the type
same-misfit : (β : Base) (d : ℕ) (ls : List ℕ) (zs : List ℤ)
    → misfit_tree β 1 (tree_of d ls zs) ≡ misfit_tree (base_of (type_of β d)) 1 (tree_of (depth_of (type_of β d)) ls zs)
same-misfit β d ls zs =
    ap₂ (λ (x : Base) (n : ℕ). misfit_tree x 1 (tree_of n ls zs)) (sym (base-of-type β d)) (sym (depth-of-type β d))

module _ {d : ℕ} {ls : List ℕ} {lent : ℕ} (r : Row d ls lent) where
  pub row-starts : ((d + 1 ≤ length ls) × (d + 1 ≤ 9)) × (0 + sum_of (take (d + 1) ls) < 2 ^ 64)
  row-starts = (
    (omega (arith, r.levels), omega (arith, r.shallow)),
    omega (arith, ap sum_of (take_all (d + 1) ls (omega (arith, r.levels))), r.all-lent, r.few),
  )

  pub row-places : (places : List ℕ) → length places ≡ 9 → ((i : ℕ) → i < length ls → get_or places i 0 ≡ 0 + sum_of (take i ls)) → InRow d lent ls places
  row-places places l p =
      record {
        levels = r.levels;
        all-lent = r.all-lent;
        placed = omega (arith, r.levels, r.shallow);
        starts = λ i h. p i (omega (arith, r.levels)) ∙ (omega arith);
      }

module _ (zs : List ℤ) (β : Base) {d : ℕ} {ls : List ℕ} (old : List ℕ) (r : Row d ls (length zs)) where
  module _ (f : Ok tt ≡ fitting_of β d ls zs) where
    no-misfit : misfit_tree (base_of (type_of β d)) 1 (tree_of (depth_of (type_of β d)) ls zs) ≡ none
    no-misfit = go (misfit_tree (base_of (type_of β d)) 1 (tree_of (depth_of (type_of β d)) ls zs)) refl (f ∙ ap fitting_for (same-misfit β d ls zs))
      where
        go : (o : Option ℕ) → misfit_tree (base_of (type_of β d)) 1 (tree_of (depth_of (type_of β d)) ls zs) ≡ o → Ok tt ≡ fitting_for o → misfit_tree (base_of (type_of β d)) 1 (tree_of (depth_of (type_of β d)) ls zs) ≡ none
        go none h e = h
        go (some j) h e = let z : ◌≡◌ {A = ℕ} 0 1 = cc in absurd (omega arith)

    module _ (places : List ℕ) (l : length places ≡ 9) (p : (i : ℕ) → i < length ls → get_or places i 0 ≡ 0 + sum_of (take i ls)) where
      the : RowValue β d zs ls places
      the = row-value β d zs ls places r.levels r.all-lent no-misfit (λ i h. p i (omega (arith, r.levels)))

      pub row-stands : ValueStands β d zs places
      row-stands =
          record {
            value = the.value;
            stands = the.stands;
            shallow = r.shallow;
            levels = omega (arith, r.shallow);
            lent = omega (arith, r.few);
          }

      text-is : row_text zs ls (type_of β d) old ≡ text_in (show (type_of β d) the.value) old
      text-is =
          ap₂ (λ (o : Option ℕ) (vs : List (Val (type_of β d))). fitting_text (type_of β d) o vs old) no-misfit the.given

      measured : {b₁ : List ℕ} {n : ℕ} → ShowsValue β d zs places [] b₁ n → n ≡ length (show (type_of β d) the.value)
      measured s = (s.written the.value the.stands).count ∙ (omega arith)

      pub row-long : {b₁ : List ℕ} {n : ℕ} → ShowsValue β d zs places [] b₁ n → length old < n
          → (Err (NoAnswerRoom n) ≡ (row_text zs ls (type_of β d) old).answer) × (old ≡ (row_text zs ls (type_of β d) old).bytes)
      row-long {b₁} {n} s h =
          let m : n ≡ length (show (type_of β d) the.value) = measured s in
          let t : leb (length (show (type_of β d) the.value)) (length old) ≡ false = lt-leb (length (show (type_of β d) the.value)) (length old) (omega arith) in
          rw (text-is, t) (ap (λ (k : ℕ). Err (NoAnswerRoom k)) m, refl)

      pub row_written : {b₁ new : List ℕ} {n k : ℕ} → ShowsValue β d zs places [] b₁ n → n ≤ length old → ShowsValue β d zs places old new k
          → (Ok n ≡ (row_text zs ls (type_of β d) old).answer) × (new ≡ (row_text zs ls (type_of β d) old).bytes)
      row_written {b₁} {new} {n} {k} s h u =
          let m : n ≡ length (show (type_of β d) the.value) = measured s in
          let t : leb (length (show (type_of β d) the.value)) (length old) ≡ true = le-leb (length (show (type_of β d) the.value)) (length old) (omega arith) in
          let z : 0 + length (show (type_of β d) the.value) ≡ length (show (type_of β d) the.value) = omega arith in
          rw (text-is, t) (
            ap Ok m,
            (u.written the.value the.stands).content
                ∙ sets-eq (show (type_of β d) the.value) old 0 (omega arith)
                ∙ ap (λ (j : ℕ). show (type_of β d) the.value ++ drop j old) z,
          )

  pub row-misfit : {j : ℕ} → Err j ≡ fitting_of β d ls zs
      → (Err (NoRepresentation j) ≡ (row_text zs ls (type_of β d) old).answer) × (old ≡ (row_text zs ls (type_of β d) old).bytes)
  row-misfit {j} f = go (misfit_tree (base_of (type_of β d)) 1 (tree_of (depth_of (type_of β d)) ls zs)) (f ∙ ap fitting_for (same-misfit β d ls zs))
    where
      go : (o : Option ℕ) → Err j ≡ fitting_for o
          → (Err (NoRepresentation j) ≡ (fitting_text (type_of β d) o (values (type_of β d) (tree_of (depth_of (type_of β d)) ls zs)) old).answer) × (old ≡ (fitting_text (type_of β d) o (values (type_of β d) (tree_of (depth_of (type_of β d)) ls zs)) old).bytes)
      go none e = let z : ◌≡◌ {A = ℕ} 0 1 = cc in absurd (omega arith)
      go (some i) e = let q : j ≡ i = cc in (ap (λ (k : ℕ). Err (NoRepresentation k)) q, refl)

-- ---- the whole

-- of no type that is too deep, and as the lengths are
pub text-by : (zs : List ℤ) (ls : List ℕ) (β : Base) (d : ℕ) (old : List ℕ) → d ≤ most_depth → (b : Bool) → right_lengths ls d (length zs) ≡ b
    → to_text zs ls β d old ≡ pick b (row_text zs ls (type_of β d) old) (refused_as (NoRepresentation (suc d)) old)
text-by zs ls β d old h b e =
    ap₂ (λ (x y : Bool). pick x (refused_as (OverLimit 0) old) (pick y (row_text zs ls (type_of β d) old) (refused_as (NoRepresentation (suc d)) old)))
    (le-ltb most_depth d h) e
