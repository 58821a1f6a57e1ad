-- The two conversions undo each other: a text that was turned into streams and back is the same bytes, and streams that were turned into text and back are the
-- same streams with the same lengths. `to_streams` and `to_text` are all that the contracts of `text_to_streams` and `streams_to_text` say, so this holds of the
-- two functions one after the other.
use Rattle.std.specs.Prelude.{Ok, Err}
use Prim.Native.Nat.{ℕ, zero, suc, ◌≤◌}
use mathlib.Core.Bool.{Bool, true, false, ◌&&◌}
use mathlib.Core.List.{List, [], ◌∷◌, ◌++◌, map}
use mathlib.Core.Option.{Option, some, none}
use mathlib.Core.Path.{◌≡◌, refl, sym, ap, ap₂, ◌∙◌, subst}
use native.Mathlib.Omega.{arith}
use borrow.Author.Tests.{le-leb, leb-true, le-ltb, ltb-false, eq-eqb, eqb-true}
use lib.Dec.{eqb, leb, ltb}
use lib.IntN.{ℤ}
use lib.ListN.{length, take, drop, length-map}
use lib.Seq.{take_at}
use Rattle.laws.proofs.Tests.{both_true}
use Rattle.snesl.specs.declared.code.Base.{Base}
use Rattle.snesl.specs.declared.code.Base.TheVariants as base
use Rattle.snesl.specs.Values.{scalar, depth_of, base_of, type_of, Element, Val, in_range, Each, each_none, each_more, InRange}
use Rattle.snesl.specs.Streams.{Store, len, bit, contents, room}
use Rattle.snesl.specs.Trees.{order}
use Rattle.snesl.specs.Machine.{sum_of}
use Rattle.snesl.specs.Representation.{concat, segments, represent, laid, streams_of, misfit_tree, values, tree_of}
use Rattle.snesl.specs.Text.{show, value_of}
use Rattle.snesl.specs.Limits.{most_depth, most_elements, used_of}
use Rattle.snesl.specs.declared.refusal.Refusal.{Refusal}
use Rattle.snesl.specs.declared.refusal.Refusal.TheVariants.{OverLimit, NoRoom, NoAnswerRoom, NoRepresentation}
use Rattle.snesl.proofs.Types.{depth-of-type}
use Rattle.snesl.proofs.Representing.StreamRows.{lengths-of-row, total-of-row, value-accepted, value-again, streams-again}
use Rattle.snesl.proofs.Texts.TextRoundTrip.{shown-of-value, value-of-shown}
use Rattle.decimals.specs.Numbers.{pick}
use Rattle.valuetext.specs.Laying.{cells}
use Rattle.valuetext.specs.Storing.{value_store, Conversion, refused, accepted, store_if, to_streams}
use Rattle.valuetext.proofs.Represented.{streams, contents-more, lens-length}
use Rattle.rendering.specs.Rendering.{Rendering, refused_as, text_in, fitting_text, row_text, right_lengths, to_text}
use Rattle.rendering.proofs.RenderingSteps.{row-contents, row-lengths, text-by}

-- ---- what is known where text to streams accepts

record Accepted (t : List ℕ) (β : Base) (d : ℕ) (es : List ℤ) (ls : List ℕ) (n : ℕ) : Type 0 where
  pub value : Val (type_of β d)
  pub reads : value_of (type_of β d) t ≡ some value
  pub shallow : d ≤ most_depth
  pub size : room (value_store (type_of β d) value) ≡ n
  pub few : n ≤ most_elements
  pub whole : to_streams t β d es ls ≡ accepted (value_store (type_of β d) value) es ls

no-refusal : {why : Refusal} {n : ℕ} {X : Type 0} → Err why ≡ Ok n → X
no-refusal e = let z : ◌≡◌ {A = ℕ} 0 1 = cc in absurd (omega arith)

module _ (t : List ℕ) (β : Base) (d : ℕ) (es : List ℤ) (ls : List ℕ) where
  abbrev roomy : Val (type_of β d) → Bool
  roomy v = leb (room (value_store (type_of β d) v)) (used_of (length es)) && leb (suc d) (length ls)

  stored-by : (b : Bool) → ltb most_depth d ≡ b → (o : Option (Val (type_of β d))) → value_of (type_of β d) t ≡ o
      → to_streams t β d es ls ≡ pick b (refused (OverLimit 0) es ls) (store_if β d o es ls)
  stored-by b s o r = ap₂ (λ (x : Bool) (y : Option (Val (type_of β d))). pick x (refused (OverLimit 0) es ls) (store_if β d y es ls)) s r

  stored-value : (v : Val (type_of β d)) → d ≤ most_depth → value_of (type_of β d) t ≡ some v → (b : Bool) → roomy v ≡ b
      → to_streams t β d es ls ≡ pick b (accepted (value_store (type_of β d) v) es ls) (refused (NoRoom 0) es ls)
  stored-value v s r b q =
      stored-by false (le-ltb most_depth d s) (some v) r
      ∙ ap (λ (x : Bool). pick x (accepted (value_store (type_of β d) v) es ls) (refused (NoRoom 0) es ls)) q

  accepted-text : (n : ℕ) → (to_streams t β d es ls).answer ≡ Ok n → Accepted t β d es ls n
  accepted-text n h = go (ltb most_depth d) refl (value_of (type_of β d) t) refl
    where
      deep : d ≤ most_depth → (v : Val (type_of β d)) → value_of (type_of β d) t ≡ some v → (b : Bool) → roomy v ≡ b → Accepted t β d es ls n
      deep s v r true q =
          let w : to_streams t β d es ls ≡ accepted (value_store (type_of β d) v) es ls = stored-value v s r true q in
          let e : Ok (room (value_store (type_of β d) v)) ≡ Ok n = ap (λ (c : Conversion). c.answer) (sym w) ∙ h in
          let k : room (value_store (type_of β d) v) ≡ n = cc in
          let f : room (value_store (type_of β d) v) ≤ used_of (length es) =
          leb-true (room (value_store (type_of β d) v)) (used_of (length es)) (both_true (leb (room (value_store (type_of β d) v)) (used_of (length es))) (leb (suc d) (length ls)) q).0 in
          record { value = v; reads = r; shallow = s; size = k; few = omega arith; whole = w }
      deep s v r false q = no-refusal (ap (λ (c : Conversion). c.answer) (sym (stored-value v s r false q)) ∙ h)

      go : (b : Bool) → ltb most_depth d ≡ b → (o : Option (Val (type_of β d))) → value_of (type_of β d) t ≡ o → Accepted t β d es ls n
      go true s o r = no-refusal (ap (λ (c : Conversion). c.answer) (sym (stored-by true s o r)) ∙ h)
      go false s none r = no-refusal (ap (λ (c : Conversion). c.answer) (sym (stored-by false s none r)) ∙ h)
      go false s (some v) r = deep (ltb-false most_depth d s) v r (roomy v) refl

-- ---- text to streams to text

-- a value's streams in a row are shown as its text
row-shown : (β : Base) (d : ℕ) (v : Val (type_of β d)) (old : List ℕ) → d ≤ most_depth → room (value_store (type_of β d) v) ≤ most_elements
    → to_text (contents (value_store (type_of β d) v)) (map len (value_store (type_of β d) v)) β d old ≡ text_in (show (type_of β d) v) old
row-shown β d v old s f =
    let ls : List ℕ = map length (streams_of (type_of β d) v) in
    let zs : List ℤ = concat (streams_of (type_of β d) v) in
    let t : sum_of ls ≡ length zs = total-of-row (laid (represent (type_of β d) (v ∷ []))) in
    let m : leb (sum_of ls) most_elements ≡ true = le-leb (sum_of ls) most_elements (omega (arith, t, ap length (row-contents β d v))) in
    let levels : length ls ≡ suc d = lengths-of-row (laid (represent (type_of β d) (v ∷ []))) ∙ ap suc (depth-of-type β d) in
    let r : right_lengths ls d (length zs) ≡ true =
    rw (eq-eqb (length ls) (suc d) levels, eq-eqb (sum_of ls) (length zs) t, m) in
    ap₂ (λ (a : List ℤ) (l : List ℕ). to_text a l β d old) (row-contents β d v) (row-lengths β d v)
    ∙ text-by zs ls β d old s true r
    ∙ ap₂ (λ (o : Option ℕ) (vs : List (Val (type_of β d))). fitting_text (type_of β d) o vs old) (value-accepted (type_of β d) v) (value-again (type_of β d) v)

fitting-text : (t old : List ℕ) → length t ≤ length old → text_in t old ≡ record { answer = Ok (length t); bytes = t ++ drop (length t) old }
fitting-text t old h = rw (le-leb (length t) (length old) h)

-- Text that text to streams accepts, with n elements, comes back: streams to text, handed those n elements and the d + 1 lengths, and lent enough, answers
-- that it wrote as many bytes as the text has, and these bytes are the text. What is lent behind them keeps its content.
pub text-comes-back : (t : List ℕ) (β : Base) (d : ℕ) (es : List ℤ) (ls : List ℕ) (n : ℕ) (old : List ℕ)
    → (to_streams t β d es ls).answer ≡ Ok n
    → length t ≤ length old
    → to_text (take n (to_streams t β d es ls).elements) (take (suc d) (to_streams t β d es ls).lengths) β d old
    ≡ record { answer = Ok (length t); bytes = t ++ drop (length t) old }
text-comes-back t β d es ls n old h fits =
    let a : Accepted t β d es ls n = accepted-text t β d es ls n h in
    let σ : Store = value_store (type_of β d) a.value in
    let zs : take n (to_streams t β d es ls).elements ≡ contents σ =
    ap (λ (c : Conversion). take n c.elements) a.whole ∙ take_at (contents σ) (drop (room σ) es) n a.size in
    let ks : take (suc d) (to_streams t β d es ls).lengths ≡ map len σ =
    ap (λ (c : Conversion). take (suc d) c.lengths) a.whole
    ∙ take_at (map len σ) (drop (length σ) ls) (suc d) (lens-length β d (a.value ∷ [])) in
    ap₂ (λ (x : List ℤ) (y : List ℕ). to_text x y β d old) zs ks
    ∙ row-shown β d a.value old a.shallow (omega (arith, a.size, a.few))
    ∙ ap (λ (x : List ℕ). text_in x old) (sym (shown-of-value (type_of β d) t a.value a.reads).0)
    ∙ fitting-text t old fits

-- ---- what is known where streams to text accepts

record Legible (zs : List ℤ) (ls : List ℕ) (β : Base) (d : ℕ) (old : List ℕ) (n : ℕ) : Type 0 where
  pub value : Val (type_of β d)
  pub shallow : d ≤ most_depth
  pub row : contents (value_store (type_of β d) value) ≡ zs
  pub levels : map len (value_store (type_of β d) value) ≡ ls
  pub size : length (show (type_of β d) value) ≡ n
  pub bytes : (to_text zs ls β d old).bytes ≡ show (type_of β d) value ++ drop (length (show (type_of β d) value)) old

module _ (zs : List ℤ) (ls : List ℕ) (β : Base) (d : ℕ) (old : List ℕ) where
  -- the value of streams that fit, and its text
  row-legible : (n : ℕ) → d ≤ most_depth → length ls ≡ suc d → sum_of ls ≡ length zs → misfit_tree (base_of (type_of β d)) 1 (tree_of (depth_of (type_of β d)) ls zs) ≡ none
      → to_text zs ls β d old ≡ row_text zs ls (type_of β d) old → (to_text zs ls β d old).answer ≡ Ok n → Legible zs ls β d old n
  row-legible n s k t m w h = go (leb (length (show (type_of β d) v)) (length old)) refl
    where
      again : (v : Val (type_of β d)) × (values (type_of β d) (tree_of (depth_of (type_of β d)) ls zs) ≡ v ∷ []) × (concat (streams_of (type_of β d) v) ≡ zs) × (map length (streams_of (type_of β d) v) ≡ ls)
      again = streams-again (type_of β d) ls zs (k ∙ ap suc (sym (depth-of-type β d))) t m

      v : Val (type_of β d)
      v = again.0

      by : (b : Bool) → leb (length (show (type_of β d) v)) (length old) ≡ b
          → to_text zs ls β d old
          ≡ pick b (record { answer = Ok (length (show (type_of β d) v)); bytes = show (type_of β d) v ++ drop (length (show (type_of β d) v)) old }) (refused_as (NoAnswerRoom (length (show (type_of β d) v))) old)
      by b e =
          w
          ∙ ap₂ (λ (o : Option ℕ) (vs : List (Val (type_of β d))). fitting_text (type_of β d) o vs old) m again.1
          ∙ ap
          (λ (x : Bool).
          pick x (record { answer = Ok (length (show (type_of β d) v)); bytes = show (type_of β d) v ++ drop (length (show (type_of β d) v)) old }) (refused_as (NoAnswerRoom (length (show (type_of β d) v))) old))
          e

      go : (b : Bool) → leb (length (show (type_of β d) v)) (length old) ≡ b → Legible zs ls β d old n
      go true e =
          let q : Ok (length (show (type_of β d) v)) ≡ Ok n = ap (λ (c : Rendering). c.answer) (sym (by true e)) ∙ h in
          let c : length (show (type_of β d) v) ≡ n = cc in
          record {
            value = v;
            shallow = s;
            row = row-contents β d v ∙ again.2;
            levels = row-lengths β d v ∙ again.3;
            size = c;
            bytes = ap (λ (c : Rendering). c.bytes) (by true e);
          }
      go false e = no-refusal (ap (λ (c : Rendering). c.answer) (sym (by false e)) ∙ h)

  legible : (n : ℕ) → (to_text zs ls β d old).answer ≡ Ok n → Legible zs ls β d old n
  legible n h = depth (ltb most_depth d) refl
    where
      fit : d ≤ most_depth → right_lengths ls d (length zs) ≡ true → (o : Option ℕ) → misfit_tree (base_of (type_of β d)) 1 (tree_of (depth_of (type_of β d)) ls zs) ≡ o → Legible zs ls β d old n
      fit s r none m =
          let p = both_true (eqb (length ls) (suc d)) (eqb (sum_of ls) (length zs) && leb (sum_of ls) most_elements) r in
          let q = both_true (eqb (sum_of ls) (length zs)) (leb (sum_of ls) most_elements) p.1 in
          row-legible n s (eqb-true (length ls) (suc d) p.0) (eqb-true (sum_of ls) (length zs) q.0) m (text-by zs ls β d old s true r) h
      fit s r (some j) m =
          no-refusal
          (ap (λ (o : Option ℕ). (fitting_text (type_of β d) o (values (type_of β d) (tree_of (depth_of (type_of β d)) ls zs)) old).answer) (sym m)
          ∙ ap (λ (c : Rendering). c.answer) (sym (text-by zs ls β d old s true r))
          ∙ h)

      lengths : d ≤ most_depth → (b : Bool) → right_lengths ls d (length zs) ≡ b → Legible zs ls β d old n
      lengths s true r = fit s r (misfit_tree (base_of (type_of β d)) 1 (tree_of (depth_of (type_of β d)) ls zs)) refl
      lengths s false r = no-refusal (ap (λ (c : Rendering). c.answer) (sym (text-by zs ls β d old s false r)) ∙ h)

      depth : (b : Bool) → ltb most_depth d ≡ b → Legible zs ls β d old n
      depth true s =
          no-refusal
          (ap
          (λ (b : Bool). (pick b (refused_as (OverLimit 0) old) (pick (right_lengths ls d (length zs)) (row_text zs ls (type_of β d) old) (refused_as (NoRepresentation (suc d)) old))).answer)
          (sym s)
          ∙ h)
      depth false s = lengths (ltb-false most_depth d s) (right_lengths ls d (length zs)) refl

-- ---- elements in range are a value's in range

module _ {A : Type 0} {P : A → Type 0} where
  each-front : (xs ys : List A) → Each P (xs ++ ys) → Each P xs
  each-front [] ys h = each_none
  each-front (x ∷ xs) ys (each_more p h) = each_more p (each-front xs ys h)

  each_back : (xs ys : List A) → Each P (xs ++ ys) → Each P ys
  each_back [] ys h = h
  each_back (x ∷ xs) ys (each_more p h) = each_back xs ys h

  each-of-each : (ls : List (List A)) → Each P (concat ls) → Each (Each P) ls
  unfolding concat
  each-of-each [] h = each_none
  each-of-each (l ∷ ls) h = each_more (each-front l (concat ls) h) (each-of-each ls (each_back l (concat ls) h))

scalars-in-range : (β : Base) (vs : List (Element β)) → Each (λ z. in_range z ≡ true) (cells β vs) → Each (InRange (scalar β)) vs
scalars-in-range base.Int vs h = h
scalars-in-range base.Bool [] h = each_none
scalars-in-range base.Bool (c ∷ cs) (each_more p h) = each_more tt (scalars-in-range base.Bool cs h)

values-in-range : (β : Base) (d : ℕ) (vs : List (Val (type_of β d))) → Each (λ z. in_range z ≡ true) (contents (streams β d vs)) → Each (InRange (type_of β d)) vs
unfolding represent order contents
values-in-range β zero vs h = scalars-in-range β vs (each-front (cells β vs) [] h)
values-in-range β (suc d) vs h =
    each-of-each vs
    (values-in-range β d (concat vs)
    (each-front (contents (streams β d (concat vs))) (map bit (segments vs)) (subst (Each (λ z. in_range z ≡ true)) (contents-more β d vs) h)))

only : {A : Type 0} {P : A → Type 0} {x : A} → Each P (x ∷ []) → P x
only (each_more p h) = p

-- ---- streams to text to streams

-- Streams that streams to text accepts, with n bytes, come back: text to streams, handed those n bytes and lent enough of both buffers, answers that it wrote as
-- many elements as there were, and these elements and lengths are the same. What is lent behind them keeps its content.
-- The elements are numbers of 32 bits, as those of an `&[i32]` are: text that stands for others is refused.
pub streams-come-back : (zs : List ℤ) (ls : List ℕ) (β : Base) (d : ℕ) (old : List ℕ) (n : ℕ) (es : List ℤ) (ks : List ℕ)
    → Each (λ z. in_range z ≡ true) zs
    → (to_text zs ls β d old).answer ≡ Ok n
    → length zs ≤ used_of (length es)
    → suc d ≤ length ks
    → to_streams (take n (to_text zs ls β d old).bytes) β d es ks
    ≡ record { answer = Ok (length zs); elements = zs ++ drop (length zs) es; lengths = ls ++ drop (length ls) ks }
streams-come-back zs ls β d old n es ks inside h room_for levels-for =
    let a : Legible zs ls β d old n = legible zs ls β d old n h in
    let v : Val (type_of β d) = a.value in
    let σ : Store = value_store (type_of β d) v in
    let text : take n (to_text zs ls β d old).bytes ≡ show (type_of β d) v =
    ap (take n) a.bytes ∙ take_at (show (type_of β d) v) (drop (length (show (type_of β d) v)) old) n a.size in
    let ranged : InRange (type_of β d) v = only (values-in-range β d (v ∷ []) (subst (Each (λ z. in_range z ≡ true)) (sym a.row) inside)) in
    let r : leb (room σ) (used_of (length es)) ≡ true = le-leb (room σ) (used_of (length es)) (omega (arith, ap length a.row)) in
    let l : leb (suc d) (length ks) ≡ true = le-leb (suc d) (length ks) levels-for in
    let count : length σ ≡ length ls = sym (length-map σ len) ∙ ap length a.levels in
    ap (λ (t : List ℕ). to_streams t β d es ks) text
    ∙ stored-value (show (type_of β d) v) β d es ks v a.shallow (value-of-shown (type_of β d) v ranged) true (rw (r, l))
    ∙ (λ i.
    record {
      answer = Ok (length (a.row i));
      elements = a.row i ++ drop (length (a.row i)) es;
      lengths = a.levels i ++ drop (count i) ks;
    })
