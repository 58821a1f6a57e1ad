-- What stands from a position of a list on, over any element type: a stack that grows down is read and written by these.
use Prim.Native.Nat.{ℕ, ◌+◌, ◌-◌, ◌≤◌, ◌<◌}
use mathlib.Core.Path.{◌≡◌, refl, sym, ◌∙◌, ap}
use mathlib.Core.List.{List, [], ◌∷◌, ◌++◌, append_assoc}
use native.Mathlib.Nat.{add-zero}
use native.Mathlib.Numerals.{add-one, add-two}
use native.Mathlib.Omega.{arith}
use lib.ListN.{length, get_or, take, drop, set, length-append, length-take, length-drop, take-append-drop}
use borrow.Rule.Slice.PartMut.{put_mid}
use lib.Seq.{paste, sets, length-sets, drop-drop, drop_at, take_at, take-take, take-add, get_or-drop, length-take-le}
use Rattle.laws.specs.Parts.{part, written}
use Rattle.laws.proofs.Parts.{length_part, sets-append, sets-written}

module _ {A : Type 0} where
  -- an element and what stands behind it
  module _ (l : List A) (p : ℕ) {a : A} {r : List A} (e : drop p l ≡ a ∷ r) where
    pub head-is : (d : A) → get_or l p d ≡ a
    head-is d = ap (λ k. get_or l k d) (sym (add-zero p)) ∙ (sym (get_or-drop p l 0 d) ∙ ap (λ s. get_or s 0 d) e)

    pub tail-is : drop (p + 1) l ≡ r
    tail-is = sym (drop-drop 1 p l) ∙ ap (drop 1) e

    pub head-within : p < length l
    head-within = omega (arith, simp length-drop at (ap length e))

  -- several elements and what stands behind them
  module _ (l : List A) (p n : ℕ) (u r : List A) (e : drop p l ≡ u ++ r) (h : length u ≡ n) where
    pub front-is : part p n l ≡ u
    unfolding part
    front-is = ap (take n) e ∙ take_at u r n h

    pub rest-is : drop (p + n) l ≡ r
    rest-is = sym (drop-drop n p l) ∙ (ap (drop n) e ∙ drop_at u r n h)

    pub front-within : 0 < n → p + n ≤ length l
    front-within s = omega (arith, simp (length-drop, length-append) at (ap length e))

  -- a part in two
  module _ (l : List A) (p n m : ℕ) (u v : List A) (e : part p (n + m) l ≡ u ++ v) (h : length u ≡ n) where
    pub part-front : part p n l ≡ u
    unfolding part
    part-front = sym (take-take n (n + m) (drop p l) (omega arith)) ∙ (ap (take n) e ∙ take_at u v n h)

    pub part-back : part (p + n) m l ≡ v
    unfolding part
    part-back =
        let whole : take (n + m) (drop p l) ≡ take n (drop p l) ++ take m (drop n (drop p l)) = take-add n m (drop p l) in
        let long : length (take n (drop p l)) ≡ n = ap length part-front ∙ h in
        ap (take m) (sym (drop-drop n p l))
        ∙ (sym (drop_at (take n (drop p l)) (take m (drop n (drop p l))) n long)
        ∙ (ap (drop n) (sym whole ∙ e) ∙ drop_at u v n h))

  -- a part and what stands behind it
  pub whole_is : (l : List A) (p n : ℕ) → drop p l ≡ part p n l ++ drop (p + n) l
  unfolding part
  whole_is l p n = sym (take-append-drop n (drop p l)) ∙ ap (λ r. take n (drop p l) ++ r) (drop-drop n p l)

  pub part-drop : (l l' : List A) (p n : ℕ) → drop p l ≡ drop p l' → part p n l ≡ part p n l'
  unfolding part
  part-drop l l' p n e = ap (take n) e

  pub get_d-above : (l l' : List A) (p i : ℕ) (d : A) → drop p l ≡ drop p l' → p ≤ i → get_or l i d ≡ get_or l' i d
  get_d-above l l' p i d e h =
      let q : p + (i - p) ≡ i = omega arith in
      ap (λ k. get_or l k d) (sym q)
      ∙ (sym (get_or-drop p l (i - p) d) ∙ (ap (λ s. get_or s (i - p) d) e ∙ (get_or-drop p l' (i - p) d ∙ ap (λ k. get_or l' k d) q)))

  pub drop-above : (l l' : List A) (p k : ℕ) → drop p l ≡ drop p l' → p ≤ k → drop k l ≡ drop k l'
  drop-above l l' p k e h =
      let q : p + (k - p) ≡ k = omega arith in
      ap (λ j. drop j l) (sym q)
      ∙ (sym (drop-drop (k - p) p l) ∙ (ap (drop (k - p)) e ∙ (drop-drop (k - p) p l' ∙ ap (λ j. drop j l') q)))

  parted-any : (l : List A) (at : ℕ) (w : List A) → written at w l ≡ take at l ++ (w ++ drop (at + length w) l)
  unfolding written
  parted-any l at w = append_assoc (take at l) w (drop (at + length w) l)

  -- words written at a place
  module _ (l : List A) (at : ℕ) (w : List A) (h : at + length w ≤ length l) where
    parted : written at w l ≡ take at l ++ (w ++ drop (at + length w) l)
    parted = parted-any l at w

    long : length (take at l) ≡ at
    long = length-take-le at l (omega arith)

    pub length-written : length (written at w l) ≡ length l
    length-written = rw parted (simp (length-append, length-take, length-drop) (omega arith))

    pub from-written : drop at (written at w l) ≡ w ++ drop (at + length w) l
    from-written = rw parted (drop_at (take at l) (w ++ drop (at + length w) l) at long)

    pub above-written : (k : ℕ) → at + length w ≤ k → drop k (written at w l) ≡ drop k l
    above-written k le =
        drop-above (written at w l) l (at + length w) k
        (rest-is (written at w l) at (length w) w (drop (at + length w) l) from-written refl) le

    pub at-written : part at (length w) (written at w l) ≡ w
    at-written = front-is (written at w l) at (length w) w (drop (at + length w) l) from-written refl

    pub below-written : take at (written at w l) ≡ take at l
    below-written = rw parted (take_at (take at l) (w ++ drop (at + length w) l) at long)

  -- a part that holds these words now, after a copy to it
  pub copied : (l : List A) (at n : ℕ) (w now : List A) → now ≡ w → n ≡ length w → put_mid at n l now ≡ written at w l
  copied l at n w now e k = rw (e, k, parted-any l at w) (ap (λ r. take at l ++ (w ++ r)) (drop-drop (length w) at l))

  -- a part copied to another place
  pub moved : (l : List A) (from to count n : ℕ) → from + count ≤ length l → n ≡ count → paste l to (drop from l) n ≡ written to (part from count l) l
  unfolding written part
  moved l from to count n h e = rw e (ap (λ k. take to l ++ take count (drop from l) ++ drop (to + k) l) (sym (length_part from count l h)))

  -- words stored one by one
  pub two-written : (l : List A) (at : ℕ) (a b : A) → at + 2 ≤ length l → set (set l at a) (at + 1) b ≡ written at (a ∷ b ∷ []) l
  two-written l at a b h = rw add-one (sets-written at (a ∷ b ∷ []) l h)

  pub three-written : (l : List A) (at : ℕ) (a b c : A) → at + 3 ≤ length l
      → set (set (set l at a) (at + 1) b) (at + 2) c ≡ written at (a ∷ b ∷ c ∷ []) l
  three-written l at a b c h = rw (add-one, add-two) (sets-written at (a ∷ b ∷ c ∷ []) l h)

  -- n words just below a place
  pub lowered : (l : List A) (sp n : ℕ) (w : List A) → length w ≡ n → n ≤ sp → sp ≤ length l → drop (sp - n) (written (sp - n) w l) ≡ w ++ drop sp l
  lowered l sp n w e h k =
      let up : sp - n + length w ≡ sp = omega arith in
      from-written l (sp - n) w (omega arith) ∙ ap (λ i. w ++ drop i l) up

  -- words written behind words that were written
  pub written_then_lem : (l : List A) (at : ℕ) (u v : List A) (k : ℕ) → k ≡ at + length u → at + length u + length v ≤ length l
      → written k v (written at u l) ≡ written at (u ++ v) l
  written_then_lem l at u v k e h =
      let long : length (u ++ v) ≡ length u + length v = length-append u v in
      let one : sets l at u ≡ written at u l = sets-written at u l (omega arith) in
      let still : length (sets l at u) ≡ length l = length-sets l at u in
      ap (λ i. written i v (written at u l)) e
      ∙ (ap (written (at + length u) v) (sym one)
      ∙ (sym (sets-written (at + length u) v (sets l at u) (omega arith))
      ∙ (sym (sets-append u v l at) ∙ sets-written at (u ++ v) l (omega arith))))

  -- what a write below a place leaves there
  pub drop-written : (l : List A) (at k : ℕ) (w : List A) → at + length w ≤ k → k ≤ length l → drop k (written at w l) ≡ drop k l
  drop-written l at k w h r = above-written l at w (omega arith) k h
