-- Laws on parts of a buffer, over any element type: how long a part is, its elements one by one, and that a part keeps its content
-- while only elements behind it are written. `sets l i vs` is a run of stores; a store past the end changes nothing, so its laws ask for no room.
use Prim.Native.Nat.{ℕ, zero, suc, ◌+◌, ◌-◌, ◌≤◌, ◌<◌}
use mathlib.Core.Path.{◌≡◌, refl, sym, ◌∙◌, ap}
use mathlib.Core.List.{List, [], ◌∷◌, ◌++◌, append-nil}
use native.Mathlib.Numerals.{add-one}
use native.Mathlib.Decide.{dec_le}
use native.Mathlib.Nat.{add-zero, zero-add, suc-add}
use native.Mathlib.Omega.{arith}
use lib.ListN.{length, get_or, take, drop, set, replicate, length-take, length-drop, length-replicate, drop_of_length-le, take-append-drop}
use lib.Seq.{drop-append-le, drop-cons, drop-drop, drop-set-lt, get_or-take, get_or-drop, take_all, take-nil, take-take, take-set-le, sets, sets-eq}
use Rattle.laws.specs.Parts.{part, written, cleared}

module _ {A : Type 0} where
  pub length_part : (at n : ℕ) (l : List A) → at + n ≤ length l → length (part at n l) ≡ n
  unfolding part
  length_part at n l h = simp (length-take, length-drop) (omega arith)

  -- the element at which a walk stands, and what it has still before it
  pub part-next : (at n i : ℕ) (l : List A) (d : A) → at + n ≤ length l → i < n →
      drop i (part at n l) ≡ get_or l (at + i) d ∷ drop (i + 1) (part at n l)
  unfolding part
  part-next at n i l d h lt =
      let long : length (take n (drop at l)) ≡ n = simp (length-take, length-drop) (omega arith) in
      let here : i < length (take n (drop at l)) = omega arith in
      let e : get_or (take n (drop at l)) i d ≡ get_or l (at + i) d = get_or-take n (drop at l) i d lt ∙ get_or-drop at l i d in
      drop-cons (take n (drop at l)) i d here
      ∙ ap (λ x. x ∷ drop (suc i) (take n (drop at l))) e
      ∙ ap (λ m. get_or l (at + i) d ∷ drop m (take n (drop at l))) (sym (add-one i))

  pub part_end : (at n : ℕ) (l : List A) → at + n ≤ length l → drop n (part at n l) ≡ []
  part_end at n l h =
      let e : length (part at n l) ≡ n = length_part at n l h in
      let short : length (part at n l) ≤ n = omega arith in
      drop_of_length-le (part at n l) short

  -- a walk that has come to the end
  pub part-over : (at n i : ℕ) (l : List A) → at + n ≤ length l → i ≤ n → n ≤ i → drop i (part at n l) ≡ []
  part-over at n i l h p q = let e : i ≡ n = omega arith in ap (λ m. drop m (part at n l)) e ∙ part_end at n l h

  -- what the buffer has from there on
  pub part-behind : (at n i : ℕ) (l : List A) → at + n ≤ length l → i ≤ n → drop (at + i) l ≡ drop i (part at n l) ++ drop (at + n) l
  unfolding part
  part-behind at n i l h p =
      let long : length (take n (drop at l)) ≡ n = simp (length-take, length-drop) (omega arith) in
      sym (drop-drop i at l)
      ∙ ap (drop i) (sym (take-append-drop n (drop at l)))
      ∙ drop-append-le i (take n (drop at l)) (drop n (drop at l)) (omega arith)
      ∙ ap (λ r. drop i (take n (drop at l)) ++ r) (drop-drop n at l)

  take-drop : (at n : ℕ) (l : List A) → take n (drop at l) ≡ drop at (take (at + n) l)
  take-drop zero n l = rw zero-add
  take-drop (suc a) n [] = rw (suc-add, take-nil)
  take-drop (suc a) n (x ∷ l) = rw suc-add (take-drop a n l)

  -- a part of a part
  pub part-part : (at n i m : ℕ) (l : List A) → i + m ≤ n → take m (drop i (part at n l)) ≡ part (at + i) m l
  unfolding part
  part-part at n i m l h =
      take-drop i m (take n (drop at l))
      ∙ ap (drop i) (take-take (i + m) n (drop at l) h)
      ∙ sym (take-drop i m (drop at l))
      ∙ ap (take m) (drop-drop i at l)

  -- two buffers that agree before `out`
  pub same-below : (out : ℕ) (new old : List A) (i : ℕ) (d : A) → take out new ≡ take out old → i < out → get_or new i d ≡ get_or old i d
  same-below out new old i d e h = sym (get_or-take out new i d h) ∙ ap (λ l. get_or l i d) e ∙ get_or-take out old i d h

  pub same-part : (out : ℕ) (new old : List A) (at n : ℕ) → take out new ≡ take out old → at + n ≤ out → part at n new ≡ part at n old
  unfolding part
  same-part out new old at n e h =
      take-drop at n new
      ∙ ap (drop at) (sym (take-take (at + n) out new h) ∙ ap (take (at + n)) e ∙ take-take (at + n) out old h)
      ∙ sym (take-drop at n old)

  -- ---- runs of stores

  pub sets-append : (us vs l : List A) (i : ℕ) → sets l i (us ++ vs) ≡ sets (sets l i us) (i + length us) vs
  sets-append [] vs l i = rw add-zero
  sets-append (u ∷ us) vs l i =
      let e : suc i + length us ≡ i + suc (length us) = omega arith in
      sets-append us vs (set l i u) (suc i) ∙ ap (λ k. sets (sets (set l i u) (suc i) us) k vs) e

  pub take-sets : (vs l : List A) (n i : ℕ) → n ≤ i → take n (sets l i vs) ≡ take n l
  take-sets [] l n i h = refl
  take-sets (v ∷ vs) l n i h = take-sets vs (set l i v) n (suc i) (omega arith) ∙ take-set-le n l i v h

  pub drop-sets : (vs l : List A) (n i : ℕ) → i + length vs ≤ n → drop n (sets l i vs) ≡ drop n l
  drop-sets [] l n i h = refl
  drop-sets (v ∷ vs) l n i h = drop-sets vs (set l i v) n (suc i) (omega arith) ∙ drop-set-lt n l i v (omega arith)

  pub sets-written : (out : ℕ) (w l : List A) → out + length w ≤ length l → sets l out w ≡ written out w l
  unfolding written
  sets-written out w l h = sets-eq w l out h

  pub sets-cleared : (z : A) (out : ℕ) (l : List A) → sets l out (replicate (length l - out) z) ≡ cleared z out l
  unfolding cleared
  sets-cleared z out l = go (dec_le out (length l))
    where
      go : Dec (out ≤ length l) → sets l out (replicate (length l - out) z) ≡ take out l ++ replicate (length l - out) z
      go (yes h) =
          let long : length (replicate (length l - out) z) ≡ length l - out = length-replicate (length l - out) z in
          let none : length l ≤ out + length (replicate (length l - out) z) = omega arith in
          sets-eq (replicate (length l - out) z) l out (omega arith)
          ∙ ap (λ r. take out l ++ replicate (length l - out) z ++ r) (drop_of_length-le l none)
          ∙ append-nil (take out l ++ replicate (length l - out) z)
      go (no h) =
          let past : length l ≤ out = omega arith in
          let none : length l - out ≡ 0 = omega arith in
          rw (none, append-nil, take_all out l past)

  pub same-cleared : (z : A) (out : ℕ) (new old : List A) → length new ≡ length old → take out new ≡ take out old →
      cleared z out new ≡ cleared z out old
  unfolding cleared
  same-cleared z out new old e b = rw (e, b)
