-- Values copied to a slice's start, as many as there are or it has room for, are noted there.
use Prim.Native.Nat.{ℕ, suc, min}
use mathlib.Core.Bool.{Bool, true, false}
use mathlib.Core.List.{List, [], ◌∷◌, ◌++◌}
use mathlib.Core.Path.{◌≡◌, refl, sym, ap, ap₂, ◌∙◌}
use native.Mathlib.Omega.{arith}
use borrow.Author.Tests.{leb-true, leb-false}
use lib.Dec.{leb}
use lib.ListN.{length, take, drop, set, drop_of_length-le}
use lib.Seq.{sets, take-nil}
use Rattle.std.proofs.lemmas.List.{take_min}
use Rattle.hailspindle.specs.Replies.{noted}

drop_min : (old : List ℕ) (m : ℕ) → drop (min (length old) m) old ≡ drop m old
drop_min old m = go (leb (length old) m) refl
  where
    go : (b : Bool) → leb (length old) m ≡ b → drop (min (length old) m) old ≡ drop m old
    go true p =
        drop_of_length-le old {i = min (length old) m} (omega (arith, leb-true (length old) m p))
        ∙ sym (drop_of_length-le old {i = m} (omega (arith, leb-true (length old) m p)))
    go false p =
        let fewer : min (length old) m ≡ m = omega (arith, leb-false (length old) m p) in
        ap (λ k. drop k old) fewer

pub noted_front : (values old : List ℕ) (n : ℕ) → n ≡ min (length old) (length values) → take n values ++ drop n old ≡ noted values old
unfolding noted
noted_front values old n e =
    ap₂ ◌++◌ (ap (λ k. take k values) e ∙ take_min (length old) values) (ap (λ k. drop k old) e ∙ drop_min old (length values))

-- figures stored one after another, a store past the end changing nothing
no_room : (fs : List ℕ) (i : ℕ) → sets [] i fs ≡ []
no_room [] i = refl
no_room (f ∷ fs) i = no_room fs (suc i)

behind-first : (fs : List ℕ) (x : ℕ) (l : List ℕ) (i : ℕ) → sets (x ∷ l) (suc i) fs ≡ x ∷ sets l i fs
behind-first [] x l i = refl
behind-first (f ∷ fs) x l i = behind-first fs x (set l i f) (suc i)

pub sets-noted : (fs old : List ℕ) → sets old 0 fs ≡ noted fs old
unfolding noted
sets-noted [] old = sym (ap (λ l. l ++ old) (take-nil (length old)))
sets-noted (f ∷ fs) [] = no_room fs 1
sets-noted (f ∷ fs) (x ∷ l) = behind-first fs f l 0 ∙ ap (λ r. f ∷ r) (sets-noted fs l)
