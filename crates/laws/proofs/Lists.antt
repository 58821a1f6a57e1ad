-- Facts about lists that the kit does not have: reading at a place, places of two lists joined, and maps.
use Prim.Native.Nat.{ℕ, zero, suc, ◌+◌}
use native.Mathlib.Nat.{zero-add, suc-add}
use native.Mathlib.Omega.{arith}
use mathlib.Core.List.{List, [], ◌∷◌, ◌++◌, map}
use mathlib.Core.Option.{some}
use mathlib.Core.Path.{◌≡◌, refl, sym, ap, ◌∙◌}
use lib.ListN.{length, get_or, drop, get_elem?, replicate}
use lib.Seq.{drop-drop, drop-append_seam, get_or-drop}
use Rattle.laws.proofs.Options.{none-some}

module _ {A : Type 0} where
  -- A read that does not give the default has met an element: the rest of the list begins with it.
  pub drop-read : (l : List A) (j : ℕ) (d a : A) → get_or l j d ≡ a → (a ≡ d → ⊥) → drop j l ≡ a ∷ drop (suc j) l
  drop-read [] j d a h other = absurd (other (sym h))
  drop-read (x ∷ l) zero d a h other = ap (λ y. y ∷ l) h
  drop-read (x ∷ l) (suc j) d a h other = drop-read l j d a h other

  -- where it is known how a list goes on from a place: what is read there, and how it goes on behind
  pub read-drop : (l : List A) (j : ℕ) (d a : A) (u : List A) → drop j l ≡ a ∷ u → get_or l j d ≡ a
  read-drop l j d a u h = ap (λ n. get_or l n d) (omega arith) ∙ sym (get_or-drop j l 0 d) ∙ ap (λ r. get_or r 0 d) h

  pub drop-behind : (l : List A) (j : ℕ) (s u : List A) → drop j l ≡ s ++ u → drop (j + length s) l ≡ u
  drop-behind l j s u h = sym (drop-drop (length s) j l) ∙ ap (drop (length s)) h ∙ drop-append_seam s u

  -- what the first list has at a place, the joined list has there too
  pub get_elem?-append-left : (l r : List A) (i : ℕ) {a : A} → get_elem? l i ≡ some a → get_elem? (l ++ r) i ≡ some a
  get_elem?-append-left [] r i h = none-some h
  get_elem?-append-left (x ∷ l) r zero h = h
  get_elem?-append-left (x ∷ l) r (suc i) h = get_elem?-append-left l r i h

  -- past the first list, the joined list has what the second has
  pub get_elem?-append-add : (l r : List A) (i : ℕ) → get_elem? (l ++ r) (length l + i) ≡ get_elem? r i
  get_elem?-append-add [] r i = rw zero-add
  get_elem?-append-add (x ∷ l) r i = rw suc-add (get_elem?-append-add l r i)

  -- at the seam stands the second list's first
  pub get_elem?-append-seam : (l : List A) (a : A) (r : List A) → get_elem? (l ++ a ∷ r) (length l) ≡ some a
  get_elem?-append-seam [] a r = refl
  get_elem?-append-seam (x ∷ l) a r = get_elem?-append-seam l a r

  -- one value at each place
  pub map-const : {B : Type 0} (b : B) (l : List A) → map (λ (x : A). b) l ≡ replicate (length l) b
  map-const b [] = refl
  map-const b (x ∷ l) = ap (λ t. b ∷ t) (map-const b l)
