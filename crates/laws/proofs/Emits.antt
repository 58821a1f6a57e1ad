-- What a walk has written of its output so far, over any element type. The output w is known from the start (a function of the operands), and a walk
-- that has made r elements of it and has `rest` before it has stored the first r from `out` on. A store past the end changes nothing, so a walk
-- that lacks room goes on all the same.
use Prim.Native.Nat.{ℕ, ◌+◌, ◌≤◌, ◌<◌}
use mathlib.Core.Path.{◌≡◌, refl, sym, ◌∙◌, ap}
use mathlib.Core.List.{List, [], ◌∷◌, ◌++◌, append_assoc, append-nil}
use native.Mathlib.Nat.{le_refl}
use native.Mathlib.Omega.{arith}
use lib.ListN.{length, get_or, take, drop, set, length-append}
use lib.Seq.{sets, length-sets}
use Rattle.laws.specs.Parts.{part}
use Rattle.laws.proofs.Parts.{part-next, same-below, same-part, sets-append, take-sets}

pub record Emits {A : Type 0} (old buf : List A) (out : ℕ) (w rest : List A) (r : ℕ) : Type 0 where
  pub done : List A
  pub whole : w ≡ done ++ rest
  pub count : length done ≡ r
  pub stored : buf ≡ sets old out done

module _ {A : Type 0} {old : List A} {out : ℕ} {w : List A} where
  pub start : Emits old old out w w 0
  start = record { done = []; whole = refl; count = refl; stored = refl }

  module _ {buf rest : List A} {r : ℕ} (e : Emits old buf out w rest r) where
    pub again : {rest' : List A} → rest ≡ rest' → Emits old buf out w rest' r
    again p = record { done = e.done; whole = e.whole ∙ ap (λ l. e.done ++ l) p; count = e.count; stored = e.stored }

    pub same_length : length buf ≡ length old
    same_length = ap length e.stored ∙ length-sets old out e.done

    pub below : take out buf ≡ take out old
    below = ap (take out) e.stored ∙ take-sets e.done old out out (le_refl out)

    -- several elements at once
    pub puts : (vs : List A) {new rest' : List A} → new ≡ sets buf (out + r) vs → rest ≡ vs ++ rest' →
        Emits old new out w rest' (r + length vs)
    puts vs q p =
        record {
          done = e.done ++ vs;
          whole = e.whole ∙ ap (λ l. e.done ++ l) p ∙ sym (append_assoc e.done vs _);
          count = length-append e.done vs ∙ ap (λ k. k + length vs) e.count;
          stored =
              q
              ∙ ap (λ l. sets l (out + r) vs) e.stored
              ∙ ap (λ k. sets (sets old out e.done) (out + k) vs) (sym e.count)
              ∙ sym (sets-append e.done vs old out);
        }

    -- one element
    pub put : (v : A) {new rest' : List A} → new ≡ set buf (out + r) v → rest ≡ v ∷ rest' → Emits old new out w rest' (r + 1)
    put v q p = puts (v ∷ []) q p

    pub recount : {r' : ℕ} → r ≡ r' → Emits old buf out w rest r'
    recount p = record { done = e.done; whole = e.whole; count = e.count ∙ p; stored = e.stored }

    pub long : length w ≡ r + length rest
    long = ap length e.whole ∙ length-append e.done rest ∙ ap (λ k. k + length rest) e.count

    -- nothing is left to make
    pub all : rest ≡ [] → (length w ≡ r) × (buf ≡ sets old out w)
    all p =
        let q : w ≡ e.done = e.whole ∙ ap (λ l. e.done ++ l) p ∙ append-nil e.done in
        (ap length q ∙ e.count, e.stored ∙ ap (sets old out) (sym q))

    -- an operand that lies before `out`, read from the buffer as it is now
    pub fed : (at n i : ℕ) (d : A) → at + n ≤ out → out ≤ length old → i < n →
        drop i (part at n old) ≡ get_or buf (at + i) d ∷ drop (i + 1) (part at n old)
    fed at n i d h room lt =
        part-next at n i old d (omega arith) lt
        ∙ ap (λ x. x ∷ drop (i + 1) (part at n old)) (sym (same-below out buf old (at + i) d below (omega arith)))

    pub operand : (at n : ℕ) → at + n ≤ out → part at n buf ≡ part at n old
    operand at n h = same-part out buf old at n below h
