-- A list of ids written id by id, and one written in ascending order, the least that is left at each turn.
use Prim.Native.Nat.{ℕ, ◌+◌, ◌≤◌, ◌<◌}
use native.Mathlib.Omega.{arith}
use native.Mathlib.Numerals.{add-one}
use mathlib.Core.Bool.{Bool, true, false}
use mathlib.Core.List.{List, [], ◌∷◌, ◌++◌, append_assoc, append-nil}
use mathlib.Core.Logic.{⊎_elim}
use mathlib.Core.Path.{◌≡◌, refl, sym, ap, ◌∙◌, subst}
use lib.ListN.{length, get_or, drop}
use lib.Seq.{drop-cons}
use Rattle.snesl.specs.Programs.{ascending}
use Rattle.decimals.specs.Writing.{Writes}
use Rattle.decimals.proofs.Stores.{writes_nothing, writes_then}
use Rattle.lines.specs.Counting.{Countable}
use Rattle.lines.specs.Pieces.{next_text, rest_text}
use Rattle.lines.proofs.Writing.{countable-first, countable-next}
use Rattle.lines.proofs.IdLists.{rest-next, rest-none}
use Rattle.sink.specs.Between.{between}
use Rattle.sink.proofs.Least.{Least, ascended, ascends-on}

-- what is written of a list, and what is left of it
pub record Left (all left : List ℕ) (text₀ : List ℕ) (at : ℕ) (first : Bool) (text : List ℕ) (p : ℕ) : Type 0 where
  pub past : List ℕ
  pub writes : Writes text₀ text at past p
  pub whole : rest_text true all ≡ past ++ rest_text first left

pub left-start : {all text₀ : List ℕ} {at : ℕ} → Left all all text₀ at true text₀ at
left-start {text₀ = text₀} {at = at} = record { past = []; writes = writes_nothing text₀ at; whole = refl }

module _ {all left text₀ : List ℕ} {at : ℕ} {first : Bool} {text : List ℕ} {p : ℕ} (r : Left all left text₀ at first text p) where
  pub left_end : left ≡ [] → Writes text₀ text at (rest_text true all) p
  left_end e =
      let done : rest_text true all ≡ r.past = r.whole ∙ (ap (λ m. r.past ++ rest_text first m) e ∙ (ap (λ m. r.past ++ m) (rest-none first) ∙ append-nil r.past)) in
      subst (λ m. Writes text₀ text at m p) (sym done) r.writes

  module _ {s : ℕ} {more : List ℕ} (e : left ≡ s ∷ more) where
    onward : rest_text true all ≡ r.past ++ (next_text first s ++ rest_text false more)
    onward = r.whole ∙ (ap (λ m. r.past ++ rest_text first m) e ∙ ap (λ m. r.past ++ m) (rest-next first s more))

    pub left-countable : Countable at (rest_text true all) → Countable p (next_text first s)
    left-countable c = countable-first (next_text first s) (rest_text false more) (countable-next (subst (Countable at) onward c) r.writes)

    pub left-on : {text' : List ℕ} {p' : ℕ} → Writes text text' p (next_text first s) p' → Left all more text₀ at false text' p'
    left-on w =
        record {
          past = r.past ++ next_text first s;
          writes = writes_then r.writes w;
          whole = onward ∙ sym (append_assoc r.past (next_text first s) (rest_text false more));
        }

-- the next of them
pub next-id : (us : List ℕ) {i : ℕ} → i < length us → drop i us ≡ get_or us i 0 ∷ drop (i + 1) us
next-id us {i} h = drop-cons us i 0 h ∙ ap (λ n. get_or us i 0 ∷ drop n us) (sym (add-one i))

-- the ids from `from` on are left, in ascending order
pub record Rest (us : List ℕ) (lo hi : ℕ) (text₀ : List ℕ) (at : ℕ) (first : Bool) (from : ℕ) (text : List ℕ) (p : ℕ) : Type 0 where
  pub left : Left (ascending (between lo hi us)) (ascending (between from hi us)) text₀ at first text p

module _ {us : List ℕ} {lo hi : ℕ} {text₀ : List ℕ} {at : ℕ} where
  pub rest-start : Rest us lo hi text₀ at true lo text₀ at
  rest-start = record { left = left-start }

  module _ {first : Bool} {from : ℕ} {text : List ℕ} {p s : ℕ} (r : Rest us lo hi text₀ at first from text p) (l : Least from hi us s) where
    pub rest_end : s ≡ hi → Writes text₀ text at (rest_text true (ascending (between lo hi us))) p
    rest_end e = left_end r.left (ascended us l e)

    module _ (h : s < hi) where
      pub rest-countable : Countable at (rest_text true (ascending (between lo hi us))) → Countable p (next_text first s)
      rest-countable c = left-countable r.left (ascends-on us l h) c

      pub rest-on : {text' : List ℕ} {p' : ℕ} → Writes text text' p (next_text first s) p' → Rest us lo hi text₀ at false (s + 1) text' p'
      rest-on w = record { left = left-on r.left (ascends-on us l h) w }

-- a search that has found one has come on
pub least-from : {lo hi : ℕ} {us : List ℕ} {s : ℕ} → Least lo hi us s → s < hi → lo ≤ s
least-from {lo} {hi} {s = s} l h = ⊎_elim (λ e. absurd (never e)) (λ m. m.1) l.found
  where
    never : s ≡ hi → ⊥
    never e = omega arith
