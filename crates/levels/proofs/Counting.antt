-- Adding counts up, and where streams of such lengths start: the loops of counts.rt.
use Prim.Native.Nat.{ℕ, zero, suc, ◌+◌, ◌-◌, ◌≤◌, ◌<◌, ◌^◌}
use mathlib.Core.Bool.{Bool, true, false}
use Rattle.std.specs.Prelude.{Some, None}
use mathlib.Core.List.{List, [], ◌∷◌, ◌++◌}
use mathlib.Core.Path.{◌≡◌, refl, sym, ap, ◌∙◌, subst}
use native.Mathlib.Numerals.{add-one}
use Rattle.std.proofs.Common.{take_all}
use native.Mathlib.Omega.{arith}
use borrow.Author.Tests.{le-leb, lt-leb, eqb-true, eqb-false}
use lib.Dec.{eqb}
use lib.ListN.{length, get_or, set, take, drop, drop_of_length-le}
use lib.Seq.{drop-cons, take-suc, set_at, append_snoc, length-take-le, get_or-set_same, get_or-set_other}
use Rattle.snesl.specs.Machine.{sum_of}
use Rattle.snesl.proofs.Correctness.Charged.{sum_of-append}
use Rattle.levels.specs.Counts.{total_of}

-- ---- sums

sum-on : (i : ℕ) (ns : List ℕ) → i < length ns → sum_of (drop i ns) ≡ get_or ns i 0 + sum_of (drop (i + 1) ns)
unfolding sum_of
sum-on i ns h = ap sum_of (drop-cons ns i 0 h) ∙ ap (λ (j : ℕ). get_or ns i 0 + sum_of (drop j ns)) (sym (add-one i))

pub sum-front : (i : ℕ) (ns : List ℕ) → i < length ns → sum_of (take (i + 1) ns) ≡ sum_of (take i ns) + get_or ns i 0
unfolding sum_of
sum-front i ns h =
    ap (λ (j : ℕ). sum_of (take j ns)) (add-one i)
    ∙ ap sum_of (take-suc ns i 0 h)
    ∙ sum_of-append (take i ns) (get_or ns i 0 ∷ [])
    ∙ omega arith

pub sum_less : (i n : ℕ) (ns : List ℕ) → i ≤ n → sum_of (take i ns) ≤ sum_of (take n ns)
unfolding sum_of
sum_less zero n ns h = omega arith
sum_less (suc i) zero ns h = absurd (omega arith)
sum_less (suc i) (suc n) [] h = omega arith
sum_less (suc i) (suc n) (m ∷ ns) h = omega (arith, sum_less i n ns (omega arith))

-- ---- the total: sum is that of the first i

pub record Adding (ns : List ℕ) (most sum i : ℕ) : Type 0 where
  pub whole : sum_of ns ≡ sum + sum_of (drop i ns)
  pub within : sum ≤ most

pub adding-start : (ns : List ℕ) (most : ℕ) → Adding ns most 0 0
adding-start ns most = record { whole = omega arith; within = omega arith }

module _ {ns : List ℕ} {most sum i : ℕ} (a : Adding ns most sum i) where
  pub adding-on : i < length ns → get_or ns i 0 ≤ most - sum → Adding ns most (sum + get_or ns i 0) (i + 1)
  adding-on h l = record { whole = omega (arith, a.whole, sum-on i ns h); within = omega (arith, a.within) }

  pub adding-over : i < length ns → most - sum < get_or ns i 0 → total_of ns most ≡ None
  adding-over h l =
      let o : most < sum_of ns = omega (arith, a.whole, a.within, sum-on i ns h) in
      rw (lt-leb (sum_of ns) most o)

  pub adding-end : length ns ≤ i → total_of ns most ≡ Some sum
  unfolding sum_of
  adding-end h =
      let s : sum_of ns ≡ sum = a.whole ∙ ap (λ (l : List ℕ). sum + sum_of l) (drop_of_length-le ns h) ∙ omega arith in
      let w : sum_of ns ≤ most = omega (arith, a.within) in
      rw (le-leb (sum_of ns) most w) (ap Some s)

-- ---- the copy: the first i are there

pub copy-on : (from to : List ℕ) (i : ℕ) → i < length from → i < length to
    → set (take i from ++ drop i to) i (get_or from i 0) ≡ take (i + 1) from ++ drop (i + 1) to
copy-on from to i h k =
    ap (λ (l : List ℕ). set (take i from ++ l) i (get_or from i 0)) (drop-cons to i 0 k)
    ∙ set_at (take i from) (get_or to i 0) (drop (suc i) to) (get_or from i 0) i (length-take-le i from (omega arith))
    ∙ sym (append_snoc (take i from) (get_or from i 0) (drop (suc i) to))
    ∙ ap (λ (l : List ℕ). l ++ drop (suc i) to) (sym (take-suc from i 0 h))
    ∙ ap (λ (j : ℕ). take j from ++ drop j to) (sym (add-one i))

-- ---- the places: those of the first i streams, and at is where the next one starts

pub record Placing (ns places : List ℕ) (start i at : ℕ) : Type 0 where
  pub done : (j : ℕ) → j < i → get_or places j 0 ≡ start + sum_of (take j ns)
  pub next : at ≡ start + sum_of (take i ns)

pub placing-start : (ns places : List ℕ) (start : ℕ) → Placing ns places start 0 start
unfolding sum_of
placing-start ns places start = record { done = λ j h. absurd (omega arith); next = omega arith }

module _ {ns places : List ℕ} {start i at : ℕ} (a : Placing ns places start i at) where
  pub placing-next : i < length ns → at + get_or ns i 0 ≡ start + sum_of (take (i + 1) ns)
  placing-next h = omega (arith, a.next, sum-front i ns h)

  pub placing-fits : (n : ℕ) → i < n → n ≤ length ns → start + sum_of (take n ns) < 2 ^ 64 → at + get_or ns i 0 < 2 ^ 64
  placing-fits n h l f = omega (arith, placing-next (omega arith), sum_less (i + 1) n ns (omega arith))

  -- where all of them fit
  pub placing-fits-all : i < length ns → start + sum_of ns < 2 ^ 64 → at + get_or ns i 0 < 2 ^ 64
  placing-fits-all h f =
      placing-fits (length ns) h (omega arith) (subst (λ (l : List ℕ). start + sum_of l < 2 ^ 64) (sym (take_all (length ns) ns (omega arith))) f)

  pub placing-on : i < length ns → i < length places → Placing ns (set places i at) start (i + 1) (at + get_or ns i 0)
  placing-on h l = record { done = λ j k. go j k (eqb j i) refl; next = placing-next h }
    where
      go : (j : ℕ) → j < i + 1 → (b : Bool) → eqb j i ≡ b → get_or (set places i at) j 0 ≡ start + sum_of (take j ns)
      go j k true e =
          subst (λ (x : ℕ). get_or (set places i at) x 0 ≡ start + sum_of (take x ns)) (sym (eqb-true j i e))
          (get_or-set_same places i at 0 l ∙ a.next)
      go j k false e =
          let f : j < i = omega (arith, eqb-false j i e) in
          get_or-set_other places i j at 0 (eqb-false j i e) ∙ a.done j f
