-- `scans::run`: the totals before the items that are left.
use Prim.Native.Nat.{ℕ, ◌+◌, ◌≤◌, ◌<◌, ◌^◌}
use mathlib.Core.Bool.{Bool, true, false, ◌&&◌}
use mathlib.Core.List.{List, [], ◌∷◌}
use mathlib.Core.Path.{◌≡◌, sym, ◌∙◌, ap, transport}
use native.Mathlib.Numerals.{add-one}
use native.Mathlib.Omega.{arith}
use borrow.Author.Tests.{ltb-true}
use lib.IntN.{ℤ, pos, ◌+ℤ◌}
use lib.ListN.{length, drop, get_or, set, drop_of_length-le}
use lib.Seq.{drop-cons}
use lib.Signed.{mag}
use mir.Facts.{to_z-of_z}
use mir.Syntax.{w32, w64}
use mir.Val.{SFits, to_z, of_z}
use Rattle.laws.specs.Range.{fitting, held_of}
use Rattle.laws.proofs.Emits as E
use Rattle.laws.proofs.Never.{never}
use Rattle.laws.proofs.Whole.{mag_sum, read, wide, held-inside}
use Rattle.flags.specs.Segments.{running}
use Rattle.streams.specs.Walks.{all_inside}
use Rattle.streams.proofs.Filling.{inside-next, inside-end}
use Rattle.segmentwise.specs.Segmented.{Runs}
use Rattle.segmentwise.proofs.Scanning.{tagged, running-next, running-end}
use Rattle.segmentwise.proofs.scans.run.Invariants.{Head}
use Rattle.segmentwise.proofs.scans.run.Goals as goal

module _ {items : List ℤ} {start : ℤ} {to : ℕ} {old buf : List ℤ} {i : ℕ} {t : ℤ} (a : Head items start to old buf i t) where
  module _ (lt : i < length items) {b : Bool} (p : b ≡ fitting t) where
    to-come : running t (drop i items) ≡ t ∷ running (t +ℤ get_or items i (pos 0)) (drop (i + 1) items)
    to-come =
        ap (running t) (drop-cons items i (pos 0) lt ∙ ap (λ m. get_or items i (pos 0) ∷ drop m items) (sym (add-one i)))
        ∙ running-next t (get_or items i (pos 0)) (drop (i + 1) items)

    -- whether all are in range, by this one and those behind it
    tells : {c : Bool} → b ≡ c → all_inside (tagged 0 (running start items)) ≡ c && all_inside (tagged 0 (running (t +ℤ get_or items i (pos 0)) (drop (i + 1) items)))
    tells q =
        a.all
        ∙ ap (λ l. all_inside (tagged 0 l)) to-come
        ∙ inside-next 0 t (tagged 0 (running (t +ℤ get_or items i (pos 0)) (drop (i + 1) items)))
        ∙ ap (λ c. c && all_inside (tagged 0 (running (t +ℤ get_or items i (pos 0)) (drop (i + 1) items)))) (sym p ∙ q)

    turn : b ≡ true → mag (get_or items i (pos 0)) < 2 ^ 31 → {v w : ℤ} {new : List ℤ} → v ≡ held_of t → new ≡ set buf (to + i) (to_z w32 (of_z w32 v)) →
        w ≡ to_z w32 (of_z w32 (get_or items i (pos 0))) → Head items start to old new (i + 1) (to_z w64 (of_z w64 (t +ℤ to_z w64 (of_z w64 w))))
    turn q h {v} {w} {new} held s e =
        let inside : fitting t ≡ true = sym p ∙ q in
        let small : mag t < 2147483648 = ltb-true (mag t) 2147483648 inside in
        let is : to_z w32 (of_z w32 v) ≡ t = ap (λ y. to_z w32 (of_z w32 y)) (held ∙ held-inside t inside) ∙ read t small in
        let fits : SFits w64 (t +ℤ get_or items i (pos 0)) = record { sfits = omega (arith, mag_sum t (get_or items i (pos 0)), a.size) } in
        rw (e, wide (get_or items i (pos 0)) h, to_z-of_z fits)
        (record {
          size = omega (arith, mag_sum t (get_or items i (pos 0)));
          emits = E.put a.emits t (s ∙ ap (set buf (to + i)) is) to-come;
          all = tells q;
        })

    stop : b ≡ false → Runs start items to old false buf
    stop q = record { says = sym (tells q); wrote = λ z. never (cc) }

  over : length items ≤ i → Runs start items to old true buf
  over end =
      let nothing : running t (drop i items) ≡ [] = ap (running t) (drop_of_length-le items end) ∙ running-end t in
      record { says = sym (a.all ∙ ap (λ z. all_inside (tagged 0 z)) nothing ∙ inside-end); wrote = λ z. (E.all a.emits nothing).1 }

-- the first total is `start` itself
restart : {start : ℤ} {xs old new : List ℤ} {to : ℕ} {inside : Bool} → SFits w32 start → Runs (to_z w32 (of_z w32 start)) xs to old inside new → Runs start xs to old inside new
restart {start} {xs} {old} {new} {to} {inside} f r = transport (λ i. Runs (to_z-of_z f i) xs to old inside new) r

pub returns-then-not-in_range : goal.returns-then-not-in_range
returns-then-not-in_range c = restart c.ranges.start (stop c.loop-i.invariant c.loop-i-test.true c.in_range.ensures c.if-not-in_range.true)

pub loop-i-preserved : goal.loop-i-preserved
loop-i-preserved c = turn c.loop-i.invariant c.loop-i-test.true c.in_range.ensures c.if-not-in_range.false (omega arith) c.held.ensures c.store.ensures c.from-total-in-loop-i.ensures

pub returns : goal.returns
returns c = restart c.ranges.start (over c.loop-i.invariant c.loop-i-test.false)
