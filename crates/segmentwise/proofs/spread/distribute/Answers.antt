-- `spread::distribute`: the elements so far, and those of what is left of the streams.
use Prim.Native.Nat.{ℕ, ◌+◌, ◌-◌, ◌≤◌, ◌<◌, ◌^◌}
use mathlib.Core.List.{List, ◌++◌}
use mathlib.Core.Path.{◌≡◌, sym, ◌∙◌, ap}
use native.Mathlib.Nat.{zero-add}
use native.Mathlib.Omega.{arith}
use borrow.Rule.Slice.PartMut.{mid_of, put_mid}
use lib.IntN.{ℤ, pos}
use lib.ListN.{length, drop, get_or, replicate, length-append, length-replicate}
use lib.Seq.{sets}
use lib.Signed.{mag}
use mir.Syntax.{w32}
use mir.Val.{to_z, of_z}
use Rattle.laws.proofs.Emits as E
use Rattle.laws.proofs.Whole.{read}
use Rattle.snesl.specs.Transducers.{flag_of, spread}
use Rattle.flags.specs.Segments.{leading}
use Rattle.flags.proofs.Clauses.{spread_end}
use Rattle.flags.proofs.Fronts.{front-spread}
use Rattle.flags.proofs.Written.{lent-filled}
use Rattle.segmentwise.proofs.Segment.{next-item, next-within, next-front, next-rest, next-fits, items-over}
use Rattle.segmentwise.proofs.spread.distribute.Invariants.{Head}
use Rattle.segmentwise.proofs.spread.distribute.Goals as goal

module _ {flags items old buf bs : List ℤ} {i to : ℕ} (a : Head flags items old buf bs i to) where
  module _ (lt : i < length items) {bs' : List ℤ} {count : ℕ} (e : count ≡ leading flag_of bs) (r : bs' ≡ drop (leading flag_of bs + 1) bs) where
    to-come : spread flag_of bs (drop i items) ≡ replicate count (get_or items i (pos 0)) ++ spread flag_of bs' (drop (i + 1) items)
    to-come =
        ap (spread flag_of bs) (next-item items bs i a.fits lt)
        ∙ front-spread flag_of (next-front items bs i a.fits lt e r) (get_or items i (pos 0)) (drop (i + 1) items)
        ∙ ap (λ l. replicate count (get_or items i (pos 0)) ++ spread flag_of l (drop (i + 1) items)) (sym (next-rest items bs i a.fits lt e r))

    enough : to + count ≤ length buf
    enough =
        let x : ℤ = get_or items i (pos 0) in
        let l : length (spread flag_of bs (drop i items)) ≡ length (replicate count x) + length (spread flag_of bs' (drop (i + 1) items)) =
        ap length to-come ∙ length-append (replicate count x) (spread flag_of bs' (drop (i + 1) items)) in
        let m : length (replicate count x) ≡ count = length-replicate count x in
        omega (arith, E.long a.emits, E.same_length a.emits, a.room)

    turn : mag (get_or items i (pos 0)) < 2 ^ 31 → {new : List ℤ} →
        new ≡ replicate (length (mid_of to (to + count - to) buf)) (to_z w32 (of_z w32 (get_or items i (pos 0)))) →
        Head flags items old (put_mid to (to + count - to) buf new) bs' (i + 1) (to + count)
    turn h {new} w =
        let x : ℤ = get_or items i (pos 0) in
        let same : to + count - to ≡ count = omega arith in
        let filled : new ≡ replicate (length (mid_of to (to + count - to) buf)) x = w ∙ ap (replicate (length (mid_of to (to + count - to) buf))) (read x h) in
        let stored : put_mid to (to + count - to) buf new ≡ sets buf (0 + to) (replicate count x) =
        lent-filled buf to (to + count - to) count same enough x new filled ∙ ap (λ m. sets buf m (replicate count x)) (sym (zero-add to)) in
        record {
          fits = next-fits items bs i a.fits lt e r;
          room = a.room;
          emits = E.recount (E.puts a.emits (replicate count x) stored to-come) (ap (λ m. to + m) (length-replicate count x));
        }

  done : length items ≤ i → buf ≡ sets old 0 (spread flag_of flags items)
  done end = (E.all a.emits (ap (λ l. spread flag_of l (drop i items)) (items-over items bs i a.fits end) ∙ spread_end flag_of (drop i items))).1

pub next_segment-count-requires : goal.next_segment-count-requires
next_segment-count-requires c = next-within _ _ _ c.loop-x.invariant.fits c.loop-x-test.true

pub overflow_add-to : goal.overflow_add-to
overflow_add-to c = omega (arith, enough c.loop-x.invariant c.loop-x-test.true c.next_segment-count.ensures.count c.next_segment-count.ensures.rest)

pub slice_bounds-fill-end : goal.slice_bounds-fill-end
slice_bounds-fill-end c = enough c.loop-x.invariant c.loop-x-test.true c.next_segment-count.ensures.count c.next_segment-count.ensures.rest

pub loop-x-preserved : goal.loop-x-preserved
loop-x-preserved c = turn c.loop-x.invariant c.loop-x-test.true c.next_segment-count.ensures.count c.next_segment-count.ensures.rest (omega arith) (c.fill.ensures.after (λ y e. e))

pub returns : goal.returns
returns c = done c.loop-x.invariant c.loop-x-test.false
