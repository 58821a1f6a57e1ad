-- `packs::measure`: how many were kept so far, and those of what is left of the streams.
use Prim.Native.Nat.{ℕ, ◌+◌, ◌-◌, ◌≤◌, ◌<◌, ◌^◌}
use mathlib.Core.List.{List}
use mathlib.Core.Path.{◌≡◌, ◌∙◌, ap}
use native.Mathlib.Omega.{arith}
use lib.IntN.{ℤ, pos}
use lib.ListN.{length, drop, get_or, length-append, length-drop}
use lib.Signed.{mag}
use mir.Syntax.{w32}
use mir.Val.{of_z}
use Rattle.snesl.specs.Transducers.{flag_of}
use Rattle.flags.specs.Segments.{leading}
use Rattle.streams.proofs.Reading.{zero-bool, other-bool}
use Rattle.segmentwise.proofs.Segment.{next-within, next-fits}
use Rattle.segmentwise.proofs.Keeping as K
use Rattle.segmentwise.proofs.Keeping.{keeps, whole, whole_long}
use Rattle.segmentwise.proofs.packs.measure.Invariants.{Head}
use Rattle.segmentwise.proofs.packs.measure.Goals as goal
use Rattle.segmentwise.proofs.packs.measure.Goals.{then-c-ne0, else-c-ne0}

module _ {bools flags bs : List ℤ} {i found : ℕ} (a : Head bools flags bs i found) where
  module _ (lt : i < length bools) {bs' : List ℤ} {count : ℕ} (e : count ≡ leading flag_of bs) (r : bs' ≡ drop (leading flag_of bs + 1) bs) where
    shorter : length bs' + (count + 1) ≡ length bs
    shorter =
        let l : length bs' ≡ length bs - (leading flag_of bs + 1) = ap length r ∙ length-drop (leading flag_of bs + 1) bs in
        omega (arith, next-within bools bs i a.fits lt)

    enough : found + (count + 1) ≤ length flags
    enough = omega (arith, a.few, shorter)

    turn-F : mag (get_or bools i (pos 0)) < 2 ^ 31 → of_z w32 (get_or bools i (pos 0)) ≡ 0 → Head bools flags bs' (i + 1) found
    turn-F h z =
        record {
          fits = next-fits bools bs i a.fits lt e r;
          few = omega (arith, a.few, shorter);
          same = a.same ∙ ap (λ l. found + length l) (K.left_out bools bs i a.fits lt e r (zero-bool (get_or bools i (pos 0)) h z));
        }

    turn-T : (of_z w32 (get_or bools i (pos 0)) ≡ 0 → ⊥) → Head bools flags bs' (i + 1) (found + (count + 1))
    turn-T f =
        let l : length (keeps (drop i bools) bs) ≡ length (whole count) + length (keeps (drop (i + 1) bools) bs') =
        ap length (K.kept_whole bools bs i a.fits lt e r (other-bool (get_or bools i (pos 0)) f)) ∙ length-append (whole count) (keeps (drop (i + 1) bools) bs') in
        record { fits = next-fits bools bs i a.fits lt e r; few = omega (arith, a.few, shorter); same = omega (arith, a.same, whole_long count) }

  done : length bools ≤ i → found ≡ length (keeps bools flags)
  done end = let l : length (keeps (drop i bools) bs) ≡ 0 = ap length (K.over bools bs i a.fits end) in omega (arith, a.same)

pub next_segment-count-requires : goal.next_segment-count-requires
next_segment-count-requires c = next-within _ _ _ c.loop-c.invariant.fits c.loop-c-test.true

pub overflow_add-found : goal.overflow_add-found
overflow_add-found c = omega (arith, enough c.loop-c.invariant c.loop-c-test.true c.next_segment-count.ensures.count c.next_segment-count.ensures.rest)

pub overflow_add-found-then-c-ne0 : goal.overflow_add-found-then-c-ne0
overflow_add-found-then-c-ne0 c = omega (arith, enough c.loop-c.invariant c.loop-c-test.true c.next_segment-count.ensures.count c.next_segment-count.ensures.rest)

pub loop-c-preserved : goal.loop-c-preserved
loop-c-preserved c =
    elim c.if-c-ne0.branch [
      | then-c-ne0 w ↦ rw w.found-is (turn-T c.loop-c.invariant c.loop-c-test.true c.next_segment-count.ensures.count c.next_segment-count.ensures.rest w.if-c-ne0.true)
      | else-c-ne0 w ↦ rw w.found-is (turn-F c.loop-c.invariant c.loop-c-test.true c.next_segment-count.ensures.count c.next_segment-count.ensures.rest (omega arith) w.if-c-ne0.false)
    ]

pub returns : goal.returns
returns c = done c.loop-c.invariant c.loop-c-test.false
