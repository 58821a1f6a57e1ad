-- `packs::keep`: the flags so far, and those of what is left of the streams.
use Prim.Native.Nat.{ℕ, ◌+◌, ◌≤◌, ◌<◌, ◌^◌}
use mathlib.Core.List.{List, ◌++◌, map, map-append}
use mathlib.Core.Path.{◌≡◌, sym, ◌∙◌, ap}
use native.Mathlib.Nat.{zero-add}
use native.Mathlib.Omega.{arith}
use lib.IntN.{ℤ, pos}
use lib.ListN.{length, drop, get_or, length-append, length-map}
use lib.Seq.{sets}
use lib.Signed.{mag}
use mir.Syntax.{w32}
use mir.Val.{of_z}
use Rattle.laws.proofs.Emits as E
use Rattle.snesl.specs.Streams.{bit}
use Rattle.snesl.specs.Transducers.{flag_of}
use Rattle.flags.specs.Segments.{leading}
use Rattle.streams.proofs.Reading.{zero-bool, other-bool}
use Rattle.segmentwise.proofs.Segment.{next-within, next-fits}
use Rattle.segmentwise.proofs.Keeping as K
use Rattle.segmentwise.proofs.Keeping.{keeps, whole, whole_long}
use Rattle.segmentwise.proofs.packs.keep.Invariants.{Head}
use Rattle.segmentwise.proofs.packs.keep.Goals as goal
use Rattle.segmentwise.proofs.packs.keep.Goals.{then-c-ne0, else-c-ne0}

module _ {bools flags old buf bs : List ℤ} {i to : ℕ} (a : Head bools flags old buf bs i to) where
  module _ (lt : i < length bools) {bs' : List ℤ} {count : ℕ} (e : count ≡ leading flag_of bs) (r : bs' ≡ drop (leading flag_of bs + 1) bs) where
    turn-F : mag (get_or bools i (pos 0)) < 2 ^ 31 → of_z w32 (get_or bools i (pos 0)) ≡ 0 → Head bools flags old buf bs' (i + 1) to
    turn-F h z =
        record {
          fits = next-fits bools bs i a.fits lt e r;
          room = a.room;
          emits = E.again a.emits (ap (map bit) (K.left_out bools bs i a.fits lt e r (zero-bool (get_or bools i (pos 0)) h z)));
        }

    module _ (f : of_z w32 (get_or bools i (pos 0)) ≡ 0 → ⊥) where
      to-come : map bit (keeps (drop i bools) bs) ≡ map bit (whole count) ++ map bit (keeps (drop (i + 1) bools) bs')
      to-come =
          ap (map bit) (K.kept_whole bools bs i a.fits lt e r (other-bool (get_or bools i (pos 0)) f)) ∙ map-append bit (whole count) (keeps (drop (i + 1) bools) bs')

      bits-long : length (map bit (whole count)) ≡ count + 1
      bits-long = length-map (whole count) bit ∙ whole_long count

      enough : to + count < length buf
      enough =
          let rest : List ℤ = map bit (keeps (drop (i + 1) bools) bs') in
          let l : length (map bit (keeps bools flags)) ≡ length (keeps bools flags) = length-map (keeps bools flags) bit in
          let more : length (map bit (keeps (drop i bools) bs)) ≡ length (map bit (whole count)) + length rest = ap length to-come ∙ length-append (map bit (whole count)) rest in
          omega (arith, E.long a.emits, E.same_length a.emits, a.room, bits-long)

      turn-T : {new : List ℤ} → new ≡ sets buf to (map bit (whole count)) → Head bools flags old new bs' (i + 1) (to + (count + 1))
      turn-T w =
          record {
            fits = next-fits bools bs i a.fits lt e r;
            room = a.room;
            emits = E.recount (E.puts a.emits (map bit (whole count)) (w ∙ ap (λ m. sets buf m (map bit (whole count))) (sym (zero-add to))) to-come) (ap (λ m. to + m) bits-long);
          }

  done : length bools ≤ i → buf ≡ sets old 0 (map bit (keeps bools flags))
  done end = (E.all a.emits (ap (map bit) (K.over bools bs i a.fits end))).1

pub next_segment-count-requires : goal.next_segment-count-requires
next_segment-count-requires c = next-within _ _ _ c.loop-c.invariant.fits c.loop-c-test.true

pub put_segment-requires : goal.put_segment-requires
put_segment-requires c = enough c.loop-c.invariant c.loop-c-test.true c.next_segment-count.ensures.count c.next_segment-count.ensures.rest c.if-c-ne0.true

pub overflow_add-to : goal.overflow_add-to
overflow_add-to c = omega (arith, enough c.loop-c.invariant c.loop-c-test.true c.next_segment-count.ensures.count c.next_segment-count.ensures.rest c.if-c-ne0.true)

pub overflow_add-to-then-c-ne0 : goal.overflow_add-to-then-c-ne0
overflow_add-to-then-c-ne0 c = omega (arith, enough c.loop-c.invariant c.loop-c-test.true c.next_segment-count.ensures.count c.next_segment-count.ensures.rest c.if-c-ne0.true)

pub loop-c-preserved : goal.loop-c-preserved
loop-c-preserved c =
    elim c.if-c-ne0.branch [
      | then-c-ne0 w ↦ rw (w.out-is, w.to-is) (turn-T c.loop-c.invariant c.loop-c-test.true c.next_segment-count.ensures.count c.next_segment-count.ensures.rest w.if-c-ne0.true w.put_segment.ensures)
      | else-c-ne0 w ↦ rw (w.out-is, w.to-is) (turn-F c.loop-c.invariant c.loop-c-test.true c.next_segment-count.ensures.count c.next_segment-count.ensures.rest (omega arith) w.if-c-ne0.false)
    ]

pub returns : goal.returns
returns c = done c.loop-c.invariant c.loop-c-test.false
