-- `scans::scan`: the totals so far, and those of what is left of the streams; the first one out of range is among these.
use Prim.Native.Nat.{ℕ, suc, ◌+◌, ◌-◌, ◌≤◌, ◌<◌}
use mathlib.Core.Bool.{Bool, true, false}
use mathlib.Core.List.{List, [], ◌++◌}
use mathlib.Core.Path.{◌≡◌, sym, ◌∙◌, ap}
use native.Mathlib.Nat.{zero-add}
use native.Mathlib.Omega.{arith}
use lib.IntN.{ℤ}
use lib.ListN.{length, length-drop}
use lib.Seq.{sets, length-take-le}
use Rattle.std.specs.Prelude.{Ok, Err}
use Rattle.laws.proofs.Emits as E
use Rattle.laws.proofs.Never.{never}
use Rattle.snesl.specs.Transducers.{each_f, flag_of, misfit, scans, first_outside}
use Rattle.flags.specs.Segments.{running}
use Rattle.flags.proofs.Clauses.{scans-end}
use Rattle.flags.proofs.Fronts.{front-scans}
use Rattle.streams.specs.Walks.{told}
use Rattle.streams.specs.declared.output.Failure.TheVariants.{Outside}
use Rattle.streams.proofs.Filling.{values, outside-none}
use Rattle.segmentwise.specs.Segmented.{Runs, Scans}
use Rattle.segmentwise.proofs.Scanning.{restart, tagged, tagged-values, running-long, all-inside, one_outside}
use Rattle.segmentwise.proofs.Segment.{Cut, Segment, cut, segment, ends-within, items-within, finished}
use Rattle.segmentwise.proofs.scans.scan.Invariants.{Head}
use Rattle.segmentwise.proofs.scans.scan.Goals as goal

module _ {n : ℕ} {s : ℤ} {flags items old buf bs xs : List ℤ} {to k : ℕ} (a : Head n s flags items old buf bs xs to k) where
  module _ (lt : k < n) {bs' these xs' : List ℤ} {count : ℕ} (cut : Cut bs xs count bs' these xs') where
    here : Segment each_f k n count bs xs
    here = segment each_f k n bs xs lt a.fits count cut.is

    to-come : scans flag_of s k s bs xs ≡ tagged k (running s these) ++ scans flag_of s (k + 1) s bs' xs'
    to-come =
        let e1 : suc k ≡ k + 1 = omega arith in
        front-scans flag_of here.front s k s xs here.items
        ∙ sym (λ q. tagged k (running s (cut.front q)) ++ scans flag_of s (sym e1 q) s (cut.rest q) (cut.back q))

    module _ {inside : Bool} {new : List ℤ} (r : Runs s these to buf inside new) where
      turn : inside ≡ true → Head n s flags items old new bs' xs' (to + count) (k + 1)
      turn q =
          let long : length (running s these) ≡ count = running-long s these ∙ ap length cut.front ∙ length-take-le count xs here.items in
          let l : length xs' ≡ length xs - count = ap length cut.back ∙ length-drop count xs in
          record {
            fits = (λ x. misfit flag_of each_f (k + 1) (n - (k + 1)) (cut.rest x) (cut.back x)) ∙ here.rest;
            items_left = omega (arith, a.items_left, here.items);
            emits =
                E.recount
                (E.puts a.emits (running s these) (r.wrote q ∙ ap (λ m. sets buf m (running s these)) (sym (zero-add to)))
                (ap values to-come ∙ tagged-values k (running s these) (scans flag_of s (k + 1) s bs' xs')))
                (ap (λ m. to + m) long);
            first = a.first ∙ ap first_outside to-come ∙ all-inside k (running s these) _ (sym r.says ∙ q);
          }

      stop : inside ≡ false → Scans (scans flag_of s 0 s flags items) old (Err (Outside k)) new
      stop q =
          record {
            says = sym (ap (told (λ x. Outside x)) (a.first ∙ ap first_outside to-come ∙ one_outside k (running s these) _ (sym r.says ∙ q)));
            wrote = λ z. never (cc);
          }

  over : n ≤ k → Scans (scans flag_of s 0 s flags items) old (Ok tt) buf
  over end =
      let nothing : scans flag_of s k s bs xs ≡ [] = ap (λ l. scans flag_of s k s l xs) (finished each_f bs xs k n end a.fits) ∙ scans-end flag_of s k s xs in
      record { says = sym (ap (told (λ x. Outside x)) (a.first ∙ ap first_outside nothing ∙ outside-none)); wrote = λ z. (E.all a.emits (ap values nothing)).1 }

pub next_segment-count-requires : goal.next_segment-count-requires
next_segment-count-requires c = ends-within each_f _ _ _ _ c.loop-k-test.true c.loop-k.invariant.fits

pub split_at-requires : goal.split_at-requires
split_at-requires c = items-within each_f _ _ _ _ c.loop-k-test.true c.loop-k.invariant.fits _ c.next_segment-count.ensures.count

pub returns-then-not-run : goal.returns-then-not-run
returns-then-not-run c = restart _ _ c.ranges.start (stop c.loop-k.invariant c.loop-k-test.true
    (cut c.next_segment-count.ensures.count c.next_segment-count.ensures.rest c.split_at.ensures.front c.split_at.ensures.back) c.run.ensures c.if-not-run.true)

pub loop-k-preserved : goal.loop-k-preserved
loop-k-preserved c = turn c.loop-k.invariant c.loop-k-test.true
    (cut c.next_segment-count.ensures.count c.next_segment-count.ensures.rest c.split_at.ensures.front c.split_at.ensures.back) c.run.ensures c.if-not-run.false

pub returns : goal.returns
returns c = restart _ _ c.ranges.start (over c.loop-k.invariant c.loop-k-test.false)
