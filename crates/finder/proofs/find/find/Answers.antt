-- The part that is located lies within the job, and is the finder's; it starts where it stands.
use Prim.Native.Nat.{ℕ}
use mathlib.Core.Path.{ap, ◌∙◌}
use native.Mathlib.Nat.{add_comm}
use native.Mathlib.Omega.{arith}
use Rattle.finder.specs.Parts.{start_of}
use Rattle.finder.proofs.Parts.{within-job, finds}
use Rattle.finder.proofs.find.find.Goals as goal

pub overflow_add-end : goal.overflow_add-end
overflow_add-end c = omega (arith, within-job _ c.args.i c.locate-part.ensures)

pub slice_bounds-result-start : goal.slice_bounds-result-start
slice_bounds-result-start c = omega (arith, within-job _ c.args.i c.locate-part.ensures)

pub slice_bounds-result-end : goal.slice_bounds-result-end
slice_bounds-result-end c = omega (arith, within-job _ c.args.i c.locate-part.ensures)

pub returns : goal.returns
returns c = let job = c.args.bytes in
    let located-at = c.locate-part.ensures in record { result_value = finds _ c.args.i located-at; ref_ptr_value = ap (λ (n : ℕ). (job.ref_ptr.0, n)) (add_comm _ _) ∙ ap (start_of job.ref_ptr) located-at }
