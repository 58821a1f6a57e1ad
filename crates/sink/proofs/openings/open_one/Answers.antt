-- By the sink's mode and whether the position is too far on.
use native.Mathlib.Omega.{arith}
use borrow.Author.Rules.{rules}
use mathlib.Core.List.{[], ◌∷◌}
use Rattle.snesl.specs.Listing.{with_ctrl_line}
use Rattle.sink.proofs.Using.{one-line-short}
use Rattle.sink.proofs.Sinking.{put_listed}
use Rattle.sink.proofs.openings.open_one.Goals as goal

pub put_one-sink-requires : goal.put_one-sink-requires
put_one-sink-requires c = record { end = omega (arith, c.if-sink-le-FAR.true, one-line-short c.args.out.0 c.args.control.0 (search rules) (search rules)) }

pub returns-then-sink-le-FAR : goal.returns-then-sink-le-FAR
returns-then-sink-le-FAR c = λ k s. put_listed s (with_ctrl_line (c.args.out.0 ∷ []) c.args.control.0 []) (search rules) c.if-sink-le-FAR.true
    (omega (arith, one-line-short c.args.out.0 c.args.control.0 (search rules) (search rules))) c.put_one-sink.ensures
