-- `buffer::fill`: the part between is filled with the number as it was handed in; where there is no part, nothing is.
use Prim.Native.Nat.{◌-◌}
use mathlib.Core.List.{List}
use mathlib.Core.Path.{refl, ◌∙◌, ap}
use native.Mathlib.Omega.{arith}
use lib.IntN.{ℤ}
use lib.ListN.{length, replicate}
use mir.Facts.{to_z-of_z}
use borrow.Rule.Slice.PartMut.{mid_of}
use Rattle.flags.proofs.Written.{lent-filled}
use Rattle.streams.proofs.buffer.fill.Goals as goal

pub returns-then-from-to : goal.returns-then-from-to
returns-then-from-to c =
    let at = c.args.from in
    let n = c.args.to - c.args.from in
    lent-filled c.args.buf.now at n n refl (omega (arith, c.if-from-to.true, c.requires)) c.args.z _
    (c.fill.ensures.after (λ y e. e) ∙ ap (replicate (length (mid_of at n c.args.buf.now))) (to_z-of_z c.ranges.z))
