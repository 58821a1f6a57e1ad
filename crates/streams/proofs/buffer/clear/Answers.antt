-- `buffer::clear`: a run of zeros up to the end; past it, none.
use Prim.Native.Nat.{ℕ, ◌-◌, ◌≤◌, ◌<◌}
use mathlib.Core.List.{List}
use mathlib.Core.Path.{◌≡◌, refl, ◌∙◌, ap}
use native.Mathlib.Omega.{arith}
use borrow.Rule.Slice.PartMut.{mid_of, put_mid}
use lib.IntN.{ℤ, pos}
use lib.ListN.{length, replicate}
use lib.Seq.{sets}
use Rattle.laws.specs.Parts.{cleared}
use Rattle.laws.proofs.Parts.{sets-cleared}
use Rattle.flags.proofs.Written.{lent-filled}
use Rattle.streams.proofs.buffer.clear.Goals as goal

within : (buf new : List ℤ) (from : ℕ) → from < length buf → new ≡ replicate (length (mid_of from (length buf - from) buf)) (pos 0) →
    put_mid from (length buf - from) buf new ≡ cleared (pos 0) from buf
within buf new from h e = lent-filled buf from (length buf - from) (length buf - from) refl (omega arith) (pos 0) new e ∙ sets-cleared (pos 0) from buf

past : (buf : List ℤ) (from : ℕ) → length buf ≤ from → buf ≡ cleared (pos 0) from buf
past buf from h =
    let none : 0 ≡ length buf - from = omega arith in
    ap (λ n. sets buf from (replicate n (pos 0))) none ∙ sets-cleared (pos 0) from buf

pub returns-then-from-buf : goal.returns-then-from-buf
returns-then-from-buf c = within c.args.buf.now _ c.args.from c.if-from-buf.true (c.fill.ensures.after (λ y e. e))

pub returns-else-from-buf : goal.returns-else-from-buf
returns-else-from-buf c = past _ _ c.if-from-buf.false
