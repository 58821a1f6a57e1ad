-- `writing::put_segment`: the F's are filled in, and the T is one store more.
use Prim.Native.Nat.{ℕ, zero, suc, ◌+◌, ◌-◌, ◌<◌}
use mathlib.Core.Bool.{true, false}
use mathlib.Core.List.{List, [], ◌∷◌, ◌++◌, map}
use mathlib.Core.Path.{◌≡◌, refl, sym, ◌∙◌, ap}
use native.Mathlib.Omega.{arith}
use borrow.Rule.Slice.PartMut.{mid_of, put_mid}
use lib.IntN.{ℤ, pos}
use lib.ListN.{length, replicate, set, length-replicate}
use lib.Seq.{sets}
use Rattle.laws.proofs.Parts.{sets-append}
use Rattle.snesl.specs.Streams.{bit}
use Rattle.flags.proofs.Written.{lent-filled}
use Rattle.flags.proofs.writing.put_segment.Goals as goal

stored : (n : ℕ) → map bit (replicate n false ++ true ∷ []) ≡ replicate n (pos 0) ++ pos 1 ∷ []
stored zero = refl
stored (suc n) = ap (λ l. pos 0 ∷ l) (stored n)

done : (buf new : List ℤ) (at n : ℕ) → at + n < length buf → new ≡ replicate (length (mid_of at (at + n - at) buf)) (pos 0) →
    set (put_mid at (at + n - at) buf new) (at + n) (pos 1) ≡ sets buf at (map bit (replicate n false ++ true ∷ []))
done buf new at n h e =
    let same : at + n - at ≡ n = omega arith in
    ap (λ l. set l (at + n) (pos 1)) (lent-filled buf at (at + n - at) n same (omega arith) (pos 0) new e)
    ∙ ap (λ m. set (sets buf at (replicate n (pos 0))) (at + m) (pos 1)) (sym (length-replicate n (pos 0)))
    ∙ sym (sets-append (replicate n (pos 0)) (pos 1 ∷ []) buf at)
    ∙ ap (sets buf at) (sym (stored n))

pub returns : goal.returns
returns c = done c.args.buf.now _ c.args.at c.args.n c.requires (c.fill.ensures.after (λ y e. e))
