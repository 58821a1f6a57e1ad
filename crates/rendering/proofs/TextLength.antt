-- A value's text is at most 22 bytes for each of its elements, so that positions in it are small numbers: what that rests on.
use Prim.Native.Nat.{ℕ, zero, suc, ◌+◌, ◌*◌, ◌≤◌, ◌<◌, ◌^◌}
use mathlib.Core.List.{List, ◌++◌, map}
use mathlib.Core.Path.{◌≡◌, ap}
use native.Mathlib.Nat.{suc-mul, mul-le-mul_right}
use native.Mathlib.Omega.{arith}
use lib.IntN.{ℤ, pos, negsuc}
use lib.ListN.{length, get_or, drop, length-append, length-take, length-drop}
use lib.Signed.{mag}
use Rattle.snesl.specs.declared.code.Base.{Base}
use Rattle.snesl.specs.Values.{type_of, Val}
use Rattle.snesl.specs.Streams.{bit}
use Rattle.snesl.specs.Representation.{concat, segments}
use Rattle.snesl.specs.Text.{show_int}
use Rattle.snesl.proofs.Representing.Elements.{length-elements}
use Rattle.valuetext.specs.Laying.{cells}
use Rattle.rendering.specs.Standing.{StandsAt, Stands}
use Rattle.rendering.specs.Showing.{size}
use Rattle.decimals.proofs.NumberWriting.{at-most-20}
use Rattle.valuetext.proofs.Laying.{concat-append, segments-length, bits-length}

pub int-length : (z : ℤ) → mag z < 2147483648 → length (show_int z) ≤ 21
int-length (pos n) h = omega (arith, at-most-20 n (omega arith))
int-length (negsuc n) h = omega (arith, at-most-20 (suc n) (omega arith))

pub size-append : (β : Base) (d : ℕ) (vs ws : List (Val (type_of β d))) → size β d (vs ++ ws) ≡ size β d vs + size β d ws
unfolding size
size-append β zero vs ws = length-append vs ws
size-append β (suc d) vs ws =
    omega (arith, ap (size β d) (concat-append vs ws), size-append β d (concat vs) (concat ws), segments-length vs ws)

stands-length : (b : List ℤ) (c : ℕ) (zs : List ℤ) → StandsAt b c zs → length zs ≤ length b
stands-length b c zs s = omega (arith, ap length s, length-take (length zs) (drop c b), length-drop c b)

size-most : (β : Base) (d : ℕ) (b : List ℤ) (cs : List ℕ) (vs : List (Val (type_of β d))) → Stands β d b cs vs → size β d vs ≤ suc d * length b
unfolding Stands size
size-most β zero b cs vs s = omega (arith, stands-length b (get_or cs 0 0) (cells β vs) s, length-elements β vs, suc-mul 0 (length b))
size-most β (suc d) b cs vs s =
    omega (
      arith,
      size-most β d b cs (concat vs) s.0,
      stands-length b (get_or cs (suc d) 0) (map bit (segments vs)) s.1,
      bits-length vs,
      suc-mul (suc d) (length b),
    )

pub size_small : (β : Base) (d : ℕ) (b : List ℤ) (cs : List ℕ) (vs : List (Val (type_of β d))) → Stands β d b cs vs → d ≤ 8 → length b ≤ 1048576 → 22 * size β d vs < 2 ^ 32
size_small β d b cs vs s h l =
    let m : suc d * length b ≤ 9 * length b = mul-le-mul_right (length b) (omega arith) in
    omega (arith, size-most β d b cs vs s)
