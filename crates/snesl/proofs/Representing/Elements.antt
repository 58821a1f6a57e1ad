-- Scalars of a base and how they stand in a stream buffer: written and read they are themselves, and what is accepted as elements of a base is read
-- and written as it stands.
use Prim.Native.Nat.{ℕ, zero, suc}
use native.Mathlib.Omega.{arith}
use mathlib.Core.Bool.{Bool, true, false}
use mathlib.Core.List.{List, [], ◌∷◌, ◌++◌, map-append}
use mathlib.Core.Option.{some}
use mathlib.Core.Path.{◌≡◌, refl, sym, ap}
use lib.IntN.{ℤ, pos, negsuc}
use lib.ListN.{length, length-map}
use Rattle.laws.proofs.Options.{none-some}
use Rattle.laws.proofs.Tests.{both_true}
use Rattle.snesl.specs.declared.code.Base.{Base}
use Rattle.snesl.specs.declared.code.Base.TheVariants as base
use Rattle.snesl.specs.Values.{Element}
use Rattle.snesl.specs.Streams.{data_of, elements, bit, ◌then◌}
use Rattle.snesl.specs.Transducers.{flag_of, bool_of}
use Rattle.snesl.specs.Representation.{is_element, are_elements, scalars}
use Rattle.snesl.proofs.Bools.{bools-bits}

-- F as 0 and T as 1 is read as it was written, and nothing else is read
pub flag_of-bit : (b : Bool) → flag_of (bit b) ≡ some b
flag_of-bit false = refl
flag_of-bit true = refl

pub bit-flag_of : (z : ℤ) (b : Bool) → flag_of z ≡ some b → bit b ≡ z
bit-flag_of (pos zero) b h = let e : false ≡ b = cc in ap bit (sym e)
bit-flag_of (pos (suc zero)) b h = let e : true ≡ b = cc in ap bit (sym e)
bit-flag_of (pos (suc (suc n))) b h = none-some h
bit-flag_of (negsuc n) b h = none-some h

bit-bool_of : (z : ℤ) → is_element base.Bool z ≡ true → bit (bool_of z) ≡ z
bit-bool_of (pos zero) h = refl
bit-bool_of (pos (suc zero)) h = refl
bit-bool_of (pos (suc (suc n))) h = let z : ◌≡◌ {A = ℕ} 0 1 = cc in absurd (omega arith)
bit-bool_of (negsuc n) h = let z : ◌≡◌ {A = ℕ} 0 1 = cc in absurd (omega arith)

-- one element for each scalar
pub length-elements : (b : Base) (vs : List (Element b)) → length (elements (data_of b vs)) ≡ length vs
length-elements base.Int zs = refl
length-elements base.Bool cs = length-map cs bit

pub length-scalars : (b : Base) (zs : List ℤ) → length (scalars b zs) ≡ length zs
length-scalars base.Int zs = refl
length-scalars base.Bool zs = length-map zs bool_of

-- what is written is accepted, and read as it was
pub elements-accepted : (b : Base) (vs : List (Element b)) → are_elements b (elements (data_of b vs)) ≡ true
unfolding are_elements
elements-accepted base.Int [] = refl
elements-accepted base.Int (z ∷ zs) = elements-accepted base.Int zs
elements-accepted base.Bool [] = refl
elements-accepted base.Bool (false ∷ cs) = elements-accepted base.Bool cs
elements-accepted base.Bool (true ∷ cs) = elements-accepted base.Bool cs

pub scalars-elements : (b : Base) (vs : List (Element b)) → scalars b (elements (data_of b vs)) ≡ vs
scalars-elements base.Int zs = refl
scalars-elements base.Bool cs = bools-bits cs

-- and the other way round
pub elements-scalars : (b : Base) (zs : List ℤ) → are_elements b zs ≡ true → elements (data_of b (scalars b zs)) ≡ zs
unfolding are_elements
elements-scalars base.Int zs h = refl
elements-scalars base.Bool [] h = refl
elements-scalars base.Bool (z ∷ zs) h =
    let tests = both_true (is_element base.Bool z) (are_elements base.Bool zs) h in
    λ i. bit-bool_of z tests.0 i ∷ elements-scalars base.Bool zs tests.1 i

-- scalars put together have their streams and their elements put together
pub data-append : (b : Base) (vs ws : List (Element b)) → data_of b (vs ++ ws) ≡ data_of b vs then data_of b ws
data-append base.Int vs ws = refl
data-append base.Bool vs ws = refl

pub elements-append : (b : Base) (vs ws : List (Element b))
    → elements (data_of b (vs ++ ws)) ≡ elements (data_of b vs) ++ elements (data_of b ws)
elements-append base.Int vs ws = refl
elements-append base.Bool vs ws = map-append bit vs ws
