-- What a call of a transducer answers and leaves of its output, of what snesl says that the transducer answers. Its streams must fit (else
-- Unfit), then every element must have a value (else Negative or Outside), then there must be room (else NoRoom).
use Rattle.std.specs.Prelude.{ℕ, true, false, List, ◌++◌, ◌≡◌, leb, ℤ, length, drop, Result, Ok, Err}
use Rattle.snesl.specs.Streams.{len, elements}
use Rattle.snesl.specs.Transducers.{Answer, made, unfit, negative, outside}
use Rattle.streams.specs.declared.output.Failure.{Failure}
use Rattle.streams.specs.declared.output.Failure.TheVariants.{Unfit, Negative, Outside, NoRoom}

-- The most elements that any stream buffer of the product has: so many 32-bit numbers have their exact total in 64 bits.
abbrev pub widest_buffer : ℕ
widest_buffer = 65536

-- with room for so many elements: how many are made
abbrev pub answered : (room : ℕ) → Answer → Result ℕ Failure
answered room (made s) = elim (leb (length (elements s)) room) [ true ↦ Ok (len s) | false ↦ Err NoRoom ]
answered room (unfit k) = Err (Unfit k)
answered room (negative k) = Err (Negative k)
answered room (outside k) = Err (Outside k)

-- The output in front, and every other element as it was; where there is none, everything as it was. Only a result out of range is met while
-- others are written: what then stands there is whatever `new` has.
abbrev pub after : (old new : List ℤ) → Answer → List ℤ
after old new (made s) = elim (leb (length (elements s)) (length old)) [ true ↦ elements s ++ drop (length (elements s)) old | false ↦ old ]
after old new (unfit k) = old
after old new (negative k) = old
after old new (outside k) = new

-- r and `new` are what a call with `old` to write to answers and leaves of it, where snesl's answer is a
pub record Answers (old : List ℤ) (a : Answer) (r : Result ℕ Failure) (new : List ℤ) : Type 0 where
  pub says : r ≡ answered (length old) a
  pub leaves : new ≡ after old new a
