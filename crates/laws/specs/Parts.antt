-- Parts of a buffer: contracts say what stands where by these.
use Rattle.std.specs.Prelude.{ℕ, ◌+◌, ◌-◌, List, ◌++◌, length, take, drop, replicate}

-- the n elements from `at` on
unfoldable pub part : {A : Type 0} → (at n : ℕ) → List A → List A
part at n l = take n (drop at l)

-- l with w in the place of as many elements from `out` on
unfoldable pub written : {A : Type 0} → (out : ℕ) → List A → List A → List A
written out w l = take out l ++ w ++ drop (out + length w) l

-- l with every element from `out` on replaced by z
unfoldable pub cleared : {A : Type 0} → A → (out : ℕ) → List A → List A
cleared z out l = take out l ++ replicate (length l - out) z
