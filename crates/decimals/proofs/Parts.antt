-- The part of a slice behind a start, `&s[k..]`, as a list.
use Rattle.std.proofs.Common.{◌≡◌, ℕ, ◌-◌, List, length, take, drop, arith, length-drop, take_all}

pub rest_of : {A : Type 0} (l : List A) (k : ℕ) → take (length l - k) (drop k l) ≡ drop k l
rest_of l k = take_all (length l - k) (drop k l) (omega (arith, length-drop k l))
