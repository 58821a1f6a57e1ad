-- How long the pieces of lines can get: an id is a word, so it takes at most 21 bytes.
use Prim.Native.Nat.{ℕ, suc, ◌*◌, ◌≤◌, ◌<◌, ◌^◌}
use native.Mathlib.Omega.{arith}
use mathlib.Core.Bool.{Bool, true, false}
use mathlib.Core.List.Memᴰ
use mathlib.Core.List.{List, [], ◌∷◌}
use mathlib.Core.Path.{refl, ap}
use lib.Dec.{eqb, ltb}
use lib.IntN.{ℤ, pos, negsuc}
use lib.ListN.{length, length-append}
use lib.Signed.{mag}
use Rattle.snesl.specs.Text.{show_int}
use Rattle.snesl.specs.Listing.{id_text, ids_text}
use Rattle.snesl.specs.Programs.{insert, ascending}
use Rattle.snesl.proofs.Compiled.Members.{◌∈◌}
use Rattle.decimals.proofs.NumberWriting.{at-most-20}
use Rattle.lines.specs.Pieces.{next_text, rest_text}
use Rattle.lines.proofs.IdLists.{ids-text}

abbrev pub Small : ℕ → Type 0
Small n = n < 2 ^ 64

pub id-short : (s : ℕ) → Small s → length (id_text s) ≤ 21
id-short s h = let n = at-most-20 s h in omega arith

next-short : (first : Bool) (s : ℕ) → Small s → length (next_text first s) ≤ 22
next-short true s h = let n = id-short s h in omega arith
next-short false s h = let n = id-short s h in omega arith

pub rest-short : (first : Bool) (ss : List ℕ) → ((u : ℕ) → u ∈ ss → Small u) → length (rest_text first ss) ≤ 22 * length ss
unfolding rest_text
rest-short first [] h = omega arith
rest-short first (s ∷ ss) h =
    let n = next-short first s (h s (Memᴰ.head refl)) in
    let m = rest-short false ss (λ u k. h u (Memᴰ.tail k)) in
    omega (arith, length-append (next_text first s) (rest_text false ss))

pub ids_short : (ss : List ℕ) → ((u : ℕ) → u ∈ ss → Small u) → length (ids_text ss) ≤ 22 * length ss
ids_short ss h = let n = rest-short true ss h in omega (arith, ap length (ids-text ss))

-- lists of ids get no longer
insert-length : (s : ℕ) (ts : List ℕ) → length (insert s ts) ≤ suc (length ts)
unfolding insert
insert-length s [] = omega arith
insert-length s (t ∷ ts) = go (ltb s t) (eqb s t) (insert-length s ts)
  where
    go : (b c : Bool) → length (insert s ts) ≤ suc (length ts)
        → length {A = ℕ} (elim b [ true ↦ s ∷ t ∷ ts | false ↦ elim c [ true ↦ t ∷ ts | false ↦ t ∷ insert s ts ] ]) ≤ suc (suc (length ts))
    go true c h = omega arith
    go false true h = omega arith
    go false false h = omega arith

pub ascending-length : (ss : List ℕ) → length (ascending ss) ≤ length ss
unfolding ascending
ascending-length [] = omega arith
ascending-length (s ∷ ss) = let n = insert-length s (ascending ss) in let m = ascending-length ss in omega arith

-- an int's text
pub int-short : (z : ℤ) → mag z < 2 ^ 31 → length (show_int z) ≤ 21
int-short (pos n) h = let q = at-most-20 n (omega arith) in omega arith
int-short (negsuc n) h = let q = at-most-20 (suc n) (omega arith) in omega arith
