-- The transducers with arithmetic: their exact results are those of the rules, and they stop exactly if one is out of range.
use Prim.Native.Nat.{ℕ, zero, suc, ◌+◌, ◌≤◌}
use native.Mathlib.Omega.{arith}
use native.Mathlib.Nat.{zero-add, suc-add}
use native.Mathlib.Numerals.{add-one}
use mathlib.Core.Path.{◌≡◌, refl, ap, ap₂, ◌∙◌, sym}
use mathlib.Core.Bool.{Bool, true, false}
use mathlib.Core.List.{List, [], ◌∷◌, ◌++◌, map}
use mathlib.Core.Option.{Option, some, none}
use lib.IntN.{ℤ, pos, negsuc, ◌+ℤ◌, +ℤ_assoc, +ℤ_idl, +ℤ_idr}
use lib.ListN.{length, replicate, length-append}
use borrow.Author.Tests.{lt-ltb, ltb-true}
use Rattle.snesl.specs.Values.{in_range, total}
use Rattle.snesl.specs.Evaluation.{and_then, within, counting, up_to, all_of}
use Rattle.snesl.specs.Transducers.{first_outside, first_negative, pairwise, pluses, sums, scans, unary}
use Rattle.snesl.specs.Charges.{times}
use Rattle.snesl.specs.Representation.{concat, segments}
use Rattle.snesl.proofs.Correctness.Segments.{segment}

-- an exact result without its element
abbrev pub result : ℕ × ℤ → ℤ
result r = r.1

-- zs are all in range, and then they are what the rules give; or one is not
pub data Ranged (zs : List ℤ) : Option (List ℤ) → Option ℕ → Type 0 where
  all_in : Ranged zs (some zs) none
  one_out : {k : ℕ} → Ranged zs none (some k)

pub ranged : (rs : List (ℕ × ℤ)) → Ranged (map result rs) (all_of within (map result rs)) (first_outside rs)
unfolding all_of first_outside
ranged [] = all_in
ranged (r ∷ rs) = go (in_range r.1) (ranged rs)
  where
    go : {o : Option (List ℤ)} {f : Option ℕ} (b : Bool)
        → Ranged (map result rs) o f
        → Ranged
        (r.1 ∷ map result rs)
        (and_then (elim b [ true ↦ some r.1 | false ↦ none ]) (λ z. and_then o (λ zs. some (z ∷ zs))))
        (elim b [ true ↦ f | false ↦ some r.0 ])
    go true all_in = all_in
    go true one_out = one_out
    go false h = one_out

-- MapTwo+
module _ {R : Type 0} (f g : R → ℤ) where
  pub results-pluses : (rs : List R) (k : ℕ) → map result (pluses k (map f rs) (map g rs)) ≡ map (λ r. f r +ℤ g r) rs
  unfolding pluses
  results-pluses [] k = refl
  results-pluses (r ∷ rs) k = ap (λ zs. (f r +ℤ g r) ∷ zs) (results-pluses rs (suc k))

-- an operation on each pair
pub pairwise-each : {R A B C : Type 0} (k : A → B → C) (f : R → A) (g : R → B) (rs : List R) → pairwise k (map f rs) (map g rs) ≡ map (λ r. k (f r) (g r)) rs
unfolding pairwise
pairwise-each k f g [] = refl
pairwise-each k f g (r ∷ rs) = ap (λ l. k (f r) (g r) ∷ l) (pairwise-each k f g rs)

-- SumPlus
sums-segment : (l : List ℤ) (k : ℕ) (sofar : ℤ) (bs : List Bool) (xs : List ℤ)
    → sums some k sofar (segment (length l) bs) (l ++ xs) ≡ (k, sofar +ℤ total l) ∷ sums some (suc k) (pos 0) bs xs
unfolding sums total
sums-segment [] k sofar bs xs = rw (+ℤ_idr sofar)
sums-segment (z ∷ l) k sofar bs xs = sums-segment l k (sofar +ℤ z) bs xs ∙ rw (+ℤ_assoc sofar z (total l))

pub results-sums : (ls : List (List ℤ)) (k : ℕ) → map result (sums some k (pos 0) (segments ls) (concat ls)) ≡ map total ls
unfolding sums segments concat
results-sums [] k = refl
results-sums (l ∷ ls) k =
    ap (map result) (sums-segment l k (pos 0) (segments ls) (concat ls))
    ∙ ap₂ (λ z zs. z ∷ zs) (+ℤ_idl (total l)) (results-sums ls (suc k))

-- iota: ToFlags makes the segments of the lists that the rules give, Const_1 under their units, and ScanPlus the lists' items
abbrev pub counts_of : ℤ → List ℤ
counts_of z = counting 0 (times z)

pub length-counting : (k n : ℕ) → length (counting k n) ≡ n
unfolding counting
length-counting k zero = refl
length-counting k (suc n) = ap suc (length-counting (suc k) n)

pub unary-segments : (zs : List ℤ) → unary zs ≡ segments (map counts_of zs)
unfolding unary segments
unary-segments [] = refl
unary-segments (pos n ∷ zs) = ap₂ (λ k bs. replicate k false ++ true ∷ bs) (sym (length-counting 0 n)) (unary-segments zs)
unary-segments (negsuc n ∷ zs) = ap₂ (λ k bs. replicate k false ++ true ∷ bs) (sym (length-counting 0 0)) (unary-segments zs)

scans-segment : (m r : ℕ) (k j : ℕ) (bs : List Bool)
    → map result (scans some (pos 0) k (pos j) (segment m bs) (replicate (m + r) (pos 1)))
    ≡ counting j m ++ map result (scans some (pos 0) (suc k) (pos 0) bs (replicate r (pos 1)))
unfolding scans counting
scans-segment zero r k j bs = rw zero-add
scans-segment (suc m) r k j bs = rw suc-add (ap (λ zs. pos j ∷ zs) (rw add-one (scans-segment m r k (suc j) bs)))

pub results-scans : (zs : List ℤ) (k : ℕ)
    → map result (scans some (pos 0) k (pos 0) (segments (map counts_of zs)) (replicate (length (concat (map counts_of zs))) (pos 1)))
    ≡ concat (map counts_of zs)
unfolding scans segments concat
results-scans [] k = refl
results-scans (z ∷ zs) k =
    rw (length-append (counts_of z) (concat (map counts_of zs)), length-counting 0 (times z))
    (scans-segment (times z) (length (concat (map counts_of zs))) k 0 (segments (map counts_of zs))
    ∙ ap (λ l. counts_of z ++ l) (results-scans zs (suc k)))

-- numbers of which one is negative have no iota; of others each has, as far as it is in range
pub data Signed (zs : List ℤ) : Option ℕ → Type 0 where
  one-negative : {k : ℕ} → all_of up_to zs ≡ none → Signed zs (some k)
  all-natural : all_of up_to zs ≡ all_of (all_of within) (map counts_of zs) → Signed zs none

pub signed : (zs : List ℤ) (k : ℕ) → Signed zs (first_negative k zs)
unfolding all_of first_negative
signed [] k = all-natural refl
signed (negsuc n ∷ zs) k = one-negative refl
signed (pos n ∷ zs) k = go (signed zs (suc k))
  where
    nothing : (o : Option (List ℤ)) → ◌≡◌ {A = Option (List (List ℤ))} (and_then o (λ b. none)) none
    nothing none = refl
    nothing (some b) = refl

    go : {f : Option ℕ} → Signed zs f → Signed (pos n ∷ zs) f
    go (one-negative h) = one-negative (rw h (nothing (up_to (pos n))))
    go (all-natural h) = all-natural (rw h)

-- iota of a number in range always has a value: only a number past the range, which no input and no constant is, could have items out of range
within-range : (z : ℤ) → in_range z ≡ true → within z ≡ some z
within-range z h = rw (h, within)

counting-in-range : (k n : ℕ) → k + n ≤ 2147483648 → all_of within (counting k n) ≡ some (counting k n)
unfolding all_of counting
counting-in-range k zero h = refl
counting-in-range k (suc n) h =
    rw (within-range (pos k) (lt-ltb k 2147483648 (omega arith)), counting-in-range (suc k) n (omega arith))

pub iota-in-range : (n : ℕ) → in_range (pos n) ≡ true → up_to (pos n) ≡ some (counting 0 n)
iota-in-range n h = counting-in-range 0 n (omega (arith, ltb-true n 2147483648 h))
