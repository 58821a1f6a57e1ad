-- ScanPlus: the totals of a segment, with its element.
use Prim.Native.Nat.{ℕ, zero, suc, ◌+◌, ◌-◌}
use mathlib.Core.Bool.{Bool, true, false, ◌&&◌}
use mathlib.Core.List.{List, [], ◌∷◌, ◌++◌, map}
use mathlib.Core.Option.{some, none}
use mathlib.Core.Path.{◌≡◌, refl, sym, ◌∙◌, ap, transport}
use native.Mathlib.Omega.{arith}
use lib.IntN.{ℤ, ◌+ℤ◌}
use lib.ListN.{length, take, drop, length-append, length-drop, length-map}
use lib.Seq.{length-take-le}
use mir.Facts.{to_z-of_z}
use mir.Syntax.{w32}
use mir.Val.{SFits, to_z, of_z}
use Rattle.std.specs.Prelude.{Result}
use Rattle.laws.proofs.Never.{never}
use Rattle.laws.proofs.Tests.{both_true}
use Rattle.snesl.specs.Values.{in_range}
use Rattle.snesl.specs.Transducers.{each_f, first_outside, flag_of, misfit, scans}
use Rattle.flags.specs.Segments.{running}
use Rattle.flags.proofs.Clauses.{scans-end}
use Rattle.flags.proofs.Fronts as fronts
use Rattle.flags.proofs.Fronts.{front-scans, used-up}
use Rattle.streams.specs.Walks.{all_inside}
use Rattle.streams.specs.declared.output.Failure.{Failure}
use Rattle.segmentwise.specs.Segmented.{Scans}
use Rattle.streams.proofs.Filling.{values, inside-next, inside-end, outside-not, outside-here}

pub running-next : (t x : ℤ) (xs : List ℤ) → running t (x ∷ xs) ≡ t ∷ running (t +ℤ x) xs
unfolding running
running-next t x xs = refl

pub running-end : (t : ℤ) → running t [] ≡ []
unfolding running
running-end t = refl

pub running-long : (t : ℤ) (xs : List ℤ) → length (running t xs) ≡ length xs
unfolding running
running-long t [] = refl
running-long t (x ∷ xs) = ap suc (running-long (t +ℤ x) xs)

abbrev pub tagged : ℕ → List ℤ → List (ℕ × ℤ)
tagged k zs = map (λ z. (k, z)) zs

pub tagged-values : (k : ℕ) (zs : List ℤ) (rs : List (ℕ × ℤ)) → values (tagged k zs ++ rs) ≡ zs ++ values rs
tagged-values k [] rs = refl
tagged-values k (z ∷ zs) rs = ap (λ l. z ∷ l) (tagged-values k zs rs)

pub all-inside : (k : ℕ) (zs : List ℤ) (rs : List (ℕ × ℤ)) → all_inside (tagged 0 zs) ≡ true → first_outside (tagged k zs ++ rs) ≡ first_outside rs
all-inside k [] rs e = refl
all-inside k (z ∷ zs) rs e =
    let b = both_true (in_range z) (all_inside (tagged 0 zs)) (sym (inside-next 0 z (tagged 0 zs)) ∙ e) in
    outside-not k z (tagged k zs ++ rs) b.0 ∙ all-inside k zs rs b.1

pub one_outside : (k : ℕ) (zs : List ℤ) (rs : List (ℕ × ℤ)) → all_inside (tagged 0 zs) ≡ false → first_outside (tagged k zs ++ rs) ≡ some k
one_outside k [] rs e = let z = sym inside-end ∙ e in never (cc)
one_outside k (z ∷ zs) rs e = go (in_range z) refl (one_outside k zs rs)
  where
    go : (b : Bool) → in_range z ≡ b → (all_inside (tagged 0 zs) ≡ false → first_outside (tagged k zs ++ rs) ≡ some k) → first_outside (tagged k (z ∷ zs) ++ rs) ≡ some k
    go false q ih = outside-here k z (tagged k zs ++ rs) q
    go true q ih =
        let later : all_inside (tagged 0 zs) ≡ false = sym (sym e ∙ inside-next 0 z (tagged 0 zs) ∙ ap (λ b. b && all_inside (tagged 0 zs)) q) in
        outside-not k z (tagged k zs ++ rs) q ∙ ih later

-- as long as the items
pub scans-long : (m k : ℕ) (s t : ℤ) (bs xs : List ℤ) → misfit flag_of each_f k m bs xs ≡ none → length (scans flag_of s k t bs xs) ≡ length xs
scans-long zero k s t bs xs fit =
    let u = used-up flag_of each_f k bs xs fit in
    (λ i. length (scans flag_of s k t (u.0 i) xs)) ∙ ap length (scans-end flag_of s k t xs) ∙ sym (ap length u.1)
scans-long (suc m) k s t bs xs fit =
    let f = fronts.ends flag_of each_f k m bs xs fit in
    let zs : List ℤ = running t (take f.count xs) in
    let whole : length (scans flag_of s k t bs xs) ≡ length (tagged k zs) + length (scans flag_of s (suc k) s (drop (suc f.count) bs) (drop f.count xs)) =
    ap length (front-scans flag_of f.front s k t xs f.items) ∙ length-append (tagged k zs) (scans flag_of s (suc k) s (drop (suc f.count) bs) (drop f.count xs)) in
    let l1 : length (tagged k zs) ≡ length zs = length-map zs (λ z. (k, z)) in
    let l2 : length zs ≡ length (take f.count xs) = running-long t (take f.count xs) in
    let l3 : length (take f.count xs) ≡ f.count = length-take-le f.count xs f.items in
    let l4 : length (drop f.count xs) ≡ length xs - f.count = length-drop f.count xs in
    omega (arith, f.items, scans-long m (suc k) s s (drop (suc f.count) bs) (drop f.count xs) f.rest)

-- ScanPlus's first total is `start` itself, which code has as its bits
pub restart : {start : ℤ} (bs xs : List ℤ) {old new : List ℤ} {r : Result (Unit {0}) Failure} → SFits w32 start →
    Scans (scans flag_of (to_z w32 (of_z w32 start)) 0 (to_z w32 (of_z w32 start)) bs xs) old r new → Scans (scans flag_of start 0 start bs xs) old r new
restart {start} bs xs {old} {new} {r} f s = transport (λ i. Scans (scans flag_of (to_z-of_z f i) 0 (to_z-of_z f i) bs xs) old r new) s
