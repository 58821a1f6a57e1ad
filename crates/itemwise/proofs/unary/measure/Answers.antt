-- `unary::measure`: the flags that are still to come have the room that is left, or not.
use Rattle.std.proofs.Common.{◌≡◌, ℕ, ◌+◌, ◌-◌, ◌<◌, ◌≤◌, true, false, List, map, length, get_or, drop, ℤ, pos, negsuc, nat_abs, Result, Ok, Err, refl, sym, ◌∙◌, ap, leb, arith, rules}
use Rattle.std.proofs.Math.Option.{Option, some, none}
use Rattle.std.specs.Int.{w32, FitsUnsignedBits}
use borrow.Author.Tests.{le-leb, le-ltb, lt-leb}
use lib.ListN.{length-map}
use lib.Signed.{lt_z}
use mir.Facts.{to_z-of_z}
use mir.Val.{SFits, to_z, of_z}
use Rattle.snesl.specs.Streams.{bit, flags}
use Rattle.snesl.specs.Transducers.{first_negative, made, negative, unary, unless}
use Rattle.streams.specs.Answers.{answered}
use Rattle.streams.specs.Walks.{told_negative}
use Rattle.streams.specs.declared.output.Failure.{Failure}
use Rattle.streams.specs.declared.output.Failure.TheVariants.{Negative, NoRoom}
use Rattle.itemwise.proofs.Lengths.{negative-at, not-negative-at, negative-over, unary-at, unary-over}
use Rattle.itemwise.proofs.unary.measure.Goals as goal

-- what is answered, by the first negative
abbrev answer : ℕ → List ℤ → Option ℕ → Result ℕ Failure
answer room zs o = answered room (unless o negative (made (flags (unary zs))))

short : (room : ℕ) (zs : List ℤ) → length (unary zs) ≤ room → answer room zs none ≡ Ok (length (unary zs))
short room zs h =
    let l : length (map bit (unary zs)) ≡ length (unary zs) = length-map (unary zs) bit in
    let f : leb (length (map bit (unary zs))) room ≡ true = le-leb (length (map bit (unary zs))) room (omega arith) in
    λ i. elim (f i) [ true ↦ Ok (length (unary zs)) | false ↦ Err NoRoom ]

over-long : (room : ℕ) (zs : List ℤ) → room < length (unary zs) → answer room zs none ≡ Err NoRoom
over-long room zs h =
    let l : length (map bit (unary zs)) ≡ length (unary zs) = length-map (unary zs) bit in
    let f : leb (length (map bit (unary zs))) room ≡ false = lt-leb (length (map bit (unary zs))) room (omega arith) in
    λ i. elim (f i) [ true ↦ Ok (length (unary zs)) | false ↦ Err NoRoom ]

-- whether an item is a count, as `try_from` tells it
is-negative : (z : ℤ) → SFits w32 z → (FitsUnsignedBits 64 (to_z w32 (of_z w32 z)) → ⊥) → lt_z z (pos 0) ≡ true
is-negative z f h = go z f (rw (to_z-of_z f) at h)
  where
    go : (y : ℤ) → SFits w32 y → (FitsUnsignedBits 64 y → ⊥) → lt_z y (pos 0) ≡ true
    go (pos m) g k = absurd (k (omega (arith, g.sfits)))
    go (negsuc m) g k = refl

is-natural : (z : ℤ) (m : ℕ) → SFits w32 z → FitsUnsignedBits 64 (to_z w32 (of_z w32 z)) × (m ≡ nat_abs (to_z w32 (of_z w32 z))) → (pos m ≡ z) × (lt_z z (pos 0) ≡ false)
is-natural z m f h = go z (rw (to_z-of_z f) at h)
  where
    go : (y : ℤ) → FitsUnsignedBits 64 y × (m ≡ nat_abs y) → (pos m ≡ y) × (lt_z y (pos 0) ≡ false)
    go (pos n) k = (ap pos k.1, le-ltb n 0 (omega arith))
    go (negsuc n) k = absurd k.0

-- what holds before a turn at i
abbrev Holds : (zs : List ℤ) (room i free : ℕ) → Type 0
Holds zs room i free =
    (free ≤ room) × (first_negative 0 zs ≡ first_negative i (drop i zs)) × (length (unary zs) + free ≡ room + length (unary (drop i zs)))

module _ (zs : List ℤ) (room i free : ℕ) (a : Holds zs room i free) where
  module _ (lt : i < length zs) where
    stop : lt_z (get_or zs i (pos 0)) (pos 0) ≡ true → Err (Negative i) ≡ answer room zs (first_negative 0 zs)
    stop e = sym (ap (answer room zs) (a.1 ∙ negative-at zs i lt e))

    module _ (m : ℕ) (n : (pos m ≡ get_or zs i (pos 0)) × (lt_z (get_or zs i (pos 0)) (pos 0) ≡ false)) where
      full : free ≤ m → {f : Failure} → f ≡ told_negative (first_negative i (drop i zs)) → Err f ≡ answer room zs (first_negative 0 zs)
      full h {f} p = go (first_negative i (drop i zs)) refl
        where
          go : (o : Option ℕ) → first_negative i (drop i zs) ≡ o → Err f ≡ answer room zs (first_negative 0 zs)
          go (some k) q = ap (λ (x : Failure). Err x) (p ∙ ap told_negative q) ∙ sym (ap (answer room zs) (a.1 ∙ q))
          go none q =
              let more : room < length (unary zs) = omega (arith, a.2, a.0, (unary-at zs i m lt n.0).1) in
              ap (λ (x : Failure). Err x) (p ∙ ap told_negative q) ∙ sym (over-long room zs more) ∙ sym (ap (answer room zs) (a.1 ∙ q))

      turn : m < free → Holds zs room (i + 1) (free - (m + 1))
      turn h = (omega (arith, a.0), a.1 ∙ not-negative-at zs i lt n.1, omega (arith, a.2, (unary-at zs i m lt n.0).1))

  over : length zs ≤ i → Ok (room - free) ≡ answer room zs (first_negative 0 zs)
  over end =
      let all : room - free ≡ length (unary zs) = omega (arith, a.0, a.2, ap length (unary-over zs i end)) in
      ap (λ (k : ℕ). Ok k) all ∙ sym (short room zs (omega (arith, a.0))) ∙ sym (ap (answer room zs) (a.1 ∙ negative-over zs i end))

pub returns-in_default : goal.returns-in_default
returns-in_default c =
    let f : SFits w32 (get_or c.args.items.now c.loop-i.i (pos 0)) = search rules in
    stop c.args.items.now c.args.room c.loop-i.i c.loop-i.free c.loop-i.invariant c.loop-i-test.true (is-negative _ f c.in_default.ensures)

pub returns-then-free-m : goal.returns-then-free-m
returns-then-free-m c =
    let f : SFits w32 (get_or c.args.items.now c.loop-i.i (pos 0)) = search rules in
    full c.args.items.now c.args.room c.loop-i.i c.loop-i.free c.loop-i.invariant c.loop-i-test.true c.in-Ok.m (is-natural _ _ f c.in-Ok.ensures) c.if-free-m.true c.first_negative.ensures

pub loop-i-preserved : goal.loop-i-preserved
loop-i-preserved c =
    let f : SFits w32 (get_or c.args.items.now c.loop-i.i (pos 0)) = search rules in
    turn c.args.items.now c.args.room c.loop-i.i c.loop-i.free c.loop-i.invariant c.loop-i-test.true c.in-Ok.m (is-natural _ _ f c.in-Ok.ensures) c.if-free-m.false

pub returns : goal.returns
returns c = over c.args.items.now c.args.room c.loop-i.i c.loop-i.free c.loop-i.invariant c.loop-i-test.false
