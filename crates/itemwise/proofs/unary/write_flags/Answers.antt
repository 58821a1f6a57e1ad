-- `unary::write_flags`: a turn writes the first item's flags of those that are still to come.
use Rattle.std.proofs.Common.{◌≡◌, ℕ, ◌+◌, ◌<◌, ◌≤◌, true, false, List, [], ◌∷◌, ◌++◌, map, length, get_or, drop, replicate, ℤ, pos, nat_abs, sym, ◌∙◌, ap, subst, arith, rules}
use Rattle.std.proofs.Math.Option.{none}
use Rattle.std.proofs.lemmas.List.Edits.{sets}
use Rattle.std.specs.Int.{w32, w64}
use lib.Dec.{T}
use lib.ListN.{length-append, length-map, length-replicate}
use lib.Seq.{length-sets}
use lib.Signed.{non_neg}
use mir.Facts.{Fits-nat_abs, to_z-of_z}
use mir.Val.{Fits, SFits, to_z, of_z}
use Rattle.laws.proofs.Parts.{sets-append}
use Rattle.snesl.specs.Streams.{bit}
use Rattle.snesl.specs.Transducers.{first_negative, unary}
use Rattle.itemwise.proofs.Lengths.{natural, natural-here, not-negative-at, unary-at, unary-over}
use Rattle.itemwise.proofs.unary.write_flags.Goals as goal

-- what holds before a turn at i
abbrev Holds : (zs out whole : List ℤ) (i to : ℕ) → Type 0
Holds zs out whole i to =
    (sets out to (map bit (unary (drop i zs))) ≡ whole) × (to + length (unary (drop i zs)) ≤ length out) × (first_negative i (drop i zs) ≡ none)

abbrev segment : ℕ → List ℤ
segment m = map bit (replicate m false ++ true ∷ [])

segment-long : (m : ℕ) → length (segment m) ≡ m + 1
segment-long m =
    length-map (replicate m false ++ true ∷ []) bit ∙ length-append (replicate m false) (true ∷ []) ∙ ap (λ k. k + 1) (length-replicate m false)

module _ (zs out whole : List ℤ) (i to : ℕ) (a : Holds zs out whole i to) (lt : i < length zs) (f : SFits w32 (get_or zs i (pos 0))) where
  is : pos (nat_abs (to_z w32 (of_z w32 (get_or zs i (pos 0))))) ≡ get_or zs i (pos 0)
  is = natural (get_or zs i (pos 0)) f (natural-here zs i lt a.2)

  cast : T (non_neg (to_z w32 (of_z w32 (get_or zs i (pos 0))))) × Fits w64 (nat_abs (to_z w32 (of_z w32 (get_or zs i (pos 0)))))
  cast =
      let z : SFits w32 (to_z w32 (of_z w32 (get_or zs i (pos 0)))) = rw (to_z-of_z f) f in
      (subst (λ z. T (non_neg z)) (is ∙ sym (to_z-of_z f)) tt, Fits-nat_abs tt z)

  module _ (m : ℕ) (n : pos m ≡ get_or zs i (pos 0)) where
    room : to + m < length out
    room = omega (arith, a.1, (unary-at zs i m lt n).1)

    turn : {new : List ℤ} → new ≡ sets out to (map bit (replicate m false ++ true ∷ [])) → Holds zs new whole (i + 1) (to + (m + 1))
    turn {new} w =
        let at = unary-at zs i m lt n in
        let l : length new ≡ length out = ap length w ∙ length-sets out to (segment m) in (
          (λ k. sets (w k) (to + sym (segment-long m) k) (map bit (unary (drop (i + 1) zs))))
              ∙ sym (sets-append (segment m) (map bit (unary (drop (i + 1) zs))) out to)
              ∙ sym (ap (sets out to) at.0)
              ∙ a.0,
          omega (arith, a.1, at.1, l),
          sym (not-negative-at zs i lt (natural-here zs i lt a.2)) ∙ a.2,
        )

pub overflow_cast-m : goal.overflow_cast-m
overflow_cast-m c =
    let f : SFits w32 (get_or c.args.items.now c.loop-z.z-index (pos 0)) = search rules in
    cast c.args.items.now c.loop-z.out _ c.loop-z.z-index c.loop-z.to c.loop-z.invariant c.loop-z-test.true f

pub put_segment-requires : goal.put_segment-requires
put_segment-requires c =
    let f : SFits w32 (get_or c.args.items.now c.loop-z.z-index (pos 0)) = search rules in
    room c.args.items.now c.loop-z.out _ c.loop-z.z-index c.loop-z.to c.loop-z.invariant c.loop-z-test.true f _
    (is c.args.items.now c.loop-z.out _ c.loop-z.z-index c.loop-z.to c.loop-z.invariant c.loop-z-test.true f)

pub loop-z-preserved : goal.loop-z-preserved
loop-z-preserved c =
    let f : SFits w32 (get_or c.args.items.now c.loop-z.z-index (pos 0)) = search rules in
    turn c.args.items.now c.loop-z.out _ c.loop-z.z-index c.loop-z.to c.loop-z.invariant c.loop-z-test.true f _
    (is c.args.items.now c.loop-z.out _ c.loop-z.z-index c.loop-z.to c.loop-z.invariant c.loop-z-test.true f) c.put_segment.ensures

pub returns : goal.returns
returns c = sym (ap (λ us. sets c.loop-z.out c.loop-z.to (map bit us)) (unary-over c.args.items.now c.loop-z.z-index c.loop-z-test.false)) ∙ c.loop-z.invariant.0
