-- `packs::keep`
use Rattle.std.proofs.Common.{ℕ, ◌+◌, ◌<◌, ◌≤◌, ◌≡◌, List, map, ℤ, pos, length, drop, get_or, set, length-set, sym, ap, ◌∙◌, ◌∷◌, arith, rules, add-one, drop-cons, true, false}
use Rattle.std.proofs.lemmas.List.Edits.{sets}
use Rattle.std.proofs.lemmas.Grind.{common_steps}
use Rattle.std.specs.Int.{w32}
use mir.Val.{SFits}
use mir.Facts.{to_z-of_z}
use Rattle.snesl.specs.Transducers.{bool_of, kept}
use Rattle.streams.proofs.Reading.{zero-bool, other-bool}
use Rattle.itemwise.proofs.packs.keep.Goals as goal
use Rattle.itemwise.proofs.packs.keep.Goals.{then-b-ne0, else-b-ne0}

module _ (bs xs : List ℤ) (i : ℕ) (hb : i < length bs) (hx : i < length xs) where
  here : bool_of (get_or bs i (pos 0)) ≡ true →
      kept (map bool_of (drop i bs)) (drop i xs) ≡ get_or xs i (pos 0) ∷ kept (map bool_of (drop (i + 1) bs)) (drop (i + 1) xs)
  unfolding kept
  here e = rw (drop-cons bs i (pos 0) hb, drop-cons xs i (pos 0) hx, e, add-one)

  not-here : bool_of (get_or bs i (pos 0)) ≡ false →
      kept (map bool_of (drop i bs)) (drop i xs) ≡ kept (map bool_of (drop (i + 1) bs)) (drop (i + 1) xs)
  unfolding kept
  not-here e = rw (drop-cons bs i (pos 0) hb, drop-cons xs i (pos 0) hx, e, add-one)

-- what stands before a turn: what is stored so far, and what is still to come
module _ (bs xs out whole : List ℤ) (i to : ℕ) (hb : i < length bs) (hx : i < length xs)
    (inv : (sets out to (kept (map bool_of (drop i bs)) (drop i xs)) ≡ whole) × (to + length (kept (map bool_of (drop i bs)) (drop i xs)) ≤ length out)) where
  abbrev Next : List ℤ → ℕ → Type 0
  Next new at =
      (sets new at (kept (map bool_of (drop (i + 1) bs)) (drop (i + 1) xs)) ≡ whole) × (at + length (kept (map bool_of (drop (i + 1) bs)) (drop (i + 1) xs)) ≤ length new)

  room : bool_of (get_or bs i (pos 0)) ≡ true → to < length out
  room e = omega (arith, ap length (here bs xs i hb hx e), inv.1)

  keeps : bool_of (get_or bs i (pos 0)) ≡ true → {new : List ℤ} {at : ℕ} → new ≡ set out to (get_or xs i (pos 0)) → at ≡ to + 1 → Next new at
  keeps e {new} {at} p q =
      let n = here bs xs i hb hx e in
      (rw (p, q, add-one) (sym (ap (sets out to) n) ∙ inv.0), rw (p, q) (omega (arith, ap length n, inv.1, length-set out to (get_or xs i (pos 0)))))

  skips : bool_of (get_or bs i (pos 0)) ≡ false → {new : List ℤ} {at : ℕ} → new ≡ out → at ≡ to → Next new at
  skips e {new} {at} p q =
      let n = not-here bs xs i hb hx e in
      rw (p, q) (sym (ap (sets out to) n) ∙ inv.0, omega (arith, ap length n, inv.1))

pub bounds-out-to : goal.bounds-out-to
bounds-out-to c =
    let a = c.args in
    room a.bools.now a.items.now _ _ _ _ c.loop-i-test.true (omega (arith, c.requires.0, c.loop-i-test.true)) c.loop-i.invariant (other-bool _ c.if-b-ne0.true)

pub loop-i-preserved : goal.loop-i-preserved
loop-i-preserved c =
    let a = c.args in
    let lt : c.loop-i.i < length c.args.items.now = omega (arith, c.requires.0, c.loop-i-test.true) in
    let fb : SFits w32 (get_or c.args.bools.now c.loop-i.i (pos 0)) = search rules in
    elim c.if-b-ne0.branch [
      | then-b-ne0 w ↦
          let fx : SFits w32 (get_or c.args.items.now c.loop-i.i (pos 0)) = search rules in
          keeps a.bools.now a.items.now _ _ _ _ c.loop-i-test.true lt c.loop-i.invariant (other-bool _ w.if-b-ne0.true) (w.out-is ∙ ap (set c.loop-i.out c.loop-i.to) (to_z-of_z fx)) w.to-is
      | else-b-ne0 w ↦
          skips a.bools.now a.items.now _ _ _ _ c.loop-i-test.true lt c.loop-i.invariant (zero-bool _ fb.sfits w.if-b-ne0.false) w.out-is w.to-is
    ]

pub returns : goal.returns
unfolding kept
returns c = let r = c.loop-i.invariant.0 in grind (arith, common_steps, r)
