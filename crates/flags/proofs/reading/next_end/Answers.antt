-- `reading::next_end`: the F's that still stand in front, counted from the flag that was reached.
use Prim.Native.Nat.{ℕ, suc, ◌+◌, ◌-◌, ◌<◌, ◌^◌}
use mathlib.Core.List.{List, ◌∷◌}
use mathlib.Core.Path.{◌≡◌, sym, ◌∙◌, ap}
use native.Mathlib.Numerals.{add-one}
use native.Mathlib.Omega.{arith}
use lib.IntN.{ℤ, pos}
use lib.ListN.{length, drop, get_or, length-drop}
use lib.Signed.{mag}
use mir.Syntax.{w32}
use mir.Val.{of_z}
use lib.Seq.{drop-cons}
use Rattle.snesl.specs.Transducers.{flag_of}
use Rattle.flags.specs.Segments.{leading}
use Rattle.flags.proofs.Clauses as clause
use Rattle.flags.proofs.Stored.{zero_flag, other-flag}
use Rattle.flags.proofs.reading.next_end.Invariants.{Head}
use Rattle.flags.proofs.reading.next_end.Goals as goal

module _ {flags : List ℤ} {i : ℕ} (a : Head flags i) where
  inside : i < length flags
  inside = let l : length (drop i flags) ≡ length flags - i = length-drop i flags in omega (arith, a.within)

  next : drop i flags ≡ get_or flags i (pos 0) ∷ drop (i + 1) flags
  next = drop-cons flags i (pos 0) inside ∙ ap (λ m. get_or flags i (pos 0) ∷ drop m flags) (sym (add-one i))

  found : (of_z w32 (get_or flags i (pos 0)) ≡ 0 → ⊥) → i ≡ leading flag_of flags
  found f =
      let none_left : leading flag_of (drop i flags) ≡ 0 = ap (leading flag_of) next ∙ other-flag (get_or flags i (pos 0)) f _ in
      omega (arith, a.same)

  turn : mag (get_or flags i (pos 0)) < 2 ^ 31 → of_z w32 (get_or flags i (pos 0)) ≡ 0 → Head flags (i + 1)
  turn h e =
      let one_less : leading flag_of (drop i flags) ≡ suc (leading flag_of (drop (i + 1) flags)) =
      ap (leading flag_of) next ∙ clause.leading-false flag_of (get_or flags i (pos 0)) (drop (i + 1) flags) (zero_flag (get_or flags i (pos 0)) h e) in
      let shorter : length (drop i flags) ≡ suc (length (drop (i + 1) flags)) = ap length next in
      record { within = omega (arith, a.within); same = omega (arith, a.same) }

pub returns-then-flags-end-ne0 : goal.returns-then-flags-end-ne0
returns-then-flags-end-ne0 c = found c.loop-end.invariant c.if-flags-end-ne0.true

pub loop-end-preserved : goal.loop-end-preserved
loop-end-preserved c = turn c.loop-end.invariant (omega arith) c.if-flags-end-ne0.false
