-- `reading::segments`: what the flags that are left add to what was read; an element that is no flag settles it.
use Prim.Native.Nat.{ℕ, ◌+◌, ◌≤◌, ◌<◌, ◌^◌}
use mathlib.Core.Bool.{Bool, true, false}
use mathlib.Core.List.{List, [], ◌∷◌}
use mathlib.Core.Option.{none}
use mathlib.Core.Path.{◌≡◌, refl, sym, ◌∙◌, ap}
use native.Mathlib.Numerals.{add-one}
use native.Mathlib.Omega.{arith}
use lib.IntN.{ℤ, pos}
use lib.ListN.{length, drop, get_or, drop_of_length-le}
use lib.Seq.{drop-cons}
use lib.Signed.{mag}
use mir.Syntax.{w32}
use mir.Val.{of_z}
use Rattle.std.specs.Prelude as rust
use Rattle.snesl.specs.Transducers.{flag_of}
use Rattle.flags.specs.Segments.{wholes}
use Rattle.flags.specs.Flags.{found}
use Rattle.flags.proofs.Clauses as clause
use Rattle.flags.proofs.Stored.{zero_flag, one-flag, no_flag}
use Rattle.flags.proofs.reading.segments.Invariants.{told, Head}
use Rattle.flags.proofs.reading.segments.Goals as goal
use Rattle.flags.proofs.reading.segments.Goals.{then-z-eq1, else-z-eq1+then-z-eq0, else-z-eq1+else-z-eq0, else-clean-via-then-clean+else-not-within, else-clean-via-else-clean}

module _ {flags : List ℤ} {i ends : ℕ} {w clean : Bool} (a : Head flags i ends w clean) where
  module _ (lt : i < length flags) where
    next : drop i flags ≡ get_or flags i (pos 0) ∷ drop (i + 1) flags
    next = drop-cons flags i (pos 0) lt ∙ ap (λ m. get_or flags i (pos 0) ∷ drop m flags) (sym (add-one i))

    turn-true : mag (get_or flags i (pos 0)) < 2 ^ 31 → of_z w32 (get_or flags i (pos 0)) ≡ 1 → Head flags (i + 1) (ends + 1) false clean
    turn-true h e =
        record {
          few = omega (arith, a.few);
          same =
              a.same
              ∙ ap (told clean)
              (ap (wholes flag_of ends w) next
              ∙ clause.wholes-true flag_of (get_or flags i (pos 0)) _ ends w (one-flag (get_or flags i (pos 0)) h e)
              ∙ ap (λ k. wholes flag_of k false (drop (i + 1) flags)) (sym (add-one ends)));
        }

    turn-false : mag (get_or flags i (pos 0)) < 2 ^ 31 → of_z w32 (get_or flags i (pos 0)) ≡ 0 → Head flags (i + 1) ends true clean
    turn-false h e =
        record {
          few = omega (arith, a.few);
          same =
              a.same
              ∙ ap (told clean)
              (ap (wholes flag_of ends w) next ∙ clause.wholes-false flag_of (get_or flags i (pos 0)) _ ends w (zero_flag (get_or flags i (pos 0)) h e));
        }

    turn-neither : (of_z w32 (get_or flags i (pos 0)) ≡ 0 → ⊥) → (of_z w32 (get_or flags i (pos 0)) ≡ 1 → ⊥) → Head flags (i + 1) ends w false
    turn-neither f g =
        record {
          few = omega (arith, a.few);
          same =
              a.same
              ∙ ap (told clean)
              (ap (wholes flag_of ends w) next ∙ clause.wholes-none flag_of (get_or flags i (pos 0)) _ ends w (no_flag (get_or flags i (pos 0)) f g))
              ∙ nothing clean;
        }
      where
        nothing : (c : Bool) → told c none ≡ none
        nothing true = refl
        nothing false = refl

  -- the answer, by what the loop noted
  over : length flags ≤ i → (c v : Bool) → clean ≡ c → w ≡ v → found (wholes flag_of 0 false flags) ≡ found (told c (wholes flag_of ends v []))
  over end c v p q = ap found (a.same ∙ (λ m. told (p m) (wholes flag_of ends (q m) (drop_of_length-le flags end m))))

  whole : length flags ≤ i → clean ≡ true → w ≡ false → rust.Some ends ≡ found (wholes flag_of 0 false flags)
  whole end p q = sym (over end true false p q ∙ ap found (clause.wholes-end flag_of ends))

  ragged : length flags ≤ i → clean ≡ true → w ≡ true → rust.None ≡ found (wholes flag_of 0 false flags)
  ragged end p q = sym (over end true true p q ∙ ap found (clause.wholes-within flag_of ends))

  unclean : length flags ≤ i → clean ≡ false → rust.None ≡ found (wholes flag_of 0 false flags)
  unclean end p = sym (over end false w p refl)

pub loop-z-preserved : goal.loop-z-preserved
loop-z-preserved c =
    elim c.if-z-eq1.branch [
      | then-z-eq1 w ↦ rw (w.ends-is, w.within-is, w.clean-is) (turn-true c.loop-z.invariant c.loop-z-test.true (omega arith) w.if-z-eq1.true)
      | else-z-eq1+then-z-eq0 w ↦ rw (w.ends-is, w.within-is, w.clean-is) (turn-false c.loop-z.invariant c.loop-z-test.true (omega arith) w.if-z-eq0.true)
      | else-z-eq1+else-z-eq0 w ↦ rw (w.ends-is, w.within-is, w.clean-is) (turn-neither c.loop-z.invariant c.loop-z-test.true w.if-z-eq0.false w.if-z-eq1.false)
    ]

pub returns-then-not-within : goal.returns-then-not-within
returns-then-not-within c = whole c.loop-z.invariant c.loop-z-test.false c.if-clean.true c.if-not-within.true

pub returns-else-clean : goal.returns-else-clean
returns-else-clean c =
    elim c.else-clean.branch [
      | else-clean-via-then-clean+else-not-within w ↦ ragged c.loop-z.invariant c.loop-z-test.false w.if-clean.true w.if-not-within.false
      | else-clean-via-else-clean w ↦ unclean c.loop-z.invariant c.loop-z-test.false w.if-clean.false
    ]
