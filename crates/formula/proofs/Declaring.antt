-- The input records, one at a time: what stands at k, and what the definition makes of all from k on.
use Prim.Native.Nat.{ℕ, zero, suc, ◌+◌, ◌-◌, ◌*◌, ◌≤◌, ◌<◌}
use mathlib.Core.Bool.{Bool, true, false, ◌&&◌}
use mathlib.Core.List.{List, []}
use mathlib.Core.Logic.{◌⊎◌, inl, inr}
use mathlib.Core.Option.{Option, some, none}
use mathlib.Core.Path.{◌≡◌, refl, sym, ap, subst, ◌∙◌}
use native.Mathlib.Omega.{arith}
use lib.Dec.{eqb, leb, ltb}
use lib.ListN.{length}
use borrow.Author.Tests.{eqb-true, ne_eqb, le-leb, lt-leb, ltb-true, ltb-false}
use Rattle.std.specs.Prelude.{Result, Ok, Err}
use Rattle.laws.proofs.Options.{none-some}
use Rattle.snesl.specs.declared.code.Base.{Base}
use Rattle.snesl.specs.declared.code.Base.TheVariants as base
use Rattle.snesl.specs.declared.refusal.Refusal.{Refusal}
use Rattle.snesl.specs.declared.refusal.Refusal.TheVariants.{NoRecord, OverLimit, TooMany}
use Rattle.snesl.specs.Limits.{most_inputs, most_depth, last_variable}
use Rattle.snesl.specs.Records as records
use Rattle.snesl.specs.Records.{byte_at, mark_at, mark_in, mark_ib, Input, input_base, input_at, input_ok, input_first, inputs_at, refused, declared}
use Rattle.formula.specs.declared.read.Declared.{Declared}
use Rattle.formula.specs.Declarations.{is_input, base_of_mark}
use Rattle.formula.specs.Reading.{entry_at, declared_of}

-- ---- marks

pub marks-input : (m : ℕ) → (m ≡ mark_ib) ⊎ (m ≡ mark_in) → true ≡ is_input m
marks-input m (inl q) = sym (ap is_input q)
marks-input m (inr q) = sym (ap is_input q)

pub marks-other : (m : ℕ) → ((m ≡ mark_ib) ⊎ (m ≡ mark_in) → ⊥) → false ≡ is_input m
marks-other m f = rw (ne_eqb m mark_in (λ q. f (inr q)), ne_eqb m mark_ib (λ q. f (inl q)), is_input)

pub marks-bool : (m : ℕ) → m ≡ mark_ib → base.Bool ≡ base_of_mark m
marks-bool m q = sym (ap base_of_mark q)

pub marks-int : (m : ℕ) → (m ≡ mark_ib → ⊥) → base.Int ≡ base_of_mark m
marks-int m f = rw (ne_eqb m mark_ib f, base_of_mark)

-- the base of an input's mark is the one that it declares
pub base-is : (m : ℕ) (b : Base) → input_base m ≡ some b → base_of_mark m ≡ b
base-is m b e = go (eqb m mark_in) refl (eqb m mark_ib) refl e
  where
    go :
        (i : Bool) → eqb m mark_in ≡ i → (j : Bool) → eqb m mark_ib ≡ j
        → elim i [ true ↦ some base.Int | false ↦ elim j [ true ↦ some base.Bool | false ↦ none ] ] ≡ some b
        → base_of_mark m ≡ b
    go true p j q e =
        let int : m ≡ mark_in = eqb-true m mark_in p in
        ap base_of_mark int ∙ cc
    go false p true q e = ap (λ (z : Bool). elim z as (λ c. Base) [ true ↦ base.Bool | false ↦ base.Int ]) q ∙ cc
    go false p false q e = none-some e

-- ---- one record by its tests, in the definition's order

module _ (t : List ℕ) (k : ℕ) where
  -- as the functions tell it
  pub marked : {m : ℕ} {r b : Bool} → m ≡ mark_at t k → r ≡ is_input m → r ≡ b → is_input (mark_at t k) ≡ b
  marked e f q = ap is_input (sym e) ∙ (sym f ∙ q)

  pub entry-last : is_input (mark_at t k) ≡ false → Ok false ≡ entry_at t k
  unfolding entry_at
  entry-last m = rw (m, entry_at)

  module _ (m : is_input (mark_at t k) ≡ true) where
    pub entry-cut : leb (k + 4) (length t) ≡ false → Err (NoRecord k) ≡ entry_at t k
    unfolding entry_at
    entry-cut e = rw (m, e, entry_at)

    module _ (e : leb (k + 4) (length t) ≡ true) where
      pub entry-name : last_variable < byte_at t (k + 2) → Err (OverLimit k) ≡ entry_at t k
      unfolding entry_at
      entry-name h = rw (m, e, lt-leb (byte_at t (k + 2)) last_variable h, entry_at)

      module _ (h : byte_at t (k + 2) ≤ last_variable) where
        pub entry-deep : most_depth < byte_at t (k + 3) → Err (OverLimit k) ≡ entry_at t k
        unfolding entry_at
        entry-deep i = rw (m, e, le-leb (byte_at t (k + 2)) last_variable h, lt-leb (byte_at t (k + 3)) most_depth i, entry_at)

        pub entry-one : byte_at t (k + 3) ≤ most_depth → Ok true ≡ entry_at t k
        unfolding entry_at
        entry-one i = rw (m, e, le-leb (byte_at t (k + 2)) last_variable h, le-leb (byte_at t (k + 3)) most_depth i, entry_at)

-- ---- records

-- an answer behind `count` inputs that stand before it
abbrev more : ℕ → Result Declared Refusal → Result Declared Refusal
more count (Err r) = Err r
more count (Ok d) = Ok (record { inputs = count + d.inputs; end = d.end })

more-none : (d : Result Declared Refusal) → d ≡ more 0 d
more-none (Err r) = refl
more-none (Ok d) = ap (λ m. Ok (record { inputs = m; end = d.end })) (omega arith)

more-one : (count : ℕ) (d : Result Declared Refusal) → more count (more 1 d) ≡ more (count + 1) d
more-one count (Err r) = refl
more-one count (Ok d) = ap (λ m. Ok (record { inputs = m; end = d.end })) (omega arith)

first_more : (i : Input) (d : records.Declared) → declared_of (input_first i d) ≡ more 1 (declared_of d)
first_more i (refused r) = refl
first_more i (declared is k) = ap (λ m. Ok (record { inputs = m; end = k })) (omega arith)

module _ (t : List ℕ) (k : ℕ) where
  -- all input records from k on, by what stands at k; d is what they are where an input stands there
  abbrev pub Next : Result Bool Refusal → Result Declared Refusal → records.Declared → Type 0
  Next (Err r) d a = declared_of a ≡ Err r
  Next (Ok false) d a = declared_of a ≡ Ok (record { inputs = 0; end = k })
  Next (Ok true) d a = declared_of a ≡ d

  next :
      (d : Base → records.Declared) (e : Result Declared Refusal) → ((b : Base) → declared_of (d b) ≡ e)
      → Next (entry_at t k) e (elim (input_base (mark_at t k)) [ some b ↦ input_ok t k (d b) | none ↦ declared [] k ])
  unfolding entry_at
  next d e f =
      go (input_base (mark_at t k)) (leb (k + 4) (length t)) (leb (byte_at t (k + 2)) last_variable && leb (byte_at t (k + 3)) most_depth)
    where
      go :
          (m : Option Base) (l o : Bool)
          → Next
          (elim (elim m as (λ z. Bool) [ some b ↦ true | none ↦ false ]) [
            | true ↦ elim l [ true ↦ elim o [ true ↦ Ok true | false ↦ Err (OverLimit k) ] | false ↦ Err (NoRecord k) ]
            | false ↦ Ok false
          ])
          e
          (elim m [
            | some b ↦ elim l [ true ↦ elim o [ true ↦ d b | false ↦ refused (OverLimit k) ] | false ↦ refused (NoRecord k) ]
            | none ↦ declared [] k
          ])
      go (some b) true true = f b
      go (some b) true false = refl
      go (some b) false o = refl
      go none l o = refl

  none_left : Next (entry_at t k) (Err (TooMany k)) (inputs_at 0 t k)
  unfolding inputs_at
  none_left = next (λ b. refused (TooMany k)) (Err (TooMany k)) (λ b. refl)

  some_left : (left : ℕ) → 0 < left → Next (entry_at t k) (more 1 (declared_of (inputs_at (left - 1) t (k + 4)))) (inputs_at left t k)
  unfolding inputs_at
  some_left zero h = absurd (omega arith)
  some_left (suc left) h =
      next (λ b. input_first (input_at t k b) (inputs_at left t (k + 4))) _
      (λ b. first_more (input_at t k b) (inputs_at left t (k + 4)) ∙ ap (λ z. more 1 (declared_of (inputs_at z t (k + 4)))) same)
    where
      same : left ≡ suc left - 1
      same = omega arith

-- `count` inputs are read, and k is the position behind them
pub record Declaring (t : List ℕ) (count k : ℕ) : Type 0 where
  pub few : count ≤ most_inputs
  pub rest : declared_of (inputs_at most_inputs t 0) ≡ more count (declared_of (inputs_at (most_inputs - count) t k))

-- that answer at an answer which is known
by :
    (t : List ℕ) (k : ℕ) {q r : Result Bool Refusal} (e : Result Declared Refusal) (a : records.Declared)
    → q ≡ entry_at t k → q ≡ r → Next t k (entry_at t k) e a → Next t k r e a
by t k e a p f = subst (λ z. Next t k z e a) (sym p ∙ f)

module _ (t : List ℕ) where
  pub start : Declaring t 0 0
  start = record { few = omega arith; rest = more-none (declared_of (inputs_at most_inputs t 0)) }

  -- no more than are allowed
  pub all_read : {count : ℕ} → Declaring t count (4 * count) → most_inputs ≤ count → Declaring t most_inputs (4 * most_inputs)
  all_read {count} d h = let e : count ≡ most_inputs = omega (arith, d.few) in subst (λ n. Declaring t n (4 * n)) e d

  module _ {count k : ℕ} (d : Declaring t count k) {q : Result Bool Refusal} (p : q ≡ entry_at t k) where
    -- fewer inputs than are allowed are read
    module _ (h : count < most_inputs) where
      one_less :
          {r : Result Bool Refusal} → q ≡ r
          → Next t k r (more 1 (declared_of (inputs_at (most_inputs - count - 1) t (k + 4)))) (inputs_at (most_inputs - count) t k)
      one_less f = by t k _ _ p f (some_left t k (most_inputs - count) (omega arith))

      pub turn : q ≡ Ok true → Declaring t (count + 1) (k + 4)
      turn f =
          record {
            few = omega arith;
            rest =
                d.rest
                ∙ (ap (more count) (one_less f)
                ∙ (more-one count (declared_of (inputs_at (most_inputs - count - 1) t (k + 4)))
                ∙ ap (λ z. more (count + 1) (declared_of (inputs_at z t (k + 4)))) (omega arith)));
          }

      last-below : q ≡ Ok false → Ok (record { inputs = count; end = k }) ≡ declared_of (inputs_at most_inputs t 0)
      last-below f = sym (d.rest ∙ (ap (more count) (one_less f) ∙ ap (λ z. Ok (record { inputs = z; end = k })) (omega arith)))

      stopped-below : {r : Refusal} → q ≡ Err r → Err r ≡ declared_of (inputs_at most_inputs t 0)
      stopped-below f = sym (d.rest ∙ ap (more count) (one_less f))

    -- as many are read as are allowed
    module _ (h : most_inputs ≤ count) where
      no_more : {r : Result Bool Refusal} → q ≡ r → Next t k r (Err (TooMany k)) (inputs_at (most_inputs - count) t k)
      no_more {r} f =
          let z : 0 ≡ most_inputs - count = omega (arith, d.few) in
          subst (λ n. Next t k r (Err (TooMany k)) (inputs_at n t k)) z (by t k _ _ p f (none_left t k))

      pub one_over : q ≡ Ok true → Err (TooMany k) ≡ declared_of (inputs_at most_inputs t 0)
      one_over f = sym (d.rest ∙ ap (more count) (no_more f))

      pub last-full : q ≡ Ok false → Ok (record { inputs = count; end = k }) ≡ declared_of (inputs_at most_inputs t 0)
      last-full f = sym (d.rest ∙ (ap (more count) (no_more f) ∙ ap (λ z. Ok (record { inputs = z; end = k })) (omega arith)))

      pub stopped-full : {r : Refusal} → q ≡ Err r → Err r ≡ declared_of (inputs_at most_inputs t 0)
      stopped-full f = sym (d.rest ∙ ap (more count) (no_more f))

    -- however many are read
    pub last : q ≡ Ok false → Ok (record { inputs = count; end = k }) ≡ declared_of (inputs_at most_inputs t 0)
    last f = go (ltb count most_inputs) refl
      where
        go : (b : Bool) → ltb count most_inputs ≡ b → Ok (record { inputs = count; end = k }) ≡ declared_of (inputs_at most_inputs t 0)
        go true e = last-below (ltb-true count most_inputs e) f
        go false e = last-full (ltb-false count most_inputs e) f

    pub stopped : {r : Refusal} → q ≡ Err r → Err r ≡ declared_of (inputs_at most_inputs t 0)
    stopped {r} f = go (ltb count most_inputs) refl
      where
        go : (b : Bool) → ltb count most_inputs ≡ b → Err r ≡ declared_of (inputs_at most_inputs t 0)
        go true e = stopped-below (ltb-true count most_inputs e) f
        go false e = stopped-full (ltb-false count most_inputs e) f
