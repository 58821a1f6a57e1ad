-- What each transducer answers in a store that holds its operands, and what it is charged.
use Prim.Native.Nat.{ℕ, ◌+◌}
use native.Mathlib.Omega.{arith}
use mathlib.Core.Path.{◌≡◌, refl}
use mathlib.Core.Bool.{Bool, not}
use mathlib.Core.List.{List, [], ◌∷◌, map}
use mathlib.Core.Option.{some, none}
use lib.IntN.{ℤ, pos}
use lib.ListN.{length, length-map, replicate}
use borrow.Author.Tests.{eq-eqb}
use Rattle.snesl.specs.declared.code.Base.{Base}
use Rattle.snesl.specs.declared.code.Base.TheVariants as base
use Rattle.snesl.specs.declared.code.Operation.{Operation}
use Rattle.snesl.specs.declared.code.Transducer.TheVariants.{ToFlags, B2u, Usum, MapTwo, MapOneNot, ScanPlus, Distr, SumPlus, Pack, UPack}
use Rattle.snesl.specs.Values.{Element}
use Rattle.snesl.specs.Evaluation.{one_if}
use Rattle.snesl.specs.Streams.{Stream, ints, bools, flags, units, data_of, len, Store, ◌!◌}
use Rattle.snesl.specs.Transducers.{apply, operands, made, negative, unless, exact, results, first_negative, unary, length_misfit, scans, sums}
use Rattle.snesl.specs.Translation.{id, constant_of}
use Rattle.snesl.specs.Machine.{sum_of, work_of, fetch}
use Rattle.snesl.specs.Representation.{concat, segments}
use Rattle.snesl.proofs.Correctness.Segments.{segments-fit-alone, segments-fit-items, segments-fit-one, count_f-segments, spread-segments, kept-each, kept-segments, unitary-segments}

one-for-each : (n l m : ℕ) → l ≡ n → m ≡ n → length_misfit n l m ≡ none
one-for-each n l m p q = rw (eq-eqb l n p, eq-eqb m n q, length_misfit)

module _ (σ : Store) where
  pub apply-usum : {A : Type 0} (ls : List (List A)) (n b : ℕ)
      → length ls ≡ n
      → σ ! b ≡ some (flags (segments ls))
      → apply (Usum (id b)) n σ ≡ made (units (length (concat ls)))
  unfolding apply
  apply-usum ls n b p h = rw (h, ← p, segments-fit-alone ls 0, count_f-segments ls)

  pub apply-distr : {R A : Type 0} (f : R → List A) (c : Base) (g : R → Element c) (rs : List R) (b u : ℕ)
      → σ ! b ≡ some (flags (segments (map f rs)))
      → σ ! u ≡ some (data_of c (map g rs))
      → apply (Distr (id b) (id u)) (length rs) σ ≡ made (data_of c (concat (map (λ r. map (λ v. g r) (f r)) rs)))
  unfolding apply
  apply-distr f base.Int g rs b u h k = rw (h, k, segments-fit-one f g rs 0, spread-segments f g rs)
  apply-distr f base.Bool g rs b u h k = rw (h, k, segments-fit-one f g rs 0, spread-segments f g rs)

  pub apply-operation : (o : Operation) (xs ys : List ℤ) (n s t : ℕ)
      → length xs ≡ n
      → length ys ≡ n
      → σ ! s ≡ some (ints xs)
      → σ ! t ≡ some (ints ys)
      → apply (MapTwo o (id s) (id t)) n σ ≡ results o xs ys
  unfolding apply
  apply-operation o xs ys n s t p q h k = rw (h, k, one-for-each n (length xs) (length ys) p q)

  pub apply-sum : (ls : List (List ℤ)) (n b s : ℕ)
      → length ls ≡ n
      → σ ! b ≡ some (flags (segments ls))
      → σ ! s ≡ some (ints (concat ls))
      → apply (SumPlus (id b) (id s)) n σ ≡ exact (sums some 0 (pos 0) (segments ls) (concat ls))
  unfolding apply
  apply-sum ls n b s p h k = rw (h, k, ← p, segments-fit-items ls (concat ls) 0 refl)

  pub apply-scan : (ls : List (List ℤ)) (xs : List ℤ) (z : ℤ) (n b s : ℕ)
      → length ls ≡ n
      → length xs ≡ length (concat ls)
      → σ ! b ≡ some (flags (segments ls))
      → σ ! s ≡ some (ints xs)
      → apply (ScanPlus z (id b) (id s)) n σ ≡ exact (scans some z 0 z (segments ls) xs)
  unfolding apply
  apply-scan ls xs z n b s p q h k = rw (h, k, ← p, segments-fit-items ls xs 0 q)

  pub apply-to_flags : (zs : List ℤ) (n s : ℕ)
      → length zs ≡ n
      → σ ! s ≡ some (ints zs)
      → apply (ToFlags (id s)) n σ ≡ unless (first_negative 0 zs) negative (made (flags (unary zs)))
  unfolding apply
  apply-to_flags zs n s p h = rw (h, one-for-each n (length zs) (length zs) p p)

  pub apply-not : (cs : List Bool) (n s : ℕ) → length cs ≡ n → σ ! s ≡ some (bools cs) → apply (MapOneNot (id s)) n σ ≡ made (bools (map not cs))
  unfolding apply
  apply-not cs n s p h = rw (h, one-for-each n (length cs) (length cs) p p)

  pub apply-constant : (b : Base) (e : Element b) (n : ℕ) → apply (constant_of b e) n σ ≡ made (data_of b (replicate n e))
  unfolding apply
  apply-constant base.Int e n = refl
  apply-constant base.Bool e n = refl

  -- Each R has a bool (f) and a value (h).
  module _ {R : Type 0} (f : R → Bool) where
    pub apply-b2u : {A : Type 0} (h : R → A) (rs : List R) (b : ℕ)
        → σ ! b ≡ some (bools (map f rs))
        → apply (B2u (id b)) (length rs) σ ≡ made (flags (segments (map (λ r. one_if (f r) (h r)) rs)))
    unfolding apply
    apply-b2u h rs b p =
        rw (p, one-for-each (length rs) (length (map f rs)) (length (map f rs)) (length-map rs f) (length-map rs f), unitary-segments f h rs)

    pub apply-pack : (c : Base) (h : R → Element c) (rs : List R) (b u : ℕ)
        → σ ! b ≡ some (bools (map f rs))
        → σ ! u ≡ some (data_of c (map h rs))
        → apply (Pack (id b) (id u)) (length rs) σ ≡ made (data_of c (concat (map (λ r. one_if (f r) (h r)) rs)))
    unfolding apply
    apply-pack base.Int h rs b u p q =
        rw (p, q, one-for-each (length rs) (length (map f rs)) (length (map h rs)) (length-map rs f) (length-map rs h), kept-each f h rs)
    apply-pack base.Bool h rs b u p q =
        rw (p, q, one-for-each (length rs) (length (map f rs)) (length (map h rs)) (length-map rs f) (length-map rs h), kept-each f h rs)

    pub apply-upack : {A : Type 0} (h : R → List A) (rs : List R) (b u : ℕ)
        → σ ! b ≡ some (bools (map f rs))
        → σ ! u ≡ some (flags (segments (map h rs)))
        → apply (UPack (id b) (id u)) (length rs) σ ≡ made (flags (segments (concat (map (λ r. one_if (f r) (h r)) rs))))
    unfolding apply
    apply-upack h rs b u p q = rw (p, q, segments-fit-one h f rs 0, kept-segments f h rs)

-- data of either base has as many elements as there are scalars
pub len-data : (b : Base) (vs : List (Element b)) → len (data_of b vs) ≡ length vs
len-data base.Int vs = refl
len-data base.Bool vs = refl

module _ (σ : Store) where
  -- the elements read and the elements written
  pub work-one : (s n : ℕ) {a : Stream} (o : Stream) → σ ! s ≡ some a → work_of n (fetch σ (s ∷ [])) o ≡ len a + len o
  unfolding sum_of
  work-one s n {a} o h = rw h (omega arith)

  pub work-two : (s t n : ℕ) {a b : Stream} (o : Stream)
      → σ ! s ≡ some a
      → σ ! t ≡ some b
      → work_of n (fetch σ (s ∷ t ∷ [])) o ≡ len a + len b + len o
  unfolding sum_of
  work-two s t n {a} {b} o h k = rw (h, k) (omega arith)

  pub work-constant : (b : Base) (e : Element b) (n : ℕ) (o : Stream) → work_of n (fetch σ (operands (constant_of b e))) o ≡ len o
  unfolding sum_of
  work-constant base.Int e n o = omega arith
  work-constant base.Bool e n o = omega arith
