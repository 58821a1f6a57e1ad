-- The dispatcher's arms: that each transducer's operands lie where it may read them, and that what it answers of those parts of the buffer is what snesl's transducer
-- answers of the store's streams.
use Prim.Native.Nat.{ℕ, ◌+◌, ◌≤◌}
use mathlib.Core.Bool.{Bool, true, false}
use mathlib.Core.Option.{Option, some, none}
use borrow.Author.Tests.{le-leb}
use mathlib.Core.List.{List, [], ◌++◌, map}
use mathlib.Core.Path.{◌≡◌, refl, sym, ◌∙◌, ap, ap₂, subst, transport}
use native.Mathlib.Omega.{arith}
use lib.IntN.{ℤ}
use mir.Facts.{to_z-of_z}
use mir.Syntax.{w32}
use mir.Val.{SFits, to_z, of_z}
use lib.ListN.{length, drop}
use lib.Seq.{take_all}
use Rattle.laws.proofs.Never.{never}
use Rattle.laws.specs.Parts.{part}
use Rattle.laws.proofs.Parts.{length_part}
use Rattle.snesl.specs.declared.code.StreamId.{StreamId}
use Rattle.snesl.specs.declared.code.Transducer.{Transducer}
use Rattle.snesl.specs.declared.code.Transducer.TheVariants.{Const, ConstBool, ToFlags, B2u, Usum, MapTwo, MapOneNot, ScanPlus, Distr, SumPlus, Pack, UPack}
use Rattle.snesl.specs.declared.code.Operation.{Operation}
use Rattle.snesl.specs.declared.code.Base.TheVariants.{Int}
use Rattle.snesl.specs.Streams.{Stream, units, bit, elements, Store, room}
use Rattle.snesl.specs.Transducers as snesl
use Rattle.snesl.specs.Transducers.{Answer, made, unfit, unless, alone, misfit, count_f, apply, operands, signature, bool_of, flag_of}
use Rattle.streams.specs.Answers.{Answers, answered, after}
use Rattle.std.specs.Prelude.{Result}
use Rattle.streams.specs.declared.output.Failure.{Failure}
use Rattle.streams.proofs.Alike.{answers-alike}
use Rattle.streams.proofs.Reading.{bit-read}
use Rattle.streams.proofs.Store.{Holds, apply-constant, apply-constant-bool, apply-to-flags, apply-b2u, apply-usum, apply-map-two, apply-map-one-not, apply-scan-plus, apply-distr, apply-sum-plus, apply-pack, apply-upack}
use Rattle.steps.specs.declared.Spans.{Spans}
use Rattle.steps.specs.Holding.{OperandsAt, span_list, Applies, Transduced}
use Rattle.steps.proofs.Stores.{ints-part, bools-part, flags-part, data-at, data-part}

-- what a call that leaves exactly what its contract says of all its answers says of those that matter here
transduced : {old new : List ℤ} {r : Result ℕ Failure} {x y : Answer} → y ≡ x → Answers old x r new → Transduced old y r new
transduced {old} {new} {r} {x} {y} e a =
    record {
      says = a.says ∙ ap (answered (length old)) (sym e);
      wrote =
          λ s q h.
          a.leaves
          ∙ (ap (after old new) (sym e ∙ q)
          ∙ (λ i. elim (le-leb (length (elements s)) (length old) h i) [
            | true ↦ elements s ++ drop (length (elements s)) old
            | false ↦ old
          ]));
    }

-- Usum takes no room, so it answers the same whatever room there is
units-answered : (k room : ℕ) (bs : List ℤ) → answered 0 (snesl.usum flag_of k bs) ≡ answered room (snesl.usum flag_of k bs)
units-answered k room bs = go (misfit flag_of {B = ℤ} alone 0 k bs [])
  where
    go : (o : Option ℕ) → answered 0 (unless o unfit (made (units (count_f flag_of bs)))) ≡ answered room (unless o unfit (made (units (count_f flag_of bs))))
    go none = rw (le-leb 0 room (omega arith), answered)
    go (some j) = refl

units-empty : (k : ℕ) (part : List ℤ) (s : Stream) → snesl.usum flag_of k part ≡ made s → elements s ≡ []
units-empty k part s e = go (misfit flag_of {B = ℤ} alone 0 k part []) e
  where
    go : (o : Option ℕ) → unless o unfit (made (units (count_f flag_of part))) ≡ made s → elements s ≡ []
    go none q = let same : units (count_f flag_of part) ≡ s = cc in ap elements (sym same)
    go (some j) q = never (cc)

module _ {w : Spans} {held : List ℤ} {σ : Store} where
  holds : {t : Transducer} → Applies t w held σ → Holds held σ
  holds a =
      let l : length held ≡ room σ = ap length a.contents-are in
      record { content = take_all (room σ) held (omega arith) ∙ a.contents-are; fits = omega arith }

  of : {t : Transducer} (a : Applies t w held σ) → (u : Transducer) → t ≡ u → OperandsAt σ (signature a.base u).inputs (operands u) (span_list w)
  of a u e = subst (λ x. OperandsAt σ (signature a.base x).inputs (operands x) (span_list w)) e a.stand

  -- the spans lie among what is held
  pub first-inside : {t : Transducer} → Applies t w held σ → w.first.start + w.first.length ≤ length held
  first-inside a = let l : length held ≡ room σ = ap length a.contents-are in omega (arith, a.inside.0)

  pub second-inside : {t : Transducer} → Applies t w held σ → w.second.start + w.second.length ≤ length held
  second-inside a = let l : length held ≡ room σ = ap length a.contents-are in omega (arith, a.inside.1)

  pub second-short : {t : Transducer} {vs : List ℤ} (a : Applies t w held σ) → vs ≡ part w.second.start w.second.length held → length vs ≤ 65536
  second-short a q = omega (arith, ap length q, length_part w.second.start w.second.length held (second-inside a), second-inside a, a.short)

  -- what is answered of the elements in the spans
  module _ {t : Transducer} (a : Applies t w held σ) {us vs : List ℤ} (p : us ≡ part w.first.start w.first.length held) (q : vs ≡ part w.second.start w.second.length held) where
    module _ {free : List ℤ} {r : Result ℕ Failure} (k : ℕ) where
      -- a constant is handed on as its bits
      pub constant-answers : {new : List ℤ} (z : ℤ) → t ≡ Const z → SFits w32 z → Answers free (snesl.constant (to_z w32 (of_z w32 z)) k) r new
          → Transduced free (apply t k σ) r new
      constant-answers z e f =
          transduced (ap (λ u. apply u k σ) e ∙ (apply-constant σ k z ∙ ap (λ x. snesl.constant x k) (sym (to_z-of_z f))))

      pub constant-bool-answers : {new : List ℤ} {z : ℤ} (c : Bool) → t ≡ ConstBool c → z ≡ bit c → Answers free (snesl.constant (to_z w32 (of_z w32 z)) k) r new
          → Transduced free (apply t k σ) r new
      constant-bool-answers {new} {z} c e f x =
          transduced (ap (λ u. apply u k σ) e)
          (answers-alike (apply-constant-bool σ k c)
          (subst (λ y. Answers free (snesl.constant y k) r new) (ap (λ y. to_z w32 (of_z w32 y)) f ∙ bit-read c) x))

      pub to-flags-answers : {new : List ℤ} (s : StreamId) → t ≡ ToFlags s → Answers free (snesl.to_flags k us) r new
          → Transduced free (apply t k σ) r new
      to-flags-answers s e =
          let o = (of a (ToFlags s) e).0 in
          transduced
          (ap (λ u. apply u k σ) e
          ∙ (apply-to-flags σ k s o.content o.stream ∙ ap (snesl.to_flags k) (sym (p ∙ ints-part (holds a) o))))

      pub b2u-answers : {new : List ℤ} (s : StreamId) → t ≡ B2u s → Answers free (snesl.to_flags k us) r new
          → Transduced free (apply t k σ) r new
      b2u-answers s e =
          let o = (of a (B2u s) e).0 in
          transduced
          (ap (λ u. apply u k σ) e
          ∙ (apply-b2u σ k s o.content o.stream ∙ ap (snesl.to_flags k) (sym (p ∙ bools-part (holds a) o))))

      pub map-one-not-answers : {new : List ℤ} (s : StreamId) → t ≡ MapOneNot s → Answers free (snesl.map_one_not k (map bool_of us)) r new
          → Transduced free (apply t k σ) r new
      map-one-not-answers s e =
          let o = (of a (MapOneNot s) e).0 in
          transduced
          (ap (λ u. apply u k σ) e
          ∙ (apply-map-one-not σ k s o.content o.stream ∙ ap (λ l. snesl.map_one_not k (map bool_of l)) (sym (p ∙ bools-part (holds a) o))))

      pub usum-answers : (s : StreamId) → t ≡ Usum s → r ≡ answered 0 (snesl.usum flag_of k us) → Transduced free (apply t k σ) r free
      usum-answers s e h =
          let o = (of a (Usum s) e).0 in
          let is : apply t k σ ≡ snesl.usum flag_of k us =
          ap (λ u. apply u k σ) e
          ∙ (apply-usum σ k s o.content o.stream ∙ ap (snesl.usum flag_of k) (sym (p ∙ flags-part (holds a) o))) in
          record {
            says = h ∙ (units-answered k (length free) us ∙ ap (answered (length free)) (sym is));
            wrote = λ v f l. ap (λ w. w ++ drop (length w) free) (sym (units-empty k us v (sym is ∙ f)));
          }

      pub map-two-answers : {new : List ℤ} (i : Operation) (s u : StreamId) → t ≡ MapTwo i s u
          → Answers free (snesl.map_two i k us vs) r new → Transduced free (apply t k σ) r new
      map-two-answers i s u e =
          let o = of a (MapTwo i s u) e in
          transduced
          (ap (λ v. apply v k σ) e
          ∙ (apply-map-two σ k i s u o.0.content o.1.0.content o.0.stream o.1.0.stream
          ∙ ap₂ (snesl.map_two i k) (sym (p ∙ ints-part (holds a) o.0)) (sym (q ∙ ints-part (holds a) o.1.0))))

      pub scan-plus-answers : {new : List ℤ} (z : ℤ) (s u : StreamId) → t ≡ ScanPlus z s u → SFits w32 z
          → Answers free (snesl.scan_plus flag_of (to_z w32 (of_z w32 z)) k us vs) r new → Transduced free (apply t k σ) r new
      scan-plus-answers z s u e f =
          let o = of a (ScanPlus z s u) e in
          transduced
          (ap (λ v. apply v k σ) e
          ∙ (apply-scan-plus σ k s o.0.content o.0.stream u o.1.0.content o.1.0.stream z
          ∙ sym (λ i. snesl.scan_plus flag_of (to_z-of_z f i) k ((p ∙ flags-part (holds a) o.0) i) ((q ∙ ints-part (holds a) o.1.0) i))))

      pub distr-answers : {new : List ℤ} (s u : StreamId) → t ≡ Distr s u
          → Answers free (snesl.distr flag_of k us Int vs) r new → Transduced free (apply t k σ) r new
      distr-answers {new} s u e x =
          let o = of a (Distr s u) e in
          let d = data-at a.base o.1.0 in
          transduced (ap (λ v. apply v k σ) e)
          (answers-alike (apply-distr σ k s o.0.content o.0.stream u a.base d.content d.stream)
          (transport (λ i. Answers free (snesl.distr flag_of k ((p ∙ flags-part (holds a) o.0) i) Int ((q ∙ data-part (holds a) a.base d) i)) r new) x))

      pub pack-answers : {new : List ℤ} (s u : StreamId) → t ≡ Pack s u
          → Answers free (snesl.pack k (map bool_of us) Int vs) r new → Transduced free (apply t k σ) r new
      pack-answers {new} s u e x =
          let o = of a (Pack s u) e in
          let d = data-at a.base o.1.0 in
          transduced (ap (λ v. apply v k σ) e)
          (answers-alike (apply-pack σ k s o.0.content o.0.stream u a.base d.content d.stream)
          (transport (λ i. Answers free (snesl.pack k (map bool_of ((p ∙ bools-part (holds a) o.0) i)) Int ((q ∙ data-part (holds a) a.base d) i)) r new) x))

      pub upack-answers : {new : List ℤ} (s u : StreamId) → t ≡ UPack s u
          → Answers free (snesl.upack flag_of k (map bool_of us) vs) r new → Transduced free (apply t k σ) r new
      upack-answers s u e =
          let o = of a (UPack s u) e in
          transduced
          (ap (λ v. apply v k σ) e
          ∙ (apply-upack σ k s o.0.content o.0.stream u o.1.0.content o.1.0.stream
          ∙ sym (λ i. snesl.upack flag_of k (map bool_of ((p ∙ bools-part (holds a) o.0) i)) ((q ∙ flags-part (holds a) o.1.0) i))))

      pub sum-plus-answers : {new : List ℤ} (s u : StreamId) → t ≡ SumPlus s u
          → Answers free (snesl.sum_plus flag_of k us vs) r new → Transduced free (apply t k σ) r new
      sum-plus-answers s u e =
          let o = of a (SumPlus s u) e in
          transduced
          (ap (λ v. apply v k σ) e
          ∙ (apply-sum-plus σ k s o.0.content o.0.stream u o.1.0.content o.1.0.stream
          ∙ ap₂ (snesl.sum_plus flag_of k) (sym (p ∙ flags-part (holds a) o.0)) (sym (q ∙ ints-part (holds a) o.1.0))))
