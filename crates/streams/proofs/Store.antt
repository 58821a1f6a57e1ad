-- The stream buffer as a store: its content up to `room` is the streams one after another. Where a stream stands, that snesl's transducers on the store answer what the
-- calls on those parts of the buffer do.
use Prim.Native.Nat.{ℕ, zero, suc, ◌+◌, ◌≤◌}
use mathlib.Core.Bool
use mathlib.Core.List.{List, [], ◌∷◌, ◌++◌, map, append-nil}
use mathlib.Core.Option.{some}
use mathlib.Core.Path.{◌≡◌, refl, sym, ◌∙◌, ap, subst}
use native.Mathlib.Omega.{arith}
use lib.IntN.{ℤ, pos}
use lib.ListN.{length, take, drop, replicate, length-append, length-map, length-replicate}
use lib.Seq.{take-append_seam, drop-append-add}
use Rattle.laws.specs.Parts.{part}
use Rattle.laws.proofs.Never.{never}
use Rattle.laws.proofs.Parts.{same-part}
use Rattle.snesl.specs.declared.code.StreamId.{StreamId}
use Rattle.snesl.specs.declared.code.Base.{Base}
use Rattle.snesl.specs.declared.code.Base.TheVariants.{Int, Bool}
use Rattle.snesl.specs.declared.code.Operation.{Operation}
use Rattle.snesl.specs.declared.code.Transducer.TheVariants.{Const, ConstBool, ToFlags, B2u, Usum, MapTwo, MapOneNot, ScanPlus, Distr, SumPlus, Pack, UPack}
use Rattle.snesl.specs.Values.{Element}
use Rattle.snesl.specs.Streams.{Stream, ints, bools, flags, units, data_of, bit, elements, Store, ◌!◌, contents, room}
use Rattle.snesl.specs.Transducers.{Answer, made, unfit, unless, exact, each_f, each_t, alone, bool_of, flag_of, apply, on_ints, on_bools, on_data, on_flags, length_misfit, misfit, spread, kept, constant, to_flags, b2u, usum, map_two, map_one_not, scan_plus, distr, sum_plus, pack, upack}
use Rattle.snesl.proofs.Bools.{bools-bits, to_flags-bits, misfit-map, spread-map, kept_map}
use Rattle.streams.proofs.Alike.{Alike, same-elements, alike-data}
use Rattle.streams.proofs.Reading.{on-bits}

-- ---- where a stream stands

-- behind all streams of smaller id
abbrev pub place : Store → ℕ → ℕ
place σ i = room (take i σ)

pub record Stands (σ : Store) (i : ℕ) (a : Stream) (l : List ℤ) : Type 0 where
  pub within : place σ i + length (elements a) ≤ room σ
  pub content : part (place σ i) (length (elements a)) l ≡ elements a

in-contents : (σ : Store) (i : ℕ) (a : Stream) → σ ! i ≡ some a → Stands σ i a (contents σ)
unfolding contents part
in-contents [] i a e = never (cc)
in-contents (b ∷ σ) zero a e =
    let same : b ≡ a = cc in
    let l : length (elements b ++ contents σ) ≡ length (elements b) + length (contents σ) = length-append (elements b) (contents σ) in
    let s : length (elements b) ≡ length (elements a) = ap (λ x. length (elements x)) same in
    record {
      within = omega arith;
      content = ap (λ x. take (length (elements x)) (elements b ++ contents σ)) (sym same) ∙ take-append_seam (elements b) (contents σ) ∙ ap elements same;
    }
in-contents (b ∷ σ) (suc i) a e =
    let h : Stands σ i a (contents σ) = in-contents σ i a e in
    let p : length (elements b ++ contents (take i σ)) ≡ length (elements b) + length (contents (take i σ)) = length-append (elements b) (contents (take i σ)) in
    let l : length (elements b ++ contents σ) ≡ length (elements b) + length (contents σ) = length-append (elements b) (contents σ) in
    record {
      within = omega (arith, h.within);
      content =
          ap (λ k. take (length (elements a)) (drop k (elements b ++ contents σ))) p
          ∙ ap (take (length (elements a))) (drop-append-add (elements b) (contents σ) (length (contents (take i σ))))
          ∙ h.content;
    }

-- the buffer holds the store
pub record Holds (buf : List ℤ) (σ : Store) : Type 0 where
  pub content : take (room σ) buf ≡ contents σ
  pub fits : room σ ≤ length buf

pub stands : {buf : List ℤ} {σ : Store} → Holds buf σ → (i : ℕ) (a : Stream) → σ ! i ≡ some a → Stands σ i a buf
stands {buf} {σ} h i a e =
    let s = in-contents σ i a e in
    let t : take (room σ) (contents σ) ≡ contents σ = ap (take (room σ)) (sym (append-nil (contents σ))) ∙ take-append_seam (contents σ) [] in
    record {
      within = s.within;
      content = same-part (room σ) buf (contents σ) (place σ i) (length (elements a)) (h.content ∙ sym t) s.within ∙ s.content;
    }

-- ---- snesl's transducers on a store, by the elements that stand in the buffer

on-data : (b : Base) (xs : List (Element b)) (f : (b : Base) → List (Element b) → Answer) → on_data (some (data_of b xs)) f ≡ f b xs
on-data Int xs f = refl
on-data Bool xs f = refl

-- a constant bool
map-replicate : (c : mathlib.Core.Bool.Bool) (n : ℕ) → replicate n (bit c) ≡ map bit (replicate n c)
map-replicate c zero = refl
map-replicate c (suc n) = ap (λ l. bit c ∷ l) (map-replicate c n)

same-replicate : (c : mathlib.Core.Bool.Bool) (n : ℕ) → length (replicate n (bit c)) ≡ length (replicate n c)
same-replicate c n = length-replicate n (bit c) ∙ sym (length-replicate n c)

-- data that is carried on, as it stands in the buffer
spread-data : (bs : List mathlib.Core.Bool.Bool) (b : Base) (xs : List (Element b)) → spread some bs (elements (data_of b xs)) ≡ elements (data_of b (spread some bs xs))
spread-data bs Int xs = refl
spread-data bs Bool xs = spread-map some bit bs xs

misfit-data : (k n : ℕ) (bs : List mathlib.Core.Bool.Bool) (b : Base) (xs : List (Element b)) → misfit some each_t k n bs (elements (data_of b xs)) ≡ misfit some each_t k n bs xs
misfit-data k n bs Int xs = refl
misfit-data k n bs Bool xs = misfit-map some bit each_t k n bs xs

kept-data : (cs : List mathlib.Core.Bool.Bool) (b : Base) (xs : List (Element b)) → kept cs (elements (data_of b xs)) ≡ elements (data_of b (kept cs xs))
kept-data cs Int xs = refl
kept-data cs Bool xs = kept_map bit cs xs

length-data : (b : Base) (xs : List (Element b)) → length (elements (data_of b xs)) ≡ length xs
length-data Int xs = refl
length-data Bool xs = length-map xs bit

module _ (σ : Store) (n : ℕ) where
  pub apply-constant : (z : ℤ) → apply (Const z) n σ ≡ constant z n
  unfolding apply
  apply-constant z = refl

  pub apply-constant-bool : (c : mathlib.Core.Bool.Bool) → Alike (constant (bit c) n) (apply (ConstBool c) n σ)
  unfolding apply
  apply-constant-bool c = same-elements (map-replicate c n) (same-replicate c n)

  pub apply-to-flags : (s : StreamId) (zs : List ℤ) → σ ! s.0 ≡ some (ints zs) → apply (ToFlags s) n σ ≡ to_flags n (elements (ints zs))
  unfolding apply
  apply-to-flags s zs e = ap (λ o. on_ints o (to_flags n)) e

  pub apply-map-two : (o : Operation) (s t : StreamId) (xs ys : List ℤ) → σ ! s.0 ≡ some (ints xs) → σ ! t.0 ≡ some (ints ys) →
      apply (MapTwo o s t) n σ ≡ map_two o n (elements (ints xs)) (elements (ints ys))
  unfolding apply
  apply-map-two o s t xs ys e f = λ i. on_ints (e i) (λ us. on_ints (f i) (map_two o n us))

  module _ (s : StreamId) (cs : List mathlib.Core.Bool.Bool) (e : σ ! s.0 ≡ some (bools cs)) where
    pub apply-b2u : apply (B2u s) n σ ≡ to_flags n (elements (bools cs))
    unfolding apply
    apply-b2u = ap (λ o. on_bools o (b2u n)) e ∙ sym (to_flags-bits n cs)

    pub apply-map-one-not : apply (MapOneNot s) n σ ≡ map_one_not n (map bool_of (elements (bools cs)))
    unfolding apply
    apply-map-one-not = ap (λ o. on_bools o (map_one_not n)) e ∙ ap (map_one_not n) (sym (bools-bits cs))

    pub apply-pack : (t : StreamId) (b : Base) (xs : List (Element b)) → σ ! t.0 ≡ some (data_of b xs) →
        Alike (pack n (map bool_of (elements (bools cs))) Int (elements (data_of b xs))) (apply (Pack s t) n σ)
    unfolding apply
    apply-pack t b xs f =
        let long : length_misfit n (length cs) (length xs) ≡ length_misfit n (length cs) (length (elements (data_of b xs))) =
        ap (length_misfit n (length cs)) (sym (length-data b xs)) in
        let is : apply (Pack s t) n σ ≡ unless (length_misfit n (length cs) (length (elements (data_of b xs)))) unfit (made (data_of b (kept cs xs))) =
        (λ i. on_bools (e i) (λ us. on_data (f i) (pack n us)))
        ∙ on-data b xs (pack n cs)
        ∙ ap (λ o. unless o unfit (made (data_of b (kept cs xs)))) long in
        subst (λ x. Alike x (apply (Pack s t) n σ)) (ap (λ us. pack n us Int (elements (data_of b xs))) (sym (bools-bits cs)))
        (subst (Alike (pack n cs Int (elements (data_of b xs)))) (sym is)
        (alike-data (length_misfit n (length cs) (length (elements (data_of b xs)))) unfit (kept cs (elements (data_of b xs))) b (kept cs xs) (kept-data cs b xs)))

    pub apply-upack : (t : StreamId) (bs : List mathlib.Core.Bool.Bool) → σ ! t.0 ≡ some (flags bs) →
        apply (UPack s t) n σ ≡ upack flag_of n (map bool_of (elements (bools cs))) (elements (flags bs))
    unfolding apply
    apply-upack t bs f =
        (λ i. on_bools (e i) (λ us. on_flags (f i) (upack some n us)))
        ∙ sym (λ i. unless ((on-bits bs).misfits each_t 0 n cs i) unfit (made (flags ((on-bits bs).keeps cs i))))
        ∙ ap (λ us. upack flag_of n us (elements (flags bs))) (sym (bools-bits cs))

  module _ (s : StreamId) (bs : List mathlib.Core.Bool.Bool) (e : σ ! s.0 ≡ some (flags bs)) where
    pub apply-usum : apply (Usum s) n σ ≡ usum flag_of n (elements (flags bs))
    unfolding apply
    apply-usum =
        ap (λ o. on_flags o (usum some n)) e
        ∙ sym (λ i. unless ((on-bits bs).misfits {C = ℤ} alone 0 n [] i) unfit (made (units ((on-bits bs).counts i))))

    pub apply-distr : (t : StreamId) (b : Base) (xs : List (Element b)) → σ ! t.0 ≡ some (data_of b xs) →
        Alike (distr flag_of n (elements (flags bs)) Int (elements (data_of b xs))) (apply (Distr s t) n σ)
    unfolding apply
    apply-distr t b xs f =
        let zs : List ℤ = elements (data_of b xs) in
        let is : apply (Distr s t) n σ ≡ unless (misfit some each_t 0 n bs (elements (data_of b xs))) unfit (made (data_of b (spread some bs xs))) =
        (λ i. on_flags (e i) (λ us. on_data (f i) (distr some n us)))
        ∙ on-data b xs (distr some n bs)
        ∙ ap (λ o. unless o unfit (made (data_of b (spread some bs xs)))) (sym (misfit-data 0 n bs b xs)) in
        let bits : distr some n bs Int (elements (data_of b xs)) ≡ distr flag_of n (elements (flags bs)) Int (elements (data_of b xs)) =
        sym (λ i. unless ((on-bits bs).misfits each_t 0 n zs i) unfit (made (ints ((on-bits bs).spreads zs i)))) in
        subst (λ x. Alike x (apply (Distr s t) n σ)) bits
        (subst (Alike (distr some n bs Int (elements (data_of b xs)))) (sym is)
        (alike-data (misfit some each_t 0 n bs (elements (data_of b xs))) unfit (spread some bs (elements (data_of b xs))) b (spread some bs xs) (spread-data bs b xs)))

    module _ (t : StreamId) (xs : List ℤ) (f : σ ! t.0 ≡ some (ints xs)) where
      pub apply-scan-plus : (z : ℤ) → apply (ScanPlus z s t) n σ ≡ scan_plus flag_of z n (elements (flags bs)) (elements (ints xs))
      unfolding apply
      apply-scan-plus z =
          (λ i. on_flags (e i) (λ us. on_ints (f i) (scan_plus some z n us)))
          ∙ sym (λ i. unless ((on-bits bs).misfits each_f 0 n xs i) unfit (exact ((on-bits bs).scanned z 0 z xs i)))

      pub apply-sum-plus : apply (SumPlus s t) n σ ≡ sum_plus flag_of n (elements (flags bs)) (elements (ints xs))
      unfolding apply
      apply-sum-plus =
          (λ i. on_flags (e i) (λ us. on_ints (f i) (sum_plus some n us)))
          ∙ sym (λ i. unless ((on-bits bs).misfits each_f 0 n xs i) unfit (exact ((on-bits bs).summed 0 (pos 0) xs i)))
