-- `apply` on the streams of its operands makes exactly what the rules give.
use Prim.Native.Nat.{ℕ, min}
use mathlib.Core.Bool.{Bool, true, false, ◌&&◌, not}
use mathlib.Core.List.{List, [], ◌∷◌, map}
use mathlib.Core.Logic.{◌↔◌}
use mathlib.Core.Option.{Option, some, none}
use mathlib.Core.Path.{◌≡◌, refl, sym, ap, ◌∙◌, subst, transport}
use borrow.Author.Tests.{eqb-true, eq-eqb}
use lib.Dec.{eqb}
use lib.IntN.{ℤ, pos}
use lib.ListN.{length}
use Rattle.laws.proofs.Never.{never}
use Rattle.snesl.specs.declared.code.Base.{Base}
use Rattle.snesl.specs.declared.code.Base.TheVariants as base
use Rattle.snesl.specs.declared.code.Kind.{Kind}
use Rattle.snesl.specs.declared.code.Kind.TheVariants.{Ints, Bools, Flags}
use Rattle.snesl.specs.declared.code.Operation.{Operation}
use Rattle.snesl.specs.declared.code.Operation.TheVariants.{Plus, LessEqual, Equal}
use Rattle.snesl.specs.declared.code.Transducer.{Transducer}
use Rattle.snesl.specs.declared.code.Transducer.TheVariants.{Const, ConstBool, ToFlags, B2u, Usum, MapTwo, MapOneNot, ScanPlus, Distr, SumPlus, Pack, UPack}
use Rattle.snesl.specs.Streams.{Stream, ints, bools, flags, units, kind_of, data_of, data_kind, Store, ◌!◌}
use Rattle.snesl.specs.Values.{Element}
use Rattle.snesl.specs.Transducers as functions
use Rattle.snesl.specs.Transducers.{Answer, made, unfit, negative, outside, unless, on_ints, on_bools, on_data, on_flags, length_misfit, first_outside, exact, first_negative, pluses, pairwise, misfit, scans, sums, alone, each_f, each_t, apply, operands}
use Rattle.rules.specs.Xducers.{Xducer, transducer, const, const_bool, to_flags, b2u, usum, map_two, map_one_not, scan_plus, distr, sum_plus, pack, upack, takes, gives, Loops, xducer, Fetches, fetches-none, fetches-more}
use Rattle.rules.proofs.Xducers.Loops.{HasKinds, has-kinds, loop-kinds, takes-kinds, gives-kind, is-ints, is-bools, is-flags, is-units, is-data}
use Rattle.rules.proofs.Xducers.Itemwise as items
use Rattle.rules.proofs.Xducers.Segmentwise as segments

-- an answer that was made, then, through each of the tests before it
unless-made : (o : Option ℕ) (why : ℕ → Answer) (r : Answer) {a : Stream}
    → ((k : ℕ) → why k ≡ made a → ⊥)
    → unless o why r ≡ made a
    → (o ≡ none) × (r ≡ made a)
unless-made none why r n q = (refl, q)
unless-made (some k) why r n q = absurd (n k q)

unfit-not : {a : Stream} (k : ℕ) → unfit k ≡ made a → ⊥
unfit-not k q = never (cc)

negative-not : {a : Stream} (k : ℕ) → negative k ≡ made a → ⊥
negative-not k q = never (cc)

outside-not : {a : Stream} (k : ℕ) → outside k ≡ made a → ⊥
outside-not k q = never (cc)

made-same : {a b : Stream} → made a ≡ made b → a ≡ b
made-same q = cc

lengths-fit : (n l m : ℕ) → length_misfit n l m ≡ none → (l ≡ n) × (m ≡ n)
lengths-fit n l m = go (eqb l n) refl (eqb m n) refl
  where
    go : (b : Bool) → eqb l n ≡ b → (c : Bool) → eqb m n ≡ c
        → ◌≡◌ {A = Option ℕ} (elim (b && c) [ true ↦ none | false ↦ some (min n (min l m)) ]) none
        → (l ≡ n) × (m ≡ n)
    go true p true q e = (eqb-true l n p, eqb-true m n q)
    go true p false q e = never (cc)
    go false p c q e = never (cc)

fit-lengths : (n l m : ℕ) → l ≡ n → m ≡ n → length_misfit n l m ≡ none
fit-lengths n l m p q = rw (eq-eqb l n p, eq-eqb m n q, length_misfit)

exact-made : (rs : List (ℕ × ℤ)) {a : Stream} → exact rs ≡ made a → (first_outside rs ≡ none) × (ints (map (λ r. r.1) rs) ≡ a)
exact-made rs q = let (p, r) = unless-made (first_outside rs) outside _ outside-not q in (p, made-same r)

made-exact : (rs : List (ℕ × ℤ)) → first_outside rs ≡ none → exact rs ≡ made (ints (map (λ r. r.1) rs))
made-exact rs q = ap (λ o. unless o outside (made (ints (map (λ r. r.1) rs)))) q

-- ---- over streams of the right kinds

module _ (n : ℕ) where
  const-exactly : (z : ℤ) (a : Stream) → (functions.constant z n ≡ made a) ↔ Loops (const z) n [] a
  const-exactly z a = (λ q. subst (Loops (const z) n []) (made-same q) (items.const-made z n), back)
    where
      back : Loops (const z) n [] a → functions.constant z n ≡ made a
      back l =
          let (zs, e) = is-ints a (gives-kind l (λ b. refl)) in
          ap (λ l. made (ints l)) (sym (items.const-gives (subst (Loops (const z) n []) e l))) ∙ ap made (sym e)

  const_bool-exactly : (c : Bool) (a : Stream) → (functions.constant_bool c n ≡ made a) ↔ Loops (const_bool c) n [] a
  const_bool-exactly c a = (λ q. subst (Loops (const_bool c) n []) (made-same q) (items.const_bool-made c n), back)
    where
      back : Loops (const_bool c) n [] a → functions.constant_bool c n ≡ made a
      back l =
          let (cs, e) = is-bools a (gives-kind l (λ b. refl)) in
          ap (λ l. made (bools l)) (sym (items.const_bool-gives (subst (Loops (const_bool c) n []) e l))) ∙ ap made (sym e)

  b2u-exactly : (cs : List Bool) (a : Stream) → (functions.b2u n cs ≡ made a) ↔ Loops b2u n (bools cs ∷ []) a
  b2u-exactly cs a = (there, back)
    where
      there : functions.b2u n cs ≡ made a → Loops b2u n (bools cs ∷ []) a
      there q =
          let (fit, out) = unless-made (length_misfit n (length cs) (length cs)) unfit _ unfit-not q in
          subst (Loops b2u n (bools cs ∷ [])) (made-same out) (items.b2u-made n cs (lengths-fit n _ _ fit).0)

      told : {bs : List Bool} → items.Bools functions.unitary n cs bs → functions.b2u n cs ≡ made (flags bs)
      told (items.of-bools l r) = rw (fit-lengths n (length cs) (length cs) l l) (ap (λ b. made (flags b)) (sym r))

      back : Loops b2u n (bools cs ∷ []) a → functions.b2u n cs ≡ made a
      back l = let (bs, e) = is-flags a (gives-kind l (λ b. refl)) in told (items.b2u-gives (subst (Loops b2u n (bools cs ∷ [])) e l)) ∙ ap made (sym e)

  not-exactly : (cs : List Bool) (a : Stream) → (functions.map_one_not n cs ≡ made a) ↔ Loops map_one_not n (bools cs ∷ []) a
  not-exactly cs a = (there, back)
    where
      there : functions.map_one_not n cs ≡ made a → Loops map_one_not n (bools cs ∷ []) a
      there q =
          let (fit, out) = unless-made (length_misfit n (length cs) (length cs)) unfit _ unfit-not q in
          subst (Loops map_one_not n (bools cs ∷ [])) (made-same out) (items.not_made n cs (lengths-fit n _ _ fit).0)

      told : {bs : List Bool} → items.Bools (map not) n cs bs → functions.map_one_not n cs ≡ made (bools bs)
      told (items.of-bools l r) = rw (fit-lengths n (length cs) (length cs) l l) (ap (λ b. made (bools b)) (sym r))

      back : Loops map_one_not n (bools cs ∷ []) a → functions.map_one_not n cs ≡ made a
      back l = let (bs, e) = is-bools a (gives-kind l (λ b. refl)) in told (items.not_gives (subst (Loops map_one_not n (bools cs ∷ [])) e l)) ∙ ap made (sym e)

  compare-exactly : {o : Operation} {f : ℤ → ℤ → Bool} (w : items.Compares o f) → ((b : Base) → gives b (map_two o) ≡ Bools) → (xs ys : List ℤ) (a : Stream)
      → (unless (length_misfit n (length xs) (length ys)) unfit (made (bools (pairwise f xs ys))) ≡ made a) ↔ Loops (map_two o) n (ints xs ∷ ints ys ∷ []) a
  compare-exactly {o} {f} w given xs ys a = (there, back)
    where
      there : unless (length_misfit n (length xs) (length ys)) unfit (made (bools (pairwise f xs ys))) ≡ made a → Loops (map_two o) n (ints xs ∷ ints ys ∷ []) a
      there q =
          let (fit, out) = unless-made (length_misfit n (length xs) (length ys)) unfit _ unfit-not q in
          let (l, m) = lengths-fit n (length xs) (length ys) fit in
          subst (Loops (map_two o) n (ints xs ∷ ints ys ∷ [])) (made-same out) (items.compare-made w n xs ys l m)

      told : {cs : List Bool} → items.Compared f n xs ys cs → unless (length_misfit n (length xs) (length ys)) unfit (made (bools (pairwise f xs ys))) ≡ made (bools cs)
      told (items.compared l m r) = rw (fit-lengths n (length xs) (length ys) l m) (ap (λ z. made (bools z)) (sym r))

      back : Loops (map_two o) n (ints xs ∷ ints ys ∷ []) a → unless (length_misfit n (length xs) (length ys)) unfit (made (bools (pairwise f xs ys))) ≡ made a
      back l = let (cs, e) = is-bools a (gives-kind l given) in told (items.compare-gives w n (subst (Loops (map_two o) n (ints xs ∷ ints ys ∷ [])) e l)) ∙ ap made (sym e)

  to_flags-exactly : (zs : List ℤ) (a : Stream) → (functions.to_flags n zs ≡ made a) ↔ Loops to_flags n (ints zs ∷ []) a
  to_flags-exactly zs a = (there, back)
    where
      there : functions.to_flags n zs ≡ made a → Loops to_flags n (ints zs ∷ []) a
      there q =
          let (fit, rest) = unless-made (length_misfit n (length zs) (length zs)) unfit _ unfit-not q in
          let (low, out) = unless-made (first_negative 0 zs) negative _ negative-not rest in
          subst (Loops to_flags n (ints zs ∷ [])) (made-same out) (items.to_flags-made n 0 zs (lengths-fit n _ _ fit).0 low)

      told : {bs : List Bool} → items.ToFlags n 0 zs bs → functions.to_flags n zs ≡ made (flags bs)
      told (items.to-flags l q r) = rw (fit-lengths n (length zs) (length zs) l l, q) (ap (λ b. made (flags b)) (sym r))

      back : Loops to_flags n (ints zs ∷ []) a → functions.to_flags n zs ≡ made a
      back l = let (bs, e) = is-flags a (gives-kind l (λ b. refl)) in told (items.to_flags-gives 0 (subst (Loops to_flags n (ints zs ∷ [])) e l)) ∙ ap made (sym e)

  plus-exactly : (xs ys : List ℤ) (a : Stream) → (functions.map_two Plus n xs ys ≡ made a) ↔ Loops (map_two Plus) n (ints xs ∷ ints ys ∷ []) a
  plus-exactly xs ys a = (there, back)
    where
      there : functions.map_two Plus n xs ys ≡ made a → Loops (map_two Plus) n (ints xs ∷ ints ys ∷ []) a
      there q =
          let (fit, rest) = unless-made (length_misfit n (length xs) (length ys)) unfit _ unfit-not q in
          let (inside, out) = exact-made (pluses 0 xs ys) rest in
          let (l, m) = lengths-fit n (length xs) (length ys) fit in
          subst (Loops (map_two Plus) n (ints xs ∷ ints ys ∷ [])) out (items.map_two-made n 0 xs ys l m inside)

      told : {zs : List ℤ} → items.MapTwo n 0 xs ys zs → functions.map_two Plus n xs ys ≡ made (ints zs)
      told (items.map-two l m q r) = rw (fit-lengths n (length xs) (length ys) l m) (made-exact (pluses 0 xs ys) q ∙ ap (λ z. made (ints z)) (sym r))

      back : Loops (map_two Plus) n (ints xs ∷ ints ys ∷ []) a → functions.map_two Plus n xs ys ≡ made a
      back l = let (zs, e) = is-ints a (gives-kind l (λ b. refl)) in told (items.map_two-gives 0 (subst (Loops (map_two Plus) n (ints xs ∷ ints ys ∷ [])) e l)) ∙ ap made (sym e)

  map_two-exactly : (o : Operation) (xs ys : List ℤ) (a : Stream) → (functions.map_two o n xs ys ≡ made a) ↔ Loops (map_two o) n (ints xs ∷ ints ys ∷ []) a
  map_two-exactly Plus xs ys a = plus-exactly xs ys a
  map_two-exactly LessEqual xs ys a = compare-exactly items.less_equal (λ b. refl) xs ys a
  map_two-exactly Equal xs ys a = compare-exactly items.equal (λ b. refl) xs ys a

  usum-exactly : (bs : List Bool) (a : Stream) → (functions.usum some n bs ≡ made a) ↔ Loops usum n (flags bs ∷ []) a
  usum-exactly bs a = (there, back)
    where
      there : functions.usum some n bs ≡ made a → Loops usum n (flags bs ∷ []) a
      there q =
          let (fit, out) = unless-made (misfit some {B = ℤ} alone 0 n bs []) unfit _ unfit-not q in
          subst (Loops usum n (flags bs ∷ [])) (made-same out) (segments.usum-made n 0 bs fit)

      back : Loops usum n (flags bs ∷ []) a → functions.usum some n bs ≡ made a
      back l =
          let (m, e) = is-units a (gives-kind l (λ b. refl)) in
          let (fit, out) = segments.usum-gives 0 (subst (Loops usum n (flags bs ∷ [])) e l) in
          rw fit (ap (λ m. made (units m)) (sym out) ∙ ap made (sym e))

  -- data to data of one base
  data-out : (b : Base) {ψ : Xducer} (c : Stream) (xs : List (Element b)) (a : Stream)
      → ((d : Base) → (takes d ψ ≡ kind_of c ∷ data_kind d ∷ []) × (gives d ψ ≡ data_kind d))
      → Loops ψ n (c ∷ data_of b xs ∷ []) a
      → (zs : List (Element b)) × (a ≡ data_of b zs)
  data-out b {ψ} c xs a carries l = go (loop-kinds l)
    where
      same_base : (b d : Base) (xs : List (Element b)) → kind_of (data_of b xs) ≡ data_kind d → data_kind d ≡ data_kind b
      same_base base.Int d xs q = sym q
      same_base base.Bool d xs q = sym q

      second : {j k m : Kind} → ◌≡◌ {A = List Kind} (j ∷ k ∷ []) (j ∷ m ∷ []) → k ≡ m
      second q = cc

      go : HasKinds ψ (c ∷ data_of b xs ∷ []) a → (zs : List (Element b)) × (a ≡ data_of b zs)
      go (has-kinds d p q) =
          let (t, g) = carries d in
          is-data b a (q ∙ g ∙ same_base b d xs (second (p ∙ t)))

  distr-exactly : (bs : List Bool) (b : Base) (xs : List (Element b)) (a : Stream) → (functions.distr some n bs b xs ≡ made a) ↔ Loops distr n (flags bs ∷ data_of b xs ∷ []) a
  distr-exactly bs b xs a = (there, back)
    where
      there : functions.distr some n bs b xs ≡ made a → Loops distr n (flags bs ∷ data_of b xs ∷ []) a
      there q =
          let (fit, out) = unless-made (misfit some each_t 0 n bs xs) unfit _ unfit-not q in
          subst (Loops distr n (flags bs ∷ data_of b xs ∷ [])) (made-same out) (segments.distr-made b n 0 bs xs fit)

      back : Loops distr n (flags bs ∷ data_of b xs ∷ []) a → functions.distr some n bs b xs ≡ made a
      back l =
          let (zs, e) = data-out b (flags bs) xs a (λ d. (refl, refl)) l in
          let (fit, out) = segments.distr-gives b n 0 xs zs (subst (Loops distr n (flags bs ∷ data_of b xs ∷ [])) e l) in
          rw fit (ap (λ z. made (data_of b z)) (sym out) ∙ ap made (sym e))

  pack-exactly : (cs : List Bool) (b : Base) (xs : List (Element b)) (a : Stream) → (functions.pack n cs b xs ≡ made a) ↔ Loops pack n (bools cs ∷ data_of b xs ∷ []) a
  pack-exactly cs b xs a = (there, back)
    where
      there : functions.pack n cs b xs ≡ made a → Loops pack n (bools cs ∷ data_of b xs ∷ []) a
      there q =
          let (fit, out) = unless-made (length_misfit n (length cs) (length xs)) unfit _ unfit-not q in
          let (l, m) = lengths-fit n (length cs) (length xs) fit in
          subst (Loops pack n (bools cs ∷ data_of b xs ∷ [])) (made-same out) (items.pack_made b n cs xs l m)

      told : (zs : List (Element b)) → items.Packed b n cs xs zs → functions.pack n cs b xs ≡ made (data_of b zs)
      told zs (items.packed l m r) = rw (fit-lengths n (length cs) (length xs) l m) (ap (λ z. made (data_of b z)) (sym r))

      back : Loops pack n (bools cs ∷ data_of b xs ∷ []) a → functions.pack n cs b xs ≡ made a
      back l =
          let (zs, e) = data-out b (bools cs) xs a (λ d. (refl, refl)) l in
          told zs (items.pack-gives b n cs xs zs (subst (Loops pack n (bools cs ∷ data_of b xs ∷ [])) e l)) ∙ ap made (sym e)

  upack-exactly : (cs bs : List Bool) (a : Stream) → (functions.upack some n cs bs ≡ made a) ↔ Loops upack n (bools cs ∷ flags bs ∷ []) a
  upack-exactly cs bs a = (there, back)
    where
      there : functions.upack some n cs bs ≡ made a → Loops upack n (bools cs ∷ flags bs ∷ []) a
      there q =
          let (fit, out) = unless-made (misfit some each_t 0 n bs cs) unfit _ unfit-not q in
          subst (Loops upack n (bools cs ∷ flags bs ∷ [])) (made-same out) (segments.upack-made n 0 cs bs fit)

      back : Loops upack n (bools cs ∷ flags bs ∷ []) a → functions.upack some n cs bs ≡ made a
      back l =
          let (ds, e) = is-flags a (gives-kind l (λ b. refl)) in
          let (fit, out) = segments.upack-gives 0 (subst (Loops upack n (bools cs ∷ flags bs ∷ [])) e l) in
          rw fit (ap (λ z. made (flags z)) (sym out) ∙ ap made (sym e))

  module _ (bs : List Bool) (xs : List ℤ) (a : Stream) where
    -- results in range, with their elements
    ranged : (rs : List (ℕ × ℤ)) (ψ : Xducer)
        → ((b : Base) → gives b ψ ≡ Ints)
        → (misfit some each_f 0 n bs xs ≡ none → first_outside rs ≡ none → Loops ψ n (flags bs ∷ ints xs ∷ []) (ints (map (λ r. r.1) rs)))
        → ((zs : List ℤ) → Loops ψ n (flags bs ∷ ints xs ∷ []) (ints zs) → (misfit some each_f 0 n bs xs ≡ none) × (first_outside rs ≡ none) × (zs ≡ map (λ r. r.1) rs))
        → (unless (misfit some each_f 0 n bs xs) unfit (exact rs) ≡ made a) ↔ Loops ψ n (flags bs ∷ ints xs ∷ []) a
    ranged rs ψ given make give = (there, back)
      where
        there : unless (misfit some each_f 0 n bs xs) unfit (exact rs) ≡ made a → Loops ψ n (flags bs ∷ ints xs ∷ []) a
        there q =
            let (fit, rest) = unless-made (misfit some each_f 0 n bs xs) unfit _ unfit-not q in
            let (inside, out) = exact-made rs rest in
            subst (Loops ψ n (flags bs ∷ ints xs ∷ [])) out (make fit inside)

        back : Loops ψ n (flags bs ∷ ints xs ∷ []) a → unless (misfit some each_f 0 n bs xs) unfit (exact rs) ≡ made a
        back l =
            let (zs, e) = is-ints a (gives-kind l given) in
            let (fit, inside, out) = give zs (subst (Loops ψ n (flags bs ∷ ints xs ∷ [])) e l) in
            ap (λ o. unless o unfit (exact rs)) fit ∙ made-exact rs inside ∙ ap (λ z. made (ints z)) (sym out) ∙ ap made (sym e)

    scan-exactly : (z : ℤ) → (functions.scan_plus some z n bs xs ≡ made a) ↔ Loops (scan_plus z) n (flags bs ∷ ints xs ∷ []) a
    scan-exactly z = ranged (scans some z 0 z bs xs) (scan_plus z) (λ b. refl) (segments.scan-made z n 0 bs xs) (λ zs l. segments.scan-gives z 0 l)

    sum-exactly : (functions.sum_plus some n bs xs ≡ made a) ↔ Loops sum_plus n (flags bs ∷ ints xs ∷ []) a
    sum-exactly = ranged (sums some 0 (pos 0) bs xs) sum_plus (λ b. refl) (segments.sum-made n 0 bs xs) (λ zs l. segments.sum-gives 0 l)

-- ---- over whatever streams a store has

on-flags : (b : Stream) (f : List Bool → Answer) {a : Stream} → on_flags (some b) f ≡ made a → (bs : List Bool) × (b ≡ flags bs) × (f bs ≡ made a)
on-flags (ints zs) f q = never (cc)
on-flags (bools cs) f q = never (cc)
on-flags (flags bs) f q = (bs, refl, q)
on-flags (units n) f q = never (cc)

on-ints : (b : Stream) (f : List ℤ → Answer) {a : Stream} → on_ints (some b) f ≡ made a → (zs : List ℤ) × (b ≡ ints zs) × (f zs ≡ made a)
on-ints (ints zs) f q = (zs, refl, q)
on-ints (bools cs) f q = never (cc)
on-ints (flags bs) f q = never (cc)
on-ints (units n) f q = never (cc)

on-bools : (b : Stream) (f : List Bool → Answer) {a : Stream} → on_bools (some b) f ≡ made a → (cs : List Bool) × (b ≡ bools cs) × (f cs ≡ made a)
on-bools (ints zs) f q = never (cc)
on-bools (bools cs) f q = (cs, refl, q)
on-bools (flags bs) f q = never (cc)
on-bools (units n) f q = never (cc)

on-data : (c : Stream) (f : (b : Base) → List (Element b) → Answer) {a : Stream} → on_data (some c) f ≡ made a → (b : Base) × ((xs : List (Element b)) × ((c ≡ data_of b xs) × (f b xs ≡ made a)))
on-data (ints zs) f q = (base.Int, (zs, (refl, q)))
on-data (bools cs) f q = (base.Bool, (cs, (refl, q)))
on-data (flags bs) f q = never (cc)
on-data (units n) f q = never (cc)

data-on : (b : Base) (xs : List (Element b)) (f : (b : Base) → List (Element b) → Answer) → on_data (some (data_of b xs)) f ≡ f b xs
data-on base.Int xs f = refl
data-on base.Bool xs f = refl

first_kind : (b : Stream) (l : List Stream) {k : Kind} {ks : List Kind} → map kind_of (b ∷ l) ≡ k ∷ ks → kind_of b ≡ k
first_kind b l q = cc

second-kind : (b c : Stream) (l : List Stream) {k j : Kind} {ks : List Kind} → map kind_of (b ∷ c ∷ l) ≡ k ∷ j ∷ ks → kind_of c ≡ j
second-kind b c l q = cc

module _ (n : ℕ) (ψ : Xducer) (a : Stream) where
  over-ints : (g : List ℤ → Answer) → ((b : Base) → takes b ψ ≡ Ints ∷ [])
      → ((zs : List ℤ) → (g zs ≡ made a) ↔ Loops ψ n (ints zs ∷ []) a)
      → (b : Stream) → (on_ints (some b) g ≡ made a) ↔ Loops ψ n (b ∷ []) a
  over-ints g kinds exactly b = (there, back)
    where
      there : on_ints (some b) g ≡ made a → Loops ψ n (b ∷ []) a
      there q = let (zs, e, r) = on-ints b g q in subst (λ b. Loops ψ n (b ∷ []) a) (sym e) ((exactly zs).0 r)

      back : Loops ψ n (b ∷ []) a → on_ints (some b) g ≡ made a
      back l =
          let (zs, e) = is-ints b (first_kind b [] (takes-kinds l kinds)) in
          ap (λ b. on_ints (some b) g) e ∙ (exactly zs).1 (subst (λ b. Loops ψ n (b ∷ []) a) e l)

  over-flags : (g : List Bool → Answer) → ((b : Base) → takes b ψ ≡ Flags ∷ [])
      → ((bs : List Bool) → (g bs ≡ made a) ↔ Loops ψ n (flags bs ∷ []) a)
      → (b : Stream) → (on_flags (some b) g ≡ made a) ↔ Loops ψ n (b ∷ []) a
  over-flags g kinds exactly b = (there, back)
    where
      there : on_flags (some b) g ≡ made a → Loops ψ n (b ∷ []) a
      there q = let (bs, e, r) = on-flags b g q in subst (λ b. Loops ψ n (b ∷ []) a) (sym e) ((exactly bs).0 r)

      back : Loops ψ n (b ∷ []) a → on_flags (some b) g ≡ made a
      back l =
          let (bs, e) = is-flags b (first_kind b [] (takes-kinds l kinds)) in
          ap (λ b. on_flags (some b) g) e ∙ (exactly bs).1 (subst (λ b. Loops ψ n (b ∷ []) a) e l)

  over-two-ints : (g : List ℤ → List ℤ → Answer) → ((b : Base) → takes b ψ ≡ Ints ∷ Ints ∷ [])
      → ((xs ys : List ℤ) → (g xs ys ≡ made a) ↔ Loops ψ n (ints xs ∷ ints ys ∷ []) a)
      → (b c : Stream) → (on_ints (some b) (λ xs. on_ints (some c) (g xs)) ≡ made a) ↔ Loops ψ n (b ∷ c ∷ []) a
  over-two-ints g kinds exactly b c = (there, back)
    where
      there : on_ints (some b) (λ xs. on_ints (some c) (g xs)) ≡ made a → Loops ψ n (b ∷ c ∷ []) a
      there q =
          let (xs, e, r) = on-ints b (λ xs. on_ints (some c) (g xs)) q in
          let (ys, f, s) = on-ints c (g xs) r in
          transport (λ i. Loops ψ n (sym e i ∷ sym f i ∷ []) a) ((exactly xs ys).0 s)

      back : Loops ψ n (b ∷ c ∷ []) a → on_ints (some b) (λ xs. on_ints (some c) (g xs)) ≡ made a
      back l =
          let (xs, e) = is-ints b (first_kind b (c ∷ []) (takes-kinds l kinds)) in
          let (ys, f) = is-ints c (second-kind b c [] (takes-kinds l kinds)) in
          (λ i. on_ints (some (e i)) (λ xs. on_ints (some (f i)) (g xs))) ∙ (exactly xs ys).1 (transport (λ i. Loops ψ n (e i ∷ f i ∷ []) a) l)

  over-flags-ints : (g : List Bool → List ℤ → Answer) → ((b : Base) → takes b ψ ≡ Flags ∷ Ints ∷ [])
      → ((bs : List Bool) (xs : List ℤ) → (g bs xs ≡ made a) ↔ Loops ψ n (flags bs ∷ ints xs ∷ []) a)
      → (b c : Stream) → (on_flags (some b) (λ bs. on_ints (some c) (g bs)) ≡ made a) ↔ Loops ψ n (b ∷ c ∷ []) a
  over-flags-ints g kinds exactly b c = (there, back)
    where
      there : on_flags (some b) (λ bs. on_ints (some c) (g bs)) ≡ made a → Loops ψ n (b ∷ c ∷ []) a
      there q =
          let (bs, e, r) = on-flags b (λ bs. on_ints (some c) (g bs)) q in
          let (xs, f, s) = on-ints c (g bs) r in
          transport (λ i. Loops ψ n (sym e i ∷ sym f i ∷ []) a) ((exactly bs xs).0 s)

      back : Loops ψ n (b ∷ c ∷ []) a → on_flags (some b) (λ bs. on_ints (some c) (g bs)) ≡ made a
      back l =
          let (bs, e) = is-flags b (first_kind b (c ∷ []) (takes-kinds l kinds)) in
          let (xs, f) = is-ints c (second-kind b c [] (takes-kinds l kinds)) in
          (λ i. on_flags (some (e i)) (λ bs. on_ints (some (f i)) (g bs))) ∙ (exactly bs xs).1 (transport (λ i. Loops ψ n (e i ∷ f i ∷ []) a) l)

  over-bools : (g : List Bool → Answer) → ((b : Base) → takes b ψ ≡ Bools ∷ [])
      → ((cs : List Bool) → (g cs ≡ made a) ↔ Loops ψ n (bools cs ∷ []) a)
      → (b : Stream) → (on_bools (some b) g ≡ made a) ↔ Loops ψ n (b ∷ []) a
  over-bools g kinds exactly b = (there, back)
    where
      there : on_bools (some b) g ≡ made a → Loops ψ n (b ∷ []) a
      there q = let (cs, e, r) = on-bools b g q in subst (λ b. Loops ψ n (b ∷ []) a) (sym e) ((exactly cs).0 r)

      back : Loops ψ n (b ∷ []) a → on_bools (some b) g ≡ made a
      back l =
          let (cs, e) = is-bools b (first_kind b [] (takes-kinds l kinds)) in
          ap (λ b. on_bools (some b) g) e ∙ (exactly cs).1 (subst (λ b. Loops ψ n (b ∷ []) a) e l)

  over-bools-flags : (g : List Bool → List Bool → Answer) → ((b : Base) → takes b ψ ≡ Bools ∷ Flags ∷ [])
      → ((cs bs : List Bool) → (g cs bs ≡ made a) ↔ Loops ψ n (bools cs ∷ flags bs ∷ []) a)
      → (b c : Stream) → (on_bools (some b) (λ cs. on_flags (some c) (g cs)) ≡ made a) ↔ Loops ψ n (b ∷ c ∷ []) a
  over-bools-flags g kinds exactly b c = (there, back)
    where
      there : on_bools (some b) (λ cs. on_flags (some c) (g cs)) ≡ made a → Loops ψ n (b ∷ c ∷ []) a
      there q =
          let (cs, e, r) = on-bools b (λ cs. on_flags (some c) (g cs)) q in
          let (bs, f, s) = on-flags c (g cs) r in
          transport (λ i. Loops ψ n (sym e i ∷ sym f i ∷ []) a) ((exactly cs bs).0 s)

      back : Loops ψ n (b ∷ c ∷ []) a → on_bools (some b) (λ cs. on_flags (some c) (g cs)) ≡ made a
      back l =
          let (cs, e) = is-bools b (first_kind b (c ∷ []) (takes-kinds l kinds)) in
          let (bs, f) = is-flags c (second-kind b c [] (takes-kinds l kinds)) in
          (λ i. on_bools (some (e i)) (λ cs. on_flags (some (f i)) (g cs))) ∙ (exactly cs bs).1 (transport (λ i. Loops ψ n (e i ∷ f i ∷ []) a) l)

  over-bools-data : (g : List Bool → (b : Base) → List (Element b) → Answer) → ((b : Base) → takes b ψ ≡ Bools ∷ data_kind b ∷ [])
      → ((cs : List Bool) (b : Base) (xs : List (Element b)) → (g cs b xs ≡ made a) ↔ Loops ψ n (bools cs ∷ data_of b xs ∷ []) a)
      → (b c : Stream) → (on_bools (some b) (λ cs. on_data (some c) (g cs)) ≡ made a) ↔ Loops ψ n (b ∷ c ∷ []) a
  over-bools-data g kinds exactly b c = (there, λ l. back l (loop-kinds l))
    where
      there : on_bools (some b) (λ cs. on_data (some c) (g cs)) ≡ made a → Loops ψ n (b ∷ c ∷ []) a
      there q =
          let (cs, e, r) = on-bools b (λ cs. on_data (some c) (g cs)) q in
          let (d, (xs, (f, s))) = on-data c (g cs) r in
          transport (λ i. Loops ψ n (sym e i ∷ sym f i ∷ []) a) ((exactly cs d xs).0 s)

      back : Loops ψ n (b ∷ c ∷ []) a → HasKinds ψ (b ∷ c ∷ []) a → on_bools (some b) (λ cs. on_data (some c) (g cs)) ≡ made a
      back l (has-kinds d p q) =
          let (cs, e) = is-bools b (first_kind b (c ∷ []) (p ∙ kinds d)) in
          let (xs, f) = is-data d c (second-kind b c [] (p ∙ kinds d)) in
          (λ i. on_bools (some (e i)) (λ cs. on_data (some (f i)) (g cs))) ∙ data-on d xs (g cs) ∙ (exactly cs d xs).1 (transport (λ i. Loops ψ n (e i ∷ f i ∷ []) a) l)

  over-flags-data : (g : List Bool → (b : Base) → List (Element b) → Answer) → ((b : Base) → takes b ψ ≡ Flags ∷ data_kind b ∷ [])
      → ((bs : List Bool) (b : Base) (xs : List (Element b)) → (g bs b xs ≡ made a) ↔ Loops ψ n (flags bs ∷ data_of b xs ∷ []) a)
      → (b c : Stream) → (on_flags (some b) (λ bs. on_data (some c) (g bs)) ≡ made a) ↔ Loops ψ n (b ∷ c ∷ []) a
  over-flags-data g kinds exactly b c = (there, λ l. back l (loop-kinds l))
    where
      there : on_flags (some b) (λ bs. on_data (some c) (g bs)) ≡ made a → Loops ψ n (b ∷ c ∷ []) a
      there q =
          let (bs, e, r) = on-flags b (λ bs. on_data (some c) (g bs)) q in
          let (d, (xs, (f, s))) = on-data c (g bs) r in
          transport (λ i. Loops ψ n (sym e i ∷ sym f i ∷ []) a) ((exactly bs d xs).0 s)

      back : Loops ψ n (b ∷ c ∷ []) a → HasKinds ψ (b ∷ c ∷ []) a → on_flags (some b) (λ bs. on_data (some c) (g bs)) ≡ made a
      back l (has-kinds d p q) =
          let (bs, e) = is-flags b (first_kind b (c ∷ []) (p ∙ kinds d)) in
          let (xs, f) = is-data d c (second-kind b c [] (p ∙ kinds d)) in
          (λ i. on_flags (some (e i)) (λ bs. on_data (some (f i)) (g bs))) ∙ data-on d xs (g bs) ∙ (exactly bs d xs).1 (transport (λ i. Loops ψ n (e i ∷ f i ∷ []) a) l)

-- an answer that is another one
renamed : {X Y : Answer} {L : Type 0} {a : Stream} → X ≡ Y → (Y ≡ made a) ↔ L → (X ≡ made a) ↔ L
renamed e (f, g) = (λ q. f (sym e ∙ q), λ l. e ∙ g l)

pub apply-exactly : (t : Transducer) (n : ℕ) (σ : Store) {xs : List Stream} (a : Stream)
    → Fetches (λ s. σ ! s) (operands t) xs
    → (apply t n σ ≡ made a) ↔ Loops (xducer t) n xs a
unfolding apply
apply-exactly (Const z) n σ a fetches-none = const-exactly n z a
apply-exactly (ToFlags s) n σ a (fetches-more {a = b} p fetches-none) =
    renamed (ap (λ o. on_ints o (functions.to_flags n)) p) (over-ints n to_flags a (functions.to_flags n) (λ b. refl) (λ zs. to_flags-exactly n zs a) b)
apply-exactly (Usum s) n σ a (fetches-more {a = b} p fetches-none) =
    renamed (ap (λ o. on_flags o (functions.usum some n)) p) (over-flags n usum a (functions.usum some n) (λ b. refl) (λ bs. usum-exactly n bs a) b)
apply-exactly (MapTwo o s t) n σ a (fetches-more {a = b} p (fetches-more {a = c} q fetches-none)) =
    renamed (λ i. on_ints (p i) (λ xs. on_ints (q i) (functions.map_two o n xs)))
    (over-two-ints n (map_two o) a (functions.map_two o n) (λ b. refl) (λ xs ys. map_two-exactly n o xs ys a) b c)
apply-exactly (ConstBool c) n σ a fetches-none = const_bool-exactly n c a
apply-exactly (B2u s) n σ a (fetches-more {a = b} p fetches-none) =
    renamed (ap (λ o. on_bools o (functions.b2u n)) p) (over-bools n b2u a (functions.b2u n) (λ b. refl) (λ cs. b2u-exactly n cs a) b)
apply-exactly (MapOneNot s) n σ a (fetches-more {a = b} p fetches-none) =
    renamed (ap (λ o. on_bools o (functions.map_one_not n)) p) (over-bools n map_one_not a (functions.map_one_not n) (λ b. refl) (λ cs. not-exactly n cs a) b)
apply-exactly (Pack s t) n σ a (fetches-more {a = b} p (fetches-more {a = c} q fetches-none)) =
    renamed (λ i. on_bools (p i) (λ cs. on_data (q i) (functions.pack n cs)))
    (over-bools-data n pack a (functions.pack n) (λ b. refl) (λ cs b xs. pack-exactly n cs b xs a) b c)
apply-exactly (UPack s t) n σ a (fetches-more {a = b} p (fetches-more {a = c} q fetches-none)) =
    renamed (λ i. on_bools (p i) (λ cs. on_flags (q i) (functions.upack some n cs)))
    (over-bools-flags n upack a (functions.upack some n) (λ b. refl) (λ cs bs. upack-exactly n cs bs a) b c)
apply-exactly (ScanPlus z s t) n σ a (fetches-more {a = b} p (fetches-more {a = c} q fetches-none)) =
    renamed (λ i. on_flags (p i) (λ bs. on_ints (q i) (functions.scan_plus some z n bs)))
    (over-flags-ints n (scan_plus z) a (functions.scan_plus some z n) (λ b. refl) (λ bs xs. scan-exactly n bs xs a z) b c)
apply-exactly (Distr s t) n σ a (fetches-more {a = b} p (fetches-more {a = c} q fetches-none)) =
    renamed (λ i. on_flags (p i) (λ bs. on_data (q i) (functions.distr some n bs)))
    (over-flags-data n distr a (functions.distr some n) (λ b. refl) (λ bs b xs. distr-exactly n bs b xs a) b c)
apply-exactly (SumPlus s t) n σ a (fetches-more {a = b} p (fetches-more {a = c} q fetches-none)) =
    renamed (λ i. on_flags (p i) (λ bs. on_ints (q i) (functions.sum_plus some n bs)))
    (over-flags-ints n sum_plus a (functions.sum_plus some n) (λ b. refl) (λ bs xs. sum-exactly n bs xs a) b c)

-- ---- an answer that was made had all its operands

found-flags : (o : Option Stream) (f : List Bool → Answer) {a : Stream} → on_flags o f ≡ made a → (b : Stream) × (o ≡ some b) × ((bs : List Bool) × (f bs ≡ made a))
found-flags none f q = never (cc)
found-flags (some b) f q = let (bs, e, r) = on-flags b f q in (b, refl, (bs, r))

found-ints : (o : Option Stream) (f : List ℤ → Answer) {a : Stream} → on_ints o f ≡ made a → (b : Stream) × (o ≡ some b) × ((zs : List ℤ) × (f zs ≡ made a))
found-ints none f q = never (cc)
found-ints (some b) f q = let (zs, e, r) = on-ints b f q in (b, refl, (zs, r))

found-bools : (o : Option Stream) (f : List Bool → Answer) {a : Stream} → on_bools o f ≡ made a → (b : Stream) × (o ≡ some b) × ((cs : List Bool) × (f cs ≡ made a))
found-bools none f q = never (cc)
found-bools (some b) f q = let (cs, e, r) = on-bools b f q in (b, refl, (cs, r))

found-data : (o : Option Stream) (f : (b : Base) → List (Element b) → Answer) {a : Stream} → on_data o f ≡ made a → (c : Stream) × (o ≡ some c)
found-data none f q = never (cc)
found-data (some b) f q = (b, refl)

pub apply-fetches : (t : Transducer) (n : ℕ) (σ : Store) {a : Stream} → apply t n σ ≡ made a → (xs : List Stream) × Fetches (λ s. σ ! s) (operands t) xs
unfolding apply
apply-fetches (Const z) n σ q = ([], fetches-none)
apply-fetches (ToFlags s) n σ q = let (b, e, r) = found-ints (σ ! s.0) _ q in (b ∷ [], fetches-more e fetches-none)
apply-fetches (Usum s) n σ q = let (b, e, r) = found-flags (σ ! s.0) _ q in (b ∷ [], fetches-more e fetches-none)
apply-fetches (MapTwo o s t) n σ q =
    let (b, e, (xs, r)) = found-ints (σ ! s.0) _ q in
    let (c, f, z) = found-ints (σ ! t.0) _ r in
    (b ∷ c ∷ [], fetches-more e (fetches-more f fetches-none))
apply-fetches (ConstBool c) n σ q = ([], fetches-none)
apply-fetches (B2u s) n σ q = let (b, e, r) = found-bools (σ ! s.0) _ q in (b ∷ [], fetches-more e fetches-none)
apply-fetches (MapOneNot s) n σ q = let (b, e, r) = found-bools (σ ! s.0) _ q in (b ∷ [], fetches-more e fetches-none)
apply-fetches (Pack s t) n σ q =
    let (b, e, (xs, r)) = found-bools (σ ! s.0) _ q in
    let (c, f) = found-data (σ ! t.0) _ r in
    (b ∷ c ∷ [], fetches-more e (fetches-more f fetches-none))
apply-fetches (UPack s t) n σ q =
    let (b, e, (xs, r)) = found-bools (σ ! s.0) _ q in
    let (c, f, z) = found-flags (σ ! t.0) _ r in
    (b ∷ c ∷ [], fetches-more e (fetches-more f fetches-none))
apply-fetches (ScanPlus z s t) n σ q =
    let (b, e, (xs, r)) = found-flags (σ ! s.0) _ q in
    let (c, f, z) = found-ints (σ ! t.0) _ r in
    (b ∷ c ∷ [], fetches-more e (fetches-more f fetches-none))
apply-fetches (Distr s t) n σ q =
    let (b, e, (xs, r)) = found-flags (σ ! s.0) _ q in
    let (c, f) = found-data (σ ! t.0) _ r in
    (b ∷ c ∷ [], fetches-more e (fetches-more f fetches-none))
apply-fetches (SumPlus s t) n σ q =
    let (b, e, (xs, r)) = found-flags (σ ! s.0) _ q in
    let (c, f, z) = found-ints (σ ! t.0) _ r in
    (b ∷ c ∷ [], fetches-more e (fetches-more f fetches-none))

-- ---- 002, Lemma 1.8: the rules give one output at most

-- streams of a ψ's kinds are those of its operands in a store that has no others
no-streams : (xs : List Stream) → map kind_of xs ≡ [] → Fetches (λ s. xs ! s) [] xs
no-streams [] q = fetches-none
no-streams (b ∷ xs) q = never (cc)

one-stream : (xs : List Stream) {k : Kind} → map kind_of xs ≡ k ∷ [] → Fetches (λ s. xs ! s) (0 ∷ []) xs
one-stream [] q = never (cc)
one-stream (b ∷ []) q = fetches-more refl fetches-none
one-stream (b ∷ c ∷ xs) q = never (cc)

two-streams : (xs : List Stream) {k j : Kind} → map kind_of xs ≡ k ∷ j ∷ [] → Fetches (λ s. xs ! s) (0 ∷ 1 ∷ []) xs
two-streams [] q = never (cc)
two-streams (b ∷ []) q = never (cc)
two-streams (b ∷ c ∷ []) q = fetches-more refl (fetches-more refl fetches-none)
two-streams (b ∷ c ∷ d ∷ xs) q = never (cc)

once_by : (t : Transducer) {n : ℕ} {xs : List Stream} {a b : Stream} → Fetches (λ s. xs ! s) (operands t) xs → Loops (xducer t) n xs a → Loops (xducer t) n xs b → a ≡ b
once_by t {n} {xs} {a} {b} f h k = made-same (sym ((apply-exactly t n xs a f).1 h) ∙ (apply-exactly t n xs b f).1 k)

some-two : {ψ : Xducer} {n : ℕ} {xs : List Stream} {a : Stream} → Loops ψ n xs a → ((b : Base) → (j : Kind) × ((k : Kind) × (takes b ψ ≡ j ∷ k ∷ []))) → Fetches (λ s. xs ! s) (0 ∷ 1 ∷ []) xs
some-two {ψ} {xs = xs} {a = a} l two = go (loop-kinds l)
  where
    go : HasKinds ψ xs a → Fetches (λ s. xs ! s) (0 ∷ 1 ∷ []) xs
    go (has-kinds b p q) = let (j, (k, e)) = two b in two-streams xs (p ∙ e)

pub loops-once : (ψ : Xducer) {n : ℕ} {xs : List Stream} {a b : Stream} → Loops ψ n xs a → Loops ψ n xs b → a ≡ b
loops-once (const z) {xs = xs} h k = once_by (transducer (const z)) (no-streams xs (takes-kinds h (λ b. refl))) h k
loops-once (const_bool c) {xs = xs} h k = once_by (transducer (const_bool c)) (no-streams xs (takes-kinds h (λ b. refl))) h k
loops-once to_flags {xs = xs} h k = once_by (transducer to_flags) (one-stream xs (takes-kinds h (λ b. refl))) h k
loops-once b2u {xs = xs} h k = once_by (transducer b2u) (one-stream xs (takes-kinds h (λ b. refl))) h k
loops-once usum {xs = xs} h k = once_by (transducer usum) (one-stream xs (takes-kinds h (λ b. refl))) h k
loops-once map_one_not {xs = xs} h k = once_by (transducer map_one_not) (one-stream xs (takes-kinds h (λ b. refl))) h k
loops-once (map_two o) h k = once_by (transducer (map_two o)) (some-two h (λ b. (_, (_, refl)))) h k
loops-once (scan_plus z) h k = once_by (transducer (scan_plus z)) (some-two h (λ b. (_, (_, refl)))) h k
loops-once distr h k = once_by (transducer distr) (some-two h (λ b. (_, (_, refl)))) h k
loops-once sum_plus h k = once_by (transducer sum_plus) (some-two h (λ b. (_, (_, refl)))) h k
loops-once pack h k = once_by (transducer pack) (some-two h (λ b. (_, (_, refl)))) h k
loops-once upack h k = once_by (transducer upack) (some-two h (λ b. (_, (_, refl)))) h k
