-- iota over a list of environments: ToFlags, Usum, Const_1 under as many units as there are items (skipped where there is none), ScanPlus.
use Prim.Native.Nat.{ℕ, zero, suc, ◌+◌}
use native.Mathlib.Omega.{arith}
use mathlib.Core.Path.{◌≡◌, refl, ap, ◌∙◌, sym, subst}
use mathlib.Core.List.{List, [], ◌∷◌, ◌++◌, map, append_assoc}
use mathlib.Core.Option.{Option, some, none}
use lib.IntN.{ℤ, pos}
use lib.ListN.{length, length-map, length-replicate, replicate}
use Rattle.snesl.specs.declared.code.Transducer.TheVariants.{Const, ToFlags, Usum, ScanPlus}
use Rattle.snesl.specs.Values.{ValueType, int, Val}
use Rattle.snesl.specs.Terms.{◌∋◌, iota, All, lookup}
use Rattle.snesl.specs.Streams.{ints, flags, units, ◌!◌}
use Rattle.snesl.specs.Trees.{IdTree, root}
use Rattle.snesl.specs.Transducers.{apply, made, negative, outside, unless, first_negative, first_outside, scans, unary}
use Rattle.snesl.specs.Programs.{Program, define, done, with_ctrl, ◌⨾◌}
use Rattle.snesl.specs.Machine.{State, onward, run, boundless, push, skip, skipped, sum_of, work_of, fetch}
use Rattle.snesl.specs.Evaluation.{eval, all_of, within, up_to}
use Rattle.snesl.specs.Translation.{size, tree, code, id}
use Rattle.snesl.specs.Charges.{steps_of}
use Rattle.snesl.specs.Representation.{holds-leaf, holds-node, concat, segments}
use Rattle.snesl.specs.Agreement.{ComesTo, ran, halted, iota-negative, no_number}
use Rattle.snesl.proofs.Correctness.AllOf.{all_of-map, Flattened, flat, neither, flattened}
use Rattle.snesl.proofs.Correctness.Segments.{length-segments}
use Rattle.snesl.proofs.Correctness.Exact.{counts_of, Ranged, all_in, one_out, ranged, unary-segments, results-scans, Signed, one-negative, all-natural, signed}
use Rattle.snesl.proofs.Correctness.Charged.{charges, charges-iota}
use Rattle.snesl.proofs.Correctness.Reached.{steps-iota-none, steps-iota-some}
use Rattle.snesl.proofs.Correctness.RunParts.{run-made, run-outside, run-negative, run-skipped, run-body}
use Rattle.snesl.proofs.Correctness.Grown.{held-data, new-stream, old-stream, next-id}
use Rattle.snesl.proofs.Correctness.Applied.{apply-usum, apply-scan, apply-to_flags, work-one, work-two}
use Rattle.snesl.proofs.Correctness.Leaves.{Correct}

module _ {Γ : List ValueType} (x : Γ ∋ int) (δ : All IdTree Γ) (ρ : All Val Γ) (ρs : List (All Val Γ)) (s : ℕ) (m : State) where
  -- the numbers, and the lists that the rules give
  abbrev zs : List ℤ
  zs = map (lookup x) (ρ ∷ ρs)

  abbrev ls : List (List ℤ)
  ls = map counts_of zs

  abbrev n : ℕ
  n = length (ρ ∷ ρs)

  abbrev ones : List ℤ
  ones = replicate (length (concat ls)) (pos 1)

  abbrev scan : Program
  scan = define (ScanPlus (pos 0) (id s) (id (s + 2))) done

  -- after ToFlags, and after Usum
  abbrev flagged : State
  flagged = push (ToFlags (id (root (lookup x δ)))) n (flags (segments ls)) m

  abbrev counted : State
  counted = push (Usum (id s)) n (units (length (concat ls))) flagged

  -- after Const_1: run under some units, or skipped
  record Filled (m' : State) : Type 0 where
    store : m'.store ≡ counted.store ++ ints ones ∷ []
    work : m'.work ≡ counted.work + length (concat ls)
    steps : m'.steps + 3 ≡ counted.steps + steps_of (iota x) (ρ ∷ ρs)

  length-ls : length ls ≡ n
  length-ls = length-map zs counts_of ∙ length-map (ρ ∷ ρs) (lookup x)

  module _ (first : length m.store ≡ s) where
    flags-at : counted.store ! s ≡ some (flags (segments ls))
    flags-at = old-stream flagged.store (units (length (concat ls))) s (new-stream m.store (flags (segments ls)) first)

    units-at : counted.store ! (s + 1) ≡ some (units (length (concat ls)))
    units-at = new-stream flagged.store (units (length (concat ls))) (next-id m.store (flags (segments ls)) first)

    filling : (outs ins : List ℕ) → (m' : State) × Filled m' × (run boundless (with_ctrl outs (s + 1) ins (define (Const (pos 1)) done) scan) n counted ≡ run boundless scan n m')
    unfolding skipped run apply sum_of
    filling outs ins = go (length (concat ls)) refl
      where
        go : (k : ℕ) → length (concat ls) ≡ k
            → (m' : State) × Filled m' × (run boundless (with_ctrl outs (s + 1) ins (define (Const (pos 1)) done) scan) n counted ≡ run boundless scan n m')
        go zero h = (
          skip (define (Const (pos 1)) done) counted,
          record {
            store = ap (λ k. counted.store ++ ints (replicate k (pos 1)) ∷ []) (sym h);
            work = omega arith;
            steps = omega (arith, steps-iota-none x ρ ρs h);
          },
          run-skipped boundless outs ins (s + 1) (define (Const (pos 1)) done) scan n counted (units-at ∙ ap (λ k. some (units k)) h),
        )
        go (suc j) h = (
          push (Const (pos 1)) (suc j) (ints (replicate (suc j) (pos 1))) counted,
          record {
            store = ap (λ k. counted.store ++ ints (replicate k (pos 1)) ∷ []) (sym h);
            work = omega (arith, length-replicate j (pos 1));
            steps = omega (arith, steps-iota-some x ρ ρs j h);
          },
          run-body boundless outs ins (s + 1) (define (Const (pos 1)) done) scan n counted (units-at ∙ ap (λ k. some (units k)) h)
              ∙ ap (λ r. onward r (run boundless scan n)) (run-made (Const (pos 1)) done (suc j) counted refl),
        )

    -- ScanPlus, the last
    module _ (m' : State) (filled : Filled m') where
      flags-then : m'.store ! s ≡ some (flags (segments ls))
      flags-then = rw filled.store (old-stream counted.store (ints ones) s flags-at)

      ones-then : m'.store ! (s + 2) ≡ some (ints ones)
      ones-then = rw filled.store (new-stream counted.store (ints ones) (next-id flagged.store _ (next-id m.store _ first) ∙ omega arith))

      next : length m'.store ≡ s + 3
      next =
          ap length filled.store
          ∙ next-id counted.store (ints ones) (next-id flagged.store _ (next-id m.store _ first))
          ∙ omega arith

      spent : m.store ! root (lookup x δ) ≡ some (ints zs)
          → m'.work + work_of n (fetch m'.store (s ∷ (s + 2) ∷ [])) (ints (concat ls)) ≡ m.work + charges (iota x) (ρ ∷ ρs)
      spent numbers =
          omega (
            arith,
            filled.work,
            work-one m.store (root (lookup x δ)) n (flags (segments ls)) numbers,
            work-one flagged.store s n (units (length (concat ls))) (new-stream m.store (flags (segments ls)) first),
            work-two m'.store s (s + 2) n (ints (concat ls)) flags-then ones-then,
            length-segments ls,
            length-ls,
            length-map (ρ ∷ ρs) (lookup x),
            length-replicate (length (concat ls)) (pos 1),
            charges-iota x (ρ ∷ ρs),
          )

      scanned-well : m.store ! root (lookup x δ) ≡ some (ints zs)
          → (vs : List (List ℤ))
          → segments vs ≡ segments ls
          → concat vs ≡ concat ls
          → apply (ScanPlus (pos 0) (id s) (id (s + 2))) n m'.store ≡ made (ints (concat ls))
          → ComesTo (iota x) δ s (ρ ∷ ρs) m (some vs) (run boundless scan n m')
      unfolding run size tree
      scanned-well numbers vs p q h =
          subst (λ r. ComesTo (iota x) δ s (ρ ∷ ρs) m (some vs) r) (sym (run-made (ScanPlus (pos 0) (id s) (id (s + 2))) done n m' h))
          (ran record {
            added = flags (segments ls) ∷ units (length (concat ls)) ∷ ints ones ∷ ints (concat ls) ∷ [];
            store = rw filled.store (simp append_assoc);
            adds = refl;
            results =
                holds-node (rw p (old-stream m'.store (ints (concat ls)) s flags-then))
                (holds-leaf (rw q (new-stream m'.store (ints (concat ls)) next)));
            work = spent numbers;
            steps = omega (arith, filled.steps);
          })

      scanned : {o : Option (List (List ℤ))} {p : Option (List ℤ)} (f : Option ℕ)
          → m.store ! root (lookup x δ) ≡ some (ints zs)
          → Flattened ls o p
          → Ranged (concat ls) p f
          → apply (ScanPlus (pos 0) (id s) (id (s + 2))) n m'.store ≡ unless f outside (made (ints (concat ls)))
          → ComesTo (iota x) δ s (ρ ∷ ρs) m o (run boundless scan n m')
      unfolding size
      scanned none numbers h all_in q = well h refl
        where
          well : {o : Option (List (List ℤ))} {p : Option (List ℤ)} → Flattened ls o p → p ≡ some (concat ls) → ComesTo (iota x) δ s (ρ ∷ ρs) m o (run boundless scan n m')
          well (flat {rs = vs} k) e = scanned-well numbers vs k (cc) q
          well neither e = let z : ◌≡◌ {A = ℕ} 0 1 = cc in absurd (omega arith)
      scanned (some i) numbers h one_out q = ill h refl
        where
          ill : {o : Option (List (List ℤ))} {p : Option (List ℤ)} → Flattened ls o p → p ≡ none → ComesTo (iota x) δ s (ρ ∷ ρs) m o (run boundless scan n m')
          ill (flat k) e = let z : ◌≡◌ {A = ℕ} 0 1 = cc in absurd (omega arith)
          ill neither e =
              subst (λ r. ComesTo (iota x) δ s (ρ ∷ ρs) m none r) (sym (run-outside (ScanPlus (pos 0) (id s) (id (s + 2))) done n m' q))
              (halted no_number (omega (arith, next)) (omega (arith, next)))

    -- numbers of which none is negative
    natural : (outs ins : List ℕ)
        → m.store ! root (lookup x δ) ≡ some (ints zs)
        → apply (ToFlags (id (root (lookup x δ)))) n m.store ≡ made (flags (unary zs))
        → ComesTo (iota x) δ s (ρ ∷ ρs) m (all_of (all_of within) ls)
        (run boundless
        (define (ToFlags (id (root (lookup x δ))))
        (define (Usum (id s)) (with_ctrl outs (s + 1) ins (define (Const (pos 1)) done) scan)))
        n m)
    natural outs ins numbers h =
        let (m', filled, e) = filling outs ins in
        let body = with_ctrl outs (s + 1) ins (define (Const (pos 1)) done) scan in
        let rs = scans some (pos 0) 0 (pos 0) (segments ls) ones in
        subst (λ r. ComesTo (iota x) δ s (ρ ∷ ρs) m (all_of (all_of within) ls) r)
        (sym
        (run-made (ToFlags (id (root (lookup x δ)))) (define (Usum (id s)) body) n m (h ∙ ap (λ bs. made (flags bs)) (unary-segments zs))
        ∙ run-made (Usum (id s)) body n flagged (apply-usum flagged.store ls n s length-ls (new-stream m.store (flags (segments ls)) first))
        ∙ e))
        (scanned m' filled (first_outside rs) numbers (flattened within ls)
        (subst (λ l. Ranged l (all_of within l) (first_outside rs)) (results-scans zs 0) (ranged rs))
        (apply-scan m'.store ls ones (pos 0) n s (s + 2) length-ls (length-replicate (length (concat ls)) (pos 1)) (flags-then m' filled) (ones-then m' filled)
        ∙ ap (λ l. unless (first_outside rs) outside (made (ints l))) (results-scans zs 0)))

    -- and of which some are
    signs : (f : Option ℕ) (p : Program)
        → Signed zs f
        → apply (ToFlags (id (root (lookup x δ)))) n m.store ≡ unless f negative (made (flags (unary zs)))
        → (apply (ToFlags (id (root (lookup x δ)))) n m.store ≡ made (flags (unary zs))
        → ComesTo (iota x) δ s (ρ ∷ ρs) m (all_of (all_of within) ls) (run boundless (define (ToFlags (id (root (lookup x δ)))) p) n m))
        → ComesTo (iota x) δ s (ρ ∷ ρs) m (all_of up_to zs) (run boundless (define (ToFlags (id (root (lookup x δ)))) p) n m)
    unfolding size
    signs (some k) p (one-negative q) h well =
        rw (q, run-negative (ToFlags (id (root (lookup x δ)))) p n m h) (halted {i = length m.store} iota-negative (omega arith) (omega arith))
    signs none p (all-natural q) h well = rw q (well h)

pub correct-iota : {Γ : List ValueType} (x : Γ ∋ int) → Correct (iota x)
unfolding eval code ◌⨾◌
correct-iota x δ ρ ρs s m first a =
    let zs = map (lookup x) (ρ ∷ ρs) in
    let numbers : m.store ! root (lookup x δ) ≡ some (ints zs) = held-data (a.holds x) in
    let long : length zs ≡ length (ρ ∷ ρs) = length-map (ρ ∷ ρs) (lookup x) in
    subst (λ o. ComesTo (iota x) δ s (ρ ∷ ρs) m o (run boundless (code (iota x) δ s) (length (ρ ∷ ρs)) m)) (all_of-map up_to (lookup x) (ρ ∷ ρs))
    (signs x δ ρ ρs s m first (first_negative 0 zs) _ (signed zs 0)
    (apply-to_flags m.store zs (length (ρ ∷ ρs)) (root (lookup x δ)) long numbers)
    (natural x δ ρ ρs s m first _ _ numbers))
