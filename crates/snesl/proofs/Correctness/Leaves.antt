-- The terms whose code is at most one definition: variable, constant, operation, negation and sum.
use Prim.Native.Nat.{ℕ, ◌+◌, ◌*◌}
use native.Mathlib.Omega.{arith}
use mathlib.Core.Path.{◌≡◌, refl, ap, ◌∙◌, sym, subst}
use mathlib.Core.Bool.{Bool, not}
use mathlib.Core.List.{List, [], ◌∷◌, map, map-map, append-nil}
use mathlib.Core.Option.{Option, some, none}
use lib.IntN.{ℤ, pos, ◌+ℤ◌}
use lib.ListN.{length, length-map, length-replicate, replicate}
use lib.Signed.{le_z}
use Rattle.laws.proofs.Lists.{map-const}
use Rattle.snesl.specs.declared.code.Transducer.{Transducer}
use Rattle.snesl.specs.declared.code.Base.{Base}
use Rattle.snesl.specs.declared.code.Operation.{Operation}
use Rattle.snesl.specs.declared.code.Operation.TheVariants.{Plus, LessEqual, Equal}
use Rattle.snesl.specs.declared.code.Transducer.TheVariants.{MapTwo, MapOneNot, SumPlus}
use Rattle.snesl.specs.Values.{ValueType, scalar, braces, int, bool, Element, Val, equal_z, total}
use Rattle.snesl.specs.Terms.{◌∋◌, Term, var, const, operation, negation, sum, All, lookup}
use Rattle.snesl.specs.Streams.{ints, bools, flags, data_of, ◌!◌}
use Rattle.snesl.specs.Trees.{IdTree, leaf, inner, outer, root}
use Rattle.snesl.specs.Transducers.{apply, made, outside, operands, results, exact, unless, first_outside, pairwise, pluses, sums}
use Rattle.snesl.specs.Programs.{define, done}
use Rattle.snesl.specs.Machine.{State, went, fetch, work_of, run, boundless}
use Rattle.snesl.specs.Evaluation.{eval, all_of, within}
use Rattle.snesl.specs.Translation.{size, tree, constant_of, code, id}
use Rattle.snesl.specs.Charges.{steps_of}
use Rattle.snesl.specs.Representation.{concat, segments}
use Rattle.snesl.specs.Agreement.{Agrees, ComesTo, ran, halted, no_number}
use Rattle.snesl.proofs.Correctness.AllOf.{all_of-map, all_of-some}
use Rattle.snesl.proofs.Correctness.Segments.{length-segments}
use Rattle.snesl.proofs.Correctness.Exact.{result, Ranged, all_in, one_out, ranged, pairwise-each, results-pluses, results-sums}
use Rattle.snesl.proofs.Correctness.Charged.{charges, charges-var, charges-const, charges-operation, charges-negation, charges-sum}
use Rattle.snesl.proofs.Correctness.Reached.{steps-var, steps-const, steps-operation, steps-negation, steps-sum}
use Rattle.snesl.proofs.Correctness.RunParts.{run-made, run-outside}
use Rattle.snesl.proofs.Correctness.Grown.{held-data, held-flags, held_inner, holds-new}
use Rattle.snesl.proofs.Correctness.Applied.{apply-operation, apply-not, apply-constant, apply-sum, len-data, work-constant, work-one, work-two}

-- what `correct` says of a term
abbrev pub Correct : {Γ : List ValueType} {τ : ValueType} → Term Γ τ → Type 0
Correct {Γ} e =
    (δ : All IdTree Γ) (ρ : All Val Γ) (ρs : List (All Val Γ)) (s : ℕ) (m : State)
    → length m.store ≡ s
    → Agrees m.store δ (ρ ∷ ρs)
    → ComesTo e δ s (ρ ∷ ρs) m (all_of (eval e) (ρ ∷ ρs)) (run boundless (code e δ s) (length (ρ ∷ ρs)) m)

pub correct-var : {Γ : List ValueType} {τ : ValueType} (x : Γ ∋ τ) → Correct (var x)
unfolding eval code run size tree
correct-var x δ ρ ρs s m h a =
    subst (λ o. ComesTo (var x) δ s (ρ ∷ ρs) m o (went m)) (sym (all_of-some (lookup x) (ρ ∷ ρs)))
    (ran record {
      added = [];
      store = sym (append-nil m.store);
      adds = refl;
      results = a.holds x;
      work = omega (arith, charges-var x (ρ ∷ ρs));
      steps = omega (arith, steps-var x (ρ ∷ ρs));
    })

-- a term whose code is one definition and whose tree is that stream
module _ {Γ : List ValueType} {b : Base} (e : Term Γ (scalar b)) (δ : All IdTree Γ) (s : ℕ) (ρs : List (All Val Γ)) (m : State) (t : Transducer) (n : ℕ)
    (one : size e ≡ 1) (new : tree e δ s ≡ leaf s) (first : length m.store ≡ s) (step : steps_of e ρs ≡ 1) where
  single-made : (vs : List (Element b))
      → apply t n m.store ≡ made (data_of b vs)
      → work_of n (fetch m.store (operands t)) (data_of b vs) ≡ charges e ρs
      → ComesTo e δ s ρs m (some vs) (run boundless (define t done) n m)
  unfolding run
  single-made vs h k =
      subst (λ r. ComesTo e δ s ρs m (some vs) r) (sym (run-made t done n m h))
      (ran record {
        added = data_of b vs ∷ [];
        store = refl;
        adds = sym one;
        results = rw new (holds-new m.store b vs first);
        work = ap (λ k. m.work + k) k;
        steps = ap (λ k. m.steps + k) (sym step);
      })

  single-outside : {k : ℕ} → apply t n m.store ≡ outside k → ComesTo e δ s ρs m none (run boundless (define t done) n m)
  single-outside h =
      subst (λ r. ComesTo e δ s ρs m none r) (sym (run-outside t done n m h))
      (halted no_number (omega arith) (omega arith))

-- an int where each exact result is in range
module _ {Γ : List ValueType} (e : Term Γ int) (δ : All IdTree Γ) (s : ℕ) (ρs : List (All Val Γ)) (m : State) (t : Transducer) (n : ℕ)
    (one : size e ≡ 1) (new : tree e δ s ≡ leaf s) (first : length m.store ≡ s) (step : steps_of e ρs ≡ 1) where
  single-exact : (rs : List (ℕ × ℤ)) (zs : List ℤ)
      → map result rs ≡ zs
      → apply t n m.store ≡ exact rs
      → work_of n (fetch m.store (operands t)) (ints zs) ≡ charges e ρs
      → ComesTo e δ s ρs m (all_of within zs) (run boundless (define t done) n m)
  single-exact rs zs p h k =
      subst (λ zs. ComesTo e δ s ρs m (all_of within zs) (run boundless (define t done) n m)) p
      (go (first_outside rs) (ranged rs) h)
    where
      go : {o : Option (List ℤ)} (f : Option ℕ)
          → Ranged (map result rs) o f
          → apply t n m.store ≡ unless f outside (made (ints (map result rs)))
          → ComesTo e δ s ρs m o (run boundless (define t done) n m)
      go none all_in h = single-made e δ s ρs m t n one new first step (map result rs) h (rw p k)
      go (some i) one_out h = single-outside e δ s ρs m t n one new first step h

pub correct-const : {Γ : List ValueType} (b : Base) (z : Element b) → Correct {Γ = Γ} (const b z)
unfolding eval code size tree
correct-const b z δ ρ ρs s m h a =
    let n = length (ρ ∷ ρs) in
    subst (λ o. ComesTo (const b z) δ s (ρ ∷ ρs) m o (run boundless (define (constant_of b z) done) n m))
    (ap some (sym (map-const z (ρ ∷ ρs))) ∙ sym (all_of-some (λ ρ. z) (ρ ∷ ρs)))
    (single-made (const b z) δ s (ρ ∷ ρs) m (constant_of b z) n refl refl h (steps-const b z ρ ρs)
    (replicate n z) (apply-constant m.store b z n)
    (work-constant m.store b z n (data_of b (replicate n z))
    ∙ len-data b (replicate n z)
    ∙ length-replicate n z
    ∙ sym (charges-const b z (ρ ∷ ρs))))

correct-plus : {Γ : List ValueType} (x y : Γ ∋ int) → Correct (operation Plus x y)
unfolding eval code size tree
correct-plus x y δ ρ ρs s m h a =
    let n = length (ρ ∷ ρs) in
    let xs = map (lookup x) (ρ ∷ ρs) in
    let ys = map (lookup y) (ρ ∷ ρs) in
    let zs = map (λ ρ. lookup x ρ +ℤ lookup y ρ) (ρ ∷ ρs) in
    let i = root (lookup x δ) in
    let j = root (lookup y δ) in
    let left : m.store ! i ≡ some (ints xs) = held-data (a.holds x) in
    let right : m.store ! j ≡ some (ints ys) = held-data (a.holds y) in
    subst (λ o. ComesTo (operation Plus x y) δ s (ρ ∷ ρs) m o (run boundless (define (MapTwo Plus (id i) (id j)) done) n m))
    (all_of-map within (λ ρ. lookup x ρ +ℤ lookup y ρ) (ρ ∷ ρs))
    (single-exact (operation Plus x y) δ s (ρ ∷ ρs) m (MapTwo Plus (id i) (id j)) n refl refl h (steps-operation Plus x y ρ ρs)
    (pluses 0 xs ys) zs
    (results-pluses (lookup x) (lookup y) (ρ ∷ ρs) 0)
    (apply-operation m.store Plus xs ys n i j (length-map (ρ ∷ ρs) (lookup x)) (length-map (ρ ∷ ρs) (lookup y)) left right)
    (work-two m.store i j n (ints zs) left right
    ∙ omega (
      arith,
      length-map (ρ ∷ ρs) (lookup x),
      length-map (ρ ∷ ρs) (lookup y),
      length-map (ρ ∷ ρs) (λ ρ. lookup x ρ +ℤ lookup y ρ),
      charges-operation Plus x y (ρ ∷ ρs),
    )))

-- an operation that has a bool for any two ints
module _ {Γ : List ValueType} (e : Term Γ bool) (o : Operation) (k : ℤ → ℤ → Bool) (x y : Γ ∋ int) (δ : All IdTree Γ) (ρ : All Val Γ) (ρs : List (All Val Γ)) (s : ℕ) (m : State) where
  compared : size e ≡ 1 → tree e δ s ≡ leaf s → length m.store ≡ s → steps_of e (ρ ∷ ρs) ≡ 1
      → charges e (ρ ∷ ρs) ≡ 3 * length (ρ ∷ ρs)
      → ((xs ys : List ℤ) → results o xs ys ≡ made (bools (pairwise k xs ys)))
      → Agrees m.store δ (ρ ∷ ρs)
      → ComesTo e δ s (ρ ∷ ρs) m (some (map (λ ρ. k (lookup x ρ) (lookup y ρ)) (ρ ∷ ρs)))
      (run boundless (define (MapTwo o (id (root (lookup x δ))) (id (root (lookup y δ)))) done) (length (ρ ∷ ρs)) m)
  compared one new first step charged all a =
      let n = length (ρ ∷ ρs) in
      let xs = map (lookup x) (ρ ∷ ρs) in
      let ys = map (lookup y) (ρ ∷ ρs) in
      let cs = map (λ ρ. k (lookup x ρ) (lookup y ρ)) (ρ ∷ ρs) in
      let i = root (lookup x δ) in
      let j = root (lookup y δ) in
      let left : m.store ! i ≡ some (ints xs) = held-data (a.holds x) in
      let right : m.store ! j ≡ some (ints ys) = held-data (a.holds y) in
      single-made e δ s (ρ ∷ ρs) m (MapTwo o (id i) (id j)) n one new first step cs
      (apply-operation m.store o xs ys n i j (length-map (ρ ∷ ρs) (lookup x)) (length-map (ρ ∷ ρs) (lookup y)) left right
      ∙ all xs ys
      ∙ ap (λ cs. made (bools cs)) (pairwise-each k (lookup x) (lookup y) (ρ ∷ ρs)))
      (work-two m.store i j n (bools cs) left right
      ∙ omega (
        arith,
        length-map (ρ ∷ ρs) (lookup x),
        length-map (ρ ∷ ρs) (lookup y),
        length-map (ρ ∷ ρs) (λ ρ. k (lookup x ρ) (lookup y ρ)),
        charged,
      ))

pub correct-operation : {Γ : List ValueType} (o : Operation) (x y : Γ ∋ int) → Correct (operation o x y)
unfolding eval code size tree
correct-operation Plus x y δ ρ ρs s m h a = correct-plus x y δ ρ ρs s m h a
correct-operation LessEqual x y δ ρ ρs s m h a =
    subst (λ o. ComesTo (operation LessEqual x y) δ s (ρ ∷ ρs) m o (run boundless (code (operation LessEqual x y) δ s) (length (ρ ∷ ρs)) m))
    (sym (all_of-some (λ ρ. le_z (lookup x ρ) (lookup y ρ)) (ρ ∷ ρs)))
    (compared (operation LessEqual x y) LessEqual le_z x y δ ρ ρs s m refl refl h (steps-operation LessEqual x y ρ ρs) (charges-operation LessEqual x y (ρ ∷ ρs)) (λ xs ys. refl) a)
correct-operation Equal x y δ ρ ρs s m h a =
    subst (λ o. ComesTo (operation Equal x y) δ s (ρ ∷ ρs) m o (run boundless (code (operation Equal x y) δ s) (length (ρ ∷ ρs)) m))
    (sym (all_of-some (λ ρ. equal_z (lookup x ρ) (lookup y ρ)) (ρ ∷ ρs)))
    (compared (operation Equal x y) Equal equal_z x y δ ρ ρs s m refl refl h (steps-operation Equal x y ρ ρs) (charges-operation Equal x y (ρ ∷ ρs)) (λ xs ys. refl) a)

pub correct-negation : {Γ : List ValueType} (x : Γ ∋ bool) → Correct (negation x)
unfolding eval code size tree
correct-negation x δ ρ ρs s m h a =
    let n = length (ρ ∷ ρs) in
    let cs = map (lookup x) (ρ ∷ ρs) in
    let i = root (lookup x δ) in
    let held : m.store ! i ≡ some (bools cs) = held-data (a.holds x) in
    subst (λ o. ComesTo (negation x) δ s (ρ ∷ ρs) m o (run boundless (define (MapOneNot (id i)) done) n m))
    (ap some (map-map not (lookup x) (ρ ∷ ρs)) ∙ sym (all_of-some (λ ρ. not (lookup x ρ)) (ρ ∷ ρs)))
    (single-made (negation x) δ s (ρ ∷ ρs) m (MapOneNot (id i)) n refl refl h (steps-negation x ρ ρs) (map not cs)
    (apply-not m.store cs n i (length-map (ρ ∷ ρs) (lookup x)) held)
    (work-one m.store i n (bools (map not cs)) held ∙ omega (arith, length-map (ρ ∷ ρs) (lookup x), length-map cs not, charges-negation x (ρ ∷ ρs))))

pub correct-sum : {Γ : List ValueType} (x : Γ ∋ braces int) → Correct (sum x)
unfolding eval code size tree
correct-sum x δ ρ ρs s m h a =
    let n = length (ρ ∷ ρs) in
    let ls = map (lookup x) (ρ ∷ ρs) in
    let zs = map total ls in
    let b = outer (lookup x δ) in
    let i = root (inner (lookup x δ)) in
    let flagged : m.store ! b ≡ some (flags (segments ls)) = held-flags (a.holds x) in
    let items : m.store ! i ≡ some (ints (concat ls)) = held-data (held_inner (a.holds x)) in
    subst (λ o. ComesTo (sum x) δ s (ρ ∷ ρs) m o (run boundless (define (SumPlus (id b) (id i)) done) n m))
    (all_of-map within total ls ∙ all_of-map (λ l. within (total l)) (lookup x) (ρ ∷ ρs))
    (single-exact (sum x) δ s (ρ ∷ ρs) m (SumPlus (id b) (id i)) n refl refl h (steps-sum x ρ ρs)
    (sums some 0 (pos 0) (segments ls) (concat ls)) zs
    (results-sums ls 0)
    (apply-sum m.store ls n b i (length-map (ρ ∷ ρs) (lookup x)) flagged items)
    (work-two m.store b i n (ints zs) flagged items
    ∙ omega (
      arith,
      length-segments ls,
      length-map (ρ ∷ ρs) (lookup x),
      length-map ls total,
      charges-sum x (ρ ∷ ρs),
    )))
