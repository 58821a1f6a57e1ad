-- A comprehension over a list of environments: its Usum and Distrs make the items' environments, and its body runs once for all of them, or
-- is skipped where there is none.
use Prim.Native.Nat.{ℕ, ◌+◌, ◌*◌}
use native.Mathlib.Omega.{arith}
use mathlib.Core.Path.{◌≡◌, refl, ap, ◌∙◌, sym, subst, fun_ext}
use mathlib.Core.List.{List, [], ◌∷◌, ◌++◌, map, append_assoc, append-nil}
use mathlib.Core.Option.{Option, some}
use lib.ListN.{length, length-append, length-map}
use lib.Seq.{append_snoc}
use Rattle.laws.proofs.Lists.{get_elem?-append-seam}
use Rattle.snesl.specs.declared.code.Transducer.TheVariants.{Usum, Distr}
use Rattle.snesl.specs.Values.{ValueType, braces, Val}
use Rattle.snesl.specs.Terms.{◌∋◌, Term, each, Scalars, any_type, listed_types, All, ◌▹◌, lookup, listed}
use Rattle.snesl.specs.Streams.{flags, units, data_of, ◌!◌}
use Rattle.snesl.specs.Trees.{IdTree, outer, root}
use Rattle.snesl.specs.Programs.{Program, done, with_ctrl}
use Rattle.snesl.specs.Machine.{State, Result, run, boundless, push, skipped, sum_of}
use Rattle.snesl.specs.Evaluation.{eval, all_of}
use Rattle.snesl.specs.Translation.{size, tree, code, id, distrs, controlled, within}
use Rattle.snesl.specs.Representation.{holds-node, segments}
use Rattle.snesl.specs.Agreement.{Agrees, ComesTo, ran, halted}
use Rattle.snesl.proofs.Correctness.AllOf.{all_of-map, Flattened, flat, neither, flattened}
use Rattle.snesl.proofs.Correctness.Segments.{length-segments}
use Rattle.snesl.proofs.Correctness.Environments.{inside, inside_all, items, segments-inside, length-inside}
use Rattle.snesl.proofs.Correctness.Charged.{charges-each}
use Rattle.snesl.proofs.Correctness.Reached.{steps-none, steps-each}
use Rattle.snesl.proofs.Correctness.RunParts.{onward-went, run-made, run-skipped, run-body}
use Rattle.snesl.proofs.Correctness.Grown.{held-data, held-flags, holds-grown, agrees-grown}
use Rattle.snesl.proofs.Correctness.Applied.{apply-usum, apply-distr, len-data, work-one, work-two}
use Rattle.snesl.proofs.Correctness.Inside.{copy, length-copy, copied, copies, agrees-inside}
use Rattle.snesl.proofs.Correctness.Skipping.{skipping, skipped-size}
use Rattle.snesl.proofs.Correctness.Leaves.{Correct}

-- the body, under a control of as many units as it has environments
module _ {Γ : List ValueType} {τ : ValueType} (e : Term Γ τ) (correct : Correct e) (δ : All IdTree Γ) (s : ℕ) (m : State)
    (first : length m.store ≡ s) (outs ins : List ℕ) (c n : ℕ) where
  skipped-body : Agrees m.store δ []
      → m.store ! c ≡ some (units 0)
      → ComesTo e δ s [] m (some []) (run boundless (with_ctrl outs c ins (code e δ s) done) n m)
  unfolding run sum_of
  skipped-body a h =
      subst (λ r. ComesTo e δ s [] m (some []) r) (sym (run-skipped boundless outs ins c (code e δ s) done n m h))
      (ran record {
        added = skipped m.store (code e δ s);
        store = refl;
        adds = skipped-size m.store e δ s;
        results = skipping e δ s m.store first a;
        work = omega arith;
        steps = omega (arith, steps-none e);
      })

  pub controlled-body : (ρs : List (All Val Γ))
      → Agrees m.store δ ρs
      → m.store ! c ≡ some (units (length ρs))
      → ComesTo e δ s ρs m (all_of (eval e) ρs) (run boundless (with_ctrl outs c ins (code e δ s) done) n m)
  unfolding all_of run
  controlled-body [] a h = skipped-body a h
  controlled-body (ρ ∷ ρs) a h =
      subst (λ r. ComesTo e δ s (ρ ∷ ρs) m (all_of (eval e) (ρ ∷ ρs)) r)
      (sym (run-body boundless outs ins c (code e δ s) done n m h ∙ onward-went _))
      (correct δ ρ ρs s m first a)

-- the Distrs of the listed variables
module _ {Γ : List ValueType} {υ : ValueType} (y : Γ ∋ braces υ) (δ : All IdTree Γ) (ρs : List (All Val Γ)) (p : Program) where
  pub record Copied (us : Scalars Γ) (m m' : State) : Type 0 where
    pub runs : run boundless (distrs (outer (lookup y δ)) us δ p) (length ρs) m ≡ run boundless p (length ρs) m'
    pub store : m'.store ≡ m.store ++ copies y ρs us
    pub work : m'.work ≡ m.work + length us * (2 * items y ρs + 2 * length ρs)
    pub steps : m'.steps ≡ m.steps + length us

  unfoldable pub copying : (us : Scalars Γ) (m : State) → Agrees m.store δ ρs → (m' : State) × Copied us m m'
  unfolding distrs
  copying [] m a = (m, record { runs = refl; store = sym (append-nil m.store); work = omega arith; steps = omega arith })
  copying (u ∷ us) m a =
      let b = outer (lookup y δ) in
      let i = root (lookup u.1 δ) in
      let flagged : m.store ! b ≡ some (flags (segments (map (lookup y) ρs))) = held-flags (a.holds y) in
      let scalars : m.store ! i ≡ some (data_of u.0 (map (lookup u.1) ρs)) = held-data (a.holds u.1) in
      let one = push (Distr (id b) (id i)) (length ρs) (copied y ρs u) m in
      let (m', rest) = copying us one (agrees-grown (copied y ρs u ∷ []) a) in (
        m',
        record {
          runs =
              run-made (Distr (id b) (id i)) (distrs b us δ p) (length ρs) m (apply-distr m.store (lookup y) u.0 (lookup u.1) ρs b i flagged scalars)
              ∙ rest.runs;
          store = rest.store ∙ append_snoc m.store (copied y ρs u) (copies y ρs us);
          work =
              omega (
                arith,
                rest.work,
                work-two m.store b i (length ρs) (copied y ρs u) flagged scalars,
                length-segments (map (lookup y) ρs),
                length-map ρs (lookup y),
                len-data u.0 (map (lookup u.1) ρs),
                length-map ρs (lookup u.1),
                len-data u.0 (copy y ρs u.1),
                length-copy y ρs u.1,
              );
          steps = omega (arith, rest.steps);
        },
      )

-- the whole, from its body's outcome
module _ {Γ : List ValueType} {υ τ : ValueType} (y : Γ ∋ braces υ) (us : Scalars Γ) (e : Term (υ ∷ listed_types (any_type us)) τ) (δ : All IdTree Γ) (s : ℕ)
    (ρ : All Val Γ) (ρs : List (All Val Γ)) (m m' : State) where
  -- where the body's ids start
  abbrev start : ℕ
  start = s + (1 + length us)

  pub record Prepared : Type 0 where
    pub store : m'.store ≡ m.store ++ units (items y (ρ ∷ ρs)) ∷ copies y (ρ ∷ ρs) us
    pub work : m'.work ≡ m.work + ((2 * items y (ρ ∷ ρs) + length (ρ ∷ ρs)) + length us * (2 * items y (ρ ∷ ρs) + 2 * length (ρ ∷ ρs)))
    pub steps : m'.steps ≡ m.steps + (1 + length us)

  -- the body starts where the store ends, under a unit for each item, in an environment that agrees with the items'
  module _ (prepared : Prepared) (first : length m.store ≡ s) where
    pub body-start : length m'.store ≡ start
    body-start =
        ap length prepared.store
        ∙ omega (
          arith,
          length-append m.store (units (items y (ρ ∷ ρs)) ∷ copies y (ρ ∷ ρs) us),
          length-map us (copied y (ρ ∷ ρs)),
        )

    pub body-control : m'.store ! s ≡ some (units (length (inside_all y us (ρ ∷ ρs))))
    body-control =
        rw (prepared.store, length-inside y us (ρ ∷ ρs))
        (subst (λ s. (m.store ++ units (items y (ρ ∷ ρs)) ∷ copies y (ρ ∷ ρs) us) ! s ≡ some (units (items y (ρ ∷ ρs)))) first
        (get_elem?-append-seam m.store (units (items y (ρ ∷ ρs))) (copies y (ρ ∷ ρs) us)))

    pub body-agrees : Agrees m.store δ (ρ ∷ ρs) → Agrees m'.store (within y us δ s) (inside_all y us (ρ ∷ ρs))
    body-agrees a = rw prepared.store (agrees-inside y (ρ ∷ ρs) us first a)

  around : {o : Option (List (List (Val τ)))} {o' : Option (List (Val τ))} {r : Result}
      → Prepared
      → Agrees m.store δ (ρ ∷ ρs)
      → Flattened (map (inside y us) (ρ ∷ ρs)) o o'
      → ComesTo e (within y us δ s) start (inside_all y us (ρ ∷ ρs)) m' o' r
      → ComesTo (each y us e) δ s (ρ ∷ ρs) m o r
  unfolding size tree
  around prepared a (flat {rs = vs} h) (ran {m' = end} w) =
      let l = units (items y (ρ ∷ ρs)) ∷ copies y (ρ ∷ ρs) us in
      let stored : end.store ≡ m.store ++ (l ++ w.added)
      = w.store ∙ ap (λ σ. σ ++ w.added) prepared.store ∙ append_assoc m.store l w.added in
      let flagged : end.store ! outer (lookup y δ) ≡ some (flags (segments vs))
      = rw (stored, h, segments-inside y us (ρ ∷ ρs)) (held-flags (holds-grown (l ++ w.added) (a.holds y))) in
      ran {m' = end} record {
        added = l ++ w.added;
        store = stored;
        adds = omega (arith, length-append l w.added, length-map us (copied y (ρ ∷ ρs)), w.adds);
        results = holds-node {τ = τ} {vs = vs} flagged w.results;
        work = omega (arith, w.work, prepared.work, charges-each y us e (ρ ∷ ρs));
        steps = omega (arith, w.steps, prepared.steps, steps-each y us e ρ ρs);
      }
  around prepared a neither (halted {i = i} why low high) = halted {i = i} why (omega arith) (omega arith)

module _ {Γ : List ValueType} {υ τ : ValueType} (y : Γ ∋ braces υ) (us : Scalars Γ) (e : Term (υ ∷ listed_types (any_type us)) τ) where
  -- the rules' results list by list, and those of all items flat
  results-flat : (ρs : List (All Val Γ))
      → Flattened (map (inside y us) ρs) (all_of (eval (each y us e)) ρs) (all_of (eval e) (inside_all y us ρs))
  unfolding eval
  results-flat ρs =
      subst (λ o. Flattened (map (inside y us) ρs) o (all_of (eval e) (inside_all y us ρs)))
      (all_of-map (all_of (eval e)) (inside y us) ρs
      ∙ ap (λ f. all_of f ρs) (fun_ext (λ ρ. all_of-map (eval e) (λ v. v ▹ listed (any_type us) ρ) (lookup y ρ))))
      (flattened (eval e) (map (inside y us) ρs))

  module _ (δ : All IdTree Γ) (s : ℕ) (ρ : All Val Γ) (ρs : List (All Val Γ)) (m : State) where
    -- after Usum
    abbrev pub counted : State
    counted = push (Usum (id (outer (lookup y δ)))) (length (ρ ∷ ρs)) (units (items y (ρ ∷ ρs))) m

    pub preparing : (p : Program) (m' : State)
        → Agrees m.store δ (ρ ∷ ρs)
        → Copied y δ (ρ ∷ ρs) p us counted m'
        → Prepared y us e δ s ρ ρs m m'
    preparing p m' a copied =
        record {
          store = copied.store ∙ append_snoc m.store (units (items y (ρ ∷ ρs))) (copies y (ρ ∷ ρs) us);
          work =
              omega (
                arith,
                copied.work,
                work-one m.store (outer (lookup y δ)) (length (ρ ∷ ρs)) (units (items y (ρ ∷ ρs))) (held-flags (a.holds y)),
                length-segments (map (lookup y) (ρ ∷ ρs)),
                length-map (ρ ∷ ρs) (lookup y),
              );
          steps = omega (arith, copied.steps);
        }

  pub correct-each : Correct e → Correct (each y us e)
  unfolding code
  correct-each correct δ ρ ρs s m first a =
      let b = outer (lookup y δ) in
      let start = s + (1 + length us) in
      let p = controlled s start (code e (within y us δ s) start) (tree e (within y us δ s) start) in
      let (m', copied) = copying y δ (ρ ∷ ρs) p us (counted δ s ρ ρs m) (agrees-grown (units (items y (ρ ∷ ρs)) ∷ []) a) in
      let prepared = preparing δ s ρ ρs m p m' a copied in
      subst (λ r. ComesTo (each y us e) δ s (ρ ∷ ρs) m (all_of (eval (each y us e)) (ρ ∷ ρs)) r)
      (sym
      (run-made (Usum (id b)) (distrs b us δ p) (length (ρ ∷ ρs)) m
      (apply-usum m.store (map (lookup y) (ρ ∷ ρs)) (length (ρ ∷ ρs)) b (length-map (ρ ∷ ρs) (lookup y)) (held-flags (a.holds y)))
      ∙ copied.runs))
      (around y us e δ s ρ ρs m m' prepared a (results-flat (ρ ∷ ρs))
      (controlled-body e correct (within y us δ s) start m' (body-start y us e δ s ρ ρs m m' prepared first) _ _ s (length (ρ ∷ ρs)) (inside_all y us (ρ ∷ ρs))
      (body-agrees y us e δ s ρ ρs m m' prepared first a)
      (body-control y us e δ s ρ ρs m m' prepared first)))
