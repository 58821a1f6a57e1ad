-- A guard over a list of environments: B2u and Usum make a unit for each environment in which it is true, its listed variables are packed, and its body runs
-- once for all of these, or is skipped where there is none. So each environment gives a sequence of one or of none.
use Prim.Native.Nat.{ℕ, ◌+◌, ◌*◌}
use native.Mathlib.Omega.{arith}
use mathlib.Core.Path.{◌≡◌, ap, ◌∙◌, sym, subst}
use mathlib.Core.Bool.{Bool}
use mathlib.Core.List.{List, [], ◌∷◌, ◌++◌, map, append_assoc}
use mathlib.Core.Option.{Option, some}
use lib.ListN.{length, length-append, length-map}
use Rattle.laws.proofs.Lists.{get_elem?-append-left}
use Rattle.snesl.specs.declared.code.Transducer.TheVariants.{B2u, Usum}
use Rattle.snesl.specs.Values.{ValueType, bool, Val}
use Rattle.snesl.specs.Terms.{◌∋◌, Term, guard, Listing, listed_types, All, lookup, listed}
use Rattle.snesl.specs.Streams.{flags, units, ◌!◌}
use Rattle.snesl.specs.Trees.{IdTree, root}
use Rattle.snesl.specs.Transducers.{apply, made}
use Rattle.snesl.specs.Programs.{define, ◌⨾◌}
use Rattle.snesl.specs.Machine.{State, Result, onward, run, boundless, push}
use Rattle.snesl.specs.Evaluation.{eval, all_of}
use Rattle.snesl.specs.Translation.{packs_size, pack_trees, size, tree, code, id, pack_codes, controlled}
use Rattle.snesl.specs.Representation.{holds-node, segments}
use Rattle.snesl.specs.Agreement.{Agrees, ComesTo, ran, halted}
use Rattle.snesl.proofs.Correctness.AllOf.{all_of-map, Flattened, flat, neither, flattened}
use Rattle.snesl.proofs.Correctness.Segments.{length-segments}
use Rattle.snesl.proofs.Correctness.Environments.{passed, passed_all}
use Rattle.snesl.proofs.Correctness.Charged.{charges-guard}
use Rattle.snesl.proofs.Correctness.Reached.{steps-guard}
use Rattle.snesl.proofs.Correctness.RunParts.{run-made, run-sequence}
use Rattle.snesl.proofs.Correctness.Grown.{held-data, agrees-grown, new-stream, old-stream, next-id}
use Rattle.snesl.proofs.Correctness.Applied.{apply-b2u, apply-usum, work-one}
use Rattle.snesl.proofs.Correctness.Packing.{AllPacked, packing-all}
use Rattle.snesl.proofs.Correctness.Leaves.{Correct}
use Rattle.snesl.proofs.Correctness.Comprehension.{controlled-body}

module _ {Γ : List ValueType} (g : Γ ∋ bool) (us : Listing Γ) (δ : All IdTree Γ) (s : ℕ) (ρs : List (All Val Γ)) (m : State) where
  -- the guard's flags and its units
  abbrev units-for : List Bool
  units-for = segments (map (passed g us) ρs)

  abbrev flagged : State
  flagged = push (B2u (id (root (lookup g δ)))) (length ρs) (flags units-for) m

  abbrev pub counted : State
  counted = push (Usum (id s)) (length ρs) (units (length (passed_all g us ρs))) flagged

  module _ (first : length m.store ≡ s) where
    pub counted_next : length counted.store ≡ s + 2
    counted_next = next-id flagged.store _ (next-id m.store _ first) ∙ omega arith

    pub counted-flags : counted.store ! s ≡ some (flags units-for)
    counted-flags = old-stream flagged.store _ s (new-stream m.store (flags units-for) first)

    pub counted-units : counted.store ! (s + 1) ≡ some (units (length (passed_all g us ρs)))
    counted-units = new-stream flagged.store _ (next-id m.store _ first)

    pub counted-agrees : Agrees m.store δ ρs → Agrees counted.store δ ρs
    counted-agrees a = agrees-grown (units (length (passed_all g us ρs)) ∷ []) (agrees-grown (flags units-for ∷ []) a)

    -- the two transducers
    pub applied-b2u : Agrees m.store δ ρs → apply (B2u (id (root (lookup g δ)))) (length ρs) m.store ≡ made (flags units-for)
    applied-b2u a = apply-b2u m.store (lookup g) (listed us) ρs (root (lookup g δ)) (held-data (a.holds g))

    pub applied-usum : apply (Usum (id s)) (length ρs) flagged.store ≡ made (units (length (passed_all g us ρs)))
    applied-usum = apply-usum flagged.store (map (passed g us) ρs) (length ρs) s (length-map ρs (passed g us)) (new-stream m.store (flags units-for) first)

    counted-work : Agrees m.store δ ρs → counted.work ≡ m.work + (3 * length ρs + 3 * length (passed_all g us ρs))
    counted-work a =
        omega (
          arith,
          work-one m.store (root (lookup g δ)) (length ρs) (flags units-for) (held-data (a.holds g)),
          work-one flagged.store s (length ρs) (units (length (passed_all g us ρs))) (new-stream m.store (flags units-for) first),
          length-map ρs (lookup g),
          length-segments (map (passed g us) ρs),
          length-map ρs (passed g us),
        )

module _ {Γ : List ValueType} {τ : ValueType} (g : Γ ∋ bool) (us : Listing Γ) (e : Term (listed_types us) τ) where
  -- the rules' sequences, and the results of all environments behind the guard flat
  results-flat : (ρs : List (All Val Γ))
      → Flattened (map (passed g us) ρs) (all_of (eval (guard g us e)) ρs) (all_of (eval e) (passed_all g us ρs))
  unfolding eval
  results-flat ρs =
      subst (λ o. Flattened (map (passed g us) ρs) o (all_of (eval e) (passed_all g us ρs))) (all_of-map (all_of (eval e)) (passed g us) ρs)
      (flattened (eval e) (map (passed g us) ρs))

  module _ (δ : All IdTree Γ) (s : ℕ) (ρ : All Val Γ) (ρs : List (All Val Γ)) (m m' : State) (first : length m.store ≡ s)
      (packed : AllPacked g us δ (s + 2) (ρ ∷ ρs) (counted g us δ s (ρ ∷ ρs) m) m') where
    -- where the body's ids start
    abbrev start : ℕ
    start = s + (2 + packs_size us)

    pub body-start : length m'.store ≡ start
    body-start =
        ap length packed.store
        ∙ omega (arith, length-append (counted g us δ s (ρ ∷ ρs) m).store packed.added, packed.adds, counted_next g us δ s (ρ ∷ ρs) m first)

    pub body-control : m'.store ! (s + 1) ≡ some (units (length (passed_all g us (ρ ∷ ρs))))
    body-control =
        rw packed.store (get_elem?-append-left (counted g us δ s (ρ ∷ ρs) m).store packed.added (s + 1) (counted-units g us δ s (ρ ∷ ρs) m first))

    around : {o : Option (List (List (Val τ)))} {o' : Option (List (Val τ))} {r : Result}
        → Agrees m.store δ (ρ ∷ ρs)
        → Flattened (map (passed g us) (ρ ∷ ρs)) o o'
        → ComesTo e (pack_trees us δ (s + 2)) start (passed_all g us (ρ ∷ ρs)) m' o' r
        → ComesTo (guard g us e) δ s (ρ ∷ ρs) m o r
    unfolding size tree
    around a (flat {rs = vs} h) (ran {m' = end} w) =
        let one = counted g us δ s (ρ ∷ ρs) m in
        let l = flags (units-for g us δ s (ρ ∷ ρs) m) ∷ units (length (passed_all g us (ρ ∷ ρs))) ∷ [] in
        let stored : end.store ≡ one.store ++ (packed.added ++ w.added)
        = w.store ∙ ap (λ σ. σ ++ w.added) packed.store ∙ append_assoc one.store packed.added w.added in
        let flagged : end.store ! s ≡ some (flags (segments vs))
        = rw (stored, h) (get_elem?-append-left one.store (packed.added ++ w.added) s (counted-flags g us δ s (ρ ∷ ρs) m first)) in
        ran {m' = end} record {
          added = l ++ (packed.added ++ w.added);
          store = stored ∙ simp append_assoc;
          adds = omega (arith, length-append l (packed.added ++ w.added), length-append packed.added w.added, packed.adds, w.adds);
          results = holds-node {τ = τ} {vs = vs} flagged w.results;
          work = omega (arith, w.work, packed.work, counted-work g us δ s (ρ ∷ ρs) m first a, charges-guard g us e (ρ ∷ ρs));
          steps = omega (arith, w.steps, packed.steps, steps-guard g us e ρ ρs);
        }
    around a neither (halted {i = i} why low high) = halted {i = i} why (omega arith) (omega arith)

  pub correct-guard : Correct e → Correct (guard g us e)
  unfolding code
  correct-guard correct δ ρ ρs s m first a =
      let n = length (ρ ∷ ρs) in
      let b = root (lookup g δ) in
      let start = s + (2 + packs_size us) in
      let δ' = pack_trees us δ (s + 2) in
      let p = controlled (s + 1) start (code e δ' start) (tree e δ' start) in
      let packs = pack_codes b us δ (s + 2) in
      let one = counted g us δ s (ρ ∷ ρs) m in
      let (m', packed) = packing-all g us δ (s + 2) ρ ρs one (counted_next g us δ s (ρ ∷ ρs) m first) (counted-agrees g us δ s (ρ ∷ ρs) m first a) in
      subst (λ r. ComesTo (guard g us e) δ s (ρ ∷ ρs) m (all_of (eval (guard g us e)) (ρ ∷ ρs)) r)
      (sym
      (run-made (B2u (id b)) (define (Usum (id s)) (packs ⨾ p)) n m (applied-b2u g us δ s (ρ ∷ ρs) m first a)
      ∙ run-made (Usum (id s)) (packs ⨾ p) n (flagged g us δ s (ρ ∷ ρs) m) (applied-usum g us δ s (ρ ∷ ρs) m first)
      ∙ run-sequence boundless packs p n one
      ∙ ap (λ r. onward r (run boundless p n)) packed.runs))
      (around δ s ρ ρs m m' first packed a (results-flat (ρ ∷ ρs))
      (controlled-body e correct δ' start m' (body-start δ s ρ ρs m m' first packed) _ _ (s + 1) n (passed_all g us (ρ ∷ ρs)) packed.agrees
      (body-control δ s ρ ρs m m' first packed)))
