-- Values packed by bools, each value with its own: the packed tree holds those whose bool is T, in order, at the sum of what packing each is charged. By
-- recursion over the type, for any list of values: at an inner level the bools are spread over the items, so the items are values with bools again, and
-- where there is no item at all the rest is skipped.
use Prim.Native.Nat.{ℕ, ◌+◌, ◌*◌}
use native.Mathlib.Omega.{arith}
use mathlib.Core.Bool.{Bool, true, false}
use mathlib.Core.Path.{◌≡◌, refl, ap, ◌∙◌, sym, subst}
use mathlib.Core.List.{List, [], ◌∷◌, ◌++◌, map, map-map, append_assoc, append-nil}
use mathlib.Core.Option.{some}
use lib.ListN.{length, length-append, length-map}
use Rattle.laws.proofs.Lists.{get_elem?-append-left}
use Rattle.snesl.specs.declared.code.Base.TheVariants as base
use Rattle.snesl.specs.declared.code.Transducer.TheVariants.{Usum, Distr, Pack, UPack}
use Rattle.snesl.specs.Values.{ValueType, scalar, braces, bool, depth_of, Val}
use Rattle.snesl.specs.Terms.{◌∋◌, here, there, Listing, listed_types, All, ◌▹◌, lookup, listed}
use Rattle.snesl.specs.Streams.{flags, bools, units, data_of, Store, ◌!◌}
use Rattle.snesl.specs.Trees.{IdTree, leaf, node, inner, outer, root}
use Rattle.snesl.specs.Transducers.{apply, made}
use Rattle.snesl.specs.Programs.{Program, done, define, with_ctrl}
use Rattle.snesl.specs.Machine.{State, went, onward, run, boundless, push, skip, skipped, sum_of}
use Rattle.snesl.specs.Evaluation.{one_if}
use Rattle.snesl.specs.Charges.{unit_for, pack_charges, any_of, pack_reached, count_true}
use Rattle.snesl.specs.Translation.{id, pack_size, packs_size, pack_tree, pack_trees, pack_code, pack_codes}
use Rattle.snesl.specs.Representation.{Holds, holds-node, concat, segments}
use Rattle.snesl.specs.Agreement.{Agrees}
use Rattle.snesl.proofs.Correctness.Segments.{length-segments}
use Rattle.snesl.proofs.Correctness.Environments.{concat-map, map_same, those, passed_all, value-passed}
use Rattle.snesl.proofs.Correctness.Charged.{pack_work, tagged, paired, chosen, item, work-packed-scalar, work-packed-list, work-packs, work-packs-none}
use Rattle.snesl.proofs.Correctness.Reached.{pack_steps, steps-packed-none, steps-packed-scalar, steps-packed-list, packs_steps, steps-packs-none, steps-packs}
use Rattle.snesl.proofs.Correctness.RunParts.{onward-went, run-made, run-skipped, run-body, run-sequence}
use Rattle.snesl.proofs.Correctness.Grown.{held-data, held-flags, held_inner, holds-grown, agrees-grown, holds-new, new-stream, old-stream, next-id}
use Rattle.snesl.proofs.Correctness.Applied.{apply-usum, apply-distr, apply-pack, apply-upack, len-data, work-one, work-two}
use Rattle.snesl.proofs.Correctness.Skipping.{no-variables, skipped-pack, skipped-pack-size}

-- each item with its list's bool: the bools are those that Distr spreads, the items all lists' items, and those kept the items of the lists kept
module _ {R A : Type 0} (f : R → Bool) (h : R → List A) where
  paired-bools : (rs : List R) → map chosen (paired f h rs) ≡ concat (map (λ r. map (λ v. f r) (h r)) rs)
  paired-bools rs =
      concat-map chosen (λ r. map (tagged (f r)) (h r)) rs ∙ ap (λ k. concat (map k rs)) (λ i r. map-map chosen (tagged (f r)) (h r) i)

  pub paired-items : (rs : List R) → map item (paired f h rs) ≡ concat (map h rs)
  paired-items rs =
      concat-map item (λ r. map (tagged (f r)) (h r)) rs ∙ ap (λ k. concat (map k rs)) (λ i r. map_same (tagged (f r)) item (λ v. refl) (h r) i)

  pub length-paired : (rs : List R) → length (paired f h rs) ≡ length (concat (map h rs))
  length-paired rs = sym (length-map (paired f h rs) item) ∙ ap length (paired-items rs)

concat-append : {A : Type 0} (l r : List (List A)) → concat (l ++ r) ≡ concat l ++ concat r
unfolding concat
concat-append [] r = refl
concat-append (x ∷ l) r = ap (λ k. x ++ k) (concat-append l r) ∙ sym (append_assoc x (concat l) (concat r))

those-append : {R A : Type 0} (f : R → Bool) (h : R → A) (l r : List R) → those f h (l ++ r) ≡ those f h l ++ those f h r
unfolding concat
those-append f h [] r = refl
those-append f h (x ∷ l) r = ap (λ k. one_if (f x) (h x) ++ k) (those-append f h l r) ∙ sym (append_assoc (one_if (f x) (h x)) (those f h l) (those f h r))

-- of one list all items are kept, or none
those-of : {A : Type 0} (c : Bool) (l : List A) → those chosen item (map (tagged c) l) ≡ concat (one_if c l)
unfolding concat
those-of false [] = refl
those-of true [] = refl
those-of false (v ∷ l) = those-of false l
those-of true (v ∷ l) = ap (λ k. v ∷ k) (those-of true l)

those-paired : {R A : Type 0} (f : R → Bool) (h : R → List A) (rs : List R) → those chosen item (paired f h rs) ≡ concat (those f h rs)
unfolding concat
those-paired f h [] = refl
those-paired f h (r ∷ rs) =
    those-append chosen item (map (tagged (f r)) (h r)) (paired f h rs)
    ∙ ap (λ l. l ++ those chosen item (paired f h rs)) (those-of (f r) (h r))
    ∙ ap (λ l. concat (one_if (f r) (h r)) ++ l) (those-paired f h rs)
    ∙ sym (concat-append (one_if (f r) (h r)) (those f h rs))

-- A level of lists: its flags packed, its bools spread over its items, and a unit for each item.
module _ (τ : ValueType) {R : Type 0} (f : R → Bool) (h : R → List (Val τ)) (rs : List R) (b l s : ℕ) (m : State) where
  abbrev n : ℕ
  n = length rs

  abbrev spread-bools : List Bool
  spread-bools = concat (map (λ r. map (λ v. f r) (h r)) rs)

  abbrev count-items : ℕ
  count-items = length (concat (map h rs))

  abbrev flags-packed : State
  flags-packed = push (UPack (id b) (id l)) n (flags (segments (those f h rs))) m

  abbrev bools-spread : State
  bools-spread = push (Distr (id l) (id b)) n (bools spread-bools) flags-packed

  abbrev pub opened : State
  opened = push (Usum (id l)) n (units count-items) bools-spread

  abbrev pub level : Store
  level = flags (segments (those f h rs)) ∷ bools spread-bools ∷ units count-items ∷ []

  pub opened-store : opened.store ≡ m.store ++ level
  opened-store = simp append_assoc

  module _ (first : length m.store ≡ s) (Chosen-at : m.store ! b ≡ some (bools (map f rs))) (flags-at : m.store ! l ≡ some (flags (segments (map h rs)))) where
    -- its three transducers
    pub upacked : apply (UPack (id b) (id l)) n m.store ≡ made (flags (segments (those f h rs)))
    upacked = apply-upack m.store f h rs b l Chosen-at flags-at

    pub distributed : apply (Distr (id l) (id b)) n flags-packed.store ≡ made (bools spread-bools)
    distributed =
        apply-distr flags-packed.store h base.Bool f rs l b (old-stream m.store _ l flags-at) (old-stream m.store _ b Chosen-at)

    pub summed : apply (Usum (id l)) n bools-spread.store ≡ made (units count-items)
    summed =
        apply-usum bools-spread.store (map h rs) n l (length-map rs h) (old-stream flags-packed.store _ l (old-stream m.store _ l flags-at))

    level-runs : (p : Program)
        → run boundless (define (UPack (id b) (id l)) (define (Distr (id l) (id b)) (define (Usum (id l)) p))) n m ≡ run boundless p n opened
    level-runs p =
        run-made (UPack (id b) (id l)) (define (Distr (id l) (id b)) (define (Usum (id l)) p)) n m upacked
        ∙ run-made (Distr (id l) (id b)) (define (Usum (id l)) p) n flags-packed distributed
        ∙ run-made (Usum (id l)) p n bools-spread summed

    level-work : opened.work ≡ m.work + (5 * count-items + 5 * n + length (segments (those f h rs)))
    level-work =
        omega (
          arith,
          work-two m.store b l n (flags (segments (those f h rs))) Chosen-at flags-at,
          work-two flags-packed.store l b n (bools spread-bools) (old-stream m.store _ l flags-at) (old-stream m.store _ b Chosen-at),
          work-one bools-spread.store l n (units count-items) (old-stream flags-packed.store _ l (old-stream m.store _ l flags-at)),
          length-map rs f,
          length-segments (map h rs),
          length-map rs h,
          ap length (paired-bools f h rs),
          length-map (paired f h rs) chosen,
          length-paired f h rs,
        )

  module _ (first : length m.store ≡ s) where
    pub opened-next : length opened.store ≡ s + 3
    opened-next = ap length opened-store ∙ omega (arith, length-append m.store level)

    pub opened-flags : opened.store ! s ≡ some (flags (segments (those f h rs)))
    opened-flags = old-stream bools-spread.store _ s (old-stream flags-packed.store _ s (new-stream m.store _ first))

    pub opened-bools : opened.store ! (s + 1) ≡ some (bools (map chosen (paired f h rs)))
    opened-bools =
        old-stream bools-spread.store _ (s + 1) (new-stream flags-packed.store (bools spread-bools) (next-id m.store _ first))
        ∙ ap (λ cs. some (bools cs)) (sym (paired-bools f h rs))

    pub opened-units : opened.store ! (s + 2) ≡ some (units (length (paired f h rs)))
    opened-units =
        new-stream bools-spread.store (units count-items) (next-id flags-packed.store _ (next-id m.store _ first) ∙ omega arith)
        ∙ ap (λ k. some (units k)) (sym (length-paired f h rs))

    pub opened-items : (t : IdTree τ) → Holds m.store τ t (concat (map h rs)) → Holds opened.store τ t (map item (paired f h rs))
    opened-items t k = rw (opened-store, paired-items f h rs) (holds-grown level k)

-- A run of packing code has gone well, for values of which each R has one (h), with a bool (f).
pub record Packed (τ : ValueType) {R : Type 0} (f : R → Bool) (h : R → Val τ) (rs : List R) (t : IdTree τ) (s : ℕ) (p : Program) (n : ℕ) (m m' : State) : Type 0 where
  pub runs : run boundless p n m ≡ went m'
  pub added : Store
  pub store : m'.store ≡ m.store ++ added
  pub adds : length added ≡ pack_size (depth_of τ)
  pub results : Holds m'.store τ (pack_tree t s) (those f h rs)
  pub work : m'.work ≡ m.work + pack_work τ f h rs
  pub steps : m'.steps ≡ m.steps + pack_steps τ h rs

-- the items of a level under their control: run, or skipped where there is none
module _ (τ : ValueType) {R : Type 0} (f : R → Bool) (h : R → Val τ) (b c n s : ℕ) (outs ins : List ℕ) (t : IdTree τ) (m : State)
    (below : (r : R) (rs : List R)
    → m.store ! b ≡ some (bools (map f (r ∷ rs)))
    → Holds m.store τ t (map h (r ∷ rs))
    → (m' : State) × Packed τ f h (r ∷ rs) t s (pack_code b t s) (length (r ∷ rs)) m m')
    (first : length m.store ≡ s) where
  items : (rs : List R)
      → m.store ! b ≡ some (bools (map f rs))
      → m.store ! c ≡ some (units (length rs))
      → Holds m.store τ t (map h rs)
      → (m' : State) × Packed τ f h rs t s (with_ctrl outs c ins (pack_code b t s) done) n m m'
  unfolding run sum_of concat
  items [] bs us k = (
    skip (pack_code b t s) m,
    record {
      runs = run-skipped boundless outs ins c (pack_code b t s) done n m us;
      added = skipped m.store (pack_code b t s);
      store = refl;
      adds = skipped-pack-size τ b t s m.store;
      results = skipped-pack τ b t s m.store first k;
      work = omega arith;
      steps = omega (arith, steps-packed-none τ h);
    },
  )
  items (r ∷ rs) bs us k =
      let (m', w) = below r rs bs k in (
        m',
        record {
          runs = run-body boundless outs ins c (pack_code b t s) done n m us ∙ onward-went _ ∙ w.runs;
          added = w.added;
          store = w.store;
          adds = w.adds;
          results = w.results;
          work = w.work;
          steps = w.steps;
        },
      )

-- the whole level, from its items
module _ (τ : ValueType) {R : Type 0} (f : R → Bool) (h : R → List (Val τ)) (r : R) (rs : List R) (b l s : ℕ) (t : IdTree τ) (m : State)
    (first : length m.store ≡ s)
    (Chosen-at : m.store ! b ≡ some (bools (map f (r ∷ rs))))
    (flags-at : m.store ! l ≡ some (flags (segments (map h (r ∷ rs)))))
  where
    around : (p : Program) (m' : State)
        → Packed τ chosen item (paired f h (r ∷ rs)) t (s + 3) p (length (r ∷ rs)) (opened τ f h (r ∷ rs) b l s m) m'
        → Packed (braces τ) f h (r ∷ rs) (node t l) s
        (define (UPack (id b) (id l)) (define (Distr (id l) (id b)) (define (Usum (id l)) p)))
        (length (r ∷ rs)) m m'
    unfolding pack_tree pack_size
    around p m' w =
        let one = opened τ f h (r ∷ rs) b l s m in
        let new = level τ f h (r ∷ rs) b l s m in
        record {
          runs = level-runs τ f h (r ∷ rs) b l s m first Chosen-at flags-at p ∙ w.runs;
          added = new ++ w.added;
          store = w.store ∙ ap (λ σ. σ ++ w.added) (opened-store τ f h (r ∷ rs) b l s m) ∙ append_assoc m.store new w.added;
          adds = omega (arith, length-append new w.added, w.adds);
          results =
              holds-node {τ = τ} {s = s} {vs = those f h (r ∷ rs)} (rw w.store (get_elem?-append-left one.store w.added s (opened-flags τ f h (r ∷ rs) b l s m first)))
              (subst (λ vs. Holds m'.store τ (pack_tree t (s + 3)) vs) (those-paired f h (r ∷ rs)) w.results);
          work = omega (arith, w.work, level-work τ f h (r ∷ rs) b l s m first Chosen-at flags-at, work-packed-list τ f h (r ∷ rs));
          steps = omega (arith, w.steps, steps-packed-list τ h r rs, same);
        }
      where
        same : pack_steps τ item (paired f h (r ∷ rs)) ≡ pack_steps τ (λ v. v) (concat (map h (r ∷ rs)))
        same = ap (λ l. count_true (any_of (pack_size (depth_of τ)) l)) (sym (map-map (pack_reached τ) item (paired f h (r ∷ rs))) ∙ ap (map (pack_reached τ)) (paired-items f h (r ∷ rs)))

pub packing : (τ : ValueType) {R : Type 0} (f : R → Bool) (h : R → Val τ) (r : R) (rs : List R) (b : ℕ) (t : IdTree τ) (s : ℕ) (m : State)
    → length m.store ≡ s
    → m.store ! b ≡ some (bools (map f (r ∷ rs)))
    → Holds m.store τ t (map h (r ∷ rs))
    → (m' : State) × Packed τ f h (r ∷ rs) t s (pack_code b t s) (length (r ∷ rs)) m m'
unfolding pack_code pack_tree pack_size run root outer inner
packing (scalar c) f h r rs b (leaf x) s m first bs k =
    let n = length (r ∷ rs) in
    let out = data_of c (those f h (r ∷ rs)) in
    let held = held-data k in (
      push (Pack (id b) (id x)) n out m,
      record {
        runs = run-made (Pack (id b) (id x)) done n m (apply-pack m.store f c h (r ∷ rs) b x bs held);
        added = out ∷ [];
        store = refl;
        adds = refl;
        results = holds-new m.store c (those f h (r ∷ rs)) first;
        work =
            omega (
              arith,
              work-two m.store b x n out bs held,
              length-map (r ∷ rs) f,
              len-data c (map h (r ∷ rs)),
              length-map (r ∷ rs) h,
              len-data c (those f h (r ∷ rs)),
              work-packed-scalar c f h (r ∷ rs),
            );
        steps = omega (arith, steps-packed-scalar c h r rs);
      },
    )
packing (braces τ) f h r rs b (node t l) s m first bs k =
    let one = opened τ f h (r ∷ rs) b l s m in
    let next = opened-next τ f h (r ∷ rs) b l s m first in
    let (m', w) =
    items τ chosen item (s + 1) (s + 2) (length (r ∷ rs)) (s + 3) _ _ t one (λ p ps bs k. packing τ chosen item p ps (s + 1) t (s + 3) one next bs k) next
    (paired f h (r ∷ rs))
    (opened-bools τ f h (r ∷ rs) b l s m first)
    (opened-units τ f h (r ∷ rs) b l s m first)
    (opened-items τ f h (r ∷ rs) b l s m first t (held_inner k)) in
    (m', around τ f h r rs b l s t m first bs (held-flags k) _ m' w)

-- Each listed variable packed by the guard's bools: the trees hold its values in the environments behind the guard.
pub record AllPacked {Γ : List ValueType} (g : Γ ∋ bool) (us : Listing Γ) (δ : All IdTree Γ) (s : ℕ) (ρs : List (All Val Γ)) (m m' : State) : Type 0 where
  pub runs : run boundless (pack_codes (root (lookup g δ)) us δ s) (length ρs) m ≡ went m'
  pub added : Store
  pub store : m'.store ≡ m.store ++ added
  pub adds : length added ≡ packs_size us
  pub agrees : Agrees m'.store (pack_trees us δ s) (passed_all g us ρs)
  pub work : m'.work ≡ m.work + sum_of (map (λ ρ. pack_charges (unit_for (lookup g ρ)) us ρ) ρs)
  pub steps : m'.steps ≡ m.steps + packs_steps us ρs

-- one more variable in front of those behind the guard
agrees-passed : {Γ : List ValueType} (g : Γ ∋ bool) (u : (τ : ValueType) × (Γ ∋ τ)) (us : Listing Γ) (ρs : List (All Val Γ)) (σ : Store) (t : IdTree u.0) (δ : All IdTree (listed_types us))
    → Holds σ u.0 t (those (lookup g) (lookup u.1) ρs)
    → Agrees σ δ (passed_all g us ρs)
    → Agrees σ (◌▹◌ {τ = u.0} t δ) (passed_all g (u ∷ us) ρs)
unfolding lookup listed
agrees-passed g u us ρs σ t δ k a = record { holds = go }
  where
    go : {τ : ValueType} (x : listed_types (u ∷ us) ∋ τ) → Holds σ τ (lookup x (◌▹◌ {τ = u.0} t δ)) (map (lookup x) (passed_all g (u ∷ us) ρs))
    go here = rw (value-passed g (u ∷ us) here ρs) k
    go (there x) = rw (value-passed g (u ∷ us) (there x) ρs) (rw (value-passed g us x ρs) at (a.holds x))

pub packed-next : {τ : ValueType} {R : Type 0} {f : R → Bool} {h : R → Val τ} {rs : List R} {t : IdTree τ} {s : ℕ} {p : Program} {n : ℕ} {m m' : State}
    → Packed τ f h rs t s p n m m'
    → length m.store ≡ s
    → length m'.store ≡ s + pack_size (depth_of τ)
packed-next {m = m} w first = ap length w.store ∙ omega (arith, length-append m.store w.added, w.adds)

-- the first variable packed, and then the others
module _ {Γ : List ValueType} (g : Γ ∋ bool) (u : (τ : ValueType) × (Γ ∋ τ)) (us : Listing Γ) (δ : All IdTree Γ) (s : ℕ) (ρs : List (All Val Γ)) (m one m' : State) where
  abbrev bs : ℕ
  bs = root (lookup g δ)

  abbrev rest : Program
  rest = pack_codes bs us δ (s + pack_size (depth_of u.0))

  joined : Packed u.0 (lookup g) (lookup u.1) ρs (lookup u.1 δ) s (pack_code bs (lookup u.1 δ) s) (length ρs) m one
      → AllPacked g us δ (s + pack_size (depth_of u.0)) ρs one m'
      → AllPacked g (u ∷ us) δ s ρs m m'
  unfolding pack_codes pack_trees packs_size
  joined w z =
      record {
        runs =
            run-sequence boundless (pack_code bs (lookup u.1 δ) s) rest (length ρs) m
            ∙ ap (λ r. onward r (run boundless rest (length ρs))) w.runs
            ∙ z.runs;
        added = w.added ++ z.added;
        store = z.store ∙ ap (λ σ. σ ++ z.added) w.store ∙ append_assoc m.store w.added z.added;
        adds = omega (arith, length-append w.added z.added, w.adds, z.adds);
        agrees =
            agrees-passed g u us ρs m'.store (pack_tree (lookup u.1 δ) s) (pack_trees us δ (s + pack_size (depth_of u.0)))
            (rw z.store (holds-grown z.added w.results))
            z.agrees;
        work = omega (arith, w.work, z.work, work-packs g u us ρs);
        steps = omega (arith, w.steps, z.steps, steps-packs u us ρs);
      }

pub packing-all : {Γ : List ValueType} (g : Γ ∋ bool) (us : Listing Γ) (δ : All IdTree Γ) (s : ℕ) (ρ : All Val Γ) (ρs : List (All Val Γ)) (m : State)
    → length m.store ≡ s
    → Agrees m.store δ (ρ ∷ ρs)
    → (m' : State) × AllPacked g us δ s (ρ ∷ ρs) m m'
unfolding pack_codes pack_trees packs_size run
packing-all g [] δ s ρ ρs m first a = (
  m,
  record {
    runs = refl;
    added = [];
    store = sym (append-nil m.store);
    adds = refl;
    agrees = no-variables (passed_all g [] (ρ ∷ ρs));
    work = omega (arith, work-packs-none g (ρ ∷ ρs));
    steps = omega (arith, steps-packs-none (ρ ∷ ρs));
  },
)
packing-all g (u ∷ us) δ s ρ ρs m first a =
    let n = pack_size (depth_of u.0) in
    let (one, w) =
    packing u.0 (lookup g) (lookup u.1) ρ ρs (root (lookup g δ)) (lookup u.1 δ) s m first (held-data (a.holds g)) (a.holds u.1) in
    let (m', z) = packing-all g us δ (s + n) ρ ρs one (packed-next w first) (rw w.store (agrees-grown w.added a)) in
    (m', joined g u us δ s (ρ ∷ ρs) m one m' w z)
