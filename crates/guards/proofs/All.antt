-- Each listed variable packed, one after another, with its entry on the stack.
use Prim.Native.Nat.{ℕ, zero, suc, ◌+◌, ◌-◌, ◌≤◌, ◌<◌}
use mathlib.Core.List.{List, [], ◌∷◌, ◌++◌}
use mathlib.Core.Logic.{inr}
use mathlib.Core.Option.{Option, some, none}
use mathlib.Core.Path.{◌≡◌, refl, sym, ◌∙◌, ap, subst, transport}
use native.Mathlib.Numerals.{add-one, sub-one}
use native.Mathlib.Omega.{arith}
use lib.IntN.{ℤ}
use lib.ListN.{length, drop, length-append, length-drop}
use Rattle.std.specs.Prelude.{Ok, Err, Result as Returned}
use Rattle.laws.proofs.Never.{never}
use Rattle.laws.specs.Parts.{written}
use Rattle.snesl.specs.declared.code.Kind.TheVariants.{Bools}
use Rattle.snesl.specs.declared.code.Variable.{Variable}
use Rattle.snesl.specs.declared.refusal.Refusal.{Refusal}
use Rattle.snesl.specs.Values.{ValueType, depth_of}
use Rattle.snesl.specs.Terms.{◌∋◌, All, listed_types, lookup}
use Rattle.snesl.specs.Trees.{IdTree, map_tree}
use Rattle.snesl.specs.Streams.{Store}
use Rattle.snesl.specs.Programs.{Program, done}
use Rattle.snesl.specs.Machine.{State, Result, went, stopped, onward}
use Rattle.snesl.specs.Outcome.{refusal_of}
use Rattle.snesl.specs.Records.{variable_at, variables_at}
use Rattle.snesl.specs.Checking.{Name, Found, missing, found, find, NamedListing, any_first, listed_any, any_pointers, any_names}
use Rattle.snesl.specs.Translation.{pack_size, packs_size, pack_tree, pack_trees, pack_code, pack_codes}
use Rattle.snesl.proofs.Compiled.Packing.{count-pack}
use Rattle.environment.specs.Words.{tree_words, spelled}
use Rattle.environment.specs.Needs.{binding_size, listed_size}
use Rattle.environment.proofs.Stack.{drop-above, drop-written, written_then_lem}
use Rattle.environment.proofs.Finding.{length-tree}
use Rattle.sink.specs.declared.state.Walk.{Walk}
use Rattle.sink.specs.Sinks.{feed}
use Rattle.sink.specs.Sunk.{Sunk}
use Rattle.steps.specs.Walking.{walked}
use Rattle.steps.specs.Holding.{place, PlacedAt}
use Rattle.steps.proofs.Stores.{nothing_written}
use Rattle.steps.proofs.Walking.{walked-done, walked_seq, Grown, walked-grown}
use Rattle.leaves.specs.Places.{places, Shapely, Shaped, shaped-none, shaped-more}
use Rattle.leaves.proofs.Places.{tree-kept, shapely-kept}
use Rattle.leaves.proofs.Growing.{keeps_then, onward-as}
use Rattle.bodies.proofs.Feeding.{like-fed, fed_then}
use Rattle.bodies.proofs.Scenes.{later}
use Rattle.guards.specs.Packs.{pack_answer}
use Rattle.guards.specs.Lists.{Guarded, Chosen, one_answer, Entered, Enters, Lists, AllBound, AllBinds}
use Rattle.guards.specs.declared.Guarding.{Guarding}
use Rattle.guards.proofs.Words.{written_from, beside}
use Rattle.guards.proofs.Growth.{moved}

-- ---- words behind words, from a place on

words-then : (low at : ℕ) (u v env env₁ env₃ : List ℕ) → low ≤ at → at + length u + length v ≤ length env → length env₁ ≡ length env
    → drop low env₁ ≡ drop low (written at u env) → drop low env₃ ≡ drop low (written (at + length u) v env₁) → drop low env₃ ≡ drop low (written at (u ++ v) env)
words-then low at u v env env₁ env₃ h f l a b =
    let far : at + length u - low ≡ at - low + length u = omega arith in
    let rest : at - low + length u + length v ≤ length (drop low env) = omega (arith, length-drop low env) in
    b
    ∙ (written_from low (at + length u) v env₁ (omega arith) (omega arith)
    ∙ (ap (written (at + length u - low) v) (a ∙ written_from low at u env h (omega arith))
    ∙ (written_then_lem (drop low env) (at - low) u v (at + length u - low) far rest ∙ sym (written_from low at (u ++ v) env h (omega (arith, length-append u v))))))

-- ---- the first of what is listed

first-variables : (t : List ℕ) (at left : ℕ) → 0 < left → variables_at t at left ≡ variable_at t at ∷ variables_at t (at + 1) (left - 1)
unfolding variables_at
first-variables t at zero h = absurd (omega arith)
first-variables t at (suc l) h = rw (add-one, sub-one)

pub record First {Γ : List ValueType} (names : All Name Γ) (t : List ℕ) (at left : ℕ) (ls : NamedListing Γ) : Type 0 where
  pub type : ValueType
  pub pointer : Γ ∋ type
  pub others : NamedListing Γ
  pub finds : find (variable_at t at) names ≡ found type pointer
  pub lists : listed_any names (variables_at t (at + 1) (left - 1)) ≡ some others
  pub is : (variable_at t at, (type, pointer)) ∷ others ≡ ls

pub first_of : {Γ : List ValueType} (u : Variable) (f : Found Γ) (o : Option (NamedListing Γ)) (ls : NamedListing Γ) → any_first u f o ≡ some ls
    → (τ : ValueType) × (x : Γ ∋ τ) × (l : NamedListing Γ) × (f ≡ found τ x) × (o ≡ some l) × ((u, (τ, x)) ∷ l ≡ ls)
first_of u missing o ls e = never (cc)
first_of u (found τ x) none ls e = never (cc)
first_of u (found τ x) (some l) ls e = (τ, x, l, refl, refl, cc)

pub first : {Γ : List ValueType} → (names : All Name Γ) (t : List ℕ) (at left : ℕ) (ls : NamedListing Γ) → listed_any names (variables_at t at left) ≡ some ls → 0 < left → First names t at left ls
unfolding listed_any
first names t at left ls e h =
    let f =
    first_of (variable_at t at) (find (variable_at t at) names) (listed_any names (variables_at t (at + 1) (left - 1))) ls
    (ap (listed_any names) (sym (first-variables t at left h)) ∙ e) in
    record { type = f.0; pointer = f.1; others = f.2; finds = f.3; lists = f.4; is = f.5 }

pub none-listed : {Γ : List ValueType} → (names : All Name Γ) (t : List ℕ) (at left : ℕ) (ls : NamedListing Γ) → listed_any names (variables_at t at left) ≡ some ls → left ≡ 0 → [] ≡ ls
unfolding listed_any variables_at
none-listed names t at zero ls e z = cc
none-listed names t at (suc l) ls e z = absurd (omega arith)

-- the entries of listed variables
pub length-entries : {Γ : List ValueType} → (ls : NamedListing Γ) (σ : Store) (δ : All IdTree Γ) (s : ℕ)
    → length (spelled (any_names ls) (places σ (pack_trees (any_pointers ls) δ s))) ≡ listed_size (any_pointers ls)
unfolding spelled any_names places pack_trees listed_size
length-entries [] σ δ s = refl
length-entries (p ∷ ls) σ δ s =
    let t : List ℕ = tree_words (map_tree (place σ) (pack_tree (lookup p.1.1 δ) s)) in
    let r : List ℕ = spelled (any_names ls) (places σ (pack_trees (any_pointers ls) δ (s + pack_size (depth_of p.1.0)))) in
    omega (arith, length-append t r, length-tree (map_tree (place σ) (pack_tree (lookup p.1.1 δ) s)), length-entries ls σ δ (s + pack_size (depth_of p.1.0)))

-- ---- nothing listed

module _ {q : Guarding} {env : List ℕ} {buf : List ℤ} {state : Walk} {text : List ℕ} (g : Guarded q env buf state text) (n to : ℕ) where
  bound-none : AllBinds g [] n to env buf state text (Ok tt)
  unfolding pack_codes pack_trees any_names places spelled feed
  bound-none =
      let m = g.scene.machine in
      let e : walked (length buf) n done m ≡ went m = walked-done (length buf) n m in
      record {
        says = ap pack_answer (sym e);
        leaves =
            λ m' f.
            let both : went m ≡ went m' = sym e ∙ f in
            let same : m ≡ m' = cc in
            subst (AllBound g [] to env buf state text) same
            (record { held = g.scene.held; sunk = g.scene.sunk; kept = refl; shaped = shaped-none; words = ap (drop q.base) (nothing_written to env) });
      }

all-bound : {t : List ℕ} {at left to : ℕ} {q : Guarding} {env : List ℕ} {buf : List ℤ} {state : Walk} {text : List ℕ} (n : ℕ) (g : Lists t at left to q env buf state text) → left ≡ 0
    → AllBinds g.guarded g.list n to env buf state text (Ok tt)
all-bound {t} {at} {left} {to} {q} {env} {buf} {state} {text} n g z =
    subst (λ l. AllBinds g.guarded l n to env buf state text (Ok tt)) (none-listed g.guarded.scene.names t at left g.list g.lists z) (bound-none g.guarded n to)

-- ---- one of them

module _ {t : List ℕ} {at left to : ℕ} {q : Guarding} {env : List ℕ} {buf : List ℤ} {state : Walk} {text : List ℕ} (g : Lists t at left to q env buf state text) (some_left : 0 < left) where
  abbrev pub the-first : First g.guarded.scene.names t at left g.list
  the-first = first g.guarded.scene.names t at left g.list g.lists some_left

  pub size_is : binding_size (depth_of the-first.type) + listed_size (any_pointers the-first.others) ≡ listed_size (any_pointers g.list)
  unfolding listed_size
  size_is = ap (λ l. listed_size (any_pointers l)) the-first.is

  pub packs-is : pack_size (depth_of the-first.type) + packs_size (any_pointers the-first.others) ≡ packs_size (any_pointers g.list)
  unfolding packs_size
  packs-is = ap (λ l. packs_size (any_pointers l)) the-first.is

  abbrev pub chosen : Chosen (variable_at t at) to q env buf state text
  chosen =
      record {
        guarded = g.guarded;
        type = (first g.guarded.scene.names t at left g.list g.lists some_left).type;
        pointer = (first g.guarded.scene.names t at left g.list g.lists some_left).pointer;
        finds = (first g.guarded.scene.names t at left g.list g.lists some_left).finds;
        low = g.low;
        space = omega (arith, size_is, g.space);
        few = omega (arith, packs-is, g.few);
      }

  abbrev s : ℕ
  s = length g.guarded.scene.machine.store

  abbrev d : ℕ
  d = depth_of the-first.type

  abbrev code₁ : Program
  code₁ = pack_code g.guarded.guard (lookup the-first.pointer g.guarded.scene.trees) s

  abbrev rest-code : ℕ → Program
  rest-code i = pack_codes g.guarded.guard (any_pointers the-first.others) g.guarded.scene.trees i

  module _ (n : ℕ) where
    first_code : walked (length buf) n (pack_codes g.guarded.guard (any_pointers g.list) g.guarded.scene.trees s) g.guarded.scene.machine
        ≡ onward (walked (length buf) n code₁ g.guarded.scene.machine) (walked (length buf) n (rest-code (s + pack_size d)))
    unfolding pack_codes
    first_code =
        ap (λ l. walked (length buf) n (pack_codes g.guarded.guard (any_pointers l) g.guarded.scene.trees s) g.guarded.scene.machine) (sym the-first.is)
        ∙ walked_seq (length buf) n code₁ (rest-code (s + pack_size d)) g.guarded.scene.machine

    first-fed : feed s (pack_codes g.guarded.guard (any_pointers g.list) g.guarded.scene.trees s) g.guarded.scene.sink
        ≡ feed (s + pack_size d) (rest-code (s + pack_size d)) (feed s code₁ g.guarded.scene.sink)
    unfolding pack_codes
    first-fed =
        ap (λ l. feed s (pack_codes g.guarded.guard (any_pointers l) g.guarded.scene.trees s) g.guarded.scene.sink) (sym the-first.is)
        ∙ (fed_then s code₁ (rest-code (s + pack_size d)) g.guarded.scene.sink
        ∙ ap (λ i. feed (s + i) (rest-code (s + pack_size d)) (feed s code₁ g.guarded.scene.sink)) (count-pack g.guarded.guard (lookup the-first.pointer g.guarded.scene.trees) s))

    module _ {env₁ : List ℕ} {buf₁ : List ℤ} {state₁ : Walk} {text₁ : List ℕ} {r : Returned ℕ Refusal} (w : Enters chosen n env₁ buf₁ state₁ text₁ r) where
      pub first-stopped : {env' : List ℕ} {x : Refusal} → r ≡ Err x → AllBinds g.guarded g.list n to env' buf₁ state₁ text₁ (Err x)
      first-stopped {env'} {x} h = go (walked (length buf) n code₁ g.guarded.scene.machine) refl
        where
          go : (y : Result) → walked (length buf) n code₁ g.guarded.scene.machine ≡ y → AllBinds g.guarded g.list n to env' buf₁ state₁ text₁ (Err x)
          go (went m) f = let both : Err x ≡ Ok (to + binding_size d) = sym h ∙ (w.says ∙ ap (one_answer (to + binding_size d)) f) in never (cc)
          go (stopped why i) f =
              let both : Err x ≡ Err (refusal_of why i) = sym h ∙ (w.says ∙ ap (one_answer (to + binding_size d)) f) in
              let same : x ≡ refusal_of why i = cc in
              let so : walked (length buf) n (pack_codes g.guarded.guard (any_pointers g.list) g.guarded.scene.trees s) g.guarded.scene.machine ≡ stopped why i =
              first_code ∙ ap (λ y. onward y (walked (length buf) n (rest-code (s + pack_size d)))) f in
              record {
                says = ap Err same ∙ ap pack_answer (sym so);
                leaves = λ m j. let b : stopped why i ≡ went m = sym so ∙ j in never (cc);
              }

      pub record Gave (next : ℕ) : Type 0 where
        pub after : State
        pub went_to : walked (length buf) n (pack_code g.guarded.guard (lookup (first g.guarded.scene.names t at left g.list g.lists some_left).pointer g.guarded.scene.trees) (length g.guarded.scene.machine.store)) g.guarded.scene.machine ≡ went after
        pub next-is : next ≡ to + binding_size (depth_of (first g.guarded.scene.names t at left g.list g.lists some_left).type)
        pub left_behind : Entered chosen env₁ buf₁ state₁ text₁ after

      gave : {next : ℕ} → r ≡ Ok next → Gave next
      gave {next} h = go (walked (length buf) n code₁ g.guarded.scene.machine) refl
        where
          go : (y : Result) → walked (length buf) n code₁ g.guarded.scene.machine ≡ y → Gave next
          go (went m) f =
              let both : Ok next ≡ Ok (to + binding_size d) = sym h ∙ (w.says ∙ ap (one_answer (to + binding_size d)) f) in
              record { after = m; went_to = f; next-is = cc; left_behind = w.leaves m f }
          go (stopped why i) f = let both : Ok next ≡ Err (refusal_of why i) = sym h ∙ (w.says ∙ ap (one_answer (to + binding_size d)) f) in never (cc)

      module _ {next : ℕ} (h : r ≡ Ok next) (long : length env₁ ≡ length env) (long-buf : length buf₁ ≡ length buf) where
        o : Gave next
        o = gave h

        gr : Grown g.guarded.scene.machine code₁ o.after
        gr = walked-grown (length buf) n code₁ g.guarded.scene.machine o.after o.went_to

        number : length o.after.store ≡ s + pack_size d
        number =
            ap length gr.store
            ∙ (length-append g.guarded.scene.machine.store gr.streams
            ∙ ap (λ i. s + i) (gr.number ∙ count-pack g.guarded.guard (lookup the-first.pointer g.guarded.scene.trees) s))

        abbrev entry : List ℕ
        entry = (variable_at t at).0 ∷ d ∷ tree_words (map_tree (place o.after.store) (pack_tree (lookup the-first.pointer g.guarded.scene.trees) s))

        entry-long : length entry ≡ binding_size d
        entry-long = omega (arith, length-tree (map_tree (place o.after.store) (pack_tree (lookup the-first.pointer g.guarded.scene.trees) s)))

        entry-fits : to + length entry ≤ q.sp
        entry-fits = omega (arith, entry-long, size_is, g.space)

        above : drop q.sp env₁ ≡ drop q.sp env
        above =
            drop-above env₁ (written to entry env) q.base q.sp o.left_behind.words (omega (arith, g.low, g.space))
            ∙ drop-written env to q.sp entry entry-fits g.guarded.scene.within

        bools-still : PlacedAt o.after.store env₁ Bools g.guarded.guard q.bools
        bools-still =
            moved gr.streams g.guarded.placed gr.store
            (beside q.base to entry env env₁ q.bools 3 o.left_behind.words (omega (arith, g.low, g.space, g.guarded.high))
            (omega (arith, entry-fits, g.guarded.scene.within)) (inr (omega (arith, entry-fits, g.guarded.high))))

        abbrev guarded₁ : Guarded q env₁ buf₁ state₁ text₁
        guarded₁ =
            record {
              scene =
                  later g.guarded.scene o.after gr.streams gr.store o.left_behind.held above long (feed s code₁ g.guarded.scene.sink) o.left_behind.sunk
                  (like-fed s code₁ g.guarded.scene.sink);
              guard = g.guarded.guard;
              placed = bools-still;
              high = g.guarded.high;
              inside = omega (arith, long, g.guarded.inside);
              free = g.guarded.free;
            }

        pub others-ready : Lists t (at + 1) (left - 1) next q env₁ buf₁ state₁ text₁
        others-ready =
            record {
              guarded = guarded₁;
              list = the-first.others;
              lists = the-first.lists;
              bytes = omega (arith, g.bytes);
              low = omega (arith, o.next-is, g.low);
              space = omega (arith, o.next-is, size_is, g.space);
              few = omega (arith, number, packs-is, g.few);
            }

        -- the first entry and the others
        run-same : walked (length buf) n (pack_codes g.guarded.guard (any_pointers g.list) g.guarded.scene.trees s) g.guarded.scene.machine
            ≡ walked (length buf₁) n (rest-code (length o.after.store)) o.after
        run-same =
            first_code
            ∙ (onward-as (walked (length buf) n (rest-code (s + pack_size d))) o.went_to
            ∙ (λ i. walked (sym long-buf i) n (rest-code (sym number i)) o.after))

        module _ {env₃ : List ℕ} {buf₃ : List ℤ} {state₃ : Walk} {text₃ : List ℕ} {m : State} (τ : Store) (more : m.store ≡ o.after.store ++ τ)
            (b : AllBound guarded₁ the-first.others next env₃ buf₃ state₃ text₃ m) where
          abbrev others : List ℕ
          others = spelled (any_names the-first.others) (places m.store (pack_trees (any_pointers the-first.others) g.guarded.scene.trees (s + pack_size d)))

          others-long : length others ≡ listed_size (any_pointers the-first.others)
          others-long = length-entries the-first.others m.store g.guarded.scene.trees (s + pack_size d)

          others-words : drop q.base env₃ ≡ drop q.base (written (to + length entry) others env₁)
          others-words =
              let place_is : next ≡ to + length entry = o.next-is ∙ ap (λ i. to + i) (sym entry-long) in
              b.words
              ∙ (λ i. drop q.base (written (place_is i) (spelled (any_names the-first.others) (places m.store (pack_trees (any_pointers the-first.others) g.guarded.scene.trees (number i)))) env₁))

          tree-still : map_tree (place m.store) (pack_tree (lookup the-first.pointer g.guarded.scene.trees) s)
              ≡ map_tree (place o.after.store) (pack_tree (lookup the-first.pointer g.guarded.scene.trees) s)
          tree-still =
              ap (λ σ. map_tree (place σ) (pack_tree (lookup the-first.pointer g.guarded.scene.trees) s)) more
              ∙ tree-kept o.after.store τ {υ = the-first.type} o.left_behind.shapely

          all_words : drop q.base env₃ ≡ drop q.base (written to (entry ++ others) env)
          all_words =
              words-then q.base to entry others env env₁ env₃ g.low (omega (arith, entry-long, others-long, size_is, g.space, g.guarded.scene.within)) long o.left_behind.words others-words

          all-sunk : Sunk (feed s (pack_codes g.guarded.guard (any_pointers g.list) g.guarded.scene.trees s) g.guarded.scene.sink) text₃ state₃.sink
          all-sunk =
              subst (λ k. Sunk k text₃ state₃.sink)
              ((λ i. feed (number i) (rest-code (number i)) (feed s code₁ g.guarded.scene.sink)) ∙ sym first-fed) b.sunk

          both-bound : AllBound g.guarded ((variable_at t at, (the-first.type, the-first.pointer)) ∷ the-first.others) to env₃ buf₃ state₃ text₃ m
          unfolding pack_trees any_names places spelled
          both-bound =
              record {
                held = b.held;
                sunk =
                    subst (λ l. Sunk (feed s (pack_codes g.guarded.guard (any_pointers l) g.guarded.scene.trees s) g.guarded.scene.sink) text₃ state₃.sink) (sym the-first.is) all-sunk;
                kept = keeps_then o.after.store τ m.store buf buf₁ buf₃ o.left_behind.kept b.kept more;
                shaped =
                    shaped-more {τ = the-first.type}
                    (subst (λ σ. Shapely σ the-first.type (pack_tree (lookup the-first.pointer g.guarded.scene.trees) s)) (sym more) (shapely-kept o.after.store τ {υ = the-first.type} o.left_behind.shapely))
                    (subst (λ i. Shaped m.store (listed_types (any_pointers the-first.others)) (pack_trees (any_pointers the-first.others) g.guarded.scene.trees i)) number b.shaped);
                words = all_words ∙ ap (λ x. drop q.base (written to ((variable_at t at).0 ∷ d ∷ (tree_words x ++ others)) env)) (sym tree-still);
              }

        pub composed : {env₃ : List ℕ} {buf₃ : List ℤ} {state₃ : Walk} {text₃ : List ℕ} {x : Returned Unit Refusal} → AllBinds others-ready.guarded others-ready.list n next env₃ buf₃ state₃ text₃ x
            → AllBinds g.guarded g.list n to env₃ buf₃ state₃ text₃ x
        unfolding others-ready
        composed {env₃} {buf₃} {state₃} {text₃} v =
            record {
              says = v.says ∙ ap pack_answer (sym run-same);
              leaves =
                  λ m e.
                  let gr₂ = walked-grown (length buf₁) n (rest-code (length o.after.store)) o.after m (sym run-same ∙ e) in
                  subst (λ l. AllBound g.guarded l to env₃ buf₃ state₃ text₃ m) the-first.is (both-bound gr₂.streams gr₂.store (v.leaves m (sym run-same ∙ e)));
            }

-- ---- the loop

-- What is left to pack, and that with it all is done.
pub record Rest {t : List ℕ} {at₀ left₀ to₀ : ℕ} {q : Guarding} {env₀ : List ℕ} {buf₀ : List ℤ} {state₀ : Walk} {text₀ : List ℕ} (g : Lists t at₀ left₀ to₀ q env₀ buf₀ state₀ text₀) (n : ℕ)
    (at left to : ℕ) (env : List ℕ) (buf : List ℤ) (state : Walk) (text : List ℕ) : Type 0 where
  pub left_over : Lists t at left to q env buf state text
  pub whole : {env' : List ℕ} {buf' : List ℤ} {state' : Walk} {text' : List ℕ} {x : Returned Unit Refusal} → AllBinds left_over.guarded left_over.list n to env' buf' state' text' x
      → AllBinds g.guarded g.list n to₀ env' buf' state' text' x

module _ {t : List ℕ} {at₀ left₀ to₀ : ℕ} {q : Guarding} {env₀ : List ℕ} {buf₀ : List ℤ} {state₀ : Walk} {text₀ : List ℕ} (g : Lists t at₀ left₀ to₀ q env₀ buf₀ state₀ text₀) (n : ℕ) where
  -- Rests whose numbers are the same.
  rest-as : {at at' left left' to : ℕ} {env : List ℕ} {buf : List ℤ} {state : Walk} {text : List ℕ} → at ≡ at' → left ≡ left'
      → Rest g n at left to env buf state text → Rest g n at' left' to env buf state text
  rest-as {to = to} {env} {buf} {state} {text} p e h = transport (λ i. Rest g n (p i) (e i) to env buf state text) h

  pub rest-start : {at left : ℕ} → at ≡ at₀ → left ≡ left₀ → Rest g n at left to₀ env₀ buf₀ state₀ text₀
  rest-start p e = rest-as (sym p) (sym e) (record { left_over = g; whole = λ x. x })

  module _ {at left to : ℕ} {env : List ℕ} {buf : List ℤ} {state : Walk} {text : List ℕ} (h : Rest g n at left to env buf state text) where
    pub rest-done : left ≤ 0 → AllBinds g.guarded g.list n to₀ env buf state text (Ok tt)
    rest-done z = h.whole (all-bound n h.left_over (omega arith))

    module _ (some_left : 0 < left) {env₁ : List ℕ} {buf₁ : List ℤ} {state₁ : Walk} {text₁ : List ℕ} {r : Returned ℕ Refusal} (w : Enters (chosen h.left_over some_left) n env₁ buf₁ state₁ text₁ r) where
      pub rest-stopped : {x : Refusal} → r ≡ Err x → AllBinds g.guarded g.list n to₀ env₁ buf₁ state₁ text₁ (Err x)
      rest-stopped f = h.whole (first-stopped h.left_over some_left n w f)

      pub rest-turn : {next at' left' : ℕ} → r ≡ Ok next → length env₁ ≡ length env → length buf₁ ≡ length buf → at + 1 ≡ at' → left - 1 ≡ left'
          → Rest g n at' left' next env₁ buf₁ state₁ text₁
      rest-turn f l b p e =
          rest-as p e
          (record {
            left_over = others-ready h.left_over some_left n w f l b;
            whole = λ x. h.whole (composed h.left_over some_left n w f l b x);
          })
