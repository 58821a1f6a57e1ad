-- The Distr of each listed variable, one after another, with its entry on the stack.
use Prim.Native.Nat.{ℕ, zero, suc, ◌+◌, ◌*◌, ◌-◌, ◌≤◌, ◌<◌}
use mathlib.Core.List.{List, [], ◌∷◌, ◌++◌}
use mathlib.Core.Option.{some}
use mathlib.Core.Path.{◌≡◌, refl, sym, ◌∙◌, ap, ap₂, subst, transport}
use native.Mathlib.Numerals.{add-one, sub-one}
use native.Mathlib.Omega.{arith}
use lib.IntN.{ℤ}
use lib.ListN.{length, get_or, drop, length-append}
use Rattle.laws.proofs.Never.{never}
use Rattle.laws.specs.Parts.{written}
use Rattle.snesl.specs.declared.code.Kind.TheVariants.{Flags}
use Rattle.snesl.specs.declared.code.Variable.{Variable}
use Rattle.snesl.specs.declared.code.Transducer.TheVariants.{Distr}
use Rattle.snesl.specs.declared.refusal.Refusal.{Refusal}
use Rattle.snesl.specs.declared.code.Base.{Base}
use Rattle.snesl.specs.Values.{ValueType, scalar, Element}
use Rattle.snesl.specs.Terms.{◌∋◌, any_type, listed_types, All, lookup}
use Rattle.snesl.specs.Trees.{map_tree}
use Rattle.snesl.specs.Streams.{data_of, data_kind, len, Store, ◌!◌}
use Rattle.snesl.specs.Transducers.{signature, carried}
use Rattle.snesl.specs.Programs.{done}
use Rattle.snesl.specs.Machine.{State, Result, went, stopped, onward}
use Rattle.snesl.specs.Outcome.{refusal_of}
use Rattle.snesl.specs.Records.{byte_at, variable_at, variables_at}
use Rattle.snesl.specs.Checking.{Name, find, found, as_scalar, NamedScalars, listed_scalars, listed_names, pointers}
use Rattle.snesl.specs.Translation.{id, numbered, distrs}
use Rattle.environment.specs.Words.{place_words, tree_words, spelled, Entry}
use Rattle.environment.proofs.Stack.{drop-written, length-written, written_then_lem}
use Rattle.sink.specs.declared.state.Walk.{Walk}
use Rattle.sink.specs.Sinks.{defined, feed}
use Rattle.sink.specs.Sunk.{Sunk}
use Rattle.steps.specs.Walking.{stepped, walked}
use Rattle.steps.specs.Holding.{Held, keeps, place, PlacedAt, Stopping}
use Rattle.std.specs.Prelude.{Ok, Err, Result as Returned}
use Rattle.steps.proofs.Stores.{nothing_written, kept, newest}
use Rattle.steps.proofs.Stepping.{carried-kind}
use Rattle.steps.proofs.Walking.{walked-done, walked-define, walked-grown}
use Rattle.steps.proofs.Performing.{stopping-as}
use Rattle.leaves.specs.Places.{places, shapely-leaf, Shaped, shaped-none, shaped-more}
use Rattle.leaves.specs.Scenes.{Scene}
use Rattle.leaves.specs.Making.{Makes, Instructed}
use Rattle.bodies.specs.Bodies.{Spreading, spread_by, Spread, Distributing, Bound, Distributed, listed_answer}
use Rattle.bodies.proofs.Lists.{found-scalar, listed-first, length-listed}
use Rattle.records.proofs.Variables.{length-variables}
use Rattle.leaves.proofs.Places.{data-full, place_kept}
use Rattle.leaves.proofs.Growing.{keeps_then, onward-as, onward-stop}
use Rattle.leaves.proofs.Operands.{scalar-placed, named-there}
use Rattle.leaves.proofs.Making.{Making, making, stopping}
use Rattle.leaves.proofs.Told.{define-fed}
use Rattle.leaves.proofs.CountingUp.{placed-later}
use Rattle.leaves.proofs.Singles.{items, items-stored, items-long, pushable, pushed-words}
use Rattle.bodies.proofs.Feeding.{like-defined}
use Rattle.bodies.proofs.Scenes.{later}

-- ---- one variable

module _ {u : Variable} {to sp : ℕ} {env : List ℕ} {buf : List ℤ} {state : Walk} {text : List ℕ} (g : Spreading u to sp env buf state text) {p : ℕ}
    (e : Entry env sp p (lookup g.pointer (places g.scene.machine.store g.scene.trees))) where
  made-is : Distr (id (get_or env (sp - 3) 0)) (id (get_or env (p + 2) 0)) ≡ spread_by g
  made-is = ap₂ (λ a b. Distr (id a) (id b)) (named-there g.placed) (named-there (scalar-placed g.scene g.pointer e))

  pub spread-ready : Makes (Distr (id (get_or env (sp - 3) 0)) (id (get_or env (p + 2) 0))) (record { first = sp - 3; second = p + 2 }) env buf state text g.scene.machine g.scene.sink
  spread-ready =
      subst (λ t. Makes t (record { first = sp - 3; second = p + 2 }) env buf state text g.scene.machine g.scene.sink) (sym made-is)
      (record {
        executable = record { held = g.scene.held; base = g.base; placed = (g.placed, (scalar-placed g.scene g.pointer e, tt)); more = g.few };
        sunk = g.scene.sunk;
      })

  module _ (n : ℕ) {buf₁ : List ℤ} {state₁ : Walk} {text₁ : List ℕ} {r : Returned ℕ Refusal}
      (w : Instructed (stepped (length buf) n (Distr (id (get_or env (sp - 3) 0)) (id (get_or env (p + 2) 0))) g.scene.machine) (Distr (id (get_or env (sp - 3) 0)) (id (get_or env (p + 2) 0))) g.scene.machine g.scene.sink buf buf₁ state₁ text₁ r) where
    own : Instructed (stepped (length buf) n (spread_by g) g.scene.machine) (spread_by g) g.scene.machine g.scene.sink buf buf₁ state₁ text₁ r
    own = subst (λ t. Instructed (stepped (length buf) n t g.scene.machine) t g.scene.machine g.scene.sink buf buf₁ state₁ text₁ r) made-is w

    pub spread-stopped : {env' : List ℕ} {q : Refusal} → r ≡ Err q → Spread g n env' buf₁ state₁ text₁ (Err q)
    spread-stopped {q = q} f =
        let s = stopping (length buf) n (spread_by g) own q f in
        record {
          went_on = λ m h. let both : stopped s.why s.where-at ≡ went m = sym s.stops ∙ h in never (cc);
          gave-up = λ why i h. sym f ∙ own.gave-up why i h;
        }

    module _ {made : ℕ} (f : r ≡ Ok made) where
      copy : Making (length buf) n (spread_by g) g.scene.machine g.scene.sink buf buf₁ state₁ text₁ made
      copy = making (length buf) n (spread_by g) own made f

      -- the copy is of the base of what it is a copy of
      copy-data : (signature (carried g.scene.machine.store (spread_by g)) (spread_by g)).output ≡ data_kind g.base
      copy-data =
          carried-kind g.scene.machine.store env g.base (spread_by g) (sp - 3) (p + 2) (g.placed, (scalar-placed g.scene g.pointer e, tt))

      copies : List (Element g.base)
      copies = items copy g.base copy-data

      stored : copy.after.store ≡ g.scene.machine.store ++ data_of g.base copies ∷ []
      unfolding copies
      stored = items-stored copy g.base copy-data

      long : made ≡ len (data_of g.base copies)
      unfolding copies
      long = items-long copy g.base copy-data

      pub spread-push : (1 ≤ state₁.machine.streams) × (state₁.machine.streams < 4294967296) × (made ≤ state₁.machine.room) × (state₁.machine.room < 4294967296)
      spread-push = pushable copy.held g.scene.machine.store (data_of g.base copies) stored (data-full g.base copies) long

      pub spread-made : {env₁ env₂ : List ℕ} → env₁ ≡ written to (u.0 ∷ 0 ∷ []) env
          → env₂ ≡ written (to + 5 - 3) ((state₁.machine.streams - 1) ∷ (state₁.machine.room - made) ∷ made ∷ []) env₁ → Spread g n env₂ buf₁ state₁ text₁ (Ok made)
      spread-made {env₁} {env₂} w₁ w₂ =
          let copy_w : List ℕ = place_words (place copy.after.store (length g.scene.machine.store)) in
          let entry : env₂ ≡ written to (u.0 ∷ 0 ∷ copy_w) env =
          w₂
          ∙ (ap (λ l. written (to + 5 - 3) l env₁) (pushed-words copy.held g.scene.machine.store (data_of g.base copies) stored (data-full g.base copies) long)
          ∙ (ap (written (to + 5 - 3) copy_w) w₁
          ∙ written_then_lem env to (u.0 ∷ 0 ∷ []) copy_w (to + 5 - 3) (omega arith) (omega (arith, g.space, g.scene.within)))) in
          record {
            went_on =
                λ m h.
                let both : went copy.after ≡ went m = sym copy.went_to ∙ h in
                let same : copy.after ≡ m = cc in
                subst
                (λ q.
                (vs : List (Element g.base)) × (q.store ≡ g.scene.machine.store ++ data_of g.base vs ∷ []) × ◌≡◌ {A = Returned ℕ Refusal} (Ok made) (Ok (len (data_of g.base vs))) × Held q buf₁ state₁.machine × keeps q.store buf buf₁
                × Sunk (defined (length g.scene.machine.store) (spread_by g) g.scene.sink) text₁ state₁.sink
                × (env₂ ≡ written to (u.0 ∷ 0 ∷ place_words (place q.store (length g.scene.machine.store))) env))
                same (copies, stored, ap Ok long, copy.held, copy.kept, copy.sunk, entry);
            gave-up = λ why i h. sym f ∙ own.gave-up why i h;
          }

-- the entries of listed variables take five words each
pub length-entries : {Γ : List ValueType} → (ls : NamedScalars Γ) (σ : Store) (s : ℕ)
    → length (spelled (listed_names ls) (places σ (numbered s (pointers ls)))) ≡ 5 * length (pointers ls)
unfolding spelled listed_names places numbered tree_words map_tree
length-entries [] σ s = refl
length-entries (p ∷ ls) σ s = omega (arith, length-entries ls σ (suc s))

-- ---- the first of what is listed

first-variables : (t : List ℕ) (at left : ℕ) → 0 < left → variables_at t at left ≡ variable_at t at ∷ variables_at t (at + 1) (left - 1)
unfolding variables_at
first-variables t at zero h = absurd (omega arith)
first-variables t at (suc l) h = rw (add-one, sub-one)

pub record First {Γ : List ValueType} (names : All Name Γ) (t : List ℕ) (at left : ℕ) (ls : NamedScalars Γ) : Type 0 where
  pub base : Base
  pub pointer : Γ ∋ scalar base
  pub others : NamedScalars Γ
  pub finds : find (variable_at t at) names ≡ found (scalar base) pointer
  pub lists : listed_scalars names (variables_at t (at + 1) (left - 1)) ≡ some others
  pub is : (variable_at t at, (base, pointer)) ∷ others ≡ ls

pub first : {Γ : List ValueType} → (names : All Name Γ) (t : List ℕ) (at left : ℕ) (ls : NamedScalars Γ) → listed_scalars names (variables_at t at left) ≡ some ls
    → 0 < left → First names t at left ls
unfolding listed_scalars
first names t at left ls e h =
    let f = listed-first (variable_at t at) (as_scalar (find (variable_at t at) names)) (listed_scalars names (variables_at t (at + 1) (left - 1))) ls
    (ap (listed_scalars names) (sym (first-variables t at left h)) ∙ e) in
    record {
      base = f.0;
      pointer = f.1;
      others = f.2;
      finds = found-scalar (find (variable_at t at) names) f.3;
      lists = f.4;
      is = f.5;
    }

-- ---- nothing listed

none-listed : {Γ : List ValueType} → (names : All Name Γ) (t : List ℕ) (at left : ℕ) (ls : NamedScalars Γ) → listed_scalars names (variables_at t at left) ≡ some ls
    → left ≡ 0 → [] ≡ ls
unfolding listed_scalars variables_at
none-listed names t at zero ls e z = cc
none-listed names t at (suc l) ls e z = absurd (omega arith)

module _ {env : List ℕ} {sp : ℕ} {buf : List ℤ} {state : Walk} {text : List ℕ} (s : Scene env sp buf state text) (b n base : ℕ) where
  bound-none : Distributed s b [] n base env buf state text (Ok tt)
  unfolding distrs numbered listed_names places spelled feed
  bound-none =
      let e : walked (length buf) n done s.machine ≡ went s.machine = walked-done (length buf) n s.machine in
      record {
        says = ap listed_answer (sym e);
        leaves =
            λ m q.
            let both : went s.machine ≡ went m = sym e ∙ q in
            let same : s.machine ≡ m = cc in
            subst (Bound s b [] base env buf state text) same
            (record { held = s.held; sunk = s.sunk; kept = refl; shaped = shaped-none; words = nothing_written base env });
      }

pub all-bound : {t : List ℕ} {at left base sp : ℕ} {env : List ℕ} {buf : List ℤ} {state : Walk} {text : List ℕ} (n : ℕ) (g : Distributing t at left base sp env buf state text) → left ≡ 0
    → Distributed g.scene g.flags g.list n base env buf state text (Ok tt)
all-bound {t} {at} {left} {base} {sp} {env} {buf} {state} {text} n g z =
    subst (λ l. Distributed g.scene g.flags l n base env buf state text (Ok tt)) (none-listed g.scene.names t at left g.list g.lists z)
    (bound-none g.scene g.flags n base)

-- ---- one of them

module _ {t : List ℕ} {at left base sp : ℕ} {env : List ℕ} {buf : List ℤ} {state : Walk} {text : List ℕ} (g : Distributing t at left base sp env buf state text) (some_left : 0 < left) where
  abbrev pub the-first : First g.scene.names t at left g.list
  the-first = first g.scene.names t at left g.list g.lists some_left

  abbrev pub spreading : Spreading (variable_at t at) base sp env buf state text
  spreading =
      record {
        scene = g.scene;
        flags = g.flags;
        base = the-first.base;
        pointer = the-first.pointer;
        finds = the-first.finds;
        placed = g.placed;
        space = omega (arith, g.space);
        few = omega (arith, g.few);
      }

  module _ (n : ℕ) where
    first_code : walked (length buf) n (distrs g.flags (pointers g.list) g.scene.trees done) g.scene.machine
        ≡ onward (stepped (length buf) n (spread_by spreading) g.scene.machine)
        (walked (length buf) n (distrs g.flags (pointers the-first.others) g.scene.trees done))
    unfolding distrs
    first_code =
        ap (λ l. walked (length buf) n (distrs g.flags (pointers l) g.scene.trees done) g.scene.machine) (sym the-first.is)
        ∙ walked-define (length buf) n (spread_by spreading) _ g.scene.machine

    first-fed : feed (length g.scene.machine.store) (distrs g.flags (pointers g.list) g.scene.trees done) g.scene.sink
        ≡ feed (length g.scene.machine.store + 1) (distrs g.flags (pointers the-first.others) g.scene.trees done) (defined (length g.scene.machine.store) (spread_by spreading) g.scene.sink)
    unfolding distrs
    first-fed =
        ap (λ l. feed (length g.scene.machine.store) (distrs g.flags (pointers l) g.scene.trees done) g.scene.sink) (sym the-first.is)
        ∙ define-fed (length g.scene.machine.store) (spread_by spreading) _ g.scene.sink

    module _ {env₂ : List ℕ} {buf₁ : List ℤ} {state₁ : Walk} {text₁ : List ℕ} {r : Returned ℕ Refusal} (w : Spread spreading n env₂ buf₁ state₁ text₁ r) where
      pub first-stopped : {env' : List ℕ} {q : Refusal} → r ≡ Err q → Distributed g.scene g.flags g.list n base env' buf₁ state₁ text₁ (Err q)
      first-stopped {q = q} f =
          let s = stopping-as first_code (onward-stop _ (go (stepped (length buf) n (spread_by spreading) g.scene.machine) refl)) in
          record {
            says = ap Err s.refuses ∙ ap listed_answer (sym s.stops);
            leaves = λ m h. let both : stopped s.why s.where-at ≡ went m = sym s.stops ∙ h in never (cc);
          }
        where
          go : (x : Result) → stepped (length buf) n (spread_by spreading) g.scene.machine ≡ x → Stopping (stepped (length buf) n (spread_by spreading) g.scene.machine) q
          go (went m) h = let same : Err q ≡ Ok (len (data_of the-first.base (w.went_on m h).0)) = sym f ∙ (w.went_on m h).2 in never (cc)
          go (stopped why i) h =
              let same : Err q ≡ Err (refusal_of why i) = sym f ∙ w.gave-up why i h in
              record { why = why; where-at = i; stops = h; refuses = cc }

      pub record Gave : Type 0 where
        pub after : State
        pub went_to : stepped (length buf) n (spread_by spreading) g.scene.machine ≡ went after
        pub copies : List (Element the-first.base)
        pub store : after.store ≡ g.scene.machine.store ++ data_of the-first.base copies ∷ []
        pub held : Held after buf₁ state₁.machine
        pub behind : keeps after.store buf buf₁
        pub sunk : Sunk (defined (length g.scene.machine.store) (spread_by spreading) g.scene.sink) text₁ state₁.sink
        pub words : env₂ ≡ written base (byte_at t at ∷ 0 ∷ place_words (place after.store (length g.scene.machine.store))) env

      pub gave : {l : ℕ} → r ≡ Ok l → Gave
      gave {l} f = go (stepped (length buf) n (spread_by spreading) g.scene.machine) refl
        where
          go : (x : Result) → stepped (length buf) n (spread_by spreading) g.scene.machine ≡ x → Gave
          go (went m) h =
              let o = w.went_on m h in
              record { after = m; went_to = h; copies = o.0; store = o.1; held = o.3; behind = o.4; sunk = o.5; words = o.6 }
          go (stopped why i) h = let same : Ok l ≡ Err (refusal_of why i) = sym f ∙ w.gave-up why i h in never (cc)

      module _ {l : ℕ} (f : r ≡ Ok l) where
        abbrev pub copied : Gave
        copied = gave f

        entry : List ℕ
        entry = byte_at t at ∷ 0 ∷ place_words (place copied.after.store (length g.scene.machine.store))

        entry-written : env₂ ≡ written base entry env
        unfolding entry
        entry-written = copied.words

        pub same_above : (i : ℕ) → base + 5 ≤ i → i ≤ length env → drop i env₂ ≡ drop i env
        unfolding entry
        same_above i h m = ap (drop i) entry-written ∙ drop-written env base i entry h m

        pub same-long : length env₂ ≡ length env
        unfolding entry
        same-long = ap length entry-written ∙ length-written env base entry (omega (arith, g.space, g.scene.within))

        abbrev pub scene₂ : Scene env₂ sp buf₁ state₁ text₁
        scene₂ =
            later g.scene copied.after (data_of the-first.base copied.copies ∷ []) copied.store copied.held (same_above sp (omega (arith, g.space)) g.scene.within) same-long
            (defined (length g.scene.machine.store) (spread_by spreading) g.scene.sink) copied.sunk
            (like-defined g.scene.sink (length g.scene.machine.store) (spread_by spreading))

        pub next-is : length copied.after.store ≡ suc (length g.scene.machine.store)
        next-is = ap length copied.store ∙ (length-append g.scene.machine.store (data_of the-first.base copied.copies ∷ []) ∙ omega arith)

        pub others-placed : PlacedAt copied.after.store env₂ Flags g.flags (sp - 3)
        others-placed =
            placed-later (data_of the-first.base copied.copies ∷ []) g.placed copied.store (same_above (sp - 3) (omega (arith, g.space, some_left)) (omega (arith, g.scene.within)))

        abbrev pub others-ready : Distributing t (at + 1) (left - 1) (base + 5) sp env₂ buf₁ state₁ text₁
        others-ready =
            record {
              scene = scene₂;
              flags = g.flags;
              list = the-first.others;
              lists = the-first.lists;
              placed = others-placed;
              bytes = omega (arith, g.bytes);
              space = omega (arith, g.space);
              few = omega (arith, g.few, next-is);
            }

        rest-is : walked (length buf) n (distrs g.flags (pointers g.list) g.scene.trees done) g.scene.machine
            ≡ walked (length buf) n (distrs g.flags (pointers the-first.others) g.scene.trees done) copied.after
        rest-is = first_code ∙ onward-as _ copied.went_to

        -- the first entry and the others
        module _ {env₃ : List ℕ} {buf₃ : List ℤ} {state₃ : Walk} {text₃ : List ℕ} {m : State} (τ : Store) (more : m.store ≡ copied.after.store ++ τ)
            (b : Bound scene₂ g.flags the-first.others (base + 5) env₃ buf₃ state₃ text₃ m) where
          first-here : copied.after.store ! length g.scene.machine.store ≡ some (data_of the-first.base copied.copies)
          first-here = ap (λ σ. σ ! length g.scene.machine.store) copied.store ∙ newest g.scene.machine.store (data_of the-first.base copied.copies)

          first-place : place m.store (length g.scene.machine.store) ≡ place copied.after.store (length g.scene.machine.store)
          first-place =
              ap (λ σ. place σ (length g.scene.machine.store)) more
              ∙ place_kept copied.after.store τ (length g.scene.machine.store) (data_of the-first.base copied.copies) first-here

          others : List ℕ
          others = spelled (listed_names the-first.others) (places m.store (numbered (suc (length g.scene.machine.store)) (pointers the-first.others)))

          others-long : length others ≡ 5 * (left - 1)
          unfolding others
          others-long =
              length-entries the-first.others m.store (suc (length g.scene.machine.store))
              ∙ ap (λ i. 5 * i)
              (length-listed g.scene.names (variables_at t (at + 1) (left - 1)) the-first.others the-first.lists ∙ length-variables t (at + 1) (left - 1))

          words_are : env₃ ≡ written base (entry ++ others) env
          unfolding entry others
          words_are =
              b.words
              ∙ (ap (λ i. written (base + 5) (spelled (listed_names the-first.others) (places m.store (numbered i (pointers the-first.others)))) env₂) next-is
              ∙ (ap (written (base + 5) others) entry-written
              ∙ written_then_lem env base entry others (base + 5) refl (omega (arith, others-long, g.space, g.scene.within))))

          all-sunk : Sunk (feed (length g.scene.machine.store) (distrs g.flags (pointers g.list) g.scene.trees done) g.scene.sink) text₃ state₃.sink
          all-sunk =
              let one : suc (length g.scene.machine.store) ≡ length g.scene.machine.store + 1 = omega arith in
              subst (λ k. Sunk k text₃ state₃.sink)
              (ap (λ i. feed i (distrs g.flags (pointers the-first.others) g.scene.trees done) (defined (length g.scene.machine.store) (spread_by spreading) g.scene.sink)) (next-is ∙ one)
              ∙ sym first-fed)
              b.sunk

          both-bound : Bound g.scene g.flags ((variable_at t at, (the-first.base, the-first.pointer)) ∷ the-first.others) base env₃ buf₃ state₃ text₃ m
          unfolding entry others numbered listed_names places spelled tree_words map_tree
          both-bound =
              record {
                held = b.held;
                sunk =
                    subst (λ i. Sunk (feed (length g.scene.machine.store) (distrs g.flags (pointers i) g.scene.trees done) g.scene.sink) text₃ state₃.sink) (sym the-first.is) all-sunk;
                kept = keeps_then copied.after.store τ m.store buf buf₁ buf₃ copied.behind b.kept more;
                shaped =
                    shaped-more
                    (shapely-leaf copied.copies
                    (ap (λ σ. σ ! length g.scene.machine.store) more ∙ kept copied.after.store τ (length g.scene.machine.store) (data_of the-first.base copied.copies) first-here))
                    (subst (λ i. Shaped m.store (listed_types (any_type (pointers the-first.others))) (numbered i (pointers the-first.others))) next-is b.shaped);
                words = words_are ∙ ap (λ q. written base (byte_at t at ∷ 0 ∷ (place_words q ++ others)) env) (sym first-place);
              }

        pub distributed : {env₃ : List ℕ} {buf₃ : List ℤ} {state₃ : Walk} {text₃ : List ℕ} {q : Returned Unit Refusal} → length buf₁ ≡ length buf
            → Distributed scene₂ g.flags the-first.others n (base + 5) env₃ buf₃ state₃ text₃ q
            → Distributed g.scene g.flags g.list n base env₃ buf₃ state₃ text₃ q
        distributed {env₃} {buf₃} {state₃} {text₃} {q} long v =
            let same : walked (length buf) n (distrs g.flags (pointers g.list) g.scene.trees done) g.scene.machine
            ≡ walked (length buf₁) n (distrs g.flags (pointers the-first.others) g.scene.trees done) copied.after =
            rest-is ∙ ap (λ c. walked c n (distrs g.flags (pointers the-first.others) g.scene.trees done) copied.after) (sym long) in
            record {
              says = v.says ∙ ap listed_answer (sym same);
              leaves =
                  λ m e.
                  let gr = walked-grown (length buf₁) n _ copied.after m (sym same ∙ e) in
                  subst (λ i. Bound g.scene g.flags i base env₃ buf₃ state₃ text₃ m) the-first.is
                  (both-bound gr.streams gr.store (v.leaves m (sym same ∙ e)));
            }

-- ---- the loop

-- What is left to distribute, and that with it all is done.
pub record Rest {t : List ℕ} {at₀ left₀ base₀ sp : ℕ} {env₀ : List ℕ} {buf₀ : List ℤ} {state₀ : Walk} {text₀ : List ℕ} (g : Distributing t at₀ left₀ base₀ sp env₀ buf₀ state₀ text₀) (n : ℕ)
    (at left base : ℕ) (env : List ℕ) (buf : List ℤ) (state : Walk) (text : List ℕ) : Type 0 where
  pub left_over : Distributing t at left base sp env buf state text
  pub whole : {env' : List ℕ} {buf' : List ℤ} {state' : Walk} {text' : List ℕ} {q : Returned Unit Refusal} → Distributed left_over.scene left_over.flags left_over.list n base env' buf' state' text' q
      → Distributed g.scene g.flags g.list n base₀ env' buf' state' text' q

module _ {t : List ℕ} {at₀ left₀ base₀ sp : ℕ} {env₀ : List ℕ} {buf₀ : List ℤ} {state₀ : Walk} {text₀ : List ℕ} (g : Distributing t at₀ left₀ base₀ sp env₀ buf₀ state₀ text₀) (n : ℕ) where
  -- Rests whose numbers are the same.
  rest-as : {at at' left left' base base' : ℕ} {env : List ℕ} {buf : List ℤ} {state : Walk} {text : List ℕ} → at ≡ at' → left ≡ left' → base ≡ base'
      → Rest g n at left base env buf state text → Rest g n at' left' base' env buf state text
  rest-as {env = env} {buf} {state} {text} p q r h = transport (λ i. Rest g n (p i) (q i) (r i) env buf state text) h

  pub rest-start : {at left base : ℕ} → at ≡ at₀ → left ≡ left₀ → base ≡ base₀ → Rest g n at left base env₀ buf₀ state₀ text₀
  rest-start p q r = rest-as (sym p) (sym q) (sym r) (record { left_over = g; whole = λ d. d })

  module _ {at left base : ℕ} {env : List ℕ} {buf : List ℤ} {state : Walk} {text : List ℕ} (h : Rest g n at left base env buf state text) where
    pub rest-done : left ≤ 0 → Distributed g.scene g.flags g.list n base₀ env buf state text (Ok tt)
    rest-done z = h.whole (all-bound n h.left_over (omega arith))

    module _ (some_left : 0 < left) {env₁ : List ℕ} {buf₁ : List ℤ} {state₁ : Walk} {text₁ : List ℕ} {r : Returned ℕ Refusal} (w : Spread (spreading h.left_over some_left) n env₁ buf₁ state₁ text₁ r) where
      pub rest-stopped : {q : Refusal} → r ≡ Err q → Distributed g.scene g.flags g.list n base₀ env₁ buf₁ state₁ text₁ (Err q)
      rest-stopped f = h.whole (first-stopped h.left_over some_left n w f)

      pub rest-turn : {l at' left' base' : ℕ} → r ≡ Ok l → length buf₁ ≡ length buf → at + 1 ≡ at' → left - 1 ≡ left' → base + 5 ≡ base' → Rest g n at' left' base' env₁ buf₁ state₁ text₁
      rest-turn f long p q r =
          rest-as p q r
          (record {
            left_over = others-ready h.left_over some_left n w f;
            whole = λ d. h.whole (distributed h.left_over some_left n w f long d);
          })
