-- Iota's instructions behind its flags: their units, a one for each of these under their own control, and the ones added up.
use Prim.Native.Nat.{ℕ, ◌+◌, ◌-◌, ◌≤◌, ◌<◌}
use mathlib.Core.List.{List, [], ◌∷◌, ◌++◌, append_assoc}
use mathlib.Core.Option.{some}
use mathlib.Core.Path.{◌≡◌, refl, sym, ◌∙◌, ap, ap₂, subst}
use native.Mathlib.Omega.{arith}
use lib.IntN.{ℤ, pos}
use lib.ListN.{length, get_or, drop, length-append}
use Rattle.laws.proofs.Never.{never}
use Rattle.laws.specs.Parts.{part, written}
use Rattle.snesl.specs.declared.code.Instruction.TheVariants.{Close}
use Rattle.snesl.specs.declared.code.Kind.{Kind}
use Rattle.snesl.specs.declared.code.Kind.TheVariants.{Ints}
use Rattle.snesl.specs.declared.code.Transducer.{Transducer}
use Rattle.snesl.specs.declared.code.Transducer.TheVariants.{Const, Usum, ScanPlus}
use Rattle.snesl.specs.declared.code.Base.TheVariants as base
use Rattle.snesl.specs.declared.refusal.Refusal.{Refusal}
use Rattle.snesl.specs.Streams.{ints, units, len, Store, ◌!◌}
use Rattle.snesl.specs.Programs.{define, done, ◌⨾◌}
use Rattle.snesl.specs.Machine.{State, Result, went, stopped, onward}
use Rattle.snesl.specs.Outcome.{refusal_of}
use Rattle.snesl.specs.Translation.{id}
use Rattle.environment.specs.Words.{place_words}
use Rattle.environment.proofs.Stack.{part-drop, drop-written, at-written}
use Rattle.sink.specs.declared.state.Sink as lent
use Rattle.sink.specs.declared.state.Walk.{Walk}
use Rattle.sink.specs.Sinks.{Sink, defined, opened, feed, told}
use Rattle.sink.specs.Sunk.{Sunk}
use Rattle.steps.specs.Walking.{stepped, walked}
use Rattle.steps.specs.Holding.{Held, keeps, place, PlacedAt, Stopping}
use Rattle.steps.specs.declared.Operands.{Operands}
use Rattle.std.specs.Prelude.{Ok, Err, Result as Returned}
use Rattle.steps.proofs.Stores.{kept, newest}
use Rattle.steps.proofs.Stepping.{added, units_of_lem, ints_of}
use Rattle.steps.proofs.Walking.{walked-define, walked-with, walked_one}
use Rattle.steps.proofs.Executing.{next-id}
use Rattle.steps.proofs.Performing.{stopping-as}
use Rattle.leaves.specs.Making.{Makes, Instructed}
use Rattle.leaves.specs.Arms.{Bare, filling, Filled, Flagged, counting_up, Counted}
use Rattle.leaves.proofs.Told.{counting-fed}
use Rattle.leaves.proofs.Places.{place_kept}
use Rattle.leaves.proofs.Growing.{keeps_then, onward-as, onward-stop}
use Rattle.leaves.proofs.Making.{Making, making, stopping}
use Rattle.leaves.proofs.Singles.{pushable, pushed-words, items, items-stored, items-long}

abbrev ones : Transducer
ones = Const (pos 1)

abbrev scan : ℕ → Transducer
scan a = ScanPlus (pos 0) (id a) (id (a + 2))

-- ---- the ones

module _ {sp : ℕ} {env : List ℕ} {buf : List ℤ} {state : Walk} {text : List ℕ} {m : State} {k : Sink} (g : Bare sp env buf state text m k) where
  pub some-streams : 1 ≤ state.machine.streams
  some-streams = omega (arith, next-id g.held, g.some)

  module _ {sink₁ : lent.Sink} {text₁ : List ℕ} (o : Sunk (opened (state.machine.streams ∷ []) (state.machine.streams - 1) [] k) text₁ sink₁) where
    abbrev after-opening : Sink
    after-opening = opened (length m.store ∷ []) (length m.store - 1) [] k

    open-sunk : Sunk after-opening text₁ sink₁
    open-sunk = subst (λ s. Sunk (opened (s ∷ []) (s - 1) [] k) text₁ sink₁) (next-id g.held) o

    pub ones-ready : (at : Operands) → Makes (Const (pos 1)) at env buf (record { machine = state.machine; sink = sink₁ }) text₁ m (opened (length m.store ∷ []) (length m.store - 1) [] k)
    ones-ready at =
        record { executable = record { held = g.held; base = base.Int; placed = tt; more = omega (arith, g.few) }; sunk = open-sunk }

    module _ (units : ℕ) {new : List ℤ} {state₂ : Walk} {text₂ : List ℕ} {r : Returned ℕ Refusal}
        (p : Instructed (stepped (length buf) units (Const (pos 1)) m) (Const (pos 1)) m (opened (length m.store ∷ []) (length m.store - 1) [] k) buf new state₂ text₂ r) where
      pub fill-stopped : {env' : List ℕ} {q : Refusal} → r ≡ Err q
          → Filled (stepped (length buf) units (Const (pos 1)) m) m k sp env env' buf new state₂ text₂ (Err q)
      fill-stopped {q = q} e =
          let s = stopping (length buf) units ones p q e in
          record {
            went_on = λ m' f. let both : stopped s.why s.where-at ≡ went m' = sym s.stops ∙ f in never (cc);
            gave-up = λ why i f. sym e ∙ p.gave-up why i f;
          }

      module _ {made : ℕ} (e : r ≡ Ok made) where
        one : Making (length buf) units ones m after-opening buf new state₂ text₂ made
        one = making (length buf) units ones p made e

        pub close-sunk : (j : Sink) × Sunk j text₂ state₂.sink
        close-sunk = (_, one.sunk)

        module _ {sink₃ : lent.Sink} {text₃ : List ℕ} (c : (j : Sink) → Sunk j text₂ state₂.sink → Sunk (told Close j) text₃ sink₃) where
          pub fill-push : (1 ≤ state₂.machine.streams) × (state₂.machine.streams < 4294967296) × (made ≤ state₂.machine.room) × (state₂.machine.room < 4294967296)
          fill-push = pushable one.held m.store (ints (items one base.Int refl)) (items-stored one base.Int refl) refl (items-long one base.Int refl)

          pub fill-made : {env' : List ℕ} → env' ≡ written (sp - 3) ((state₂.machine.streams - 1) ∷ (state₂.machine.room - made) ∷ made ∷ []) env
              → Filled (stepped (length buf) units (Const (pos 1)) m) m k sp env env' buf new (record { machine = state₂.machine; sink = sink₃ }) text₃ (Ok made)
          fill-made {env'} w =
              record {
                went_on =
                    λ m' f.
                    let both : went one.after ≡ went m' = sym one.went_to ∙ f in
                    let same : one.after ≡ m' = cc in
                    subst
                    (λ q.
                    (zs : List ℤ) × (q.store ≡ m.store ++ ints zs ∷ []) × ◌≡◌ {A = Returned ℕ Refusal} (Ok made) (Ok (length zs)) × Held q new state₂.machine × keeps q.store buf new
                    × Sunk (filling (length m.store) k) text₃ sink₃ × (env' ≡ written (sp - 3) (place_words (place q.store (length m.store))) env))
                    same (
                      items one base.Int refl,
                      items-stored one base.Int refl,
                      ap Ok (items-long one base.Int refl),
                      one.held,
                      one.kept,
                      c _ one.sunk,
                      w ∙ ap (λ l. written (sp - 3) l env) (pushed-words one.held m.store (ints (items one base.Int refl)) (items-stored one base.Int refl) refl (items-long one base.Int refl)),
                    );
                gave-up = λ why i f. sym e ∙ p.gave-up why i f;
              }

-- ---- the program, step by step

module _ (cap n a : ℕ) where
  under : (x : Result) → onward x (walked cap n (define (scan a) done)) ≡ onward x (stepped cap n (scan a))
  under (went m₂) = walked_one cap n (scan a) m₂
  under (stopped why s) = refl

  -- after the units
  module _ (m m₁ : State) (e : stepped cap n (Usum (id a)) m ≡ went m₁) (k : ℕ) (u : m₁.store ! (a + 1) ≡ some (units k)) (z : n ≡ 0 → k ≡ 0) where
    after-units : walked cap n (counting_up a) m ≡ onward (stepped cap k ones m₁) (stepped cap n (scan a))
    unfolding ◌⨾◌
    after-units =
        walked-define cap n (Usum (id a)) _ m
        ∙ (onward-as (walked cap n _) e
        ∙ (walked-with cap n k _ (a + 1) _ (define ones done) (define (scan a) done) m₁ u z
        ∙ (under (walked cap k (define ones done) m₁) ∙ ap (λ y. onward y (stepped cap n (scan a))) (walked_one cap k ones m₁))))

-- an operand keeps its place while the store grows and words are written below it
pub placed-later : {σ : Store} (τ : Store) {ρ : Store} {env env' : List ℕ} {c : Kind} {s p : ℕ} → PlacedAt σ env c s p → ρ ≡ σ ++ τ → drop p env' ≡ drop p env → PlacedAt ρ env' c s p
placed-later {σ} τ {ρ} {env} {env'} {c} {s} {p} o e d =
    record {
      stream = o.stream;
      there = ap (λ χ. χ ! s) e ∙ kept σ τ s o.stream o.there;
      kind = o.kind;
      words = part-drop env' env p 3 d ∙ (o.words ∙ ap place_words (sym (ap (λ χ. place χ s) e ∙ place_kept σ τ s o.stream o.there)));
    }

-- a stop on the way
counted_stop : {res : Result} {k : Sink} {m : State} {sp : ℕ} {env env' : List ℕ} {old new : List ℤ} {state : Walk} {text : List ℕ} {q : Refusal} → Stopping res q
    → Counted res k m sp env env' old new state text (Err q)
counted_stop s =
    record {
      went_on = λ m' e. let both : stopped s.why s.where-at ≡ went m' = sym s.stops ∙ e in never (cc);
      gave-up =
          λ why i e.
          let both : stopped s.why s.where-at ≡ stopped why i = sym s.stops ∙ e in
          let w : s.why ≡ why = cc in
          let j : s.where-at ≡ i = cc in
          ap Err (s.refuses ∙ ap₂ refusal_of w j);
    }

module _ (n : ℕ) {a sp : ℕ} {env : List ℕ} {buf : List ℤ} {state : Walk} {text : List ℕ} {m : State} {k : Sink} (g : Flagged a sp env buf state text m k) where
  pub flags-id : state.machine.streams - 1 ≡ a
  flags-id = omega (arith, next-id g.held, g.newest)

  pub some_id : 1 ≤ state.machine.streams
  some_id = omega (arith, next-id g.held, g.newest)

  pub units-ready : (q : ℕ) {i : ℕ} → i ≡ a → Makes (Usum (id i)) (record { first = sp - 3; second = q }) env buf state text m k
  units-ready q e =
      subst (λ i. Makes (Usum (id i)) (record { first = sp - 3; second = q }) env buf state text m k) (sym e)
      (record { executable = record { held = g.held; base = base.Int; placed = (g.flagged, tt); more = omega (arith, g.few) }; sunk = g.sunk })

  module _ {b : ℕ} (b-is : b ≡ a) {buf₁ : List ℤ} {state₁ : Walk} {text₁ : List ℕ} {r₁ : Returned ℕ Refusal}
      (p₁ : Instructed (stepped (length buf) n (Usum (id b)) m) (Usum (id b)) m k buf buf₁ state₁ text₁ r₁) (long : length buf₁ ≡ length buf) where
    abbrev pub units-so : Instructed (stepped (length buf) n (Usum (id a)) m) (Usum (id a)) m k buf buf₁ state₁ text₁ r₁
    units-so = subst (λ i. Instructed (stepped (length buf) n (Usum (id i)) m) (Usum (id i)) m k buf buf₁ state₁ text₁ r₁) b-is p₁

    pub units-stopped : {env' : List ℕ} {q : Refusal} → r₁ ≡ Err q
        → Counted (walked (length buf) n (counting_up a) m) (feed (a + 1) (counting_up a) k) m sp env env' buf buf₁ state₁ text₁ (Err q)
    units-stopped {q = q} e =
        counted_stop
        (stopping-as (walked-define (length buf) n (Usum (id a)) _ m)
        (onward-stop (walked (length buf) n _) (stopping (length buf) n (Usum (id a)) units-so q e)))

    module _ {i : ℕ} (e₁ : r₁ ≡ Ok i) where
      abbrev pub counted : Making (length buf) n (Usum (id a)) m k buf buf₁ state₁ text₁ i
      counted = making (length buf) n (Usum (id a)) units-so i e₁

      units-are : counted.added-to.stream ≡ units i
      units-are = let o = units_of_lem counted.added-to.stream counted.added-to.kind in o.1 ∙ ap units (sym (counted.long ∙ ap len o.1))

      units-stored : counted.after.store ≡ m.store ++ units i ∷ []
      units-stored = counted.added-to.store ∙ ap (λ c. m.store ++ c ∷ []) units-are

      units-there : counted.after.store ! (a + 1) ≡ some (units i)
      units-there = ap (λ σ. σ ! (a + 1)) units-stored ∙ (ap (λ c. (m.store ++ units i ∷ []) ! c) (sym g.newest) ∙ newest m.store (units i))

      units-quiet : n ≡ 0 → i ≡ 0
      units-quiet z = counted.long ∙ ap len (counted.added-to.quiet z)

      next_one : length counted.after.store ≡ a + 2
      next_one = ap length units-stored ∙ (length-append m.store (units i ∷ []) ∙ omega (arith, g.newest))

      pub fill-ready : Bare (sp - 3) env buf₁ state₁ text₁ counted.after (defined (length m.store) (Usum (id a)) k)
      fill-ready =
          record {
            held = counted.held;
            sunk = counted.sunk;
            some = omega (arith, next_one);
            few = omega (arith, next_one, g.newest, g.few);
            low = omega (arith, g.low);
            high = omega (arith, g.high);
          }

      then-ones : walked (length buf) n (counting_up a) m ≡ onward (stepped (length buf₁) i ones counted.after) (stepped (length buf) n (scan a))
      then-ones =
          after-units (length buf) n a m counted.after counted.went_to i units-there units-quiet
          ∙ ap (λ c. onward (stepped c i ones counted.after) (stepped (length buf) n (scan a))) (sym long)

      module _ {env₂ : List ℕ} {buf₂ : List ℤ} {state₂ : Walk} {text₂ : List ℕ} {r₂ : Returned ℕ Refusal}
          (p₂ : Filled (stepped (length buf₁) i (Const (pos 1)) counted.after) counted.after (defined (length m.store) (Usum (id a)) k) (sp - 3) env env₂ buf₁ buf₂ state₂ text₂ r₂) where
        pub ones-stopped : {env' : List ℕ} {q : Refusal} → r₂ ≡ Err q
            → Counted (walked (length buf) n (counting_up a) m) (feed (a + 1) (counting_up a) k) m sp env env' buf buf₂ state₂ text₂ (Err q)
        ones-stopped {q = q} e = counted_stop (stopping-as then-ones (onward-stop (stepped (length buf) n (scan a)) (go (stepped (length buf₁) i ones counted.after) refl)))
          where
            go : (x : Result) → stepped (length buf₁) i ones counted.after ≡ x → Stopping (stepped (length buf₁) i ones counted.after) q
            go (went m') f = let same : Err q ≡ Ok (length (p₂.went_on m' f).0) = sym e ∙ (p₂.went_on m' f).2 in never (cc)
            go (stopped why s) f =
                let same : Err q ≡ Err (refusal_of why s) = sym e ∙ p₂.gave-up why s f in
                record { why = why; where-at = s; stops = f; refuses = cc }

        pub record Ones : Type 0 where
          pub after : State
          pub went_to : stepped (length buf₁) i ones counted.after ≡ went after
          pub zs : List ℤ
          pub store : after.store ≡ counted.after.store ++ ints zs ∷ []
          pub held : Held after buf₂ state₂.machine
          pub behind : keeps after.store buf₁ buf₂
          pub sunk : Sunk (filling (length counted.after.store) (defined (length m.store) (Usum (id a)) k)) text₂ state₂.sink
          pub words : env₂ ≡ written (sp - 3 - 3) (place_words (place after.store (length counted.after.store))) env

        module _ {l : ℕ} (e₂ : r₂ ≡ Ok l) where
          abbrev pub o : Ones
          o = go (stepped (length buf₁) i ones counted.after) refl
            where
              go : (x : Result) → stepped (length buf₁) i ones counted.after ≡ x → Ones
              go (went m') f =
                  let w = p₂.went_on m' f in
                  record { after = m'; went_to = f; zs = w.0; store = w.1; held = w.3; behind = w.4; sunk = w.5; words = w.6 }
              go (stopped why s) f = let same : Ok l ≡ Err (refusal_of why s) = sym e₂ ∙ p₂.gave-up why s f in never (cc)

          all-stored : o.after.store ≡ m.store ++ (units i ∷ ints o.zs ∷ [])
          all-stored =
              o.store ∙ (ap (λ σ. σ ++ ints o.zs ∷ []) units-stored ∙ append_assoc m.store (units i ∷ []) (ints o.zs ∷ []))

          next-two : length o.after.store ≡ a + 3
          next-two = ap length o.store ∙ (length-append counted.after.store (ints o.zs ∷ []) ∙ omega (arith, next_one))

          six : sp - 3 - 3 ≡ sp - 6
          six = omega arith

          ones-words : List ℕ
          ones-words = place_words (place o.after.store (length counted.after.store))

          flags-behind : drop (sp - 3) env₂ ≡ drop (sp - 3) env
          unfolding ones-words
          flags-behind = ap (drop (sp - 3)) o.words ∙ drop-written env (sp - 3 - 3) (sp - 3) ones-words (omega (arith, g.low)) (omega (arith, g.high))

          ones-placed : PlacedAt o.after.store env₂ Ints (a + 2) (sp - 6)
          unfolding ones-words
          ones-placed =
              record {
                stream = ints o.zs;
                there = ap (λ σ. σ ! (a + 2)) o.store ∙ (ap (λ c. (counted.after.store ++ ints o.zs ∷ []) ! c) (sym next_one) ∙ newest counted.after.store (ints o.zs));
                kind = refl;
                words =
                    ap (λ c. part c 3 env₂) (sym six)
                    ∙ (ap (part (sp - 3 - 3) 3) o.words
                    ∙ (at-written env (sp - 3 - 3) ones-words (omega (arith, g.low, g.high)) ∙ ap (λ c. place_words (place o.after.store c)) next_one));
              }

          pub scan-ready : {c d : ℕ} → c ≡ a → d ≡ a + 2
              → Makes (ScanPlus (pos 0) (id c) (id d)) (record { first = sp - 3; second = sp - 6 }) env₂ buf₂ state₂ text₂ o.after (filling (length counted.after.store) (defined (length m.store) (Usum (id a)) k))
          scan-ready {c} {d} c-is d-is =
              let j : Sink = filling (length counted.after.store) (defined (length m.store) (Usum (id a)) k) in
              subst (λ x. Makes (ScanPlus (pos 0) (id c) (id x)) (record { first = sp - 3; second = sp - 6 }) env₂ buf₂ state₂ text₂ o.after j) (sym d-is)
              (subst (λ x. Makes (ScanPlus (pos 0) (id x) (id (a + 2))) (record { first = sp - 3; second = sp - 6 }) env₂ buf₂ state₂ text₂ o.after j) (sym c-is)
              (record {
                executable =
                    record {
                      held = o.held;
                      base = base.Int;
                      placed = (placed-later (units i ∷ ints o.zs ∷ []) g.flagged all-stored flags-behind, (ones-placed, tt));
                      more = omega (arith, next-two, g.newest, g.few);
                    };
                sunk = o.sunk;
              }))

          then-scan : length buf₂ ≡ length buf₁ → walked (length buf) n (counting_up a) m ≡ stepped (length buf₂) n (scan a) o.after
          then-scan long₂ =
              then-ones
              ∙ (onward-as (stepped (length buf) n (scan a)) o.went_to ∙ ap (λ c. stepped c n (scan a) o.after) (sym (long₂ ∙ long)))

          sink-is : defined (length o.after.store) (scan a) (filling (length counted.after.store) (defined (length m.store) (Usum (id a)) k)) ≡ feed (a + 1) (counting_up a) k
          sink-is =
              (λ x. defined (next-two x) (scan a) (filling (next_one x) (defined (g.newest x) (Usum (id a)) k))) ∙ sym (counting-fed a k)

          pub scanned : {c d : ℕ} → c ≡ a → d ≡ a + 2 → {buf₃ : List ℤ} {state₃ : Walk} {text₃ : List ℕ} {r : Returned ℕ Refusal} → length buf₂ ≡ length buf₁
              → Instructed (stepped (length buf₂) n (ScanPlus (pos 0) (id c) (id d)) o.after) (ScanPlus (pos 0) (id c) (id d)) o.after
              (filling (length counted.after.store) (defined (length m.store) (Usum (id a)) k)) buf₂ buf₃ state₃ text₃ r
              → Counted (walked (length buf) n (counting_up a) m) (feed (a + 1) (counting_up a) k) m sp env env₂ buf buf₃ state₃ text₃ r
          scanned {c} {d} c-is d-is {buf₃} {state₃} {text₃} {r} long₂ q =
              let j : Sink = filling (length counted.after.store) (defined (length m.store) (Usum (id a)) k) in
              let p : Instructed (stepped (length buf₂) n (scan a) o.after) (scan a) o.after j buf₂ buf₃ state₃ text₃ r =
              subst (λ x. Instructed (stepped (length buf₂) n (ScanPlus (pos 0) (id a) (id x)) o.after) (ScanPlus (pos 0) (id a) (id x)) o.after j buf₂ buf₃ state₃ text₃ r) d-is
              (subst (λ x. Instructed (stepped (length buf₂) n (ScanPlus (pos 0) (id x) (id d)) o.after) (ScanPlus (pos 0) (id x) (id d)) o.after j buf₂ buf₃ state₃ text₃ r) c-is q) in
              record {
                went_on =
                    λ m' e.
                    let w = added (length buf₂) n (scan a) o.after m' (sym (then-scan long₂) ∙ e) in
                    let z = ints_of w.stream w.kind in
                    let stored : m'.store ≡ o.after.store ++ ints z.0 ∷ [] = w.store ∙ ap (λ b. o.after.store ++ b ∷ []) z.1 in
                    let b = p.went_on m' (ints z.0) (sym (then-scan long₂) ∙ e) stored in
                    let since-ones : keeps m'.store buf₁ buf₃ =
                    keeps_then o.after.store (ints z.0 ∷ []) m'.store buf₁ buf₂ buf₃ o.behind b.2 stored in
                    let since-units : keeps m'.store buf buf₃ =
                    keeps_then counted.after.store (ints o.zs ∷ ints z.0 ∷ []) m'.store buf buf₁ buf₃ counted.kept since-ones
                    (stored ∙ (ap (λ σ. σ ++ ints z.0 ∷ []) o.store ∙ append_assoc counted.after.store (ints o.zs ∷ []) (ints z.0 ∷ []))) in (
                      units i ∷ ints o.zs ∷ [],
                      z.0,
                      stored ∙ ap (λ σ. σ ++ ints z.0 ∷ []) all-stored,
                      refl,
                      b.0,
                      b.1,
                      since-units,
                      subst (λ x. Sunk x text₃ state₃.sink) sink-is b.3,
                      flags-behind,
                    );
                gave-up = λ why x e. p.gave-up why x (sym (then-scan long₂) ∙ e);
              }
