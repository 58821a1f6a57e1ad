-- The survey of a packing before its WithCtrl's line: under no units nothing is executed, so the machine is as it was once the next id is.
use Prim.Native.Nat.{ℕ, suc, ◌+◌, ◌-◌, ◌≤◌, ◌<◌}
use mathlib.Core.List.Memᴰ
use mathlib.Core.List.{List, [], ◌∷◌, ◌++◌, append-nil}
use mathlib.Core.Logic.{⊎_elim}
use mathlib.Core.Path.{◌≡◌, refl, sym, ◌∙◌, ap, subst}
use native.Mathlib.Omega.{arith}
use lib.IntN.{ℤ}
use lib.ListN.{length, get_or, take, drop, length-append}
use lib.Seq.{get_or-drop}
use Rattle.std.specs.Prelude.{false, is_ok, Result as Returned}
use Rattle.laws.proofs.Never.{never}
use Rattle.laws.proofs.Parts.{length_part}
use Rattle.laws.specs.Parts.{part, written}
use Rattle.snesl.specs.declared.code.Base.{Base}
use Rattle.snesl.specs.declared.code.Kind.{Kind}
use Rattle.snesl.specs.declared.code.Kind.TheVariants.{Ints, Bools, Flags, Units}
use Rattle.snesl.specs.declared.refusal.Refusal.{Refusal}
use Rattle.snesl.specs.Trees.{Tree, leaf, node, order, map_tree}
use Rattle.snesl.specs.Streams.{Store, bare, elements, contents, room}
use Rattle.snesl.specs.Transducers.{signature, carried, empty}
use Rattle.snesl.specs.Programs.{Program, done, define, with_ctrl, count, dv, fv, among, ascending}
use Rattle.snesl.specs.Machine.{State, went, skipped, skip}
use Rattle.snesl.specs.Ids.{Below}
use Rattle.snesl.specs.Translation.{pack_tree, pack_code}
use Rattle.environment.specs.Words.{tree_words, tree_size}
use Rattle.environment.proofs.Stack.{part-drop, drop-above, at-written}
use Rattle.environment.proofs.Finding.{length-tree}
use Rattle.sink.specs.declared.state.Walk.{Walk}
use Rattle.sink.specs.declared.state.Mode.{Mode}
use Rattle.sink.specs.declared.state.Mode.TheVariants.{Running, Listing, Surveying}
use Rattle.sink.specs.declared.state.Sink as lent
use Rattle.sink.specs.Sinks.{Sink, opened, feed, surveyed}
use Rattle.sink.specs.Sunk.{Sunk, Tells, Opening, opening, back_to, Opens}
use Rattle.sink.proofs.Feeding.{opened-by}
use Rattle.sink.proofs.Tidy.{Surveyable}
use Rattle.sink.proofs.Packs.{pack-surveyable}
use Rattle.sink.proofs.Surveying.{surveyed-mode, surveyed-own, opening_of}
use Rattle.steps.specs.Walking.{walked}
use Rattle.steps.specs.Holding.{place, counters, Held}
use Rattle.steps.proofs.Stores.{contents-append, named}
use Rattle.steps.proofs.Walking.{walked-grown}
use Rattle.steps.proofs.Executing.{next-id}
use Rattle.guards.specs.Packs.{Packs, pack_answer, Leaves, Ends, opens, Opened}
use Rattle.guards.specs.declared.Packing.{Packing}
use Rattle.guards.proofs.Words.{itself}
use Rattle.guards.proofs.Growth.{kinds-below}

-- ---- the streams of a program that is not run take no room

bare-none : (k : Kind) → elements (bare k) ≡ []
bare-none Ints = refl
bare-none Bools = refl
bare-none Flags = refl
bare-none Units = refl

skipped-none : (σ : Store) (p : Program) → contents (skipped σ p) ≡ []
unfolding skipped contents
skipped-none σ done = refl
skipped-none σ (define t p) =
    ap (λ l. l ++ contents (skipped (σ ++ empty σ t ∷ []) p)) (bare-none (signature (carried σ t) t).output) ∙ skipped-none (σ ++ empty σ t ∷ []) p
skipped-none σ (with_ctrl outs c ins b p) =
    contents-append (skipped σ b) (skipped (σ ++ skipped σ b) p)
    ∙ (ap (λ l. l ++ contents (skipped (σ ++ skipped σ b) p)) (skipped-none σ b) ∙ skipped-none (σ ++ skipped σ b) p)

skipped-contents : (p : Program) (σ : Store) → contents (σ ++ skipped σ p) ≡ contents σ
skipped-contents p σ = contents-append σ (skipped σ p) ∙ (ap (λ l. contents σ ++ l) (skipped-none σ p) ∙ append-nil (contents σ))

length-order : {d : ℕ} (t : Tree ℕ d) → length (order t) ≡ suc d
unfolding order
length-order (leaf x) = refl
length-order (node t f) = length-append (order t) (f ∷ []) ∙ omega (arith, length-order t)

-- ---- the mode

module _ {k : Sink} {text : List ℕ} {w : lent.Sink} (s : Sunk k text w) where
  -- a sink that doesn't list is left alone by an opening
  not-told : (w.mode ≡ Listing → ⊥) → (outs : List ℕ) (c : ℕ) (ins : List ℕ) → k ≡ opened outs c ins k
  not-told f outs c ins = go k.mode refl
    where
      go : (m : Mode) → k.mode ≡ m → k ≡ opened outs c ins k
      go Running e = sym (opened-by k e outs c ins)
      go Listing e = absurd (f (s.mode-is ∙ e))
      go Surveying e = sym (opened-by k e outs c ins)

  lists : w.mode ≡ Listing → k.mode ≡ Listing
  lists f = sym s.mode-is ∙ f

-- ---- the survey

module _ {p : Packing} {d : ℕ} {t : Tree ℕ d} {b : ℕ} {c : Base} {m : State} {k : Sink} {env : List ℕ} {buf : List ℤ} {state : Walk} {text : List ℕ} (g : Packs p t b c m k env buf state text) where
  abbrev start : ℕ
  start = length m.store

  abbrev body : Program
  body = pack_code b t start

  fits : p.to + tree_size d ≤ length env
  fits = omega (arith, g.apart, g.within)

  pub no_line : (state.sink.mode ≡ Listing → ⊥) → Opened p t b m k env env buf buf state text
  no_line f =
      record {
        held = g.held;
        sunk = subst (λ j. Sunk j text state.sink) (not-told g.sunk f (ascending (among (order (pack_tree t start)) (dv start body))) (start - 1) (ascending (fv start body))) g.sunk;
        kept = refl;
        scratch = part p.to (tree_size d) env;
        scratch-long = length_part p.to (tree_size d) env fits;
        words = ap (drop p.low) (itself p.to (tree_size d) env fits);
      }

  -- the control is the stream made last
  pub some-streams : 1 ≤ state.machine.streams
  some-streams = omega (arith, named m.store b g.placed.stream g.placed.there, next-id g.held)

  module _ (list : state.sink.mode ≡ Listing) {state₁ : Walk} (bg : (text : List ℕ) (j : Sink) → Sunk j text state.sink → Tells (surveyed (state.machine.streams) j) text state₁ state) where
    begun-held : Held m buf state₁.machine
    begun-held = subst (Held m buf) (sym (bg text k g.sunk).machine) g.held

    begun-sunk : Sunk (surveyed start k) text state₁.sink
    begun-sunk = subst (λ i. Sunk (surveyed i k) text state₁.sink) (next-id g.held) (bg text k g.sunk).sunk

    pub survey-ready : Packs p t b c m (surveyed (length m.store) k) env buf state₁ text
    survey-ready =
        record {
          deep = g.deep;
          held = begun-held;
          sunk = begun-sunk;
          wide = record { room = λ e. never (cc) };
          kinds = g.kinds;
          words = g.words;
          placed = g.placed;
          shallow = g.shallow;
          free = g.free;
          low = g.low;
          apart = g.apart;
          within = g.within;
          aside = g.aside;
          inside = g.inside;
          few = g.few;
        }

    module _ {env₁ : List ℕ} {buf₁ : List ℤ} {state₂ : Walk} {text₂ : List ℕ} {r : Returned Unit Refusal} (w : Ends p t b c m (surveyed (length m.store) k) 0 env env₁ buf buf₁ state₂ text₂ r) where
      pub never-stops : {X : Type 0} → false ≡ is_ok r → X
      unfolding walked
      never-stops e = let both : false ≡ is_ok (pack_answer (went (skip body m))) = e ∙ ap is_ok w.says in never (cc)

      abbrev after : State
      after = skip body m

      left : Leaves p t b c m (surveyed start k) env env₁ buf buf₁ state₂ text₂ after
      unfolding walked
      left = w.leaves after refl

      abbrev after-survey : Sink
      after-survey = feed start body (surveyed start k)

      below : Below start (b ∷ order t)
      below u h = ⊎_elim (λ e. subst (λ i. i < start) (sym e) (named m.store b g.placed.stream g.placed.there)) (λ i. kinds-below g.kinds u i) (Memᴰ.cases_cons h)

      roomy : length (b ∷ order t) ≤ k.most
      roomy = omega (arith, length-order t, g.shallow, g.wide.room (lists g.sunk list))

      known : Surveyable start body (pack_tree t start) (b ∷ order t)
      known = pack-surveyable b t start below

      abbrev words_w : List ℕ
      words_w = tree_words (map_tree (place after.store) (pack_tree t start))

      long-words : length words_w ≡ tree_size d
      long-words = length-tree (map_tree (place after.store) (pack_tree t start))

      tree-words : part p.to (tree_size d) env₁ ≡ words_w
      tree-words =
          part-drop env₁ (written p.to words_w env) p.to (tree_size d) (drop-above env₁ (written p.to words_w env) p.low p.to left.words g.low)
          ∙ (ap (λ n. part p.to n (written p.to words_w env)) (sym long-words) ∙ at-written env p.to words_w (omega (arith, long-words, fits)))

      abbrev opening-here : length env₁ ≡ length env → Opening env₁ p.to d after-survey text₂ state₂.sink
      opening-here l =
          record {
            sunk = left.sunk;
            surveys = surveyed-mode known k roomy;
            tree = pack_tree t start;
            placing = record { place = place after.store; named = λ i. refl };
            words = tree-words;
            within = omega (arith, l, fits);
            shallow = omega (arith, g.shallow);
          }

      pub open-ready : length env₁ ≡ length env → (j : Sink) × Opening env₁ p.to p.depth j text₂ state₂.sink
      open-ready l = (after-survey, subst (λ i. Opening env₁ p.to i after-survey text₂ state₂.sink) (sym g.deep) (opening-here l))

      module _ (l : length env₁ ≡ length env) {a : ℕ} (a-is : a ≡ state.machine.streams - 1) {state₃ : Walk} {text₃ : List ℕ}
          (o : (j : Sink) (h : Opening env₁ p.to p.depth j text₂ state₂.sink) → Opens j h.tree a text₃ state₃ state₂) where
        room-same : room after.store ≡ room m.store
        room-same = ap length (skipped-contents body m.store)

        next-is : state₂.machine.streams ≡ start + count body
        unfolding walked
        next-is =
            let gr = walked-grown (length buf) 0 body m after refl in
            next-id left.held ∙ (ap length gr.store ∙ (length-append m.store gr.streams ∙ ap (λ n. start + n) gr.number))

        opens-so : Opens after-survey (pack_tree t start) a text₃ state₃ state₂
        opens-so = go p.depth g.deep o
          where
            go : (i : ℕ) → i ≡ d → ((j : Sink) (h : Opening env₁ p.to i j text₂ state₂.sink) → Opens j h.tree a text₃ state₃ state₂)
                → Opens after-survey (pack_tree t start) a text₃ state₃ state₂
            go i q f =
                subst (λ x. ((j : Sink) (h : Opening env₁ p.to x j text₂ state₂.sink) → Opens j h.tree a text₃ state₃ state₂) → Opens after-survey (pack_tree t start) a text₃ state₃ state₂)
                (sym q) (λ f'. f' after-survey (opening-here l)) f

        counts-same : state₃.machine ≡ counters m
        counts-same =
            opens-so.machine
            ∙ (ap (λ i. back_to i state₂.machine) (surveyed-own known k roomy)
            ∙ (ap (back_to start) left.held.counts-are ∙ ap (λ q. back_to start (record { streams = start; room = q; work = m.work; steps = m.steps })) room-same))

        sink-is : opening after-survey (pack_tree t start) a (state₂.machine.streams) ≡ opens b t start k
        sink-is =
            ap (λ n. opening after-survey (pack_tree t start) a n) next-is
            ∙ (opening_of known k roomy a (lists g.sunk list) (g.sunk.plain (lists g.sunk list))
            ∙ ap (λ n. opened (ascending (among (order (pack_tree t start)) (dv start body))) n (ascending (fv start body)) k) (a-is ∙ ap (λ n. n - 1) (next-id g.held)))

        pub line-told : Opened p t b m k env env₁ buf buf₁ state₃ text₃
        line-told =
            record {
              held =
                  record {
                    counts-are = counts-same;
                    contents-are = ap (λ q. take q buf₁) (sym room-same) ∙ (left.held.contents-are ∙ skipped-contents body m.store);
                    fits = omega (arith, room-same, left.held.fits);
                    short = left.held.short;
                    few = g.held.few;
                    slow = g.held.slow;
                    cheap = g.held.cheap;
                  };
              sunk = subst (λ j. Sunk j text₃ state₃.sink) sink-is opens-so.sunk;
              kept = subst (λ q. drop q buf₁ ≡ drop q buf) room-same left.kept;
              scratch = words_w;
              scratch-long = long-words;
              words = left.words;
            }
