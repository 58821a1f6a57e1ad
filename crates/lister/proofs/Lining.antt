-- The walk that lists: under no units it goes through, and the sink that it was told into has the lines of the expression's code.
use Prim.Native.Nat.{ℕ, suc, ◌+◌, ◌-◌, ◌≤◌}
use native.Mathlib.Omega.{arith}
use mathlib.Core.List.{List, [], ◌++◌, append-nil}
use mathlib.Core.Path.{◌≡◌, refl, sym, ap, ◌∙◌, subst}
use Rattle.std.specs.Prelude.{Result, Ok}
use Rattle.std.specs.Result.{IsOk}
use lib.IntN.{ℤ}
use lib.ListN.{length, take, drop, length-append}
use Rattle.snesl.specs.declared.refusal.Refusal.{Refusal}
use Rattle.snesl.specs.Limits.{most_nesting}
use Rattle.snesl.specs.Values.{depth_of}
use Rattle.snesl.specs.Streams.{contents}
use Rattle.snesl.specs.Programs.{Program}
use Rattle.snesl.specs.Translation.{tree, code}
use Rattle.snesl.specs.Machine.{State, went, skip}
use Rattle.snesl.specs.Listing.{lines_of, result_line}
use Rattle.snesl.specs.Trees.{map_tree}
use Rattle.decimals.specs.Writing.{Writes}
use Rattle.environment.specs.Words.{spelled, tree_words, tree_size}
use Rattle.environment.specs.declared.machine.Machine.{Machine}
use Rattle.sink.specs.declared.state.Mode.TheVariants.{Listing}
use Rattle.sink.specs.declared.state.Walk.{Walk}
use Rattle.sink.specs.Sinks.{Sink, far, feed}
use Rattle.sink.specs.Sunk.{Sunk, starting}
use Rattle.sink.proofs.Sinking.{landed}
use Rattle.sink.proofs.Feeding.{feed-listing}
use Rattle.steps.specs.Holding.{Held, place}
use Rattle.streams.specs.Answers.{widest_buffer}
use Rattle.steps.specs.Walking.{walked}
use Rattle.leaves.specs.Places.{places}
use Rattle.leaves.specs.Scenes.{Scene, Left, reached, answer, Runs}
use Rattle.leaves.specs.declared.Walked.{Walked}
use Rattle.runner.specs.Walks.{Ready}
use Rattle.lister.specs.Lists.{WholeReady, Lined, whole_text}
use Rattle.lister.proofs.Bare.{bare-contents, bare-places}

-- nothing is counted but so many streams
abbrev pub counting : ℕ → Machine
counting s = record { streams = s; room = 0; work = 0; steps = 0 }

-- a walk whose machine has so many streams
abbrev begun : ℕ → Walk → Walk
begun s w = record { machine = record { streams = s; room = w.machine.room; work = w.machine.work; steps = w.machine.steps }; sink = w.sink }

abbrev beginning : List ℕ → Sink
beginning text = starting 72 Listing text

module _ {t : List ℕ} {k : ℕ} {env : List ℕ} {sp s : ℕ} (g : WholeReady t k env sp s) where
  abbrev machine : State
  machine = record { store = g.store; work = 0; steps = 0 }

  abbrev p : Program
  p = code g.term g.trees (length g.store)

  none : contents g.store ≡ []
  none = bare-contents g.bare

  -- a new walk with the inputs' streams, at the start of the text; the buffer holds none of them
  module _ {new : Walk} (none_counted : new.machine ≡ counting 0) (sunk_at : (text : List ℕ) → Sunk (beginning text) text new.sink)
      (buf : List ℤ) (lent : length buf ≤ widest_buffer) (text : List ℕ) where
    abbrev w : Walk
    w = begun s new

    counts : w.machine ≡ counting s
    counts = ap (λ (m : Machine). record { streams = s; room = m.room; work = m.work; steps = m.steps }) none_counted

    held : Held machine buf w.machine
    held =
        record {
          counts-are = counts ∙ (ap (λ n. counting n) (sym g.number) ∙ ap (λ l. record { streams = length g.store; room = length l; work = 0; steps = 0 }) (sym none));
          contents-are = ap (λ l. take (length l) buf) none ∙ sym none;
          fits = omega (arith, ap length none);
          short = omega arith;
          few = omega (arith, g.few, g.number);
          slow = omega arith;
          cheap = omega arith;
        }

    scene : Scene env sp buf w text
    scene =
        record {
          context = g.context;
          names = g.names;
          trees = g.trees;
          machine = machine;
          rest = [];
          spells = g.spells ∙ (ap (spelled g.names) (sym (bare-places g.bare g.trees)) ∙ sym (append-nil (spelled g.names (places g.store g.trees))));
          shaped = g.shaped;
          shallow = g.shallow;
          held = held;
          within = g.within;
          sink = beginning text;
          sunk = sunk_at text;
          wide = record { room = λ e. omega arith };
        }

    pub ready : Ready t k sp env buf w text
    unfolding scene
    ready =
        record {
          scene = scene;
          levels = suc most_nesting;
          type = g.type;
          term = g.term;
          next = g.next;
          formed = g.formed;
          short = g.short;
          space = g.space;
          few = omega (arith, g.few, g.number);
        }

    -- what the walk has left
    module _ {env₁ : List ℕ} {buf₁ : List ℤ} {state₁ : Walk} {text₁ : List ℕ} {r : Result Walked Refusal}
        (F : (h : Ready t k sp env buf w text) → Runs h.scene h.term 0 h.next env₁ buf₁ state₁ text₁ r) where
      ran : Runs ready.scene ready.term 0 ready.next env₁ buf₁ state₁ text₁ r
      ran = F ready

      through : walked (length buf) 0 p machine ≡ went (skip p machine)
      unfolding walked
      through = refl

      says : r ≡ reached (depth_of g.type) g.next
      unfolding ready scene
      says = ran.says ∙ ap (answer (depth_of g.type) g.next) through

      pub never-stopped : IsOk r
      never-stopped = subst IsOk (sym says) refl

      left : Left (skip p machine) (feed (length g.store) p (beginning text)) g.type (tree g.term g.trees (length g.store)) sp env env₁ buf buf₁ state₁ text₁
      unfolding ready scene
      left = ran.leaves (skip p machine) through

      lines-near : 0 + length (lines_of (length g.store) p) ≤ far
      lines-near =
          let e : length (whole_text g.term g.trees (length g.store)) ≤ far = subst (λ n. length (whole_text g.term g.trees n) ≤ far) (sym g.number) g.near in
          omega (arith, length-append (lines_of (length g.store) p) (result_line (tree g.term g.trees (length g.store))))

      fed : feed (length g.store) p (beginning text) ≡ landed (lines_of (length g.store) p) (beginning text)
      fed = feed-listing (length g.store) p (beginning text) refl lines-near

      told : Sunk (landed (lines_of (length g.store) p) (beginning text)) text₁ state₁.sink
      told = subst (λ a. Sunk a text₁ state₁.sink) fed left.sunk

      pub lined : {v : Walked} → r ≡ Ok v → Lined g env₁ text text₁ (record { depth = v.depth; at = state₁.sink.at })
      lined {v} e =
          let same : v.depth ≡ depth_of g.type = cc (says) in
          record {
            depth = same;
            writes =
                subst (λ n. Writes text text₁ 0 (lines_of n (code g.term g.trees n)) (state₁.sink.at)) g.number
                (record { content = told.text-is; count = told.at-is });
            placing = record { place = place (skip p machine).store; named = λ u. refl };
            words =
                subst (λ n. drop (sp - tree_size (depth_of g.type)) env₁ ≡ tree_words (map_tree (place (skip p machine).store) (tree g.term g.trees n)) ++ drop sp env) g.number left.words;
          }
