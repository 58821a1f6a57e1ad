-- A job that meets none of 1 to 7, from its inputs to its answer: what each part says makes up the outcome of its execution.
use Prim.Native.Nat.{ℕ, suc, ◌+◌, ◌*◌, ◌-◌, ◌≤◌}
use mathlib.Core.Bool.{Bool, true, false}
use mathlib.Core.List.{List, [], ◌++◌, append-nil}
use mathlib.Core.Option.{Option, some, none}
use mathlib.Core.Path.{◌≡◌, refl, sym, ap, ap₂, subst, ◌∙◌}
use native.Mathlib.Omega.{arith}
use lib.Dec.{leb}
use lib.IntN.{ℤ, pos}
use lib.ListN.{length, drop, replicate, take-append-drop, take, length-append, length-drop}
use lib.Seq.{take-length}
use Rattle.laws.specs.Parts.{cleared}
use Rattle.laws.proofs.Never.{never}
use Rattle.environment.proofs.Stack.{drop-above}
use Rattle.snesl.specs.declared.limits.Formula.{Formula}
use Rattle.snesl.specs.declared.refusal.Refusal.{Refusal}
use Rattle.snesl.specs.declared.refusal.Refusal.TheVariants.{NoRoom}
use Rattle.snesl.specs.Limits.{most_inputs, most_nesting, most_depth}
use Rattle.snesl.specs.Values.{ValueType, depth_of, type_of, Val}
use Rattle.snesl.specs.Terms.{All, ∅}
use Rattle.snesl.specs.Trees.{IdTree}
use Rattle.snesl.specs.Streams.{Store, contents, room}
use Rattle.snesl.specs.Machine.{State, Result, went, stopped, run, holding}
use Rattle.snesl.specs.Translation.{code, tree}
use Rattle.snesl.specs.Agreement.{RanOnce}
use Rattle.snesl.specs.Records.{JobRead}
use Rattle.snesl.specs.Checking.{Typed, context, input_types, turned, input_names}
use Rattle.snesl.specs.Formed.{Formed}
use Rattle.snesl.specs.Inputs.{input_trees, input_streams, input_over}
use Rattle.snesl.specs.Outcome.{Outcome, refusal, value, refusal_of, answer_text, answered, finished, loaded, executed, answer_after}
use Rattle.snesl.specs.Demands.{environment}
use Rattle.snesl.proofs.Types.{type-of-both}
use Rattle.snesl.proofs.Formed.{job-formed}
use Rattle.snesl.proofs.Jobs.InputStreams.{length-inputs, inputs-agree}
use Rattle.snesl.proofs.Statements.Compiled.{it-ends-if-all-fits}
use Rattle.snesl.proofs.Statements.Correctness.{a-run-has-a-value}
use Rattle.steps.specs.Holding.{keeps}
use Rattle.steps.specs.Walking.{walked}
use Rattle.steps.proofs.Stores.{room-append}
use Rattle.leaves.specs.Places.{places}
use Rattle.environment.specs.Words.{tree_size}
use Rattle.environment.specs.Needs.{words}
use Rattle.sink.specs.declared.state.Mode.TheVariants.{Running}
use Rattle.sink.specs.declared.state.Walk.{Walk}
use Rattle.sink.specs.Sinks.{Sink, feed}
use Rattle.sink.specs.Sunk.{Sunk, starting}
use Rattle.environment.specs.declared.machine.Machine.{Machine}
use Rattle.leaves.specs.Scenes.{Scene, answer, Left, Runs}
use Rattle.runner.specs.Walks.{Ready}
use Rattle.leaves.specs.declared.Walked.{Walked}
use Rattle.runner.proofs.Measures.{shallow-type, words-hold}
use Rattle.inputs.specs.Supply.{Valued, per_input, Counted}
use Rattle.inputs.proofs.Counting.{counted-all}
use Rattle.inputs.specs.Loading.{binding_words, inputs_bound, Stands, Loads, loads, fills}
use Rattle.sheet.specs.declared.admission.Task.{Task}
use Rattle.std.specs.Prelude.{Result as Returned, Ok, Err}
use Rattle.sheet.specs.declared.Counts.{Counts}
use Rattle.sheet.specs.Admission.{counts_typed, counts_read, admission_counts}
use Rattle.sheet.specs.Runs.{ran_of, Admitted, execution, Finished, Shows, LeftBy, Performs, spoiled_from, Executes}
use Rattle.sheet.proofs.Needing.{spelled-few, context-long}

-- ---- loading

-- what loading is handed
abbrev pub valued-of : {t : List ℕ} {a : Task} {enough : ℕ} → Admitted t a enough → Valued t a.formula
valued-of g =
    record {
      job =
          record {
            inputs = g.accepted.inputs;
            expression = g.accepted.expression;
            raw = g.accepted.raw;
            next = g.accepted.next;
            spans = g.accepted.spans;
            read = g.accepted.read;
            formula = g.formula;
          };
      given = g.accepted.given;
      values = g.accepted.valued;
    }

-- the counts that its admission kept are its inputs'
pub counted_of : {t : List ℕ} {a : Task} {enough : ℕ} (g : Admitted t a enough) (cs₀ : List ℕ) {cs : List ℕ} → cs ≡ admission_counts t cs₀
    → per_input * most_inputs ≤ length cs₀ → length cs ≡ length cs₀ → Counted t cs
counted_of {t} g cs₀ e =
    counted-all (valued-of g).job cs₀
    (e
    ∙ ap (λ (j : JobRead). counts_read t j cs₀) g.accepted.read
    ∙ ap (λ (y : Typed (context g.accepted.inputs)). counts_typed t g.accepted.inputs g.accepted.spans y cs₀) g.accepted.checked)

-- all inputs are loaded
pub record Laid {t : List ℕ} {f : Formula} (g : Valued t f) (env env₁ : List ℕ) (buf buf₁ : List ℤ) (counts : Machine) (o : Option ℕ) (sp : ℕ) : Type 0 where
  pub fitting : o ≡ none
  pub stands : Stands (inputs_bound g.job.inputs) (input_streams g.given) env₁ sp buf₁ counts
  pub kept : keeps (input_streams g.given) buf buf₁
  pub space : length env ≤ sp + binding_words * most_inputs
  pub few : length (input_streams g.given) ≤ suc most_depth * most_inputs

module _ {t : List ℕ} {f : Formula} {g : Valued t f} {env env₁ : List ℕ} {buf buf₁ : List ℤ} {counts : Machine} where
  over-full : {o : Option ℕ} {why : Refusal} → Loads g env env₁ buf buf₁ counts o (Err why) → (s : ℕ) × (why ≡ NoRoom s) × (o ≡ some s)
  over-full (fills {s = s}) = (s, refl, refl)

  laid : {o : Option ℕ} {sp : ℕ} → Loads g env env₁ buf buf₁ counts o (Ok sp) → Laid g env env₁ buf buf₁ counts o sp
  laid (loads s k p n) = record { fitting = refl; stands = s; kept = k; space = p; few = n }

-- the inputs' streams and their trees
abbrev pub inputs_of : {t : List ℕ} {a : Task} {enough : ℕ} → Admitted t a enough → Store
inputs_of g = input_streams g.accepted.given

abbrev pub trees_of : {t : List ℕ} {a : Task} {enough : ℕ} → (g : Admitted t a enough) → All IdTree (context g.accepted.inputs)
trees_of g = turned ∅ (input_trees 0 (input_types g.accepted.inputs))

-- ---- an outcome, and what is left where it is one

performs-refused : {o : Outcome} (r : Refusal) (buf buf₁ : List ℤ) (ans : List ℕ) → o ≡ refusal r → Performs o buf buf₁ ans ans (Err r)
performs-refused {o} r buf buf₁ ans e =
    record {
      shows = record { says = sym (ap ran_of e); answer-is = sym (ap (answer_after ans) e) };
      left = subst (λ (o : Outcome). LeftBy o buf buf₁) (sym e) tt;
    }

left-answered : (lent : ℕ) (text : List ℕ) (m : State) (buf buf₁ : List ℤ) → buf₁ ≡ contents m.store ++ drop (room m.store) buf
    → LeftBy (answered lent text m) buf buf₁
left-answered lent text m buf buf₁ e = go (leb (length text) lent) refl
  where
    go : (b : Bool) → leb (length text) lent ≡ b → LeftBy (answered lent text m) buf buf₁
    go true p = rw (p, answered) e
    go false p = rw (p, answered) tt

-- ---- from the inputs to the answer

module _ {t : List ℕ} {a : Task} {env env₁ : List ℕ} (g : Admitted t a (length env)) {buf buf₁ : List ℤ} (w₁ : Walk) where
  -- the inputs don't fit
  pub crowded : {r : Returned ℕ Refusal} (why : Refusal) (ans : List ℕ) → r ≡ Err why
      → Loads (valued-of g) env env₁ buf buf₁ w₁.machine (input_over (length buf) 0 0 g.accepted.given) r
      → Performs (execution g (length buf) (length ans)) buf buf₁ ans ans (Err why)
  crowded why ans e l = go (over-full (subst (λ (x : Returned ℕ Refusal). Loads (valued-of g) env env₁ buf buf₁ w₁.machine (input_over (length buf) 0 0 g.accepted.given) x) e l))
    where
      go : (s : ℕ) × (why ≡ NoRoom s) × (input_over (length buf) 0 0 g.accepted.given ≡ some s) → Performs (execution g (length buf) (length ans)) buf buf₁ ans ans (Err why)
      go (s, is, passed) =
          performs-refused why buf buf₁ ans
          (ap (executed (length buf) (length ans) g.accepted.inputs g.accepted.term g.accepted.given) passed ∙ ap refusal (sym is))

  module _ {r₀ : Returned ℕ Refusal} (sp : ℕ) (at : r₀ ≡ Ok sp) (l : Loads (valued-of g) env env₁ buf buf₁ w₁.machine (input_over (length buf) 0 0 g.accepted.given) r₀)
      (same : length env₁ ≡ length env) {text : List ℕ} {most : ℕ} (begun : Sunk (starting most Running text) text w₁.sink) where
    pub here : Laid (valued-of g) env env₁ buf buf₁ w₁.machine (input_over (length buf) 0 0 g.accepted.given) sp
    here =
        laid
        (subst (λ (x : Returned ℕ Refusal). Loads (valued-of g) env env₁ buf buf₁ w₁.machine (input_over (length buf) 0 0 g.accepted.given) x) at l)

    -- a sink that only runs, whatever a survey could keep
    abbrev pub runs : Sink
    runs = starting most Running text

    abbrev pub scene : Scene env₁ sp buf₁ w₁ text
    scene =
        record {
          context = context g.accepted.inputs;
          names = turned ∅ (input_names g.accepted.inputs);
          trees = turned ∅ (input_trees 0 (input_types g.accepted.inputs));
          machine = loaded g.accepted.given;
          rest = [];
          spells = here.stands.spells ∙ sym (append-nil _);
          shaped = here.stands.shaped;
          shallow = here.stands.shallow;
          held = here.stands.held;
          within = here.stands.within;
          sink = runs;
          sunk = begun;
          wide = record { room = λ e. never (cc) };
        }

    pub formed : Formed t (suc most_nesting) g.accepted.expression (context g.accepted.inputs)
        (turned ∅ (input_names g.accepted.inputs)) g.accepted.type g.accepted.term g.accepted.next
    formed = (job-formed t g.accepted.read g.accepted.checked).formed

    -- the inputs' bindings leave the words of the expression
    pub needed : words g.accepted.term ≤ sp
    needed =
        let b = inputs_bound g.accepted.inputs in
        omega (
          arith,
          g.room,
          same,
          here.stands.within,
          ap length here.stands.spells,
          length-drop sp env₁,
          spelled-few b.names (places (inputs_of g) b.trees) here.stands.shallow,
          context-long [] g.accepted.inputs,
        )

    abbrev pub ready : Ready t a.formula.expression sp env₁ buf₁ w₁ text
    ready =
        record {
          scene = scene;
          levels = most_nesting + 1;
          type = g.accepted.type;
          term = g.accepted.term;
          next = g.accepted.next;
          formed =
              subst
              (λ (k : ℕ). Formed t (most_nesting + 1) k scene.context scene.names g.accepted.type g.accepted.term g.accepted.next)
              (sym (ap (λ (h : Formula). h.expression) g.formula))
              formed;
          short = (job-formed t g.accepted.read g.accepted.checked).short;
          space = needed;
          few = omega (arith, here.few, (job-formed t g.accepted.read g.accepted.checked).short);
        }

    -- what the walk's run comes to is the outcome
    abbrev pub res : Result
    res = walked (length buf₁) 1 (code g.accepted.term (trees_of g) (length (inputs_of g))) (loaded g.accepted.given)

    module _ (long : length buf₁ ≡ length buf) where
      execution-is : (lent : ℕ) → execution g (length buf) lent ≡ finished g.accepted.type lent (tree g.accepted.term (trees_of g) (length (inputs_of g))) res
      unfolding walked
      execution-is lent =
          ap (executed (length buf) lent g.accepted.inputs g.accepted.term g.accepted.given) here.fitting
          ∙ ap₂
          (λ (s cap : ℕ). finished g.accepted.type lent (tree g.accepted.term (trees_of g) s) (run (holding cap) (code g.accepted.term (trees_of g) s) 1 (loaded g.accepted.given)))
          (sym (length-inputs g.accepted.given))
          (sym long)

      module _ {env₂ : List ℕ} {buf₂ : List ℤ} {w₂ : Walk} {text₂ : List ℕ} {r : Returned Walked Refusal} (w : Runs scene g.accepted.term 1 g.accepted.next env₂ buf₂ w₂ text₂ r) where
        pub halted : (why : Refusal) (ans : List ℕ) → r ≡ Err why
            → Performs (execution g (length buf) (length ans)) buf buf₂ ans ans (Err why)
        halted why ans e = performs-refused why buf buf₂ ans (execution-is (length ans) ∙ go res (sym e ∙ w.says))
          where
            go : (x : Result) → Err why ≡ answer (depth_of g.accepted.type) g.accepted.next x
                → finished g.accepted.type (length ans) (tree g.accepted.term (trees_of g) (length (inputs_of g))) x ≡ refusal why
            go (went m) q = never (cc)
            go (stopped y s) q = let same : why ≡ refusal_of y s = cc in ap refusal (sym same)

        -- it went through to a machine
        record Through (depth : ℕ) : Type 0 where
          machine : State
          is : res ≡ went machine
          deep : depth ≡ depth_of g.accepted.type

        through : (at : Walked) → r ≡ Ok at → Through at.depth
        through at e = go res refl (sym e ∙ w.says)
          where
            go : (x : Result) → res ≡ x → Ok at ≡ answer (depth_of g.accepted.type) g.accepted.next x → Through at.depth
            go (went m) p q =
                let same : at ≡ record { depth = depth_of g.accepted.type; next = g.accepted.next } = cc in
                record { machine = m; is = p; deep = ap (λ (x : Walked). x.depth) same }
            go (stopped y s) p q = never (cc)

        module _ (reached : Walked) (e : r ≡ Ok reached) where
          abbrev depth : ℕ
          depth = reached.depth

          abbrev m : State
          m = (through reached e).machine

          left : Left m (feed (length (inputs_of g)) (code g.accepted.term (trees_of g) (length (inputs_of g))) runs) g.accepted.type (tree g.accepted.term (trees_of g) (length (inputs_of g))) sp env₁ env₂ buf₁ buf₂ w₂ text₂
          left = w.leaves m (through reached e).is

          ran : (v : Val g.accepted.type) × RanOnce g.accepted.term (trees_of g) (length (inputs_of g)) (environment g.accepted) (loaded g.accepted.given) v m
          unfolding walked
          ran =
              let bounded = it-ends-if-all-fits (length buf₁) (code g.accepted.term (trees_of g) (length (inputs_of g))) 1 (loaded g.accepted.given) here.stands.held.fits m in
              let boundless = (bounded.0 (through reached e).is).0 in
              let v =
              a-run-has-a-value g.accepted.term (trees_of g) (length (inputs_of g)) (environment g.accepted) (loaded g.accepted.given) refl
              (inputs-agree g.accepted.given) boundless in
              (v.0, v.2)

          -- its type is said by the task's base and the walk's depth
          told-type : g.accepted.type ≡ type_of a.base depth
          told-type = sym (type-of-both g.accepted.type) ∙ sym (λ i. type_of (g.base i) ((through reached e).deep i))

          abbrev finish : Finished g.accepted.type (sp - (3 * depth + 3)) env₂ buf₂ w₂.machine
          finish =
              record {
                machine = m;
                tree = tree g.accepted.term (trees_of g) (length (inputs_of g));
                result = ran.0;
                rest = drop sp env₁;
                held = left.held;
                holds = ran.1.results;
                words = ap (λ (k : ℕ). drop (sp - tree_size k) env₂) (through reached e).deep ∙ left.words;
                shallow = shallow-type formed here.stands.shallow;
              }

          pub finished-at : Finished (type_of a.base depth) (sp - (3 * depth + 3)) env₂ buf₂ w₂.machine
          finished-at = subst (λ (τ : ValueType). Finished τ (sp - (3 * depth + 3)) env₂ buf₂ w₂.machine) told-type finish

          pub shallow : depth ≤ most_depth
          shallow = omega (arith, finish.shallow, (through reached e).deep)

          -- the words of the result's tree are below sp
          pub low : tree_size depth ≤ sp
          low = omega (arith, words-hold g.accepted.term, needed, (through reached e).deep)

          whole : buf₂ ≡ contents m.store ++ drop (room m.store) buf
          whole =
              let grown : room m.store ≡ room (inputs_of g) + room ran.1.added = ap room ran.1.store ∙ room-append (inputs_of g) ran.1.added in
              sym (take-append-drop (room m.store) buf₂)
              ∙ ap₂ ◌++◌ left.held.contents-are
              (left.kept ∙ drop-above buf₁ buf (room (inputs_of g)) (room m.store) here.kept (omega arith))

          pub answers-it : {x : Returned Counts Refusal} {ans ans' : List ℕ}
              → ((h : Finished (type_of a.base depth) (sp - (3 * depth + 3)) env₂ buf₂ w₂.machine)
              → Shows (answered (length ans) (answer_text (type_of a.base depth) h.tree h.machine.store) h.machine) ans ans' x)
              → Performs (execution g (length buf) (length ans)) buf buf₂ ans ans' x
          answers-it {x} {ans} {ans'} s =
              let o = execution-is (length ans) ∙ ap (finished g.accepted.type (length ans) (tree g.accepted.term (trees_of g) (length (inputs_of g)))) (through reached e).is in
              let shown =
              subst
              (λ (τ : ValueType).
              (h : Finished τ (sp - (3 * depth + 3)) env₂ buf₂ w₂.machine)
              → Shows (answered (length ans) (answer_text τ h.tree h.machine.store) h.machine) ans ans' x)
              (sym told-type)
              s
              finish in
              record {
                shows = subst (λ (y : Outcome). Shows y ans ans' x) (sym o) shown;
                left =
                    subst (λ (y : Outcome). LeftBy y buf buf₂) (sym o)
                    (left-answered (length ans) (answer_text g.accepted.type (tree g.accepted.term (trees_of g) (length (inputs_of g))) m.store) m buf buf₂ whole);
              }

-- ---- the used part afterwards

nothing-cleared : (l : List ℤ) → cleared (pos 0) (length l) l ≡ l
unfolding cleared
nothing-cleared l =
    let none_left : length l - length l ≡ 0 = omega arith in
    ap₂ (λ (a : List ℤ) (n : ℕ). a ++ replicate n (pos 0)) (take-length l) none_left ∙ append-nil l

all-cleared : (l : List ℤ) (n : ℕ) → length l ≡ n → cleared (pos 0) 0 l ≡ replicate n (pos 0)
unfolding cleared
all-cleared l n e =
    let all : length l - 0 ≡ n = omega arith in
    ap (λ (k : ℕ). replicate k (pos 0)) all

pub settled : {o : Outcome} {buf buf₁ buf₂ : List ℤ} {ans ans' : List ℕ} {r : Returned Counts Refusal} {from : ℕ} → Performs o buf buf₁ ans ans' r
    → length buf₁ ≡ length buf → from ≡ spoiled_from r (length buf₁) → buf₂ ≡ cleared (pos 0) from buf₁
    → Executes o buf buf₂ ans ans' r
settled {o} {buf} {buf₁} {buf₂} {ans} {ans'} {r} p long f e = go o r p (e ∙ ap (λ (k : ℕ). cleared (pos 0) k buf₁) f)
  where
    go : (o : Outcome) (r : Returned Counts Refusal) → Performs o buf buf₁ ans ans' r → buf₂ ≡ cleared (pos 0) (spoiled_from r (length buf₁)) buf₁
        → Executes o buf buf₂ ans ans' r
    go (value text w s m held) (Ok c) p e = record { shows = p.shows; used = e ∙ (nothing-cleared buf₁ ∙ p.left) }
    go (refusal y) (Err x) p e = record { shows = p.shows; used = e ∙ all-cleared buf₁ (length buf) long }
    go (value text w s m held) (Err x) p e = never (cc p.shows.says)
    go (refusal y) (Ok c) p e = never (cc p.shows.says)
