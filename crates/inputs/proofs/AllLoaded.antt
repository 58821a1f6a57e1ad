-- All inputs, one after another: what is loaded of them, and what is still to be, makes up the whole.
use Prim.Native.Nat.{ℕ, suc, ◌+◌, ◌*◌, ◌-◌, ◌≤◌, ◌<◌}
use mathlib.Core.List.{List, [], ◌∷◌, ◌++◌, append_assoc, append-nil, map}
use mathlib.Core.Option.{Option, some, none}
use mathlib.Core.Path.{◌≡◌, refl, sym, ap, ap₂, subst, ◌∙◌}
use native.Mathlib.Omega.{arith}
use borrow.Author.Tests.{le-leb, lt-leb}
use lib.IntN.{ℤ}
use lib.ListN.{length, take, drop, length-append}
use lib.Seq.{drop-length, drop-drop}
use Rattle.environment.specs.declared.machine.Machine.{Machine}
use Rattle.environment.specs.Words.{spelled}
use Rattle.environment.proofs.Stack.{drop-above}
use Rattle.snesl.specs.declared.code.Variable.{Variable}
use Rattle.snesl.specs.declared.limits.Formula.{Formula}
use Rattle.snesl.specs.Limits.{most_inputs, most_depth, most_elements}
use Rattle.snesl.specs.declared.code.Base.{Base}
use Rattle.snesl.specs.Values.{ValueType, depth_of, Val}
use Rattle.snesl.specs.Terms.{All, ∅, ◌▹◌}
use Rattle.snesl.specs.Streams.{Store, len, contents, room}
use Rattle.snesl.specs.Representation.{represent}
use Rattle.snesl.specs.Text.{value_of}
use Rattle.snesl.specs.Finder.{span_of}
use Rattle.snesl.specs.Records.{byte_at, variable_at, Input, input_at, Span, span_at}
use Rattle.snesl.specs.Checking.{input_type, input_types, turned_onto, turned, input_names}
use Rattle.snesl.specs.Inputs.{Values, wrong, right, value_first, input_trees, input_values, input_streams, input_over}
use Rattle.snesl.proofs.Types.{depth-of-type}
use Rattle.steps.specs.Holding.{keeps}
use Rattle.steps.proofs.Stores.{room-append}
use Rattle.leaves.specs.Places.{places, shaped-none, shallow-none}
use Rattle.decimals.proofs.Parts.{rest_of}
use Rattle.formula.specs.Declarations.{input_place, base_at, declaration_of}
use Rattle.formula.specs.declared.inputs.Declaration.{Declaration}
use Rattle.valuetext.specs.Storing.{value_store}
use Rattle.valuetext.proofs.Represented.{order-length}
use Rattle.snesl.specs.declared.refusal.Refusal.{Refusal}
use Rattle.snesl.specs.declared.refusal.Refusal.TheVariants.{NoRoom}
use Rattle.std.specs.Prelude.{Result, Ok, Err}
use Rattle.inputs.specs.Supply.{Valued, per_input, Tallies, Counted}
use Rattle.inputs.specs.Loading.{fresh, binding_words, Bound, bind_one, Stands, Next, Takes, takes, passes, inputs_bound, Loads, loads, fills}
use Rattle.inputs.proofs.Supplying.{type_at, Supplied, supplied-none, supplied-more, inputs-supplied}
use Rattle.inputs.proofs.Checking.{text_from, text-span, Bounds, counts_from}

-- ---- bindings

unfoldable pub bind_all : Bound → ℕ → List Input → Bound
bind_all b s [] = b
bind_all b s (i ∷ is) = bind_all (bind_one b i.name s (input_type i)) (s + suc (depth_of (input_type i))) is

abbrev pub unbound : Bound
unbound = record { context = []; names = ∅; trees = ∅ }

all-bound : (b : Bound) (s : ℕ) (is : List Input)
    → bind_all b s is
    ≡ record { context = turned_onto b.context (input_types is); names = turned b.names (input_names is); trees = turned b.trees (input_trees s (input_types is)) }
unfolding bind_all turned input_names input_trees
all-bound b s [] = refl
all-bound b s (i ∷ is) = all-bound (bind_one b i.name s (input_type i)) (s + suc (depth_of (input_type i))) is

-- ---- the first of several values

abbrev first_of : (τ : ValueType) {τs : List ValueType} → Values (τ ∷ τs) → Option (Val τ)
first_of τ (wrong p) = none
first_of τ (right (v ▹ vs)) = some v

abbrev others_of : (τ : ValueType) {τs : List ValueType} → Values (τ ∷ τs) → Values τs
others_of τ (wrong p) = wrong p
others_of τ (right (v ▹ vs)) = right vs

pub values-apart : (τ : ValueType) {τs : List ValueType} (p : ℕ) (o : Option (Val τ)) (w : Values τs) (v : Val τ) (vs : All Val τs)
    → value_first {τ = τ} p o w ≡ right (◌▹◌ {τ = τ} v vs)
    → (◌≡◌ {A = Option (Val τ)} o (some v)) × (w ≡ right vs)
values-apart τ p none w v vs e = let z : ◌≡◌ {A = ℕ} 0 1 = cc in absurd (omega arith)
values-apart τ p (some u) (wrong q) v vs e = let z : ◌≡◌ {A = ℕ} 0 1 = cc in absurd (omega arith)
values-apart τ p (some u) (right us) v vs e = (ap (first_of τ) e, ap (others_of τ) e)

module _ (τ : ValueType) {τs : List ValueType} (cap held s : ℕ) (v : Val τ) (vs : All Val τs) where
  over-fits : held + room (value_store τ v) ≤ cap → input_over cap held s (◌▹◌ {τ = τ} v vs) ≡ input_over cap (held + room (value_store τ v)) (s + suc (depth_of τ)) vs
  unfolding input_over
  over-fits h =
      ap
      (λ (b : mathlib.Core.Bool.Bool).
      elim b
      [ mathlib.Core.Bool.true ↦ input_over cap (held + room (value_store τ v)) (s + suc (depth_of τ)) vs | mathlib.Core.Bool.false ↦ some s ])
      (le-leb (held + room (value_store τ v)) cap h)

  over-past : cap < held + room (value_store τ v) → input_over cap held s (◌▹◌ {τ = τ} v vs) ≡ some s
  unfolding input_over
  over-past h =
      ap
      (λ (b : mathlib.Core.Bool.Bool).
      elim b
      [ mathlib.Core.Bool.true ↦ input_over cap (held + room (value_store τ v)) (s + suc (depth_of τ)) vs | mathlib.Core.Bool.false ↦ some s ])
      (lt-leb (held + room (value_store τ v)) cap h)

-- ---- the loop

-- `n` inputs whose texts, from k on, are all values, with the counts of each
pub record Given (t : List ℕ) (n k : ℕ) (counts : List ℕ) : Type 0 where
  pub inputs : List Input
  pub spans : List Span
  pub given : All Val (input_types inputs)
  pub supplied : Supplied t n 0 k inputs spans
  pub values : input_values t inputs spans ≡ right given
  pub tallies : Tallies given counts

abbrev pub given-of : {t : List ℕ} {f : Formula} {counts : List ℕ} → Valued t f → Counted t counts → Given t f.inputs f.end counts
given-of g c =
    record {
      inputs = g.job.inputs;
      spans = g.job.spans;
      given = g.given;
      supplied = inputs-supplied g.job;
      values = g.values;
      tallies = c.tallies g;
    }

-- some are loaded, `left` are not, and there is space for them
pub record Partly (n : ℕ) (env₀ : List ℕ) (buf₀ : List ℤ) (b : Bound) (σ : Store) (left sp : ℕ) (env : List ℕ) (buf : List ℤ) (machine : Machine) : Type 0 where
  pub stands : Stands b σ env sp buf machine
  pub kept : keeps σ buf₀ buf
  pub space : length env₀ + binding_words * left ≤ sp + binding_words * n
  pub few : length σ + 9 * left ≤ 9 * n
  pub inputs : n ≤ most_inputs
  pub wide : binding_words * most_inputs ≤ length env₀
  pub small : length buf₀ ≤ most_elements
  pub long-env : length env ≡ length env₀
  pub long-buf : length buf ≡ length buf₀

module _ {t : List ℕ} {n k₀ : ℕ} {counts : List ℕ} (g : Given t n k₀ counts) (env₀ : List ℕ) (buf₀ : List ℤ) where
  pub record Loading (i k sp : ℕ) (env : List ℕ) (buf : List ℤ) (machine : Machine) : Type 0 where
    pub inputs : List Input
    pub spans : List Span
    pub given : All Val (input_types inputs)
    pub bound : Bound
    pub store : Store
    pub supplied : Supplied t (n - i) (input_place i) k inputs spans
    pub values : input_values t inputs spans ≡ right given
    pub tallies : Tallies given (drop (per_input * i) counts)
    pub binds : bind_all bound (length store) inputs ≡ bind_all unbound 0 g.inputs
    pub streams : store ++ input_streams given ≡ input_streams g.given
    pub over : input_over (length buf₀) (room store) (length store) given ≡ input_over (length buf₀) 0 0 g.given
    pub partly : Partly n env₀ buf₀ bound store (n - i) sp env buf machine

  pub loading-start : n ≤ most_inputs → binding_words * most_inputs ≤ length env₀ → length buf₀ ≤ most_elements → (machine : Machine) → machine ≡ fresh
      → Loading 0 k₀ (length env₀) env₀ buf₀ machine
  unfolding contents spelled places
  loading-start few wide small machine z =
      let all : n ≡ n - 0 = omega arith in
      record {
        inputs = g.inputs;
        spans = g.spans;
        given = g.given;
        bound = unbound;
        store = [];
        supplied = subst (λ (j : ℕ). Supplied t j 0 k₀ g.inputs g.spans) all g.supplied;
        values = g.values;
        tallies = g.tallies;
        binds = refl;
        streams = refl;
        over = refl;
        partly =
            record {
              stands =
                  record {
                    spells = drop-length env₀;
                    shaped = shaped-none;
                    shallow = shallow-none;
                    held =
                        record {
                          counts-are = z;
                          contents-are = refl;
                          fits = omega arith;
                          short = omega arith;
                          few = omega arith;
                          slow = omega arith;
                          cheap = omega arith;
                        };
                    within = omega arith;
                  };
              kept = refl;
              space = omega arith;
              few = omega arith;
              inputs = few;
              wide = wide;
              small = small;
              long-env = refl;
              long-buf = refl;
            };
      }

  -- after one more, or where the room is passed
  abbrev pub After : (i k : ℕ) → List ℕ → List ℤ → Machine → Result ℕ Refusal → Type 0
  After i k env buf machine (Ok top) = Loading i k top env buf machine
  After i k env buf machine (Err why) = (s : ℕ) × (why ≡ NoRoom s) × (input_over (length buf₀) 0 0 g.given ≡ some s)

  pub record Step (i k next : ℕ) (x : Variable) (β : Base) (d sp : ℕ) (env : List ℕ) (buf : List ℤ) (machine : Machine) : Type 0 where
    pub first : Next (text_from t k next) x β d (counts_from counts i) sp env buf machine
    pub bounds : Bounds t (input_place i) k
    pub on : {env' : List ℕ} {buf' : List ℤ} {machine' : Machine} (r : Result ℕ Refusal) → Takes first env' buf' machine' r → length env' ≡ length env → length buf' ≡ length buf
        → After (i + 1) next env' buf' machine' r

  module _ {i k next sp : ℕ} (l : i < n) {env : List ℕ} {buf : List ℤ} {machine : Machine} {is : List Input} {ss : List Span} (b : Bound) (σ : Store)
      (others : Supplied t (n - (i + 1)) (input_place (i + 1)) next is ss)
      (bounds : Bounds t (input_place i) k)
      (v : Val (type_at t (input_place i))) (vs : All Val (input_types is))
      (reads : value_of (type_at t (input_place i)) (text_from t k next) ≡ some v)
      (values : input_values t is ss ≡ right vs)
      (counted : take (suc (depth_of (type_at t (input_place i)))) (drop (per_input * i) counts) ≡ map len (value_store (type_at t (input_place i)) v))
      (tallies : Tallies vs (drop per_input (drop (per_input * i) counts)))
      (binds : bind_all b (length σ) (input_at t (input_place i) (base_at t (input_place i)) ∷ is) ≡ bind_all unbound 0 g.inputs)
      (streams : σ ++ (value_store (type_at t (input_place i)) v ++ input_streams vs) ≡ input_streams g.given)
      (over : input_over (length buf₀) (room σ) (length σ) (◌▹◌ {τ = type_at t (input_place i)} v vs) ≡ input_over (length buf₀) 0 0 g.given)
      (p : Partly n env₀ buf₀ b σ (n - i) sp env buf machine) where
    abbrev here : Next (text_from t k next) (variable_at t (input_place i + 2)) (base_at t (input_place i)) (byte_at t (input_place i + 3)) (counts_from counts i) sp env buf machine
    here =
        record {
          bound = b;
          store = σ;
          value = v;
          stands = p.stands;
          reads = reads;
          counted = ap (take (suc (byte_at t (input_place i + 3)))) (rest_of counts (per_input * i))
              ∙ ap (λ (n : ℕ). take (suc n) (drop (per_input * i) counts)) (sym (depth-of-type (base_at t (input_place i)) (byte_at t (input_place i + 3))))
              ∙ counted;
          shallow = bounds.shallow;
          low = omega (arith, p.space, p.wide, p.inputs);
          few = omega (arith, p.few, p.inputs);
          small = omega (arith, p.small, p.long-buf);
        }

    abbrev τ : Store
    τ = value_store (type_at t (input_place i)) v

    grown : length (σ ++ τ) ≡ length σ + suc (depth_of (type_at t (input_place i)))
    grown = length-append σ τ ∙ ap (λ (j : ℕ). length σ + j) (order-length (represent (type_at t (input_place i)) (v ∷ [])))

    more : {env' : List ℕ} {buf' : List ℤ} {machine' : Machine} {top : ℕ}
        → room σ + room τ ≤ length buf
        → Stands (bind_one b (variable_at t (input_place i + 2)) (length σ) (type_at t (input_place i))) (σ ++ τ) env' top buf' machine'
        → keeps (σ ++ τ) buf buf'
        → sp ≤ top + binding_words
        → length env' ≡ length env
        → length buf' ≡ length buf
        → Loading (i + 1) next top env' buf' machine'
    unfolding bind_all
    more fits stands kept low le lb =
        let more-counts : per_input * (i + 1) ≡ per_input * i + per_input = omega arith in
        record {
          inputs = is;
          spans = ss;
          given = vs;
          bound = bind_one b (variable_at t (input_place i + 2)) (length σ) (type_at t (input_place i));
          store = σ ++ τ;
          supplied = others;
          values = values;
          tallies = subst (Tallies vs) (drop-drop per_input (per_input * i) counts ∙ ap (λ (j : ℕ). drop j counts) (sym more-counts)) tallies;
          binds = ap (λ (s : ℕ). bind_all (bind_one b (variable_at t (input_place i + 2)) (length σ) (type_at t (input_place i))) s is) grown ∙ binds;
          streams = append_assoc σ τ (input_streams vs) ∙ streams;
          over =
              ap₂ (λ (r s : ℕ). input_over (length buf₀) r s vs) (room-append σ τ) grown
              ∙ (sym (over-fits (type_at t (input_place i)) (length buf₀) (room σ) (length σ) v vs (omega (arith, p.long-buf))) ∙ over);
          partly =
              record {
                stands = stands;
                kept = kept ∙ drop-above buf buf₀ (room σ) (room (σ ++ τ)) p.kept (omega (arith, room-append σ τ));
                space = omega (arith, p.space);
                few = omega (arith, p.few, grown, depth-of-type (base_at t (input_place i)) (byte_at t (input_place i + 3)), bounds.shallow);
                inputs = p.inputs;
                wide = p.wide;
                small = p.small;
                long-env = le ∙ p.long-env;
                long-buf = lb ∙ p.long-buf;
              };
        }

    on : {env' : List ℕ} {buf' : List ℤ} {machine' : Machine} (r : Result ℕ Refusal) → Takes here env' buf' machine' r → length env' ≡ length env → length buf' ≡ length buf
        → After (i + 1) next env' buf' machine' r
    on r (takes fits stands kept low) le lb = more fits stands kept low le lb
    on r (passes past) le lb = (length σ, refl, sym over ∙ over-past (type_at t (input_place i)) (length buf₀) (room σ) (length σ) v vs (omega (arith, p.long-buf)))

    stepped : Step i k next (variable_at t (input_place i + 2)) (base_at t (input_place i)) (byte_at t (input_place i + 3)) sp env buf machine
    stepped = record { first = here; bounds = bounds; on = on }

  module _ {i k sp : ℕ} {env : List ℕ} {buf : List ℤ} {machine : Machine} (l : Loading i k sp env buf machine) where
    pub step : (next : ℕ) → next ≡ k + 4 + (span_at t k).bytes → i < n → Step i k next (variable_at t (input_place i + 2)) (base_at t (input_place i)) (byte_at t (input_place i + 3)) sp env buf machine
    unfolding input_values input_streams Tallies
    step next same h = go l.bound l.store l.supplied refl l.given l.values l.tallies l.binds l.streams l.over l.partly
      where
        go : {m : ℕ} {js : List Input} {us : List Span} (b : Bound) (σ : Store) → Supplied t m (input_place i) k js us → m ≡ n - i → (vs : All Val (input_types js))
            → input_values t js us ≡ right vs
            → Tallies vs (drop (per_input * i) counts)
            → bind_all b (length σ) js ≡ bind_all unbound 0 g.inputs
            → σ ++ input_streams vs ≡ input_streams g.given
            → input_over (length buf₀) (room σ) (length σ) vs ≡ input_over (length buf₀) 0 0 g.given
            → Partly n env₀ buf₀ b σ (n - i) sp env buf machine
            → Step i k next (variable_at t (input_place i + 2)) (base_at t (input_place i)) (byte_at t (input_place i + 3)) sp env buf machine
        go b σ supplied-none z vs e c q s o p = absurd (omega arith)
        go b σ (supplied-more {n = m} {is = is} {ss = ss} f x y r) z (v ▹ vs) e c q s o p =
            let both = values-apart (type_at t (input_place i)) (k + 4 - 4) (value_of (type_at t (input_place i)) (span_of t (span_at t k))) (input_values t is ss) v vs e in
            let less : m ≡ n - (i + 1) = omega arith in
            let place : input_place i + 4 ≡ input_place (i + 1) = omega arith in
            stepped h b σ
            (subst (λ (j : ℕ). Supplied t j (input_place (i + 1)) next is ss) less
            (subst (λ (j : ℕ). Supplied t m j next is ss) place (subst (λ (j : ℕ). Supplied t m (input_place i + 4) j is ss) (sym same) r)))
            (record { input = f; shallow = x; text = y })
            v
            vs
            (ap (value_of (type_at t (input_place i))) (text-span t k next same) ∙ both.0)
            both.1
            c.0
            c.1
            q
            s
            o
            p

    -- as the declaration says
    pub step-at : {r : Declaration} → r ≡ declaration_of (input_at t (input_place i) (base_at t (input_place i))) → (next : ℕ) → next ≡ k + 4 + (span_at t k).bytes → i < n
        → Step i k next r.name r.base r.depth sp env buf machine
    step-at e next same h =
        subst (λ (x : Declaration). Step i k next x.name x.base x.depth sp env buf machine) (sym e) (step next same h)

    pub bounds : i < n → Bounds t (input_place i) k
    bounds h = (step (k + 4 + (span_at t k).bytes) refl h).bounds

    pub finish : n ≤ i → Stands (inputs_bound g.inputs) (input_streams g.given) env sp buf machine
        × keeps (input_streams g.given) buf₀ buf
        × (length env₀ ≤ sp + binding_words * most_inputs)
        × (length (input_streams g.given) ≤ suc most_depth * most_inputs)
        × (input_over (length buf₀) 0 0 g.given ≡ none)
    unfolding input_streams input_over bind_all
    finish h = go l.bound l.store l.supplied l.given l.binds l.streams l.over l.partly (omega arith)
      where
        go : {m : ℕ} {js : List Input} {us : List Span} (b : Bound) (σ : Store) → Supplied t m (input_place i) k js us → (vs : All Val (input_types js))
            → bind_all b (length σ) js ≡ bind_all unbound 0 g.inputs
            → σ ++ input_streams vs ≡ input_streams g.given
            → input_over (length buf₀) (room σ) (length σ) vs ≡ input_over (length buf₀) 0 0 g.given
            → Partly n env₀ buf₀ b σ (n - i) sp env buf machine
            → m ≤ 0
            → Stands (inputs_bound g.inputs) (input_streams g.given) env sp buf machine
            × keeps (input_streams g.given) buf₀ buf
            × (length env₀ ≤ sp + binding_words * most_inputs)
            × (length (input_streams g.given) ≤ suc most_depth * most_inputs)
            × (input_over (length buf₀) 0 0 g.given ≡ none)
        go b σ supplied-none ∅ q s o p h =
            let same : σ ≡ input_streams g.given = sym (append-nil σ) ∙ s in
            let whole : b ≡ inputs_bound g.inputs = q ∙ all-bound unbound 0 g.inputs in (
              subst (λ (z : Bound). Stands z (input_streams g.given) env sp buf machine) whole
                  (subst (λ (ρ : Store). Stands b ρ env sp buf machine) same p.stands),
              subst (λ (ρ : Store). keeps ρ buf₀ buf) same p.kept,
              omega (arith, p.space, p.inputs),
              omega (arith, p.few, p.inputs, ap length same),
              sym o,
            )
        go b σ (supplied-more f x y r) vs q s o p h = absurd (omega arith)

module _ {t : List ℕ} {f : Formula} (g : Valued t f) {env₀ : List ℕ} {buf₀ : List ℤ} {env : List ℕ} {buf : List ℤ} {machine : Machine} where
  pub loaded-all : {counts : List ℕ} (c : Counted t counts) {i k sp : ℕ} → Loading (given-of g c) env₀ buf₀ i k sp env buf machine → f.inputs ≤ i
      → Loads g env₀ env buf₀ buf machine (input_over (length buf₀) 0 0 g.given) (Ok sp)
  loaded-all c {sp = sp} l h =
      let e = finish (given-of g c) env₀ buf₀ l h in
      subst (λ (o : Option ℕ). Loads g env₀ env buf₀ buf machine o (Ok sp)) (sym e.4) (loads e.0 e.1 e.2 e.3)

  pub loaded-full : {answer : Result ℕ Refusal} {why : Refusal} → answer ≡ Err why → (s : ℕ) × (why ≡ NoRoom s) × (input_over (length buf₀) 0 0 g.given ≡ some s)
      → Loads g env₀ env buf₀ buf machine (input_over (length buf₀) 0 0 g.given) answer
  loaded-full a (s, r, e) = rw (a, r, e) fills
