-- What the walk's arms need: the streams of the variables that a record names, and room for their result on the stack and for their streams' ids.
use Rattle.std.specs.Prelude.{ℕ, ◌+◌, ◌-◌, ◌≤◌, Bool, List, [], ◌∷◌, ◌++◌, ◌≡◌, ℤ, pos, length, drop, Ok, Err, Result as Returned}
use Rattle.laws.specs.Parts.{written}
use Rattle.snesl.specs.declared.code.Kind.TheVariants.{Flags}
use Rattle.snesl.specs.declared.code.Variable.{Variable}
use Rattle.snesl.specs.declared.code.Transducer.{Transducer}
use Rattle.snesl.specs.declared.code.Transducer.TheVariants as transducer
use Rattle.snesl.specs.declared.code.Base.{Base}
use Rattle.snesl.specs.declared.code.Base.TheVariants.{Int}
use Rattle.snesl.specs.declared.code.Base.TheVariants as base
use Rattle.snesl.specs.declared.code.Operation.{Operation}
use Rattle.snesl.specs.Values.{ValueType, scalar, braces, int, bool, result_of}
use Rattle.snesl.specs.Terms.{◌∋◌, Term, All, lookup}
use Rattle.snesl.specs.Checking.{Name, find, found}
use Rattle.snesl.specs.Trees.{IdTree, leaf, root, inner, outer}
use Rattle.snesl.specs.Transducers.{operands, signature}
use Rattle.snesl.specs.Streams.{Stream, ints}
use Rattle.snesl.specs.Programs.{Program, define, done, ◌⨾◌}
use Rattle.snesl.specs.Translation.{id, code, tree, controlled}
use Rattle.snesl.specs.Machine.{State, Stop, Result, went, stopped}
use Rattle.snesl.specs.declared.refusal.Refusal.{Refusal}
use Rattle.snesl.specs.Outcome.{refusal_of}
use Rattle.environment.specs.Words.{place_words}
use Rattle.sink.specs.declared.state.Walk.{Walk}
use Rattle.sink.specs.Sinks.{Sink, defined, opened, closed}
use Rattle.sink.specs.Sunk.{Sunk}
use Rattle.steps.specs.declared.Operands.{Operands}
use Rattle.steps.specs.Holding.{Held, keeps, place, PlacedAt, Placed, positions, most_streams}
use Rattle.leaves.specs.declared.Form.{Form}
use Rattle.leaves.specs.declared.Form.TheVariants as form
use Rattle.leaves.specs.Scenes.{Scene}

-- the transducer that a form stands for, over the variables that it names, and the base of the data that it gives
pub data Named {Γ : List ValueType} (names : All Name Γ) (δ : All IdTree Γ) : Form → Base → Transducer → Type 0 where
  named-const : {z : ℤ} → Named names δ (form.Const z) Int (transducer.Const z)
  named-truth : {c : Bool} → Named names δ (form.Truth c) base.Bool (transducer.ConstBool c)
  named-operation : {o : Operation} {x y : Variable} {v w : Γ ∋ int} → find x names ≡ found int v → find y names ≡ found int w
      → Named names δ (form.Operation o x y) (result_of o) (transducer.MapTwo o (id (root (lookup v δ))) (id (root (lookup w δ))))
  named-negation : {x : Variable} {v : Γ ∋ bool} → find x names ≡ found bool v
      → Named names δ (form.Negation x) base.Bool (transducer.MapOneNot (id (root (lookup v δ))))
  named-sum : {x : Variable} {v : Γ ∋ braces int} → find x names ≡ found (braces int) v
      → Named names δ (form.Sum x) Int (transducer.SumPlus (id (outer (lookup v δ))) (id (root (inner (lookup v δ)))))

-- a record that stands for one instruction, whose output is the whole result
pub record Sole (f : Form) (sp : ℕ) (env : List ℕ) (buf : List ℤ) (state : Walk) (text : List ℕ) : Type 0 where
  pub scene : Scene env sp buf state text
  pub base : Base
  pub term : Term scene.context (scalar base)
  pub transducer : Transducer
  pub named : Named scene.names scene.trees f base transducer
  pub code_is : (s : ℕ) → code term scene.trees s ≡ define transducer done
  pub tree_is : (s : ℕ) → tree term scene.trees s ≡ leaf s
  pub low : 3 ≤ sp
  pub few : length scene.machine.store + 1 ≤ most_streams

-- its operands have their places there; no form carries data of either base on
pub record Located {f : Form} {sp : ℕ} {env : List ℕ} {buf : List ℤ} {state : Walk} {text : List ℕ} (g : Sole f sp env buf state text) (at : Operands) : Type 0 where
  pub placed : Placed g.scene.machine.store env (signature Int g.transducer).inputs (operands g.transducer) (positions at)

-- an iota over the int x
pub record Counting (x : Variable) (sp : ℕ) (env : List ℕ) (buf : List ℤ) (state : Walk) (text : List ℕ) : Type 0 where
  pub scene : Scene env sp buf state text
  pub pointer : scene.context ∋ int
  pub finds : find x scene.names ≡ found int pointer
  pub low : 6 ≤ sp
  pub few : length scene.machine.store + 4 ≤ most_streams

-- units are the newest stream
pub record Bare (sp : ℕ) (env : List ℕ) (buf : List ℤ) (state : Walk) (text : List ℕ) (m : State) (k : Sink) : Type 0 where
  pub held : Held m buf state.machine
  pub sunk : Sunk k text state.sink
  pub some : 1 ≤ length m.store
  pub few : length m.store + 1 ≤ most_streams
  pub low : 3 ≤ sp
  pub high : sp ≤ length env

-- the sink after a WithCtrl on the newest stream whose body is a Const_1
abbrev pub filling : (s : ℕ) → Sink → Sink
filling s k = closed (defined s (transducer.Const (pos 1)) (opened (s ∷ []) (s - 1) [] k))

-- what that answers and leaves, where it ends like `res`: the ones' place just below sp
pub record Filled (res : Result) (m : State) (k : Sink) (sp : ℕ) (env env' : List ℕ) (old new : List ℤ) (state : Walk) (text : List ℕ) (r : Returned ℕ Refusal) : Type 0 where
  pub went_on : (m' : State) → res ≡ went m'
      → (zs : List ℤ) × (m'.store ≡ m.store ++ ints zs ∷ []) × (r ≡ Ok (length zs)) × Held m' new state.machine × keeps m'.store old new
      × Sunk (filling (length m.store) k) text state.sink × (env' ≡ written (sp - 3) (place_words (place m'.store (length m.store))) env)
  pub gave-up : (why : Stop) (s : ℕ) → res ≡ stopped why s → r ≡ Err (refusal_of why s)

-- flags with id a are the newest stream, and their place stands just below sp
pub record Flagged (a sp : ℕ) (env : List ℕ) (buf : List ℤ) (state : Walk) (text : List ℕ) (m : State) (k : Sink) : Type 0 where
  pub held : Held m buf state.machine
  pub sunk : Sunk k text state.sink
  pub flagged : PlacedAt m.store env Flags a (sp - 3)
  pub newest : length m.store ≡ a + 1
  pub few : length m.store + 3 ≤ most_streams
  pub low : 6 ≤ sp
  pub high : sp ≤ length env

-- iota's code from its flags a on: their units, a one for each of these, and the ones added up
abbrev pub counting_up : (a : ℕ) → Program
counting_up a =
    define (transducer.Usum (id a))
    (controlled (a + 1) (a + 2) (define (transducer.Const (pos 1)) done) (leaf (a + 2)) ⨾ define (transducer.ScanPlus (pos 0) (id a) (id (a + 2))) done)

-- what it answers and leaves, where it ends like `res` and makes the sink k: three more streams, the last of them the ints that were counted, and the flags' place
pub record Counted (res : Result) (k : Sink) (m : State) (sp : ℕ) (env env' : List ℕ) (old new : List ℤ) (state : Walk) (text : List ℕ) (r : Returned ℕ Refusal) : Type 0 where
  pub went_on : (m' : State) → res ≡ went m'
      → (τ : List Stream) × (zs : List ℤ) × (m'.store ≡ m.store ++ τ ++ ints zs ∷ []) × (length τ ≡ 2) × (r ≡ Ok (length zs)) × Held m' new state.machine
      × keeps m'.store old new × Sunk k text state.sink × (drop (sp - 3) env' ≡ drop (sp - 3) env)
  pub gave-up : (why : Stop) (s : ℕ) → res ≡ stopped why s → r ≡ Err (refusal_of why s)
