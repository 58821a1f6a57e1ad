-- Every theorem about the rules, by its statement and in words: open this first. The rules stand in specs/, in the paper's order; the functions that they are
-- compared with are those of crate snesl.
use Prim.Native.Nat.{ℕ, ◌+◌}
use mathlib.Core.List.{List, [], ◌∷◌}
use mathlib.Core.Logic.{◌⊎◌, ◌↔◌}
use mathlib.Core.Option.{some, none}
use mathlib.Core.Path.{◌≡◌, refl}
use lib.ListN.{length}
use Rattle.snesl.specs.declared.code.Transducer.{Transducer}
use Rattle.snesl.specs.declared.refusal.Refusal.{Refusal}
use Rattle.snesl.specs.declared.refusal.Refusal.TheVariants.{Unbound, WrongType}
use Rattle.snesl.specs.Values.{ValueType, depth_of, Val}
use Rattle.snesl.specs.Terms.{Term, All}
use Rattle.snesl.specs.Streams.{Stream, Store, ◌!◌}
use Rattle.snesl.specs.Trees.{Tree, IdTree}
use Rattle.snesl.specs.Transducers.{made, apply, operands}
use Rattle.snesl.specs.Programs.{Program, WellFormed, Scoped}
use Rattle.snesl.specs.Machine.{State, went, run, boundless}
use Rattle.snesl.specs.SideCondition.{Proper}
use Rattle.snesl.specs.Ids.{Below}
use Rattle.snesl.specs.Evaluation.{eval}
use Rattle.snesl.specs.Representation.{represent}
use Rattle.snesl.specs.Translation.{size, tree, code}
use Rattle.snesl.specs.Records.{Raw, Input, Span, front, read_formula, job, read_job}
use Rattle.snesl.specs.Checking.{Name, refused, typed, check, context, check_formula}
use Rattle.rules.specs.Names.{Env}
use Rattle.rules.specs.Typing.{Types, types_of, FormulaTypes}
use Rattle.rules.specs.Values.{Value, HasType, plain}
use Rattle.rules.specs.Evaluation.{Evaluates, values_of}
use Rattle.rules.specs.Representation.{Represents}
use Rattle.rules.specs.Xducers.{Xducer, Loops, xducer, Fetches}
use Rattle.rules.specs.Instructions.{Svcode, Stores, Runs, written}
use Rattle.rules.specs.Trees.{STree, plain_tree, trees_of}
use Rattle.rules.specs.Translation.{Translates}
use Rattle.rules.specs.Agreement.{Covers, Ran, Agree, Derived, Translated, Same}
use Rattle.rules.specs.Correctness.{Suits, Correct}
use Rattle.rules.specs.Grammar.{Bytes, SpellsFront, SpellsJob}
use Rattle.rules.proofs.Typing as Typing
use Rattle.rules.proofs.Formulas as Formulas
use Rattle.rules.proofs.Values as Values
use Rattle.rules.proofs.Evaluation as Evaluation
use Rattle.rules.proofs.Representation as Representation
use Rattle.rules.proofs.Xducers.Exactly as Xducers
use Rattle.rules.proofs.Instructions.Running as Running
use Rattle.rules.proofs.Instructions.Deriving as Deriving
use Rattle.rules.proofs.Instructions.Deterministic as Determined
use Rattle.rules.proofs.Instructions.Needed as Needed
use Rattle.rules.proofs.Translation.Deterministic as Deterministic
use Rattle.rules.proofs.Translation.Derived as Translation
use Rattle.rules.proofs.Correctness as Correctness
use Rattle.rules.proofs.Reading.Jobs as Reading

-- 002, Theorem 1.20, from the rules alone. If e has type τ, evaluates to v and is translated to code p with result tree st and ids from s0 up to s1; and each
-- variable's value has its type and is held by its tree, whose ids lie below s0: then p runs under one unit, st holds v in the store at the end, the store
-- below s0 is as it was, s0 ≤ s1, and the ids of st lie below s1.
pub theorem-1-20 : {Γ : Env ValueType} {ρ : Env Value} {δ : Env STree} {σ : Stores} (e : Raw) {τ : ValueType} {s₀ s₁ : ℕ} {v : Value} {p : Svcode} {st : STree}
    → Types Γ e τ
    → Evaluates ρ e v
    → Translates δ e s₀ s₁ p st
    → Suits σ s₀ Γ ρ δ
    → Correct p σ s₀ s₁ st τ v
theorem-1-20 = Correctness.theorem

-- 1. Typing (002, 1.1.2). Checking gives a typed expression exactly where the rules have a derivation, with that type;
module _ {Γ : List ValueType} (scope : All Name Γ) (e : Raw) where
  pub typed-exactly-by-the-rules : (τ : ValueType) → ((t : Term Γ τ) × (check scope e ≡ typed τ t)) ↔ Types (types_of scope) e τ
  typed-exactly-by-the-rules = Typing.typed-exactly scope e

  -- it refuses exactly where there is none, and then by 5 or 6.
  pub refused-exactly-without-a-type : ((why : Refusal) × (check scope e ≡ refused why)) ↔ ((τ : ValueType) → Types (types_of scope) e τ → ⊥)
  refused-exactly-without-a-type = Typing.refused-exactly scope e

  pub refused-by-five-or-six : {why : Refusal} → check scope e ≡ refused why → ((p : ℕ) × (why ≡ Unbound p)) ⊎ ((p : ℕ) × (why ≡ WrongType p))
  refused-by-five-or-six = Typing.refused-by scope e

-- A whole formula is accepted exactly if its inputs have names of their own and its expression has a type over them, and else refused.
module _ (is : List Input) (e : Raw) where
  pub formula-typed-exactly-by-the-rules : (τ : ValueType) → ((t : Term (context is) τ) × (check_formula is e ≡ typed τ t)) ↔ FormulaTypes is e τ
  formula-typed-exactly-by-the-rules = Formulas.formula-typed-exactly is e

  pub formula-refused-exactly-without-a-type : ((why : Refusal) × (check_formula is e ≡ refused why)) ↔ ((τ : ValueType) → FormulaTypes is e τ → ⊥)
  formula-refused-exactly-without-a-type = Formulas.formula-refused-exactly is e

-- Every Γ is that of some names, and an expression has at most one type.
pub every-environment-is-a-scope : (Γ : Env ValueType) → (τs : List ValueType) × (scope : All Name τs) × (types_of scope ≡ Γ)
every-environment-is-a-scope = Typing.scoped

pub one_type : {Γ : Env ValueType} {e : Raw} {υ τ : ValueType} → Types Γ e υ → Types Γ e τ → υ ≡ τ
one_type = Typing.types-once

-- A value has a type exactly if it is one of that type, without it.
pub value-has-type-exactly : (τ : ValueType) (v : Value) → HasType v τ ↔ ((w : Val τ) × (v ≡ plain τ w))
value-has-type-exactly = Values.typed-exactly

-- 2. Evaluation (002, 1.1.3). For an expression that is checked, the rules over names derive exactly the value that `eval` gives,
module _ {Γ : List ValueType} (scope : All Name Γ) (e : Raw) {τ : ValueType} {t : Term Γ τ} (checked : check scope e ≡ typed τ t) (ρ : All Val Γ) where
  pub value-exactly-by-the-rules : (v : Value) → Evaluates (values_of scope ρ) e v ↔ ((w : Val τ) × (eval t ρ ≡ some w) × (v ≡ plain τ w))
  value-exactly-by-the-rules = Evaluation.value-exactly scope e checked ρ

  -- and no value exactly where it gives none.
  pub no-value-exactly-by-the-rules : ((v : Value) → Evaluates (values_of scope ρ) e v → ⊥) ↔ (eval t ρ ≡ none)
  no-value-exactly-by-the-rules = Evaluation.no-value-exactly scope e checked ρ

-- An expression, checked or not, has at most one value.
pub one_value : (e : Raw) (ρ : Env Value) (v w : Value) → Evaluates ρ e v → Evaluates ρ e w → v ≡ w
one_value = Evaluation.evaluates-once

-- 3. Representation (002, 1.4). The rules give a value exactly the streams that `represent` gives it, and no streams to a value of another type.
pub represented-exactly : (τ : ValueType) (v : Value) (w : Tree Stream (depth_of τ)) → Represents τ v w ↔ ((u : Val τ) × (v ≡ plain τ u) × (w ≡ represent τ (u ∷ [])))
represented-exactly = Representation.represents-exactly

-- A value has one tree of streams; 002, Lemma 1.10: a tree of streams is that of one value.
pub one-tree : (τ : ValueType) (v : Value) (w w' : Tree Stream (depth_of τ)) → Represents τ v w → Represents τ v w' → w ≡ w'
one-tree = Representation.one-tree

pub lemma-1-10 : (τ : ValueType) (v v' : Value) (w : Tree Stream (depth_of τ)) → Represents τ v w → Represents τ v' w → v ≡ v'
lemma-1-10 = Representation.one_value

-- 4. Transducers (002, Figures 1.4 and 1.5). On the streams of its operands a transducer makes exactly what the general and block rules give.
pub made-exactly-by-the-rules : (t : Transducer) (n : ℕ) (σ : Store) {xs : List Stream} (a : Stream)
    → Fetches (λ s. σ ! s) (operands t) xs
    → (apply t n σ ≡ made a) ↔ Loops (xducer t) n xs a
made-exactly-by-the-rules = Xducers.apply-exactly

-- 002, Lemma 1.8: a transducer has at most one output.
pub lemma-1-8 : (ψ : Xducer) {n : ℕ} {xs : List Stream} {a b : Stream} → Loops ψ n xs a → Loops ψ n xs b → a ≡ b
lemma-1-8 = Xducers.loops-once

-- 5. Instructions (002, Figure 1.3). What the rules derive for a program with its ids written out, the run does, from any list of streams that has what the
-- mapping has; so a run that stops has no derivation.
pub rules-imply-the-run : (p : Program) (s n : ℕ) (m : State) (σ σ' : Stores) → length m.store ≡ s → Covers σ m.store → Runs (written s p) σ n σ' → Ran p n m σ'
rules-imply-the-run = Running.running

-- What the run does, the rules derive, for code that is well-formed, scoped and proper: the mapping at the end has what the list has at the ids that were
-- known and at those that the code makes known, and below s it is as it was.
pub run-implies-the-rules : (p : Program) (s n : ℕ) (m m' : State) (ids : List ℕ) (σ : Stores)
    → run boundless p n m ≡ went m'
    → WellFormed s p
    → Scoped ids s p
    → Proper p n m
    → length m.store ≡ s
    → Below s ids
    → Agree ids σ m.store
    → Derived p s n ids σ m'
run-implies-the-rules = Deriving.run-derives

-- Well-formed code alone is not enough: code that uses a stream which its WithCtrl does not put out (not scoped), and a WithCtrl that is skipped although a stream
-- that it takes in is not empty (not proper), are well-formed, run, and have no derivation.
pub scoped-is-needed : WellFormed 1 Needed.hidden
    × ((m' : State) × (run boundless Needed.hidden 1 Needed.one_unit ≡ went m'))
    × ((σ' : Stores) → Runs (written 1 Needed.hidden) (Needed.mapping Needed.one_unit) 1 σ' → ⊥)
scoped-is-needed = (Needed.hidden-is-well-formed, Needed.hidden-runs, Needed.hidden-has-no-derivation)

pub proper-is-needed : WellFormed 2 Needed.improper
    × ((m' : State) × (run boundless Needed.improper 1 Needed.no-units ≡ went m'))
    × ((σ' : Stores) → Runs (written 2 Needed.improper) (Needed.mapping Needed.no-units) 1 σ' → ⊥)
proper-is-needed = (Needed.improper-is-well-formed, Needed.improper-runs, Needed.improper-has-no-derivation)

-- 002, Theorem 1.9: code has at most one store at its end, id by id, whether it is well-formed or not.
pub theorem-1-9 : {p : Svcode} {σ σ' σ'' : Stores} {c : ℕ} → Runs p σ c σ' → Runs p σ c σ'' → (u : ℕ) → σ' u ≡ σ'' u
theorem-1-9 h k = Determined.runs-once h k (λ u. refl)

-- 6. Translation (002, 1.3). For a checked expression the rules derive code with the tree of `tree` and as many ids as `size` says; grouped to the right it is
-- the code of `code`;
pub translated-by-the-rules : {Γ : List ValueType} (scope : All Name Γ) (e : Raw) {τ : ValueType} {t : Term Γ τ} → check scope e ≡ typed τ t → (δ : All IdTree Γ) (s : ℕ)
    → Translated (trees_of scope δ) e s (s + size t) (plain_tree (tree t δ s)) (code t δ s)
translated-by-the-rules scope e checked = Translation.translated (Typing.resolved scope e checked)

-- and nothing else.
pub one-translation : (e : Raw) (δ : Env STree) (s₀ s s' : ℕ) (p p' : Svcode) (st st' : STree)
    → Translates δ e s₀ s p st
    → Translates δ e s₀ s' p' st'
    → Same s s' p p' st st'
one-translation = Deterministic.translates-once

-- 7. Reading (01, "The formula and the job"). Bytes are read as a formula exactly if they spell it,
module _ (t : List ℕ) (bytes : Bytes t) {is : List Input} {k : ℕ} {e : Raw} {next : ℕ} where
  pub formula-read-exactly : (read_formula t ≡ front is k e next) ↔ SpellsFront t is k e next []
  formula-read-exactly = Reading.formula-exactly t bytes

  -- and as a job likewise.
  pub job-read-exactly : {ss : List Span} → (read_job t ≡ job is k e next ss) ↔ SpellsJob t is k e next ss
  job-read-exactly = Reading.job-exactly t bytes
