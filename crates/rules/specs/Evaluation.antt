-- The evaluation rules (002, 1.1.3) over names and values of no type, with 01's range and sum. That the rules give no value is that there is no derivation.
use Rattle.std.specs.Prelude.{ℕ, zero, suc, Bool, true, false, not, List, [], ◌∷◌, ◌≡◌, ℤ, pos, ◌+ℤ◌}
use Rattle.snesl.specs.declared.code.Operation.{Operation}
use Rattle.snesl.specs.declared.code.Operation.TheVariants.{Plus, LessEqual, Equal}
use Rattle.snesl.specs.declared.code.Variable.{Variable}
use Rattle.std.specs.Int.Signed.{le_z}
use Rattle.snesl.specs.Values.{ValueType, Val, in_range, equal_z}
use Rattle.snesl.specs.Terms.{All}
use Rattle.snesl.specs.Records as raw
use Rattle.snesl.specs.Records.{Raw}
use Rattle.snesl.specs.Checking.{Name}
use Rattle.rules.specs.Names.{Env, named, Maps, MapsAll, Listed, env_of}
use Rattle.rules.specs.Typing.{BuiltIn, const, truth, iota, operation, negation, sum, Calls}
use Rattle.rules.specs.Values.{Value, Values, int, bool, braces, empty, item, plain}

-- k, k + 1, .., n of them, each in range
pub data Counts : ℕ → ℕ → Values → Type 0 where
  counts-none : {k : ℕ} → Counts k zero empty
  counts-more : {k n : ℕ} {vs : Values} → in_range (pos k) ≡ true → Counts (suc k) n vs → Counts k (suc n) (item (int (pos k)) vs)

-- n1 + .. + nk
pub data Totals : Values → ℤ → Type 0 where
  totals-none : Totals empty (pos 0)
  totals-more : {n m total : ℤ} {vs : Values} → Totals vs m → total ≡ n +ℤ m → Totals (item (int n) vs) total

-- n1 ⊕ n2 = v, for ⊕ one of +, <= and ==
pub data Operates : Operation → ℤ → ℤ → Value → Type 0 where
  operates-plus : {n₁ n₂ n₃ : ℤ} → n₃ ≡ n₁ +ℤ n₂ → in_range n₃ ≡ true → Operates Plus n₁ n₂ (int n₃)
  operates-less_equal : {n₁ n₂ : ℤ} {c : Bool} → c ≡ le_z n₁ n₂ → Operates LessEqual n₁ n₂ (bool c)
  operates-equal : {n₁ n₂ : ℤ} {c : Bool} → c ≡ equal_z n₁ n₂ → Operates Equal n₁ n₂ (bool c)

-- φ(v1, .., vk) ↓ v
pub data Gives : BuiltIn → List Value → Value → Type 0 where
  gives-const : {n : ℤ} → Gives (const n) [] (int n)
  gives-truth : {c : Bool} → Gives (truth c) [] (bool c)
  gives-iota : {n : ℕ} {vs : Values} → Counts 0 n vs → Gives iota (int (pos n) ∷ []) (braces vs)
  gives-operation : {o : Operation} {n₁ n₂ : ℤ} {v : Value} → Operates o n₁ n₂ v → Gives (operation o) (int n₁ ∷ int n₂ ∷ []) v
  gives-negation : {c d : Bool} → d ≡ not c → Gives negation (bool c ∷ []) (bool d)
  gives-sum : {vs : Values} {n : ℤ} → Totals vs n → in_range n ≡ true → Gives sum (braces vs ∷ []) (int n)

-- n, T or F
pub data Scalar : Value → Type 0 where
  number : {n : ℤ} → Scalar (int n)
  truth-value : {c : Bool} → Scalar (bool c)

-- a guard lists variables of whatever value
abbrev pub AnyValue : Value → Type 0
AnyValue v = Unit

-- ρ ⊢ e ↓ v, and the same of a body for each item of a sequence
mutual
  pub data Evaluates : Env Value → Raw → Value → Type 0 where
    evaluates-var : {ρ : Env Value} {p : ℕ} {x : Variable} {v : Value} → Maps ρ x v → Evaluates ρ (raw.var p x) v
    evaluates-let : {ρ : Env Value} {p : ℕ} {x : Variable} {e₁ e₂ : Raw} {v₁ v : Value}
        → Evaluates ρ e₁ v₁
        → Evaluates (named x v₁ ρ) e₂ v
        → Evaluates ρ (raw.bind p x e₁ e₂) v
    evaluates-call : {ρ : Env Value} {e : Raw} {φ : BuiltIn} {xs : List Variable} {vs : List Value} {v : Value}
        → Calls e φ xs
        → MapsAll ρ xs vs
        → Gives φ vs v
        → Evaluates ρ e v
    evaluates-each : {ρ inside : Env Value} {p : ℕ} {x y : Variable} {us : List Variable} {e : Raw} {vs ws : Values}
        → Maps ρ y (braces vs)
        → Listed Scalar ρ us inside
        → EvaluatesEach x inside e vs ws
        → Evaluates ρ (raw.each p x y us e) (braces ws)
    evaluates-guard-T : {ρ inside : Env Value} {p : ℕ} {g : Variable} {us : List Variable} {e : Raw} {v : Value}
        → Maps ρ g (bool true)
        → Listed AnyValue ρ us inside
        → Evaluates inside e v
        → Evaluates ρ (raw.guard p g us e) (braces (item v empty))
    evaluates-guard-F : {ρ : Env Value} {p : ℕ} {g : Variable} {us : List Variable} {e : Raw} → Maps ρ g (bool false) → Evaluates ρ (raw.guard p g us e) (braces empty)

  pub data EvaluatesEach : Variable → Env Value → Raw → Values → Values → Type 0 where
    evaluates-none : {x : Variable} {ρ : Env Value} {e : Raw} → EvaluatesEach x ρ e empty empty
    evaluates-more : {x : Variable} {ρ : Env Value} {e : Raw} {v w : Value} {vs ws : Values}
        → Evaluates (named x v ρ) e w
        → EvaluatesEach x ρ e vs ws
        → EvaluatesEach x ρ e (item v vs) (item w ws)

-- the ρ of names and their values
abbrev pub values_of : {Γ : List ValueType} → All Name Γ → All Val Γ → Env Value
values_of scope ρ = env_of plain scope ρ
