-- Which bytes spell which formula and which job (01, "The formula and the job"), as a grammar. A record's place is its offset k.
use Rattle.std.specs.Prelude.{ℕ, suc, ◌+◌, ◌*◌, ◌≤◌, ◌<◌, Bool, true, false, List, [], ◌∷◌, ◌++◌, map, ◌≡◌, ℤ, length}
use Rattle.snesl.specs.declared.code.Base.{Base}
use Rattle.snesl.specs.declared.code.Base.TheVariants as base
use Rattle.snesl.specs.declared.code.Operation.{Operation}
use Rattle.snesl.specs.declared.code.Operation.TheVariants.{Plus, LessEqual, Equal}
use Rattle.snesl.specs.declared.code.Variable.{Variable}
use Rattle.snesl.specs.Ascii.{ascii}
use Rattle.snesl.specs.Notation.{IN, IB, VR, LT, KB, IO, PL, LE, EQ, NO, SM, EA, GU}
use Rattle.snesl.specs.Limits.{most_bytes, most_inputs, most_records, most_nesting, most_listed, most_depth, last_variable}
use Rattle.snesl.specs.Values.{Each}
use Rattle.snesl.specs.Records as raw
use Rattle.snesl.specs.Records.{Raw, Input, Span, signed}

-- a byte that names a variable
abbrev pub Names : Variable → Type 0
Names x = x.0 ≤ last_variable

-- the record of a constant bool, and of an operation on two ints
abbrev pub truth_record : Bool → List ℕ
truth_record false = KB 0
truth_record true = KB 1

abbrev pub operation_record : Operation → (x y : ℕ) → List ℕ
operation_record Plus x y = PL x y
operation_record LessEqual x y = LE x y
operation_record Equal x y = EQ x y

-- So many bytes, from offset k on, are expression e in so many records; round each of its records stand fewer LT, EA and GU records than `levels`.
pub data Spells : (levels k : ℕ) → List ℕ → Raw → (records : ℕ) → Type 0 where
  spells-var : {l k : ℕ} {bs : List ℕ} {x : Variable} → bs ≡ VR x.0 → Names x → Spells (suc l) k bs (raw.var k x) 1
  spells-let : {l k n n₁ n₂ : ℕ} {bs bs₁ bs₂ : List ℕ} {x : Variable} {e₁ e₂ : Raw}
      → bs ≡ LT x.0 ++ (bs₁ ++ bs₂)
      → Names x
      → Spells l (k + 3) bs₁ e₁ n₁
      → Spells l (k + 3 + length bs₁) bs₂ e₂ n₂
      → n ≡ 1 + (n₁ + n₂)
      → Spells (suc l) k bs (raw.bind k x e₁ e₂) n
  spells-const : {l k a b c d : ℕ} {bs : List ℕ} {z : ℤ}
      → bs ≡ ascii "KN" ++ a ∷ b ∷ c ∷ d ∷ []
      → z ≡ signed (a + b * 256 + c * 65536 + d * 16777216)
      → Spells (suc l) k bs (raw.const k z) 1
  spells-truth : {l k : ℕ} {bs : List ℕ} {c : Bool} → bs ≡ truth_record c → Spells (suc l) k bs (raw.truth k c) 1
  spells-iota : {l k : ℕ} {bs : List ℕ} {x : Variable} → bs ≡ IO x.0 → Names x → Spells (suc l) k bs (raw.iota k x) 1
  spells-operation : {l k : ℕ} {bs : List ℕ} {o : Operation} {x y : Variable}
      → bs ≡ operation_record o x.0 y.0
      → Names x
      → Names y
      → Spells (suc l) k bs (raw.operation k o x y) 1
  spells-negation : {l k : ℕ} {bs : List ℕ} {x : Variable} → bs ≡ NO x.0 → Names x → Spells (suc l) k bs (raw.negation k x) 1
  spells-sum : {l k : ℕ} {bs : List ℕ} {x : Variable} → bs ≡ SM x.0 → Names x → Spells (suc l) k bs (raw.sum k x) 1
  spells-each : {l k n n₁ : ℕ} {bs bs₁ : List ℕ} {x y : Variable} {us : List Variable} {e : Raw}
      → bs ≡ EA x.0 y.0 (map (λ u. u.0) us) ++ bs₁
      → Names x
      → Names y
      → Each Names us
      → length us ≤ most_listed
      → Spells l (k + (5 + length us)) bs₁ e n₁
      → n ≡ 1 + n₁
      → Spells (suc l) k bs (raw.each k x y us e) n
  spells-guard : {l k n n₁ : ℕ} {bs bs₁ : List ℕ} {g : Variable} {us : List Variable} {e : Raw}
      → bs ≡ GU g.0 (map (λ u. u.0) us) ++ bs₁
      → Names g
      → Each Names us
      → length us ≤ most_listed
      → Spells l (k + (4 + length us)) bs₁ e n₁
      → n ≡ 1 + n₁
      → Spells (suc l) k bs (raw.guard k g us e) n

-- the record of an input: IN for braces round int, IB for braces round bool
abbrev pub input_record : Base → (x depth : ℕ) → List ℕ
input_record base.Int x d = IN x d
input_record base.Bool x d = IB x d

-- input records, at most `left`, from offset k on
pub data SpellsInputs : (left k : ℕ) → List ℕ → List Input → Type 0 where
  inputs-none : {left k : ℕ} → SpellsInputs left k [] []
  inputs-more : {left k : ℕ} {bs rest : List ℕ} {i : Input} {is : List Input}
      → bs ≡ input_record i.base i.name.0 i.depth ++ rest
      → i.place ≡ k
      → Names i.name
      → i.depth ≤ most_depth
      → SpellsInputs left (k + 4) rest is
      → SpellsInputs (suc left) k bs (i ∷ is)

-- VA records, from offset k on: a two-byte length, little-endian, and that many bytes
pub data SpellsTexts : (k : ℕ) → List ℕ → List Span → Type 0 where
  texts-none : {k : ℕ} → SpellsTexts k [] []
  texts-more : {k a b : ℕ} {bs rest : List ℕ} {s : Span} {ss : List Span} (text : List ℕ)
      → bs ≡ (ascii "VA" ++ a ∷ b ∷ []) ++ (text ++ rest)
      → length text ≡ a + b * 256
      → s.start ≡ k + 4
      → s.bytes ≡ length text
      → SpellsTexts (k + 4 + length text) rest ss
      → SpellsTexts k bs (s ∷ ss)

-- a formula at the start of t, its expression from k to `next`, and what follows it
pub record SpellsFront (t : List ℕ) (is : List Input) (k : ℕ) (e : Raw) (next : ℕ) (rest : List ℕ) : Type 0 where
  pub declared : List ℕ
  pub expression : List ℕ
  pub records : ℕ
  pub parts : t ≡ declared ++ (expression ++ rest)
  pub short : length t ≤ most_bytes
  pub inputs : SpellsInputs most_inputs 0 declared is
  pub starts : k ≡ length declared
  pub ends : next ≡ k + length expression
  pub spells : Spells (suc most_nesting) k expression e records
  pub few : records ≤ most_records

-- nothing follows a formula; a job's texts follow it, one for each input
pub record SpellsJob (t : List ℕ) (is : List Input) (k : ℕ) (e : Raw) (next : ℕ) (ss : List Span) : Type 0 where
  pub behind : List ℕ
  pub front : SpellsFront t is k e next behind
  pub texts : SpellsTexts next behind ss
  pub each-has-one : length ss ≡ length is

-- a list of bytes
abbrev pub Bytes : List ℕ → Type 0
Bytes t = Each (λ b. b < 256) t
