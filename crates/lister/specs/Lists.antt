-- What `list` answers, and what stands in the slice lent then.
use Rattle.std.specs.Prelude.{ℕ, suc, ◌+◌, ◌*◌, ◌-◌, ◌≤◌, List, [], ◌∷◌, ◌++◌, ◌≡◌, length, drop, Result, Ok, Err}
use Rattle.snesl.specs.Limits.{most_nesting, most_bytes}
use Rattle.snesl.specs.Values.{ValueType, depth_of}
use Rattle.snesl.specs.Terms.{Term, All}
use Rattle.snesl.specs.Trees.{IdTree, map_tree}
use Rattle.snesl.specs.Streams.{Store, bare}
use Rattle.snesl.specs.declared.code.Kind.{Kind}
use Rattle.snesl.specs.declared.refusal.Refusal.{Refusal}
use Rattle.snesl.specs.Translation.{tree, code}
use Rattle.snesl.specs.Records.{Input, Raw, front, read_formula}
use Rattle.snesl.specs.Checking.{Name, context, typed, check_formula}
use Rattle.snesl.specs.Formed.{Formed}
use Rattle.snesl.specs.Listing as listing
use Rattle.snesl.specs.Listing.{lines_of, result_line}
use Rattle.decimals.specs.Writing.{Writes}
use Rattle.environment.specs.Words.{spelled, tree_words, tree_size}
use Rattle.environment.specs.Needs.{words}
use Rattle.sink.specs.Sinks.{far}
use Rattle.sink.specs.Trees.{Placing}
use Rattle.steps.specs.Holding.{most_streams}
use Rattle.leaves.specs.Places.{Shaped, Shallow}
use Rattle.lister.specs.Inputs.{places_in}
use Rattle.lister.specs.declared.list.Lines.{Lines}

-- every stream is empty
pub data Bare : Store → Type 0 where
  bare-none : Bare []
  bare-more : {σ : Store} → (k : Kind) → Bare σ → Bare (bare k ∷ σ)

abbrev pub whole_text : {Γ : List ValueType} {τ : ValueType} → Term Γ τ → All IdTree Γ → ℕ → List ℕ
whole_text e δ s = lines_of s (code e δ s) ++ result_line (tree e δ s)

-- An expression at k whose code's ids start at s, over inputs that are empty streams; its whole text is written before the far end.
pub record WholeReady (t : List ℕ) (k : ℕ) (env : List ℕ) (sp s : ℕ) : Type 0 where
  pub context : List ValueType
  pub names : All Name context
  pub trees : All IdTree context
  pub type : ValueType
  pub term : Term context type
  pub next : ℕ
  pub formed : Formed t (suc most_nesting) k context names type term next
  pub store : Store
  pub bare : Bare store
  pub number : length store ≡ s
  pub spells : drop sp env ≡ spelled names (places_in trees)
  pub shaped : Shaped store context trees
  pub shallow : Shallow context
  pub within : sp ≤ length env
  pub space : words term ≤ sp
  pub small : length env ≤ 65536
  pub short : length t ≤ most_bytes
  pub few : s + 25 * (length t - k) ≤ most_streams
  pub near : length (whole_text term trees s) ≤ far

-- the expression's lines are written from the start on, and its tree stands below sp
pub record Lined {t : List ℕ} {k : ℕ} {env : List ℕ} {sp s : ℕ} (g : WholeReady t k env sp s) (env' text text' : List ℕ) (r : Lines) : Type 0 where
  pub depth : r.depth ≡ depth_of g.type
  pub writes : Writes text text' 0 (lines_of s (code g.term g.trees s)) r.at
  pub placing : Placing
  pub words : drop (sp - tree_size (depth_of g.type)) env' ≡ tree_words (map_tree placing.place (tree g.term g.trees s)) ++ drop sp env

-- a formula that was read and checked, where so many words are enough for its inputs' bindings, 29 each, and the walk of its expression
pub record Found (t : List ℕ) (inputs expression enough : ℕ) : Type 0 where
  pub all : List Input
  pub raw : Raw
  pub next : ℕ
  pub type : ValueType
  pub term : Term (context all) type
  pub read : read_formula t ≡ front all expression raw next
  pub checked : check_formula all raw ≡ typed type term
  pub number : length all ≡ inputs
  pub room : words term + 29 * inputs ≤ enough

abbrev pub listed_answer : listing.Listed → Result ℕ Refusal
listed_answer (listing.unlisted r) = Err r
listed_answer (listing.listed text) = Ok (length text)

abbrev pub text_after : List ℕ → listing.Listed → List ℕ
text_after old (listing.unlisted r) = old
text_after old (listing.listed text) = text ++ drop (length text) old
