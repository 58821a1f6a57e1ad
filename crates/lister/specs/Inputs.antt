-- A formula's inputs as bindings on the stack of words.
use Rattle.std.specs.Prelude.{ℕ, ◌+◌, ◌*◌, ◌≤◌, List, ◌≡◌, length, drop}
use Rattle.snesl.specs.Values.{ValueType}
use Rattle.snesl.specs.Terms.{All, ∅, ◌▹◌}
use Rattle.snesl.specs.Limits.{most_inputs}
use Rattle.snesl.specs.Records.{Input, declared, inputs_at}
use Rattle.snesl.specs.Checking.{turned, input_types, input_names}
use Rattle.snesl.specs.Inputs.{input_trees, input_start}
use Rattle.snesl.specs.Trees.{Tree, IdTree, map_tree}
use Rattle.environment.specs.Words.{Place, PlaceTree, spelled}
use Rattle.lister.specs.declared.inputs.Inputs.{Inputs}

-- the place of a stream in a listing, where every stream is empty
abbrev pub placed : ℕ → Place
placed s = record { id = s; first = 0; second = 0 }

abbrev pub places_of : {d : ℕ} → Tree ℕ d → Tree Place d
places_of t = map_tree placed t

unfoldable pub places_in : {Γ : List ValueType} → All IdTree Γ → All PlaceTree Γ
places_in ∅ = ∅
places_in (t ▹ δ) = places_of t ▹ places_in δ

-- the bytes declare so many inputs, and there is room for their bindings: 29 words each, as many as one of depth 8 takes
pub record Declares (t : List ℕ) (inputs : ℕ) (env : List ℕ) : Type 0 where
  pub all : List Input
  pub end : ℕ
  pub read : inputs_at most_inputs t 0 ≡ declared all end
  pub number : length all ≡ inputs
  pub room : 29 * inputs ≤ length env
  pub small : length env ≤ 65536

pub record Enters {t : List ℕ} {inputs : ℕ} {env : List ℕ} (g : Declares t inputs env) (new : List ℕ) (r : Inputs) : Type 0 where
  pub spells : drop r.sp new ≡ spelled (turned ∅ (input_names g.all)) (places_in (turned ∅ (input_trees 0 (input_types g.all))))
  pub id : r.id ≡ input_start (input_types g.all)
  pub room : length env ≤ r.sp + 29 * inputs
  pub within : r.sp ≤ length env
