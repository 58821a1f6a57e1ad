-- What a transducer uses: so its name and the list of its operands are short.
use Rattle.std.specs.Prelude.{ℕ, ◌≤◌, List, [], ◌∷◌, ◌≡◌, length}
use Rattle.snesl.specs.declared.code.Transducer.{Transducer}
use Rattle.snesl.specs.Transducers.{operands}
use Rattle.snesl.specs.Listing.{name_text, ids_text}
use Rattle.sink.specs.declared.uses.Used.{Used}
use Rattle.sink.specs.declared.uses.Used.TheVariants.{Nothing, One, Two}

abbrev pub used_ids : Used → List ℕ
used_ids Nothing = []
used_ids (One a) = a.0 ∷ []
used_ids (Two a b) = a.0 ∷ b.0 ∷ []

pub record Operates (t : Transducer) (r : Used) : Type 0 where
  pub ids : used_ids r ≡ operands t
  pub name : length (name_text t) ≤ 32
  pub list : length (ids_text (operands t)) ≤ 44

-- no line of a definition or a closing is longer
abbrev pub longest : ℕ
longest = 128
