-- A stop of one run is the stop of any run that ends as it does.
use mathlib.Core.Path.{◌≡◌, ◌∙◌}
use Rattle.snesl.specs.declared.refusal.Refusal.{Refusal}
use Rattle.snesl.specs.Machine.{Result}
use Rattle.steps.specs.Holding.{Stopping}

pub stopping-as : {res res' : Result} {q : Refusal} → res' ≡ res → Stopping res q → Stopping res' q
stopping-as e s = record { why = s.why; where-at = s.where-at; stops = e ∙ s.stops; refuses = s.refuses }
