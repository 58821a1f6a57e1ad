-- Each element is a flag, in one way of saying it and the other.
use Rattle.std.proofs.Common.{◌≡◌, List, [], ◌∷◌, Bool, ◌&&◌, ℤ, refl, ap, ◌∙◌, rules, tests}
use Rattle.std.specs.List.{list_all}
use Rattle.std.proofs.lemmas.Iterator.{YieldsList-from_slice}
use Rattle.std.proofs.lemmas.Iterator.Search.{all_from_yields_List}
use Rattle.snesl.specs.Transducers.{flag_of}
use Rattle.snesl.specs.Representation.{is_flag, are_elements}
use Rattle.rendering.specs.Fitting.{bools_fit}
use Rattle.rendering.proofs.fitting.are_bools.Goals as goal

abbrev is_bool : ℤ → Bool
is_bool z = is_flag (flag_of z)

each-bool : (zs : List ℤ) → list_all is_bool zs ≡ bools_fit zs
unfolding are_elements
each-bool [] = refl
each-bool (z ∷ zs) = ap (λ b. is_bool z && b) (each-bool zs)

pub returns : goal.returns
returns c = all_from_yields_List is_bool _ _ _ c.all.ensures.ran (YieldsList-from_slice c.args.elements.now cc) (λ x b q k. (refl, search (rules, tests))) ∙ each-bool c.args.elements.now
