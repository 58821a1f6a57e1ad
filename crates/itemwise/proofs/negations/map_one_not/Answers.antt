-- `negations::map_one_not`: where the streams fit and there is room, what `negate` left.
use Rattle.std.proofs.Common.{◌≡◌, ℕ, ◌≤◌, List, map, not, length, ℤ, Ok, refl, ◌∙◌}
use Rattle.std.proofs.Math.Option.{none}
use Rattle.std.proofs.lemmas.List.Edits.{sets}
use lib.ListN.{length-map}
use Rattle.snesl.specs.Streams.{bit, bools}
use Rattle.snesl.specs.Transducers.{bool_of, length_misfit, map_one_not, outside}
use Rattle.streams.specs.Answers.{Answers}
use Rattle.streams.proofs.Ending.{makes}
use Rattle.itemwise.proofs.Lengths.{Fit, fit}
use Rattle.itemwise.proofs.negations.map_one_not.Goals as goal

wrote : (zs old : List ℤ) (n : ℕ) {new : List ℤ} → Fit n (length zs) (length zs) → n ≤ length old → new ≡ sets old 0 (map bit (map not (map bool_of zs))) →
    Answers old (map_one_not n (map bool_of zs)) (Ok n) new
wrote zs old n f h w =
    let l : length (map bool_of zs) ≡ length zs = length-map zs bool_of in
    let m : length (map not (map bool_of zs)) ≡ n = length-map (map bool_of zs) not ∙ l ∙ f.first in
    makes (length_misfit n (length (map bool_of zs)) (length (map bool_of zs))) none outside (bools (map not (map bool_of zs))) old n
    ((λ i. length_misfit n (l i) (l i)) ∙ f.whole) refl m (length-map (map not (map bool_of zs)) bit ∙ m) h w

pub returns : goal.returns
returns c =
    let a = c.args in
    wrote a.bools.now a.out.now a.n (fit a.n (length a.bools.now) (length a.bools.now) c.in_ok-lengths.ensures) c.if-out-n.false c.negate.ensures
