-- The tree's words move down, and the name goes below them.
use mathlib.Core.Logic.{inr}
use mathlib.Core.Path.{◌∙◌, ap}
use native.Mathlib.Omega.{arith}
use Rattle.laws.specs.Parts.{written}
use Rattle.bodies.proofs.bind_items.Goals as goal

pub move_words-requires : goal.move_words-requires
move_words-requires c = (c.requires.3, omega (arith, c.requires.1, c.requires.2, c.requires.3), inr (omega (arith, c.requires.1, c.requires.2)))

pub bind_tree-requires : goal.bind_tree-requires
bind_tree-requires c = (
  c.requires.0,
  c.requires.1,
  omega (
    arith,
    c.move_words.auto.env,
    c.requires.2,
    c.requires.3,
  ),
)

pub returns : goal.returns
returns c = (c.bind_tree.ensures.0, c.bind_tree.ensures.1 ∙ ap (written _ _) c.move_words.ensures)
