-- A scalar is one element of the data.
use mathlib.Core.Path.{refl}
use native.Mathlib.Omega.{arith}
use borrow.Author.Rules.{sfits_of}
use Rattle.rendering.proofs.WritingSteps.{leaf-head, leaf-short, leaf-shown}
use Rattle.rendering.proofs.writing.write_leaf.Goals as goal

pub overflow_add-cursors : goal.overflow_add-cursors
overflow_add-cursors c = omega (arith, (leaf-head c.requires).inside, c.well_formed.0.0)

pub offset_bounds-elements-c : goal.offset_bounds-elements-c
offset_bounds-elements-c c = omega (arith, (leaf-head c.requires).inside, c.well_formed.0.1)

pub bounds-elements-c : goal.bounds-elements-c
bounds-elements-c c = (leaf-head c.requires).inside

pub write_scalar-requires : goal.write_scalar-requires
write_scalar-requires c = leaf-short c.requires

pub returns : goal.returns
returns c = leaf-shown c.requires (sfits_of c.z-1.given) c.write_scalar.ensures refl
