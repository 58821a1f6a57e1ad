-- `packs::keep`: the stores that are still to come, done on the output as it is, give the whole run of stores.
use Rattle.std.proofs.Common.{◌≡◌, ◌+◌, ◌≤◌, map, length, drop}
use Rattle.std.proofs.lemmas.List.Edits.{sets}
use Rattle.snesl.specs.Transducers.{bool_of, kept}
use Rattle.itemwise.proofs.packs.keep.Given as goal

abbrev pub invariant-loop-i : goal.invariant-loop-i
invariant-loop-i l =
    (sets l.out l.to (kept (map bool_of (drop l.i l.bools)) (drop l.i l.items)) ≡ sets l.initial.out 0 (kept (map bool_of l.bools) l.items))
    × (l.to + length (kept (map bool_of (drop l.i l.bools)) (drop l.i l.items)) ≤ length l.out)
