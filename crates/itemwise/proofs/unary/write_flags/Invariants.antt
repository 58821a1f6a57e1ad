-- `unary::write_flags`: the flags that are still to come, stored in the output as it is, give all of them.
use Rattle.std.proofs.Common.{◌≡◌, ◌+◌, ◌≤◌, map, length, drop}
use Rattle.std.proofs.Math.Option.{none}
use Rattle.std.proofs.lemmas.List.Edits.{sets}
use Rattle.snesl.specs.Streams.{bit}
use Rattle.snesl.specs.Transducers.{first_negative, unary}
use Rattle.itemwise.proofs.unary.write_flags.Given as goal

abbrev pub invariant-loop-z : goal.invariant-loop-z
invariant-loop-z l =
    (sets l.out l.to (map bit (unary (drop l.z-index l.items))) ≡ sets l.initial.out 0 (map bit (unary l.items)))
    × (l.to + length (unary (drop l.z-index l.items)) ≤ length l.out)
    × (first_negative l.z-index (drop l.z-index l.items) ≡ none)
