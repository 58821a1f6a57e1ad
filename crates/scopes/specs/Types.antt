-- A type as the code holds it: its base and how many braces stand round it.
use Rattle.std.specs.Prelude.{Bool, true, false, ◌&&◌, eqb}
use Rattle.snesl.specs.declared.code.Base.{Base}
use Rattle.snesl.specs.declared.code.Base.TheVariants as base
use Rattle.snesl.specs.Values as values
use Rattle.snesl.specs.Values.{base_of, depth_of}
use Rattle.scopes.specs.declared.types.ValueType.{ValueType}

abbrev pub told : values.ValueType → ValueType
told τ = record { base = base_of τ; depth = depth_of τ }

-- so many braces round the other base are another type
abbrev pub same_base : Base → Base → Bool
same_base base.Int base.Int = true
same_base base.Int base.Bool = false
same_base base.Bool base.Int = false
same_base base.Bool base.Bool = true

abbrev pub same_type : ValueType → ValueType → Bool
same_type a b = same_base a.base b.base && eqb a.depth b.depth
