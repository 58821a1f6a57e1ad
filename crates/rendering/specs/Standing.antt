-- Streams of values that stand anywhere in one buffer, each level from its cursor on: level 0 the data, level d the outermost flags.
use Rattle.std.specs.Prelude.{ℕ, zero, suc, List, map, ◌≡◌, ℤ, length, get_or, take, drop}
use Rattle.snesl.specs.declared.code.Base.{Base}
use Rattle.snesl.specs.Values.{type_of, Val}
use Rattle.snesl.specs.Streams.{bit}
use Rattle.snesl.specs.Representation.{concat, segments}
use Rattle.valuetext.specs.Laying.{cells}

-- these elements stand in the buffer from a place on
abbrev pub StandsAt : List ℤ → ℕ → List ℤ → Type 0
StandsAt b at zs = take (length zs) (drop at b) ≡ zs

-- the streams of these values, of base β and depth d, and whatever behind them
unfoldable pub Stands : (β : Base) (d : ℕ) → List ℤ → (cursors : List ℕ) → List (Val (type_of β d)) → Type 0
Stands β zero b cs vs = StandsAt b (get_or cs 0 0) (cells β vs)
Stands β (suc d) b cs vs = Stands β d b cs (concat vs) × StandsAt b (get_or cs (suc d) 0) (map bit (segments vs))
