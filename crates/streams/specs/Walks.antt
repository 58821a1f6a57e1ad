-- What the functions behind the transducers answer: the small tests that they share.
use Rattle.std.specs.Prelude as rust
use Rattle.std.specs.Prelude.{ℕ, Bool, true, false, ◌&&◌, List, [], ◌∷◌, ℤ, Result, Ok, Err}
use Rattle.std.proofs.Math.Option.{Option, some, none}
use Rattle.snesl.specs.Values.{in_range}
use Rattle.streams.specs.declared.fit.Turn.{Turn}
use Rattle.streams.specs.declared.output.Failure.{Failure}
use Rattle.streams.specs.declared.output.Failure.TheVariants.{Negative, Outside, NoRoom}

-- whether there is an element at which something is wrong, and what
abbrev pub told : (why : ℕ → Failure) → Option ℕ → Result (Unit {0}) Failure
told why none = Ok tt
told why (some k) = Err (why k)

-- where there is no room
abbrev pub told_negative : Option ℕ → Failure
told_negative none = NoRoom
told_negative (some k) = Negative k

abbrev pub told_outside : Option ℕ → Failure
told_outside none = NoRoom
told_outside (some k) = Outside k

-- a flag that takes an item or not, where one is left or not
abbrev pub taking : (takes left : Bool) (ended : ℕ) → rust.Option Turn
taking false left ended = rust.Some (record { taken = 0; ended = ended })
taking true true ended = rust.Some (record { taken = 1; ended = ended })
taking true false ended = rust.None

-- a flag, if it is one, where a segment is due or not
abbrev pub steps : rust.Option Bool → (due left f t : Bool) → rust.Option Turn
steps b false left f t = rust.None
steps (rust.Some false) true left f t = taking f left 0
steps (rust.Some true) true left f t = taking t left 1
steps rust.None true left f t = rust.None

-- how many items so many F's and T's take
abbrev pub wanted_by : (f t : Bool) (fs ts : ℕ) → ℕ
wanted_by true t fs ts = fs
wanted_by false true fs ts = ts
wanted_by false false fs ts = 0

-- whether every exact result is in range
unfoldable pub all_inside : List (ℕ × ℤ) → Bool
all_inside [] = true
all_inside (r ∷ rs) = in_range r.1 && all_inside rs
