-- Where an input's record stands, and what it says (01, "The formula and the job"; 02, request 1).
use Rattle.std.specs.Prelude.{ℕ, ◌*◌, Bool, true, false, List, eqb}
use Rattle.std.specs.Prelude as prelude
use Rattle.std.proofs.Math.Option.{Option, some, none}
use Rattle.snesl.specs.declared.code.Base.{Base}
use Rattle.snesl.specs.declared.code.Base.TheVariants as base
use Rattle.snesl.specs.Records.{Input, mark_at, mark_ib, input_base}
use Rattle.formula.specs.declared.inputs.Declaration.{Declaration}

abbrev pub input_place : (input : ℕ) → ℕ
input_place input = 4 * input

-- Rust's option of the base that a mark declares
abbrev pub base_option : Option Base → prelude.Option Base
base_option (some b) = prelude.Some b
base_option none = prelude.None

-- does the mark declare an input?
abbrev pub is_input : (mark : ℕ) → Bool
is_input m = elim (input_base m) [ some b ↦ true | none ↦ false ]

-- the base that an input's mark declares; of any other mark nobody asks (proofs/Declaring, `base-is`)
abbrev pub base_of_mark : (mark : ℕ) → Base
base_of_mark m = elim (eqb m mark_ib) [ true ↦ base.Bool | false ↦ base.Int ]

abbrev pub base_at : List ℕ → ℕ → Base
base_at t k = base_of_mark (mark_at t k)

abbrev pub declaration_of : Input → Declaration
declaration_of i = record { place = i.place; name = i.name; base = i.base; depth = i.depth }
