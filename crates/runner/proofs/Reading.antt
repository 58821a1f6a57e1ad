-- What was found where an int, a bool, a sequence or a sequence of ints was.
use mathlib.Core.List.{List}
use mathlib.Core.Option.{some}
use mathlib.Core.Path.{◌≡◌, ap}
use Rattle.laws.proofs.Never.{never}
use Rattle.snesl.specs.declared.code.Base.TheVariants as base
use Rattle.snesl.specs.Values.{ValueType, scalar, braces, int, bool}
use Rattle.snesl.specs.Terms.{◌∋◌}
use Rattle.snesl.specs.Checking.{Found, missing, found, as_scalar, as_int, as_bool, as_ints, Sequence, no_sequence, sequence, as_sequence}

pub found-int : {Γ : List ValueType} {v : Γ ∋ int} → (f : Found Γ) → as_int (as_scalar f) ≡ some v → f ≡ found int v
found-int missing e = never (cc)
found-int (found (scalar base.Int) x) e = cc
found-int (found (scalar base.Bool) x) e = never (cc)
found-int (found (braces τ) x) e = never (cc)

pub found-bool : {Γ : List ValueType} {v : Γ ∋ bool} → (f : Found Γ) → as_bool (as_scalar f) ≡ some v → f ≡ found bool v
found-bool missing e = never (cc)
found-bool (found (scalar base.Int) x) e = never (cc)
found-bool (found (scalar base.Bool) x) e = cc
found-bool (found (braces τ) x) e = never (cc)

abbrev found_in : {Γ : List ValueType} → Sequence Γ → Found Γ
found_in no_sequence = missing
found_in (sequence υ v) = found (braces υ) v

pub found-sequence : {Γ : List ValueType} {υ : ValueType} {v : Γ ∋ braces υ} → (f : Found Γ) → as_sequence f ≡ sequence υ v → f ≡ found (braces υ) v
found-sequence missing e = never (cc)
found-sequence (found (scalar b) x) e = never (cc)
found-sequence (found (braces τ) x) e = ap found_in e

pub found-ints : {Γ : List ValueType} {v : Γ ∋ braces int} → (f : Found Γ) → as_ints (as_sequence f) ≡ some v → f ≡ found (braces int) v
found-ints missing e = never (cc)
found-ints (found (scalar b) x) e = never (cc)
found-ints (found (braces (scalar base.Int)) x) e = cc
found-ints (found (braces (scalar base.Bool)) x) e = never (cc)
found-ints (found (braces (braces τ)) x) e = never (cc)
