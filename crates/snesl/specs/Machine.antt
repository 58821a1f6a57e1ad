-- Running a program (002, Figure 1.3), eagerly, with 001's costs (2.5.2) and 01's room.
use Rattle.std.specs.Prelude.{ℕ, zero, suc, ◌+◌, Bool, true, false, List, [], ◌∷◌, ◌++◌, map, leb, length}
use Rattle.std.proofs.Math.Option.{Option, some, none, get_or}
use Rattle.snesl.specs.declared.code.Transducer.{Transducer}
use Rattle.snesl.specs.Streams.{Stream, ints, bools, flags, units, len, Store, ◌!◌, room}
use Rattle.snesl.specs.Transducers.{made, unfit, negative, outside, apply, operands, empty}
use Rattle.snesl.specs.Programs.{Program, done, define, with_ctrl}

-- the store, and what has been spent on it
pub record State : Type 0 where
  pub store : Store
  pub work : ℕ
  pub steps : ℕ

-- why a run stops before its end: what a transducer met and at which element, or a room that no longer fits
pub data Stop : Type 0 where
  unfitting : ℕ → Stop
  below_zero : ℕ → Stop
  out_of_range : ℕ → Stop
  full : Stop

-- the machine at the end, or why and at which id to be defined it stopped
pub data Result : Type 0 where
  went : State → Result
  stopped : Stop → ℕ → Result

abbrev pub onward : Result → (State → Result) → Result
onward (went m) f = f m
onward (stopped why s) f = stopped why s

unfoldable pub sum_of : List ℕ → ℕ
sum_of [] = zero
sum_of (n ∷ ns) = n + sum_of ns

-- 01, "Charges": the elements of a transducer's listed inputs and of its output. The control stream isn't counted.
abbrev pub work_of : (control : ℕ) (inputs : List Stream) (output : Stream) → ℕ
work_of control inputs output = sum_of (map len inputs) + len output

-- the streams of a list of ids
abbrev pub fetch : Store → List ℕ → List Stream
fetch σ ss = map (λ s. get_or (σ ! s) (units 0)) ss

-- the machine after a transducer under n units made its output
abbrev pub push : Transducer → (n : ℕ) → Stream → State → State
push t n a m =
    record {
      store = m.store ++ a ∷ [];
      work = m.work + work_of n (fetch m.store (operands t)) a;
      steps = m.steps + 1;
    }

-- P-XDUCER. `fits` says of a room whether the stream buffer still holds it; that a transducer has no value is told first.
unfoldable pub step : (fits : ℕ → Bool) → Transducer → ℕ → State → Result
step fits t n m =
    elim (apply t n m.store) [
      | made a ↦
          elim (fits (room (m.store ++ a ∷ []))) [ true ↦ went (push t n a m) | false ↦ stopped full (length m.store) ]
      | unfit k ↦ stopped (unfitting k) (length m.store)
      | negative k ↦ stopped (below_zero k) (length m.store)
      | outside k ↦ stopped (out_of_range k) (length m.store)
    ]

-- the streams of a body that is not run: each ⟨⟩, of the kind that the store before it says
unfoldable pub skipped : Store → Program → List Stream
skipped σ done = []
skipped σ (define t p) = empty σ t ∷ skipped (σ ++ empty σ t ∷ []) p
skipped σ (with_ctrl outs c ins b p) = skipped σ b ++ skipped (σ ++ skipped σ b) p

abbrev pub skip : Program → State → State
skip p m = record { store = m.store ++ skipped m.store p; work = m.work; steps = m.steps }

-- how many units a control stream has
abbrev pub units_of : Option Stream → Option ℕ
units_of none = none
units_of (some (ints zs)) = none
units_of (some (bools cs)) = none
units_of (some (flags bs)) = none
units_of (some (units n)) = some n

-- ⟨p, σ⟩ under n units. P-WC-EMP: under an empty control nothing of the body is run.
unfoldable pub run : (fits : ℕ → Bool) → Program → ℕ → State → Result
run fits done n m = went m
run fits (define t p) n m = onward (step fits t n m) (run fits p n)
run fits (with_ctrl outs c ins b p) n m =
    onward
    (elim (units_of (m.store ! c)) [
      | none ↦ stopped (unfitting 0) (length m.store)
      | some k ↦ elim k [ zero ↦ went (skip b m) | suc j ↦ run fits b (suc j) m ]
    ])
    (run fits p n)

-- a buffer that holds everything
abbrev pub boundless : ℕ → Bool
boundless r = true

-- a buffer with so many elements to use
abbrev pub holding : (cap : ℕ) → ℕ → Bool
holding cap r = leb r cap
